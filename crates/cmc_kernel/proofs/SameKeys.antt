-- The test on two keys decides whether they are one.
use Rattle.std.proofs.Common.{◌≡◌, ◌==◌, true, refl, subst}
use Rattle.std.specs.Bool.{Decides}
use Rattle.std.proofs.lemmas.Bool.{and_parts, and_from}
use Rattle.std.proofs.lemmas.Bool.Decides.{Decides-eqb}
use Rattle.std.proofs.lemmas.Slice.Eq.{bytes_eq-Decides}
use Rattle.cmc_meta.specs.declared.key.Key.{Key}
use Rattle.cmc_meta.specs.declared.key.Kind.{Kind}
use Rattle.cmc_meta.specs.declared.key.Kind.TheVariants.{Certificate, CertificateRequest, Secret}
use Rattle.cmc_meta.specs.Keys.{kind_rank, key_eq}

-- ---- keys

kind_of_rank : (a b : Kind) → kind_rank a ≡ kind_rank b → a ≡ b
kind_of_rank Certificate Certificate h = refl
kind_of_rank Certificate CertificateRequest h = absurd (cc)
kind_of_rank Certificate Secret h = absurd (cc)
kind_of_rank CertificateRequest Certificate h = absurd (cc)
kind_of_rank CertificateRequest CertificateRequest h = refl
kind_of_rank CertificateRequest Secret h = absurd (cc)
kind_of_rank Secret Certificate h = absurd (cc)
kind_of_rank Secret CertificateRequest h = absurd (cc)
kind_of_rank Secret Secret h = refl

-- the test on kinds decides
pub same_kind : (a b : Kind) → (kind_rank a == kind_rank b) ≡ true → a ≡ b
same_kind a b e = kind_of_rank a b ((Decides-eqb (kind_rank a) (kind_rank b)).0 e)

-- the test on keys decides
pub same_key : (a b : Key) → key_eq a b ≡ true → a ≡ b
same_key a b e =
    let one = and_parts _ _ e in
    let two = and_parts _ _ one.1 in
    let kind : a.kind ≡ b.kind = same_kind a.kind b.kind one.0 in
    let namespace : a.namespace ≡ b.namespace = (bytes_eq-Decides a.namespace b.namespace).0 two.0 in
    let name : a.name ≡ b.name = (bytes_eq-Decides a.name b.name).0 two.1 in
    λ i. record { kind = kind i; namespace = namespace i; name = name i }

pub key_eq-refl : (a : Key) → key_eq a a ≡ true
key_eq-refl a =
    and_from _ _ ((Decides-eqb (kind_rank a.kind) (kind_rank a.kind)).1 refl)
    (and_from _ _ ((bytes_eq-Decides a.namespace a.namespace).1 refl) ((bytes_eq-Decides a.name a.name).1 refl))

pub key_eq-Decides : (a b : Key) → Decides (key_eq a b) (a ≡ b)
key_eq-Decides a b = (same_key a b, λ same. subst (λ (k : Key). key_eq a k ≡ true) same (key_eq-refl a))
