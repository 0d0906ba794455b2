-- The test of two public keys says whether they are one.
use Rattle.std.proofs.Common.{◌≡◌, ℕ, Bool, true, false, List, Option, Some, None, refl, ap, subst}
use Rattle.std.specs.Prelude.{◌↔◌, ◌&&◌, IsTrue}
use Rattle.std.proofs.lemmas.Bool.{and_from, eqb-true, eq-eqb, false≢true, and_parts}
use Rattle.std.proofs.lemmas.Bool.Decides.{same_from_decides}
use Rattle.std.proofs.lemmas.Slice.Eq.{bytes_eq-Decides}
use Rattle.cmc_der.specs.declared.fields.KeyKind.{KeyKind}
use Rattle.cmc_der.specs.declared.fields.KeyKind.TheVariants.{Rsa, P256, P384, P521}
use Rattle.cmc_der.specs.Keys.{PublicKey, RsaKey, EcKey, OtherKey, same_kind}
use Rattle.cmc_objects.specs.KeyPairs.{is_one_key, key_read, pair_of, pair_with_key}

kind_found : (a b : KeyKind) → same_kind a b ≡ true → a ≡ b
kind_found (Rsa m) (Rsa n) h = ap Rsa (eqb-true m n h)
kind_found P256 P256 h = refl
kind_found P384 P384 h = refl
kind_found P521 P521 h = refl
kind_found a b h = absurd (false≢true h)

kind_itself : (a : KeyKind) → same_kind a a ≡ true
kind_itself (Rsa m) = eq-eqb m m refl
kind_itself P256 = refl
kind_itself P384 = refl
kind_itself P521 = refl

rsa_same : (m e n f : List ℕ) → m ≡ n → e ≡ f → RsaKey m e ≡ RsaKey n f
rsa_same m e n f h k = cc

ec_same : (c : KeyKind) (p : List ℕ) (d : KeyKind) (q : List ℕ) → c ≡ d → p ≡ q → EcKey c p ≡ EcKey d q
ec_same c p d q h k = cc

pub key_found : (a b : PublicKey) → is_one_key a b ≡ true → a ≡ b
unfolding is_one_key
key_found (RsaKey m e) (RsaKey n f) h = rsa_same m e n f ((bytes_eq-Decides m n).0 (and_parts _ _ h).0) ((bytes_eq-Decides e f).0 (and_parts _ _ h).1)
key_found (EcKey c p) (EcKey d q) h = ec_same c p d q (kind_found c d (and_parts _ _ h).0) ((bytes_eq-Decides p q).0 (and_parts _ _ h).1)
key_found (OtherKey w) (OtherKey v) h = ap OtherKey ((bytes_eq-Decides w v).0 h)
key_found a b h = absurd (false≢true h)

pub key_itself : (a : PublicKey) → is_one_key a a ≡ true
unfolding is_one_key
key_itself (RsaKey m e) = and_from _ _ ((bytes_eq-Decides m m).1 refl) ((bytes_eq-Decides e e).1 refl)
key_itself (EcKey c p) = and_from _ _ (kind_itself c) ((bytes_eq-Decides p p).1 refl)
key_itself (OtherKey w) = (bytes_eq-Decides w w).1 refl

pub key_again : (a b : PublicKey) → a ≡ b → is_one_key a b ≡ true
key_again a b e = let P : PublicKey → Type 0 = λ k. is_one_key a k ≡ true in subst P e (key_itself a)

-- what says whether two keys are equal gives the test's value
pub key_value : (r : Bool) (a b : PublicKey) → IsTrue r ↔ (a ≡ b) → r ≡ is_one_key a b
key_value r a b h = same_from_decides r (is_one_key a b) h (key_found a b, key_again a b)

by_key_read : (key certificate : Option (List ℕ)) → pair_of key certificate ≡ pair_with_key (key_read key) certificate
by_key_read None None = refl
by_key_read None (Some certificate) = refl
by_key_read (Some key) None = refl
by_key_read (Some key) (Some certificate) = refl

-- a pair is told by the public key that was read of the key file
pub pair_by_read : (key certificate : Option (List ℕ)) (public : Option PublicKey) → public ≡ key_read key → pair_of key certificate ≡ pair_with_key public certificate
pair_by_read key certificate public e = rw (e) (by_key_read key certificate)
