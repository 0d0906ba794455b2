-- What the column notes of an object that changes.
use Rattle.std.proofs.Common.{◌≡◌, ℕ, List, ◌∷◌, Bool, true, Option, Some, sym, ap, ◌∙◌, subst}
use Rattle.std.proofs.lemmas.Bool.{and_parts}
use Rattle.std.proofs.lemmas.Slice.Eq.{bytes_eq-Decides}
use Rattle.std.specs.Cmp.{tied_itself}
use Rattle.std.specs.Ordering.{is_eq}
use Rattle.std.specs.Str.{bytes_eq}
use Rattle.std.specs.Prelude.{if◌then◌else◌}
use Rattle.cmc_meta.specs.declared.key.Key.{Key}
use Rattle.cmc_meta.specs.Keys.{key_eq}
use Rattle.cmc_meta.proofs.KeyOrder.{key_cmp-total}
use Rattle.cmc_objects.specs.declared.certificate.Certificate.{Certificate}
use Rattle.cmc_objects.specs.declared.object.Object.{Object}
use Rattle.cmc_objects.specs.declared.object.Object.TheVariants.{Cert}
use Rattle.cmc_informer.specs.Caches.{is_owned_by, secret_key}
use Rattle.cmc_informer.proofs.OneMark.{key_tie}
use Rattle.cmc_caches.specs.Affected.{is_uid_among, owner_uids_of}
use Rattle.cmc_caches.specs.Board.{SecretName, is_of_secret, numbers_for}
use Rattle.cmc_caches.specs.Lines.{LineTable, is_on_line, numbers_in}
use Rattle.cmc_caches.specs.Left.{IsTopped}
use Rattle.cmc_caches.proofs.Topped.{itself, topped_more, topped_same}
use Rattle.cmc_caches.proofs.Touching.{owner_uids}

-- who has the same owners is owned by the same
pub owned_alike : (before after : Option Object) (u : ℕ) → owner_uids_of before ≡ owner_uids_of after → is_owned_by u before ≡ is_owned_by u after
owned_alike before after u same = sym (owner_uids before u) ∙ ap (λ (us : List ℕ). is_uid_among us u) same ∙ owner_uids after u

-- the key of the Secret that a Certificate names is that by which it is looked for
pub target_is : (c : Certificate) (s : SecretName) → is_of_secret s (Some (Cert c)) ≡ true → secret_key c.meta.namespace c.spec.secret_name ≡ secret_key s.0 s.1
target_is c s is =
    let parts = and_parts (bytes_eq c.meta.namespace s.0) (bytes_eq c.spec.secret_name s.1) is in
    let namespace : c.meta.namespace ≡ s.0 = (bytes_eq-Decides c.meta.namespace s.0).0 parts.0 in
    let name : c.spec.secret_name ≡ s.1 = (bytes_eq-Decides c.spec.secret_name s.1).0 parts.1 in
    λ i. secret_key (namespace i) (name i)

same_keys : (j k : Key) → j ≡ k → key_eq j k ≡ true
same_keys j k is = subst (λ (x : Key). key_eq j x ≡ true) is (sym (key_tie j j) ∙ ap is_eq (tied_itself key_cmp-total j))

pub target_noted : (c : Certificate) (s : SecretName) (key : Key) (n : ℕ) (old new : LineTable) → key ≡ secret_key c.meta.namespace c.spec.secret_name
    → ((k : Key) → numbers_in new k ≡ (if key_eq key k then n ∷ numbers_in old k else numbers_in old k)) → is_of_secret s (Some (Cert c)) ≡ true → is_on_line n (numbers_for new s) ≡ true
target_noted c s key n old new at put is =
    let k : Key = secret_key s.0 s.1 in
    ap (is_on_line n) (put k ∙ ap (λ (b : Bool). if b then n ∷ numbers_in old k else numbers_in old k) (same_keys key k (at ∙ target_is c s is))) ∙ itself n (numbers_in old k)

pub target_kept : (s : SecretName) (key : Key) (n : ℕ) (old new : LineTable) → ((k : Key) → numbers_in new k ≡ (if key_eq key k then n ∷ numbers_in old k else numbers_in old k)) → IsTopped n (numbers_for old s) (numbers_for new s)
target_kept s key n old new put =
    let k : Key = secret_key s.0 s.1 in topped_more n (key_eq key k) (numbers_in old k) (numbers_in old k) (numbers_in new k) (put k) (topped_same n (numbers_in old k))
