-- Whether octets are a key of an algorithm and a size: the test says what it is to say.
use Rattle.std.proofs.Common.{◌≡◌, ℕ, true, false, List, Option, Some, None, ◌⊎◌, inl, inr, refl, sym, ◌∙◌}
use Rattle.std.specs.Prelude.{◌↔◌, IsTrue, ◌&&◌}
use Rattle.std.proofs.lemmas.Bool.{cases_Bool, eqb-true, eq-eqb, false≢true, and_parts}
use Rattle.cmc_der.specs.declared.fields.KeyKind.{KeyKind}
use Rattle.cmc_der.specs.Keys.{PublicKey, key_kind_of}
use Rattle.cmc_x509.specs.KeyFiles.{IsKeyFile}
use Rattle.cmc_x509.specs.ReadKeys.{key_file_at}
use Rattle.cmc_x509.proofs.FileLaws.{key_file_found, key_file_again}
use Rattle.cmc_objects.specs.declared.key_spec.Algorithm.{Algorithm}
use Rattle.cmc_objects.specs.declared.key_spec.Algorithm.TheVariants.{Rsa, Ecdsa}
use Rattle.cmc_keys.specs.Kinds.{algorithm_of, size_of, IsKeyOf, is_same_algorithm, is_kind_of, is_public_of, is_key_of}

same_algorithm : (a b : Algorithm) → is_same_algorithm a b ≡ true → a ≡ b
same_algorithm Rsa Rsa h = refl
same_algorithm Ecdsa Ecdsa h = refl
same_algorithm a b h = absurd (false≢true h)

algorithm_itself : (a : Algorithm) → is_same_algorithm a a ≡ true
algorithm_itself Rsa = refl
algorithm_itself Ecdsa = refl

key_found : (algorithm : Algorithm) (size : ℕ) (octets : List ℕ) (key : PublicKey) (kind : Option KeyKind) → IsKeyFile octets key → key_kind_of key ≡ kind → is_kind_of algorithm size kind ≡ true → IsKeyOf algorithm size octets
key_found algorithm size octets key None file is h = absurd (false≢true h)
key_found algorithm size octets key (Some kind) file is h =
    record { key = key; kind = kind; file = file; kind_is = is; algorithm_is = same_algorithm (algorithm_of kind) algorithm (and_parts _ _ h).0; size_is = eqb-true (size_of kind) size (and_parts _ _ h).1 }

file_found : (algorithm : Algorithm) (size : ℕ) (octets : List ℕ) (read : Option PublicKey) → key_file_at octets ≡ read → is_public_of algorithm size read ≡ true → IsKeyOf algorithm size octets
file_found algorithm size octets None e h = absurd (false≢true h)
file_found algorithm size octets (Some key) e h = key_found algorithm size octets key (key_kind_of key) (key_file_found octets key e) refl h

key_again : (algorithm : Algorithm) (size : ℕ) (octets : List ℕ) → IsKeyOf algorithm size octets → is_key_of algorithm size octets ≡ true
unfolding is_key_of
key_again algorithm size octets h =
    rw (key_file_again octets h.key h.file, h.kind_is, h.algorithm_is, algorithm_itself algorithm, h.size_is, eq-eqb size size refl) refl

pub is_key_means : (algorithm : Algorithm) (size : ℕ) (octets : List ℕ) → IsTrue (is_key_of algorithm size octets) ↔ IsKeyOf algorithm size octets
unfolding is_key_of
is_key_means algorithm size octets = (λ h. file_found algorithm size octets (key_file_at octets) refl h, λ h. key_again algorithm size octets h)

pub is_key_decided : (algorithm : Algorithm) (size : ℕ) (octets : List ℕ) → IsKeyOf algorithm size octets ⊎ (IsKeyOf algorithm size octets → ⊥)
is_key_decided algorithm size octets =
    let means = is_key_means algorithm size octets in
    elim (cases_Bool (is_key_of algorithm size octets)) [
      | inl fits ↦ inl (means.0 fits)
      | inr fails ↦ inr (λ h. false≢true (sym fails ∙ means.1 h))
    ]
