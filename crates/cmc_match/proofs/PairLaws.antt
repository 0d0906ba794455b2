-- A pair that is found is one, and has a validity.
use Rattle.std.proofs.Common.{◌≡◌, ℕ, ℤ, List, Option, Some, None, refl, sym, subst, ◌∙◌, ◌≤ℤ◌, inl, inr, arith}
use Rattle.std.specs.Prelude.{IfSome, option_map, ◌↔◌}
use Rattle.std.proofs.lemmas.Bool.{cases_Bool}
use Rattle.std.proofs.lemmas.Option.{none-some, same_Some}
use Rattle.cmc_der.specs.declared.fields.CertFields.{CertFields}
use Rattle.cmc_der.specs.Keys.{PublicKey, CertificateFields, cert_shown}
use Rattle.jiff_core.proofs.SignedLemmas.{signed_arith}
use Rattle.cmc_time.specs.Asn1.{IsCertificateTime}
use Rattle.cmc_x509.specs.KeyFiles.{IsKeyFile}
use Rattle.cmc_x509.specs.ReadKeys.{key_file_at}
use Rattle.cmc_x509.specs.Certificates.{IsCertificate}
use Rattle.cmc_x509.specs.ReadCertificates.{certificate_fields_at}
use Rattle.cmc_x509.proofs.CertificateLaws.{certificate_found, certificate_again}
use Rattle.cmc_x509.proofs.FileLaws.{key_file_found, key_file_again}
use Rattle.cmc_objects.specs.declared.secret.Secret.{Secret}
use Rattle.cmc_objects.specs.KeyPairs.{begins, ends, is_one_key, pair_of, fields_with_key}
use Rattle.cmc_objects.proofs.KeyLaws.{key_found, key_itself}
use Rattle.cmc_match.specs.Facts.{key_in, certificate_file_in, IsPair, pair_in}
use Rattle.cmc_match.proofs.TimeLaws.{certificate_time}

abbrev some : {A : Type 0} → A → Option A
some x = Some x

record WithKey (file octets : List ℕ) (fields : CertificateFields) : Type 0 where
  pub key_is : IsKeyFile file fields.key
  pub certificate_is : IsCertificate octets fields

with_key_found : (file octets : List ℕ) (fields : CertificateFields) (key : Option PublicKey) (read : Option CertificateFields) → key_file_at file ≡ key → certificate_fields_at octets ≡ read → fields_with_key key read ≡ some fields → WithKey file octets fields
with_key_found file octets fields None read e f h = absurd (none-some fields h)
with_key_found file octets fields (Some key) None e f h = absurd (none-some fields h)
with_key_found file octets fields (Some key) (Some found) e f h =
    elim (cases_Bool (is_one_key key found.key)) [
      | inl one ↦
          let same : found ≡ fields = same_Some found fields (sym (rw one refl) ∙ h) in
          let P : CertificateFields → Type 0 = λ c. WithKey file octets c in
          let Q : PublicKey → Type 0 = λ k. IsKeyFile file k in
          subst P same (record { key_is = subst Q (key_found key found.key one) (key_file_found file key e); certificate_is = certificate_found octets found f })
      | inr other ↦ absurd (none-some fields (sym (rw other refl) ∙ h))
    ]

with_key_again : (file octets : List ℕ) (fields : CertificateFields) → IsKeyFile file fields.key → IsCertificate octets fields → fields_with_key (key_file_at file) (certificate_fields_at octets) ≡ some fields
with_key_again file octets fields h k = rw (key_file_again file fields.key h, certificate_again octets fields k, key_itself fields.key) refl

pair_parts : (secret : Secret) (fields : CertificateFields) (key certificate : Option (List ℕ)) → key_in secret ≡ key → certificate_file_in secret ≡ certificate → pair_of key certificate ≡ some fields → IsPair secret fields
pair_parts secret fields None certificate e f h = absurd (none-some fields h)
pair_parts secret fields (Some key) None e f h = absurd (none-some fields h)
pair_parts secret fields (Some key) (Some certificate) e f h =
    let both = with_key_found key certificate fields (key_file_at key) (certificate_fields_at certificate) refl refl h in
    record { key = key; certificate = certificate; key_stands = e; certificate_stands = f; key_is = both.key_is; certificate_is = both.certificate_is }

pub pair_found : (secret : Secret) (fields : CertificateFields) → pair_in secret ≡ some fields → IsPair secret fields
unfolding pair_in
pair_found secret fields h = pair_parts secret fields (key_in secret) (certificate_file_in secret) refl refl h

pub pair_again : (secret : Secret) (fields : CertificateFields) → IsPair secret fields → pair_in secret ≡ some fields
unfolding pair_in
pair_again secret fields h = rw (h.key_stands, h.certificate_stands) (with_key_again h.key h.certificate fields h.key_is h.certificate_is)

-- the validity of a pair's certificate
pub record HasValidity (not_before not_after : ℤ) : Type 0 where
  pub ordered : not_before ≤ℤ not_after
  pub begins : IsCertificateTime not_before
  pub ends : IsCertificateTime not_after

pub pair_validity : (secret : Secret) (fields : CertificateFields) → IsPair secret fields → HasValidity fields.not_before fields.not_after
pair_validity secret fields h =
    let validity = h.certificate_is.is.validity_is in
    let first = validity.first in
    let second = validity.second in
    record { ordered = validity.ordered; begins = certificate_time first.0 first.1 fields.not_before first.3; ends = certificate_time second.0 second.1 fields.not_after second.3 }

-- the same of what is known of a pair, which says 0 where there is none
validity_of : (secret : Secret) (found : Option CertificateFields) → pair_in secret ≡ found → HasValidity (begins found) (ends found)
validity_of secret None e = record { ordered = omega (arith, signed_arith); begins = (omega (arith, signed_arith), omega (arith, signed_arith)); ends = (omega (arith, signed_arith), omega (arith, signed_arith)) }
validity_of secret (Some fields) e = pair_validity secret fields (pair_found secret fields e)

pub known_validity : (secret : Secret) (first last : ℤ) → first ≡ begins (pair_in secret) → last ≡ ends (pair_in secret) → HasValidity first last
known_validity secret first last from to =
    subst (λ (t : ℤ). HasValidity t last) (sym from) (subst (λ (t : ℤ). HasValidity (begins (pair_in secret)) t) (sym to) (validity_of secret (pair_in secret) refl))

-- what the code answers
pub answer_validity : (r : Option CertFields) (secret : Secret) → option_map cert_shown r ≡ pair_in secret → IfSome r (λ fields. HasValidity fields.not_before fields.not_after)
answer_validity (Some fields) secret e = pair_validity secret (cert_shown fields) (pair_found secret (cert_shown fields) (sym e))
answer_validity None secret e = tt

pub answer_ordered : (r : Option CertFields) → IfSome r (λ fields. HasValidity fields.not_before fields.not_after) → IfSome r (λ fields. fields.not_before ≤ℤ fields.not_after)
answer_ordered (Some fields) h = h.ordered
answer_ordered None h = tt

pub answer_begins : (r : Option CertFields) → IfSome r (λ fields. HasValidity fields.not_before fields.not_after) → IfSome r (λ fields. IsCertificateTime fields.not_before)
answer_begins (Some fields) h = h.begins
answer_begins None h = tt

pub answer_ends : (r : Option CertFields) → IfSome r (λ fields. HasValidity fields.not_before fields.not_after) → IfSome r (λ fields. IsCertificateTime fields.not_after)
answer_ends (Some fields) h = h.ends
answer_ends None h = tt

pub answer_means : (r : Option CertFields) (secret : Secret) → option_map cert_shown r ≡ pair_in secret → (fields : CertificateFields) → (option_map cert_shown r ≡ Some fields) ↔ IsPair secret fields
answer_means r secret e fields = (λ h. pair_found secret fields (sym e ∙ h), λ h. e ∙ pair_again secret fields h)
