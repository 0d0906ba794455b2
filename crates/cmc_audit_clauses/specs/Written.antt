-- What a Secret that issuing wrote holds.
use Rattle.std.specs.Prelude.{◌≡◌, ℕ, ℤ, true, false, List, codes, Option, Some, None}
use Rattle.cmc_meta.specs.declared.conditions.Condition.{Condition}
use Rattle.cmc_meta.specs.declared.conditions.ConditionKind.TheVariants as conditions
use Rattle.cmc_meta.specs.declared.conditions.Tri.TheVariants as tri
use Rattle.cmc_meta.specs.PairLists.{text_by_key}
use Rattle.cmc_objects.specs.declared.certificate.Certificate.{Certificate}
use Rattle.cmc_objects.specs.declared.request.CertificateRequest.{CertificateRequest}
use Rattle.cmc_objects.specs.declared.secret.Secret.{Secret as SecretObject}
use Rattle.cmc_objects.specs.Requests.{is_denied}
use Rattle.cmc_der.specs.Keys.{CertificateFields}
use Rattle.cmc_match.specs.Marks.{asks_for_temporary}
use Rattle.cmc_match.specs.Facts.{IsPair, HasRequestedKey, key_in, certificate_file_in}
use Rattle.cmc_answers.specs.Temporary.{temporary}
use Rattle.cmc_rules.specs.Views.{has_next_label}

-- where there is one, P holds of it; and there is one
abbrev pub Exists : {A : Type 0} → Option A → (A → Type 0) → Type 0
Exists None P = ⊥
Exists (Some x) P = P x

-- the condition says that the issuer has issued
pub record SaysIssued (c : Condition) : Type 0 where
  pub kind : c.kind ≡ conditions.Ready
  pub status : c.status ≡ tri.True
  pub reason : c.reason ≡ codes "Issued"

-- a temporary certificate
pub record IsTemporaryWrite (c : Certificate) (r : CertificateRequest) (file : List ℕ) (since : ℤ) (written : SecretObject) : Type 0 where
  pub asked_for : asks_for_temporary c ≡ true
  pub not_denied : is_denied r ≡ false
  pub stand_in : Exists (temporary r.spec.request file since) (λ made. certificate_file_in written ≡ Some made)
  pub no_ca : text_by_key written.parts (codes "ca.crt") ≡ None

-- what is written has the Certificate's namespace and the name that it gives
pub record HasTargetName (c : Certificate) (written : SecretObject) : Type 0 where
  pub namespace : written.meta.namespace ≡ c.meta.namespace
  pub name : written.meta.name ≡ c.spec.secret_name
  pub unlabelled : has_next_label written.meta ≡ false

-- what is written has this key, which is a pair with its certificate, and of the request
pub record IsKeyed (c : Certificate) (r : CertificateRequest) (file : List ℕ) (written : SecretObject) : Type 0 where
  pub has_key : key_in written ≡ Some file
  pub pair : (fields : CertificateFields) × IsPair written fields
  pub requested : HasRequestedKey c.spec.key written r
