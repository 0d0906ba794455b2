-- Requests that are approved, and what an issuer may be asked.
use Rattle.std.specs.Prelude.{◌≡◌, ℕ, ℤ, pos, neg_ℤ, Bool, true, false, ◌&&◌, ◌==◌, nat_le, int_le, List, length, Option, Some, None}
use Rattle.std.specs.List.{list_any}
use Rattle.cmc_meta.specs.declared.conditions.Condition.{Condition}
use Rattle.cmc_meta.specs.declared.conditions.ConditionKind.{ConditionKind}
use Rattle.cmc_meta.specs.declared.conditions.ConditionKind.TheVariants.{Approved, Denied}
use Rattle.cmc_meta.specs.declared.conditions.Tri.TheVariants.{True}
use Rattle.cmc_meta.specs.ConditionLists.{condition_rank, tri_eq}
use Rattle.cmc_objects.specs.declared.issuer.IssuerRef.{IssuerRef}
use Rattle.cmc_objects.specs.declared.request.CertificateRequest.{CertificateRequest}
use Rattle.cmc_objects.specs.declared.rows.SignRow.{SignRow}
use Rattle.cmc_objects.specs.declared.rows.SignRow.TheVariants.{Issue, Pending, Fail, Raw, Free}

-- the condition of this kind stands and is True
abbrev pub is_stated : ConditionKind → List Condition → Bool
is_stated kind conditions = list_any (λ c. (condition_rank c.kind == condition_rank kind) && tri_eq c.status True) conditions

abbrev pub is_approved : CertificateRequest → Bool
is_approved request = is_stated Approved request.status.conditions

abbrev pub is_denied : CertificateRequest → Bool
is_denied request = is_stated Denied request.status.conditions

-- an issuer reference has texts of at most 253 bytes
abbrev pub is_short_text : List ℕ → Bool
is_short_text text = nat_le (length text) 253

abbrev pub is_short_option : Option (List ℕ) → Bool
is_short_option None = true
is_short_option (Some text) = is_short_text text

abbrev pub is_issuer_form : IssuerRef → Bool
is_issuer_form issuer = is_short_text issuer.name && (is_short_option issuer.kind && is_short_option issuer.group)

-- a duration is at most 999,999,999 hours
abbrev pub is_duration_form : Option ℕ → Bool
is_duration_form None = true
is_duration_form (Some seconds) = nat_le seconds 3599999996400

-- what reading gives of a request
abbrev pub is_request_form : CertificateRequest → Bool
is_request_form request = is_issuer_form request.spec.issuer && is_duration_form request.spec.duration

-- from 1951-01-01T00:00:00Z to 9900-01-01T00:00:00Z, where a run's moments lie
abbrev pub is_run_time : ℤ → Bool
is_run_time at = int_le (neg_ℤ (pos 599616000)) at && int_le at (pos 250246627200)

-- a lifetime of 1 to 3,153,600,000 seconds
abbrev pub is_lifetime : Option ℕ → Bool
is_lifetime None = true
is_lifetime (Some seconds) = nat_le 1 seconds && nat_le seconds 3153600000

-- a row is within what a scenario may say; a free one may be anything
abbrev pub is_row_form : SignRow → Bool
is_row_form (Issue seconds before serial key ca) = is_lifetime seconds && nat_le before 86400
is_row_form Pending = true
is_row_form (Fail message) = true
is_row_form (Raw der) = true
is_row_form Free = true

-- an issuer may be asked of a request only where it is approved and not denied
pub record IsSignable (request : CertificateRequest) (moment : ℤ) (row : SignRow) : Type 0 where
  pub approved : is_approved request ≡ true
  pub not_denied : is_denied request ≡ false
  pub form : is_request_form request ≡ true
  pub time : is_run_time moment ≡ true
  pub row_form : is_row_form row ≡ true

-- what contracts see of a question to an issuer
pub record Signs : Type 0 where
  pub number : ℕ
  pub request : CertificateRequest
  pub moment : ℤ
  pub row : SignRow
