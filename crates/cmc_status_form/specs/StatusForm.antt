-- The form of statuses that are read: what is printed of one. No part of it may be empty, and only the members named here may
-- stand.
use Rattle.std.specs.Prelude.{ℕ, List, [], codes, Ok}
use Rattle.serde_json.specs.Data.{Data}
use Rattle.cmc_objects.specs.declared.certificate.CertStatus.{CertStatus}
use Rattle.cmc_objects.specs.declared.request.RequestStatus.{RequestStatus}
use Rattle.cmc_cursor.specs.Members.{Read, ◌>>=◌, Field, fields_at, at_end}
use Rattle.cmc_cursor.specs.Readers.{name_at, small_count_at, count_at, bytes_at}
use Rattle.cmc_codec.specs.Given.{member_at, next_member_or}
use Rattle.cmc_status_form.specs.ConditionForm.{non_empty_list, moment_at, conditions_at}
use Rattle.cmc_status_form.specs.declared.status.Issuance.{Issuance}
use Rattle.cmc_status_form.specs.declared.status.Standing.{Standing}

-- The members of an object that may not be empty.
abbrev pub some_fields_at : Data → Read (List Field)
some_fields_at d = fields_at d >>= non_empty_list

-- Bytes in standard base64 that may not be empty.
abbrev pub some_bytes_at : Data → Read (List ℕ)
some_bytes_at d = bytes_at d >>= non_empty_list

-- ---- the status of a Certificate, in parts as its members come

-- How issuance goes.
unfoldable pub issuance_in : List Field → Read (Issuance × List Field)
issuance_in fs = do
  conditions ← next_member_or [] conditions_at (codes "conditions") fs
  attempts ← member_at small_count_at (codes "failedIssuanceAttempts") conditions.1
  last_failure ← member_at moment_at (codes "lastFailureTime") attempts.1
  next_key ← member_at name_at (codes "nextPrivateKeySecretName") last_failure.1
  Ok (record { conditions = conditions.0; attempts = attempts.0; last_failure = last_failure.0; next_key = next_key.0 }, next_key.1)

-- The certificate that exists.
unfoldable pub standing_in : List Field → Read (Standing × List Field)
standing_in fs = do
  not_after ← member_at moment_at (codes "notAfter") fs
  not_before ← member_at moment_at (codes "notBefore") not_after.1
  renewal ← member_at moment_at (codes "renewalTime") not_before.1
  revision ← member_at count_at (codes "revision") renewal.1
  Ok (record { not_after = not_after.0; not_before = not_before.0; renewal = renewal.0; revision = revision.0 }, revision.1)

abbrev pub status_of : Issuance → Standing → CertStatus
status_of issuance standing = record {
  conditions = issuance.conditions;
  last_failure = issuance.last_failure;
  attempts = issuance.attempts;
  not_before = standing.not_before;
  not_after = standing.not_after;
  renewal = standing.renewal;
  revision = standing.revision;
  next_key = issuance.next_key;
}

unfoldable pub cert_status_in : List Field → Read CertStatus
cert_status_in fs = do
  issuance ← issuance_in fs
  standing ← standing_in issuance.1
  end ← at_end standing.1
  Ok (status_of issuance.0 standing.0)

unfoldable pub cert_status_at : Data → Read CertStatus
cert_status_at d = some_fields_at d >>= cert_status_in

-- ---- the status of a CertificateRequest

unfoldable pub request_status_in : List Field → Read RequestStatus
request_status_in fs = do
  ca ← next_member_or [] some_bytes_at (codes "ca") fs
  certificate ← next_member_or [] some_bytes_at (codes "certificate") ca.1
  conditions ← next_member_or [] conditions_at (codes "conditions") certificate.1
  failure ← member_at moment_at (codes "failureTime") conditions.1
  end ← at_end failure.1
  Ok (record { conditions = conditions.0; certificate = certificate.0; ca = ca.0; failure = failure.0 })

unfoldable pub request_status_at : Data → Read RequestStatus
request_status_at d = some_fields_at d >>= request_status_in
