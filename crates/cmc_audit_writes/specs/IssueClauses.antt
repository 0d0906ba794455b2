-- A good issue, by what is kept of a history.
use Rattle.std.specs.Prelude.{◌≡◌, ℕ, ℤ, ◌+◌, true, false, MatchBool, List, Option, Some, option_and_then}
use Rattle.cmc_meta.specs.declared.key.Kind.TheVariants as kinds
use Rattle.cmc_objects.specs.declared.certificate.Certificate.{Certificate}
use Rattle.cmc_objects.specs.declared.request.CertificateRequest.{CertificateRequest}
use Rattle.cmc_objects.specs.declared.secret.Secret.{Secret as SecretObject}
use Rattle.cmc_objects.specs.Requests.{is_approved}
use Rattle.cmc_match.specs.Marks.{is_temporary}
use Rattle.cmc_match.specs.Matches.{Matches}
use Rattle.cmc_match.specs.Facts.{key_in, certificate_file_in}
use Rattle.cmc_match.specs.Revisions.{only_of}
use Rattle.cmc_model.specs.declared.write.Write.{Write}
use Rattle.cmc_model.specs.Objects.{Objects, object_at}
use Rattle.cmc_rules.specs.Revisions.{revision_of_uid}
use Rattle.cmc_rules.specs.Safety.{IsIssued}
use Rattle.cmc_rules.specs.Views.{certificate_at, next_in, requests_of}
use Rattle.cmc_audit_state.specs.declared.row.Row.{Row}
use Rattle.cmc_audit_state.specs.Journaled.{cached, is_denied_uid}
use Rattle.cmc_audit_clauses.specs.Written.{Exists, HasTargetName, IsKeyed, IsTemporaryWrite}

-- the Secret under the name, in the Certificate's namespace, where it has a next private key of the Certificate
abbrev pub next_named : Objects → Certificate → List ℕ → Option SecretObject
next_named stored c name = option_and_then (next_in c) (object_at stored (record { kind = kinds.Secret; namespace = c.meta.namespace; name = name }))

-- the key that the Certificate's status names
abbrev pub next_key_at : Objects → Certificate → Option SecretObject
next_key_at stored c = option_and_then (next_named stored c) c.status.next_key

-- a certificate of an issuer
pub record IsIssuers (ws : List Write) (r : CertificateRequest) (written : SecretObject) : Type 0 where
  pub approved : is_approved r ≡ true
  pub never_denied : is_denied_uid r.meta.uid ws ≡ false
  pub issued : IsIssued r
  pub certificate : certificate_file_in written ≡ Some r.status.certificate

abbrev pub IsSignedWrite : List Write → Certificate → CertificateRequest → List ℕ → ℤ → SecretObject → Type 0
IsSignedWrite ws c r file since written = MatchBool (is_temporary written) (IsTemporaryWrite c r file since written) (IsIssuers ws r written)

-- with this key file
pub record IsIssueWith (ws : List Write) (c : Certificate) (r : CertificateRequest) (file : List ℕ) (since : ℤ) (written : SecretObject) : Type 0 where
  pub keyed : IsKeyed c r file written
  pub signed : IsSignedWrite ws c r file since written

-- with this Secret that holds the key
abbrev pub IsIssueBy : List Write → Certificate → CertificateRequest → ℤ → SecretObject → SecretObject → Type 0
IsIssueBy ws c r since written key = Exists (key_in key) (λ file. IsIssueWith ws c r file since written)

-- for this request
pub record IsIssueFor (ws : List Write) (row : Row) (c : Certificate) (written : SecretObject) (r : CertificateRequest) : Type 0 where
  pub matches : Matches c.spec r
  pub target : HasTargetName c written
  pub key : Exists (next_key_at (cached kinds.Secret ws row.reach.secrets) c) (IsIssueBy ws c r row.since written)

-- the one request of the revision in progress
abbrev pub request_in_progress : List Write → Row → Certificate → Option CertificateRequest
request_in_progress ws row c = only_of (revision_of_uid c.meta.uid ws + 1) (requests_of (cached kinds.CertificateRequest ws row.reach.requests) c)

-- of this Certificate
abbrev pub IsIssueOf : List Write → Row → SecretObject → Certificate → Type 0
IsIssueOf ws row written c = Exists (request_in_progress ws row c) (IsIssueFor ws row c written)

-- the Secret that a pass of issuing wrote is a good issue
pub record IsKeptIssue (ws : List Write) (row : Row) (written : SecretObject) : Type 0 where
  pub read : row.read ≡ true
  pub issue : Exists (certificate_at (cached kinds.Certificate ws row.reach.certificates) row.key) (IsIssueOf ws row written)
