-- What an accepted call and a question have to be, by what is kept of a history.
use Rattle.std.specs.Prelude.{◌≡◌, ◌⊎◌, ◌&&◌, ℕ, Bool, true, false, MatchBool, not, List, Option, Some, None}
use Rattle.cmc_meta.specs.declared.key.Key.{Key}
use Rattle.cmc_meta.specs.declared.key.Kind.{Kind}
use Rattle.cmc_meta.specs.declared.key.Kind.TheVariants as kinds
use Rattle.cmc_objects.specs.declared.object.Object.{Object}
use Rattle.cmc_objects.specs.declared.object.Object.TheVariants.{Request, Secret}
use Rattle.cmc_objects.specs.declared.request.CertificateRequest.{CertificateRequest}
use Rattle.cmc_objects.specs.declared.secret.Secret.{Secret as SecretObject}
use Rattle.cmc_objects.specs.declared.role.Role.{Role}
use Rattle.cmc_objects.specs.declared.role.Role.TheVariants as roles
use Rattle.cmc_objects.specs.declared.call.Call.{Call}
use Rattle.cmc_objects.specs.declared.call.Call.TheVariants.{UpdateStatus}
use Rattle.cmc_objects.specs.Objects.{key_of, version_of}
use Rattle.cmc_objects.specs.Requests.{is_approved}
use Rattle.cmc_objects.specs.Informers.{works_on_requests}
use Rattle.cmc_model.specs.declared.write.Write.{Write}
use Rattle.cmc_rules.specs.Revisions.{stated_revision, RaisesRevision}
use Rattle.cmc_rules.specs.Views.{request_at}
use Rattle.cmc_audit_state.specs.declared.row.Row.{Row}
use Rattle.cmc_audit_state.specs.Heard.{has_yes_on}
use Rattle.cmc_audit_state.specs.Journaled.{cached, is_denied_uid}
use Rattle.cmc_audit_clauses.specs.Written.{Exists}
use Rattle.cmc_audit_writes.specs.IssueClauses.{IsKeptIssue}

-- where an object stood and one exists, P holds of them
abbrev pub OnBoth : (Object → Object → Type 0) → Option Object → Option Object → Type 0
OnBoth P None after = Unit {0}
OnBoth P (Some old) None = Unit {0}
OnBoth P (Some old) (Some new) = P old new

-- ---- issues

abbrev pub is_issuing_role : Role → Bool
is_issuing_role roles.Issuing = true
is_issuing_role other = false

abbrev pub is_secret : Kind → Bool
is_secret kinds.Secret = true
is_secret other = false

abbrev pub secret_if_any : Option Object → Option SecretObject
secret_if_any (Some (Secret k)) = Some k
secret_if_any other = None

-- what issuing writes under a Secret's key is an issue
abbrev pub IsKeptWrite : List Write → Row → Kind → Option Object → Type 0
IsKeptWrite ws row kind after = MatchBool (is_issuing_role row.role && is_secret kind) (Exists (secret_if_any after) (IsKeptIssue ws row)) (Unit {0})

-- ---- revisions

abbrev pub is_status_update : Call → Bool
is_status_update (UpdateStatus object named) = true
is_status_update other = false

abbrev pub SameRevision : Object → Object → Type 0
SameRevision old new = stated_revision new ≡ stated_revision old

pub record IsKeptRaise (row : Row) (call : Call) (old new : Object) : Type 0 where
  pub issuing : is_issuing_role row.role ≡ true
  pub status : is_status_update call ≡ true
  pub by_one : RaisesRevision (Some old) (Some new)
  pub saved : row.saved ≡ true

-- the revision stays, or rises as it may
abbrev pub KeepsOrRaises : Row → Call → Object → Object → Type 0
KeepsOrRaises row call old new = SameRevision old new ⊎ IsKeptRaise row call old new

-- ---- approvals

abbrev pub is_approver : Role → Bool
is_approver roles.Approver = true
is_approver other = false

abbrev pub approves : Object → Object → Bool
approves (Request old) (Request new) = not (is_approved old) && is_approved new
approves old new = false

-- the approver was told yes about the version that it approves
abbrev pub IsKeptApproval : Row → Object → Object → Type 0
IsKeptApproval row old new = MatchBool (is_approver row.role && approves old new) (has_yes_on row.yeses (record { key = key_of old; number = version_of old }) ≡ true) (Unit {0})

-- ---- questions

pub record IsAskFor (ws : List Write) (version : ℕ) (r : CertificateRequest) : Type 0 where
  pub named : r.meta.version ≡ version
  pub approved : is_approved r ≡ true
  pub never_denied : is_denied_uid r.meta.uid ws ≡ false

-- a question to an issuer, about this version of the request under the key
pub record IsKeptAsk (ws : List Write) (row : Row) (key : Key) (version : ℕ) : Type 0 where
  pub works : works_on_requests row.role ≡ true
  pub on : row.key ≡ key
  pub sees : Exists (request_at (cached kinds.CertificateRequest ws row.reach.requests) row.key) (IsAskFor ws version)
