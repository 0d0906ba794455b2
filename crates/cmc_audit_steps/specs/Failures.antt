-- What fails at an accepted call and at a question, by what is kept.
use Rattle.std.specs.Prelude.{◌≡◌, List, Option, Some, None}
use Rattle.cmc_meta.specs.declared.key.Key.{Key}
use Rattle.cmc_meta.specs.declared.key.Kind.{Kind}
use Rattle.cmc_meta.specs.declared.key.Kind.TheVariants as kinds
use Rattle.cmc_objects.specs.declared.object.Object.{Object}
use Rattle.cmc_objects.specs.declared.call.Call.{Call}
use Rattle.cmc_objects.specs.declared.entry.Who.{Who}
use Rattle.cmc_objects.specs.declared.entry.Who.TheVariants.{User, Pass}
use Rattle.cmc_model.specs.declared.write.Write.{Write}
use Rattle.cmc_model.specs.Objects.{object_at}
use Rattle.cmc_model.specs.Writes.{contents}
use Rattle.cmc_rules.specs.Rights.{MayChange}
use Rattle.cmc_lines.specs.declared.line.PrintedOrder.{PrintedOrder}
use Rattle.cmc_lines.specs.declared.line.PrintedOrder.TheVariants as asked
use Rattle.cmc_audit_state.specs.declared.row.Row.{Row}
use Rattle.cmc_audit_state.specs.declared.row.Version.{Version}
use Rattle.cmc_audit_state.specs.OpenRows.{Opened, open_row_at}
use Rattle.cmc_audit_clauses.specs.declared.clause.Clause.{Clause}
use Rattle.cmc_audit_clauses.specs.declared.clause.Clause.TheVariants as clauses
use Rattle.cmc_audit_clauses.specs.Written.{Exists}
use Rattle.cmc_audit_writes.specs.Kept.{IsKeptApproval, IsKeptAsk, IsKeptWrite, KeepsOrRaises, OnBoth, SameRevision}

-- ---- an accepted call

-- all tests of a call of a pass
pub record IsRightCall (ws : List Write) (row : Row) (call : Call) (kind : Kind) (before after : Option Object) : Type 0 where
  pub issue : IsKeptWrite ws row kind after
  pub raise : OnBoth (KeepsOrRaises row call) before after
  pub rights : MayChange row.role before after
  pub approval : OnBoth (IsKeptApproval row) before after

-- which test fails first
abbrev pub RowFails : List Write → Row → Call → Kind → Option Object → Option Object → Option Clause → Type 0
RowFails ws row call kind before after None = IsRightCall ws row call kind before after
RowFails ws row call kind before after (Some clauses.Issue) = IsKeptWrite ws row kind after → ⊥
RowFails ws row call kind before after (Some clauses.Raise) = IsKeptWrite ws row kind after × (OnBoth (KeepsOrRaises row call) before after → ⊥)
RowFails ws row call kind before after (Some clauses.Rights) = IsKeptWrite ws row kind after × (OnBoth (KeepsOrRaises row call) before after × (MayChange row.role before after → ⊥))
RowFails ws row call kind before after (Some clauses.Approval) =
    IsKeptWrite ws row kind after × (OnBoth (KeepsOrRaises row call) before after × (MayChange row.role before after × (OnBoth (IsKeptApproval row) before after → ⊥)))
RowFails ws row call kind before after (Some other) = ⊥

-- the same of the pass, where it is open
abbrev pub PassFails : List Write → Option Row → Call → Kind → Option Object → Option Object → Option Clause → Type 0
PassFails ws None call kind before after failed = failed ≡ None
PassFails ws (Some row) call kind before after failed = RowFails ws row call kind before after failed

-- a user leaves the revision
abbrev pub UserFails : Option Object → Option Object → Option Clause → Type 0
UserFails before after None = OnBoth SameRevision before after
UserFails before after (Some clauses.Raise) = OnBoth SameRevision before after → ⊥
UserFails before after (Some other) = ⊥

abbrev pub WriteFails : List Write → Opened → Who → Call → Key → Option Object → Option Clause → Type 0
WriteFails ws passes User call key after failed = UserFails (object_at (contents ws) key) after failed
WriteFails ws passes (Pass pass) call key after failed = PassFails ws (open_row_at passes pass) call key.kind (object_at (contents ws) key) after failed

-- where a key was written
abbrev pub CallFails : List Write → Opened → Who → Call → Option Key → Option Object → Option Clause → Type 0
CallFails ws passes who call None after failed = failed ≡ None
CallFails ws passes who call (Some key) after failed = WriteFails ws passes who call key after failed

-- ---- a question

-- what a question says it is about is a request
abbrev pub IsOfRequest : PrintedOrder → Type 0
IsOfRequest (asked.Key certificate number) = Unit {0}
IsOfRequest (asked.Csr key body) = Unit {0}
IsOfRequest (asked.Sign number request version) = request.kind ≡ kinds.CertificateRequest
IsOfRequest (asked.Judge request version) = request.kind ≡ kinds.CertificateRequest

abbrev pub MayOrder : List Write → Option Row → PrintedOrder → Type 0
MayOrder ws row (asked.Key certificate number) = Unit {0}
MayOrder ws row (asked.Csr key body) = Unit {0}
MayOrder ws row (asked.Sign number request version) = Exists row (λ r. IsKeptAsk ws r request version)
MayOrder ws row (asked.Judge request version) = Unit {0}

abbrev pub asked_version : PrintedOrder → Option Version
asked_version (asked.Key certificate number) = None
asked_version (asked.Csr key body) = None
asked_version (asked.Sign number request version) = None
asked_version (asked.Judge request version) = Some (record { key = request; number = version })
