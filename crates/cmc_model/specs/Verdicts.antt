-- Approvals and denials of CertificateRequests: no request has both, and once one is given it stays as it is.
use Rattle.std.specs.Prelude.{◌≡◌, ◌≤◌, Bool, true, false, List, [], ◌∷◌, Option, None}
use Rattle.cmc_meta.specs.declared.key.Key.{Key}
use Rattle.cmc_meta.specs.declared.conditions.Condition.{Condition}
use Rattle.cmc_meta.specs.declared.conditions.ConditionKind.{ConditionKind}
use Rattle.cmc_meta.specs.declared.conditions.ConditionKind.TheVariants.{Approved, Denied}
use Rattle.cmc_meta.specs.ConditionLists.{condition_at}
use Rattle.cmc_objects.specs.declared.object.Object.{Object}
use Rattle.cmc_objects.specs.declared.object.Object.TheVariants.{Cert, Request, Secret}
use Rattle.cmc_objects.specs.declared.entry.Entry.{Entry}
use Rattle.cmc_objects.specs.declared.entry.Entry.TheVariants.{Call as Called}
use Rattle.cmc_objects.specs.Objects.{version_of}
use Rattle.cmc_objects.specs.Requests.{is_stated}
use Rattle.cmc_model.specs.Histories.{Setting, state}
use Rattle.cmc_model.specs.Replies.{IsReply}
use Rattle.cmc_model.specs.Versions.{uid_of, HasVersion}

-- the condition of this kind that a request has, and whether it is True; other objects have none
abbrev pub verdict_condition : ConditionKind → Object → Option Condition
verdict_condition kind (Cert c) = None
verdict_condition kind (Request r) = condition_at r.status.conditions kind
verdict_condition kind (Secret s) = None

abbrev pub states : ConditionKind → Object → Bool
states kind (Cert c) = false
states kind (Request r) = is_stated kind r.status.conditions
states kind (Secret s) = false

-- Approved and Denied are not both True
abbrev pub HasOneVerdict : Object → Type 0
HasOneVerdict o = states Approved o ≡ true → states Denied o ≡ true → ⊥

-- what is True of this kind in the older object is True in the newer one, and the very same condition
abbrev pub KeepsVerdict : ConditionKind → Object → Object → Type 0
KeepsVerdict kind older newer = states kind older ≡ true → (states kind newer ≡ true) × (verdict_condition kind newer ≡ verdict_condition kind older)

pub record KeepsVerdicts (older newer : Object) : Type 0 where
  pub approved : KeepsVerdict Approved older newer
  pub denied : KeepsVerdict Denied older newer

-- each call of the history is answered as the store answers it
abbrev pub IsAnswered : Setting → List Entry → Type 0
IsAnswered s [] = Unit {0}
IsAnswered s (Called who call reply ∷ h) = IsReply s.faults (state s h) call reply × IsAnswered s h
IsAnswered s (other ∷ h) = IsAnswered s h

-- no version of a request is both approved and denied, and later versions of a uid keep the verdicts of earlier ones
pub record AreFinal (s : Setting) (h : List Entry) : Type 0 where
  pub one : (key : Key) (o : Object) → HasVersion s h key o → HasOneVerdict o
  pub kept : (j k : Key) (older newer : Object) → HasVersion s h j older → HasVersion s h k newer → uid_of older ≡ uid_of newer → version_of older ≤ version_of newer → KeepsVerdicts older newer
