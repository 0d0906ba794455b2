-- What a role's accepted write may change.
use Rattle.std.specs.Prelude.{◌≡◌, ◌⊎◌, ◌+◌, ◌==◌, Bool, true, false, not, filter, List, ◌∷◌, [], Option, Some, None, MatchBool}
use Rattle.cmc_meta.specs.declared.object_meta.ObjectMeta.{ObjectMeta}
use Rattle.cmc_meta.specs.declared.conditions.Condition.{Condition}
use Rattle.cmc_meta.specs.declared.conditions.ConditionKind.{ConditionKind}
use Rattle.cmc_meta.specs.declared.conditions.ConditionKind.TheVariants as kinds
use Rattle.cmc_meta.specs.ConditionLists.{condition_rank}
use Rattle.cmc_objects.specs.declared.certificate.CertStatus.{CertStatus}
use Rattle.cmc_objects.specs.declared.request.RequestStatus.{RequestStatus}
use Rattle.cmc_objects.specs.declared.object.Object.{Object}
use Rattle.cmc_objects.specs.declared.object.Object.TheVariants.{Cert, Request, Secret}
use Rattle.cmc_objects.specs.declared.call.Call.{Call}
use Rattle.cmc_objects.specs.declared.call.Reply.{Reply}
use Rattle.cmc_objects.specs.declared.role.Role.{Role}
use Rattle.cmc_objects.specs.declared.role.Role.TheVariants as roles
use Rattle.cmc_objects.specs.declared.entry.Who.{Who}
use Rattle.cmc_objects.specs.declared.entry.Who.TheVariants.{User, Pass}
use Rattle.cmc_objects.specs.declared.entry.Entry.{Entry}
use Rattle.cmc_objects.specs.declared.entry.Entry.TheVariants.{Script, Call as Called, Deliver, List as Listed, Begin, Ask, Made, Signed, Answered, Judged, End, Stop, Start, Tick}
use Rattle.cmc_model.specs.Objects.{object_at}
use Rattle.cmc_model.specs.Replies.{key_of_call, settled, stored, is_accepted}
use Rattle.cmc_model.specs.Histories.{Setting, moment, objects, accepted}
use Rattle.cmc_rules.specs.declared.progress.OpenPass.{OpenPass}
use Rattle.cmc_rules.specs.Views.{has_next_label}
use Rattle.cmc_rules.specs.Passes.{open_pass}

-- ---- which parts of a status

-- the conditions but that of this kind
abbrev pub is_other : ConditionKind → Condition → Bool
is_other kind condition = not (condition_rank condition.kind == condition_rank kind)

abbrev pub other_conditions : ConditionKind → List Condition → List Condition
other_conditions kind conditions = filter (is_other kind) conditions

-- The new status is the old one but for the named parts: the condition Issuing; the name of the next private key;
-- what an issuance writes; readiness and validity.
pub record ChangesIssuing (old new : CertStatus) : Type 0 where
  pub rest : new ≡ record old { conditions = new.conditions }
  pub others : other_conditions kinds.Issuing new.conditions ≡ other_conditions kinds.Issuing old.conditions

pub record ChangesNextKey (old new : CertStatus) : Type 0 where
  pub rest : new ≡ record old { next_key = new.next_key }

pub record ChangesIssuance (old new : CertStatus) : Type 0 where
  pub rest : new ≡ record old { conditions = new.conditions; revision = new.revision; last_failure = new.last_failure; attempts = new.attempts }
  pub others : other_conditions kinds.Issuing new.conditions ≡ other_conditions kinds.Issuing old.conditions

pub record ChangesReadiness (old new : CertStatus) : Type 0 where
  pub rest : new ≡ record old { conditions = new.conditions; not_before = new.not_before; not_after = new.not_after; renewal = new.renewal }
  pub others : other_conditions kinds.Ready new.conditions ≡ other_conditions kinds.Ready old.conditions

-- of a request: its verdict, or what its issuer answered
pub record ChangesVerdict (old new : RequestStatus) : Type 0 where
  pub rest : new ≡ record old { conditions = new.conditions }
  pub others : other_conditions kinds.Approved (other_conditions kinds.Denied new.conditions) ≡ other_conditions kinds.Approved (other_conditions kinds.Denied old.conditions)

pub record ChangesAnswer (old new : RequestStatus) : Type 0 where
  pub rest : new ≡ record old { conditions = new.conditions; certificate = new.certificate; ca = new.ca; failure = new.failure }
  pub others : other_conditions kinds.Ready new.conditions ≡ other_conditions kinds.Ready old.conditions

-- ---- which objects

-- the metadata is the old one under another resource version
abbrev pub KeepsMeta : ObjectMeta → ObjectMeta → Type 0
KeepsMeta old new = new ≡ record old { version = new.version }

-- a Certificate keeps all but its status, and a CertificateRequest too
abbrev pub OfCertificates : (CertStatus → CertStatus → Type 0) → Object → Object → Type 0
OfCertificates changes (Cert old) (Cert new) = KeepsMeta old.meta new.meta × (new.spec ≡ old.spec) × changes old.status new.status
OfCertificates changes old new = ⊥

abbrev pub OfRequests : (RequestStatus → RequestStatus → Type 0) → Object → Object → Type 0
OfRequests changes (Request old) (Request new) = KeepsMeta old.meta new.meta × (new.spec ≡ old.spec) × changes old.status new.status
OfRequests changes old new = ⊥

-- a request; a Secret with, or without, the label of a next private key
abbrev pub IsRequestObject : Object → Type 0
IsRequestObject (Request r) = Unit {0}
IsRequestObject other = ⊥

abbrev pub IsLabelled : Bool → Object → Type 0
IsLabelled label (Secret k) = has_next_label k.meta ≡ label
IsLabelled label other = ⊥

-- an object is made, taken away or changed
abbrev pub Makes : (Object → Type 0) → Option Object → Option Object → Type 0
Makes P None (Some new) = P new
Makes P old new = ⊥

abbrev pub DeletesWhere : (Object → Type 0) → Option Object → Option Object → Type 0
DeletesWhere P (Some old) None = P old
DeletesWhere P old new = ⊥

abbrev pub Changes : (Object → Object → Type 0) → Option Object → Option Object → Type 0
Changes P (Some old) (Some new) = P old new
Changes P old new = ⊥

-- ---- which role

-- what the role may make of what exists under a key
abbrev pub MayChange : Role → Option Object → Option Object → Type 0
MayChange roles.Trigger old new = Changes (OfCertificates ChangesIssuing) old new
MayChange roles.KeyManager old new = Makes (IsLabelled true) old new ⊎ (DeletesWhere (IsLabelled true) old new ⊎ Changes (OfCertificates ChangesNextKey) old new)
MayChange roles.RequestManager old new = Makes IsRequestObject old new ⊎ DeletesWhere IsRequestObject old new
MayChange roles.Approver old new = Changes (OfRequests ChangesVerdict) old new
MayChange roles.Issuer old new = Changes (OfRequests ChangesAnswer) old new
MayChange roles.Issuing old new =
    Makes (IsLabelled false) old new ⊎ (Changes (λ o n. IsLabelled false o × IsLabelled false n) old new ⊎ Changes (OfCertificates ChangesIssuance) old new)
MayChange roles.Readiness old new = Changes (OfCertificates ChangesReadiness) old new
MayChange roles.Revision old new = DeletesWhere IsRequestObject old new

-- ---- in a history

-- the call, accepted now under the name that it has, changes what exists under its key as the role of the pass may
abbrev pub IsRightful : Setting → List Entry → Call → Option OpenPass → Type 0
IsRightful s h call None = ⊥
IsRightful s h call (Some p) = MayChange p.role (object_at (objects s h) (key_of_call call)) (stored (accepted s h + 1) (moment s h) (objects s h) call)

abbrev pub IsRightfulCall : Setting → List Entry → Who → Call → Reply → Type 0
IsRightfulCall s h User call reply = Unit {0}
IsRightfulCall s h (Pass pass) call reply = MatchBool (is_accepted reply) (IsRightful s h (settled call reply) (open_pass s h pass)) (Unit {0})

abbrev pub IsRightfulEntry : Setting → List Entry → Entry → Type 0
IsRightfulEntry s h (Script step) = Unit {0}
IsRightfulEntry s h (Called who call reply) = IsRightfulCall s h who call reply
IsRightfulEntry s h (Deliver role kind to) = Unit {0}
IsRightfulEntry s h (Listed role kind to) = Unit {0}
IsRightfulEntry s h (Begin pass role key at now) = Unit {0}
IsRightfulEntry s h (Ask pass order) = Unit {0}
IsRightfulEntry s h (Made pass key) = Unit {0}
IsRightfulEntry s h (Signed pass signature) = Unit {0}
IsRightfulEntry s h (Answered pass answer) = Unit {0}
IsRightfulEntry s h (Judged pass approved) = Unit {0}
IsRightfulEntry s h (End pass cause) = Unit {0}
IsRightfulEntry s h (Stop role) = Unit {0}
IsRightfulEntry s h (Start role at) = Unit {0}
IsRightfulEntry s h (Tick now) = Unit {0}

-- each accepted write of a pass changes what its role may change, and nothing else
unfoldable pub KeepsRights : Setting → List Entry → Type 0
KeepsRights s [] = Unit {0}
KeepsRights s (e ∷ h) = IsRightfulEntry s h e × KeepsRights s h
