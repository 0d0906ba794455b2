-- What may fail at an entry, where the history is read up to it.
use Rattle.std.specs.Prelude.{◌≡◌, ◌⊎◌, ℕ, ◌+◌, true, false, List, [], ◌∷◌, Option, Some}
use Rattle.cmc_meta.specs.declared.key.Key.{Key}
use Rattle.cmc_meta.specs.declared.key.Kind.TheVariants as kinds
use Rattle.cmc_objects.specs.declared.object.Object.{Object}
use Rattle.cmc_objects.specs.declared.object.Object.TheVariants.{Request, Secret}
use Rattle.cmc_objects.specs.declared.request.CertificateRequest.{CertificateRequest}
use Rattle.cmc_objects.specs.declared.secret.Secret.{Secret as SecretObject}
use Rattle.cmc_objects.specs.declared.role.Role.TheVariants as roles
use Rattle.cmc_objects.specs.declared.call.Call.{Call}
use Rattle.cmc_objects.specs.declared.orders.Order.{Order}
use Rattle.cmc_objects.specs.declared.orders.Order.TheVariants as orders
use Rattle.cmc_objects.specs.declared.entry.Who.{Who}
use Rattle.cmc_objects.specs.declared.entry.Who.TheVariants.{User, Pass}
use Rattle.cmc_objects.specs.declared.entry.Entry.{Entry}
use Rattle.cmc_objects.specs.declared.entry.Entry.TheVariants.{Script, Call as Called, Deliver, List as Listed, Begin, Ask, Made, Signed, Answered, Judged, End, Stop, Start, Tick}
use Rattle.cmc_objects.specs.Objects.{key_of}
use Rattle.cmc_objects.specs.Requests.{is_approved}
use Rattle.cmc_model.specs.Objects.{object_at}
use Rattle.cmc_model.specs.Replies.{IsReply, is_accepted, key_of_call, settled, stored}
use Rattle.cmc_model.specs.Histories.{Setting, moment, state, objects, accepted}
use Rattle.cmc_rules.specs.declared.progress.OpenPass.{OpenPass}
use Rattle.cmc_rules.specs.Legality.{IsDelivery, IsListing, IsBegin, IsOpen, IsCaller}
use Rattle.cmc_rules.specs.Passes.{open_pass}
use Rattle.cmc_rules.specs.Rights.{IsRightfulEntry}
use Rattle.cmc_rules.specs.Safety.{IsGoodIssue, RaisesWell, LeavesRevisions, AsksWell, LastAsks}
use Rattle.cmc_audit_ledger.specs.Positions.{IsTick}
use Rattle.cmc_audit_clauses.specs.declared.clause.Clause.{Clause}
use Rattle.cmc_audit_clauses.specs.declared.clause.Clause.TheVariants as clauses

-- ---- place

-- Roles are told as watches tell, passes begin where they may and go on only while they are open, and ticks rise. Stops and starts
-- are the script's, which is not looked at.
abbrev pub IsPlaced : Setting → List Entry → Entry → Type 0
IsPlaced s h (Script step) = Unit {0}
IsPlaced s h (Called who call reply) = IsCaller s h who
IsPlaced s h (Deliver role kind to) = IsDelivery s h role kind to
IsPlaced s h (Listed role kind to) = IsListing s h role kind to
IsPlaced s h (Begin pass role key at now) = IsBegin s h pass role key at now
IsPlaced s h (Ask pass order) = IsOpen (open_pass s h pass)
IsPlaced s h (Made pass key) = IsOpen (open_pass s h pass)
IsPlaced s h (Signed pass signature) = IsOpen (open_pass s h pass)
IsPlaced s h (Answered pass answer) = IsOpen (open_pass s h pass)
IsPlaced s h (Judged pass approved) = IsOpen (open_pass s h pass)
IsPlaced s h (End pass cause) = IsOpen (open_pass s h pass)
IsPlaced s h (Stop role) = Unit {0}
IsPlaced s h (Start role at) = Unit {0}
IsPlaced s h (Tick now) = IsTick s h now

-- ---- reply

abbrev pub IsRightReply : Setting → List Entry → Entry → Type 0
IsRightReply s h (Called who call reply) = IsReply s.faults (state s h) call reply
IsRightReply s h other = Unit {0}

-- ---- accepted calls

-- What an accepted call has to be, by who makes it, the call under its name, what stood under its key, and what then stands.
abbrev pub OnWrite : (Who → Call → Option Object → Option Object → Type 0) → Setting → List Entry → Who → Call → Type 0
OnWrite P s h who call = P who call (object_at (objects s h) (key_of_call call)) (stored (accepted s h + 1) (moment s h) (objects s h) call)

abbrev pub OnCall : (Who → Call → Option Object → Option Object → Type 0) → Setting → List Entry → Entry → Type 0
OnCall P s h (Called who call reply) = is_accepted reply ≡ true → OnWrite P s h who (settled call reply)
OnCall P s h other = Unit {0}

-- what a call of an open pass has to be
abbrev pub ByPass : (ℕ → OpenPass → Call → Option Object → Option Object → Type 0) → Setting → List Entry → Who → Call → Option Object → Option Object → Type 0
ByPass P s h User call before after = Unit {0}
ByPass P s h (Pass pass) call before after = (p : OpenPass) → open_pass s h pass ≡ Some p → P pass p call before after

-- An accepted call of issuing on a Secret's key leaves a Secret that is a good issue.
abbrev pub IsIssue : Setting → List Entry → List Entry → ℕ → OpenPass → Call → Option Object → Option Object → Type 0
IsIssue s whole h pass p call before after =
    p.role ≡ roles.Issuing → (key_of_call call).kind ≡ kinds.Secret → (written : SecretObject) × (after ≡ Some (Secret written)) × IsGoodIssue s whole h pass p written

-- A revision rises as it may, and a user leaves it.
abbrev pub IsRaise : Setting → List Entry → Who → Call → Option Object → Option Object → Type 0
IsRaise s h User call before after = LeavesRevisions before after
IsRaise s h (Pass pass) call before after = (p : OpenPass) → open_pass s h pass ≡ Some p → RaisesWell h pass p.role call before after

-- The question is whether to approve this version of the request under the key.
abbrev pub AsksAbout : Key → ℕ → Order → Type 0
AsksAbout key version (orders.Judge order) = (key_of (Request order.request) ≡ key) × (order.request.meta.version ≡ version)
AsksAbout key version other = ⊥

-- The pass was told yes, and its last question before that was about this version. A version is known by its key and its number, as it
-- is printed: so it may be named before it is written.
abbrev pub IsJudgedOn : List Entry → ℕ → Key → ℕ → Type 0
IsJudgedOn [] pass key version = ⊥
IsJudgedOn (e ∷ h) pass key version = ((e ≡ Judged pass true) × LastAsks pass (AsksAbout key version) h) ⊎ IsJudgedOn h pass key version

-- An approval by the approver follows a yes on the version that it writes over.
abbrev pub IsApproval : List Entry → ℕ → OpenPass → Call → Option Object → Option Object → Type 0
IsApproval h pass p call before after =
    (old new : CertificateRequest) → p.role ≡ roles.Approver → before ≡ Some (Request old) → after ≡ Some (Request new) → is_approved old ≡ false → is_approved new ≡ true
    → IsJudgedOn h pass (key_of (Request old)) old.meta.version

-- ---- questions

abbrev pub IsGoodQuestion : Setting → List Entry → Entry → Type 0
IsGoodQuestion s h (Ask pass order) = AsksWell s (Ask pass order ∷ h) (open_pass s h pass) order
IsGoodQuestion s h other = Unit {0}

-- ---- clause by clause

abbrev pub Holds : Clause → Setting → List Entry → Entry → Type 0
Holds clauses.Place s h e = IsPlaced s h e
Holds clauses.Reply s h e = IsRightReply s h e
Holds clauses.Issue s h e = OnCall (ByPass (IsIssue s (e ∷ h) h) s h) s h e
Holds clauses.Ask s h e = IsGoodQuestion s h e
Holds clauses.Raise s h e = OnCall (IsRaise s h) s h e
Holds clauses.Rights s h e = IsRightfulEntry s h e
Holds clauses.Approval s h e = OnCall (ByPass (IsApproval h) s h) s h e
Holds clauses.Counts s h e = Unit {0}

-- the place of a clause in the order of clauses
abbrev pub rank : Clause → ℕ
rank clauses.Place = 0
rank clauses.Reply = 1
rank clauses.Issue = 2
rank clauses.Ask = 3
rank clauses.Raise = 4
rank clauses.Rights = 5
rank clauses.Approval = 6
rank clauses.Counts = 7
