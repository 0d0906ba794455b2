-- What the condition Ready of a request may say: issued, or pending, or that the request has failed or was denied, at a moment that stands.
use Rattle.std.proofs.Common.{◌≡◌, ◌==◌, ◌⊎◌, ℕ, ℤ, List, [], ◌∷◌, Option, Some, None, Bool, true, false, refl, sym, ap, subst, ◌∙◌, inl, inr}
use Rattle.std.specs.Prelude.{IfSome, codes, find, is_some, if◌then◌else◌}
use Rattle.std.specs.Ordering.{nat_cmp, match_ordering}
use Rattle.cmc_meta.specs.declared.conditions.Condition.{Condition}
use Rattle.cmc_meta.specs.declared.conditions.ConditionKind.{ConditionKind}
use Rattle.cmc_meta.specs.declared.conditions.ConditionKind.TheVariants.{Ready}
use Rattle.cmc_meta.specs.declared.conditions.Tri.TheVariants.{True, False}
use Rattle.cmc_meta.specs.ConditionLists.{condition_rank, condition_at, kept_since, renewed, transitioned}
use Rattle.cmc_objects.specs.declared.orders.Signing.{Signing}
use Rattle.cmc_objects.specs.declared.orders.Signing.TheVariants.{Issued, Pending, Failed}
use Rattle.cmc_objects.specs.declared.request.RequestStatus.{RequestStatus}
use Rattle.cmc_objects.specs.declared.object.Object.{Object}
use Rattle.cmc_objects.specs.declared.object.Object.TheVariants.{Cert, Request, Secret}
use Rattle.cmc_objects.specs.declared.call.Call.{Call}
use Rattle.cmc_model.specs.Admission.{is_of_condition}
use Rattle.cmc_rules.specs.IssuerAnswers.{issued_condition, pending_condition, failed_condition, answered}
use Rattle.cmc_rules.specs.Approver.{judged_status}
use Rattle.cmc_rules.specs.Issuer.{denied_condition, denied_status}
use Rattle.cmc_rules.proofs.Conditions.{kept_kind}
use Rattle.cmc_rules.proofs.Verdicts.{apart, find_same}
use Rattle.cmc_safety.proofs.Kept.{IsKept, Any, Brings, status_kept}

-- ---- what a condition says

abbrev pub SaysIssued : Condition → Type 0
SaysIssued ready = (ready.status ≡ True) × (ready.reason ≡ codes "Issued")

abbrev pub SaysPending : Condition → Type 0
SaysPending ready = (ready.status ≡ False) × (ready.reason ≡ codes "Pending")

abbrev pub SaysRefused : Condition → Type 0
SaysRefused ready = (ready.status ≡ False) × ((ready.reason ≡ codes "Failed") ⊎ (ready.reason ≡ codes "Denied"))

abbrev pub IsOutcome : Option ℤ → Condition → Type 0
IsOutcome failure ready = SaysIssued ready ⊎ (SaysPending ready ⊎ (SaysRefused ready × (is_some failure ≡ true)))

abbrev pub HasOutcome : RequestStatus → Type 0
HasOutcome status = IfSome (condition_at status.conditions Ready) (IsOutcome status.failure)

-- of any other object nothing is said
abbrev pub IsAnswered : Object → Type 0
IsAnswered (Cert c) = Unit {0}
IsAnswered (Request r) = HasOutcome r.status
IsAnswered (Secret k) = Unit {0}

-- ---- a new condition Ready is the one that is found

first_by : (kind : ConditionKind) (new c : Condition) (cs later : List Condition) → (condition_rank new.kind == 0) ≡ true → find (is_of_condition Ready) later ≡ Some new → condition_rank c.kind ≡ condition_rank kind
    → find (is_of_condition Ready) (match_ordering (nat_cmp 0 (condition_rank kind)) (new ∷ c ∷ cs) (new ∷ cs) (c ∷ later)) ≡ Some new
first_by Ready new c cs later own below at = ap (λ (b : Bool). if b then Some new else find (is_of_condition Ready) cs) own
first_by other new c cs later own below at = ap (λ (b : Bool). if b then Some new else find (is_of_condition Ready) (c ∷ cs)) own

pub found_ready : (cs : List Condition) (new : Condition) → condition_rank new.kind ≡ 0 → condition_at (renewed cs new) Ready ≡ Some new
found_ready [] new own = ap (λ (n : ℕ). if n == 0 then Some new else None) own
found_ready (c ∷ cs) new own =
    subst (λ (n : ℕ). find (is_of_condition Ready) (match_ordering (nat_cmp n (condition_rank c.kind)) (new ∷ c ∷ cs) (new ∷ cs) (c ∷ renewed cs new)) ≡ Some new) (sym own)
    (first_by c.kind new c cs (renewed cs new) (ap (λ (n : ℕ). n == 0) own) (found_ready cs new own) refl)

outcome_kept : (old : Option Condition) (new : Condition) (failure : Option ℤ) → IsOutcome failure new → IsOutcome failure (kept_since old new)
outcome_kept None new failure is = is
outcome_kept (Some old) new failure is = is

ready_renewed : (cs : List Condition) (new : Condition) (failure : Option ℤ) → condition_rank new.kind ≡ 0 → IsOutcome failure new → IfSome (condition_at (renewed cs new) Ready) (IsOutcome failure)
ready_renewed cs new failure own is = subst (λ (o : Option Condition). IfSome o (IsOutcome failure)) (sym (found_ready cs new own)) is

ready_transitioned : (cs : List Condition) (new : Condition) (failure : Option ℤ) → condition_rank new.kind ≡ 0 → IsOutcome failure new → IfSome (condition_at (transitioned cs new) Ready) (IsOutcome failure)
unfolding transitioned
ready_transitioned cs new failure own is =
    ready_renewed cs (kept_since (condition_at cs new.kind) new) failure (ap condition_rank (kept_kind (condition_at cs new.kind) new) ∙ own) (outcome_kept (condition_at cs new.kind) new failure is)

-- ---- the statuses that are written

-- a condition of another kind changes nothing of it
pub other_outcome : (cs : List Condition) (new : Condition) (failure : Option ℤ) → (condition_rank new.kind == 0) ≡ false → IfSome (condition_at cs Ready) (IsOutcome failure)
    → IfSome (condition_at (transitioned cs new) Ready) (IsOutcome failure)
other_outcome cs new failure other is = subst (λ (o : Option Condition). IfSome o (IsOutcome failure)) (sym (find_same (is_of_condition Ready) cs new (apart new.kind Ready other))) is

pub outcome_judged : (verdict : Condition) (status : RequestStatus) → (condition_rank verdict.kind == 0) ≡ false → HasOutcome status → HasOutcome (judged_status verdict status)
unfolding judged_status
outcome_judged verdict status other is = other_outcome status.conditions verdict status.failure other is

pub outcome_denied : (status : RequestStatus) (moment : ℤ) → HasOutcome (denied_status status moment)
unfolding denied_status denied_condition
outcome_denied status moment = ready_transitioned status.conditions (denied_condition moment) (Some moment) refl (inr (inr ((refl, inr refl), refl)))

pub outcome_answered : (status : RequestStatus) (answer : Signing) (moment : ℤ) → HasOutcome (answered status answer moment)
unfolding answered issued_condition pending_condition failed_condition
outcome_answered status (Issued certificate ca) moment = ready_transitioned status.conditions (issued_condition moment) status.failure refl (inl (refl, refl))
outcome_answered status Pending moment = ready_renewed status.conditions (pending_condition moment) status.failure refl (inr (inl (refl, refl)))
outcome_answered status (Failed message) moment = ready_transitioned status.conditions (failed_condition message moment) (Some moment) refl (inr (inr ((refl, inl refl), refl)))

-- ---- what calls store

-- an empty status has none, and an update keeps the status
pub answered_kept : (now : ℤ) → IsKept now IsAnswered Any IsAnswered
answered_kept now = status_kept (λ status. Unit {0}) HasOutcome now tt tt

-- a call that writes a status writes such a one
abbrev pub IsAnsweredCall : Call → Type 0
IsAnsweredCall call = Brings Any IsAnswered call
