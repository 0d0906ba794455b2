-- The table of the issuer, line by line.
use Rattle.std.proofs.Common.{◌≡◌, ◌&&◌, ℤ, Option, Some, None, Bool, true, false, refl, ap, int_le, arith}
use Rattle.std.proofs.lemmas.Int.{ints}
use Rattle.std.specs.Prelude.{◌+ℤ◌, pos, codes, int_lt, if◌then◌else◌}
use Rattle.std.specs.Str.{bytes_eq}
use Rattle.std.proofs.lemmas.Bool.{and_parts}
use Rattle.cmc_meta.specs.declared.conditions.Condition.{Condition}
use Rattle.cmc_meta.specs.declared.conditions.ConditionKind.TheVariants as kinds
use Rattle.cmc_meta.specs.ConditionLists.{condition_at}
use Rattle.cmc_objects.specs.declared.request.CertificateRequest.{CertificateRequest}
use Rattle.cmc_objects.specs.declared.object.Object.TheVariants.{Request}
use Rattle.cmc_objects.specs.declared.orders.Order.TheVariants as orders
use Rattle.cmc_objects.specs.declared.role.Role.TheVariants.{Issuer}
use Rattle.cmc_objects.specs.Requests.{Signs, is_approved, is_denied}
use Rattle.cmc_pass.specs.declared.pass.Views.{Views}
use Rattle.cmc_pass.specs.declared.pass.Desk.{Desk}
use Rattle.cmc_pass.specs.declared.pass.Act.{Act}
use Rattle.cmc_pass.specs.declared.pass.Act.TheVariants.{Nothing, Call as Calls}
use Rattle.cmc_pass.specs.declared.value.Value.{Value}
use Rattle.cmc_pass.specs.declared.value.Value.TheVariants.{Made, Signed, Answered, Judged}
use Rattle.cmc_pass.specs.Values.{IsValue}
use Rattle.cmc_rules.specs.IssuerAnswers.{answered}
use Rattle.cmc_rules.specs.Issuer.{has_reason, is_open, is_waiting_on, is_request_waiting, status_call, denied_status, deny, sign_order, ask_issuer, grant, grant_of, issuer, answered_for, answered_after}
use Rattle.cmc_rules.specs.SeenObjects.{IsWellSeen}
use Rattle.cmc_rules.specs.Sound.{IsFollowed, IsWithin, IsMinuteAfter, IsRetry}
use Rattle.cmc_rules.proofs.Sights.{seen_request}
use Rattle.cmc_rules.proofs.Lines.{by_test}
use Rattle.cmc_rules.proofs.Verdicts.{AreSettled, are_settled}
use Rattle.cmc_rules.proofs.Dating.{dated_answered}
use Rattle.cmc_issuer.proofs.Writes.{answers, denies, dated_denied, marking, answering}

abbrev Is : Views → ℤ → Act → Type 0
Is seen now a = IsWithin Issuer (answered_after seen now) seen now a

-- ---- what follows an answer

followed : (seen : Views) (now : ℤ) (r : CertificateRequest) (order : Signs) → seen.request ≡ Some r → AreSettled r.status.conditions → (value : Value) → IsValue (orders.Sign order) value
    → IsFollowed Issuer (answered_after seen now) seen now (orders.Sign order) value
unfolding answered_after
followed seen now r order sees settled (Made file) right = absurd right
followed seen now r order sees settled (Signed signature) right = absurd right
followed seen now r order sees settled (Judged approved) right = absurd right
followed seen now r order sees settled (Answered answer) right = record {
  call = status_call (answered r.status answer now) r;
  follows = ap (λ (o : Option CertificateRequest). answered_for now o (Answered answer)) sees;
  on = answering seen now (Answered answer) r (answered r.status answer now) sees settled (answers r.status answer now) (dated_answered r.status answer now);
}

-- ---- each act is within

asked : (seen : Views) (now : ℤ) (desk : Desk) (r : CertificateRequest) → seen.request ≡ Some r → AreSettled r.status.conditions → is_approved r ≡ true → is_denied r ≡ false → Is seen now (ask_issuer now desk r)
unfolding ask_issuer sign_order
asked seen now desk r sees settled approved undenied = ((refl, sees, approved, undenied), followed seen now r (sign_order now desk r) sees settled)

denied_is : (seen : Views) (now : ℤ) (r : CertificateRequest) → seen.request ≡ Some r → AreSettled r.status.conditions → Is seen now (deny now r)
denied_is seen now r sees settled =
    by_test (Is seen now) (has_reason (codes "Denied") r) _ _ (λ on. tt) (λ off. marking seen now r (denied_status r.status now) sees settled (denies r.status now) (dated_denied r now))

granted_is : (seen : Views) (now : ℤ) (desk : Desk) (r : CertificateRequest) → seen.request ≡ Some r → AreSettled r.status.conditions → is_denied r ≡ false → Is seen now (grant now desk r)
granted_is seen now desk r sees settled undenied =
    by_test (Is seen now) (is_open r) _ _
    (λ on. by_test (Is seen now) (is_request_waiting now r) _ _ (λ waits. tt) (λ due. asked seen now desk r sees settled (and_parts (is_approved r) _ on).0 undenied)) (λ off. tt)

settled_by : (seen : Views) (r : CertificateRequest) → IsWellSeen seen → seen.request ≡ Some r → AreSettled r.status.conditions
settled_by seen r well sees = let admitted = well.admitted (Request r) (seen_request seen r sees) in are_settled r.status.conditions admitted.0 admitted.1

of_is : (seen : Views) (now : ℤ) (desk : Desk) (o : Option CertificateRequest) → IsWellSeen seen → seen.request ≡ o → Is seen now (grant_of now desk o)
of_is seen now desk None well sees = tt
of_is seen now desk (Some r) well sees =
    let settled = settled_by seen r well sees in
    by_test (Is seen now) (is_denied r) _ _ (λ on. denied_is seen now r sees settled) (λ off. granted_is seen now desk r sees settled off)

pub within : (seen : Views) (now : ℤ) (desk : Desk) → IsWellSeen seen → Is seen now (issuer seen now desk)
unfolding issuer
within seen now desk well = of_is seen now desk seen.request well refl

-- ---- nothing stays nothing up to a minute after the moment of Ready

abbrev Quiet : (ℤ → Type 0) → ℤ → ℤ → Type 0
Quiet P t u = (at : ℤ) → P at → int_le at t ≡ false → int_le at u ≡ true → ⊥

still : (b : Bool) (t u until : ℤ) → int_lt u until ≡ b → int_lt t until ≡ true → (int_le until t ≡ false → int_le until u ≡ true → ⊥) → int_lt u until ≡ true
still true t u until e low quiet = e
still false t u until e low quiet = absurd (quiet (grind (arith, ints)) (grind (arith, ints)))

waits_on : (ready : Option Condition) (t u : ℤ) → Quiet (IsMinuteAfter ready) t u → is_waiting_on t ready ≡ true → is_waiting_on u ready ≡ true
waits_on None t u quiet h = absurd (cc h)
waits_on (Some ready) t u quiet h =
    let end : ℤ = ready.since +ℤ pos 60 in
    let parts = and_parts (bytes_eq ready.reason (codes "Pending")) (int_lt t end) h in
    rw (parts.0, still (int_lt u end) t u end refl parts.1 (quiet end refl)) refl

asks : (t : ℤ) (d : Desk) (r : CertificateRequest) → ask_issuer t d r ≡ Nothing → ⊥
unfolding ask_issuer
asks t d r is = absurd (cc is)

by_waiting : (b : Bool) (r : CertificateRequest) (t u : ℤ) (d e : Desk) → is_request_waiting t r ≡ b → Quiet (IsRetry (Some r)) t u
    → (if b then Nothing else ask_issuer t d r) ≡ Nothing → (if is_request_waiting u r then Nothing else ask_issuer u e r) ≡ Nothing
by_waiting true r t u d e on quiet is = let later : is_request_waiting u r ≡ true = waits_on (condition_at r.status.conditions kinds.Ready) t u quiet on in rw later refl
by_waiting false r t u d e off quiet is = absurd (asks t d r is)

by_open : (b : Bool) (r : CertificateRequest) (t u : ℤ) (d e : Desk) → Quiet (IsRetry (Some r)) t u
    → (if b then (if is_request_waiting t r then Nothing else ask_issuer t d r) else Nothing) ≡ Nothing → (if b then (if is_request_waiting u r then Nothing else ask_issuer u e r) else Nothing) ≡ Nothing
by_open true r t u d e quiet is = by_waiting (is_request_waiting t r) r t u d e refl quiet is
by_open false r t u d e quiet is = refl

by_marked : (b : Bool) (r : CertificateRequest) (t u : ℤ) → (if b then Nothing else Calls (status_call (denied_status r.status t) r)) ≡ Nothing
    → (if b then Nothing else Calls (status_call (denied_status r.status u) r)) ≡ Nothing
by_marked true r t u is = refl
by_marked false r t u is = absurd (cc is)

by_denied : (b : Bool) (r : CertificateRequest) (t u : ℤ) (d e : Desk) → Quiet (IsRetry (Some r)) t u → (if b then deny t r else grant t d r) ≡ Nothing → (if b then deny u r else grant u e r) ≡ Nothing
by_denied true r t u d e quiet is = by_marked (has_reason (codes "Denied") r) r t u is
by_denied false r t u d e quiet is = by_open (is_open r) r t u d e quiet is

stays_of : (o : Option CertificateRequest) (t u : ℤ) (d e : Desk) → Quiet (IsRetry o) t u → grant_of t d o ≡ Nothing → grant_of u e o ≡ Nothing
stays_of None t u d e quiet is = refl
stays_of (Some r) t u d e quiet is = by_denied (is_denied r) r t u d e quiet is

pub stays : (seen : Views) (t u : ℤ) (d e : Desk) → Quiet (IsRetry seen.request) t u → issuer seen t d ≡ Nothing → issuer seen u e ≡ Nothing
unfolding issuer
stays seen t u d e quiet is = stays_of seen.request t u d e quiet is

-- ---- nothing without a request

pub none : (seen : Views) (now : ℤ) (desk : Desk) → seen.request ≡ None → issuer seen now desk ≡ Nothing
unfolding issuer
none seen now desk is = ap (grant_of now desk) is
