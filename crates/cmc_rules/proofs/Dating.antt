-- What a new condition, and the renewal of a certificate, leave of it that moments lie in the years 1950 to 9999.
use Rattle.std.proofs.Common.{◌≡◌, ◌≤◌, ◌<◌, ◌*◌, ◌+◌, ◌/◌, ◌==◌, ℕ, ℤ, List, [], ◌∷◌, Bool, true, false, Option, Some, None, refl, arith, Ordering, Less, Equal, Greater}
use Rattle.std.specs.Prelude.{IfSome, if◌then◌else◌, ◌&&◌, find, nat_lt, ◌≤ℤ◌}
use Rattle.std.specs.Ordering.{nat_cmp, match_ordering}
use Rattle.std.proofs.Math.Nat.{mul-le-mul_left}
use Rattle.std.proofs.lemmas.Bool.Decides.{nat_tests}
use Rattle.std.proofs.lemmas.Int.{ints}
use Rattle.cmc_meta.specs.declared.conditions.Condition.{Condition}
use Rattle.cmc_meta.specs.declared.conditions.ConditionKind.{ConditionKind}
use Rattle.cmc_meta.specs.ConditionLists.{condition_rank, condition_at, kept_since, renewed, transitioned, tri_eq}
use Rattle.cmc_objects.specs.declared.orders.Signing.{Signing}
use Rattle.cmc_objects.specs.declared.orders.Signing.TheVariants.{Issued, Pending, Failed}
use Rattle.cmc_objects.specs.declared.request.RequestStatus.{RequestStatus}
use Rattle.cmc_policies.specs.declared.renewal.Renew.{Renew}
use Rattle.cmc_policies.specs.declared.renewal.Renew.TheVariants.{Default, Before, Percent}
use Rattle.cmc_policies.specs.Renewal.{IsCertificateTime, lifetime, third, lead, renewal}
use Rattle.cmc_rules.specs.IssuerAnswers.{issued_condition, pending_condition, failed_condition, answered}
use Rattle.cmc_rules.specs.Dates.{AreDated, IsDatedAnswer}

-- ---- conditions

abbrev pub IsDatedCondition : Condition → Type 0
IsDatedCondition c = IsCertificateTime c.since

dated_next : (b : Bool) (c : Condition) (rest : Option Condition) → IsDatedCondition c → IfSome rest IsDatedCondition → IfSome (if b then Some c else rest) IsDatedCondition
dated_next true c rest own later = own
dated_next false c rest own later = later

dated_found : (p : Condition → Bool) (cs : List Condition) → AreDated cs → IfSome (find p cs) IsDatedCondition
dated_found p [] dated = tt
dated_found p (c ∷ cs) dated = dated_next (p c) c (find p cs) dated.0 (dated_found p cs dated.1)

pub dated_condition : (kind : ConditionKind) (cs : List Condition) → AreDated cs → IfSome (condition_at cs kind) IsDatedCondition
dated_condition kind cs dated = dated_found _ cs dated

dated_choice : (b : Bool) (x y : ℤ) → IsCertificateTime x → IsCertificateTime y → IsCertificateTime (if b then x else y)
dated_choice true x y one other = one
dated_choice false x y one other = other

dated_kept : (old : Option Condition) (new : Condition) → IfSome old IsDatedCondition → IsDatedCondition new → IsDatedCondition (kept_since old new)
dated_kept None new was is = is
dated_kept (Some old) new was is = dated_choice (tri_eq old.status new.status) old.since new.since was is

dated_by : (o : Ordering) (new c : Condition) (cs later : List Condition) → IsDatedCondition new → AreDated (c ∷ cs) → AreDated later
    → AreDated (match_ordering o (new ∷ c ∷ cs) (new ∷ cs) (c ∷ later))
dated_by Less new c cs later is dated after = (is, dated)
dated_by Equal new c cs later is dated after = (is, dated.1)
dated_by Greater new c cs later is dated after = (dated.0, after)

-- a condition that is set anew, with its moment
pub dated_renewed : (cs : List Condition) (new : Condition) → AreDated cs → IsCertificateTime new.since → AreDated (renewed cs new)
dated_renewed [] new dated is = (is, tt)
dated_renewed (c ∷ cs) new dated is = dated_by (nat_cmp (condition_rank new.kind) (condition_rank c.kind)) new c cs (renewed cs new) is dated (dated_renewed cs new dated.1 is)

-- a condition that is set at a moment of these years
pub dated_transitioned : (cs : List Condition) (new : Condition) → AreDated cs → IsCertificateTime new.since → AreDated (transitioned cs new)
unfolding transitioned
dated_transitioned cs new dated is = dated_renewed cs (kept_since (condition_at cs new.kind) new) dated (dated_kept (condition_at cs new.kind) new (dated_condition new.kind cs dated) is)

-- what the answer of an issuer makes of a request's status
pub dated_answered : (status : RequestStatus) (answer : Signing) (moment : ℤ) → IsCertificateTime moment → IsDatedAnswer status → IsDatedAnswer (answered status answer moment)
unfolding answered issued_condition pending_condition failed_condition
dated_answered status (Issued certificate ca) moment timed dated =
    record { conditions = dated_transitioned status.conditions (issued_condition moment) dated.conditions timed; failure = dated.failure }
dated_answered status Pending moment timed dated =
    record { conditions = dated_renewed status.conditions (pending_condition moment) dated.conditions timed; failure = dated.failure }
dated_answered status (Failed message) moment timed dated =
    record { conditions = dated_transitioned status.conditions (failed_condition message moment) dated.conditions timed; failure = timed }

-- ---- renewal

chosen_within : (b : Bool) (x y n : ℕ) → (b ≡ true → x ≤ n) → y ≤ n → (if b then x else y) ≤ n
chosen_within true x y n one other = one refl
chosen_within false x y n one other = other

third_within : (n : ℕ) → third n ≤ n
third_within n = omega arith

percent_within : (part n : ℕ) → part < 100 → (part * n + 99) / 100 ≤ n
percent_within part n few =
    let most : n * part ≤ n * 99 = mul-le-mul_left n (omega (arith, few)) in
    omega (arith, most)

below : (a b c d : ℕ) → (nat_lt a b && nat_lt c d) ≡ true → c < d
below a b c d is = grind (arith, nat_tests, is)

lead_within : (lasts : ℕ) (renew : Renew) → lead lasts renew ≤ lasts
lead_within lasts Default = third_within lasts
lead_within lasts (Before seconds) = chosen_within (nat_lt 0 seconds && nat_lt seconds lasts) seconds (third lasts) lasts (λ e. let low = below 0 seconds seconds lasts e in omega (arith, low)) (third_within lasts)
lead_within lasts (Percent part) = chosen_within (nat_lt 0 part && nat_lt part 100) ((part * lasts + 99) / 100) (third lasts) lasts (λ e. percent_within part lasts (below 0 part part 100 e)) (third_within lasts)

-- the moment of renewal lies between the two of the certificate
pub dated_renewal : (not_before not_after : ℤ) (renew : Renew) → IsCertificateTime not_before → IsCertificateTime not_after → not_before ≤ℤ not_after → IsCertificateTime (renewal not_before not_after renew)
dated_renewal not_before not_after renew begins ends ordered =
    let within : lead (lifetime not_before not_after) renew ≤ lifetime not_before not_after = lead_within (lifetime not_before not_after) renew in
    (omega (arith, ints, within, begins.0, ends.1, ordered), omega (arith, ints, within, ends.1))
