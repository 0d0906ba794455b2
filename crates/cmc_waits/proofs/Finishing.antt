-- Where the plain order has no move, the run is finished.
use Rattle.std.proofs.Common.{◌≡◌, ◌⊎◌, ◌+◌, ◌-◌, ◌<◌, ◌≤◌, ℕ, ℤ, List, length, Option, Some, None, Bool, true, false, refl, sym, ap, subst, inl, inr, arith, get_or}
use Rattle.std.proofs.lemmas.Bool.Decides.{nat_tests}
use Rattle.std.proofs.lemmas.Option.{slice_get_cases}
use Rattle.std.specs.Prelude.{if◌then◌else◌, MatchBool, nat_le, nat_lt, slice_get}
use Rattle.cmc_rules.specs.Legality.{IsOpen}
use Rattle.cmc_kernel.specs.Plain.{IsStepReady}
use Rattle.cmc_meta.specs.declared.key.Key.{Key}
use Rattle.cmc_meta.specs.declared.key.Kind.{Kind}
use Rattle.cmc_meta.specs.declared.key.Kind.TheVariants as kinds
use Rattle.cmc_objects.specs.declared.orders.Rules.{Rules}
use Rattle.cmc_objects.specs.declared.role.Role.{Role}
use Rattle.cmc_objects.specs.declared.entry.Positions.{Positions}
use Rattle.cmc_objects.specs.declared.entry.Step.{Step}
use Rattle.cmc_objects.specs.declared.entry.Step.TheVariants as steps
use Rattle.cmc_objects.specs.declared.entry.Entry.{Entry}
use Rattle.cmc_model.specs.declared.write.Write.{Write}
use Rattle.cmc_pass.specs.declared.pass.Views.{Views}
use Rattle.cmc_pass.specs.declared.pass.Desk.{Desk}
use Rattle.cmc_pass.specs.declared.pass.Act.{Act}
use Rattle.cmc_pass.specs.declared.pass.Act.TheVariants.{Nothing, Call as Calls, Ask as Asks, Issue, Temporary}
use Rattle.cmc_rules.specs.declared.progress.Obstacle.{Obstacle}
use Rattle.cmc_rules.specs.declared.progress.Obstacle.TheVariants.{Failure, Newer}
use Rattle.cmc_rules.specs.declared.progress.OpenPass.{OpenPass}
use Rattle.cmc_rules.specs.declared.progress.Ending.{Ending}
use Rattle.cmc_rules.specs.declared.progress.Ending.TheVariants as endings
use Rattle.cmc_rules.specs.declared.progress.LastPass.{LastPass}
use Rattle.cmc_model.specs.Histories.{Setting, moment, runs}
use Rattle.cmc_model.specs.Writes.{writes, kind_eq, last_of_kind, is_known}
use Rattle.cmc_objects.specs.Informers.{kind_of_work, has_informer}
use Rattle.cmc_rules.specs.Positions.{position, position_of, positions}
use Rattle.cmc_rules.specs.Views.{views, present_views}
use Rattle.cmc_rules.specs.Desks.{desk}
use Rattle.cmc_rules.specs.Acts.{act}
use Rattle.cmc_rules.specs.Passes.{open_pass, is_pass_of}
use Rattle.cmc_rules.specs.Memory.{past}
use Rattle.cmc_rules.specs.Sameness.{IsStillBehind, EndsAlike, IsSame, IsDue}
use Rattle.cmc_rules.specs.Scripts.{scripted, held, has_held}
use Rattle.cmc_rules.specs.UserSteps.{owed, IsReady}
use Rattle.cmc_rules.specs.Rest.{IsIdle, IsPaused, RestsOn, IsAtRest}
use Rattle.cmc_rules.specs.Runs.{IsRun, IsFinished}
use Rattle.cmc_rules.specs.Sameness.{own_above}
use Rattle.cmc_rules.specs.Passes.{IsWorking}
use Rattle.cmc_safety.proofs.Moments.{scripted_low}
use Rattle.cmc_kernel.proofs.SameKeys.{same_kind}
use Rattle.cmc_kernel.proofs.Elsewhere.{idle_elsewhere, none_held}
use Rattle.cmc_kernel.specs.Plain.{IsBehind, Fits, HasNoScript, HasNoPass, HasNoDelivery}
use Rattle.cmc_kernel.proofs.Newest.{IsToldOfAll, views_newest}
use Rattle.cmc_waits.proofs.Newer.{newest_known}
use Rattle.cmc_waits.proofs.Remembering.{own_low, IsLowObstacle, IsFairEnding, IsFairLast, last_fair}

-- ---- all passes are closed

closed_by : (s : Setting) (h : List Entry) (n : ℕ) (p : Option OpenPass) → open_pass s h n ≡ p → ((q : OpenPass) → open_pass s h n ≡ Some q → ⊥) → p ≡ None
closed_by s h n None is none = refl
closed_by s h n (Some p) is none = absurd (none p is)

pub closed : (s : Setting) (h : List Entry) → HasNoPass s h → (n : ℕ) → open_pass s h n ≡ None
closed s h none n = closed_by s h n (open_pass s h n) refl (λ p is. none n (subst IsOpen (sym is) tt))

-- ---- all roles are told

told_by : (up : Bool) (s : Setting) (h : List Entry) (role : Role) (kind : Kind) → nat_le (last_of_kind kind (writes s h)) (position h role kind) ≡ up
    → runs s h role ≡ true → has_informer role kind ≡ true → held s h role kind ≡ false → (IsBehind s h role kind → ⊥) → last_of_kind kind (writes s h) ≤ position h role kind
told_by true s h role kind e running informed free none = grind (arith, nat_tests)
told_by false s h role kind e running informed free none =
    let above : position h role kind < last_of_kind kind (writes s h) = grind (arith, nat_tests) in
    absurd (none (record { running = running; informed = informed; free = free; behind = above }))

pub told : (s : Setting) (h : List Entry) → HasNoDelivery s h → (role : Role) (kind : Kind) → runs s h role ≡ true → has_informer role kind ≡ true → held s h role kind ≡ false
    → last_of_kind kind (writes s h) ≤ position h role kind
told s h none role kind running informed free =
    told_by (nat_le (last_of_kind kind (writes s h)) (position h role kind)) s h role kind refl running informed free (none role kind)

-- ---- on which keys there is something to do

-- the role has something to do by what it sees of the key
abbrev IsBusy : Setting → List Entry → Role → Key → Type 0
IsBusy s h role key = IsIdle s h role (views s h role key) → ⊥

work_by : (same : Bool) (s : Setting) (h : List Entry) (role : Role) (key : Key) → kind_eq key.kind (kind_of_work role) ≡ same → IsBusy s h role key → key.kind ≡ kind_of_work role
work_by true s h role key is busy = same_kind key.kind (kind_of_work role) is
work_by false s h role key is busy = absurd (busy (idle_elsewhere s h role key is))

work : (s : Setting) (h : List Entry) (role : Role) (key : Key) → IsBusy s h role key → key.kind ≡ kind_of_work role
work s h role key busy = work_by (kind_eq key.kind (kind_of_work role)) s h role key refl busy

-- ---- begins

abbrev IsDueNow : Setting → List Entry → Role → Key → Type 0
IsDueNow s h role key = IsDue (past s h role key) (views s h role key) (moment s h) (positions h role)

idle_of : (s : Setting) (h : List Entry) (role : Role) (key : Key) → ((n : ℕ) → open_pass s h n ≡ None) → IsWorking s h role key → ⊥
idle_of s h role key shut working = let free = ap (is_pass_of role key) (shut working.0) in absurd (cc (free, working.1))

-- a role that runs and has something to do can begin, where it is due and no pass is open
fits : (s : Setting) (h : List Entry) (role : Role) (key : Key) → runs s h role ≡ true → is_known key (writes s h) ≡ true → ((n : ℕ) → open_pass s h n ≡ None)
    → IsBusy s h role key → IsDueNow s h role key → Fits s h role key
fits s h role key running known shut busy due = record {
  may = record { running = running; idle = idle_of s h role key shut; due = due; work = work s h role key busy; known = known };
  worth = λ q. busy q.idle;
}

-- ---- a role that is told of all is due where it has something to do

bound_by : (b : Bool) (n p : ℕ) → (b ≡ true → n ≤ p) → (if b then n else 0) ≤ (if b then p else 0)
bound_by true n p le = le refl
bound_by false n p le = omega arith

known_told : (s : Setting) (h : List Entry) (role : Role) → IsToldOfAll s h role → (kind : Kind) → newest_known role kind (writes s h) ≤ position_of kind (positions h role)
known_told s h role all kinds.Certificate = bound_by (has_informer role kinds.Certificate) (last_of_kind kinds.Certificate (writes s h)) (position h role kinds.Certificate) (all kinds.Certificate)
known_told s h role all kinds.CertificateRequest = bound_by (has_informer role kinds.CertificateRequest) (last_of_kind kinds.CertificateRequest (writes s h)) (position h role kinds.CertificateRequest) (all kinds.CertificateRequest)
known_told s h role all kinds.Secret = bound_by (has_informer role kinds.Secret) (last_of_kind kinds.Secret (writes s h)) (position h role kinds.Secret) (all kinds.Secret)

own_told : (s : Setting) (h : List Entry) (role : Role) (key : Key) → IsRun s h → IsToldOfAll s h role → (kind : Kind) → position_of kind (past s h role key).own ≤ position_of kind (positions h role)
own_told s h role key run all kind =
    let low = own_low s h role key kind run.legal run.caused in
    let known = known_told s h role all kind in
    omega (arith, low, known)

not_behind : (role : Role) (ws : List Write) (obstacle : Obstacle) (at : Positions) → IsLowObstacle role ws obstacle → ((kind : Kind) → newest_known role kind ws ≤ position_of kind at)
    → IsStillBehind obstacle at → ⊥
not_behind role ws Failure at low known late = late
not_behind role ws (Newer kind version) at low known late = let up = known kind in absurd (omega (arith, low, up, late))

not_alike : (role : Role) (rules : Rules) (ws : List Write) (before : Views) (since : ℤ) (ending : Ending) (seen : Views) (now : ℤ) (at : Positions) (by : Desk) → by.rules ≡ rules → IsFairEnding role rules ws before since ending
    → ((kind : Kind) → newest_known role kind ws ≤ position_of kind at) → (act role seen now by ≡ Nothing → ⊥) → before ≡ seen → EndsAlike ending since now at → ⊥
not_alike role rules ws before since endings.Open seen now at by told fair known busy same alike = alike
not_alike role rules ws before since endings.Nothing seen now at by told fair known busy same alike =
    busy (subst (λ (v : Views). act role v now by ≡ Nothing) same (subst (λ (m : ℤ). act role before m by ≡ Nothing) alike (fair by told)))
not_alike role rules ws before since endings.Wrote seen now at by told fair known busy same alike = alike
not_alike role rules ws before since (endings.Refused obstacle) seen now at by told fair known busy same alike = not_behind role ws obstacle at fair known alike

-- a pass that has something to do would not be the last one again
not_same : (role : Role) (rules : Rules) (ws : List Write) (last : Option LastPass) (seen : Views) (now : ℤ) (at : Positions) (by : Desk) → by.rules ≡ rules → IsFairLast role rules ws last
    → ((kind : Kind) → newest_known role kind ws ≤ position_of kind at) → (act role seen now by ≡ Nothing → ⊥) → IsSame last seen now at → ⊥
not_same role rules ws None seen now at by told fair known busy same = same
not_same role rules ws (Some l) seen now at by told fair known busy same = not_alike role rules ws l.seen l.since l.ending seen now at by told fair known busy same.0 same.1

under : (own at : ℕ) (rest : Option ℕ) (b : Bool) → nat_lt at own ≡ b → own ≤ at → rest ≡ None → (if b then Some own else rest) ≡ None
under own at rest true e low none = absurd (grind (arith, nat_tests))
under own at rest false e low none = none

none_above : (own at : Positions) → own.certificates ≤ at.certificates → own.requests ≤ at.requests → own.secrets ≤ at.secrets → own_above own at ≡ None
unfolding own_above
none_above own at one two three =
    under own.certificates at.certificates _ (nat_lt at.certificates own.certificates) refl one
    (under own.requests at.requests _ (nat_lt at.requests own.requests) refl two (under own.secrets at.secrets None (nat_lt at.secrets own.secrets) refl three refl))

due_told : (s : Setting) (h : List Entry) (role : Role) (key : Key) → IsRun s h → IsToldOfAll s h role → IsBusy s h role key → IsDueNow s h role key
due_told s h role key run all busy = record {
  told =
      none_above (past s h role key).own (positions h role) (own_told s h role key run all kinds.Certificate) (own_told s h role key run all kinds.CertificateRequest)
      (own_told s h role key run all kinds.Secret);
  other = not_same role s.rules (writes s h) (past s h role key).last (views s h role key) (moment s h) (positions h role) (desk s h role (views s h role key)) refl
      (last_fair s h role key run.legal run.caused) (known_told s h role all) busy;
}

-- ---- all roles rest

is_nothing : (does : Act) → (does ≡ Nothing) ⊎ (does ≡ Nothing → ⊥)
is_nothing Nothing = inl refl
is_nothing (Calls call) = inr (λ is. absurd (cc is))
is_nothing (Asks order) = inr (λ is. absurd (cc is))
is_nothing (Issue plan) = inr (λ is. absurd (cc is))
is_nothing (Temporary plan) = inr (λ is. absurd (cc is))

is_idle : (s : Setting) (h : List Entry) (role : Role) (key : Key) → IsIdle s h role (views s h role key) ⊎ IsBusy s h role key
is_idle s h role key = is_nothing (act role (views s h role key) (moment s h) (desk s h role (views s h role key)))

paused : (s : Setting) (h : List Entry) (role : Role) (key : Key) → (IsBusy s h role key → IsDueNow s h role key → ⊥) → IsIdle s h role (views s h role key) ⊎ IsBusy s h role key → IsPaused s h role key
paused s h role key never (inl idle) = inl idle
paused s h role key never (inr busy) = inr (never busy)

served : (s : Setting) (h : List Entry) (role : Role) (key : Key) → IsRun s h → IsToldOfAll s h role → (IsBusy s h role key → IsDueNow s h role key → ⊥)
    → IsIdle s h role (views s h role key) ⊎ IsBusy s h role key → IsIdle s h role (present_views s h role key)
served s h role key run all never (inl idle) = subst (λ (v : Views). IsIdle s h role v) (views_newest s h role key run.legal all) idle
served s h role key run all never (inr busy) = absurd (never busy (due_told s h role key run all busy))

by_held : (b : Bool) (P Q : Type 0) → (b ≡ true → P) → (b ≡ false → Q) → MatchBool b P Q
by_held true P Q back free = back refl
by_held false P Q back free = free refl

-- the role was told of all where nothing is held from it
all_told : (s : Setting) (h : List Entry) (role : Role) → HasNoDelivery s h → runs s h role ≡ true → has_held s h role ≡ false → IsToldOfAll s h role
all_told s h role no_delivery running none = λ kind informed. told s h no_delivery role kind running informed (none_held s h role none kind)

-- it sees then what there is to see
pub views_told : (s : Setting) (h : List Entry) (role : Role) (key : Key) → IsRun s h → HasNoDelivery s h → runs s h role ≡ true → has_held s h role ≡ false → views s h role key ≡ present_views s h role key
views_told s h role key run no_delivery running none = views_newest s h role key run.legal (all_told s h role no_delivery running none)

-- it rests where nothing that it has to do fits it
pub rests_unless : (s : Setting) (h : List Entry) (role : Role) (key : Key) → IsRun s h → ((n : ℕ) → open_pass s h n ≡ None) → HasNoDelivery s h → runs s h role ≡ true → is_known key (writes s h) ≡ true
    → (Fits s h role key → IsBusy s h role key → ⊥) → RestsOn s h role key
rests_unless s h role key run shut no_delivery running known unfit =
    let never = λ (busy : IsBusy s h role key) (due : IsDueNow s h role key). unfit (fits s h role key running known shut busy due) busy in
    by_held (has_held s h role) (IsPaused s h role key) (IsIdle s h role (present_views s h role key))
    (λ some. paused s h role key never (is_idle s h role key))
    (λ none. served s h role key run (all_told s h role no_delivery running none) never (is_idle s h role key))

rests : (s : Setting) (h : List Entry) (role : Role) (key : Key) → IsRun s h → ((n : ℕ) → open_pass s h n ≡ None) → HasNoDelivery s h → ((r : Role) (k : Key) → Fits s h r k → ⊥)
    → runs s h role ≡ true → is_known key (writes s h) ≡ true → RestsOn s h role key
rests s h role key run shut no_delivery no_begin running known = rests_unless s h role key run shut no_delivery running known (λ f busy. no_begin role key f)

at_rest : (s : Setting) (h : List Entry) → IsRun s h → ((n : ℕ) → open_pass s h n ≡ None) → HasNoDelivery s h → ((r : Role) (k : Key) → Fits s h r k → ⊥) → IsAtRest s h
at_rest s h run shut no_delivery no_begin = record {
  closed = shut;
  rests = λ role running. (λ kind. told s h no_delivery role kind running, λ key known. rests s h role key run shut no_delivery no_begin running known);
}

-- ---- and the other way: a role that is told of all has nothing to do where it rests

idle_by : (b : Bool) (s : Setting) (h : List Entry) (role : Role) (key : Key) → IsRun s h → IsToldOfAll s h role → MatchBool b (IsPaused s h role key) (IsIdle s h role (present_views s h role key))
    → IsIdle s h role (present_views s h role key)
idle_by true s h role key run all (inl idle) = served s h role key run all (λ busy due. busy idle) (inl idle)
idle_by true s h role key run all (inr never) = served s h role key run all (λ busy due. never due) (is_idle s h role key)
idle_by false s h role key run all idle = idle

-- by what there is to see, even where informers are held: those that it has are not
pub idle_at_rest : (s : Setting) (h : List Entry) (role : Role) (key : Key) → IsRun s h → IsToldOfAll s h role → RestsOn s h role key → IsIdle s h role (present_views s h role key)
idle_at_rest s h role key run all rests = idle_by (has_held s h role) s h role key run all rests

-- ---- all steps are made

-- a step that waits is ready where all is at rest
ready_step : (s : Setting) (h : List Entry) (step : Step) → IsAtRest s h → IsReady s h (Some step)
ready_step s h (steps.Until role kind writes) rest = inr rest
ready_step s h steps.Settle rest = rest
ready_step s h other rest = tt

ready_at : (s : Setting) (h : List Entry) (i : ℕ) → i < length s.script → IsAtRest s h
    → ((x : Step) × (i < length s.script) × (slice_get s.script i ≡ Some x) × (get_or s.script i x ≡ x)) ⊎ ((length s.script ≤ i) × (slice_get s.script i ≡ None))
    → IsReady s h (slice_get s.script i)
ready_at s h i left rest (inl found) = subst (IsReady s h) (sym found.2) (ready_step s h found.0 rest)
ready_at s h i left rest (inr beyond) = absurd (omega (arith, left, beyond.0))

script_goes : (s : Setting) (h : List Entry) → scripted h < length s.script → IsAtRest s h → IsStepReady s h
script_goes s h left rest =
    let i : ℕ = scripted h + 1 - 1 in
    record { left = left; ready = ready_at s h i (omega (arith, left)) rest (slice_get_cases s.script i).1 }

all_made : (left : Bool) (s : Setting) (h : List Entry) → nat_lt (scripted h) (length s.script) ≡ left → IsRun s h → HasNoScript s h → IsAtRest s h → scripted h ≡ length s.script
all_made true s h e run none rest =
    let left : scripted h < length s.script = grind (arith, nat_tests) in
    absurd (none (script_goes s h left rest))
all_made false s h e run none rest = let low = scripted_low s h run.follows in grind (arith, nat_tests)

-- where all is at rest, nothing is owed and no step is left, all is finished
pub finished_at_rest : (s : Setting) (h : List Entry) → IsRun s h → owed s h ≡ None → HasNoScript s h → IsAtRest s h → IsFinished s h
finished_at_rest s h run settled no_script rest =
    record { all_steps = all_made (nat_lt (scripted h) (length s.script)) s h refl run no_script rest; all_effects = settled; rest = rest }

-- so it is where no step, no pass, no delivery and no begin can go on
pub nothing_left : (s : Setting) (h : List Entry) → IsRun s h → owed s h ≡ None → HasNoScript s h → HasNoPass s h → HasNoDelivery s h → ((role : Role) (key : Key) → Fits s h role key → ⊥)
    → IsFinished s h
nothing_left s h run settled no_script no_pass no_delivery no_begin = finished_at_rest s h run settled no_script (at_rest s h run (closed s h no_pass) no_delivery no_begin)
