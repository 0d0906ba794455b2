-- The flags of the roles that run, from one step of a script to the next.
use Rattle.std.proofs.Common.{◌≡◌, ◌↔◌, ℕ, suc, ◌+◌, ◌<◌, ◌≤◌, Bool, true, false, List, [], ◌∷◌, length, drop, get_or, Option, Some, None, refl, sym, ap, ◌∙◌, subst, arith, add-one, drop-cons, eqb-true}
use mathlib.Core.Bool.{beq}
use Rattle.std.specs.Prelude.{◌==◌, ◌||◌, not, if◌then◌else◌}
use Rattle.std.proofs.lemmas.Bool.Decides.{nat_tests}
use Rattle.std.proofs.lemmas.List.{drop_all}
use Rattle.cmc_objects.specs.declared.role.Role.{Role}
use Rattle.cmc_objects.specs.declared.role.Role.TheVariants.{Trigger, KeyManager, RequestManager, Approver, Issuer, Issuing, Readiness, Revision}
use Rattle.cmc_objects.specs.declared.entry.Step.{Step}
use Rattle.cmc_objects.specs.Roles.{role_rank}
use Rattle.cmc_setup.specs.Setups.{IsInTurn, IsOrderlyFrom, is_among, running_after, switch_of, without_role}
use Rattle.cmc_setup.specs.Stages.{may_switch}
use Rattle.cmc_setup.specs.Flags.{Tells, is_on}

-- each of eight flags is that of its role
pub flag_of_each : (f : Role → Bool) (r : Role) → is_on (f Trigger ∷ f KeyManager ∷ f RequestManager ∷ f Approver ∷ f Issuer ∷ f Issuing ∷ f Readiness ∷ f Revision ∷ []) r ≡ f r
unfolding is_on
flag_of_each f Trigger = refl
flag_of_each f other = refl

-- whether another is r, with the role left out
left_out : (same other_is : Bool) (rest : Bool) → (same ≡ true → other_is ≡ false) → (other_is || (if same then false else rest)) ≡ (if same then false else (other_is || rest))
left_out true other_is rest apart = rw (apart refl) refl
left_out false other_is rest apart = refl

out_twice : (same rest : Bool) → (if same then false else rest) ≡ (if same then false else (same || rest))
out_twice true rest = refl
out_twice false rest = refl

apart : (other role r : ℕ) → (other == role) ≡ false → (role == r) ≡ true → (other == r) ≡ false
apart other role r unlike is = grind (arith, nat_tests)

among_without : (before : List Role) (role r : Role) → is_among (without_role before role) r ≡ (if role_rank role == role_rank r then false else is_among before r)
among_without [] role r = elim (role_rank role == role_rank r) as (λ b. false ≡ (if b then false else false)) [ true ↦ refl | false ↦ refl ]
among_without (other ∷ before) role r = one_more (role_rank other == role_rank role) refl (among_without before role r)
  where
    one_more : (b : Bool) → (role_rank other == role_rank role) ≡ b → is_among (without_role before role) r ≡ (if role_rank role == role_rank r then false else is_among before r)
        → is_among (without_role (other ∷ before) role) r ≡ (if role_rank role == role_rank r then false else is_among (other ∷ before) r)
    one_more true is rest = let same : role_rank other ≡ role_rank role = eqb-true _ _ is in rw (is, rest, same) (out_twice (role_rank role == role_rank r) (is_among before r))
    one_more false is rest = rw (is, rest) (left_out (role_rank role == role_rank r) (role_rank other == role_rank r) (is_among before r) (λ e. apart (role_rank other) (role_rank role) (role_rank r) is e))

with_one : (same rest : Bool) → (same || rest) ≡ (if same then true else rest)
with_one true rest = refl
with_one false rest = refl

-- a role runs after a switch as the switch says, and every other as before it
pub among_after : (running : List Role) (role : Role) (on : Bool) (r : Role) → is_among (running_after running (Some (role, on))) r ≡ (if role_rank role == role_rank r then on else is_among running r)
among_after running role true r = with_one (role_rank role == role_rank r) (is_among running r)
among_after running role false r = among_without running role r

-- the flags after a switch
tells_after : (flags new : Role → Bool) (before : List Role) (role : Role) (on : Bool) → Tells flags before → ((r : Role) → new r ≡ (if role_rank role == role_rank r then on else flags r))
    → Tells new (running_after before (Some (role, on)))
tells_after flags new before role on tells is = record { each = λ r. is r ∙ rw (tells.each r) (sym (among_after before role on r)) }

-- a role that does not stand so already may be switched
unlike : (has on : Bool) → beq has on ≡ false → (if on then not has else has) ≡ true
unlike true true is = absurd (cc)
unlike true false is = refl
unlike false true is = refl
unlike false false is = absurd (cc)

alike : (has on : Bool) → beq has on ≡ true → (if on then not has else has) ≡ false
alike true true is = refl
alike true false is = absurd (cc)
alike false true is = absurd (cc)
alike false false is = refl

-- a switch of a role that does not stand so already
pub switched : (flags new : Role → Bool) (before : List Role) (role : Role) (on has : Bool) (switch : Option (Role × Bool)) → Some (role, on) ≡ switch → has ≡ flags role → beq has on ≡ false
    → ((r : Role) → new r ≡ (if role_rank role == role_rank r then on else flags r)) → Tells flags before → (may_switch before switch ≡ true) × Tells new (running_after before switch)
switched flags new before role on has switch is found other changed tells =
    let same : has ≡ is_among before role = found ∙ tells.each role in
    let turn : may_switch before (Some (role, on)) ≡ true = subst (λ (b : Bool). (if on then not b else b) ≡ true) same (unlike has on other) in
    subst (λ (s : Option (Role × Bool)). (may_switch before s ≡ true) × Tells new (running_after before s)) is (turn, tells_after flags new before role on tells changed)

-- the two ways to say that a step is in turn
off : (b : Bool) → not b ≡ true → b ≡ false
off true is = absurd (cc)
off false is = refl

pub in_turn : (running : List Role) (switch : Option (Role × Bool)) → may_switch running switch ≡ true → IsInTurn running switch
in_turn running None is = tt
in_turn running (Some (role, true)) is = off (is_among running role) is
in_turn running (Some (role, false)) is = is

not_both : (b : Bool) → not b ≡ false → b ≡ false → ⊥
not_both true is other = absurd (cc)
not_both false is other = absurd (cc)

both_ways : (b : Bool) → b ≡ false → b ≡ true → ⊥
both_ways true is other = absurd (cc)
both_ways false is other = absurd (cc)

pub not_in_turn : (running : List Role) (switch : Option (Role × Bool)) → may_switch running switch ≡ false → IsInTurn running switch → ⊥
not_in_turn running None is turn = absurd (cc)
not_in_turn running (Some (role, true)) is turn = not_both (is_among running role) is turn
not_in_turn running (Some (role, false)) is turn = both_ways (is_among running role) is turn

-- the flags tell which roles run before the rest of the script
pub record IsOrderlySoFar (flags : Role → Bool) (rest : List Step) (roles : List Role) (steps : List Step) : Type 0 where
  pub running : List Role
  pub tells : Tells flags running
  pub same : IsOrderlyFrom running rest ↔ IsOrderlyFrom roles steps

-- a step that is in turn where these roles run, and the flags after it
abbrev IsTakenWith : (Role → Bool) → (Role → Bool) → Step → Type 0
IsTakenWith flags new step = (before : List Role) → Tells flags before → (may_switch before (switch_of step) ≡ true) × Tells new (running_after before (switch_of step))

at_place : (steps : List Step) (i : ℕ) (step : Step) → i < length steps → step ≡ get_or steps i step → drop i steps ≡ step ∷ drop (i + 1) steps
at_place steps i step within is = rw add-one (drop-cons steps i step within ∙ ap (λ s. s ∷ drop (suc i) steps) (sym is))

pub one_more : (flags new : Role → Bool) (roles : List Role) (steps : List Step) (i : ℕ) (step : Step) → i < length steps → step ≡ get_or steps i step → IsTakenWith flags new step
    → IsOrderlySoFar flags (drop i steps) roles steps → IsOrderlySoFar new (drop (i + 1) steps) roles steps
one_more flags new roles steps i step within is taken before =
    let split : drop i steps ≡ step ∷ drop (i + 1) steps = at_place steps i step within is in
    let next : (may_switch before.running (switch_of step) ≡ true) × Tells new (running_after before.running (switch_of step)) = taken before.running before.tells in
    let same : IsOrderlyFrom before.running (step ∷ drop (i + 1) steps) ↔ IsOrderlyFrom roles steps = rw split at before.same in
    record { running = running_after before.running (switch_of step); tells = next.1; same = (λ later. same.0 (in_turn before.running (switch_of step) next.0, later), λ whole. (same.1 whole).1) }

-- a step that is not in turn
pub not_orderly : (flags : Role → Bool) (roles : List Role) (steps : List Step) (i : ℕ) (step : Step) → i < length steps → step ≡ get_or steps i step
    → ((before : List Role) → Tells flags before → may_switch before (switch_of step) ≡ false) → IsOrderlySoFar flags (drop i steps) roles steps → IsOrderlyFrom roles steps → ⊥
not_orderly flags roles steps i step within is never before whole =
    let split : drop i steps ≡ step ∷ drop (i + 1) steps = at_place steps i step within is in
    let same : IsOrderlyFrom before.running (step ∷ drop (i + 1) steps) ↔ IsOrderlyFrom roles steps = rw split at before.same in
    not_in_turn before.running (switch_of step) (never before.running before.tells) ((same.1 whole).0)

pub all_orderly : (flags : Role → Bool) (roles : List Role) (steps : List Step) (i : ℕ) → length steps ≤ i → IsOrderlySoFar flags (drop i steps) roles steps → IsOrderlyFrom roles steps
all_orderly flags roles steps i past before =
    let none : drop i steps ≡ [] = drop_all i steps past in
    let same : IsOrderlyFrom before.running [] ↔ IsOrderlyFrom roles steps = rw none at before.same in
    same.0 tt
