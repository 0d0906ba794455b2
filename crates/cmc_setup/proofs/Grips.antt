-- The informers that are held, from one step of a script to the next.
use Rattle.std.proofs.Common.{◌≡◌, ◌↔◌, ℕ, suc, ◌+◌, ◌<◌, ◌≤◌, Bool, true, false, List, [], ◌∷◌, length, drop, get_or, Option, Some, sym, ap, ◌∙◌, subst, add-one, drop-cons}
use Rattle.std.specs.Prelude.{◌&&◌, not, if◌then◌else◌}
use Rattle.std.proofs.lemmas.List.{drop_all}
use Rattle.cmc_meta.specs.declared.key.Kind.{Kind}
use Rattle.cmc_objects.specs.declared.role.Role.{Role}
use Rattle.cmc_objects.specs.declared.entry.Step.{Step}
use Rattle.cmc_objects.specs.Informers.{has_informer}
use Rattle.cmc_setup.specs.Holds.{AreHeldInTurn, Held, is_kind_and_role, grip_of, held_after, may_grip, none_held}

-- both say the same of each informer
abbrev pub AreSame : Held → Held → Type 0
AreSame held other = (k : Kind) → (r : Role) → held k r ≡ other k r

abbrev Grip : Type 0
Grip = Option (Kind × (Role × Bool))

pub gripped : (flags new held : Held) (kind : Kind) (role : Role) (on : Bool) (grip : Grip) → Some (kind, (role, on)) ≡ grip → may_grip flags (Some (kind, (role, on))) ≡ true
    → ((k : Kind) → (r : Role) → new k r ≡ (if is_kind_and_role kind role k r then on else flags k r)) → AreSame flags held → (may_grip held grip ≡ true) × AreSame new (held_after held grip)
gripped flags new held kind role on grip is may changed same =
    let told : may_grip held (Some (kind, (role, on))) ≡ true = subst (λ (b : Bool). (if on then has_informer role kind && not b else b) ≡ true) (same kind role) may in
    let after : AreSame new (held_after held (Some (kind, (role, on)))) =
    λ k r. changed k r ∙ ap (λ (b : Bool). if is_kind_and_role kind role k r then on else b) (same k r) in
    subst (λ (g : Grip). (may_grip held g ≡ true) × AreSame new (held_after held g)) is (told, after)

both_ways : (b : Bool) → b ≡ false → b ≡ true → ⊥
both_ways true is other = absurd (cc)
both_ways false is other = absurd (cc)

-- the flags tell which informers are held before the rest of the script
pub record IsInTurnSoFar (flags : Held) (rest : List Step) (steps : List Step) : Type 0 where
  pub held : Held
  pub same : AreSame flags held
  pub rests : AreHeldInTurn held rest ↔ AreHeldInTurn none_held steps

abbrev IsTakenWith : Held → Held → Step → Type 0
IsTakenWith flags new step = (held : Held) → AreSame flags held → (may_grip held (grip_of step) ≡ true) × AreSame new (held_after held (grip_of step))

at_place : (steps : List Step) (i : ℕ) (step : Step) → i < length steps → step ≡ get_or steps i step → drop i steps ≡ step ∷ drop (i + 1) steps
at_place steps i step within is = rw add-one (drop-cons steps i step within ∙ ap (λ s. s ∷ drop (suc i) steps) (sym is))

pub at_first : (flags : Held) (steps : List Step) → AreSame flags none_held → IsInTurnSoFar flags steps steps
at_first flags steps same = record { held = none_held; same = same; rests = (λ o. o, λ o. o) }

pub one_more : (flags new : Held) (steps : List Step) (i : ℕ) (step : Step) → i < length steps → step ≡ get_or steps i step → IsTakenWith flags new step
    → IsInTurnSoFar flags (drop i steps) steps → IsInTurnSoFar new (drop (i + 1) steps) steps
one_more flags new steps i step within is taken before =
    let split : drop i steps ≡ step ∷ drop (i + 1) steps = at_place steps i step within is in
    let next : (may_grip before.held (grip_of step) ≡ true) × AreSame new (held_after before.held (grip_of step)) = taken before.held before.same in
    let rests : AreHeldInTurn before.held (step ∷ drop (i + 1) steps) ↔ AreHeldInTurn none_held steps = rw split at before.rests in
    record { held = held_after before.held (grip_of step); same = next.1; rests = (λ later. rests.0 (next.0, later), λ whole. (rests.1 whole).1) }

pub not_in_turn : (flags : Held) (steps : List Step) (i : ℕ) (step : Step) → i < length steps → step ≡ get_or steps i step
    → ((held : Held) → AreSame flags held → may_grip held (grip_of step) ≡ false) → IsInTurnSoFar flags (drop i steps) steps → AreHeldInTurn none_held steps → ⊥
not_in_turn flags steps i step within is never before whole =
    let split : drop i steps ≡ step ∷ drop (i + 1) steps = at_place steps i step within is in
    let rests : AreHeldInTurn before.held (step ∷ drop (i + 1) steps) ↔ AreHeldInTurn none_held steps = rw split at before.rests in
    both_ways (may_grip before.held (grip_of step)) (never before.held before.same) ((rests.1 whole).0)

pub all_in_turn : (flags : Held) (steps : List Step) (i : ℕ) → length steps ≤ i → IsInTurnSoFar flags (drop i steps) steps → AreHeldInTurn none_held steps
all_in_turn flags steps i past before =
    let none : drop i steps ≡ [] = drop_all i steps past in
    let rests : AreHeldInTurn before.held [] ↔ AreHeldInTurn none_held steps = rw none at before.rests in
    rests.0 tt
