-- The steps of a script, one after another.
use Rattle.std.proofs.Common.{◌≡◌, ℕ, ℤ, suc, ◌+◌, ◌<◌, ◌≤◌, true, List, ◌∷◌, length, get_or, drop, refl, sym, subst, ap, ◌∙◌, inl, inr, add-one, drop-cons}
use Rattle.std.proofs.lemmas.List.{drop_all}
use Rattle.std.specs.Prelude.{int_le}
use Rattle.cmc_setup.specs.Setups.{last_moment}
use Rattle.cmc_collector.specs.Replays.{Collecting}
use Rattle.cmc_collect_form.specs.Steps.{AreInTime, moment_after}
use Rattle.cmc_collect_form.specs.declared.script.CollectStep.{CollectStep}
use Rattle.cmc_collect_run.specs.Runs.{Made, SpendsEntries, Stepped, StopsAtLimit}

-- what the steps that are left make of the collection, all of them make of the old one
pub record IsRunSoFar (start : ℤ) (all : List CollectStep) (old : Collecting) (steps : List CollectStep) (now : ℤ) (c : Collecting) : Type 0 where
  pub made : (new : Collecting) → Made steps now c new → Made all start old new
  pub spent : SpendsEntries steps now c → SpendsEntries all start old
  pub in_time : AreInTime now steps

at_place : (steps : List CollectStep) (n : ℕ) (step : CollectStep) → n < length steps → step ≡ get_or steps n step → drop n steps ≡ step ∷ drop (n + 1) steps
at_place steps n step within is = rw (add-one) (drop-cons steps n step within ∙ ap (λ x. x ∷ drop (suc n) steps) (sym is))

opened : (start : ℤ) (all : List CollectStep) (old : Collecting) (steps : List CollectStep) (n : ℕ) (step : CollectStep) (now : ℤ) (c : Collecting) → n < length steps → step ≡ get_or steps n step
    → IsRunSoFar start all old (drop n steps) now c → IsRunSoFar start all old (step ∷ drop (n + 1) steps) now c
opened start all old steps n step now c within is before = subst (λ (l : List CollectStep). IsRunSoFar start all old l now c) (at_place steps n step within is) before

-- the next step ends in time
pub next_in_time : (start : ℤ) (all : List CollectStep) (old : Collecting) (steps : List CollectStep) (n : ℕ) (step : CollectStep) (now : ℤ) (c : Collecting) → n < length steps → step ≡ get_or steps n step
    → IsRunSoFar start all old (drop n steps) now c → int_le (moment_after now step) last_moment ≡ true
next_in_time start all old steps n step now c within is before = (opened start all old steps n step now c within is before).in_time.0

pub one_more : (start : ℤ) (all : List CollectStep) (old : Collecting) (steps : List CollectStep) (n : ℕ) (step : CollectStep) (now next : ℤ) (c new : Collecting) → n < length steps → step ≡ get_or steps n step
    → next ≡ moment_after now step → Stepped now step c new → IsRunSoFar start all old (drop n steps) now c → IsRunSoFar start all old (drop (n + 1) steps) next new
one_more start all old steps n step now next c new within is then stepped before =
    let here : IsRunSoFar start all old (step ∷ drop (n + 1) steps) now c = opened start all old steps n step now c within is before in
    subst (λ (m : ℤ). IsRunSoFar start all old (drop (n + 1) steps) m new) (sym then)
    (record {
      made = λ last made. here.made last (new, stepped, made);
      spent = λ spent. here.spent (inr (new, stepped, spent));
      in_time = here.in_time.1;
    })

pub stops_here : (start : ℤ) (all : List CollectStep) (old : Collecting) (steps : List CollectStep) (n : ℕ) (step : CollectStep) (now : ℤ) (c : Collecting) → n < length steps → step ≡ get_or steps n step
    → StopsAtLimit now step c → IsRunSoFar start all old (drop n steps) now c → SpendsEntries all start old
stops_here start all old steps n step now c within is stops before = (opened start all old steps n step now c within is before).spent (inl stops)

pub all_made : (start : ℤ) (all : List CollectStep) (old : Collecting) (steps : List CollectStep) (n : ℕ) (now : ℤ) (c : Collecting) → length steps ≤ n → IsRunSoFar start all old (drop n steps) now c → Made all start old c
all_made start all old steps n now c past before =
    (subst (λ (l : List CollectStep). IsRunSoFar start all old l now c) (drop_all n steps past) before).made c refl
