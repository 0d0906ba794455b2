-- What is printed of a load, and that nothing but want of memory is in its way.
use Rattle.std.proofs.Common.{◌≡◌, ℕ, Bool, true, false, List, Ok, Err, refl, subst}
use Rattle.std.specs.Prelude.{◌≤◌, IfErr, IfOk, Result}
use Rattle.serde_json.specs.Data.{Data}
use Rattle.cmc_objects.specs.declared.entry.Entry.{Entry}
use Rattle.cmc_setup.specs.declared.scenario.Scenario.{Scenario}
use Rattle.cmc_report.specs.declared.lines.Lines.{Lines}
use Rattle.cmc_report.specs.Text.{joined}
use Rattle.cmc_scenario.specs.Loads.{load_setup}
use Rattle.cmc_scenario_print.specs.ScenarioTree.{scenario_tree}
use Rattle.cmc_kernel.specs.Kept.{setting_of}
use Rattle.cmc_world.specs.Histories.{IsFull, IsPlain}
use Rattle.cmrun.specs.Headline.{IsLoadOf, RunsOn, Spends}
use Rattle.cmrun.specs.Statuses.{SpendsOn}
use Rattle.cmrun.specs.declared.status.Status.{Status}
use Rattle.cmrun.specs.declared.status.Status.TheVariants.{NoMemory, Spent}

-- the line of a summary does not say the scenario
printed_alike : (workers : ℕ) (alone : Bool) (value other : Data) (scenario : Scenario) (text : List ℕ) → (alone ≡ false → value ≡ other)
    → RunsOn workers alone value scenario text → RunsOn workers alone other scenario text
printed_alike workers true value other scenario text same runs =
    record { history = runs.history; run = runs.run; safe = runs.safe; complete = runs.complete; order = runs.order; plain = runs.plain; finished = runs.finished; named = runs.named; whole = runs.whole; audited = runs.audited; is = runs.is }
printed_alike workers false value other scenario text same runs = subst (λ (v : Data). RunsOn workers false v scenario text) (same refl) runs

pub load_printed : (workers : ℕ) (alone : Bool) (count : ℕ) (value : Data) (scenario : Scenario) (r : Result Lines Status) → scenario ≡ load_setup count
    → (alone ≡ false → value ≡ scenario_tree scenario) → IfOk r (λ lines. RunsOn workers alone value scenario (joined lines)) → IfOk r (λ lines. IsLoadOf workers alone count (joined lines))
load_printed workers alone count value scenario (Ok lines) is said runs =
    subst (λ (s : Scenario). RunsOn workers alone (scenario_tree s) s (joined lines)) is (printed_alike workers alone value (scenario_tree scenario) scenario (joined lines) said runs)
load_printed workers alone count value scenario (Err status) is said runs = tt

-- a load ends within its room, so that nothing but want of memory is in its way
pub load_refused : ((count : ℕ) (h : List Entry) → 1 ≤ count → count ≤ 200 → IsPlain (setting_of (load_setup count)) h → IsFull (setting_of (load_setup count)) h → ⊥)
    → (count : ℕ) (scenario : Scenario) (r : Result Lines Status) → 1 ≤ count → count ≤ 200 → scenario ≡ load_setup count → IfErr r (λ status. SpendsOn scenario status) → IfErr r (λ status. status ≡ NoMemory)
load_refused ends count scenario (Ok lines) some few is why = tt
load_refused ends count scenario (Err NoMemory) some few is why = refl
load_refused ends count scenario (Err Spent) some few is why =
    let spends : Spends (load_setup count) = subst Spends is why in
    absurd (ends count spends.history some few spends.plain spends.full)
load_refused ends count scenario (Err other) some few is why = absurd why
