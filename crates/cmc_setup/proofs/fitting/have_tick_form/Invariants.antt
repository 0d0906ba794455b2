use Rattle.std.proofs.Common.{ℕ, ◌<◌, slice_index_or}
use Rattle.cmc_objects.specs.declared.entry.Step.{Step}
use Rattle.cmc_setup.specs.Setups.{IsTickForm}
use Rattle.cmc_setup.proofs.fitting.have_tick_form.Given as goal

abbrev pub invariant-loop-step : goal.invariant-loop-step
invariant-loop-step l = (k : ℕ) (d : Step) → k < l.step-index → IsTickForm (slice_index_or l.steps k d)
