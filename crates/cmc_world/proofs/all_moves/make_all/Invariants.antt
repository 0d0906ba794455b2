use Rattle.std.proofs.Common.{◌≡◌, length, take}
use Rattle.cmc_kernel.specs.Kept.{setting_of}
use Rattle.cmc_kernel.specs.Leads.{Lead}
use Rattle.cmc_world.proofs.all_moves.make_all.Given as goal

abbrev pub invariant-loop-step : goal.invariant-loop-step
invariant-loop-step l = record {
  same : l.world.scenario ≡ l.fn.world.scenario;
  led : Lead (setting_of l.fn.world.scenario) (take (length l.yielded) l.fn.moves.items) l.fn.world.history l.world.history;
}
