use Rattle.cmc_kernel.specs.Kept.{setting_of}
use Rattle.cmc_world.specs.Searches.{RestsWhereRunning}
use Rattle.cmc_world.proofs.Ordering.{each_before_more}
use Rattle.cmc_world.proofs.rest.rests_in_each.Goals as goal

pub loop-place-preserved : goal.loop-place-preserved
loop-place-preserved c = (
  each_before_more (RestsWhereRunning (setting_of c.args.kernel.now.scenario) c.args.kernel.now.history) c.loop-place.place c.role_in.result c.role_in.ensures (c.in_ok-rests_in.ensures.test.0 c.if-not-branch.false) c.loop-place.invariant.0,
  c.rests_in.ensures.fed,
  c.rests_in.ensures.kept,
)
