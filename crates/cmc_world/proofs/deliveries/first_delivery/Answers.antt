use Rattle.std.proofs.Common.{subst, arith, ◌≡◌}
use Rattle.cmc_kernel.specs.Kept.{setting_of}
use Rattle.cmc_world.specs.Searches.{HasNoneBefore, IsBehindInSome}
use Rattle.cmc_world.proofs.Ordering.{no_delivery}
use Rattle.cmc_world.proofs.deliveries.first_delivery.Goals as goal

pub returns : goal.returns
returns c =
    let all : c.loop-place.place ≡ 8 = omega arith in
    no_delivery (setting_of c.args.kernel.now.scenario) c.args.kernel.now.history
    (subst (HasNoneBefore (IsBehindInSome (setting_of c.args.kernel.now.scenario) c.args.kernel.now.history)) all c.loop-place.invariant)
