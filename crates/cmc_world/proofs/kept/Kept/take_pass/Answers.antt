use Rattle.std.proofs.Common.{subst, sym, List}
use Rattle.cmc_world.specs.KeptLooks.{AreCurrent, IsCurrent}
use Rattle.cmc_world.specs.declared.openings.Opening.{Opening}
use Rattle.cmc_world.proofs.Taking.{all_taken}
use Rattle.cmc_world.proofs.kept.Kept.take_pass.Goals as goal

pub returns-clause-looked : goal.returns-clause-looked
returns-clause-looked c s h current =
    subst (λ (openings : List Opening). AreCurrent s h openings) (sym c.swap_remove.ensures.items)
    (all_taken (IsCurrent s h) c.args.self.now.looked.items c.in_ok-place.place c.swap_remove.result c.in_ok-place.ensures c.swap_remove.ensures.value current).1
