use Rattle.cmc_held.proofs.OpenOnes.{all_from_none, none_from_all}
use Rattle.cmc_held.proofs.passes.Passes.is_empty.Goals as goal

pub returns : goal.returns
returns c = rw (← c.self.view_is) (λ empty. all_from_none _ (c.is_empty.ensures.0 empty), λ all. c.is_empty.ensures.1 (none_from_all _ all))
