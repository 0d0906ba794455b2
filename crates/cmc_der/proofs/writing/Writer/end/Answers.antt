use Rattle.cmc_der.proofs.Sizes.{closed_fits}
use Rattle.cmc_der.proofs.writing.Writer.end.Goals as goal

pub invariant_of-self-2 : goal.invariant_of-self-2
invariant_of-self-2 c = (closed_fits _ _ _ _ _ (c.in_ok-close_level.ensures.ok) (c.self.invariant.0), c.self.invariant.1)
