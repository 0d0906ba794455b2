use Rattle.std.proofs.Common.{subst}
use Rattle.cmc_safety.specs.Formed.{IsFormed}
use Rattle.cmc_kernel.specs.Kept.{Seen, setting_of}
use Rattle.cmc_kernel.proofs.kernel.Kernel.is_formed.Goals as goal

pub returns : goal.returns
returns c = subst (λ (v : Seen). IsFormed (setting_of v.scenario)) c.self.view_is c.self.invariant.held.formed
