use Rattle.std.proofs.Common.{sym, ◌∙◌}
use Rattle.cmc_store.proofs.Hashed.{get-hashed}
use Rattle.cmc_store.proofs.claims.Claims.get.Goals as goal

pub returns : goal.returns
returns c = rw (← c.self.view_is) (c.get.ensures.value ∙ sym (get-hashed _ _))
