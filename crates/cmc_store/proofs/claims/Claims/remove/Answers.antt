use Rattle.cmc_store.proofs.Hashed.{hashed-removed}
use Rattle.cmc_store.proofs.claims.Claims.remove.Goals as goal

pub returns : goal.returns
returns c = rw (← c.self.view_is) (hashed-removed _ _ _ c.remove.ensures.updates.0)
