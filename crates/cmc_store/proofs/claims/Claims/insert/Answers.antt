use Rattle.cmc_store.proofs.Hashed.{hashed-updated}
use Rattle.cmc_store.proofs.claims.Claims.insert.Goals as goal

pub returns-clause-ok : goal.returns-clause-ok
returns-clause-ok c = rw (← c.self.view_is) (hashed-updated _ _ _ _ c.in_ok-insert.ensures.updates.0)
