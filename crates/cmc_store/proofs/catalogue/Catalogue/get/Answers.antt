use Rattle.cmc_store.proofs.ClaimLaws.{standing}
use Rattle.cmc_store.proofs.catalogue.Catalogue.get.Goals as goal

pub returns-clause-stands : goal.returns-clause-stands
returns-clause-stands c = rw (← c.self.view_is) (standing _ _ _ _ c.self.invariant c.get.ensures)
