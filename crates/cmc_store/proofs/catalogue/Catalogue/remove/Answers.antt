use Rattle.cmc_store.proofs.ClaimLaws.{removed_as}
use Rattle.cmc_store.proofs.catalogue.Catalogue.remove.Goals as goal

pub invariant_of-self : goal.invariant_of-self
invariant_of-self c = removed_as _ _ _ _ _ _ c.self.invariant c.in_ok-secret.ensures c.remove.ensures c.release.ensures
