use Rattle.cmc_store.proofs.ClaimLaws.{index_empty}
use Rattle.cmc_store.proofs.catalogue.Catalogue.new.Goals as goal

pub invariant_of-result : goal.invariant_of-result
invariant_of-result c = rw (c.new.ensures, c.new-2.ensures) index_empty
