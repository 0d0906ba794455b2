use Rattle.cmc_store.proofs.ClaimLaws.{moved_as, undone_as}
use Rattle.cmc_store.proofs.catalogue.put_moved.Goals as goal

pub returns-in-Ok-clause-index : goal.returns-in-Ok-clause-index
returns-in-Ok-clause-index c =
    moved_as _ _ _ _ _ _ _ _ _ _ c.requires.index c.requires.key c.requires.free c.requires.old c.requires.moves c.in-Ok.ensures.ok c.in_ok-secret_of.ensures c.in_ok-copy.ensures c.in_ok-claim.ensures.ok c.release.ensures

pub returns-clause-index : goal.returns-clause-index
returns-clause-index c =
    undone_as _ _ _ _ _ _ _ _ _ _ _ c.requires.index c.requires.key c.requires.free c.requires.old c.requires.moves c.in-Err.ensures.err c.in_ok-secret_of.ensures c.in_ok-new.ensures c.in_ok-claim.ensures.ok c.release-in-Err.ensures
