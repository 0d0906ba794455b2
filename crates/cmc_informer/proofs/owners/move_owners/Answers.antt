use Rattle.cmc_informer.specs.Caches.{is_owned_by}
use Rattle.cmc_informer.specs.Indexes.{is_key_under}
use Rattle.cmc_informer.proofs.Exchanging.{reindexed}
use Rattle.cmc_informer.proofs.owners.move_owners.Goals as goal

pub returns-clause-stands : goal.returns-clause-stands
returns-clause-stands c =
    reindexed (is_key_under c.args.index.now) (is_key_under c.leave.new.index) (is_key_under c.enter.new.index) (λ u. is_owned_by u c.args.before.now) (λ u. is_owned_by u c.args.new.now) c.args.key.now
    c.requires.stood c.leave.ensures.stands c.enter.ensures.stands
