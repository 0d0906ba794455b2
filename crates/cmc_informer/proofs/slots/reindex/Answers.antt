use Rattle.cmc_informer.specs.Caches.{has_uid, is_owned_by}
use Rattle.cmc_informer.specs.Indexes.{is_key_under}
use Rattle.cmc_informer.proofs.Exchanging.{stands_alike}
use Rattle.cmc_informer.proofs.slots.reindex.Goals as goal

pub returns-then-are_alike-clause-owners : goal.returns-then-are_alike-clause-owners
returns-then-are_alike-clause-owners c =
    stands_alike (is_key_under c.args.owners.now) (λ u. is_owned_by u c.args.before.now) (λ u. is_owned_by u c.args.new.now) c.args.key.now c.requires.owned (c.are_alike.ensures c.if-are_alike.true).by_owner

pub returns-then-are_alike-clause-uids : goal.returns-then-are_alike-clause-uids
returns-then-are_alike-clause-uids c =
    stands_alike (is_key_under c.args.uids.now) (λ u. has_uid u c.args.before.now) (λ u. has_uid u c.args.new.now) c.args.key.now c.requires.had (c.are_alike.ensures c.if-are_alike.true).by_uid
