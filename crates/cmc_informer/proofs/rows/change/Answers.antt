use Rattle.cmc_informer.specs.Caches.{has_uid, is_owned_by}
use Rattle.cmc_informer.specs.Indexes.{is_key_under}
use Rattle.cmc_informer.proofs.Changing.{objects_changed, index_changed}
use Rattle.cmc_informer.proofs.Targeting.{led_changed}
use Rattle.cmc_informer.proofs.rows.change.Goals as goal

pub returns : goal.returns
returns c =
    record {
      objects = objects_changed c.args.rows.now.slots c.change.new.self c.args.key.now c.args.object c.change.ensures.slots;
      indexed = record {
        by_owner = index_changed (is_key_under c.args.rows.now.owners) (is_key_under c.change.new.owners) is_owned_by c.args.rows.now.slots c.change.new.self c.args.key.now c.args.object c.requires.indexed.by_owner c.change.ensures.owners c.change.ensures.slots;
        by_uid = index_changed (is_key_under c.args.rows.now.uids) (is_key_under c.change.new.uids) has_uid c.args.rows.now.slots c.change.new.self c.args.key.now c.args.object c.requires.indexed.by_uid c.change.ensures.uids c.change.ensures.slots;
        by_secret = led_changed c.args.rows.now.targets c.args.rows.now.slots c.change.new.self c.args.key.now c.args.object c.requires.indexed.by_secret c.requires.room.by_secret c.change.ensures.slots;
      };
      keeps = record { slots_kept = c.change.ensures.keeps; owners_kept = c.change.ensures.owners_keep; uids_kept = c.change.ensures.uids_keep; targets_kept = λ secret key points. points };
    }
