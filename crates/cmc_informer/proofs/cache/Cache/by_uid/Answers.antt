use Rattle.std.proofs.Common.{sym, ap, ◌∙◌}
use Rattle.std.specs.Option.{option_copied}
use Rattle.cmc_model.specs.Objects.{object_at}
use Rattle.cmc_informer.specs.Caches.{has_uid, objects_in}
use Rattle.cmc_informer.specs.Indexes.{is_key_under}
use Rattle.cmc_informer.proofs.Changing.{object_at-slots, found_alike}
use Rattle.cmc_informer.proofs.cache.Cache.by_uid.Goals as goal

pub returns : goal.returns
returns c =
    rw (← c.self.view_is) (found_alike (λ k. is_key_under c.self.inside.rows.uids c.args.uid k) (λ k. has_uid c.args.uid (object_at (objects_in c.self.inside.rows.slots) k)) (option_copied c.first.result) c.first.ensures
    (λ k. c.self.invariant.by_uid c.args.uid k ∙ ap (has_uid c.args.uid) (sym (object_at-slots c.self.inside.rows.slots k))))
