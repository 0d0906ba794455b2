use Rattle.std.proofs.Common.{sym, ap, ◌∙◌}
use Rattle.cmc_model.specs.Objects.{object_at}
use Rattle.cmc_informer.specs.Caches.{is_owned_by, objects_in}
use Rattle.cmc_informer.specs.Indexes.{is_key_under}
use Rattle.cmc_informer.proofs.Changing.{object_at-slots, keys_alike}
use Rattle.cmc_informer.proofs.cache.Cache.owned_by.Goals as goal

pub returns : goal.returns
returns c =
    rw (← c.self.view_is) (keys_alike c.in_ok-keys.keys (λ k. is_key_under c.self.inside.rows.owners c.args.uid k) (λ k. is_owned_by c.args.uid (object_at (objects_in c.self.inside.rows.slots) k)) c.in_ok-keys.ensures
    (λ k. c.self.invariant.by_owner c.args.uid k ∙ ap (is_owned_by c.args.uid) (sym (object_at-slots c.self.inside.rows.slots k))))
