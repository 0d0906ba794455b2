use Rattle.std.proofs.Common.{sym, ◌∙◌}
use Rattle.cmc_informer.proofs.Changing.{object_at-slots}
use Rattle.cmc_informer.proofs.cache.Cache.get.Goals as goal

pub returns : goal.returns
returns c = rw (← c.self.view_is) (c.get.ensures ∙ sym (object_at-slots c.self.inside.rows.slots c.args.key.now))
