use Rattle.std.proofs.Common.{subst}
use Rattle.cmc_meta.specs.declared.key.Key.{Key}
use Rattle.cmc_caches.proofs.Joins.{Adds, key_more}
use Rattle.cmc_caches.proofs.gather.KeySet.add.Goals as goal

pub returns : goal.returns
returns c =
    rw (← c.self.view_is)
    (subst (λ (k : Key). Adds k c.self.inside.set.keys c.insert.new.self.keys) c.in_ok-copy.ensures (key_more c.self.inside.set.keys c.insert.new.self.keys c.in_ok-copy.field-0 c.in_ok-insert.ensures.updates.0))
