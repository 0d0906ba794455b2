use Rattle.cmc_informer.proofs.Targeting.{targeting_keys}
use Rattle.cmc_informer.proofs.cache.Cache.by_secret.Goals as goal

pub returns : goal.returns
returns c =
    rw (← c.self.view_is) (targeting_keys c.self.inside.rows.slots c.self.inside.rows.targets c.args.namespace.now c.args.name.now c.in_ok-secret.secret c.in_ok-held.held c.in_ok-keys.keys
    c.in_ok-secret.ensures c.self.invariant.by_secret c.in_ok-held.ensures c.in_ok-keys.ensures)
