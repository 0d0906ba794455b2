use Rattle.cmc_audit_state.proofs.Adding.{key_more}
use Rattle.cmc_audit_state.proofs.owned.KeySet.add.Goals as goal

pub returns : goal.returns
returns c = rw (← c.self.view_is) (key_more c.self.inside.set.keys c.insert.new.self.keys c.args.key c.in_ok-insert.ensures.updates.0)
