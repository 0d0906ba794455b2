use Rattle.cmc_audit_state.proofs.Adding.{key_only}
use Rattle.cmc_audit_state.proofs.owned.KeySet.only.Goals as goal

pub returns : goal.returns
returns c = key_only c.new-set.result.keys c.insert.new.self.keys c.args.key c.new-set.ensures.empty c.in_ok-insert.ensures.updates.0
