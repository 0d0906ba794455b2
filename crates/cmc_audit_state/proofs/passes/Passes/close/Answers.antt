use Rattle.std.proofs.Common.{rules}
use Rattle.cmc_audit_state.specs.OpenRows.{row_numbered}
use Rattle.cmc_audit_state.proofs.Filing.{filed_still, tasks_closed}
use Rattle.cmc_audit_state.proofs.passes.Passes.close.Goals as goal

pub invariant_of-self : goal.invariant_of-self
unfolding row_numbered
invariant_of-self c = filed_still _ c.self.inside.rows.entries _ _ (tasks_closed c.args.number c.self.inside.rows.entries _ (λ n. search rules)) c.self.invariant
