use Rattle.std.proofs.Common.{rules}
use Rattle.cmc_audit_state.specs.OpenRows.{row_numbered}
use Rattle.cmc_audit_state.proofs.Filing.{filed_none}
use Rattle.cmc_audit_state.proofs.passes.Passes.new.Goals as goal

pub invariant_of-result : goal.invariant_of-result
unfolding row_numbered
invariant_of-result c = filed_none c.new.result.entries c.new-2.result.entries (λ n. search rules)
