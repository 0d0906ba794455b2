use Rattle.std.proofs.Common.{rules, refl}
use Rattle.cmc_audit_state.specs.declared.row.Row.{Row}
use Rattle.cmc_audit_state.specs.OpenRows.{row_numbered}
use Rattle.cmc_audit_state.proofs.Filing.{filed_still, tasks_changed}
use Rattle.cmc_audit_state.proofs.passes.Passes.note_yes.Goals as goal

pub invariant_of-self : goal.invariant_of-self
unfolding row_numbered
invariant_of-self c =
    filed_still _ c.self.inside.rows.entries _ _ (tasks_changed c.args.number (λ (row : Row). record row { yeses = c.approve.new.row.yeses }) c.self.inside.rows.entries _ (λ row. (refl, refl)) (λ n. search rules)) c.self.invariant
