use Rattle.std.proofs.Common.{rules, refl}
use Rattle.cmc_audit_state.specs.OpenRows.{row_numbered, with_read}
use Rattle.cmc_audit_state.proofs.Filing.{filed_still, tasks_changed}
use Rattle.cmc_audit_state.proofs.passes.Passes.note_read.Goals as goal
use Rattle.cmc_audit_state.proofs.passes.Passes.note_read.Goals.{in-Some, in_default}

pub invariant_of-self : goal.invariant_of-self
unfolding row_numbered
invariant_of-self c =
    filed_still _ c.self.inside.rows.entries _ _ (tasks_changed c.args.number with_read c.self.inside.rows.entries _ (λ row. (refl, refl)) (λ n. search rules))
    (elim c.match-get_mut.branch [ in-Some w ↦ rw w.self-inside-is c.self.invariant | in_default w ↦ rw w.self-inside-is c.self.invariant ])
