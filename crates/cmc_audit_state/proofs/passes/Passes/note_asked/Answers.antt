use Rattle.std.proofs.Common.{rules, refl}
use Rattle.cmc_audit_state.specs.OpenRows.{row_numbered, with_asked}
use Rattle.cmc_audit_state.proofs.Filing.{filed_still, tasks_changed}
use Rattle.cmc_audit_state.proofs.passes.Passes.note_asked.Goals as goal
use Rattle.cmc_audit_state.proofs.passes.Passes.note_asked.Goals.{in-Some, in_default+in-Some-1, in_default+in-None-1}

pub invariant_of-self : goal.invariant_of-self
unfolding row_numbered
invariant_of-self c =
    filed_still _ c.self.inside.rows.entries _ _ (tasks_changed c.args.number (with_asked c.args.asked) c.self.inside.rows.entries _ (λ row. (refl, refl)) (λ n. search rules))
    (elim c.match-get_mut.branch [ in-Some w ↦ rw w.self-inside-is c.self.invariant | in_default+in-Some-1 w ↦ rw w.self-inside-is c.self.invariant | in_default+in-None-1 w ↦ rw w.self-inside-is c.self.invariant ])
