use Rattle.std.proofs.Common.{sym}
use Rattle.cmc_audit_state.specs.OpenRows.{last_number_at}
use Rattle.cmc_audit_state.proofs.Filing.{on_number, off_number}
use Rattle.cmc_audit_state.proofs.passes.Passes.is_on.Goals as goal

pub returns-in-Some : goal.returns-in-Some
unfolding last_number_at
returns-in-Some c =
    rw (← c.self.view_is) (on_number c.self.inside.begun c.self.inside.rows.entries c.self.inside.numbers.entries c.args.role c.args.key.now c.in-Some.number.now c.is_number_on.result
    (rw (← c.rank.ensures, ← c.in_ok-copy.ensures) (sym c.in-Some.ensures.value)) c.is_number_on.ensures c.self.invariant)

pub returns : goal.returns
unfolding last_number_at
returns c =
    rw (← c.self.view_is) (off_number c.self.inside.begun c.self.inside.rows.entries c.self.inside.numbers.entries c.args.role c.args.key.now
    (rw (← c.rank.ensures, ← c.in_ok-copy.ensures) (sym c.in-None.ensures.value)) c.self.invariant)
