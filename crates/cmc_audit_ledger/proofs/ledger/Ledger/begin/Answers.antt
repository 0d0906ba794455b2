use Rattle.std.proofs.Common.{ℤ, length, subst, rules, w64}
use Rattle.std.proofs.lemmas.Int.{to_z-of_z}
use Rattle.cmc_audit_state.specs.Standings.{standing_of}
use Rattle.cmc_audit_ledger.specs.Starts.{IsFirst}
use Rattle.cmc_audit_ledger.proofs.Events.{begun_on}
use Rattle.cmc_audit_ledger.proofs.ledger.Ledger.begin.Goals as goal

pub returns-clause-follows : goal.returns-clause-follows
returns-clause-follows c = λ s h pass at now numbered present is.
    begun_on s h c.args.self.now c.begin.new.self pass c.args.role c.args.key.now at now c.in_ok-row.row numbered present (subst (λ (x : ℤ). IsFirst (standing_of c.args.self.now.standings c.args.role) (length c.args.self.now.journal) x c.args.role c.args.key.now c.in_ok-row.row) (to_z-of_z w64 c.args.self.now.moment (search rules)) (rw (c.get.ensures, c.accepted.ensures) at c.in_ok-row.ensures)) c.in_ok-begin.ensures.begun c.in_ok-begin.ensures.rows is
