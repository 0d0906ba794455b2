use Rattle.std.proofs.Common.{◌≡◌, ◌==◌, ℕ, Option, sym, subst}
use Rattle.std.specs.Prelude.{if◌then◌else◌, option_map}
use Rattle.cmc_audit_state.specs.declared.row.Version.{Version}
use Rattle.cmc_audit_state.specs.OpenRows.{open_row_at, with_asked}
use Rattle.cmc_audit_ledger.proofs.Events.{asked_on}
use Rattle.cmc_audit_ledger.proofs.ledger.Ledger.ask.Goals as goal

pub returns-clause-follows : goal.returns-clause-follows
returns-clause-follows c = λ s h order same low is.
    asked_on s h c.args.self.now c.note_asked.new.self c.args.pass order low c.note_asked.ensures.begun
    (subst (λ (a : Option Version). (n : ℕ) → open_row_at c.note_asked.new.self n ≡ (if n == c.args.pass then option_map (with_asked a) (open_row_at c.args.self.now.passes n) else open_row_at c.args.self.now.passes n)) (sym same) c.note_asked.ensures.rows) is
