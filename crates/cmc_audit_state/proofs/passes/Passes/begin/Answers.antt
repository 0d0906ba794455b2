use Rattle.std.proofs.Common.{◌≡◌, ℕ, ◌+◌, List, true, rules, sym, subst}
use Rattle.cmc_audit_state.specs.declared.row.Row.{Row}
use Rattle.cmc_audit_state.specs.OpenRows.{IsFiled, Opened, is_row_of, row_numbered}
use Rattle.cmc_audit_state.proofs.Filing.{filed_numbered, filed_begun, numbered_self, tasked}
use Rattle.cmc_audit_state.proofs.passes.Passes.begin.Goals as goal

pub invariant_of-self-in_err-insert-2 : goal.invariant_of-self-in_err-insert-2
invariant_of-self-in_err-insert-2 c =
    let numbers = tasked c.self.inside.numbers.entries c.insert.new.self.entries c.args.row.role c.args.row.key c.rank.result c.in_ok-copy.field-0 (c.self.inside.begun + 1) c.rank.ensures c.in_ok-copy.ensures (λ q. c.in_ok-insert.ensures.updates.0 q) in
    let free = subst (λ (p : Opened). (m : ℕ) → is_row_of c.args.row.role c.args.row.key (row_numbered p.rows m) ≡ true → ⊥) (sym c.self.view_is) (λ m on. c.requires.free (m, on)) in
    subst (λ (rows : List (ℕ × Row)). IsFiled c.self.inside.begun rows c.insert.new.self.entries) (sym c.in_err-insert-2.ensures.err)
    (filed_numbered c.self.inside.begun (c.self.inside.begun + 1) c.self.inside.rows.entries c.self.inside.numbers.entries c.insert.new.self.entries c.args.row.role c.args.row.key free numbers c.self.invariant)

pub invariant_of-self-2 : goal.invariant_of-self-2
unfolding row_numbered
invariant_of-self-2 c =
    let numbers = tasked c.self.inside.numbers.entries c.insert.new.self.entries c.args.row.role c.args.row.key c.rank.result c.in_ok-copy.field-0 (c.self.inside.begun + 1) c.rank.ensures c.in_ok-copy.ensures (λ q. c.in_ok-insert.ensures.updates.0 q) in
    let free = subst (λ (p : Opened). (m : ℕ) → is_row_of c.args.row.role c.args.row.key (row_numbered p.rows m) ≡ true → ⊥) (sym c.self.view_is) (λ m on. c.requires.free (m, on)) in
    filed_begun c.self.inside.begun c.self.inside.rows.entries c.insert-2.new.self.entries c.insert.new.self.entries c.args.row
    (numbered_self c.self.inside.numbers.entries c.insert.new.self.entries c.args.row.role c.args.row.key (c.self.inside.begun + 1) numbers)
    (λ m. search rules)
    (filed_numbered c.self.inside.begun (c.self.inside.begun + 1) c.self.inside.rows.entries c.self.inside.numbers.entries c.insert.new.self.entries c.args.row.role c.args.row.key free numbers c.self.invariant)
