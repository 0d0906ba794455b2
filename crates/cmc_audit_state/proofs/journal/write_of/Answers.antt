use Rattle.std.proofs.Common.{◌≡◌, ℕ, ◌+◌, ◌-◌, reverse, sym, ap, ◌∙◌, arith}
use Rattle.cmc_model.specs.Writes.{write_at}
use Rattle.cmc_audit_state.proofs.Placing.{write_at-zero, write_at-kept}
use Rattle.cmc_audit_state.proofs.journal.write_of.Goals as goal

pub returns-then-version-eq0 : goal.returns-then-version-eq0
returns-then-version-eq0 c = rw c.if-version-eq0.true (sym (write_at-zero (reverse c.args.writes.now)))

pub returns : goal.returns
returns c =
    let one_more : c.args.version - 1 + 1 ≡ c.args.version = omega (arith, c.if-version-eq0.false) in
    c.write_in_place.ensures ∙ sym (write_at-kept c.args.writes.now (c.args.version - 1)) ∙ ap (λ (n : ℕ). write_at n (reverse c.args.writes.now)) one_more
