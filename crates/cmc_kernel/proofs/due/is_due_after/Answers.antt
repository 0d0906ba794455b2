use Rattle.std.proofs.Common.{sym, rules, w64, ◌∙◌}
use Rattle.std.proofs.lemmas.Int.{to_z-of_z}
use Rattle.cmc_kernel.proofs.Idling.{due_unless_same, not_due_untold, none_told}
use Rattle.cmc_kernel.proofs.due.is_due_after.Goals as goal

pub returns-then-is_none : goal.returns-then-is_none
returns-then-is_none c =
    due_unless_same c.args.past.now c.args.seen.now c.args.now c.args.at c.is_same.result
    (sym c.own_above.ensures ∙ none_told c.own_above.result c.if-is_none.ensures)
    (rw (to_z-of_z w64 c.args.now (search rules)) at c.is_same.ensures)

pub returns-else-is_none : goal.returns-else-is_none
returns-else-is_none c =
    not_due_untold c.args.past.now c.args.seen.now c.args.now c.args.at c.own_above.result c.is_none.result c.own_above.ensures c.if-is_none.ensures c.if-is_none.false
