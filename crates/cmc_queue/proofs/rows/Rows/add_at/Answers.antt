use Rattle.std.proofs.Common.{ap, sym, ◌∙◌}
use Rattle.cmc_queue.specs.Rows.{added}
use Rattle.cmc_queue.proofs.OneRow.{found_at, row_found}
use Rattle.cmc_queue.proofs.Waits.{added_stays, changed_by_nothing, changed_by_put}
use Rattle.cmc_queue.proofs.rows.Rows.add_at.Goals as goal

pub returns-then-is_unknown-clause-rows : goal.returns-then-is_unknown-clause-rows
returns-then-is_unknown-clause-rows c =
    let es = c.self.inside.map.entries in
    rw (← c.self.view_is) (λ key is.
    let mine = row_found es key c.args.row (found_at es c.args.at key c.args.row c.len-len.ensures.unique is) in
    changed_by_nothing added es key (ap added mine ∙ added_stays c.args.row c.if-row.true (sym c.is_unknown.ensures ∙ c.if-is_unknown.true) ∙ sym mine))

pub returns-clause-rows : goal.returns-clause-rows
returns-clause-rows c =
    let es = c.self.inside.map.entries in
    let rows = (rw (← c.self.view_is) at c.write.ensures.rows) in
    rw (← c.self.view_is) (λ key is.
    let mine = row_found es key c.args.row (found_at es c.args.at key c.args.row c.len-len.ensures.unique is) in
    changed_by_put added es c.write.new.self key c.added.result (c.added.ensures ∙ ap added (sym mine)) (rows key is))
