use Rattle.std.proofs.Common.{ap, sym, ◌∙◌}
use Rattle.cmc_queue.specs.Rows.{ticked}
use Rattle.cmc_queue.proofs.OneRow.{no_row_without}
use Rattle.cmc_queue.proofs.Ticking.{none_ticked}
use Rattle.cmc_queue.proofs.Waits.{changed_by_nothing}
use Rattle.cmc_queue.proofs.rows.Rows.tick.Goals as goal

pub returns-in_default-clause-rows : goal.returns-in_default-clause-rows
returns-in_default-clause-rows c =
    let none = no_row_without c.args.self.now c.args.key.now (sym c.in_default.ensures.has) in
    changed_by_nothing (ticked c.args.now) c.args.self.now c.args.key.now (ap (ticked c.args.now) none ∙ none_ticked c.args.now ∙ sym none)
