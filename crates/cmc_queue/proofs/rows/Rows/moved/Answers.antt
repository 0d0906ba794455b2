use Rattle.std.proofs.Common.{ap, refl, sym, ◌∙◌}
use Rattle.cmc_queue.specs.Rows.{moved, no_row}
use Rattle.cmc_queue.proofs.Moving.{untouched}
use Rattle.cmc_queue.proofs.OneRow.{no_row_without}
use Rattle.cmc_queue.proofs.Waits.{changed_by_nothing}
use Rattle.cmc_queue.proofs.rows.Rows.moved.Goals as goal

pub returns-in_default-clause-rows : goal.returns-in_default-clause-rows
returns-in_default-clause-rows c =
    let none = no_row_without c.args.self.now c.args.key.now (sym c.in_default.ensures.has) in
    changed_by_nothing (moved c.args.kind c.args.to) c.args.self.now c.args.key.now (ap (moved c.args.kind c.args.to) none ∙ untouched c.args.kind c.args.to no_row refl ∙ sym none)
