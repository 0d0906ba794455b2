use Rattle.std.proofs.Common.{sym, ◌∙◌}
use Rattle.cmc_queue.proofs.FirstRows.{spot_stays}
use Rattle.cmc_queue.proofs.spots.spot_after.Goals as goal

pub returns-then-now : goal.returns-then-now
returns-then-now c =
    let b = c.requires in
    spot_stays _ b.0 _ c.args.at c.args.was c.args.row b.1 c.args.spot b.2 (sym c.qualifies.ensures ∙ c.if-qualifies.true ∙ sym c.if-now.true ∙ c.qualifies-now.ensures)

pub returns : goal.returns
returns c =
    let b = c.requires in
    spot_stays _ b.0 _ c.args.at c.args.was c.args.row b.1 c.args.spot b.2 (sym c.qualifies.ensures ∙ c.if-qualifies.false ∙ sym c.if-now-2.false ∙ c.qualifies-now.ensures)
