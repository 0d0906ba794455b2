use Rattle.std.proofs.Common.{sym, refl, ◌∙◌}
use Rattle.cmc_collector.proofs.OneRow.{row_added}
use Rattle.cmc_collector.proofs.rows.Rows.room.Goals as goal

pub returns-clause-same : goal.returns-clause-same
returns-clause-same c =
    rw (← c.self.view_is)
    (row_added c.self.inside.map.entries c.insert.new.self.entries c.args.key.now c.in_ok-key.key _ refl (sym c.contains_key.ensures ∙ c.if-contains_key.false) c.in_ok-key.ensures c.in_ok-insert.ensures.updates.0)
