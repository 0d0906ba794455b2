use Rattle.cmc_collector.proofs.OneRow.{row_removed, rows_removed}
use Rattle.cmc_collector.proofs.rows.Rows.remove.Goals as goal

pub returns-clause-same : goal.returns-clause-same
returns-clause-same c = rw (← c.self.view_is) (row_removed c.self.inside.map.entries c.remove.new.self.entries c.args.key.now (rw c.self.view_is c.requires) c.remove.ensures.updates.0)

pub returns-clause-keeps : goal.returns-clause-keeps
returns-clause-keeps c = rw (← c.self.view_is) (rows_removed c.self.inside.map.entries c.remove.new.self.entries c.args.key.now c.remove.ensures.updates.0)
