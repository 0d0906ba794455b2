use Rattle.cmc_audit_state.specs.OpenRows.{row_numbered}
use Rattle.cmc_audit_state.proofs.Filing.{low_found}
use Rattle.cmc_audit_state.proofs.passes.Passes.get.Goals as goal

pub returns-clause-low : goal.returns-clause-low
unfolding row_numbered
returns-clause-low c = rw (← c.self.view_is) (low_found c.self.inside.begun c.self.inside.rows.entries c.self.inside.numbers.entries c.args.number c.get.result c.get.ensures.value c.self.invariant)
