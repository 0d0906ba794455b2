use Rattle.std.proofs.Common.{◌∙◌}
use Rattle.cmc_audit_state.specs.Journaled.{IsIndexOfWrites}
use Rattle.cmc_audit_state.proofs.journal.Journal.is_denied.Goals as goal

pub returns : goal.returns
unfolding IsIndexOfWrites
returns c = rw (← c.self.view_is) (c.has.ensures ∙ c.self.invariant.denied c.args.uid)
