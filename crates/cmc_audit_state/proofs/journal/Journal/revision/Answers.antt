use Rattle.std.proofs.Common.{◌∙◌}
use Rattle.cmc_audit_state.specs.Journaled.{IsIndexOfWrites}
use Rattle.cmc_audit_state.proofs.journal.Journal.revision.Goals as goal

pub returns : goal.returns
unfolding IsIndexOfWrites
returns c = rw (← c.self.view_is) (c.get.ensures ∙ c.self.invariant.revisions c.args.uid)
