use Rattle.std.proofs.Common.{sym, ap, ◌∙◌}
use Rattle.std.specs.Prelude.{reverse}
use Rattle.cmc_audit_state.specs.Journaled.{IsIndexOfWrites, has_any_version}
use Rattle.cmc_audit_state.proofs.Latest.{known_listed}
use Rattle.cmc_audit_state.proofs.journal.Journal.knows.Goals as goal

pub returns : goal.returns
unfolding IsIndexOfWrites
returns c = rw (← c.self.view_is) (c.knows.ensures ∙ ap has_any_version (c.self.invariant.versions c.args.key.now) ∙ sym (known_listed c.args.key.now (reverse c.self.inside.items.items)))
