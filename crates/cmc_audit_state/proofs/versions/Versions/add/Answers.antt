use Rattle.std.proofs.Common.{rules}
use Rattle.cmc_audit_state.specs.Journaled.{versions_in}
use Rattle.cmc_audit_state.proofs.Adding.{reversed_more}
use Rattle.cmc_audit_state.proofs.versions.Versions.add.Goals as goal

pub returns-in-Some : goal.returns-in-Some
unfolding versions_in
returns-in-Some c = search (rules, reversed_more)
