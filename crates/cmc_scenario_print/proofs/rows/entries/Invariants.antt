use Rattle.std.proofs.Common.{◌≡◌}
use Rattle.serde_json.specs.Data.{no_members}
use Rattle.cmc_print.specs.Trees.{members_of}
use Rattle.cmc_scenario_print.specs.RowTrees.{put_entries}
use Rattle.cmc_scenario_print.proofs.rows.entries.Given as goal

abbrev pub invariant-loop-certificate : goal.invariant-loop-certificate
invariant-loop-certificate l = put_entries l.certificate-iterator (members_of l.members) ≡ put_entries l.material.entries no_members
