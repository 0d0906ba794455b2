use Rattle.std.proofs.Common.{◌≡◌}
use Rattle.serde_json.specs.Data.{string, no_members}
use Rattle.cmc_print.specs.Puts.{put_all}
use Rattle.cmc_print.specs.Trees.{members_of}
use Rattle.cmc_print.proofs.puts.pairs_tree.Given as goal

abbrev pub invariant-loop-name : goal.invariant-loop-name
invariant-loop-name l = put_all string l.name-iterator (members_of l.members) ≡ put_all string l.pairs.entries no_members
