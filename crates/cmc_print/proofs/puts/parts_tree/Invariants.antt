use Rattle.std.proofs.Common.{◌≡◌}
use Rattle.serde_json.specs.Data.{no_members}
use Rattle.cmc_print.specs.Puts.{put_all, base64_text}
use Rattle.cmc_print.specs.Trees.{members_of}
use Rattle.cmc_print.proofs.puts.parts_tree.Given as goal

abbrev pub invariant-loop-name : goal.invariant-loop-name
invariant-loop-name l = put_all base64_text l.name-iterator (members_of l.members) ≡ put_all base64_text l.parts.entries no_members
