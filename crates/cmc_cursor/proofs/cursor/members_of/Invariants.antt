use Rattle.std.proofs.Common.{◌≡◌, map, ◌++◌}
use Rattle.serde_json.specs.View.{members_view}
use Rattle.cmc_cursor.specs.Members.{fields_of}
use Rattle.cmc_cursor.specs.Seen.{shown}
use Rattle.cmc_cursor.proofs.cursor.members_of.Given as goal

abbrev pub invariant-loop-name : goal.invariant-loop-name
invariant-loop-name l = map shown l.items.items ++ fields_of (members_view l.name-iterator) ≡ fields_of (members_view l.members.entries)
