use Rattle.std.proofs.Common.{◌≡◌, []}
use Rattle.serde_json.specs.View.{members_view}
use Rattle.cmc_cursor.specs.Readers.{parts_with}
use Rattle.cmc_cursor.proofs.contents.parts_of.Given as goal

abbrev pub invariant-loop-name : goal.invariant-loop-name
invariant-loop-name l = parts_with l.parts (members_view l.name-iterator) ≡ parts_with [] (members_view l.members.entries)
