use Rattle.std.proofs.Common.{◌≡◌, []}
use Rattle.serde_json.specs.View.{members_view}
use Rattle.cmc_cursor.specs.Readers.{pairs_with}
use Rattle.cmc_cursor.proofs.contents.pairs_of.Given as goal

abbrev pub invariant-loop-name : goal.invariant-loop-name
invariant-loop-name l = pairs_with l.pairs (members_view l.name-iterator) ≡ pairs_with [] (members_view l.members.entries)
