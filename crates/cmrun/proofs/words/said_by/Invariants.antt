use Rattle.std.proofs.Common.{◌≡◌, length}
use Rattle.std.specs.Prelude.{map, string_bytes}
use Rattle.cmrun.specs.Words.{given_by}
use Rattle.cmrun.specs.Said.{with_given}
use Rattle.cmrun.proofs.words.said_by.Given as goal

abbrev pub invariant-loop-word : goal.invariant-loop-word
invariant-loop-word l = with_given l.said (given_by (map string_bytes l.left)) ≡ given_by (map string_bytes l.words)

abbrev pub decreases-loop-word : goal.decreases-loop-word
decreases-loop-word l = length l.left
