use Rattle.std.proofs.Common.{length}
use Rattle.cmc_line_reading.specs.Bodies.{IsReadSoFar}
use Rattle.cmc_line_reading.proofs.history.read_body.Given as goal

abbrev pub invariant-loop-line : goal.invariant-loop-line
invariant-loop-line l = IsReadSoFar l.text l.left l.entries

abbrev pub decreases-loop-line : goal.decreases-loop-line
decreases-loop-line l = length l.left
