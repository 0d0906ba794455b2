use Rattle.std.proofs.Common.{◌≡◌, length}
use Rattle.cmrun.proofs.Prefixes.{WrittenSoFar}
use Rattle.cmrun.proofs.sink.write_all.Given as goal

abbrev pub invariant-loop-rest : goal.invariant-loop-rest
invariant-loop-rest g l = record {
  written : WrittenSoFar (g.K.Sink.holds l.fn.sink) (g.K.Sink.holds l.sink) l.piece l.rest;
  faults : g.K.Sink.faults l.sink ≡ g.K.Sink.faults l.fn.sink;
}

abbrev pub decreases-loop-rest : goal.decreases-loop-rest
decreases-loop-rest g l = length l.rest
