use Rattle.std.proofs.Common.{◌≡◌, take}
use Rattle.std.specs.Io.KnownBytes.{Appends}
use Rattle.cmrun.specs.Lines.{joined}
use Rattle.cmrun.proofs.sink.write_lines.Given as goal

abbrev pub invariant-loop-line : goal.invariant-loop-line
invariant-loop-line g l = record {
  written : Appends (g.K.Sink.holds l.fn.sink) (g.K.Sink.holds l.sink) (joined (take l.line-index l.lines));
  faults : g.K.Sink.faults l.sink ≡ g.K.Sink.faults l.fn.sink;
}
