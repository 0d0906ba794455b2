use Rattle.std.proofs.Common.{◌≡◌, ◌≤◌, ◌-◌, vec_len}
use Rattle.std.specs.Io.KnownBytes.{Consumes}
use Rattle.cmrun.proofs.source.read_all.Given as goal

abbrev pub invariant-loop-count : goal.invariant-loop-count
invariant-loop-count g l = record {
  consumed : Consumes (g.S.Source.left l.fn.source) (g.S.Source.left l.source) l.bytes.items;
  within : vec_len l.bytes ≤ l.fn.limit;
  faults : g.S.Source.faults l.source ≡ g.S.Source.faults l.fn.source;
}

abbrev pub decreases-loop-count : goal.decreases-loop-count
decreases-loop-count g l = l.fn.limit - vec_len l.bytes
