use Rattle.std.proofs.Common.{arith}
use Rattle.cmrun.proofs.Prefixes.{prefix_of_lines}
use Rattle.cmrun.proofs.sink.write_lines.Goals as goal

pub returns-in-Err-clause-err : goal.returns-in-Err-clause-err
returns-in-Err-clause-err g c = prefix_of_lines _ _ _ c.args.lines.now c.loop-line.line-index c.line-item.result (omega arith) c.line-item.is c.loop-line.invariant.written (rw c.as_bytes.ensures.value at c.in-Err.ensures.err)
