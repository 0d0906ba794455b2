use Rattle.cmrun.proofs.Prefixes.{written_part, prefix_kept}
use Rattle.cmrun.proofs.sink.write_all.Goals as goal

pub returns-in-Err-clause-err : goal.returns-in-Err-clause-err
returns-in-Err-clause-err g c = written_part _ _ _ _ _ c.loop-rest.invariant.written (prefix_kept _ _ _ c.in-Err.ensures.bytes)
