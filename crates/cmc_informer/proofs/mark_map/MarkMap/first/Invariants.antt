use Rattle.std.proofs.Common.{◌≡◌}
use Rattle.cmc_informer.specs.Indexes.{on_keys}
use Rattle.cmc_informer.proofs.mark_map.MarkMap.first.Given as goal

abbrev pub invariant-loop-key : goal.invariant-loop-key
invariant-loop-key l = on_keys l.key-iterator ≡ on_keys l.fn.self
