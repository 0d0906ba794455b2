use Rattle.std.proofs.Common.{◌≡◌, ◌++◌}
use Rattle.cmc_caches.proofs.gather.KeySet.to_keys.Given as goal

abbrev pub invariant-loop-key : goal.invariant-loop-key
invariant-loop-key l = l.keys ++ l.key-iterator ≡ l.fn.self
