use Rattle.std.proofs.Common.{take}
use Rattle.cmc_caches.specs.Affected.{KeepsKeys}
use Rattle.cmc_caches.proofs.gather.KeySet.add_all.Given as goal

abbrev pub invariant-loop-key : goal.invariant-loop-key
invariant-loop-key l = record {
  added : KeepsKeys (take l.key-index l.keys) l.self;
  keeps : KeepsKeys l.initial.self l.self;
}
