use Rattle.std.proofs.Common.{◌≡◌, ◌≤◌, reverse}
use Rattle.cmc_meta.specs.declared.key.Key.{Key}
use Rattle.cmc_informer.specs.Indexes.{mark_in}
use Rattle.cmc_informer.specs.Watches.{is_changed}
use Rattle.cmc_informer.proofs.watch.mark_writes.Given as goal

abbrev pub invariant-loop-place : goal.invariant-loop-place
invariant-loop-place l = record {
  marks : (k : Key) → mark_in l.marks k ≡ is_changed l.kind l.from l.place (reverse l.writes) k;
  above : l.from ≤ l.place;
}
