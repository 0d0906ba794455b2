use Rattle.std.proofs.Common.{◌≡◌, ◌≤◌}
use Rattle.cmc_meta.specs.Names.{leading}
use Rattle.cmc_meta.proofs.name.leading_bytes.Given as goal

abbrev pub invariant-loop-place : goal.invariant-loop-place
invariant-loop-place l = record {
  within : l.place ≤ 8;
  number_is : l.number ≡ leading l.place l.bytes;
}
