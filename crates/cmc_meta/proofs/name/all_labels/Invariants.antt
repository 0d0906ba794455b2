use Rattle.std.proofs.Common.{◌≡◌, ◌≤◌, ◌-◌, take, drop}
use Rattle.std.specs.List.{list_all}
use Rattle.cmc_meta.specs.Names.{is_label, labels_from, has_labels}
use Rattle.cmc_meta.proofs.name.all_labels.Given as goal

abbrev pub invariant-loop-i : goal.invariant-loop-i
invariant-loop-i l = record {
  within : l.start ≤ l.i;
  same : list_all is_label (labels_from (take (l.i - l.start) (drop l.start l.bytes)) (drop l.i l.bytes)) ≡ has_labels l.bytes;
}
