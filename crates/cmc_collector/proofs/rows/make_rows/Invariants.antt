use Rattle.std.proofs.Common.{◌≡◌, take, true}
use Rattle.std.specs.BTreeMap.{is_at}
use Rattle.std.specs.List.{list_any}
use Rattle.cmc_meta.specs.declared.key.Key.{Key}
use Rattle.cmc_meta.specs.Keys.{key_cmp}
use Rattle.cmc_collector.specs.Rows.{has_examine_row, examination_under}
use Rattle.cmc_collector.proofs.rows.make_rows.Given as goal

abbrev pub invariant-loop-key : goal.invariant-loop-key
invariant-loop-key l = record {
  room : (k : Key) → list_any (is_at (key_cmp k)) (take l.key-index l.keys) ≡ true → has_examine_row l.rows k ≡ true;
  same : (k : Key) → examination_under l.rows k ≡ examination_under l.initial.rows k;
  keeps : (k : Key) → has_examine_row l.initial.rows k ≡ true → has_examine_row l.rows k ≡ true;
}
