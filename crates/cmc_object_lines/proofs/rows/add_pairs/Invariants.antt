use Rattle.std.proofs.Common.{◌≡◌}
use Rattle.serde_json.specs.Data.{string}
use Rattle.cmc_writer.specs.Additions.{with_rows}
use Rattle.cmc_object_lines.specs.ObjectRows.{pair_rows}
use Rattle.cmc_object_lines.proofs.rows.add_pairs.Given as goal

abbrev pub invariant-loop-name : goal.invariant-loop-name
invariant-loop-name l = with_rows l.printer (pair_rows string l.name-iterator) ≡ with_rows l.fn.printer (pair_rows string l.pairs.entries)
