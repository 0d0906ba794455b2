use Rattle.std.proofs.Common.{◌≡◌}
use Rattle.cmc_print.specs.Puts.{base64_text}
use Rattle.cmc_writer.specs.Additions.{with_rows}
use Rattle.cmc_object_lines.specs.ObjectRows.{pair_rows}
use Rattle.cmc_object_lines.proofs.rows.add_parts.Given as goal

abbrev pub invariant-loop-name : goal.invariant-loop-name
invariant-loop-name l = with_rows l.printer (pair_rows base64_text l.name-iterator) ≡ with_rows l.fn.printer (pair_rows base64_text l.parts.entries)
