use Rattle.std.proofs.Common.{◌≡◌, map, drop}
use Rattle.serde_json.specs.Data.{string}
use Rattle.cmc_writer.specs.Additions.{with_values}
use Rattle.cmc_object_lines.proofs.rows.add_texts.Given as goal

abbrev pub invariant-loop-text : goal.invariant-loop-text
invariant-loop-text l = with_values l.printer (map string (drop l.text-index l.texts)) ≡ with_values l.fn.printer (map string l.texts)
