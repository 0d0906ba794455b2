use Rattle.std.proofs.Common.{◌≡◌, map, drop}
use Rattle.cmc_print.specs.Printed.{condition_tree}
use Rattle.cmc_writer.specs.Additions.{with_values}
use Rattle.cmc_object_lines.proofs.objects.add_conditions.Given as goal

abbrev pub invariant-loop-condition : goal.invariant-loop-condition
invariant-loop-condition l = with_values l.printer (map condition_tree (drop l.condition-index l.conditions)) ≡ with_values l.fn.printer (map condition_tree l.conditions)
