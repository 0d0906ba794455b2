use Rattle.std.proofs.Common.{◌≡◌, map, drop}
use Rattle.cmc_print.specs.Printed.{owner_tree}
use Rattle.cmc_writer.specs.Additions.{with_values}
use Rattle.cmc_object_lines.proofs.objects.add_owners.Given as goal

abbrev pub invariant-loop-owner : goal.invariant-loop-owner
invariant-loop-owner l = with_values l.printer (map owner_tree (drop l.owner-index l.owners)) ≡ with_values l.fn.printer (map owner_tree l.owners)
