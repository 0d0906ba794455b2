use Rattle.std.proofs.Common.{◌≡◌}
use Rattle.std.specs.BTreeMap.{is_at}
use Rattle.std.specs.Cmp.Lexicographic.{slice_cmp}
use Rattle.std.specs.Map.{lookup}
use Rattle.std.specs.Ordering.{nat_cmp}
use Rattle.cmc_objects.proofs.lookups.value_under.Given as goal

abbrev pub invariant-loop-name : goal.invariant-loop-name
invariant-loop-name g l = lookup (is_at (slice_cmp nat_cmp l.key)) l.name-iterator ≡ lookup (is_at (slice_cmp nat_cmp l.key)) l.map.entries
