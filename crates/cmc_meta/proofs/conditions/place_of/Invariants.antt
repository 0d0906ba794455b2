use Rattle.std.proofs.Common.{◌≡◌, ◌+◌, drop}
use Rattle.cmc_meta.specs.ConditionLists.{place_in}
use Rattle.cmc_meta.proofs.conditions.place_of.Given as goal

abbrev pub invariant-loop-i : goal.invariant-loop-i
invariant-loop-i l = (l.i + (place_in (drop l.i l.conditions) l.kind).0, (place_in (drop l.i l.conditions) l.kind).1) ≡ place_in l.conditions l.kind
