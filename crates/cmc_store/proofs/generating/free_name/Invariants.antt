use Rattle.std.proofs.Common.{◌≡◌, ◌+◌}
use Rattle.cmc_model.specs.Generated as spec
use Rattle.cmc_store.proofs.generating.free_name.Given as goal

-- the number that is found from here is the one that is looked for
abbrev pub invariant-loop-room : goal.invariant-loop-room
invariant-loop-room l = record {
  sum : l.room + l.number ≡ l.fn.version + l.fn.version;
  found : spec.free_from l.room (spec.has_number l.fn.catalogue l.fn.object) l.number ≡ spec.free_from l.fn.version (spec.has_number l.fn.catalogue l.fn.object) l.fn.version;
}

abbrev pub decreases-loop-room : goal.decreases-loop-room
decreases-loop-room l = l.room
