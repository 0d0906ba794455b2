use Rattle.std.proofs.Common.{take}
use Rattle.cmc_world.specs.Fed.{AreDeletedOf}
use Rattle.cmc_world.proofs.fed_scripts.deleted_of.Given as goal

abbrev pub invariant-loop-write : goal.invariant-loop-write
invariant-loop-write l = AreDeletedOf l.role (take l.write-index l.writes) l.keys.items
