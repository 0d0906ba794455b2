use Rattle.std.proofs.Common.{◌≡◌, ◌++◌}
use Rattle.cmc_world.specs.Fed.{work_among}
use Rattle.cmc_world.proofs.fed_scripts.add_present.Given as goal

abbrev pub invariant-loop-key : goal.invariant-loop-key
invariant-loop-key l = l.keys.items ++ work_among l.role l.key-iterator ≡ l.fn.keys.items ++ work_among l.role l.objects.entries
