use Rattle.std.proofs.Common.{◌≡◌, ◌++◌}
use Rattle.cmc_objects.proofs.material.copy_entries.Given as goal

abbrev pub invariant-loop-certificate : goal.invariant-loop-certificate
invariant-loop-certificate l = l.material ++ l.certificate-iterator ≡ l.entries.entries
