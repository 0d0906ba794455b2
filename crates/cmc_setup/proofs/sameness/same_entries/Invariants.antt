use Rattle.std.proofs.Common.{◌≡◌, ◌↔◌}
use Rattle.cmc_setup.proofs.sameness.same_entries.Given as goal

abbrev pub invariant-loop-certificate : goal.invariant-loop-certificate
invariant-loop-certificate l = (l.certificate-iterator ≡ l.others) ↔ (l.left.entries ≡ l.right.entries)
