use Rattle.std.proofs.Common.{◌≡◌, ◌-◌, ◌^◌, min, take}
use Rattle.cmc_model.specs.Admission as rules
use Rattle.cmc_admit.proofs.certificates.bytes_of.Given as goal

abbrev pub invariant-loop-text : goal.invariant-loop-text
invariant-loop-text l = l.bytes ≡ min (rules.bytes_of (take l.text-index l.texts)) (2 ^ 64 - 1)
