use Rattle.std.proofs.Common.{drop, ◌↔◌}
use Rattle.cmc_setup.specs.Setups.{RiseFrom}
use Rattle.cmc_setup.proofs.fitting.rise.Given as goal

abbrev pub invariant-loop-number : goal.invariant-loop-number
invariant-loop-number l = RiseFrom l.last (drop l.number-index l.numbers) ↔ RiseFrom 0 l.numbers
