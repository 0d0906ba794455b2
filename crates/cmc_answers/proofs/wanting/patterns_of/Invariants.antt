use Rattle.std.proofs.Common.{◌≡◌, take}
use Rattle.cmc_answers.proofs.wanting.patterns_of.Given as goal

abbrev pub invariant-loop-text : goal.invariant-loop-text
invariant-loop-text l = l.patterns ≡ take l.text-index l.text-items
