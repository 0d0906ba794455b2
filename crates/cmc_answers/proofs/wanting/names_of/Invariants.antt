use Rattle.std.proofs.Common.{◌≡◌, ◌++◌, length}
use Rattle.cmc_x509.specs.Lists.{IsValueList}
use Rattle.cmc_answers.specs.Wanted.{names_of_tag}
use Rattle.cmc_answers.proofs.wanting.names_of.Given as goal

abbrev pub invariant-loop-own : goal.invariant-loop-own
invariant-loop-own l = record {
  are_values : IsValueList l.rest;
  so_far : l.names ++ names_of_tag l.tag l.rest ≡ names_of_tag l.tag l.alternative;
}

abbrev pub decreases-loop-own : goal.decreases-loop-own
decreases-loop-own l = length l.rest
