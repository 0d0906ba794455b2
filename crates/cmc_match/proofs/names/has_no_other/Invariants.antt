use Rattle.std.proofs.Common.{◌≡◌, length}
use Rattle.cmc_x509.specs.Lists.{IsValueList}
use Rattle.cmc_match.specs.Sets.{is_within}
use Rattle.cmc_match.specs.SubjectNames.{names_tagged, values_of}
use Rattle.cmc_match.proofs.names.has_no_other.Given as goal

abbrev pub invariant-loop-kind : goal.invariant-loop-kind
invariant-loop-kind l = record {
  list : IsValueList l.rest;
  left : is_within (names_tagged l.tag (values_of l.rest)) l.texts ≡ is_within (names_tagged l.tag (values_of l.alternative)) l.texts;
}

abbrev pub decreases-loop-kind : goal.decreases-loop-kind
decreases-loop-kind l = length l.rest
