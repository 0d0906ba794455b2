use Rattle.std.proofs.Common.{◌≡◌, length}
use Rattle.cmc_x509.specs.Lists.{IsValueList}
use Rattle.cmc_match.specs.Sets.{is_among}
use Rattle.cmc_match.specs.SubjectNames.{names_tagged, values_of}
use Rattle.cmc_match.proofs.names.has_name.Given as goal

abbrev pub invariant-loop-kind : goal.invariant-loop-kind
invariant-loop-kind l = record {
  list : IsValueList l.rest;
  left : is_among (names_tagged l.tag (values_of l.rest)) l.name ≡ is_among (names_tagged l.tag (values_of l.alternative)) l.name;
}

abbrev pub decreases-loop-kind : goal.decreases-loop-kind
decreases-loop-kind l = length l.rest
