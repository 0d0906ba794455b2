use Rattle.std.proofs.Common.{◌≡◌, length}
use Rattle.cmc_x509.specs.Lists.{IsValueList}
use Rattle.cmc_match.specs.Sets.{is_within}
use Rattle.cmc_match.specs.SubjectNames.{addresses, values_of, addresses_written}
use Rattle.cmc_match.proofs.names.has_no_other_address.Given as goal

abbrev pub invariant-loop-kind : goal.invariant-loop-kind
invariant-loop-kind l = record {
  list : IsValueList l.rest;
  left : is_within (addresses (values_of l.rest)) (addresses_written l.texts) ≡ is_within (addresses (values_of l.alternative)) (addresses_written l.texts);
}

abbrev pub decreases-loop-kind : goal.decreases-loop-kind
decreases-loop-kind l = length l.rest
