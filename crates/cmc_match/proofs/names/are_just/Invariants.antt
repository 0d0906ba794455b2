use Rattle.std.proofs.Common.{◌≡◌, length, map}
use Rattle.cmc_x509.specs.Lists.{IsValueList}
use Rattle.cmc_match.specs.SubjectNames.{values_of}
use Rattle.cmc_match.proofs.names.are_just.Given as goal

-- the names are the texts where those that are left are the texts that are left
abbrev pub invariant-loop-kind : goal.invariant-loop-kind
invariant-loop-kind l = record {
  list : IsValueList l.rest;
  order : values_of l.rest ≡ map (λ text. (l.tag, text)) l.left → values_of l.alternative ≡ map (λ text. (l.tag, text)) l.texts;
}

abbrev pub decreases-loop-kind : goal.decreases-loop-kind
decreases-loop-kind l = length l.rest
