use Rattle.std.proofs.Common.{◌≡◌, length, filter}
use Rattle.std.specs.Prelude.{find}
use Rattle.cmc_match.specs.Revisions.{is_text_of, revision_text}
use Rattle.cmc_match.proofs.revisions.written.Given as goal

-- no request before those that are left is written in these digits
abbrev pub invariant-loop-request : goal.invariant-loop-request
invariant-loop-request l = record {
  first : find (λ r. is_text_of l.digits (revision_text r)) l.rest ≡ find (λ r. is_text_of l.digits (revision_text r)) l.requests;
  all : filter (λ r. is_text_of l.digits (revision_text r)) l.rest ≡ filter (λ r. is_text_of l.digits (revision_text r)) l.requests;
}

abbrev pub decreases-loop-request : goal.decreases-loop-request
decreases-loop-request l = length l.rest
