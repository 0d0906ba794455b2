use Rattle.std.proofs.Common.{◌≡◌, ◌+◌, ◌≤◌, length, filter, drop}
use Rattle.cmc_rules.specs.RevisionManager as spec
use Rattle.cmc_status.proofs.revising.count_of.Given as goal

-- those so far and those that are left are all
abbrev pub invariant-loop-request : goal.invariant-loop-request
invariant-loop-request l = record {
  all : l.count + length (filter spec.counts (drop l.request-index l.requests)) ≡ length (filter spec.counts l.requests);
  low : l.count ≤ l.request-index;
}
