use Rattle.std.proofs.Common.{◌≡◌, None, filter, drop}
use Rattle.std.specs.Option.{option_copied}
use Rattle.cmc_rules.specs.RevisionManager as spec
use Rattle.cmc_status.proofs.revising.oldest_in.Given as goal

-- the oldest of those so far and of those that are left is the oldest of all
abbrev pub invariant-loop-request : goal.invariant-loop-request
invariant-loop-request l = spec.oldest_from (option_copied l.oldest) (filter spec.counts (drop l.request-index l.requests)) ≡ spec.oldest_from None (filter spec.counts l.requests)
