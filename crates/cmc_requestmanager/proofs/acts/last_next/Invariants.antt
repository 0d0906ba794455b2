use Rattle.std.proofs.Common.{◌≡◌, None, filter, drop}
use Rattle.std.specs.Option.{option_copied}
use Rattle.std.specs.List.{last_or}
use Rattle.cmc_rules.specs.NextRequests.{is_next}
use Rattle.cmc_requestmanager.proofs.acts.last_next.Given as goal

-- the last of those so far and of those that are left is the last of all
abbrev pub invariant-loop-request : goal.invariant-loop-request
invariant-loop-request l =
    last_or (option_copied l.last) (filter (is_next l.certificate) (drop l.request-index l.requests)) ≡ last_or None (filter (is_next l.certificate) l.requests)
