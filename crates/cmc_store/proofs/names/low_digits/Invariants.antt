use Rattle.std.proofs.Common.{◌≡◌, ◌++◌}
use Rattle.cmc_model.specs.Generated as spec
use Rattle.cmc_store.proofs.names.low_digits.Given as goal

-- the digits so far, and those of the rest
abbrev pub invariant-loop-room : goal.invariant-loop-room
invariant-loop-room l = l.digits.items ++ spec.low_digits l.room l.least l.rest ≡ spec.low_digits l.fn.at_most l.fn.at_least l.fn.number

abbrev pub decreases-loop-room : goal.decreases-loop-room
decreases-loop-room l = l.room
