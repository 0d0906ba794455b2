-- What a rule that refuses answers.
use Rattle.std.specs.Prelude.{ℕ, Option, Some, None}
use Rattle.std.specs.declared.result.Result.{Result}
use Rattle.std.specs.declared.result.Result.TheVariants.{Ok, Err}
use Rattle.cmc_admit.specs.declared.admitting.Invalid.{Invalid}

-- no rule fails, or the least one that does refuses
abbrev pub outcome : Option ℕ → Result (Unit {0}) Invalid
outcome None = Ok tt
outcome (Some rule) = Err (record { rule = rule })
