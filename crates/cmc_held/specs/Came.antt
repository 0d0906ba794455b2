-- What contracts see of the origins of passes.
use Rattle.std.specs.Prelude.{ℕ, List}
use Rattle.cmc_rules.specs.declared.progress.Origin.{Origin}

pub record Came : Type 0 where
  -- the origins, that of the newest pass first
  pub origins : List Origin
  -- for how many origins there is room already
  pub spare : ℕ
