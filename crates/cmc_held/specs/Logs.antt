-- What contracts see of the log of accepted writes.
use Rattle.std.specs.Prelude.{ℕ, List}
use Rattle.cmc_model.specs.declared.write.Write.{Write}

pub record Logged : Type 0 where
  -- the accepted writes, the newest first
  pub writes : List Write
  -- for how many writes there is room already
  pub spare : ℕ
