-- What contracts see of the entries.
use Rattle.std.specs.Prelude.{ℕ, List}
use Rattle.cmc_collector.specs.declared.entry.Moment.{Moment}

pub record Recorded : Type 0 where
  -- the entries with their moments, the newest first
  pub moments : List Moment
  -- for how many entries there is room already
  pub spare : ℕ
