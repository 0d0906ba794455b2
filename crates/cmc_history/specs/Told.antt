-- What contracts see of a history.
use Rattle.std.specs.Prelude.{ℕ, List}
use Rattle.cmc_objects.specs.declared.entry.Entry.{Entry}

pub record Told : Type 0 where
  -- the entries, the newest first
  pub entries : List Entry
  -- for how many entries there is room already
  pub spare : ℕ
