-- Entries by their numbers.
use Rattle.std.specs.Prelude.{ℕ, List, Option, None, ◌-◌, ◌==◌, if◌then◌else◌, reverse, slice_get}
use Rattle.cmc_objects.specs.declared.entry.Entry.{Entry}

-- the entry of this number, from 1 and from the oldest on, of entries with the newest first
abbrev pub entry_at : List Entry → ℕ → Option Entry
entry_at entries number = if number == 0 then None else slice_get (reverse entries) (number - 1)
