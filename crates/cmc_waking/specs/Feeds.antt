-- What each entry of a history makes of the row of a key in the work queue of its role.
use Rattle.std.specs.Prelude.{ℕ, ℤ, Bool, true, false, Option, Some, None}
use Rattle.cmc_meta.specs.declared.key.Kind.{Kind}
use Rattle.cmc_objects.specs.declared.entry.Positions.{Positions}
use Rattle.cmc_queue.specs.declared.row.Found.TheVariants.{Nothing, Something}
use Rattle.cmc_queue.specs.declared.row.Parked.{Parked}
use Rattle.cmc_queue.specs.declared.row.Row.{Row}
use Rattle.cmc_queue.specs.Rows.{added, ended, left, looked, moved, no_row, parked_for, taken, timed_at}
use Rattle.cmc_rules.specs.declared.progress.Ending.{Ending}
use Rattle.cmc_rules.specs.declared.progress.Ending.TheVariants as endings
use Rattle.cmc_waking.specs.Parked.{waits_for}

-- the key is ready at the moment too, if there is one
abbrev pub timed_too : Option ℤ → Row → Row
timed_too None row = row
timed_too (Some at) row = timed_at at row

-- the key waits for the version; where there is none to wait for, it is ready
abbrev pub waiting : Option Parked → Row → Row
waiting None row = added row
waiting (Some parked) row = parked_for parked.kind parked.version row

-- the key is ready, where it is listed
abbrev pub added_if : Bool → Row → Row
added_if true row = added row
added_if false row = row

-- the role was told of the kind up to a version; a key of which it may see something new is listed
abbrev pub row_delivered : Bool → Kind → ℕ → Row → Row
row_delivered listed kind to row = added_if listed (moved kind to row)

-- a pass began, and this is the next due moment of what it sees
abbrev pub row_begun : Option ℤ → Row → Row
row_begun next row = timed_too next (taken row)

-- a pass ended so. One that had nothing to do leaves the key as it is. After a write the key waits for the role's own write, and after a refusal for
-- what refused the pass; where the role is told of that already, and after a failure, the key is ready.
abbrev pub closed : Ending → Positions → Positions → Row → Row
closed endings.Nothing own at row = ended row
closed other own at row = waiting (waits_for other own at) (ended row)

-- the role started: each key of its work that a write named is ready
abbrev pub started : Bool → Row
started known = added_if known no_row

-- ---- looks

-- a pass may begin on the key, has nothing to do and sees something new
abbrev pub found_idle : Option ℤ → Row → Row
found_idle next row = timed_too next (looked Nothing row)

-- a pass may begin on the key, and has something to do
abbrev pub found_busy : Row → Row
found_busy row = looked Something row

-- there is nothing to do on the key, and nothing new to see
abbrev pub found_quiet : Option ℤ → Row → Row
found_quiet next row = timed_too next (left row)

-- no pass may begin on the key before the role is told of this version
abbrev pub found_parked : Parked → Row → Row
found_parked parked row = parked_for parked.kind parked.version (left row)
