-- What a work queue keeps of one key, and what each call makes of it.
use Rattle.std.specs.Prelude.{ℕ, ℤ, ◌==◌, ◌&&◌, not, Bool, true, false, List, Option, Some, None, if◌then◌else◌, int_le, nat_le, is_some}
use Rattle.std.specs.Map.{lookup}
use Rattle.cmc_meta.specs.declared.key.Key.{Key}
use Rattle.cmc_meta.specs.declared.key.Kind.{Kind}
use Rattle.cmc_meta.specs.Keys.{key_eq, kind_rank}
use Rattle.cmc_queue.specs.declared.row.Found.{Found}
use Rattle.cmc_queue.specs.declared.row.Found.TheVariants.{Unknown, Nothing, Something}
use Rattle.cmc_queue.specs.declared.row.Parked.{Parked}
use Rattle.cmc_queue.specs.declared.row.Row.{Row}
use Rattle.cmc_queue.specs.declared.row.Sort.{Sort}
use Rattle.cmc_queue.specs.declared.row.Sort.TheVariants.{Free, Fresh, Pending, Found as Finding}

-- nothing is to be done
abbrev pub no_row : Row
no_row = record { ready = false; work = Unknown; working = false; parked = None; timed = None }

-- the key can be given: it is ready, and not in process
abbrev pub is_free : Row → Bool
is_free row = row.ready && not row.working

-- the key is ready
abbrev pub added : Row → Row
added row = record row { ready = true; work = Unknown }

-- nothing was found out since the key changed
abbrev pub is_unknown : Found → Bool
is_unknown Unknown = true
is_unknown Nothing = false
is_unknown Something = false

-- the key can be given, and is to be looked at
abbrev pub is_fresh : Row → Bool
is_fresh row = is_free row && is_unknown row.work

-- there may be something to do
abbrev pub may_work : Found → Bool
may_work Unknown = true
may_work Nothing = false
may_work Something = true

-- the key can be given, and there may be something to do
abbrev pub is_pending : Row → Bool
is_pending row = is_free row && may_work row.work

-- a look found that there is something to do
abbrev pub is_something : Found → Bool
is_something Unknown = false
is_something Nothing = false
is_something Something = true

-- and nothing has changed since
abbrev pub is_found : Row → Bool
is_found row = is_something row.work

-- whether the row is one that a search of the sort asks for
abbrev pub qualifies : Sort → Row → Bool
qualifies Free = is_free
qualifies Fresh = is_fresh
qualifies Pending = is_pending
qualifies Finding = is_found

-- a key that can be given is in process, and no longer ready
abbrev pub taken : Row → Row
taken row = if is_free row then record row { ready = false; work = Unknown; working = true } else row

-- this is what a look at the key found
abbrev pub looked : Found → Row → Row
looked work row = record row { work = work }

-- a look found that the key may be left alone
abbrev pub left : Row → Row
left row = record row { ready = false; work = Unknown }

-- the key is no longer in process
abbrev pub ended : Row → Row
ended row = record row { working = false }

-- ---- what waits for a version of a kind

-- the key waits for this version of the kind, in place of what it waited for
abbrev pub parked_for : Kind → ℕ → Row → Row
parked_for kind version row = record row { parked = Some (record { kind = kind; version = version }) }

-- what the key waits for is of the kind, and at this version or before
abbrev pub is_reached : Kind → ℕ → Option Parked → Bool
is_reached kind to None = false
is_reached kind to (Some p) = (kind_rank p.kind == kind_rank kind) && nat_le p.version to

-- the kind was told of up to a version: a key that waited for it is ready, and no longer waits
unfoldable pub moved : Kind → ℕ → Row → Row
moved kind to row = if is_reached kind to row.parked then record row { ready = true; work = Unknown; parked = None } else row

-- ---- what waits for a moment

-- the earlier of a moment and the one that exists
abbrev pub earlier : ℤ → Option ℤ → ℤ
earlier at None = at
earlier at (Some old) = if int_le old at then old else at

-- the key is timed at this moment, or at the earlier one that exists
abbrev pub timed_at : ℤ → Row → Row
timed_at at row = record row { timed = Some (earlier at row.timed) }

-- a moment stands, and has come
abbrev pub is_due : ℤ → Option ℤ → Bool
is_due now None = false
is_due now (Some at) = int_le at now

-- that there is something to do is not known for the next moment
abbrev pub lapsed : Found → Found
lapsed Unknown = Unknown
lapsed Nothing = Nothing
lapsed Something = Unknown

-- it is now: a key whose moment has come is ready, and no longer timed; of each other key what was found lapses
unfoldable pub ticked : ℤ → Row → Row
ticked now row = if is_due now row.timed then record row { ready = true; work = Unknown; timed = None } else record row { work = lapsed row.work }

-- ---- the rows of all keys

abbrev pub row_or_new : Option Row → Row
row_or_new None = no_row
row_or_new (Some row) = row

-- the row of the key
unfoldable pub row_in : List (Key × Row) → Key → Row
row_in rows key = row_or_new (lookup (key_eq key) rows)

-- whether a change of the key's row takes no memory
unfoldable pub has_row : List (Key × Row) → Key → Bool
has_row rows key = is_some (lookup (key_eq key) rows)
