-- Where the rows stand for which searches ask.
use Rattle.std.specs.Prelude.{◌≡◌, ℕ, ◌+◌, ◌<◌, ◌≤◌, Bool, true, false, List, length, Some}
use Rattle.std.specs.List.{slice_get}
use Rattle.std.specs.List.Sorted.{IsSorted}
use Rattle.std.specs.Map.{keys_of}
use Rattle.std.specs.Ordering.{is_lt}
use Rattle.std.specs.declared.cmp.Ordering.TheVariants.{Less}
use Rattle.cmc_meta.specs.declared.key.Key.{Key}
use Rattle.cmc_meta.specs.Keys.{key_cmp}
use Rattle.cmc_queue.specs.declared.row.Row.{Row}
use Rattle.cmc_queue.specs.declared.spots.Spot.{Spot}
use Rattle.cmc_queue.specs.Rows.{is_found, is_free, is_fresh, is_pending, no_row}
use Rattle.cmc_queue.specs.Queues.{count_of, one_if}

-- the test holds of no row before the place
abbrev pub HoldsOfNoneBefore : (Row → Bool) → List (Key × Row) → ℕ → Type 0
HoldsOfNoneBefore test rows place = (i : ℕ) (e : Key × Row) → i < place → slice_get rows i ≡ Some e → test e.1 ≡ false

-- the place is that of the first row from this one on of which the test holds, or the end
pub record IsPlaceFrom (test : Row → Bool) (rows : List (Key × Row)) (from place : ℕ) : Type 0 where
  pub before : (i : ℕ) (e : Key × Row) → from ≤ i → i < place → slice_get rows i ≡ Some e → test e.1 ≡ false
  pub here : (e : Key × Row) → slice_get rows place ≡ Some e → test e.1 ≡ true
  pub within : place ≤ length rows
  pub up : from ≤ length rows → from ≤ place

-- the place is that of the first row of which the test holds
pub record IsFirstAt (test : Row → Bool) (rows : List (Key × Row)) (place : ℕ) : Type 0 where
  pub row : Key × Row
  pub stands : slice_get rows place ≡ Some row
  pub holds : test row.1 ≡ true
  pub first : HoldsOfNoneBefore test rows place

-- of how many rows the test holds, and where the first of them stands, if there is one
pub record IsSpot (test : Row → Bool) (rows : List (Key × Row)) (spot : Spot) : Type 0 where
  pub count : spot.count ≡ count_of test rows
  pub first : 0 < spot.count → IsFirstAt test rows spot.first
  pub within : spot.first ≤ length rows

-- the rows are in the order of keys, and it is known where a search begins
pub record ArePlaced (rows : List (Key × Row)) (given waiting : Spot) (unknown something : ℕ) : Type 0 where
  pub sorted : IsSorted key_cmp (keys_of rows)
  pub free : IsSpot is_free rows given
  pub pending : IsSpot is_pending rows waiting
  pub fresh : unknown ≡ count_of is_fresh rows
  pub found : something ≡ count_of is_found rows

-- the row at the place was this one, and becomes that one; no other row changes
pub record IsRewritten (old new : List (Key × Row)) (at : ℕ) (was row : Row) : Type 0 where
  pub key : Key
  pub before : slice_get old at ≡ Some (key, was)
  pub after : slice_get new at ≡ Some (key, row)
  pub others : (i : ℕ) → (i ≡ at → ⊥) → slice_get new i ≡ slice_get old i
  pub long : length new ≡ length old
  pub counts : (test : Row → Bool) → count_of test new + one_if (test was) ≡ count_of test old + one_if (test row)

-- before the row at the place became that one the spot was right
abbrev pub WasSpot : (Row → Bool) → List (Key × Row) → ℕ → Row → Row → Spot → Type 0
WasSpot test rows at was row spot = (old : List (Key × Row)) × IsRewritten old rows at was row × IsSpot test old spot

-- a row with nothing to do is put in at the place
pub record IsPutIn (old new : List (Key × Row)) (key : Key) (at : ℕ) : Type 0 where
  pub here : slice_get new at ≡ Some (key, no_row)
  pub below : (i : ℕ) → i < at → slice_get new i ≡ slice_get old i
  pub above : (i : ℕ) → at ≤ i → slice_get new (i + 1) ≡ slice_get old i
  pub long : length new ≡ length old + 1
  pub counts : (test : Row → Bool) → test no_row ≡ false → count_of test new ≡ count_of test old

-- before the row was put in the spot was right
abbrev pub HadSpot : (Row → Bool) → List (Key × Row) → ℕ → Spot → Type 0
HadSpot test rows at spot = (old : List (Key × Row)) × (key : Key) × IsPutIn old rows key at × IsSpot test old spot

-- the place lies after all keys that are not above this one, and before all that are
pub record IsPlaceAbove (key : Key) (rows : List (Key × Row)) (place : ℕ) : Type 0 where
  pub below : (i : ℕ) (e : Key × Row) → i < place → slice_get rows i ≡ Some e → is_lt (key_cmp key e.0) ≡ false
  pub above : (i : ℕ) (e : Key × Row) → place ≤ i → slice_get rows i ≡ Some e → key_cmp key e.0 ≡ Less
  pub within : place ≤ length rows
