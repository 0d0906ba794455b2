-- What the steps of a script make of a collection.
use Rattle.std.specs.Prelude.{◌≡◌, ◌⊎◌, ℤ, ℕ, ◌<◌, ◌≤◌, Bool, true, false, List, [], ◌∷◌, length, Option, Some, None}
use Rattle.cmc_objects.specs.declared.object.Object.{Object}
use Rattle.cmc_objects.specs.declared.call.Call.TheVariants as calls
use Rattle.cmc_objects.specs.Objects.{key_of}
use Rattle.cmc_model.specs.Histories.{Setting}
use Rattle.cmc_model.specs.Objects.{object_at}
use Rattle.cmc_rules.specs.UserSteps.{apply_call}
use Rattle.cmc_collector.specs.declared.entry.CollectEntry.{CollectEntry}
use Rattle.cmc_collector.specs.declared.entry.Moment.{Moment}
use Rattle.cmc_collect_moves.specs.declared.moves.CollectLack.{CollectLack}
use Rattle.cmc_collect_moves.specs.declared.moves.CollectMove.{CollectMove}
use Rattle.cmc_collect_moves.specs.declared.moves.CollectMove.TheVariants as moves
use Rattle.cmc_collect_moves.specs.declared.moves.Collected.{Collected}
use Rattle.cmc_collect_moves.specs.declared.moves.Collected.TheVariants.{Done, NotNow, Spent}
use Rattle.cmc_collector.specs.Moves.{IsEntry, lack, with_entry}
use Rattle.cmc_collector.specs.Replays.{Collecting, on, stored_objects}
use Rattle.cmc_collector.specs.Settles.{IsSettled, Settles}
use Rattle.cmc_collect_form.specs.Steps.{moment_after}
use Rattle.cmc_collect_form.specs.declared.script.CollectScript.{CollectScript}
use Rattle.cmc_collect_form.specs.declared.script.CollectStep.{CollectStep}
use Rattle.cmc_collect_form.specs.declared.script.CollectStep.TheVariants.{Apply, Delete, Tick, Deliver, Examine, Settle}

-- the collection before the first step
abbrev pub first_collecting : CollectScript → Collecting
first_collecting script = record { window = script.window; faults = script.faults; events = script.events; moments = [] }

-- a user applies the object to what exists: it is created where its key is free, and else updated
abbrev pub applying : Object → Option ℕ → Setting → List Moment → CollectMove
applying object version s ms = moves.User (apply_call object version (object_at (stored_objects s ms) (key_of object)))

-- a move that is not possible now makes nothing, any other one entry, for which there is room
abbrev pub MovedWith : Option CollectLack → ℤ → CollectMove → Collecting → Collecting → Type 0
MovedWith (Some why) now move old new = new ≡ old
MovedWith None now move old new = (length old.moments < old.events) × ((e : CollectEntry) × on (IsEntry move e) old × (new ≡ with_entry now e old))

abbrev pub Moved : ℤ → CollectMove → Collecting → Collecting → Type 0
Moved now move old new = MovedWith (on (lack move) old) now move old new

-- the move is possible now, and there is no room for its entry
abbrev pub LacksRoom : CollectMove → Collecting → Type 0
LacksRoom move c = (on (lack move) c ≡ None) × (c.events ≤ length c.moments)

-- entries of settling were made, and no others
abbrev pub Settling : ℤ → Collecting → Collecting → Type 0
Settling now old new = (new ≡ record old { moments = new.moments }) × on (Settles now) old new.moments

-- what a step makes at this moment
abbrev pub Stepped : ℤ → CollectStep → Collecting → Collecting → Type 0
Stepped now (Apply object version) old new = Moved now (on (applying object version) old) old new
Stepped now (Delete key version) old new = Moved now (moves.User (calls.Delete key version)) old new
Stepped now (Tick seconds) old new = new ≡ old
Stepped now (Deliver kind to) old new = Moved now (moves.Deliver kind to) old new
Stepped now (Examine key) old new = Moved now (moves.Examine key) old new
Stepped now Settle old new = Settling now old new × on IsSettled new

-- the step comes to an entry for which there is no room
abbrev pub StopsAtLimit : ℤ → CollectStep → Collecting → Type 0
StopsAtLimit now (Apply object version) c = LacksRoom (on (applying object version) c) c
StopsAtLimit now (Delete key version) c = LacksRoom (moves.User (calls.Delete key version)) c
StopsAtLimit now (Tick seconds) c = ⊥
StopsAtLimit now (Deliver kind to) c = LacksRoom (moves.Deliver kind to) c
StopsAtLimit now (Examine key) c = LacksRoom (moves.Examine key) c
StopsAtLimit now Settle c = (full : Collecting) × Settling now c full × (on IsSettled full → ⊥) × (full.events ≤ length full.moments)

-- the steps, of which the first comes at this moment, make the new collection of the old one
abbrev pub Made : List CollectStep → ℤ → Collecting → Collecting → Type 0
Made [] now old new = new ≡ old
Made (step ∷ steps) now old new = (middle : Collecting) × Stepped now step old middle × Made steps (moment_after now step) middle new

-- one of the steps comes to an entry for which there is no room, once those before it were made
abbrev pub SpendsEntries : List CollectStep → ℤ → Collecting → Type 0
SpendsEntries [] now c = ⊥
SpendsEntries (step ∷ steps) now c = StopsAtLimit now step c ⊎ ((middle : Collecting) × Stepped now step c middle × SpendsEntries steps (moment_after now step) middle)

-- whether all steps were made, or one of them stops
abbrev pub AreMade : Bool → ℤ → List CollectStep → Collecting → Collecting → Type 0
AreMade true now steps old new = Made steps now old new
AreMade false now steps old new = SpendsEntries steps now old

-- after this answer the script goes on: there was room for the entry, where there is one
abbrev pub collect_goes_on : Collected → Bool
collect_goes_on Done = true
collect_goes_on (NotNow why) = true
collect_goes_on (Spent entries) = false

-- whether the step was made, or stops
abbrev pub IsStepped : Bool → ℤ → CollectStep → Collecting → Collecting → Type 0
IsStepped true now step old new = Stepped now step old new
IsStepped false now step old new = StopsAtLimit now step old

-- the same of a move
abbrev pub IsMoved : Bool → ℤ → CollectMove → Collecting → Collecting → Type 0
IsMoved true now move old new = Moved now move old new
IsMoved false now move old new = LacksRoom move old
