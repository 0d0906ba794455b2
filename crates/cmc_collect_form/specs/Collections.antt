-- The form of the input of owner collection.
use Rattle.std.specs.Prelude.{◌≡◌, ℕ, ℤ, List, [], codes, Ok, Err}
use Rattle.std.specs.declared.result.Result.{Result}
use Rattle.serde_json.specs.Data.{Data}
use Rattle.cmc_cursor.specs.Members.{Path, Read, text_of, in_words, ◌>>=◌, Field, fields_at, optional_at, at_end}
use Rattle.cmc_cursor.specs.Readers.{floats_at}
use Rattle.cmc_material.specs.Lists.{member_or}
use Rattle.cmc_scenario.specs.Scenarios.{faults_at, start_moment_at, size_at, usual_moment}
use Rattle.cmc_collect_form.specs.declared.script.CollectScript.{CollectScript}
use Rattle.cmc_collect_form.specs.declared.script.CollectStep.{CollectStep}
use Rattle.cmc_collect_form.specs.declared.reading.BadCollection.{BadCollection}
use Rattle.cmc_collect_form.specs.declared.reading.BadCollection.TheVariants as bad
use Rattle.cmc_collect_form.specs.Steps.{AreInTime, script_at}

-- A size, this one where it is left out, and the members that are left.
unfoldable pub size_in : List ℕ → ℕ → List Field → Read (ℕ × List Field)
size_in name usual fs = do
  given ← optional_at name fs
  size ← member_or usual name size_at given.0
  Ok (size, given.1)

-- The steps, of which the first comes at this moment, and the window.
unfoldable pub ending_in : ℤ → List Field → Read (List CollectStep × ℕ)
ending_in now fs = do
  given ← optional_at (codes "script") fs
  steps ← script_at now given.0
  window ← size_in (codes "window") 1000 given.1
  end ← at_end window.1
  Ok (steps, window.0)

-- The script of an object's members, or the first failing path.
unfoldable pub collection_in : List Field → Read CollectScript
collection_in fs = do
  events ← size_in (codes "events") 100000 fs
  second ← optional_at (codes "faults") events.1
  faults ← member_or [] (codes "faults") faults_at second.0
  third ← optional_at (codes "now") second.1
  now ← member_or usual_moment (codes "now") start_moment_at third.0
  ending ← ending_in now third.1
  Ok (record { events = events.0; faults = faults; now = now; steps = ending.0; window = ending.1 })

unfoldable pub members_at : Data → Read CollectScript
members_at d = fields_at d >>= collection_in

-- The same, where no number in the whole value is kept as a float.
unfoldable pub collection_whole_at : Data → Read CollectScript
collection_whole_at d = do
  script ← members_at d
  none ← floats_at d
  Ok script

-- The script of a value, or the text of the first path that fails.
unfoldable pub collect_at : Data → Result CollectScript (List ℕ)
collect_at d = in_words (collection_whole_at d)

-- The text of a path, or memory ran out.
abbrev pub CollectionFailsAt : Path → BadCollection → Type 0
CollectionFailsAt path (bad.Path text) = text ≡ text_of path
CollectionFailsAt path bad.NoMemory = Unit {0}

-- The script keeps within the time of runs.
abbrev pub IsInTime : CollectScript → Type 0
IsInTime script = AreInTime script.now script.steps

-- What `read` answered is what the form gives; or memory ran out.
abbrev pub IsReading : Result CollectScript (List ℕ) → Result CollectScript BadCollection → Type 0
IsReading read (Ok script) = read ≡ Ok script
IsReading read (Err (bad.Path path)) = read ≡ Err path
IsReading read (Err bad.NoMemory) = Unit {0}
