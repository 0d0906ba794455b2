-- The form of a scenario.
use Rattle.std.specs.Prelude.{◌≡◌, ℕ, ℤ, pos, List, [], ◌∷◌, ◌+◌, ◌&&◌, int_le, nat_lt, decimal, codes, if◌then◌else◌, Ok, Err}
use Rattle.std.specs.declared.result.Result.{Result}
use Rattle.serde_json.specs.Data.{Data, null, boolean, number, string, array, object, Items, no_items, item}
use Rattle.cmc_time.specs.TimeTexts.{rfc3339_seconds}
use Rattle.cmc_objects.specs.declared.entry.Step.{Step}
use Rattle.cmc_cursor.specs.Members.{Path, Read, text_of, in_words, ◌>>=◌, under, Field, fields_at, optional_at, at_end}
use Rattle.cmc_cursor.specs.Readers.{found, text_at, count_at, floats_at}
use Rattle.cmc_setup.specs.Setups.{Setup, first_moment, last_moment}
use Rattle.cmc_setup.specs.Stages.{first_stage}
use Rattle.cmc_setup.specs.declared.scenario.Scenario.{Scenario}
use Rattle.cmc_material.specs.Approvers.{approver_at, default_approver}
use Rattle.cmc_material.specs.Lists.{member_or, bounded_at}
use Rattle.cmc_material.specs.MaterialRows.{material_at}
use Rattle.cmc_scenario.specs.Roles.{roles_at}
use Rattle.cmc_scenario.specs.Scripts.{script_at}
use Rattle.cmc_scenario.specs.declared.members.World.{World}
use Rattle.cmc_scenario.specs.declared.members.Beginning.{Beginning}
use Rattle.cmc_scenario.specs.declared.reading.BadScenario.{BadScenario}
use Rattle.cmc_scenario.specs.declared.reading.BadScenario.TheVariants as bad

-- A size is 1 to 250,000.
abbrev pub size_at : Data → Read ℕ
size_at d = bounded_at 1 250000 d

-- A number above the one before it.
abbrev pub rising_at : ℕ → Data → Read ℕ
rising_at last d = count_at d >>= (λ k. if nat_lt last k then Ok k else Err [])

-- The numbers of a list whose places count from n, each above all before it.
abbrev pub rising_from : ℕ → ℕ → Items → Read (List ℕ)
rising_from n last no_items = Ok []
rising_from n last (item d ds) = under (decimal n) (rising_at last d) >>= (λ k. rising_from (n + 1) k ds >>= (λ ks. Ok (k ∷ ks)))

-- The numbers of the store calls that fail, from 1.
abbrev pub faults_at : Data → Read (List ℕ)
faults_at (array ds) = rising_from 0 0 ds
faults_at null = Err []
faults_at (boolean b) = Err []
faults_at (number n) = Err []
faults_at (string s) = Err []
faults_at (object ms) = Err []

-- A moment where runs lie.
abbrev pub in_run : ℤ → Read ℤ
in_run at = if int_le first_moment at && int_le at last_moment then Ok at else Err []

abbrev pub moment_in : List ℕ → Read ℤ
moment_in t = found (rfc3339_seconds t) >>= in_run

abbrev pub start_moment_at : Data → Read ℤ
start_moment_at d = text_at d >>= moment_in

-- The members up to the material.
unfoldable pub world_in : List Field → Read (World × List Field)
world_in fs = do
  first ← optional_at (codes "approver") fs
  approver ← member_or default_approver (codes "approver") approver_at first.0
  second ← optional_at (codes "events") first.1
  events ← member_or 100000 (codes "events") size_at second.0
  third ← optional_at (codes "faults") second.1
  faults ← member_or [] (codes "faults") faults_at third.0
  fourth ← optional_at (codes "material") third.1
  material ← member_or [] (codes "material") material_at fourth.0
  Ok (record { approver = approver; events = events; faults = faults; material = material }, fourth.1)

-- From 2030-01-01T00:00:00Z on, where no other moment is given.
abbrev pub usual_moment : ℤ
usual_moment = pos 1893456000

-- The moment and the roles.
unfoldable pub beginning_in : List Field → Read (Beginning × List Field)
beginning_in fs = do
  first ← optional_at (codes "now") fs
  moment ← member_or usual_moment (codes "now") start_moment_at first.0
  second ← optional_at (codes "roles") first.1
  roles ← roles_at second.0
  Ok (record { moment = moment; roles = roles }, second.1)

abbrev pub setup_of : World → Beginning → List Step → ℕ → Setup
setup_of world beginning script window = record {
  events = world.events;
  window = window;
  moment = beginning.moment;
  roles = beginning.roles;
  faults = world.faults;
  approver = world.approver;
  material = world.material;
  script = script;
}

-- The scenario of an object's members, or the first failing path.
unfoldable pub setup_in : List Field → Read Setup
setup_in fs = do
  world ← world_in fs
  beginning ← beginning_in world.1
  first ← optional_at (codes "script") beginning.1
  script ← script_at (first_stage beginning.0.roles beginning.0.moment) first.0
  second ← optional_at (codes "window") first.1
  window ← member_or 1000 (codes "window") size_at second.0
  end ← at_end second.1
  Ok (setup_of world.0 beginning.0 script window)

-- The scenario of a value.
unfoldable pub members_at : Data → Read Scenario
members_at d = fields_at d >>= setup_in

-- The same, where no number in the whole value is kept as a float.
unfoldable pub scenario_whole_at : Data → Read Scenario
scenario_whole_at d = do
  scenario ← members_at d
  none ← floats_at d
  Ok scenario

-- The scenario of a value, or the text of the first path that fails.
unfoldable pub scenario_at : Data → Result Scenario (List ℕ)
scenario_at d = in_words (scenario_whole_at d)

-- The text of a path, or memory ran out.
abbrev pub ScenarioFailsAt : Path → BadScenario → Type 0
ScenarioFailsAt path (bad.Path text) = text ≡ text_of path
ScenarioFailsAt path bad.NoMemory = Unit {0}

-- What `read` answered is what the form gives; or memory ran out.
abbrev pub IsReading : Result Scenario (List ℕ) → Result Scenario BadScenario → Type 0
IsReading read (Ok scenario) = read ≡ Ok scenario
IsReading read (Err (bad.Path path)) = read ≡ Err path
IsReading read (Err bad.NoMemory) = Unit {0}
