-- A scenario that was read is printed as one that is read again.
use Rattle.std.proofs.Common.{◌≡◌, ℕ, ℤ, ◌+◌, List, [], ◌∷◌, true, Ok, Err, Option, Some, None, refl, ap, ◌∙◌, map, decimal, drop, codes, arith}
use Rattle.std.specs.Prelude.{if◌then◌else◌, ◌==◌, ◌&&◌, nat_lt, int_le}
use Rattle.std.specs.List.{AllByRecursion}
use Rattle.std.proofs.lemmas.Bool.{eqb-true}
use Rattle.std.proofs.lemmas.Int.{ints}
use Rattle.serde_json.specs.Data.{Data, null, boolean, number, string, array, object, Items, no_items, item}
use Rattle.serde_json.specs.View.{items_of}
use Rattle.cmc_time.specs.TimeTexts.{rfc3339_seconds}
use Rattle.cmc_time.specs.Rfc3339.{rfc3339, rfc3339_text}
use Rattle.cmc_time.proofs.Rfc3339Laws.{rfc3339_again, rfc3339_found, rfc3339_is}
use Rattle.cmc_objects.specs.declared.entry.Step.{Step}
use Rattle.cmc_setup.specs.Setups.{Setup, first_moment, last_moment}
use Rattle.cmc_setup.specs.Stages.{first_stage}
use Rattle.cmc_cursor.specs.Members.{◌>>=◌, under, Field, fields_of, fields_at, optional_at, at_end}
use Rattle.cmc_cursor.specs.Readers.{found, text_at, count_at}
use Rattle.cmc_cursor.proofs.Always.{Always, so, failed, next, after, below, further, where_true, with_both}
use Rattle.cmc_print.specs.Trees.{natural}
use Rattle.cmc_print.specs.Printed.{moment_tree}
use Rattle.cmc_print.specs.Words.{has_rfc3339, moment_text}
use Rattle.cmc_codec.proofs.Slots.{slots, start, bind, next_is, some_list, put_list_is, some_object, put_object_is}
use Rattle.cmc_material.specs.Approvers.{approver_at, default_approver}
use Rattle.cmc_material.specs.Lists.{member_or}
use Rattle.cmc_material.specs.MaterialRows.{material_at}
use Rattle.cmc_scenario.specs.Roles.{roles_at}
use Rattle.cmc_scenario.specs.Scripts.{script_at}
use Rattle.cmc_scenario.specs.Scenarios.{size_at, rising_at, rising_from, faults_at, in_run, moment_in, start_moment_at, world_in, usual_moment, beginning_in, setup_of, setup_in, members_at}
use Rattle.cmc_scenario.specs.declared.members.World.{World}
use Rattle.cmc_scenario.specs.declared.members.Beginning.{Beginning}
use Rattle.cmc_scenario.proofs.SetupForms.{IsBeginning, of_beginning}
use Rattle.cmc_scenario_print.specs.Defaults.{is_usual_moment, is_every_role}
use Rattle.cmc_scenario_print.specs.PolicyTrees.{approver_members}
use Rattle.cmc_scenario_print.specs.RowTrees.{material_tree}
use Rattle.cmc_scenario_print.specs.ScenarioTree.{numbers_tree, roles_tree, put_world, put_run, scenario_tree}
use Rattle.cmc_scenario_print.specs.StepTrees.{script_tree}
use Rattle.cmc_scenario_laws.specs.Policies.{AreTextual, HaveOctets}
use Rattle.cmc_scenario_laws.specs.Rows.{AreInOrder as AreRowsInOrder, HasEntryBytes}
use Rattle.cmc_scenario_laws.specs.Steps.{HaveStepBytes}
use Rattle.cmc_scenario_laws.proofs.ApproversAgain.{IsApproverGiven, approver_given_so}
use Rattle.cmc_scenario_laws.proofs.MaterialAgain.{IsMaterialAgain, material_so}
use Rattle.cmc_scenario_laws.proofs.Members.{some_unless, put_unless_is, unless_given, list_given, bounded_again}
use Rattle.cmc_scenario_laws.proofs.RolesAgain.{roles_given}
use Rattle.cmc_scenario_laws.proofs.ScriptsAgain.{IsScriptAgain, script_so}

abbrev Places : Type 0
Places = List (List ℕ × Option Data)

-- ---- sizes

abbrev IsSize : ℕ → Type 0
IsSize n = size_at (natural n) ≡ Ok n

abbrev pub IsSizeGiven : ℕ → List ℕ → ℕ → Type 0
IsSizeGiven usual name n = member_or usual name size_at (some_unless (n == usual) natural n) ≡ Ok n

pub size_given : (usual : ℕ) (name : List ℕ) (n : ℕ) → IsSize n → IsSizeGiven usual name n
size_given usual name n again = unless_given usual size_at natural name (n == usual) n (eqb-true n usual) again

events_so : (given : Option Data) → Always (IsSizeGiven 100000 (codes "events")) (member_or 100000 (codes "events") size_at given)
events_so None = so refl
events_so (Some d) = below (IsSizeGiven 100000 (codes "events")) (codes "events") (size_at d) (further IsSize (IsSizeGiven 100000 (codes "events")) (size_at d) (size_given 100000 (codes "events")) (bounded_again 1 250000 d))

window_so : (given : Option Data) → Always (IsSizeGiven 1000 (codes "window")) (member_or 1000 (codes "window") size_at given)
window_so None = so refl
window_so (Some d) = below (IsSizeGiven 1000 (codes "window")) (codes "window") (size_at d) (further IsSize (IsSizeGiven 1000 (codes "window")) (size_at d) (size_given 1000 (codes "window")) (bounded_again 1 250000 d))

-- ---- faults

abbrev IsRising : ℕ → ℕ → Type 0
IsRising last k = rising_at last (natural k) ≡ Ok k

rising_so : (last : ℕ) (d : Data) → Always (IsRising last) (rising_at last d)
rising_so last d = next (IsRising last) (count_at d) (λ k. if nat_lt last k then Ok k else Err []) (λ k. where_true (IsRising last) (nat_lt last k) (Ok k) [] (λ e. so (rw e refl)))

abbrev AreRising : ℕ → ℕ → List ℕ → Type 0
AreRising n last ks = rising_from n last (items_of (map natural ks)) ≡ Ok ks

rising_from_so : (n last : ℕ) (ds : Items) → Always (AreRising n last) (rising_from n last ds)
rising_from_so n last no_items = so refl
rising_from_so n last (item d ds) =
    after (IsRising last) (AreRising n last) (under (decimal n) (rising_at last d)) (λ k. rising_from (n + 1) k ds >>= (λ ks. Ok (k ∷ ks))) (below (IsRising last) (decimal n) (rising_at last d) (rising_so last d))
    (λ k first. after (AreRising (n + 1) k) (AreRising n last) (rising_from (n + 1) k ds) (λ ks. Ok (k ∷ ks)) (rising_from_so (n + 1) k ds) (λ ks rest. so (rw (first, rest) refl)))

abbrev AreFaults : List ℕ → Type 0
AreFaults ks = faults_at (numbers_tree ks) ≡ Ok ks

listed_so : (d : Data) → Always AreFaults (faults_at d)
listed_so (array ds) = rising_from_so 0 0 ds
listed_so null = failed []
listed_so (boolean b) = failed []
listed_so (number n) = failed []
listed_so (string s) = failed []
listed_so (object ms) = failed []

abbrev pub AreFaultsGiven : List ℕ → Type 0
AreFaultsGiven ks = member_or [] (codes "faults") faults_at (some_list numbers_tree ks) ≡ Ok ks

faults_so : (given : Option Data) → Always AreFaultsGiven (member_or [] (codes "faults") faults_at given)
faults_so None = so refl
faults_so (Some d) = below AreFaultsGiven (codes "faults") (faults_at d) (further AreFaults AreFaultsGiven (faults_at d) (λ ks again. list_given faults_at numbers_tree (codes "faults") ks again) (listed_so d))

-- ---- the moment

in_years : (at : ℤ) → (int_le first_moment at && int_le at last_moment) ≡ true → has_rfc3339 at ≡ true
in_years at h = grind (arith, ints)

written_again : (t : List ℕ) (at : ℤ) → rfc3339_seconds t ≡ Some at → rfc3339_seconds (rfc3339 at) ≡ Some at
written_again t at read =
    let found = rfc3339_found t at read in
    ap rfc3339_seconds (rfc3339_is found.moment at found.is_real found.lies_at)
    ∙ rfc3339_again (rfc3339_text found.moment) at (record { moment = found.moment; is_real = found.is_real; written = refl; lies_at = found.lies_at })

abbrev IsMoment : ℤ → Type 0
IsMoment at = start_moment_at (moment_tree at) ≡ Ok at

moment_again : (at : ℤ) → rfc3339_seconds (rfc3339 at) ≡ Some at → (int_le first_moment at && int_le at last_moment) ≡ true → IsMoment at
unfolding moment_text
moment_again at again within = rw (in_years at within, again, within) refl

found_so : (t : List ℕ) (o : Option ℤ) → rfc3339_seconds t ≡ o → Always IsMoment (found o >>= in_run)
found_so t None read = failed []
found_so t (Some at) read = where_true IsMoment (int_le first_moment at && int_le at last_moment) (Ok at) [] (λ e. so (moment_again at (written_again t at read) e))

moment_so : (d : Data) → Always IsMoment (start_moment_at d)
moment_so d = next IsMoment (text_at d) moment_in (λ t. found_so t (rfc3339_seconds t) refl)

usual_is : (at : ℤ) → is_usual_moment at ≡ true → at ≡ usual_moment
usual_is at h = grind (arith, ints)

abbrev pub IsMomentGiven : ℤ → Type 0
IsMomentGiven at = member_or usual_moment (codes "now") start_moment_at (some_unless (is_usual_moment at) moment_tree at) ≡ Ok at

now_so : (given : Option Data) → Always IsMomentGiven (member_or usual_moment (codes "now") start_moment_at given)
now_so None = so refl
now_so (Some d) = below IsMomentGiven (codes "now") (start_moment_at d) (further IsMoment IsMomentGiven (start_moment_at d) (λ at again. unless_given usual_moment start_moment_at moment_tree (codes "now") (is_usual_moment at) at (usual_is at) again) (moment_so d))

-- ---- what was read of the members

record IsWorld (p : World × List Field) : Type 0 where
  approver : IsApproverGiven p.0.approver
  events : IsSizeGiven 100000 (codes "events") p.0.events
  faults : AreFaultsGiven p.0.faults
  material : IsMaterialAgain p.0.material

world_so : (fs : List Field) → Always IsWorld (world_in fs)
unfolding world_in
world_so fs =
    next IsWorld (optional_at (codes "approver") fs) _ (λ first. after IsApproverGiven IsWorld (member_or default_approver (codes "approver") approver_at first.0) _ (approver_given_so first.0)
    (λ approver is_approver. next IsWorld (optional_at (codes "events") first.1) _ (λ second. after (IsSizeGiven 100000 (codes "events")) IsWorld (member_or 100000 (codes "events") size_at second.0) _ (events_so second.0)
    (λ events is_events. next IsWorld (optional_at (codes "faults") second.1) _ (λ third. after AreFaultsGiven IsWorld (member_or [] (codes "faults") faults_at third.0) _ (faults_so third.0)
    (λ faults are_faults. next IsWorld (optional_at (codes "material") third.1) _ (λ fourth. after IsMaterialAgain IsWorld (member_or [] (codes "material") material_at fourth.0) _ (material_so fourth.0)
    (λ material is_material. so (record { approver = is_approver; events = is_events; faults = are_faults; material = is_material })))))))))

abbrev IsNow : Beginning × List Field → Type 0
IsNow p = IsMomentGiven p.0.moment

now_read : (fs : List Field) → Always IsNow (beginning_in fs)
unfolding beginning_in
now_read fs =
    next IsNow (optional_at (codes "now") fs) _ (λ first. after IsMomentGiven IsNow (member_or usual_moment (codes "now") start_moment_at first.0) _ (now_so first.0)
    (λ moment is. next IsNow (optional_at (codes "roles") first.1) _ (λ second. next IsNow (roles_at second.0) _ (λ roles. so is))))

abbrev IsStart : Beginning × List Field → Type 0
IsStart p = IsNow p × IsBeginning p

beginning_so : (fs : List Field) → Always IsStart (beginning_in fs)
beginning_so fs = with_both IsNow IsBeginning (beginning_in fs) (now_read fs) (of_beginning fs)

-- ---- what is printed

abbrev blank_places : Places
blank_places =
    (codes "approver", None) ∷ (codes "events", None) ∷ (codes "faults", None) ∷ (codes "material", None) ∷ (codes "now", None) ∷ (codes "roles", None) ∷ (codes "script", None) ∷ (codes "window", None) ∷ []

abbrev scenario_places : Setup → Places
scenario_places s =
    (codes "approver", some_object (approver_members s.approver)) ∷ (codes "events", some_unless (s.events == 100000) natural s.events) ∷ (codes "faults", some_list numbers_tree s.faults)
    ∷ (codes "material", some_list material_tree s.material) ∷ (codes "now", some_unless (is_usual_moment s.moment) moment_tree s.moment) ∷ (codes "roles", some_unless (is_every_role s.roles) roles_tree s.roles)
    ∷ (codes "script", some_list script_tree s.script) ∷ (codes "window", some_unless (s.window == 1000) natural s.window) ∷ []

scenario_printed : (s : Setup) → scenario_tree s ≡ object (slots (scenario_places s))
unfolding scenario_tree put_run put_world
scenario_printed s =
    let approver = put_object_is (codes "approver") (approver_members s.approver) (start {ss = blank_places} refl) refl in
    let events = put_unless_is (s.events == 100000) natural (codes "events") s.events approver refl in
    let faults = put_list_is numbers_tree (codes "faults") s.faults events refl in
    let material = put_list_is material_tree (codes "material") s.material faults refl in
    let now = put_unless_is (is_usual_moment s.moment) moment_tree (codes "now") s.moment material refl in
    let roles = put_unless_is (is_every_role s.roles) roles_tree (codes "roles") s.roles now refl in
    let script = put_list_is script_tree (codes "script") s.script roles refl in
    let window = put_unless_is (s.window == 1000) natural (codes "window") s.window script refl in
    ap object window.same

-- ---- what is read of the print

pub record IsGiven (s : Setup) : Type 0 where
  pub approver : member_or default_approver (codes "approver") approver_at (some_object (approver_members s.approver)) ≡ Ok s.approver
  pub events : IsSizeGiven 100000 (codes "events") s.events
  pub faults : AreFaultsGiven s.faults
  pub material : member_or [] (codes "material") material_at (some_list material_tree s.material) ≡ Ok s.material
  pub now : IsMomentGiven s.moment
  pub roles : roles_at (some_unless (is_every_role s.roles) roles_tree s.roles) ≡ Ok s.roles
  pub script : script_at (first_stage s.roles s.moment) (some_list script_tree s.script) ≡ Ok s.script
  pub window : IsSizeGiven 1000 (codes "window") s.window

abbrev world_of : Setup → World
world_of s = record { approver = s.approver; events = s.events; faults = s.faults; material = s.material }

abbrev beginning_of : Setup → Beginning
beginning_of s = record { moment = s.moment; roles = s.roles }

world_again : (s : Setup) → IsGiven s → world_in (fields_of (slots (scenario_places s))) ≡ Ok (world_of s, fields_of (slots (drop 4 (scenario_places s))))
unfolding world_in
world_again s given =
    let ps = scenario_places s in
    (bind _ _ _ _ (next_is (codes "approver") (some_object (approver_members s.approver)) (drop 1 ps) refl)
    (bind _ _ _ _ given.approver
    (bind _ _ _ _ (next_is (codes "events") (some_unless (s.events == 100000) natural s.events) (drop 2 ps) refl)
    (bind _ _ _ _ given.events
    (bind _ _ _ _ (next_is (codes "faults") (some_list numbers_tree s.faults) (drop 3 ps) refl)
    (bind _ _ _ _ given.faults
    (bind _ _ _ _ (next_is (codes "material") (some_list material_tree s.material) (drop 4 ps) refl)
    (bind _ _ _ _ given.material refl))))))))

beginning_again : (s : Setup) → IsGiven s → beginning_in (fields_of (slots (drop 4 (scenario_places s)))) ≡ Ok (beginning_of s, fields_of (slots (drop 6 (scenario_places s))))
unfolding beginning_in
beginning_again s given =
    let ps = scenario_places s in
    (bind _ _ _ _ (next_is (codes "now") (some_unless (is_usual_moment s.moment) moment_tree s.moment) (drop 5 ps) refl)
    (bind _ _ _ _ given.now
    (bind _ _ _ _ (next_is (codes "roles") (some_unless (is_every_role s.roles) roles_tree s.roles) (drop 6 ps) refl)
    (bind _ _ _ _ given.roles refl))))

pub setup_again : (s : Setup) → IsGiven s → members_at (scenario_tree s) ≡ Ok s
unfolding members_at setup_in
setup_again s given =
    let ps = scenario_places s in
    rw (scenario_printed s)
    (bind _ _ _ _ (world_again s given)
    (bind _ _ _ _ (beginning_again s given)
    (bind _ _ _ _ (next_is (codes "script") (some_list script_tree s.script) (drop 7 ps) refl)
    (bind _ _ _ _ given.script
    (bind _ _ _ _ (next_is (codes "window") (some_unless (s.window == 1000) natural s.window) [] refl)
    (bind _ _ _ _ given.window refl))))))

-- ---- scenarios that were read

-- what is so of each scenario, and of the texts of this one
pub record IsReadable (s : Setup) : Type 0 where
  pub texts : AreTextual s.approver.policies
  pub octets : HaveOctets s.approver.policies
  pub order : AreRowsInOrder s.material
  pub rows : AllByRecursion HasEntryBytes s.material
  pub steps : HaveStepBytes s.script

abbrev pub IsSetupAgain : Setup → Type 0
IsSetupAgain s = IsReadable s → members_at (scenario_tree s) ≡ Ok s

given_of : (world : World × List Field) (beginning : Beginning × List Field) (script : List Step) (window : ℕ) → IsWorld world → IsStart beginning → IsScriptAgain (first_stage beginning.0.roles beginning.0.moment) script → IsSizeGiven 1000 (codes "window") window
    → IsReadable (setup_of world.0 beginning.0 script window) → IsGiven (setup_of world.0 beginning.0 script window)
given_of world beginning script window is_world is_start is_script is_window readable = record {
  approver = is_world.approver readable.texts readable.octets;
  events = is_world.events;
  faults = is_world.faults;
  material = is_world.material readable.order readable.rows;
  now = is_start.0;
  roles = roles_given beginning.0.roles is_start.1.roles;
  script = is_script readable.steps;
  window = is_window;
}

setup_so : (fs : List Field) → Always IsSetupAgain (setup_in fs)
unfolding setup_in
setup_so fs =
    after IsWorld IsSetupAgain (world_in fs) _ (world_so fs)
    (λ world is_world. after IsStart IsSetupAgain (beginning_in world.1) _ (beginning_so world.1)
    (λ beginning is_start. next IsSetupAgain (optional_at (codes "script") beginning.1) _
    (λ first. after (IsScriptAgain (first_stage beginning.0.roles beginning.0.moment)) IsSetupAgain (script_at (first_stage beginning.0.roles beginning.0.moment) first.0) _ (script_so (first_stage beginning.0.roles beginning.0.moment) first.0)
    (λ script is_script. next IsSetupAgain (optional_at (codes "window") first.1) _
    (λ second. after (IsSizeGiven 1000 (codes "window")) IsSetupAgain (member_or 1000 (codes "window") size_at second.0) _ (window_so second.0)
    (λ window is_window. next IsSetupAgain (at_end second.1) _
    (λ end. so (λ readable. setup_again (setup_of world.0 beginning.0 script window) (given_of world beginning script window is_world is_start is_script is_window readable)))))))))

pub members_so : (d : Data) → Always IsSetupAgain (members_at d)
unfolding members_at
members_so d = next IsSetupAgain (fields_at d) setup_in setup_so
