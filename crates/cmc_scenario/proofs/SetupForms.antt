-- What is read is a scenario.
use Rattle.std.proofs.Common.{◌≡◌, ℕ, zero, suc, ◌+◌, ◌<◌, ◌≤◌, List, [], ◌∷◌, length, Bool, true, false, Ok, Err, Option, Some, None, refl, codes, arith}
use Rattle.std.specs.Prelude.{if◌then◌else◌, nat_le, nat_lt, int_le, ◌&&◌, ℤ, ◌≤ℤ◌, All, decimal}
use Rattle.std.specs.List.{list_all, insert}
use Rattle.std.proofs.lemmas.Int.{ints}
use Rattle.std.proofs.lemmas.Bool.Decides.{nat_tests}
use Rattle.std.proofs.lemmas.Bool.{and_from}
use Rattle.cmc_time.specs.TimeTexts.{rfc3339_seconds}
use Rattle.serde_json.specs.Data.{Data, null, boolean, number, string, array, object, Items, no_items, item}
use Rattle.cmc_objects.specs.declared.role.Role.{Role}
use Rattle.cmc_objects.specs.declared.entry.Step.{Step}
use Rattle.cmc_setup.specs.Forms.{is_step_form}
use Rattle.cmc_setup.specs.Setups.{IsSetup, IsTickForm, RiseFrom, AreInOrder, first_moment, last_moment, with_role, is_among, place_among}
use Rattle.cmc_setup.specs.Stages.{Stage, AreInTurn, first_stage, is_in_turn, stage_after_step}
use Rattle.cmc_setup.proofs.Turns.{orderly, held, ends}
use Rattle.cmc_setup.proofs.Orders.{in_order_put}
use Rattle.cmc_cursor.specs.Members.{◌>>=◌, under, Field, optional_at}
use Rattle.cmc_cursor.specs.Readers.{found, text_at, count_at}
use Rattle.cmc_material.specs.Approvers.{approver_at, default_approver}
use Rattle.cmc_material.specs.Lists.{member_or}
use Rattle.cmc_material.specs.MaterialRows.{material_at}
use Rattle.cmc_scenario.specs.Roles.{role_at, roles_with, named_roles_at, roles_at}
use Rattle.cmc_scenario.specs.Scripts.{in_turn, script_step_at, numbered_step_at, steps_from, steps_at, script_at}
use Rattle.cmc_scenario.specs.Scenarios.{size_at, rising_at, rising_from, faults_at, in_run, moment_in, start_moment_at, world_in, usual_moment, beginning_in, setup_of}
use Rattle.cmc_scenario.specs.declared.members.World.{World}
use Rattle.cmc_scenario.specs.declared.members.Beginning.{Beginning}
use Rattle.cmc_cursor.proofs.Always.{Always, so, failed, next, after, below, where_true}
use Rattle.cmc_material.proofs.ListForms.{of_member_or, of_bounded}
use Rattle.cmc_material.proofs.RowForms.{IsMaterial, of_material}
use Rattle.cmc_material.proofs.PolicyForms.{IsApprover, of_approver}
use Rattle.cmc_scenario_print.specs.Defaults.{all_roles}
use Rattle.cmc_scenario.proofs.StepForms.{IsStep, of_value}

abbrev pub IsSize : ℕ → Type 0
IsSize n = (nat_le 1 n && nat_le n 250000) ≡ true

pub of_size : (usual : ℕ) (name : List ℕ) (given : Option Data) → IsSize usual → Always IsSize (member_or usual name size_at given)
of_size usual name given is = of_member_or IsSize usual name size_at given is (of_bounded 1 250000)

-- ---- faults

is_above : (last k : ℕ) → nat_lt last k ≡ true → last < k
is_above last k is = grind (arith, nat_tests)

of_rising : (last : ℕ) (d : Data) → Always (λ k. last < k) (rising_at last d)
of_rising last d = next (λ k. last < k) (count_at d) (λ k. if nat_lt last k then Ok k else Err []) (λ k. where_true (λ m. last < m) (nat_lt last k) (Ok k) [] (λ e. so (is_above last k e)))

of_rising_items : (n last : ℕ) (ds : Items) → Always (RiseFrom last) (rising_from n last ds)
of_rising_items n last no_items = so tt
of_rising_items n last (item d ds) =
    after (λ k. last < k) (RiseFrom last) (under (decimal n) (rising_at last d)) (λ k. rising_from (n + 1) k ds >>= (λ ks. Ok (k ∷ ks))) (below (λ k. last < k) (decimal n) (rising_at last d) (of_rising last d))
    (λ k first. after (RiseFrom k) (RiseFrom last) (rising_from (n + 1) k ds) (λ ks. Ok (k ∷ ks)) (of_rising_items (n + 1) k ds) (λ ks rest. so (first, rest)))

of_faults : (d : Data) → Always (RiseFrom 0) (faults_at d)
of_faults (array ds) = of_rising_items 0 0 ds
of_faults null = failed []
of_faults (boolean b) = failed []
of_faults (number n) = failed []
of_faults (string s) = failed []
of_faults (object ms) = failed []

-- ---- the moment and the roles

abbrev pub IsInRun : ℤ → Type 0
IsInRun at = (int_le first_moment at && int_le at last_moment) ≡ true

of_moment_text : (t : List ℕ) → Always IsInRun (moment_in t)
of_moment_text t = next IsInRun (found (rfc3339_seconds t)) in_run (λ at. where_true IsInRun (int_le first_moment at && int_le at last_moment) (Ok at) [] (λ e. so e))

of_moment : (d : Data) → Always IsInRun (start_moment_at d)
of_moment d = next IsInRun (text_at d) moment_in of_moment_text

with_in_order : (roles : List Role) (role : Role) → AreInOrder roles → AreInOrder (with_role roles role)
with_in_order roles role order = by_test (is_among roles role) refl
  where
    by_test : (b : Bool) → is_among roles role ≡ b → AreInOrder (if b then roles else insert roles (place_among roles role) role)
    by_test true is = order
    by_test false is = in_order_put roles role is order

of_role_items : (n : ℕ) (roles : List Role) (ds : Items) → AreInOrder roles → Always AreInOrder (roles_with n roles ds)
of_role_items n roles no_items order = so order
of_role_items n roles (item d ds) order =
    next AreInOrder (under (decimal n) (role_at d)) (λ role. roles_with (n + 1) (with_role roles role) ds) (λ role. of_role_items (n + 1) (with_role roles role) ds (with_in_order roles role order))

of_named_roles : (d : Data) → Always AreInOrder (named_roles_at d)
of_named_roles (array ds) = of_role_items 0 [] ds tt
of_named_roles null = failed []
of_named_roles (boolean b) = failed []
of_named_roles (number n) = failed []
of_named_roles (string s) = failed []
of_named_roles (object ms) = failed []

all_in_order : AreInOrder all_roles
all_in_order = (omega arith, (omega arith, (omega arith, (omega arith, (omega arith, (omega arith, (omega arith, (omega arith, tt))))))))

of_roles : (given : Option Data) → Always AreInOrder (roles_at given)
of_roles None = so all_in_order
of_roles (Some d) = below AreInOrder (codes "roles") (named_roles_at d) (of_named_roles d)

-- ---- the script

-- a step that was read may be made when its turn comes
record IsTurn (stage : Stage) (n : ℕ) (step : Step) : Type 0 where
  early : n < 10000
  step_form : IsStep step
  turn : is_in_turn stage step ≡ true

is_early : (n : ℕ) → nat_lt n 10000 ≡ true → n < 10000
is_early n is = grind (arith, nat_tests)

of_turn : (n : ℕ) (stage : Stage) (step : Step) → n < 10000 → IsStep step → Always (IsTurn stage n) (in_turn n stage step)
of_turn n stage step early form = where_true (IsTurn stage n) (is_in_turn stage step) (Ok step) (decimal n ∷ []) (λ e. so (record { early = early; step_form = form; turn = e }))

of_numbered_step : (n : ℕ) (stage : Stage) (d : Data) → Always (IsTurn stage n) (numbered_step_at n stage d)
unfolding numbered_step_at
of_numbered_step n stage d =
    where_true (IsTurn stage n) (nat_lt n 10000) (under (decimal n) (script_step_at d) >>= in_turn n stage) (decimal n ∷ [])
    (λ e. after IsStep (IsTurn stage n) (under (decimal n) (script_step_at d)) (in_turn n stage) (below IsStep (decimal n) (script_step_at d) (of_value d)) (λ step form. of_turn n stage step (is_early n e) form))

-- the steps from place n and this stage on
pub record IsScriptFrom (n : ℕ) (stage : Stage) (steps : List Step) : Type 0 where
  pub forms : list_all is_step_form steps ≡ true
  pub ticks : All IsTickForm steps
  pub turns : AreInTurn stage steps
  pub short : n ≤ 10000 → n + length steps ≤ 10000

no_ticks : All IsTickForm []
no_ticks k d h = absurd (omega (arith, h))

more_ticks : (step : Step) (rest : List Step) → IsTickForm step → All IsTickForm rest → All IsTickForm (step ∷ rest)
more_ticks step rest first all zero d h = first
more_ticks step rest first all (suc k) d h = all k d (omega (arith, h))

one_more : (n : ℕ) (stage : Stage) (step : Step) (rest : List Step) → IsTurn stage n step → IsScriptFrom (n + 1) (stage_after_step stage step) rest → IsScriptFrom n stage (step ∷ rest)
one_more n stage step rest first all = record {
  forms = and_from (is_step_form step) (list_all is_step_form rest) first.step_form.form all.forms;
  ticks = more_ticks step rest first.step_form.ticks all.ticks;
  turns = (first.turn, all.turns);
  short = λ h. omega (arith, all.short (omega (arith, first.early)), first.early);
}

of_steps : (n : ℕ) (stage : Stage) (ds : Items) → Always (IsScriptFrom n stage) (steps_from n stage ds)
of_steps n stage no_items = so (record { forms = refl; ticks = no_ticks; turns = tt; short = λ h. omega (arith, h) })
of_steps n stage (item d ds) =
    after (IsTurn stage n) (IsScriptFrom n stage) (numbered_step_at n stage d) (λ s. steps_from (n + 1) (stage_after_step stage s) ds >>= (λ ss. Ok (s ∷ ss))) (of_numbered_step n stage d)
    (λ s first. after (IsScriptFrom (n + 1) (stage_after_step stage s)) (IsScriptFrom n stage) (steps_from (n + 1) (stage_after_step stage s) ds) (λ ss. Ok (s ∷ ss)) (of_steps (n + 1) (stage_after_step stage s) ds)
    (λ ss all. so (one_more n stage s ss first all)))

abbrev pub IsScript : Stage → List Step → Type 0
IsScript stage = IsScriptFrom 0 stage

of_listed : (stage : Stage) (d : Data) → Always (IsScript stage) (steps_at stage d)
of_listed stage (array ds) = of_steps 0 stage ds
of_listed stage null = failed []
of_listed stage (boolean b) = failed []
of_listed stage (number n) = failed []
of_listed stage (string s) = failed []
of_listed stage (object ms) = failed []

pub of_script : (stage : Stage) (given : Option Data) → Always (IsScript stage) (script_at stage given)
of_script stage None = of_steps 0 stage no_items
of_script stage (Some d) = below (IsScript stage) (codes "script") (steps_at stage d) (of_listed stage d)

-- ---- the whole

pub record IsWorldForm (world : World) : Type 0 where
  pub approver : IsApprover world.approver
  pub events : IsSize world.events
  pub faults : RiseFrom 0 world.faults
  pub material : IsMaterial world.material

abbrev pub IsWorld : World × List Field → Type 0
IsWorld p = IsWorldForm p.0

pub of_world : (fs : List Field) → Always IsWorld (world_in fs)
unfolding world_in
of_world fs = next (IsWorld) (optional_at (codes "approver") fs) _ (λ first. after (IsApprover) (IsWorld) (member_or default_approver (codes "approver") approver_at first.0) _ (of_approver first.0) (λ approver is_approver. next (IsWorld) (optional_at (codes "events") first.1) _ (λ second. after (IsSize) (IsWorld) (member_or 100000 (codes "events") size_at second.0) _ (of_size 100000 (codes "events") second.0 refl) (λ events is_size. next (IsWorld) (optional_at (codes "faults") second.1) _ (λ third. after (RiseFrom 0) (IsWorld) (member_or [] (codes "faults") faults_at third.0) _ (of_member_or (RiseFrom 0) [] (codes "faults") faults_at third.0 tt of_faults) (λ faults rise. next (IsWorld) (optional_at (codes "material") third.1) _ (λ fourth. after (IsMaterial) (IsWorld) (member_or [] (codes "material") material_at fourth.0) _ (of_material fourth.0) (λ material is_material. so (record { approver = is_approver; events = is_size; faults = rise; material = is_material })))))))))

pub record IsBeginningForm (beginning : Beginning) : Type 0 where
  pub moment : IsInRun beginning.moment
  pub roles : AreInOrder beginning.roles

abbrev pub IsBeginning : Beginning × List Field → Type 0
IsBeginning p = IsBeginningForm p.0

pub of_beginning : (fs : List Field) → Always IsBeginning (beginning_in fs)
unfolding beginning_in
of_beginning fs = next (IsBeginning) (optional_at (codes "now") fs) _ (λ first. after (IsInRun) (IsBeginning) (member_or usual_moment (codes "now") start_moment_at first.0) _ (of_member_or IsInRun usual_moment (codes "now") start_moment_at first.0 refl of_moment) (λ moment in_run. next (IsBeginning) (optional_at (codes "roles") first.1) _ (λ second. after (AreInOrder) (IsBeginning) (roles_at second.0) _ (of_roles second.0) (λ roles order. so (record { moment = in_run; roles = order })))))

least : (n : ℕ) → IsSize n → 1 ≤ n
least n is = grind (arith, nat_tests)

most : (n : ℕ) → IsSize n → n ≤ 250000
most n is = grind (arith, nat_tests)

begins_late : (at : ℤ) → IsInRun at → first_moment ≤ℤ at
begins_late at is = grind (arith, ints)

begins_early : (at : ℤ) → IsInRun at → at ≤ℤ last_moment
begins_early at is = grind (arith, ints)

pub is_setup : (world : World) (beginning : Beginning) (script : List Step) (window : ℕ) → IsWorldForm world → IsBeginningForm beginning → IsScript (first_stage beginning.roles beginning.moment) script → IsSize window
    → IsSetup (setup_of world beginning script window)
is_setup world beginning script window is_world begins is_script is_size =
    let stage : Stage = first_stage beginning.roles beginning.moment in
    record {
      some_events = least world.events is_world.events;
      most_events = most world.events is_world.events;
      some_window = least window is_size;
      most_window = most window is_size;
      begins = begins_late beginning.moment begins.moment;
      ends = ends stage script (begins_early beginning.moment begins.moment) is_script.turns;
      short = omega (arith, is_script.short (omega arith));
      ticks = is_script.ticks;
      faults = is_world.faults;
      roles = begins.roles;
      orderly = orderly stage script is_script.turns;
      held = held stage script is_script.turns;
      approver = is_world.approver;
      material = is_world.material;
      steps = is_script.forms;
    }
