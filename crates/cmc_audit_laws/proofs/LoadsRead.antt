-- The value that a load's scenario is printed as is read as that scenario, and its compact text as the value.
use Rattle.std.proofs.Common.{◌≡◌, ◌&&◌, ◌==◌, ◌<◌, ◌≤◌, ◌+◌, ◌*◌, ◌-◌, ◌^◌, ℕ, zero, suc, List, [], ◌∷◌, ◌++◌, length, map, Bool, true, false, Option, Some, None, Ok, refl, ap, sym, subst, ◌∙◌, arith, append_assoc, length-append}
use Rattle.std.proofs.lemmas.Bool.{and_parts}
use Rattle.std.proofs.lemmas.Bool.Decides.{nat_tests}
use Rattle.std.proofs.lemmas.List.Folds.{list_all-append}
use Rattle.std.specs.List.{list_all, AllByRecursion}
use Rattle.std.specs.Prelude.{codes, nat_lt, nat_le}
use Rattle.serde_json.specs.Data.{Data, array, Members, no_members}
use Rattle.serde_json.specs.Read.{max_depth}
use Rattle.serde_json.specs.View.{items_of}
use Rattle.cmc_meta.specs.Names.{is_label, is_subdomain}
use Rattle.cmc_meta.specs.declared.object_meta.ObjectMeta.{ObjectMeta}
use Rattle.cmc_objects.specs.Objects.{no_cert_status, meta_of}
use Rattle.cmc_objects.specs.declared.object.Object.TheVariants.{Cert}
use Rattle.cmc_objects.specs.declared.entry.Step.{Step}
use Rattle.cmc_objects.specs.declared.entry.Step.TheVariants.{Apply, Tick, Settle}
use Rattle.cmc_setup.specs.Forms.{is_step_form}
use Rattle.cmc_setup.specs.Setups.{Setup}
use Rattle.cmc_setup.specs.Stages.{Stage, first_stage, is_in_turn, stage_after_step}
use Rattle.cmc_print.specs.Trees.{natural}
use Rattle.cmc_print.specs.Puts.{put_option}
use Rattle.cmc_print.specs.Words.{role_name}
use Rattle.cmc_print.specs.Printed.{named_meta_tree, meta_members, meta_tree, moment_tree, put_moments, status_members, put_body, applied_head, applied_tree}
use Rattle.cmc_scenario_print.specs.Defaults.{put_unless, usual_moment, all_roles}
use Rattle.cmc_scenario_print.specs.PolicyTrees.{approver_members}
use Rattle.cmc_scenario_print.specs.StepTrees.{step_members, step_tree, script_tree}
use Rattle.cmc_scenario_print.specs.ScenarioTree.{put_world, put_run, scenario_tree, roles_tree, role_tree}
use Rattle.cmc_scenario.specs.Loads.{load_name, load_secret, load_meta, load_spec, load_step, loads, rests, load_setup}
use Rattle.cmc_scenario.specs.Scenarios.{size_at, scenario_at}
use Rattle.cmc_scenario.specs.Scripts.{script_step_at, steps_from}
use Rattle.cmc_scenario.proofs.LoadLaws.{name_is_name, secret_is_name, is_setup}
use Rattle.cmc_scenario_laws.proofs.AppliedAgain.{certificate_whole}
use Rattle.cmc_scenario_laws.proofs.StepsAgain.{apply_again, tick_again, settle_again}
use Rattle.cmc_scenario_laws.proofs.ScriptsAgain.{numbered_again, given_again}
use Rattle.cmc_scenario_laws.proofs.ScenariosAgain.{IsGiven, setup_again, size_given}
use Rattle.cmc_scenario_laws.proofs.ScenarioLaws.{checked}
use Rattle.cmc_audit_laws.specs.Printed.{IsValueOf}
use Rattle.cmc_audit_laws.specs.Typed.{IsTypedMeta, IsTypedSpec}
use Rattle.cmc_audit_laws.proofs.OneLines.{one_line}
use Rattle.cmc_audit_laws.proofs.Readable.{meta_given, spec_given}
use Rattle.cmc_audit_laws.proofs.TextsRead.{Fits, ItemsFit, text_read}
use Rattle.cmc_audit_laws.proofs.TreesFit.{Fit, AllFit, none, with_one, with_list, with_object, text, count, whole, listed, meta, spec}

-- ---- the steps

-- the apply of a Certificate of the load
record IsLoad (step : Step) : Type 0 where
  number : ℕ
  low : number < 10000
  form : is_step_form (load_step number) ≡ true
  same : step ≡ load_step number

both : (xs ys : List Step) → AllByRecursion IsLoad xs → AllByRecursion IsLoad ys → AllByRecursion IsLoad (xs ++ ys)
both [] ys a b = b
both (x ∷ xs) ys a b = (a.0, both xs ys a.1 b)

loads_are : (n : ℕ) → n ≤ 200 → list_all is_step_form (loads n) ≡ true → AllByRecursion IsLoad (loads n)
loads_are zero few forms = tt
loads_are (suc n) few forms =
    let parts = and_parts (list_all is_step_form (loads n)) (list_all is_step_form (load_step (n + 1) ∷ [])) (sym (list_all-append is_step_form (loads n) (load_step (n + 1) ∷ [])) ∙ forms) in
    let last = (and_parts (is_step_form (load_step (n + 1))) true parts.1).0 in
    both (loads n) (load_step (n + 1) ∷ []) (loads_are n (omega (arith, few)) parts.0) (record { number = n + 1; low = omega (arith, few); form = last; same = refl }, tt)

load_length : (n : ℕ) → length (loads n) ≡ n
load_length zero = refl
load_length (suc n) = length-append (loads n) (load_step (n + 1) ∷ []) ∙ omega (arith, load_length n)

-- ---- each is read again

load_typed : (i : ℕ) → i < 10000 → IsTypedSpec (load_spec i)
load_typed i low = record { secret = secret_is_name i low; size = tt; percent = tt; limit = omega arith }

load_meta_typed : (i : ℕ) → i < 10000 → IsTypedMeta (load_meta i)
unfolding is_label
load_meta_typed i low = record { namespace = namespace_is; name = name_is_name i low; labels = tt; annotations = tt; owners = tt } where
  namespace_is : is_subdomain (codes "load") ≡ true
  namespace_is = refl

load_again : (i : ℕ) → i < 10000 → is_step_form (load_step i) ≡ true → script_step_at (step_tree (load_step i)) ≡ Ok (load_step i)
load_again i low form =
    apply_again (Cert (record { meta = load_meta i; spec = load_spec i; status = no_cert_status })) None
    (certificate_whole (load_meta i) None (load_spec i) (meta_given (load_meta i) (load_meta_typed i low)) tt (spec_given (load_spec i) (load_typed i low) form))

abbrev start : Stage
start = first_stage all_roles usual_moment

early : (n : ℕ) → n < 10000 → nat_lt n 10000 ≡ true
early n low = grind (arith, nat_tests, low)

rests_again : (n : ℕ) → n + 3 ≤ 10000 → steps_from n start (items_of (map step_tree rests)) ≡ Ok rests
rests_again n low =
    rw (
      numbered_again n start Settle (early n (omega (arith, low))) settle_again refl,
      numbered_again (n + 1) start (Tick 5184000) (early (n + 1) (omega (arith, low))) (tick_again 5184000 refl) refl,
      numbered_again (n + 1 + 1) (stage_after_step start (Tick 5184000)) Settle (early (n + 1 + 1) (omega (arith, low))) settle_again refl,
    ) refl

again_as : (step : Step) → IsLoad step → (script_step_at (step_tree step) ≡ Ok step) × ((is_in_turn start step ≡ true) × (stage_after_step start step ≡ start))
again_as step is =
    subst (λ (s : Step). (script_step_at (step_tree s) ≡ Ok s) × ((is_in_turn start s ≡ true) × (stage_after_step start s ≡ start))) (sym is.same) (load_again is.number is.low is.form, (refl, refl))

steps_again : (n : ℕ) (steps : List Step) → AllByRecursion IsLoad steps → n + (length steps + 3) ≤ 10000 → steps_from n start (items_of (map step_tree (steps ++ rests))) ≡ Ok (steps ++ rests)
steps_again n [] are low = rests_again n (omega (arith, low))
steps_again n (step ∷ steps) are low =
    let is = again_as step are.0 in
    rw (numbered_again n start step (early n (omega (arith, low))) is.0 is.1.0, is.1.1, steps_again (n + 1) steps are.1 (omega (arith, low))) refl

-- ---- the scenario

size_is : (n : ℕ) → 1 ≤ n → n ≤ 250000 → size_at (natural n) ≡ Ok n
size_is n some most = let within : (nat_le 1 n && nat_le n 250000) ≡ true = grind (arith, nat_tests, some, most) in rw within refl

load_given : (n : ℕ) → 1 ≤ n → n ≤ 200 → AllByRecursion IsLoad (loads n) → IsGiven (load_setup n)
unfolding approver_members
load_given n some few are = record {
  approver = refl;
  events = size_given 100000 (codes "events") (1000 * n + 1000) (size_is (1000 * n + 1000) (omega arith) (omega (arith, few)));
  faults = refl;
  material = refl;
  now = refl;
  roles = refl;
  script = given_again start (loads n ++ rests) (steps_again 0 (loads n) are (omega (arith, load_length n, few)));
  window = refl;
}

-- ---- its tree

with_unless : {n : ℕ} {A : Type 0} {ms : Members} (b : Bool) (tree : A → Data) (k : List ℕ) (x : A) → Fit n (tree x) → AllFit n ms → AllFit n (put_unless b tree k x ms)
with_unless true tree k x one all = all
with_unless false tree k x one all = with_one k one all

all_items : {A : Type 0} (n : ℕ) (tree : A → Data) (xs : List A) → AllByRecursion (λ x. Fit n (tree x)) xs → ItemsFit n (items_of (map tree xs))
all_items n tree [] each = tt
all_items n tree (x ∷ xs) each = (each.0.is, all_items n tree xs each.1)

seven : {A : Type 0} (tree : A → Data) (xs : List A) → AllByRecursion (λ x. Fit 7 (tree x)) xs → Fit 8 (array (items_of (map tree xs)))
seven tree xs each = record { is = (omega arith, all_items 7 tree xs each) }

meta_alone : (m : ObjectMeta) → Fit 5 (named_meta_tree m None)
unfolding named_meta_tree meta_tree
meta_alone m = meta {n = 2} m

load_fits : (i : ℕ) → i < 10000 → Fit 7 (step_tree (load_step i))
unfolding step_members applied_tree applied_head named_meta_tree status_members put_moments
load_fits i low = whole
    (with_one (codes "object")
    (whole
    (with_object (codes "status") no_members (whole none)
    (with_one (codes "spec") (spec {n = 3} (load_spec i) (load_typed i low))
    (with_one (codes "metadata") (meta_alone (load_meta i)) (with_one (codes "kind") (text _) (with_one (codes "apiVersion") (text _) none))))))
    (with_one (codes "do") (text _) none))

step_fits : (step : Step) → IsLoad step → Fit 7 (step_tree step)
step_fits step is = subst (λ (s : Step). Fit 7 (step_tree s)) (sym is.same) (load_fits is.number is.low)

tick_fits : Fit 7 (step_tree (Tick 5184000))
unfolding step_members
tick_fits = whole (with_one (codes "seconds") (count 5184000 (omega arith)) (with_one (codes "do") (text _) none))

settle_fits : Fit 7 (step_tree Settle)
unfolding step_members
settle_fits = whole (with_one (codes "do") (text _) none)

script_fits : (steps : List Step) → AllByRecursion IsLoad steps → AllByRecursion (λ s. Fit 7 (step_tree s)) (steps ++ rests)
script_fits [] are = (settle_fits, (tick_fits, (settle_fits, tt)))
script_fits (step ∷ steps) are = (step_fits step are.0, script_fits steps are.1)

roles_fit : Fit 8 (roles_tree all_roles)
roles_fit = listed {n = 7} role_tree all_roles (λ role. text _)

tree_fits : (n : ℕ) → n ≤ 200 → AllByRecursion IsLoad (loads n) → Fits 9 (scenario_tree (load_setup n))
unfolding scenario_tree put_run put_world approver_members
tree_fits n few are = (whole {n = 8}
    (with_list script_tree (codes "script") (loads n ++ rests) (seven step_tree (loads n ++ rests) (script_fits (loads n) are))
    (with_unless ((1000 * n + 1000) == 100000) natural (codes "events") (1000 * n + 1000) (count (1000 * n + 1000) (omega (arith, few))) none))).is

-- ---- the law

pub load_value : (n : ℕ) → 1 ≤ n → n ≤ 200 → IsValueOf (scenario_tree (load_setup n)) (load_setup n)
load_value n some few =
    let forms = (and_parts (list_all is_step_form (loads n)) (list_all is_step_form rests) (sym (list_all-append is_step_form (loads n) rests) ∙ (is_setup n some few).steps)).0 in
    let are = loads_are n few forms in
    let fits = tree_fits n few are in
    record {
      is = checked (load_setup n) (setup_again (load_setup n) (load_given n some few are));
      again = text_read 9 (scenario_tree (load_setup n)) (omega arith) fits;
      one_line = one_line 9 (scenario_tree (load_setup n)) fits;
    }
