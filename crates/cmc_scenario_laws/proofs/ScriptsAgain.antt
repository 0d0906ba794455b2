-- Scripts that were read are printed as scripts that are read again: each step may be made when its turn comes, again.
use Rattle.std.proofs.Common.{◌≡◌, ℕ, ◌+◌, List, [], ◌∷◌, true, Ok, Option, Some, None, refl, map, decimal, codes}
use Rattle.std.specs.Prelude.{nat_lt}
use Rattle.serde_json.specs.Data.{Data, null, boolean, number, string, array, object, Items, no_items, item}
use Rattle.serde_json.specs.View.{items_of}
use Rattle.cmc_objects.specs.declared.entry.Step.{Step}
use Rattle.cmc_setup.specs.Stages.{Stage, is_in_turn, stage_after_step}
use Rattle.cmc_cursor.specs.Members.{◌>>=◌, under}
use Rattle.cmc_cursor.proofs.Always.{Always, so, failed, after, below, further, where_true}
use Rattle.cmc_scenario.specs.Scripts.{in_turn, script_step_at, numbered_step_at, steps_from, steps_at, script_at}
use Rattle.cmc_scenario_print.specs.StepTrees.{step_tree, script_tree}
use Rattle.cmc_codec.proofs.Slots.{some_list}
use Rattle.cmc_scenario_laws.specs.Steps.{HasStepBytes, HaveStepBytes}
use Rattle.cmc_scenario_laws.proofs.StepsAgain.{IsStepAgain, step_so}

abbrev IsNumbered : ℕ → Stage → Step → Type 0
IsNumbered n stage step = HasStepBytes step → numbered_step_at n stage (step_tree step) ≡ Ok step

pub numbered_again : (n : ℕ) (stage : Stage) (step : Step) → nat_lt n 10000 ≡ true → script_step_at (step_tree step) ≡ Ok step → is_in_turn stage step ≡ true → numbered_step_at n stage (step_tree step) ≡ Ok step
unfolding numbered_step_at
numbered_again n stage step early again turn = rw (early, again, turn) refl

numbered_so : (n : ℕ) (stage : Stage) (d : Data) → Always (IsNumbered n stage) (numbered_step_at n stage d)
unfolding numbered_step_at
numbered_so n stage d =
    where_true (IsNumbered n stage) (nat_lt n 10000) (under (decimal n) (script_step_at d) >>= in_turn n stage) (decimal n ∷ [])
    (λ early. after IsStepAgain (IsNumbered n stage) (under (decimal n) (script_step_at d)) (in_turn n stage) (below IsStepAgain (decimal n) (script_step_at d) (step_so d))
    (λ step again. where_true (IsNumbered n stage) (is_in_turn stage step) (Ok step) (decimal n ∷ []) (λ turn. so (λ bytes. numbered_again n stage step early (again bytes) turn))))

abbrev AreNumbered : ℕ → Stage → List Step → Type 0
AreNumbered n stage steps = HaveStepBytes steps → steps_from n stage (items_of (map step_tree steps)) ≡ Ok steps

steps_so : (n : ℕ) (stage : Stage) (ds : Items) → Always (AreNumbered n stage) (steps_from n stage ds)
steps_so n stage no_items = so (λ bytes. refl)
steps_so n stage (item d ds) =
    after (IsNumbered n stage) (AreNumbered n stage) (numbered_step_at n stage d) (λ s. steps_from (n + 1) (stage_after_step stage s) ds >>= (λ ss. Ok (s ∷ ss))) (numbered_so n stage d)
    (λ s first. after (AreNumbered (n + 1) (stage_after_step stage s)) (AreNumbered n stage) (steps_from (n + 1) (stage_after_step stage s) ds) (λ ss. Ok (s ∷ ss)) (steps_so (n + 1) (stage_after_step stage s) ds)
    (λ ss rest. so (λ bytes. rw (first bytes.0, rest bytes.1) refl)))

listed_so : (stage : Stage) (d : Data) → Always (λ steps. HaveStepBytes steps → steps_at stage (script_tree steps) ≡ Ok steps) (steps_at stage d)
listed_so stage (array ds) = steps_so 0 stage ds
listed_so stage null = failed []
listed_so stage (boolean b) = failed []
listed_so stage (number n) = failed []
listed_so stage (string s) = failed []
listed_so stage (object ms) = failed []

pub given_again : (stage : Stage) (steps : List Step) → steps_at stage (script_tree steps) ≡ Ok steps → script_at stage (some_list script_tree steps) ≡ Ok steps
given_again stage [] again = refl
given_again stage (step ∷ steps) again = rw again refl

abbrev pub IsScriptAgain : Stage → List Step → Type 0
IsScriptAgain stage steps = HaveStepBytes steps → script_at stage (some_list script_tree steps) ≡ Ok steps

pub script_so : (stage : Stage) (given : Option Data) → Always (IsScriptAgain stage) (script_at stage given)
script_so stage None = so (λ bytes. refl)
script_so stage (Some d) =
    below (IsScriptAgain stage) (codes "script") (steps_at stage d) (further (λ steps. HaveStepBytes steps → steps_at stage (script_tree steps) ≡ Ok steps) (IsScriptAgain stage) (steps_at stage d)
    (λ steps again bytes. given_again stage steps (again bytes)) (listed_so stage d))
