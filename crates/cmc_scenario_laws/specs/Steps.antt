-- What printing a step of a script and reading it make of each other.
use Rattle.std.specs.Prelude.{◌≡◌, List, Ok}
use Rattle.std.specs.List.{AllByRecursion}
use Rattle.serde_json.specs.Data.{Data}
use Rattle.cmc_objects.specs.declared.entry.Step.{Step}
use Rattle.cmc_objects.specs.declared.entry.Step.TheVariants.{Apply, Answer}
use Rattle.cmc_codec.specs.Laws.{HasBytes}
use Rattle.cmc_scenario.specs.Scripts.{script_step_at}
use Rattle.cmc_scenario_print.specs.StepTrees.{step_tree}
use Rattle.cmc_scenario_laws.specs.Rows.{HasReplyBytes}

-- Where the step was read of some value, what is printed of it is read as the same step.
abbrev pub IsStepReadAgain : Step → Type 0
IsStepReadAgain step = (d : Data) → script_step_at d ≡ Ok step → script_step_at (step_tree step) ≡ Ok step

-- ---- what is so of each step: octets of its object and of its row are bytes

abbrev pub HasStepBytes : Step → Type 0
HasStepBytes (Apply o version) = HasBytes o
HasStepBytes (Answer certificate revision row) = HasReplyBytes row
HasStepBytes other = Unit {0}

abbrev pub HaveStepBytes : List Step → Type 0
HaveStepBytes steps = AllByRecursion HasStepBytes steps
