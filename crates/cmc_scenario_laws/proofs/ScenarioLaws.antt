-- The laws of steps and of whole scenarios, of what is so of each reading.
use Rattle.std.proofs.Common.{◌≡◌, Ok, Err, refl}
use Rattle.serde_json.specs.Data.{Data}
use Rattle.cmc_objects.specs.declared.entry.Step.{Step}
use Rattle.cmc_setup.specs.Setups.{Setup}
use Rattle.cmc_cursor.specs.Members.{Read, in_words}
use Rattle.cmc_cursor.specs.Readers.{floats_at}
use Rattle.cmc_cursor.proofs.Always.{Always, so, next, after}
use Rattle.cmc_scenario.specs.Scenarios.{members_at, scenario_whole_at, scenario_at}
use Rattle.cmc_scenario_print.specs.ScenarioTree.{scenario_tree}
use Rattle.cmc_scenario_laws.specs.Scenarios.{IsScenarioReadAgain, IsWholeScenario}
use Rattle.cmc_scenario_laws.specs.Steps.{HasStepBytes, IsStepReadAgain}
use Rattle.cmc_scenario_laws.proofs.ScenarioFloats.{no_floats}
use Rattle.cmc_scenario_laws.proofs.ScenariosAgain.{IsSetupAgain, members_so}
use Rattle.cmc_scenario_laws.proofs.StepsAgain.{step_so}

pub step_law : (step : Step) → HasStepBytes step → IsStepReadAgain step
step_law step bytes d read = (step_so d).each step read bytes

whole_so : (d : Data) → Always IsSetupAgain (scenario_whole_at d)
unfolding scenario_whole_at
whole_so d = after IsSetupAgain IsSetupAgain (members_at d) _ (members_so d) (λ scenario is. next IsSetupAgain (floats_at d) _ (λ none. so is))

-- what is read of the text's value is read
said_so : {A : Type 0} (r : Read A) (x : A) → in_words r ≡ Ok x → r ≡ Ok x
said_so (Ok y) x said = cc
said_so (Err path) x said = cc

pub checked : (s : Setup) → members_at (scenario_tree s) ≡ Ok s → scenario_at (scenario_tree s) ≡ Ok s
unfolding scenario_whole_at scenario_at
checked s again = rw (again, no_floats s) refl

pub scenario_law : (s : Setup) → IsWholeScenario s → IsScenarioReadAgain s
unfolding scenario_at
scenario_law s whole texts d read =
    checked s ((whole_so d).each s (said_so (scenario_whole_at d) s read) (record { texts = texts; octets = whole.octets; order = whole.order; rows = whole.rows; steps = whole.steps }))
