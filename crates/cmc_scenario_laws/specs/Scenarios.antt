-- What printing a whole scenario and reading it make of each other.
use Rattle.std.specs.Prelude.{◌≡◌, Ok}
use Rattle.std.specs.List.{AllByRecursion}
use Rattle.serde_json.specs.Data.{Data}
use Rattle.cmc_setup.specs.Setups.{Setup}
use Rattle.cmc_scenario.specs.Scenarios.{scenario_at}
use Rattle.cmc_scenario_print.specs.ScenarioTree.{scenario_tree}
use Rattle.cmc_scenario_laws.specs.Policies.{AreTextual, HaveOctets}
use Rattle.cmc_scenario_laws.specs.Rows.{AreInOrder, HasEntryBytes}
use Rattle.cmc_scenario_laws.specs.Steps.{HaveStepBytes}

-- Where the scenario was read of some value, and the texts of its policies are UTF-8, what is printed of it is read as the same
-- scenario.
abbrev pub IsScenarioReadAgain : Setup → Type 0
IsScenarioReadAgain s = AreTextual s.approver.policies → (d : Data) → scenario_at d ≡ Ok s → scenario_at (scenario_tree s) ≡ Ok s

-- ---- what is so of each scenario: octets are bytes, and rows stand in order of key

pub record IsWholeScenario (s : Setup) : Type 0 where
  pub octets : HaveOctets s.approver.policies
  pub order : AreInOrder s.material
  pub rows : AllByRecursion HasEntryBytes s.material
  pub steps : HaveStepBytes s.script
