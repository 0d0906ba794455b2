-- What a run writes for what it reads, or for the scenario that is made for it.
use Rattle.std.specs.Prelude.{◌≡◌, ◌⊎◌, ℕ, Bool, true, false, List, Some, None, Ok, Err}
use Rattle.std.specs.Str.{IsUtf8}
use Rattle.serde_json.specs.Data.{Data}
use Rattle.serde_json.specs.Read.{read}
use Rattle.cmc_objects.specs.declared.entry.Entry.{Entry}
use Rattle.cmc_rules.specs.Safety.{IsSafe}
use Rattle.cmc_rules.specs.Runs.{IsRun, IsFinished}
use Rattle.cmc_safety.specs.Completion.{CompletesIssuing}
use Rattle.cmc_safety.specs.Invariants.{KeepsInvariants}
use Rattle.cmc_report.specs.Text.{joined, history_lines, summary_lines}
use Rattle.cmc_summary.specs.declared.summary.Summary.{Summary}
use Rattle.cmc_setup.specs.declared.scenario.Scenario.{Scenario}
use Rattle.cmc_scenario.specs.Scenarios.{scenario_at}
use Rattle.cmc_scenario.specs.Loads.{load_setup}
use Rattle.cmc_scenario_print.specs.ScenarioTree.{scenario_tree}
use Rattle.cmc_kernel.specs.Kept.{setting_of}
use Rattle.cmc_world.specs.Histories.{IsPlain, IsFull}
use Rattle.cmc_waits.specs.Named.{NamesEachWait, IsWhole}
use Rattle.cmc_waits.specs.Waits.{summary_at}
use Rattle.cmc_audit_laws.specs.AuditedYes.{IsAuditedYes}
use Rattle.cmc_collect_run.specs.Answers as collection
use Rattle.cmc_collect_run.specs.declared.answering.NotCollected.{NotCollected}

-- the bytes are UTF-8, and the JSON text of this value
pub record Reads (bytes : List ℕ) (value : Data) : Type 0 where
  pub utf8 : IsUtf8 bytes
  pub json : read bytes ≡ Some value

-- what is printed of a history of the scenario that this value says: all of it, or the summary line alone
abbrev pub printed_lines : Bool → Data → List Entry → Summary → List (List ℕ)
printed_lines false value history summary = history_lines value history summary
printed_lines true value history summary = summary_lines summary

-- the text is that of a finished history of the scenario, which this value says: by 0 workers of the one that the plain order makes, by
-- more of them whatever their interleaving made
pub record RunsOn (workers : ℕ) (alone : Bool) (value : Data) (scenario : Scenario) (text : List ℕ) : Type 0 where
  pub history : List Entry
  pub run : IsRun (setting_of scenario) history
  pub safe : IsSafe (setting_of scenario) history
  pub complete : CompletesIssuing (setting_of scenario) history
  pub order : KeepsInvariants (setting_of scenario) history
  pub plain : workers ≡ 0 → IsPlain (setting_of scenario) history
  pub finished : IsFinished (setting_of scenario) history
  -- each Certificate that is not Ready waits for something that the summary names
  pub named : NamesEachWait (setting_of scenario) history
  pub whole : IsWhole (setting_of scenario) history (summary_at (setting_of scenario) history)
  -- an audit of its lines says yes
  pub audited : IsAuditedYes (setting_of scenario) history
  pub is : text ≡ joined (printed_lines alone value history (summary_at (setting_of scenario) history))

-- the value is that of a scenario, and the text that of a finished history of it
pub record AnswersRun (workers : ℕ) (alone : Bool) (value : Data) (text : List ℕ) : Type 0 where
  pub scenario : Scenario
  pub form : scenario_at value ≡ Ok scenario
  pub runs : RunsOn workers alone value scenario text

-- the bytes are JSON of a scenario, and the text answers it
pub record IsRunOf (workers : ℕ) (alone : Bool) (bytes text : List ℕ) : Type 0 where
  pub value : Data
  pub reads : Reads bytes value
  pub answer : AnswersRun workers alone value text

-- the text is that of a finished history of the generated scenario of so many Certificates
abbrev pub IsLoadOf : ℕ → Bool → ℕ → List ℕ → Type 0
IsLoadOf workers alone count text = RunsOn workers alone (scenario_tree (load_setup count)) (load_setup count) text

-- the bytes are JSON of a script of owner collection, and the text is that of what its steps make in order
pub record IsCollectOf (bytes text : List ℕ) : Type 0 where
  pub value : Data
  pub reads : Reads bytes value
  pub answer : collection.AnswersCollect value text

-- the bytes are no JSON
abbrev pub HasNoReading : List ℕ → Type 0
HasNoReading bytes = (¬ (IsUtf8 bytes)) ⊎ (read bytes ≡ None)

-- the value of the bytes is no scenario: this path is the first that fails
pub record InputFailsAt (bytes path : List ℕ) : Type 0 where
  pub value : Data
  pub reads : Reads bytes value
  pub form : scenario_at value ≡ Err path

-- the history that the plain order makes of the scenario comes to need more entries than it may have
pub record Spends (scenario : Scenario) : Type 0 where
  pub history : List Entry
  pub plain : IsPlain (setting_of scenario) history
  pub full : IsFull (setting_of scenario) history

pub record SpendsValue (value : Data) : Type 0 where
  pub scenario : Scenario
  pub form : scenario_at value ≡ Ok scenario
  pub spends : Spends scenario

pub record SpendsAll (bytes : List ℕ) : Type 0 where
  pub value : Data
  pub reads : Reads bytes value
  pub spends : SpendsValue value

-- why the script of owner collection that the bytes are was not run to its end
pub record RefusesCollect (bytes : List ℕ) (why : NotCollected) : Type 0 where
  pub value : Data
  pub reads : Reads bytes value
  pub refused : collection.Refuses value why
