-- What is written for a value, or why nothing is.
use Rattle.std.specs.Prelude.{◌≡◌, ℕ, List, Ok, Err}
use Rattle.serde_json.specs.Data.{Data}
use Rattle.cmc_report.specs.Text.{joined}
use Rattle.cmc_collector.specs.Owners.{CollectsWell}
use Rattle.cmc_collector.specs.Replays.{Collecting, on}
use Rattle.cmc_collect_form.specs.Collections.{collect_at}
use Rattle.cmc_collect_form.specs.declared.script.CollectScript.{CollectScript}
use Rattle.cmc_collect_run.specs.Printed.{collect_lines}
use Rattle.cmc_collect_run.specs.Runs.{Made, SpendsEntries, first_collecting}
use Rattle.cmc_collect_run.specs.declared.answering.NotCollected.{NotCollected}
use Rattle.cmc_collect_run.specs.declared.answering.NotCollected.TheVariants as refusals
use Rattle.cmc_collect_run.specs.declared.running.Ran.{Ran}
use Rattle.cmc_collect_run.specs.declared.running.Ran.TheVariants as ends

-- the collection is what the script's steps make in order
abbrev pub IsMadeBy : CollectScript → Collecting → Type 0
IsMadeBy script c = Made script.steps script.now (first_collecting script) c

-- the script comes to a step whose next entry has no room
abbrev pub IsSpentBy : CollectScript → Type 0
IsSpentBy script = SpendsEntries script.steps script.now (first_collecting script)

abbrev pub IsCollectionOf : CollectScript → Ran → Type 0
IsCollectionOf script (ends.Finished c) = IsMadeBy script c
IsCollectionOf script ends.Spent = IsSpentBy script

-- the value is that of a script, and the text that of what its steps make; every reply in it is the store's, and what the
-- collector deletes has dead owners alone
pub record AnswersCollect (value : Data) (text : List ℕ) : Type 0 where
  pub script : CollectScript
  pub form : collect_at value ≡ Ok script
  pub collection : Collecting
  pub made : IsMadeBy script collection
  pub well : on CollectsWell collection
  pub is : text ≡ joined (collect_lines value collection)

pub record SpendsValue (value : Data) : Type 0 where
  pub script : CollectScript
  pub form : collect_at value ≡ Ok script
  pub spent : IsSpentBy script

-- why nothing is written for the value
abbrev pub Refuses : Data → NotCollected → Type 0
Refuses value (refusals.Path path) = collect_at value ≡ Err path
Refuses value refusals.Spent = SpendsValue value
Refuses value refusals.NoMemory = Unit {0}
