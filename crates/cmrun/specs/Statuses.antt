-- What each status says of what was read and written.
use Rattle.std.specs.Prelude.{◌≡◌, ℕ, ◌+◌, ◌<◌, ◌≤◌, Err, List, [], Bool, true, false, Option, Some, None, IfSome, length, codes}
use Rattle.std.specs.Io.KnownBytes.{Appends, Keeps, IsAtEnd}
use Rattle.serde_json.specs.Data.{Data}
use Rattle.cmc_setup.specs.declared.scenario.Scenario.{Scenario}
use Rattle.cmc_scenario.specs.Scenarios.{scenario_at}
use Rattle.cmc_scenario.specs.Loads.{load_setup}
use Rattle.cmrun.specs.Ends.{AppendsPrefix, ConsumesExactly, ConsumesAtMost, risen}
use Rattle.cmrun.specs.Headline.{IsCollectOf, IsRunOf, IsLoadOf, HasNoReading, InputFailsAt, RefusesCollect, Spends, SpendsValue, SpendsAll}
use Rattle.cmc_audit.specs.Answers as auditing
use Rattle.cmc_collect_run.specs.Answers as collection
use Rattle.cmc_collect_run.specs.declared.answering.NotCollected.TheVariants as refusals
use Rattle.cmrun.specs.declared.words.Command.{Command}
use Rattle.cmrun.specs.declared.words.Command.TheVariants.{Run, Load, Audit, Collect}
use Rattle.cmrun.specs.declared.status.Status.{Status}
use Rattle.cmrun.specs.declared.status.Status.TheVariants.{Done, TooLong, NotJson, BadScenario, BadHistory, Usage, ReadFault, WriteFault, NoMemory, Spent}

-- ---- why nothing was written

-- why a scenario was not run to its end
abbrev pub SpendsOn : Scenario → Status → Type 0
SpendsOn scenario Spent = Spends scenario
SpendsOn scenario NoMemory = Unit {0}
SpendsOn scenario other = ⊥

-- why a value was not run
abbrev pub RefusesValue : Data → Status → Type 0
RefusesValue value (BadScenario path) = scenario_at value ≡ Err path
RefusesValue value Spent = SpendsValue value
RefusesValue value NoMemory = Unit {0}
RefusesValue value other = ⊥

-- why some bytes were not run
abbrev pub Refuses : List ℕ → Status → Type 0
Refuses bytes NotJson = HasNoReading bytes
Refuses bytes (BadScenario path) = InputFailsAt bytes path
Refuses bytes Spent = SpendsAll bytes
Refuses bytes NoMemory = Unit {0}
Refuses bytes other = ⊥

-- why a value was not run as a script of owner collection
abbrev pub RefusesScript : Data → Status → Type 0
RefusesScript value (BadScenario path) = collection.Refuses value (refusals.Path path)
RefusesScript value Spent = collection.Refuses value refusals.Spent
RefusesScript value NoMemory = Unit {0}
RefusesScript value other = ⊥

-- why some bytes were not run as one
abbrev pub RefusesScriptIn : List ℕ → Status → Type 0
RefusesScriptIn bytes NotJson = HasNoReading bytes
RefusesScriptIn bytes (BadScenario path) = RefusesCollect bytes (refusals.Path path)
RefusesScriptIn bytes Spent = RefusesCollect bytes refusals.Spent
RefusesScriptIn bytes NoMemory = Unit {0}
RefusesScriptIn bytes other = ⊥

-- why some bytes were not audited: at the line of this number they are first not the text of a history
abbrev pub RefusesHistory : List ℕ → Status → Type 0
RefusesHistory bytes (BadHistory line) = auditing.FailsAtLine bytes line
RefusesHistory bytes NoMemory = Unit {0}
RefusesHistory bytes other = ⊥

-- ---- what was read and written

-- the most bytes that a scenario, or a script of owner collection, and a printed history may have
abbrev pub scenario_limit : ℕ
scenario_limit = 16777216

abbrev pub history_limit : ℕ
history_limit = 268435456

-- the input has at most so many bytes, or more
abbrev pub IsWithinLimit : ℕ → List ℕ → Type 0
IsWithinLimit limit bytes = length bytes ≤ limit

abbrev pub IsAbove : ℕ → List ℕ → Type 0
IsAbove limit bytes = limit < length bytes

-- What a status says of the bytes that could be read, by a command that answers some bytes with a text and refuses all others,
-- and of what the sink held and holds. An input that is too long is answered by TooLong, unless a fault or want of memory comes
-- before.
abbrev pub StatusTells : ℕ → (List ℕ → List ℕ → Type 0) → (List ℕ → Status → Type 0) → Status → List ℕ → Option (List ℕ) → Option (List ℕ) → Type 0
StatusTells limit IsAnswered IsRefused Done bytes old new = IsWithinLimit limit bytes × ((text : List ℕ) × IsAnswered bytes text × Appends old new text)
StatusTells limit IsAnswered IsRefused WriteFault bytes old new = IsWithinLimit limit bytes × ((text : List ℕ) × IsAnswered bytes text × AppendsPrefix old new text)
StatusTells limit IsAnswered IsRefused TooLong bytes old new = IsAbove limit bytes × Keeps old new
StatusTells limit IsAnswered IsRefused ReadFault bytes old new = Keeps old new
StatusTells limit IsAnswered IsRefused NoMemory bytes old new = Keeps old new
StatusTells limit IsAnswered IsRefused Usage bytes old new = ⊥
StatusTells limit IsAnswered IsRefused other bytes old new = IsWithinLimit limit bytes × (IsRefused bytes other × Keeps old new)

abbrev pub ExplainsRun : ℕ → Bool → Status → List ℕ → Option (List ℕ) → Option (List ℕ) → Type 0
ExplainsRun workers alone = StatusTells scenario_limit (IsRunOf workers alone) Refuses

abbrev pub ExplainsCollect : Status → List ℕ → Option (List ℕ) → Option (List ℕ) → Type 0
ExplainsCollect = StatusTells scenario_limit IsCollectOf RefusesScriptIn

abbrev pub ExplainsAudit : Status → List ℕ → Option (List ℕ) → Option (List ℕ) → Type 0
ExplainsAudit = StatusTells history_limit auditing.AnswersAudit RefusesHistory

-- What a status says, at `load`, of what the sink held and holds. No other status comes: what is not read can't be too
-- long, no JSON or no scenario, and can't fail to be read; and a load always ends within its room.
abbrev pub ExplainsLoad : ℕ → Bool → ℕ → Status → Option (List ℕ) → Option (List ℕ) → Type 0
ExplainsLoad workers alone count Done old new = (text : List ℕ) × IsLoadOf workers alone count text × Appends old new text
ExplainsLoad workers alone count WriteFault old new = (text : List ℕ) × IsLoadOf workers alone count text × AppendsPrefix old new text
ExplainsLoad workers alone count NoMemory old new = Keeps old new
ExplainsLoad workers alone count other old new = ⊥

-- What a status says of what was left to read, where that is told, and of what the sink held and holds.
abbrev pub Explains : Option Command → Status → Option (List ℕ) → Option (List ℕ) → Option (List ℕ) → Type 0
Explains None status left old new = Keeps old new
Explains (Some (Run workers alone)) status left old new = IfSome left (λ bytes. ExplainsRun workers alone status bytes old new)
Explains (Some (Load count workers alone)) status left old new = ExplainsLoad workers alone count status old new
Explains (Some Audit) status left old new = IfSome left (λ bytes. ExplainsAudit status bytes old new)
Explains (Some Collect) status left old new = IfSome left (λ bytes. ExplainsCollect status bytes old new)

-- What a status says, at a command that reads, of what was left of the source and of what is left: at a fault or want of memory what exists
-- behind at most one byte above the limit, and at TooLong what comes after exactly that byte. Else it was read to its end.
abbrev pub LeavesRead : ℕ → Status → Option (List ℕ) → Option (List ℕ) → Type 0
LeavesRead limit TooLong old new = ConsumesExactly old new (limit + 1)
LeavesRead limit ReadFault old new = ConsumesAtMost old new (limit + 1)
LeavesRead limit NoMemory old new = ConsumesAtMost old new (limit + 1)
LeavesRead limit other old new = IsAtEnd new

-- The same for every command: at `load` all of it is left.
abbrev pub LeavesSink : Option Command → Status → Option (List ℕ) → Option (List ℕ) → Type 0
LeavesSink None status old new = Keeps old new
LeavesSink (Some (Run workers alone)) status old new = LeavesRead scenario_limit status old new
LeavesSink (Some (Load count workers alone)) status old new = Keeps old new
LeavesSink (Some Audit) status old new = LeavesRead history_limit status old new
LeavesSink (Some Collect) status old new = LeavesRead scenario_limit status old new

-- the count of reads that failed: one more at ReadFault, and none else
abbrev pub reads_failed : Status → ℕ → ℕ
reads_failed ReadFault before = risen before
reads_failed other before = before

-- the count of writes that failed: one more at WriteFault, and none else
abbrev pub writes_failed : Status → ℕ → ℕ
writes_failed WriteFault before = risen before
writes_failed other before = before

-- all read but `load`
abbrev pub reads_nothing : Option Command → Bool
reads_nothing None = true
reads_nothing (Some (Run workers alone)) = false
reads_nothing (Some (Load count workers alone)) = true
reads_nothing (Some Audit) = false
reads_nothing (Some Collect) = false

-- the status comes before anything is written
abbrev pub writes_nothing : Status → Bool
writes_nothing Done = false
writes_nothing WriteFault = false
writes_nothing other = true

-- what the program tells its parent (exit status)
abbrev pub exit_code : Status → ℕ
exit_code Done = 0
exit_code TooLong = 1
exit_code NotJson = 1
exit_code (BadScenario path) = 1
exit_code (BadHistory line) = 1
exit_code Usage = 2
exit_code ReadFault = 3
exit_code WriteFault = 4
exit_code NoMemory = 5
exit_code Spent = 6

-- what the line on standard error says after the program's name; at Done there is none
abbrev pub message_of : Status → List ℕ
message_of Done = []
message_of TooLong = codes "input too long"
message_of NotJson = codes "not JSON"
message_of (BadScenario path) = codes "bad scenario at "
message_of (BadHistory line) = codes "bad history at line "
message_of Usage = codes "usage: cmrun run|load COUNT [--workers N] [--summary] or cmrun audit|collect"
message_of ReadFault = codes "read failed"
message_of WriteFault = codes "write failed"
message_of NoMemory = codes "out of memory"
message_of Spent = codes "history is full"

-- the path that ends the line
abbrev pub path_of : Status → List ℕ
path_of (BadScenario path) = path
path_of other = []

-- the number of the line that ends it
abbrev pub failing_line_of : Status → Option ℕ
failing_line_of (BadHistory line) = Some line
failing_line_of other = None
