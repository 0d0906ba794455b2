-- What the text of a history is: the scenario, the entries numbered from 1, and the summary, a line each.
use Rattle.std.specs.Prelude.{◌≡◌, ◌⊎◌, ℕ, ◌+◌, ◌==◌, List, [], ◌∷◌, ◌++◌, codes, length, false, Ok, Err, Some}
use Rattle.std.specs.declared.result.Result.{Result}
use Rattle.std.specs.List.{flat_map, All, AllByRecursion}
use Rattle.std.specs.Str.{IsUtf8}
use Rattle.serde_json.specs.Data.{Data}
use Rattle.serde_json.specs.Read.{read}
use Rattle.serde_json.specs.Written.{compact_text}
use Rattle.cmc_objects.specs.declared.entry.Entry.{Entry}
use Rattle.cmc_summary.specs.declared.summary.Summary.{Summary}
use Rattle.cmc_summary_form.specs.SummaryForm.{HasSummaryForm}
use Rattle.cmc_setup.specs.declared.scenario.Scenario.{Scenario}
use Rattle.cmc_scenario.specs.Scenarios.{scenario_at}
use Rattle.cmc_report.specs.Trees.{entry_tree, summary_tree}
use Rattle.cmc_lines.specs.Shown.{line_of_entry}
use Rattle.cmc_entry_form.specs.Entries.{HasForm}
use Rattle.cmc_lines.specs.declared.line.PrintedLine.{PrintedLine}
use Rattle.cmc_lines.specs.declared.printed.Printed.{Printed}
use Rattle.cmc_line_reading.specs.declared.history.BadHistory.{BadHistory}
use Rattle.cmc_line_reading.specs.declared.history.BadHistory.TheVariants as bad

-- ---- lines

-- The text is JSON (RFC 8259), and stands for this value.
abbrev pub IsJson : List ℕ → Data → Type 0
IsJson text d = IsUtf8 text × (read text ≡ Some d)

-- The text is the compact text of this value, and is read as it.
abbrev pub IsTextOf : Data → List ℕ → Type 0
IsTextOf d text = IsJson text d × (text ≡ compact_text d)

-- The line of entry n, which is of its form, shows this.
pub record IsLineOf (n : ℕ) (text : List ℕ) (line : PrintedLine) : Type 0 where
  pub entry : Entry
  pub form : HasForm entry
  pub shows : line_of_entry entry ≡ line
  pub is : IsTextOf (entry_tree n entry) text

abbrev pub IsLine : ℕ → List ℕ → Type 0
IsLine n text = (line : PrintedLine) × IsLineOf n text line

-- Certificates, those that are Ready, and Secrets.
abbrev pub counts_of : Summary → List ℕ
counts_of s = s.certificates ∷ s.ready ∷ s.secrets ∷ []

-- The line of a summary that is of its form and has these counts.
pub record IsSummaryOf (text : List ℕ) (counts : List ℕ) : Type 0 where
  pub summary : Summary
  pub form : HasSummaryForm summary
  pub counted : counts_of summary ≡ counts
  pub is : IsTextOf (summary_tree summary) text

abbrev pub IsSummary : List ℕ → Type 0
IsSummary text = (counts : List ℕ) × IsSummaryOf text counts

-- The line of a scenario: between the name and the bracket stands the compact text of a value that is read as this scenario.
pub record IsScenarioOf (line : List ℕ) (scenario : Scenario) : Type 0 where
  pub text : List ℕ
  pub value : Data
  pub around : line ≡ codes "{\"scenario\":" ++ (text ++ codes "}")
  pub is : IsTextOf value text
  pub read : scenario_at value ≡ Ok scenario

abbrev pub IsScenario : List ℕ → Type 0
IsScenario line = (scenario : Scenario) × IsScenarioOf line scenario

-- ---- texts

-- A line feed stands nowhere in it.
abbrev pub IsOneLine : List ℕ → Type 0
IsOneLine line = All (λ c. (c == 10) ≡ false) line

-- The lines one after another, each with its line feed.
abbrev pub text_of_lines : List (List ℕ) → List ℕ
text_of_lines lines = flat_map (λ line. line ++ 10 ∷ []) lines

-- These lines, the first of which is that of entry n, are lines of entries, after which the summary may come.
abbrev pub GoesOn : ℕ → List (List ℕ) → Type 0
GoesOn n [] = Unit {0}
GoesOn n (line ∷ later) = (IsLine n line × GoesOn (n + 1) later) ⊎ (IsSummary line × (later ≡ []))

-- A history can begin with these lines.
abbrev pub CanBegin : List (List ℕ) → Type 0
CanBegin [] = Unit {0}
CanBegin (line ∷ later) = IsScenario line × GoesOn 1 later

-- These lines, the first of which is that of entry n, are the lines of entries that show this, and the summary with these counts.
abbrev pub IsRest : ℕ → List (List ℕ) → List PrintedLine → List ℕ → Type 0
IsRest n [] entries counts = ⊥
IsRest n (line ∷ later) [] counts = IsSummaryOf line counts × (later ≡ [])
IsRest n (line ∷ later) (entry ∷ entries) counts = IsLineOf n line entry × IsRest (n + 1) later entries counts

-- These are the lines of a history with this scenario, whose entries show this.
abbrev pub AreLinesOf : List (List ℕ) → Scenario → List PrintedLine → List ℕ → Type 0
AreLinesOf [] scenario entries counts = ⊥
AreLinesOf (line ∷ later) scenario entries counts = IsScenarioOf line scenario × IsRest 1 later entries counts

-- The lines of some history.
abbrev pub AreLines : List (List ℕ) → Type 0
AreLines lines = (scenario : Scenario) × (entries : List PrintedLine) × (counts : List ℕ) × AreLinesOf lines scenario entries counts

-- The text is these lines, each with its line feed.
pub record IsText (text : List ℕ) (lines : List (List ℕ)) : Type 0 where
  pub whole : text ≡ text_of_lines lines
  pub one_each : AllByRecursion IsOneLine lines

-- The text of a history.
pub record IsHistoryOf (text : List ℕ) (scenario : Scenario) (entries : List PrintedLine) (counts : List ℕ) : Type 0 where
  pub lines : List (List ℕ)
  pub is : IsText text lines
  pub are : AreLinesOf lines scenario entries counts

abbrev pub IsHistory : List ℕ → Type 0
IsHistory text = (scenario : Scenario) × (entries : List PrintedLine) × (counts : List ℕ) × IsHistoryOf text scenario entries counts

-- ---- the first line that fails

-- Behind these lines comes one that cannot are there.
pub record GoesWrong (CanStand : List (List ℕ) → Type 0) (text : List ℕ) (lines : List (List ℕ)) : Type 0 where
  pub line : List ℕ
  pub later : List ℕ
  pub parts : text ≡ text_of_lines lines ++ (line ++ 10 ∷ later)
  pub is_one : IsOneLine line
  pub wrong : CanStand (lines ++ line ∷ []) → ⊥

-- Behind these lines comes no whole line: a rest without a line feed, or nothing where a line is missing.
pub record EndsEarly (IsWhole : List (List ℕ) → Type 0) (text : List ℕ) (lines : List (List ℕ)) : Type 0 where
  pub rest : List ℕ
  pub parts : text ≡ text_of_lines lines ++ rest
  pub is_one : IsOneLine rest
  pub missing : rest ≡ [] → IsWhole lines → ⊥

-- The first lines can stand, and with the one of this number they cannot, or it is missing.
pub record FailsBy (CanStand IsWhole : List (List ℕ) → Type 0) (text : List ℕ) (number : ℕ) : Type 0 where
  pub before : List (List ℕ)
  pub numbered : number ≡ length before + 1
  pub one_each : AllByRecursion IsOneLine before
  pub stand : CanStand before
  pub here : GoesWrong CanStand text before ⊎ EndsEarly IsWhole text before

-- The line of this number is the first at which the text is not that of a history.
abbrev pub HistoryFailsAt : List ℕ → ℕ → Type 0
HistoryFailsAt = FailsBy CanBegin AreLines

-- What was read of the text, or that it is not that of a history, and the first line that fails; or memory ran out.
abbrev pub IsReading : List ℕ → Result Printed BadHistory → Type 0
IsReading text (Ok printed) = IsHistoryOf text printed.scenario printed.entries printed.counts
IsReading text (Err (bad.Line number)) = (IsHistory text → ⊥) × HistoryFailsAt text number
IsReading text (Err bad.NoMemory) = Unit {0}
