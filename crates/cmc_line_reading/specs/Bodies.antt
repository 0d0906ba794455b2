-- The lines after that of the scenario, read one after another.
use Rattle.std.specs.Prelude.{◌≡◌, ℕ, ◌+◌, List, [], ◌∷◌, ◌++◌, Ok, Err}
use Rattle.std.specs.declared.result.Result.{Result}
use Rattle.std.specs.List.{AllByRecursion}
use Rattle.cmc_setup.specs.declared.scenario.Scenario.{Scenario}
use Rattle.cmc_lines.specs.declared.line.PrintedLine.{PrintedLine}
use Rattle.cmc_lines.specs.declared.printed.Printed.{Printed}
use Rattle.cmc_line_reading.specs.declared.said.Said.{Said}
use Rattle.cmc_line_reading.specs.declared.said.Said.TheVariants as said
use Rattle.cmc_line_reading.specs.declared.history.Body.{Body}
use Rattle.cmc_line_reading.specs.declared.history.BadHistory.{BadHistory}
use Rattle.cmc_line_reading.specs.declared.history.BadHistory.TheVariants as bad
use Rattle.cmc_line_reading.specs.Histories.{IsLine, IsLineOf, IsSummary, IsSummaryOf, IsOneLine, IsText, IsRest, GoesOn, FailsBy, text_of_lines}

-- The text is a line, its line feed, and what comes after it.
pub record IsCut (text line later : List ℕ) : Type 0 where
  pub whole : text ≡ line ++ (10 ∷ later)
  pub is_one : IsOneLine line

-- What a line says in place n.
abbrev pub IsSaid : ℕ → List ℕ → Said → Type 0
IsSaid n text (said.Entry entry) = IsLineOf n text entry
IsSaid n text (said.Summary counts) = IsSummaryOf text counts
IsSaid n text said.Nothing = (IsLine n text → ⊥) × (IsSummary text → ⊥)

-- The lines are those of entries from n on, and show this.
abbrev pub AreEntries : ℕ → List (List ℕ) → List PrintedLine → Type 0
AreEntries n [] [] = Unit {0}
AreEntries n [] (entry ∷ entries) = ⊥
AreEntries n (line ∷ lines) [] = ⊥
AreEntries n (line ∷ lines) (entry ∷ entries) = IsLineOf n line entry × AreEntries (n + 1) lines entries

-- Of the text these entries were read, and this is left.
pub record IsReadSoFar (text left : List ℕ) (entries : List PrintedLine) : Type 0 where
  pub lines : List (List ℕ)
  pub parts : text ≡ text_of_lines lines ++ left
  pub one_each : AllByRecursion IsOneLine lines
  pub are : AreEntries 1 lines entries

-- The text is that of entries and a summary.
pub record IsBodyOf (text : List ℕ) (entries : List PrintedLine) (counts : List ℕ) : Type 0 where
  pub lines : List (List ℕ)
  pub is : IsText text lines
  pub are : IsRest 1 lines entries counts

-- Lines of entries and a summary.
abbrev pub AreRest : List (List ℕ) → Type 0
AreRest lines = (entries : List PrintedLine) × (counts : List ℕ) × IsRest 1 lines entries counts

-- The line fails whose number, counted after the scenario's, is one less.
pub record BodyFails (text : List ℕ) (number : ℕ) : Type 0 where
  pub place : ℕ
  pub numbered : number ≡ place + 1
  pub fails : FailsBy (GoesOn 1) AreRest text place

abbrev pub IsBodyReading : List ℕ → Result Body BadHistory → Type 0
IsBodyReading text (Ok body) = IsBodyOf text body.entries body.counts
IsBodyReading text (Err (bad.Line number)) = BodyFails text number
IsBodyReading text (Err bad.NoMemory) = Unit {0}

-- The same with the scenario before it.
abbrev pub IsRestReading : Scenario → List ℕ → Result Printed BadHistory → Type 0
IsRestReading scenario text (Ok printed) = (printed.scenario ≡ scenario) × IsBodyOf text printed.entries printed.counts
IsRestReading scenario text (Err (bad.Line number)) = BodyFails text number
IsRestReading scenario text (Err bad.NoMemory) = Unit {0}
