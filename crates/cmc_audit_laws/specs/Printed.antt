-- What has to hold of lines that a run prints, beside what the run gives.
use Rattle.std.specs.Prelude.{◌≡◌, ℕ, ◌<◌, ◌^◌, ◌+◌, List, [], ◌∷◌, ◌++◌, length, map, reverse, Ok, Err, Some}
use Rattle.std.specs.declared.result.Result.{Result}
use Rattle.std.specs.List.{AllByRecursion}
use Rattle.std.specs.Str.{IsUtf8}
use Rattle.serde_json.specs.Data.{Data}
use Rattle.serde_json.specs.Read.{read}
use Rattle.serde_json.specs.Written.{compact_text}
use Rattle.cmc_objects.specs.declared.entry.Entry.{Entry}
use Rattle.cmc_summary.specs.declared.summary.Summary.{Summary}
use Rattle.cmc_summary_form.specs.SummaryForm.{HasNames, HasSummaryForm}
use Rattle.cmc_setup.specs.Setups.{Setup}
use Rattle.cmc_scenario.specs.Scenarios.{scenario_at}
use Rattle.cmc_print.specs.Trees.{line_of}
use Rattle.cmc_report.specs.Text.{joined, history_lines}
use Rattle.cmc_lines.specs.Shown.{line_of_entry}
use Rattle.cmc_entry_form.specs.Entries.{HasForm}
use Rattle.cmc_line_reading.specs.Histories.{IsHistoryOf, IsOneLine, IsReading, counts_of}
use Rattle.cmc_line_reading.specs.declared.history.BadHistory.{BadHistory}
use Rattle.cmc_line_reading.specs.declared.history.BadHistory.TheVariants as bad
use Rattle.cmc_lines.specs.declared.printed.Printed.{Printed}
use Rattle.cmc_rules.specs.Runs.{IsRun}
use Rattle.cmc_waits.specs.Waits.{summary_at}
use Rattle.cmc_audit_ledger.specs.Ledgers.{setting_of}
use Rattle.cmc_audit_clauses.specs.declared.clause.Verdict.{Verdict}
use Rattle.cmc_audit_clauses.specs.declared.clause.Verdict.TheVariants.{Yes}
use Rattle.cmc_audit.specs.Verdicts.{IsVerdict}
use Rattle.cmc_audit_laws.specs.Counted.{IsCount, EachCounted}
use Rattle.cmc_audit_laws.specs.Typed.{AreTyped}

-- The value is that of the scenario, and its compact text is one line, and is read as it.
pub record IsValueOf (value : Data) (scenario : Setup) : Type 0 where
  pub is : scenario_at value ≡ Ok scenario
  pub again : read (compact_text value) ≡ Some value
  pub one_line : IsOneLine (compact_text value)

-- The summary has the form of one, and its counts fit 64 bits.
pub record IsPrintableSummary (summary : Summary) : Type 0 where
  pub form : HasSummaryForm summary
  pub certificates : IsCount summary.certificates
  pub ready : IsCount summary.ready
  pub secrets : IsCount summary.secrets

-- Each entry has the form of one, and its numbers fit 64 bits.
pub record ArePrintableEntries (h : List Entry) : Type 0 where
  pub formed : AllByRecursion HasForm h
  pub typed : AreTyped h
  pub counted : EachCounted h
  pub few : length h + 1 < 2 ^ 64

-- The text is that of a history with this scenario, whose entries show those of the history, and with the counts of the summary.
abbrev pub IsPrintedOf : List ℕ → Setup → List Entry → Summary → Type 0
IsPrintedOf text scenario h summary = IsHistoryOf text scenario (reverse (map line_of_entry h)) (counts_of summary)

-- What the type of a summary says of it: names are names, and counts fit 64 bits.
pub record IsTypedSummary (summary : Summary) : Type 0 where
  pub names : AllByRecursion (λ w. HasNames w.certificate) summary.waiting
  pub certificates : IsCount summary.certificates
  pub ready : IsCount summary.ready
  pub secrets : IsCount summary.secrets

-- A run, its summary and the lines that are printed of both, after the value of the scenario.
pub record IsRunPrinted (value : Data) (scenario : Setup) (h : List Entry) (summary : Summary) (lines : List (List ℕ)) : Type 0 where
  pub value_is : IsValueOf value scenario
  pub run : IsRun (setting_of scenario) h
  pub summary_is : summary ≡ summary_at (setting_of scenario) h
  pub lines_are : lines ≡ history_lines value h summary

-- What was read is a history on whose lines every verdict is yes, with so many entries; or memory ran out.
abbrev pub ReadsYes : ℕ → Result Printed BadHistory → Type 0
ReadsYes n (Ok printed) = (verdict : Verdict) → IsVerdict (setting_of printed.scenario) (reverse printed.entries) printed.counts verdict → verdict ≡ Yes n
ReadsYes n (Err (bad.Line number)) = ⊥
ReadsYes n (Err bad.NoMemory) = Unit {0}

-- Whatever is read of the text is that.
abbrev pub IsTextAuditedYes : List ℕ → ℕ → Type 0
IsTextAuditedYes text n = (r : Result Printed BadHistory) → IsReading text r → ReadsYes n r
