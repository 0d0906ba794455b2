-- What is written for the text of a history, or why nothing is.
use Rattle.std.specs.Prelude.{◌≡◌, ℕ, List, reverse}
use Rattle.cmc_report.specs.Text.{joined}
use Rattle.cmc_lines.specs.declared.printed.Printed.{Printed}
use Rattle.cmc_line_reading.specs.Histories.{HistoryFailsAt, IsHistory, IsHistoryOf}
use Rattle.cmc_audit_ledger.specs.Ledgers.{setting_of}
use Rattle.cmc_audit_clauses.specs.declared.clause.Verdict.{Verdict}
use Rattle.cmc_audit.specs.declared.answering.NotAudited.{NotAudited}
use Rattle.cmc_audit.specs.declared.answering.NotAudited.TheVariants as refusals
use Rattle.cmc_audit.specs.Verdicts.{IsVerdict}
use Rattle.cmc_audit.specs.Texts.{audit_lines}

-- the verdict is that on this history
abbrev pub IsVerdictOn : Printed → Verdict → Type 0
IsVerdictOn printed verdict = IsVerdict (setting_of printed.scenario) (reverse printed.entries) printed.counts verdict

-- the bytes are the text of a history, and what is written is the verdict on it
pub record AnswersAudit (bytes text : List ℕ) : Type 0 where
  pub printed : Printed
  pub reads : IsHistoryOf bytes printed.scenario printed.entries printed.counts
  pub verdict : Verdict
  pub right : IsVerdictOn printed verdict
  pub is : text ≡ joined (audit_lines verdict)

-- the bytes are the text of no history, and the line of this number is the first that fails
abbrev pub FailsAtLine : List ℕ → ℕ → Type 0
FailsAtLine bytes line = (IsHistory bytes → ⊥) × HistoryFailsAt bytes line

-- why nothing is written
abbrev pub Refuses : List ℕ → NotAudited → Type 0
Refuses bytes (refusals.Line line) = FailsAtLine bytes line
Refuses bytes refusals.NoMemory = Unit {0}
