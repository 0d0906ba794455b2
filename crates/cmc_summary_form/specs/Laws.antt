-- What printing a summary and reading it make of each other.
use Rattle.std.specs.Prelude.{◌≡◌, Ok}
use Rattle.serde_json.specs.Data.{Data}
use Rattle.cmc_summary.specs.declared.summary.Summary.{Summary}
use Rattle.cmc_report.specs.Trees.{summary_tree}
use Rattle.cmc_summary_form.specs.SummaryForm.{summary_read_at, HasSummaryForm}

-- What is printed of a summary of the form is read as that summary.
abbrev pub IsSummaryAgain : Summary → Type 0
IsSummaryAgain s = HasSummaryForm s → summary_read_at (summary_tree s) ≡ Ok s

-- What is read is of the form.
abbrev pub HasFormRead : Summary → Type 0
HasFormRead s = (d : Data) → summary_read_at d ≡ Ok s → HasSummaryForm s
