-- What was read of the line of a summary is what it says, and else it is no such line.
use Rattle.std.proofs.Common.{◌≡◌, ◌∷◌, [], ℕ, List, true, false, Ok, Err, refl, ap, sym, subst, ◌∙◌, codes}
use Rattle.std.specs.Prelude.{is_some}
use Rattle.serde_json.specs.Data.{Data}
use Rattle.serde_json.specs.Find.{get}
use Rattle.cmc_cursor.specs.Members.{Path, Read, Gives}
use Rattle.cmc_cursor.specs.declared.error.BadField.{BadField}
use Rattle.cmc_cursor.specs.declared.error.BadField.TheVariants as bad
use Rattle.cmc_report.specs.Trees.{entry_tree, summary_tree}
use Rattle.cmc_summary.specs.declared.summary.Summary.{Summary}
use Rattle.cmc_summary_form.specs.SummaryForm.{summary_read_at}
use Rattle.cmc_summary_form.proofs.SummarySo.{has_form}
use Rattle.cmc_summary_form.proofs.SummaryAgain.{summary_again}
use Rattle.cmc_line_reading.specs.Histories.{IsJson, IsTextOf, IsLine, IsSummary, IsSummaryOf}
use Rattle.cmc_line_reading.proofs.Compared.{one_value}
use Rattle.cmc_line_reading.proofs.Bodies.{entry_has_none, summary_has_one}

-- what the line of a summary says is read of its value
pub read_of_summary : (text : List ℕ) (d : Data) (counts : List ℕ) → IsJson text d → (is : IsSummaryOf text counts) → summary_read_at d ≡ Ok is.summary
read_of_summary text d counts value is = ap summary_read_at (one_value text d (summary_tree is.summary) value is.is.0) ∙ summary_again is.summary is.form

not_read : (text : List ℕ) (d : Data) (path : Path) → IsJson text d → summary_read_at d ≡ Err path → IsSummary text → ⊥
not_read text d path value fails is = cc (read_of_summary text d is.0 value is.1, fails)

pub not_given : (text : List ℕ) (d : Data) (e : BadField) (path : Path) → IsJson text d → e ≡ bad.Path path → Gives {X = Summary} (λ t. t) (Err e) (summary_read_at d) → IsSummary text → ⊥
not_given text d e path value is gives line = not_read text d path value (subst (λ (b : BadField). Gives {X = Summary} (λ t. t) (Err b) (summary_read_at d)) is gives) line

abbrev as_read : Summary → Read Summary
as_read summary = Ok summary

pub not_printed : (text : List ℕ) (d : Data) (summary : Summary) → IsJson text d → summary_read_at d ≡ Ok summary → (IsTextOf (summary_tree summary) text → ⊥) → IsSummary text → ⊥
not_printed text d summary value reads differs is =
    let same : is.1.summary ≡ summary = ok_same (sym (read_of_summary text d is.0 value is.1) ∙ reads) in
    differs (subst (λ (s : Summary). IsTextOf (summary_tree s) text) same is.1.is)
  where
    ok_same : as_read is.1.summary ≡ as_read summary → is.1.summary ≡ summary
    ok_same e = cc

pub printed_summary : (text : List ℕ) (d : Data) (summary : Summary) → summary_read_at d ≡ Ok summary → IsTextOf (summary_tree summary) text
    → IsSummaryOf text (summary.certificates ∷ summary.ready ∷ summary.secrets ∷ [])
printed_summary text d summary reads is = record { summary = summary; form = has_form d summary reads; counted = refl; is = is }

-- ---- a line is at most one of both

is_given : (text : List ℕ) (a b : Data) → IsJson text a → IsJson text b → is_some (get (codes "summary") a) ≡ is_some (get (codes "summary") b)
is_given text a b first second = ap (λ d. is_some (get (codes "summary") d)) (one_value text a b first second)

pub no_entry : (n : ℕ) (text : List ℕ) (d : Data) → IsJson text d → is_some (get (codes "summary") d) ≡ true → IsLine n text → ⊥
no_entry n text d value given is = cc (is_given text d (entry_tree n is.1.entry) value is.1.is.0, ap is_some (entry_has_none n is.1.entry), given)

pub no_summary : (text : List ℕ) (d : Data) → IsJson text d → is_some (get (codes "summary") d) ≡ false → IsSummary text → ⊥
no_summary text d value given is = cc (is_given text d (summary_tree is.1.summary) value is.1.is.0, ap is_some (summary_has_one is.1.summary), given)

-- a text that is no JSON is no line
pub no_json_entry : (n : ℕ) (text : List ℕ) → ((d : Data) → IsJson text d → ⊥) → IsLine n text → ⊥
no_json_entry n text never is = never (entry_tree n is.1.entry) is.1.is.0

pub no_json_summary : (text : List ℕ) → ((d : Data) → IsJson text d → ⊥) → IsSummary text → ⊥
no_json_summary text never is = never (summary_tree is.1.summary) is.1.is.0
