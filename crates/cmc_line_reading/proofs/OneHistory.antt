-- A text is that of one history: one scenario, one list of what its entries show, and one list of counts.
use Rattle.std.proofs.Common.{◌≡◌, ℕ, ◌+◌, List, [], ◌∷◌, ◌++◌, Ok, refl, ap, sym, subst, ◌∙◌, append-nil}
use Rattle.std.specs.List.{AllByRecursion}
use Rattle.std.specs.declared.result.Result.{Result}
use Rattle.serde_json.specs.Data.{Data}
use Rattle.cmc_setup.specs.declared.scenario.Scenario.{Scenario}
use Rattle.cmc_scenario.specs.Scenarios.{scenario_at}
use Rattle.cmc_cursor.specs.Members.{Read}
use Rattle.cmc_summary.specs.declared.summary.Summary.{Summary}
use Rattle.cmc_summary_form.specs.SummaryForm.{summary_read_at}
use Rattle.cmc_report.specs.Trees.{entry_tree, summary_tree}
use Rattle.cmc_lines.specs.declared.line.PrintedLine.{PrintedLine}
use Rattle.cmc_entry_form.specs.LineForm.{line_at}
use Rattle.cmc_line_reading.specs.Histories.{IsJson, IsLineOf, IsSummaryOf, IsScenarioOf, IsOneLine, IsRest, AreLinesOf, IsHistoryOf, counts_of, text_of_lines}
use Rattle.cmc_line_reading.proofs.Bodies.{no_both}
use Rattle.cmc_line_reading.proofs.Compared.{one_value, read_of_line}
use Rattle.cmc_line_reading.proofs.Cuts.{GoOn, some_text, apart, go_on}
use Rattle.cmc_line_reading.proofs.ScenarioLine.{one_text}
use Rattle.cmc_line_reading.proofs.Summaries.{read_of_summary}

-- ---- one way to cut it

no_text : (lines : List (List ℕ)) → [] ≡ text_of_lines lines → lines ≡ []
no_text [] e = refl
no_text (line ∷ lines) e = absurd (some_text line (text_of_lines lines ++ []) (sym (apart line lines []) ∙ append-nil (text_of_lines (line ∷ lines)) ∙ sym e))

one_cut : (lines others : List (List ℕ)) → AllByRecursion IsOneLine lines → AllByRecursion IsOneLine others → text_of_lines lines ≡ text_of_lines others → lines ≡ others
one_cut lines others one two e =
    let on = go_on lines others [] one two (append-nil (text_of_lines lines) ∙ e) in
    sym (on.same ∙ (ap (λ (more : List (List ℕ)). lines ++ more) (no_text on.more on.left) ∙ append-nil lines))

-- ---- one thing that a line says

one_line : (n : ℕ) (text : List ℕ) (a b : PrintedLine) → IsLineOf n text a → IsLineOf n text b → a ≡ b
one_line n text a b first second =
    let value : IsJson text (entry_tree n first.entry) = first.is.0 in
    same (sym (read_of_line n text (entry_tree n first.entry) a value first) ∙ read_of_line n text (entry_tree n first.entry) b value second)
  where
    ok : PrintedLine → Read PrintedLine
    ok line = Ok line

    same : ok a ≡ ok b → a ≡ b
    same e = cc e

one_summary : (text c k : List ℕ) → IsSummaryOf text c → IsSummaryOf text k → c ≡ k
one_summary text c k first second =
    let value : IsJson text (summary_tree first.summary) = first.is.0 in
    let one : first.summary ≡ second.summary = same first.summary second.summary (sym (read_of_summary text (summary_tree first.summary) c value first) ∙ read_of_summary text (summary_tree first.summary) k value second) in
    sym first.counted ∙ (ap counts_of one ∙ second.counted)
  where
    ok : Summary → Read Summary
    ok s = Ok s

    same : (s t : Summary) → ok s ≡ ok t → s ≡ t
    same s t e = cc e

one_scenario : (line : List ℕ) (a b : Scenario) → IsScenarioOf line a → IsScenarioOf line b → a ≡ b
one_scenario line a b first second =
    let text : first.text ≡ second.text = one_text line first.text second.text first.around second.around in
    let value : first.value ≡ second.value = one_value second.text first.value second.value (subst (λ (t : List ℕ). IsJson t first.value) text first.is.0) second.is.0 in
    same (sym first.read ∙ (ap scenario_at value ∙ second.read))
  where
    ok : Scenario → Result Scenario (List ℕ)
    ok s = Ok s

    same : ok a ≡ ok b → a ≡ b
    same e = cc e

-- ---- one history

record IsOneRest (es fs : List PrintedLine) (c k : List ℕ) : Type 0 where
  entries : es ≡ fs
  counts : c ≡ k

one_rest : (n : ℕ) (lines : List (List ℕ)) (es fs : List PrintedLine) (c k : List ℕ) → IsRest n lines es c → IsRest n lines fs k → IsOneRest es fs c k
one_rest n [] es fs c k first second = absurd first
one_rest n (line ∷ later) [] [] c k first second = record { entries = refl; counts = one_summary line c k first.0 second.0 }
one_rest n (line ∷ later) [] (f ∷ fs) c k first second = absurd (no_both n line (f, second.0) (c, first.0))
one_rest n (line ∷ later) (e ∷ es) [] c k first second = absurd (no_both n line (e, first.0) (k, second.0))
one_rest n (line ∷ later) (e ∷ es) (f ∷ fs) c k first second =
    let rest = one_rest (n + 1) later es fs c k first.1 second.1 in
    record { entries = ap (λ (x : PrintedLine). x ∷ es) (one_line n line e f first.0 second.0) ∙ ap (λ (xs : List PrintedLine). f ∷ xs) rest.entries; counts = rest.counts }

pub record IsOneHistory (a b : Scenario) (es fs : List PrintedLine) (c k : List ℕ) : Type 0 where
  pub scenario : a ≡ b
  pub entries : es ≡ fs
  pub counts : c ≡ k

one_by_lines : (lines : List (List ℕ)) (a b : Scenario) (es fs : List PrintedLine) (c k : List ℕ) → AreLinesOf lines a es c → AreLinesOf lines b fs k → IsOneHistory a b es fs c k
one_by_lines [] a b es fs c k first second = absurd first
one_by_lines (line ∷ later) a b es fs c k first second =
    let rest = one_rest 1 later es fs c k first.1 second.1 in
    record { scenario = one_scenario line a b first.0 second.0; entries = rest.entries; counts = rest.counts }

pub one_history : (text : List ℕ) (a b : Scenario) (es fs : List PrintedLine) (c k : List ℕ) → IsHistoryOf text a es c → IsHistoryOf text b fs k → IsOneHistory a b es fs c k
one_history text a b es fs c k first second =
    let same : first.lines ≡ second.lines = one_cut first.lines second.lines first.is.one_each second.is.one_each (sym first.is.whole ∙ second.is.whole) in
    one_by_lines second.lines a b es fs c k (subst (λ (ls : List (List ℕ)). AreLinesOf ls a es c) same first.are) second.are
