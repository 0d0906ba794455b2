-- What was written of a summary, row by row, is its tree; and the line of the scenario.
use Rattle.std.proofs.Common.{◌≡◌, List, [], ◌∷◌, ◌++◌, codes, Some, refl, sym, ap, ◌∙◌, append_assoc}
use Rattle.json.specs.Token.{Token, begin_object, end_object}
use Rattle.json.specs.Print.{escape_byte}
use Rattle.serde_json.specs.Data.{Data, string}
use Rattle.serde_json.specs.Written.{compact_text}
use Rattle.cmc_summary.specs.declared.summary.Summary.{Summary}
use Rattle.cmc_summary.specs.declared.summary.Waiting.{Waiting}
use Rattle.cmc_print.specs.Trees.{line_of}
use Rattle.cmc_print.specs.Words.{name_text}
use Rattle.cmc_report.specs.Trees.{scenario_line_tree, wait_name, waiting_tree, counts_tree, summary_tree}
use Rattle.cmc_report.specs.Rows.{count_rows}
use Rattle.cmc_writer.specs.Additions.{with_value, with_rows}
use Rattle.cmc_writer.proofs.Placed.{is_none, is_put}
use Rattle.cmc_writer.proofs.Written.{object_written}
use Rattle.cmc_object_lines.proofs.Laws.{of_rows}

pub scenario_text : (d : Data) → (codes "{\"scenario\":" ++ compact_text d) ++ codes "}\n" ≡ line_of (scenario_line_tree d)
unfolding line_of scenario_line_tree escape_byte
scenario_text d = append_assoc (codes "{\"scenario\":") (compact_text d) (codes "}\n") ∙ ap (λ t. codes "{\"scenario\":" ++ t) (sym (append_assoc (compact_text d) (125 ∷ []) (10 ∷ [])))

pub waiting_written : (ts : List Token) (w : Waiting)
    → with_rows (ts ++ begin_object ∷ []) ((codes "certificate", Some (string (name_text w.certificate))) ∷ (codes "wait", Some (string (wait_name w.wait))) ∷ []) ++ end_object ∷ [] ≡ with_value ts (waiting_tree w)
unfolding waiting_tree
waiting_written ts w = of_rows ts _ _ (is_put (codes "wait") (Some (string (wait_name w.wait))) (is_put (codes "certificate") (Some (string (name_text w.certificate))) is_none refl) refl)

pub counts_written : (ts : List Token) (s : Summary)
    → with_rows (ts ++ begin_object ∷ []) (count_rows s) ++ end_object ∷ [] ≡ with_value ts (counts_tree s)
unfolding counts_tree
counts_written ts s = object_written ts (count_rows s)

pub summary_written : (ts : List Token) (s : Summary) → with_rows (ts ++ begin_object ∷ []) ((codes "summary", Some (counts_tree s)) ∷ []) ++ end_object ∷ [] ≡ with_value ts (summary_tree s)
unfolding summary_tree
summary_written ts s = of_rows ts _ _ (is_put (codes "summary") (Some (counts_tree s)) is_none refl)
