-- What was written of a verdict, row by row, is its tree.
use Rattle.std.proofs.Common.{◌≡◌, ℕ, List, [], ◌∷◌, ◌++◌, true, false, codes, Some, refl}
use Rattle.json.specs.Token.{Token, begin_object, end_object}
use Rattle.serde_json.specs.Data.{Data, string, boolean}
use Rattle.cmc_print.specs.Trees.{natural}
use Rattle.cmc_object_lines.proofs.Laws.{of_rows}
use Rattle.cmc_writer.specs.Additions.{with_value, with_rows}
use Rattle.cmc_writer.proofs.Placed.{is_none, is_put}
use Rattle.cmc_audit_clauses.specs.declared.clause.Verdict.{Verdict}
use Rattle.cmc_audit_clauses.specs.declared.clause.Verdict.TheVariants.{Yes, No}
use Rattle.cmc_audit.specs.Texts.{audit_tree, clause_name, verdict_rows, verdict_tree}

pub verdict_written : (ts : List Token) (verdict : Verdict) → with_rows (ts ++ begin_object ∷ []) (verdict_rows verdict) ++ end_object ∷ [] ≡ with_value ts (verdict_tree verdict)
unfolding verdict_tree
verdict_written ts (Yes entries) = of_rows ts (verdict_rows (Yes entries)) _
    (is_put (codes "yes") (Some (boolean true)) (is_put (codes "entries") (Some (natural entries)) is_none refl) refl)
verdict_written ts (No entry clause) = of_rows ts (verdict_rows (No entry clause)) _
    (is_put (codes "yes") (Some (boolean false))
    (is_put (codes "entry") (Some (natural entry))
    (is_put (codes "clause") (Some (string (clause_name clause))) is_none refl) refl) refl)

pub audit_written : (ts : List Token) (verdict : Verdict) → with_rows (ts ++ begin_object ∷ []) ((codes "audit", Some (verdict_tree verdict)) ∷ []) ++ end_object ∷ [] ≡ with_value ts (audit_tree verdict)
unfolding audit_tree
audit_written ts verdict = of_rows ts _ _ (is_put (codes "audit") (Some (verdict_tree verdict)) is_none refl)
