-- What was written of handed-out work and of its answers, row by row, is its tree.
use Rattle.std.proofs.Common.{◌≡◌, ℕ, List, [], ◌∷◌, ◌++◌, codes, Some, refl}
use Rattle.json.specs.Token.{Token, begin_object, end_object}
use Rattle.serde_json.specs.Data.{string}
use Rattle.cmc_objects.specs.Requests.{Signs}
use Rattle.cmc_objects.specs.declared.orders.KeyOrder.{KeyOrder}
use Rattle.cmc_objects.specs.declared.orders.CsrOrder.{CsrOrder}
use Rattle.cmc_objects.specs.declared.orders.JudgeOrder.{JudgeOrder}
use Rattle.cmc_meta.specs.declared.object_meta.ObjectMeta.{ObjectMeta}
use Rattle.cmc_print.specs.Trees.{natural}
use Rattle.cmc_print.specs.Puts.{base64_text}
use Rattle.cmc_print.specs.Words.{name_text}
use Rattle.cmc_report.specs.Trees.{key_order_tree, csr_order_tree, sign_order_tree, judge_order_tree, issued_tree}
use Rattle.cmc_report.specs.Rows.{failed_tree, issued_rows, pending_tree}
use Rattle.cmc_writer.specs.Additions.{Row, with_value, with_rows}
use Rattle.cmc_writer.proofs.Placed.{is_none, is_put}
use Rattle.cmc_object_lines.proofs.Laws.{of_rows}
use Rattle.cmc_object_lines.proofs.Slots.{is_list}

abbrev word : List ℕ → Row
word w = (codes "is", Some (string w))

abbrev request : ObjectMeta → Row
request m = (codes "request", Some (string (m.namespace ++ (codes "/" ++ m.name))))

abbrev version : ObjectMeta → Row
version m = (codes "version", Some (natural m.version))

abbrev number : ℕ → Row
number n = (codes "number", Some (natural n))

pub key_order_written : (ts : List Token) (o : KeyOrder)
    → with_rows (ts ++ begin_object ∷ []) ((codes "certificate", Some (string (name_text o.certificate))) ∷ word (codes "key") ∷ number o.number ∷ []) ++ end_object ∷ [] ≡ with_value ts (key_order_tree o)
unfolding key_order_tree
key_order_written ts o = of_rows ts _ _
    (is_put (codes "number") (Some (natural o.number))
    (is_put (codes "certificate") (Some (string (name_text o.certificate)))
    (is_put (codes "is") (Some (string (codes "key"))) is_none refl) refl) refl)

pub csr_order_written : (ts : List Token) (o : CsrOrder)
    → with_rows (ts ++ begin_object ∷ []) ((codes "body", Some (base64_text o.body)) ∷ word (codes "csr") ∷ (codes "key", Some (base64_text o.key)) ∷ []) ++ end_object ∷ [] ≡ with_value ts (csr_order_tree o)
unfolding csr_order_tree
csr_order_written ts o = of_rows ts _ _
    (is_put (codes "key") (Some (base64_text o.key))
    (is_put (codes "body") (Some (base64_text o.body))
    (is_put (codes "is") (Some (string (codes "csr"))) is_none refl) refl) refl)

pub sign_order_written : (ts : List Token) (o : Signs)
    → with_rows (ts ++ begin_object ∷ []) (word (codes "sign") ∷ number o.number ∷ request o.request.meta ∷ version o.request.meta ∷ []) ++ end_object ∷ [] ≡ with_value ts (sign_order_tree o)
unfolding sign_order_tree
sign_order_written ts o = of_rows ts _ _
    (is_put (codes "version") (Some (natural o.request.meta.version))
    (is_put (codes "request") (Some (string (o.request.meta.namespace ++ (codes "/" ++ o.request.meta.name))))
    (is_put (codes "number") (Some (natural o.number))
    (is_put (codes "is") (Some (string (codes "sign"))) is_none refl) refl) refl) refl)

pub judge_order_written : (ts : List Token) (o : JudgeOrder)
    → with_rows (ts ++ begin_object ∷ []) (word (codes "judge") ∷ request o.request.meta ∷ version o.request.meta ∷ []) ++ end_object ∷ [] ≡ with_value ts (judge_order_tree o)
unfolding judge_order_tree
judge_order_written ts o = of_rows ts _ _
    (is_put (codes "version") (Some (natural o.request.meta.version))
    (is_put (codes "request") (Some (string (o.request.meta.namespace ++ (codes "/" ++ o.request.meta.name))))
    (is_put (codes "is") (Some (string (codes "judge"))) is_none refl) refl) refl)

pub issued_written : (ts : List Token) (certificate ca : List ℕ)
    → with_rows (ts ++ begin_object ∷ []) (issued_rows certificate ca) ++ end_object ∷ [] ≡ with_value ts (issued_tree certificate ca)
unfolding issued_tree
issued_written ts certificate ca = of_rows ts (issued_rows certificate ca) _
    (is_list base64_text (codes "ca") ca
    (is_put (codes "certificate") (Some (base64_text certificate))
    (is_put (codes "is") (Some (string (codes "issued"))) is_none refl) refl) refl)

pub pending_written : (ts : List Token) → with_rows (ts ++ begin_object ∷ []) (word (codes "pending") ∷ []) ++ end_object ∷ [] ≡ with_value ts pending_tree
pending_written ts = of_rows ts _ _ (is_put (codes "is") (Some (string (codes "pending"))) is_none refl)

pub failed_written : (ts : List Token) (message : List ℕ) → with_rows (ts ++ begin_object ∷ []) (word (codes "failed") ∷ (codes "message", Some (string message)) ∷ []) ++ end_object ∷ [] ≡ with_value ts (failed_tree message)
failed_written ts message = of_rows ts _ _ (is_put (codes "message") (Some (string message)) (is_put (codes "is") (Some (string (codes "failed"))) is_none refl) refl)
