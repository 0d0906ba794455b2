-- What was written of an object or a list, from bracket to bracket.
use Rattle.std.proofs.Common.{◌≡◌, ℕ, List, [], ◌∷◌, ◌++◌, Some, None, refl, ◌∙◌, append_assoc}
use Rattle.std.specs.declared.option.Option.{Option}
use Rattle.json.specs.Token.{Token, key, begin_object, end_object, begin_array, end_array}
use Rattle.json.specs.Tree.{items_tokens, members_tokens}
use Rattle.json.specs.Print.{print}
use Rattle.serde_json.specs.Data.{Data, array, object, Members}
use Rattle.serde_json.specs.View.{items_of}
use Rattle.serde_json.specs.Written.{items_outline, members_outline, compact_text}
use Rattle.serde_json.proofs.Texts.{print-outline}
use Rattle.cmc_writer.specs.Additions.{tokens_of, with_value, with_values, Row, with_row, with_rows}
use Rattle.cmc_writer.specs.Rows.{built_row, built}

member_ends : (ts : List Token) (name : List ℕ) (x : Option Data) (ms : Members)
    → with_row ts name x ++ members_tokens (members_outline ms) ≡ ts ++ members_tokens (members_outline (built_row name x ms))
unfolding with_row with_value
member_ends ts name None ms = refl
member_ends ts name (Some d) ms =
    append_assoc (ts ++ key name ∷ []) (tokens_of d) _ ∙ append_assoc ts (key name ∷ []) _

rows_end : (ts : List Token) (rs : List Row) → with_rows ts rs ++ end_object ∷ [] ≡ ts ++ members_tokens (members_outline (built rs))
rows_end ts [] = refl
rows_end ts (r ∷ rs) = rows_end (with_row ts r.0 r.1) rs ∙ member_ends ts r.0 r.1 (built rs)

-- An object whose rows were written.
pub object_written : (ts : List Token) (rs : List Row) → with_rows (ts ++ begin_object ∷ []) rs ++ end_object ∷ [] ≡ with_value ts (object (built rs))
unfolding with_value
object_written ts rs = rows_end (ts ++ begin_object ∷ []) rs ∙ append_assoc ts (begin_object ∷ []) _

values_end : (ts : List Token) (ds : List Data) → with_values ts ds ++ end_array ∷ [] ≡ ts ++ items_tokens (items_outline (items_of ds))
unfolding with_value
values_end ts [] = refl
values_end ts (d ∷ ds) = values_end (with_value ts d) ds ∙ append_assoc ts (tokens_of d) _

-- A list whose items were written.
pub list_written : (ts : List Token) (ds : List Data) → with_values (ts ++ begin_array ∷ []) ds ++ end_array ∷ [] ≡ with_value ts (array (items_of ds))
unfolding with_value
list_written ts ds = values_end (ts ++ begin_array ∷ []) ds ∙ append_assoc ts (begin_array ∷ []) _

-- The text of a value that was written alone.
pub text_written : (d : Data) → print (with_value [] d) ≡ compact_text d
unfolding with_value
text_written d = print-outline d

-- A member: its name, and then its value.
pub member_written : (ts : List Token) (name : List ℕ) (d : Data) → with_value (ts ++ key name ∷ []) d ≡ with_row ts name (Some d)
unfolding with_row
member_written ts name d = refl
