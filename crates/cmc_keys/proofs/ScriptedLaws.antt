-- What a scenario's own maker answers is a key value, and of a row that is not free there is one.
use Rattle.std.proofs.Common.{◌≡◌, ◌≢◌, ℕ, true, List, inl, inr, refl, sym, subst, ◌∙◌}
use Rattle.cmc_objects.specs.declared.orders.KeyOrder.{KeyOrder}
use Rattle.cmc_objects.specs.declared.rows.KeyRow.{KeyRow}
use Rattle.cmc_objects.specs.declared.rows.KeyRow.TheVariants.{Default, Synthetic, Der, Free}
use Rattle.cmc_keys.specs.Kinds.{allows_size, IsKeyOf}
use Rattle.cmc_keys.specs.Values.{usual_number, asked_key, usual_key, IsOfFile, IsOfRow, IsScriptedRow, IsScripted, IsKeyValue}
use Rattle.cmc_keys.proofs.SyntheticLaws.{synthetic_is}
use Rattle.cmc_keys.proofs.KindLaws.{is_key_decided}

-- ---- values

asked_is : (order : KeyOrder) (number : ℕ) → allows_size order.algorithm order.size ≡ true → IsKeyOf order.algorithm order.size (asked_key order number)
asked_is order number allowed = synthetic_is order.algorithm order.size order.encoding number allowed

-- octets that are such a key
same_key : (order : KeyOrder) (a b : List ℕ) → a ≡ b → IsKeyOf order.algorithm order.size b → IsKeyOf order.algorithm order.size a
same_key order a b e h = let P : List ℕ → Type 0 = λ octets. IsKeyOf order.algorithm order.size octets in subst P (sym e) h

of_file_is : (order : KeyOrder) (file bytes : List ℕ) → allows_size order.algorithm order.size ≡ true → IsOfFile order file bytes → IsKeyOf order.algorithm order.size bytes
of_file_is order file bytes allowed h =
    elim (is_key_decided order.algorithm order.size file) [
      | inl is ↦ same_key order bytes file (h.fits is) is
      | inr not ↦ same_key order bytes (usual_key order) (h.other not) (asked_is order (usual_number order) allowed)
    ]

scripted_is : (order : KeyOrder) (row : KeyRow) (bytes : List ℕ) → allows_size order.algorithm order.size ≡ true → IsScriptedRow order row bytes → IsKeyOf order.algorithm order.size bytes × IsOfRow order row bytes
scripted_is order Default bytes allowed h = (same_key order bytes (usual_key order) h (asked_is order (usual_number order) allowed), h)
scripted_is order (Synthetic number) bytes allowed h = (same_key order bytes (asked_key order number) h (asked_is order number allowed), h)
scripted_is order (Der file) bytes allowed h = (of_file_is order file bytes allowed h, h)
scripted_is order Free bytes allowed h = (same_key order bytes (usual_key order) h (asked_is order (usual_number order) allowed), tt)

pub scripted_answers : (order : KeyOrder) (bytes : List ℕ) → allows_size order.algorithm order.size ≡ true → IsScripted order bytes → IsKeyValue order bytes
scripted_answers order bytes allowed h =
    let both = scripted_is order order.row bytes allowed h in
    record { is_key = both.0; of_row = both.1 }

one_of_row : (order : KeyOrder) (row : KeyRow) (a b : List ℕ) → row ≢ Free → IsOfRow order row a → IsOfRow order row b → a ≡ b
one_of_row order Default a b bound h k = h ∙ sym k
one_of_row order (Synthetic number) a b bound h k = h ∙ sym k
one_of_row order (Der file) a b bound h k =
    elim (is_key_decided order.algorithm order.size file) [
      | inl is ↦ h.fits is ∙ sym (k.fits is)
      | inr not ↦ h.other not ∙ sym (k.other not)
    ]
one_of_row order Free a b bound h k = absurd (bound refl)

pub one_value : (order : KeyOrder) (a b : List ℕ) → order.row ≢ Free → IsKeyValue order a → IsKeyValue order b → a ≡ b
one_value order a b bound h k = one_of_row order order.row a b bound h.of_row k.of_row
