-- Going over the objects finds the request that a step speaks of.
use Rattle.std.proofs.Common.{◌≡◌, ℕ, true, false, List, ◌∷◌, refl, sym, ap, ◌∙◌}
use Rattle.cmc_meta.specs.declared.key.Key.{Key}
use Rattle.cmc_objects.specs.declared.object.Object.{Object}
use Rattle.cmc_rules.specs.UserWrites.{is_object_for, as_request, first_for}

abbrev Entries : Type 0
Entries = List (Key × Object)

first_here : (certificate : Key) (n : ℕ) (e : Key × Object) (rest : Entries) → is_object_for certificate n e.1 ≡ true → first_for certificate n (e ∷ rest) ≡ as_request e.1
first_here certificate n e rest test = rw test refl

first_other : (certificate : Key) (n : ℕ) (e : Key × Object) (rest : Entries) → is_object_for certificate n e.1 ≡ false → first_for certificate n (e ∷ rest) ≡ first_for certificate n rest
first_other certificate n e rest test = rw test refl

-- the next object is the one
pub found_here : (certificate : Key) (n : ℕ) (e : Key × Object) (left rest whole : Entries) → is_object_for certificate n e.1 ≡ true → left ≡ e ∷ rest
    → first_for certificate n left ≡ first_for certificate n whole → as_request e.1 ≡ first_for certificate n whole
found_here certificate n e left rest whole test steps kept =
    sym (first_here certificate n e rest test) ∙ ap (first_for certificate n) (sym steps) ∙ kept

-- and where it is not, one of the others is, or none is
pub found_later : (certificate : Key) (n : ℕ) (e : Key × Object) (left rest whole : Entries) → is_object_for certificate n e.1 ≡ false → left ≡ e ∷ rest
    → first_for certificate n left ≡ first_for certificate n whole → first_for certificate n rest ≡ first_for certificate n whole
found_later certificate n e left rest whole test steps kept =
    sym (first_other certificate n e rest test) ∙ ap (first_for certificate n) (sym steps) ∙ kept
