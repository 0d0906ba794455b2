-- A value in which the walk meets no float has none, and where there is none the walk passes.
use Rattle.std.proofs.Common.{◌≡◌, ℕ, ◌+◌, List, Bool, ◌||◌, true, false, Ok, Err, refl, decimal}
use Rattle.serde_json.specs.Data.{Num, unsigned, negative, float, Data, null, boolean, number, string, array, object, Items, no_items, item, Members, no_members, member}
use Rattle.serde_json.specs.Written.{has_float, items_have_float, members_have_float}
use Rattle.cmc_cursor.specs.Members.{Check, ◌>>=◌, under}
use Rattle.cmc_cursor.specs.Readers.{floats_at, floats_from, floats_in}

-- two checks in a row passed
both_passed : (name : List ℕ) (first rest : Check) → under name first >>= (λ _. rest) ≡ Ok tt → (first ≡ Ok tt) × (rest ≡ Ok tt)
both_passed name (Ok x) rest h = (refl, h)
both_passed name (Err path) rest h = cc

number_has_none : (n : Num) → floats_at (number n) ≡ Ok tt → has_float (number n) ≡ false
number_has_none (unsigned n) h = refl
number_has_none (negative n) h = refl
number_has_none (float n) h = cc

mutual
  pub value_has_none : (d : Data) → floats_at d ≡ Ok tt → has_float d ≡ false
  value_has_none null h = refl
  value_has_none (boolean b) h = refl
  value_has_none (number n) h = number_has_none n h
  value_has_none (string s) h = refl
  value_has_none (array ds) h = items_have_none 0 ds h
  value_has_none (object ms) h = members_have_none ms h

  items_have_none : (n : ℕ) (ds : Items) → floats_from n ds ≡ Ok tt → items_have_float ds ≡ false
  items_have_none n no_items h = refl
  items_have_none n (item d ds) h =
      let parts : (floats_at d ≡ Ok tt) × (floats_from (n + 1) ds ≡ Ok tt) = both_passed (decimal n) (floats_at d) (floats_from (n + 1) ds) h in
      rw (value_has_none d parts.0, items_have_none (n + 1) ds parts.1) refl

  members_have_none : (ms : Members) → floats_in ms ≡ Ok tt → members_have_float ms ≡ false
  members_have_none no_members h = refl
  members_have_none (member name d ms) h =
      let parts : (floats_at d ≡ Ok tt) × (floats_in ms ≡ Ok tt) = both_passed name (floats_at d) (floats_in ms) h in
      rw (value_has_none d parts.0, members_have_none ms parts.1) refl

none_of_both : (first rest : Bool) → first || rest ≡ false → (first ≡ false) × (rest ≡ false)
none_of_both false rest h = (refl, h)
none_of_both true rest h = cc

-- two checks that pass, in a row
passes_both : (name : List ℕ) (first rest : Check) → first ≡ Ok tt → rest ≡ Ok tt → under name first >>= (λ _. rest) ≡ Ok tt
passes_both name first rest h g = rw (h, g) refl

number_passes : (n : Num) → has_float (number n) ≡ false → floats_at (number n) ≡ Ok tt
number_passes (unsigned n) h = refl
number_passes (negative n) h = refl
number_passes (float n) h = cc

mutual
  pub value_passes : (d : Data) → has_float d ≡ false → floats_at d ≡ Ok tt
  value_passes null h = refl
  value_passes (boolean b) h = refl
  value_passes (number n) h = number_passes n h
  value_passes (string s) h = refl
  value_passes (array ds) h = items_pass 0 ds h
  value_passes (object ms) h = members_pass ms h

  items_pass : (n : ℕ) (ds : Items) → items_have_float ds ≡ false → floats_from n ds ≡ Ok tt
  items_pass n no_items h = refl
  items_pass n (item d ds) h =
      let parts : (has_float d ≡ false) × (items_have_float ds ≡ false) = none_of_both (has_float d) (items_have_float ds) h in
      passes_both (decimal n) (floats_at d) (floats_from (n + 1) ds) (value_passes d parts.0) (items_pass (n + 1) ds parts.1)

  members_pass : (ms : Members) → members_have_float ms ≡ false → floats_in ms ≡ Ok tt
  members_pass no_members h = refl
  members_pass (member name d ms) h =
      let parts : (has_float d ≡ false) × (members_have_float ms ≡ false) = none_of_both (has_float d) (members_have_float ms) h in
      passes_both name (floats_at d) (floats_in ms) (value_passes d parts.0) (members_pass ms parts.1)
