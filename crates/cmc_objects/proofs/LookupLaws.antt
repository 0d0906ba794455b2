-- Going over pairs finds what is looked up.
use Rattle.std.proofs.Common.{◌≡◌, ℕ, true, false, List, ◌∷◌, Option, Some, refl, sym, ap, ◌∙◌}
use Rattle.std.specs.BTreeMap.{is_at}
use Rattle.std.specs.Cmp.Lexicographic.{slice_cmp}
use Rattle.std.specs.Map.{lookup}
use Rattle.std.specs.Ordering.{nat_cmp}
use Rattle.std.specs.Str.{bytes_eq}
use Rattle.std.proofs.lemmas.Map.Text.{is_eq-slice_cmp}

abbrev Entries : Type 0 → Type 0
Entries V = List (List ℕ × V)

abbrev found : {V : Type 0} → Entries V → List ℕ → Option V
found pairs key = lookup (is_at (slice_cmp nat_cmp key)) pairs

abbrev some : {V : Type 0} → V → Option V
some value = Some value

first_named : {V : Type 0} → (key name : List ℕ) → (value : V) → (rest : Entries V) → bytes_eq key name ≡ true → found ((name, value) ∷ rest) key ≡ some value
first_named key name value rest test = rw (is_eq-slice_cmp key name, test) refl

first_other : {V : Type 0} → (key name : List ℕ) → (value : V) → (rest : Entries V) → bytes_eq key name ≡ false → found ((name, value) ∷ rest) key ≡ found rest key
first_other key name value rest test = rw (is_eq-slice_cmp key name, test) refl

-- the next pair has the key
pub found_here : {V : Type 0} → (key name : List ℕ) → (value : V) → (left rest whole : Entries V) → bytes_eq key name ≡ true → left ≡ (name, value) ∷ rest → found left key ≡ found whole key → some value ≡ found whole key
found_here {V} key name value left rest whole test steps kept =
    sym (first_named key name value rest test) ∙ ap (λ (l : Entries V). found l key) (sym steps) ∙ kept

-- and where it has not, the others have it or none has
pub found_later : {V : Type 0} → (key name : List ℕ) → (value : V) → (left rest whole : Entries V) → bytes_eq key name ≡ false → left ≡ (name, value) ∷ rest → found left key ≡ found whole key → found rest key ≡ found whole key
found_later {V} key name value left rest whole test steps kept =
    sym (first_other key name value rest test) ∙ ap (λ (l : Entries V). found l key) (sym steps) ∙ kept
