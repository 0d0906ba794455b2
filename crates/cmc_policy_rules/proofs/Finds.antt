-- The first item that passes, as far as a loop has come.
use Rattle.std.proofs.Common.{◌≡◌, ℕ, ◌+◌, ◌<◌, ◌≤◌, Bool, true, false, List, length, drop, Some, None, refl, sym, ◌∙◌}
use Rattle.std.specs.List.{find}
use Rattle.std.proofs.Math.ListN.{get_or}
use Rattle.std.proofs.lemmas.List.{at_drop_more, at_drop_all}

pub find_here : {X : Type 0} (p : X → Bool) → (xs : List X) (i : ℕ) (d : X) → i < length xs → find p (drop i xs) ≡ find p xs
    → p (get_or xs i d) ≡ true → find p xs ≡ Some (get_or xs i d)
find_here p xs i d within same passes = sym same ∙ at_drop_more (find p) xs i d within ∙ rw passes refl

pub find_further : {X : Type 0} (p : X → Bool) → (xs : List X) (i : ℕ) (d : X) → i < length xs → find p (drop i xs) ≡ find p xs
    → p (get_or xs i d) ≡ false → find p (drop (i + 1) xs) ≡ find p xs
find_further p xs i d within same fails =
    let step : find p (drop i xs) ≡ find p (drop (i + 1) xs) = at_drop_more (find p) xs i d within ∙ rw fails refl in
    sym step ∙ same

pub find_none : {X : Type 0} (p : X → Bool) → (xs : List X) (i : ℕ) → length xs ≤ i → find p (drop i xs) ≡ find p xs → find p xs ≡ None
find_none p xs i over same = sym same ∙ at_drop_all (find p) xs i over
