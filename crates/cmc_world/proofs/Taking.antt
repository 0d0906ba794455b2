-- What holds of each element holds of the one that is taken, and of each that is left where the last takes its place.
use Rattle.std.proofs.Common.{◌≡◌, ℕ, ◌<◌, List, ◌∷◌, length, get_or}
use Rattle.std.proofs.lemmas.List.Elements.{All-head, All-tail}
use Rattle.std.proofs.lemmas.List.Sorted.{All-permutation, IsPermutation-swap_remove}
use Rattle.std.specs.List.{All, swap_remove}

pub all_taken : {X : Type 0} → (P : X → Type 0) (xs : List X) (i : ℕ) (x : X) → i < length xs → x ≡ get_or xs i x → All P xs → P x × All P (swap_remove xs i x)
all_taken P xs i x low is all =
    let whole = All-permutation P xs (x ∷ swap_remove xs i x) (IsPermutation-swap_remove xs i x low is) all in
    (All-head P x (swap_remove xs i x) whole, All-tail P x (swap_remove xs i x) whole)
