-- A fact about the first item and about the rest is one about the list.
use Rattle.std.proofs.Common.{◌≡◌, ◌≤◌, List, [], ◌∷◌, length, get_or, drop, subst}
use Rattle.std.specs.List.{AllByRecursion}

pub one_more : {A : Type 0} (P : A → Type 0) (xs : List A) (x : A) → 1 ≤ length xs → x ≡ get_or xs 0 x → P x → AllByRecursion P (drop 1 xs) → AllByRecursion P xs
one_more P [] x some is first rest = tt
one_more P (y ∷ ys) x some is first rest = (subst P is first, rest)
