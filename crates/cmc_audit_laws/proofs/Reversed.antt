-- What is so of each entry is so of them in the other order.
use Rattle.std.proofs.Common.{◌-◌, ◌<◌, ℕ, List, length, reverse, sym, subst, arith}
use Rattle.std.proofs.lemmas.List.{length-reverse, get_or-reverse}
use Rattle.std.specs.Prelude.{All}

pub all_reversed : {X : Type 0} (P : X → Type 0) (xs : List X) → All P xs → All P (reverse xs)
all_reversed P xs all = λ k d within.
    let low : k < length xs = rw length-reverse at within in
    subst P (sym (get_or-reverse xs k d low)) (all (length xs - 1 - k) d (omega arith))
