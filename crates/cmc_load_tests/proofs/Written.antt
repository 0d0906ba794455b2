-- Lists of pairs that are equal are told to be.
use Rattle.std.proofs.Common.{◌≡◌, ◌&&◌, ℕ, Bool, true, false, List, [], ◌∷◌, refl, subst}
use Rattle.std.specs.Prelude.{IsTrue, ◌↔◌}
use Rattle.std.specs.Str.{bytes_eq}
use Rattle.std.proofs.lemmas.Slice.Eq.{bytes_eq-Decides}
use Rattle.std.proofs.lemmas.Bool.{and_parts}
use Rattle.cmc_load_laws.specs.Measure.{same_pairs}

abbrev Pairs : Type 0
Pairs = List (List ℕ × List ℕ)

equal_pairs : (ps qs : Pairs) → same_pairs ps qs ≡ true → ps ≡ qs
equal_pairs [] [] is = refl
equal_pairs [] (q ∷ qs) is = absurd (cc is)
equal_pairs (p ∷ ps) [] is = absurd (cc is)
equal_pairs (p ∷ ps) (q ∷ qs) is =
    let one = and_parts (bytes_eq p.0 q.0) (bytes_eq p.1 q.1 && same_pairs ps qs) is in
    let two = and_parts (bytes_eq p.1 q.1) (same_pairs ps qs) one.1 in
    let name = (bytes_eq-Decides p.0 q.0).0 one.0 in
    let text = (bytes_eq-Decides p.1 q.1).0 two.0 in
    let rest = equal_pairs ps qs two.1 in
    λ i. (name i, text i) ∷ rest i

same_text : (text : List ℕ) → bytes_eq text text ≡ true
same_text text = (bytes_eq-Decides text text).1 refl

same_itself : (ps : Pairs) → same_pairs ps ps ≡ true
same_itself [] = refl
same_itself (p ∷ ps) = rw (same_text p.0, same_text p.1, same_itself ps) refl

same_if : (ps qs : Pairs) → ps ≡ qs → same_pairs ps qs ≡ true
same_if ps qs is = subst (λ (l : Pairs). same_pairs ps l ≡ true) is (same_itself ps)

told_by : (b c : Bool) (P : Type 0) → IsTrue b ↔ P → (P → c ≡ true) → (c ≡ true → P) → b ≡ c
told_by true true P is to from = refl
told_by false false P is to from = refl
told_by true false P is to from = let off = to (is.0 refl) in absurd (cc off)
told_by false true P is to from = let told = is.1 (from refl) in absurd (cc told)

pub told_pairs : (b : Bool) (ps qs : Pairs) → IsTrue b ↔ (ps ≡ qs) → b ≡ same_pairs ps qs
told_pairs b ps qs is = told_by b (same_pairs ps qs) (ps ≡ qs) is (same_if ps qs) (equal_pairs ps qs)
