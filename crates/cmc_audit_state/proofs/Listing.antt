-- What a loop over keys has picked so far, beside the keys that are left.
use Rattle.std.proofs.Common.{◌≡◌, List, [], ◌∷◌, ◌++◌, Option, Some, None, sym, ap, ◌∙◌, append_assoc}
use Rattle.std.specs.Prelude.{filter_map, option_to_list}
use Rattle.std.specs.List.{cons_option}
use Rattle.std.proofs.lemmas.List.{append-nil}

abbrev pub IsLeftOf : {A X : Type 0} → (A → Option X) → List A → List X → List A → Type 0
IsLeftOf g all picked left = filter_map g all ≡ picked ++ filter_map g left

joined : {X : Type 0} (picked : List X) (o : Option X) (rest : List X) → picked ++ cons_option o rest ≡ (picked ++ option_to_list o) ++ rest
joined picked None rest = ap (λ l. l ++ rest) (sym (append-nil picked))
joined picked (Some x) rest = sym (append_assoc picked (x ∷ []) rest)

pub picked_next : {A X : Type 0} (g : A → Option X) (all : List A) (old new : List X) (before left : List A) (x : A) (o : Option X) → before ≡ x ∷ left → o ≡ g x → new ≡ old ++ option_to_list o
    → IsLeftOf g all old before → IsLeftOf g all new left
picked_next g all old new before left x o step is put so =
    so ∙ ap (λ l. old ++ filter_map g l) step ∙ joined old (g x) (filter_map g left) ∙ ap (λ p. (old ++ option_to_list p) ++ filter_map g left) (sym is) ∙ ap (λ l. l ++ filter_map g left) (sym put)

pub picked_all : {A X : Type 0} (g : A → Option X) (all : List A) (picked : List X) (left : List A) → left ≡ [] → IsLeftOf g all picked left → picked ≡ filter_map g all
picked_all g all picked left none so = sym (so ∙ ap (λ l. picked ++ filter_map g l) none ∙ append-nil picked)
