-- What a loop over keys has picked so far.
use Rattle.std.proofs.Common.{◌≡◌, ℕ, ◌+◌, ◌<◌, List, [], ◌∷◌, ◌++◌, length, take, get_or, Option, Some, None, refl, sym, ap, ◌∙◌}
use Rattle.std.specs.Prelude.{filter_map, option_to_list}
use Rattle.std.specs.List.{cons_option}
use Rattle.std.proofs.lemmas.List.{take_more}
use Rattle.std.proofs.lemmas.List.Elements.{filter_map-append}

one_or_none : {X : Type 0} (o : Option X) → option_to_list o ≡ cons_option o []
one_or_none None = refl
one_or_none (Some x) = refl

pub picked_next : {A X : Type 0} (g : A → Option X) (xs : List A) (i : ℕ) (x : A) (o : Option X) (old new : List X) → i < length xs → x ≡ get_or xs i x → o ≡ g x
    → old ≡ filter_map g (take i xs) → new ≡ old ++ option_to_list o → new ≡ filter_map g (take (i + 1) xs)
picked_next g xs i x o old new low at is so put =
    put ∙ ap (λ l. l ++ option_to_list o) so ∙ ap (λ p. filter_map g (take i xs) ++ option_to_list p) is ∙ ap (λ l. filter_map g (take i xs) ++ l) (one_or_none (g x))
    ∙ sym (filter_map-append g (take i xs) (x ∷ [])) ∙ ap (λ y. filter_map g (take i xs ++ y ∷ [])) at ∙ ap (filter_map g) (sym (take_more xs i x low))
