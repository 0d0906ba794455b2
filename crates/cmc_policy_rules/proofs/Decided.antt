-- The test `is_match` decides what a pattern matches.
use Rattle.std.proofs.Common.{◌≡◌, ℕ, ◌==◌, ◌⊎◌, inl, inr, Bool, true, false, List, [], ◌∷◌, ◌++◌, drop, refl, sym, ap, subst}
use Rattle.std.specs.Bool.{Decides}
use Rattle.std.specs.List.{list_any}
use Rattle.std.proofs.lemmas.Bool.Decides.{Decides-eqb, Decides-or, Decides-and}
use Rattle.cmc_policy_rules.specs.Patterns.{star, EndsWith, StandsFor, MatchesPattern, ends_of, is_begun, is_match}

moved : {P Q : Type 0} (b : Bool) → Decides b P → (P → Q) → (Q → P) → Decides b Q
moved b decides there back = ((λ e. there (decides.0 e)), (λ q. decides.1 (back q)))

-- an end of the text of which P holds
Ends : (List ℕ → Type 0) → List ℕ → Type 0
Ends P text = (rest : List ℕ) × EndsWith text rest × P rest

none_ends : (P : List ℕ → Type 0) → P [] ⊎ ⊥ → Ends P []
unfolding Ends
none_ends P (inl holds) = ([], ([], refl), holds)
none_ends P (inr never) = absurd never

nothing : (front rest : List ℕ) → [] ≡ front ++ rest → [] ≡ rest
nothing [] rest same = same
nothing (byte ∷ front) rest same = absurd (cc same)

none_back : (P : List ℕ → Type 0) → Ends P [] → P [] ⊎ ⊥
unfolding Ends
none_back P (rest, (front, same), holds) = inl (subst P (sym (nothing front rest same)) holds)

more_ends : (P : List ℕ → Type 0) (byte : ℕ) (text : List ℕ) → P (byte ∷ text) ⊎ Ends P text → Ends P (byte ∷ text)
unfolding Ends
more_ends P byte text (inl holds) = (byte ∷ text, ([], refl), holds)
more_ends P byte text (inr (rest, (front, same), holds)) = (rest, (byte ∷ front, ap (λ (l : List ℕ). byte ∷ l) same), holds)

more_back : (P : List ℕ → Type 0) (byte : ℕ) (text : List ℕ) → Ends P (byte ∷ text) → P (byte ∷ text) ⊎ Ends P text
unfolding Ends
more_back P byte text (rest, ([], same), holds) = inl (subst P (sym same) holds)
more_back P byte text (rest, (first ∷ front, same), holds) = inr (rest, (front, ap (λ (l : List ℕ). drop 1 l) same), holds)

ends_pass : (test : List ℕ → Bool) (P : List ℕ → Type 0) → ((rest : List ℕ) → Decides (test rest) (P rest)) → (text : List ℕ)
    → Decides (list_any test (ends_of text)) (Ends P text)
ends_pass test P decides [] =
    moved (list_any test (ends_of [])) (Decides-or (test []) false (decides []) ((λ e. absurd (cc e)), (λ never. absurd never)))
    (none_ends P) (none_back P)
ends_pass test P decides (byte ∷ text) =
    moved (list_any test (ends_of (byte ∷ text)))
    (Decides-or (test (byte ∷ text)) (list_any test (ends_of text)) (decides (byte ∷ text)) (ends_pass test P decides text))
    (more_ends P byte text) (more_back P byte text)

begun : (test : List ℕ → Bool) (P : List ℕ → Type 0) → ((rest : List ℕ) → Decides (test rest) (P rest)) → (is_star : Bool) (byte : ℕ) (text : List ℕ)
    → Decides (is_begun is_star byte test text) ((rest : List ℕ) × StandsFor is_star byte text rest × P rest)
unfolding Ends
begun test P decides true byte text = ends_pass test P decides text
begun test P decides false byte [] = ((λ e. absurd (cc e)), (λ (rest, same, holds). absurd (cc same)))
begun test P decides false byte (first ∷ text) =
    moved (is_begun false byte test (first ∷ text)) (Decides-and (first == byte) (test text) (Decides-eqb first byte) (decides text))
    (λ (same, holds). (text, ap (λ (b : ℕ). b ∷ text) same, holds))
    (λ (rest, same, holds). (cc same, subst P (sym (ap (λ (l : List ℕ). drop 1 l) same)) holds))

pub is_match-Decides : (pattern text : List ℕ) → Decides (is_match pattern text) (MatchesPattern pattern text)
unfolding is_match
is_match-Decides [] [] = ((λ e. refl), (λ e. refl))
is_match-Decides [] (byte ∷ text) = ((λ e. absurd (cc e)), (λ e. absurd (cc e)))
is_match-Decides (byte ∷ pattern) text = begun (is_match pattern) (MatchesPattern pattern) (is_match-Decides pattern) (byte == star) byte text
