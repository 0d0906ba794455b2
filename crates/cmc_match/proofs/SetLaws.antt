-- The tests on lists of texts say what they are to say.
use Rattle.std.proofs.Common.{◌≡◌, ℕ, zero, suc, ◌⊎◌, ◌<◌, Bool, true, false, ◌&&◌, ◌||◌, List, [], ◌∷◌, length, get_or, refl, arith, inl, inr}
use Rattle.std.specs.Prelude.{◌↔◌, IsTrue, Contains}
use Rattle.std.specs.Str.{bytes_eq}
use Rattle.std.proofs.lemmas.Bool.{cases_Bool, false≢true, and_from, and_parts}
use Rattle.std.proofs.lemmas.Slice.Eq.{bytes_eq-Decides}
use Rattle.cmc_match.specs.Sets.{IsSameSet, is_among, is_within, is_same_set}

-- one element is there
pub contains_here : (text : List ℕ) (texts : List (List ℕ)) → Contains (text ∷ texts) text
contains_here text texts = (0, omega arith, refl)

pub contains_later : (other text : List ℕ) (texts : List (List ℕ)) → Contains texts text → Contains (other ∷ texts) text
contains_later other text texts h = (suc h.0, omega (arith, h.1), h.2)

pub contains_cases : (other text : List ℕ) (texts : List (List ℕ)) → Contains (other ∷ texts) text → (other ≡ text) ⊎ Contains texts text
contains_cases other text texts h = go h.0 h.1 h.2
  where
    go : (k : ℕ) → k < length (other ∷ texts) → get_or (other ∷ texts) k text ≡ text → (other ≡ text) ⊎ Contains texts text
    go zero l e = inl e
    go (suc k) l e = inr (k, omega arith, e)

pub among_found : (texts : List (List ℕ)) (text : List ℕ) → is_among texts text ≡ true → Contains texts text
among_found [] text h = absurd (false≢true h)
among_found (other ∷ texts) text h =
    elim (cases_Bool (bytes_eq other text)) [
      | inl same ↦ rw ((bytes_eq-Decides other text).0 same) (contains_here text texts)
      | inr differs ↦ contains_later other text texts (among_found texts text (rw differs at h))
    ]

pub among_again : (texts : List (List ℕ)) (text : List ℕ) → Contains texts text → is_among texts text ≡ true
among_again [] text h = absurd (omega (arith, h.1))
among_again (other ∷ texts) text h =
    elim (contains_cases other text texts h) [
      | inl same ↦ rw ((bytes_eq-Decides other text).1 same) refl
      | inr later ↦ rw (among_again texts text later) (or_true (bytes_eq other text))
    ]
  where
    or_true : (b : Bool) → (b || true) ≡ true
    or_true true = refl
    or_true false = refl

pub within_found : (texts others : List (List ℕ)) → is_within texts others ≡ true → (text : List ℕ) → Contains texts text → Contains others text
within_found [] others h text c = absurd (omega (arith, c.1))
within_found (first ∷ texts) others h text c =
    elim (contains_cases first text texts c) [
      | inl same ↦ rw (← same) (among_found others first (and_parts _ _ h).0)
      | inr later ↦ within_found texts others (and_parts _ _ h).1 text later
    ]

pub within_again : (texts others : List (List ℕ)) → ((text : List ℕ) → Contains texts text → Contains others text) → is_within texts others ≡ true
within_again [] others h = refl
within_again (first ∷ texts) others h =
    and_from _ _ (among_again others first (h first (contains_here first texts)))
    (within_again texts others (λ text c. h text (contains_later first text texts c)))

pub sets : (left right : List (List ℕ)) → IsTrue (is_same_set left right) ↔ IsSameSet left right
sets left right =
    (λ h text. (within_found left right (and_parts _ _ h).0 text, within_found right left (and_parts _ _ h).1 text), λ h. and_from _ _ (within_again left right (λ text. (h text).0)) (within_again right left (λ text. (h text).1)))
