-- A pattern by its pieces: each stands for itself, and of the places of a piece the leftmost serves.
use Rattle.std.proofs.Common.{◌≡◌, ℕ, suc, ◌==◌, Bool, false, List, [], ◌∷◌, ◌++◌, refl, sym, ◌∙◌, ap, subst, append_assoc, arith, ◌↔◌}
use Rattle.std.proofs.lemmas.List.{append_cancel_left}
use Rattle.cmc_policy_rules.specs.Patterns.{star, EndsWith, StandsFor, MatchesPattern, IsStarless, IsCutAtStar, IsFirstPlace, OccursNowhere}

first_starless : (byte : ℕ) (piece : List ℕ) → IsStarless (byte ∷ piece) → (byte == star) ≡ false
first_starless byte piece starless = starless 0 0 (omega arith)

rest_starless : (byte : ℕ) (piece : List ℕ) → IsStarless (byte ∷ piece) → IsStarless piece
rest_starless byte piece starless = λ k d within. starless (suc k) d (omega arith)

-- a piece stands for itself
pub piece_taken : (piece behind text : List ℕ) → IsStarless piece → MatchesPattern (piece ++ behind) text
    → (rest : List ℕ) × (text ≡ piece ++ rest) × MatchesPattern behind rest
piece_taken [] behind text starless matched = (text, refl, matched)
piece_taken (byte ∷ piece) behind text starless matched =
    let first : text ≡ byte ∷ matched.0 = subst (λ (v : Bool). StandsFor v byte text matched.0) (first_starless byte piece starless) matched.1 in
    let more : (rest : List ℕ) × (matched.0 ≡ piece ++ rest) × MatchesPattern behind rest =
    piece_taken piece behind matched.0 (rest_starless byte piece starless) matched.2 in
    (more.0, first ∙ ap (λ (l : List ℕ). byte ∷ l) more.1, more.2)

pub piece_given : (piece behind text rest : List ℕ) → IsStarless piece → text ≡ piece ++ rest → MatchesPattern behind rest
    → MatchesPattern (piece ++ behind) text
piece_given [] behind text rest starless same matched = subst (λ (l : List ℕ). MatchesPattern behind l) (sym same) matched
piece_given (byte ∷ piece) behind text rest starless same matched = (
  piece ++ rest,
  subst (λ (v : Bool). StandsFor v byte text (piece ++ rest)) (sym (first_starless byte piece starless)) same,
  piece_given piece behind (piece ++ rest) rest (rest_starless byte piece starless) refl matched,
)

pub ends_further : (text middle rest : List ℕ) → EndsWith text middle → EndsWith middle rest → EndsWith text rest
ends_further text middle rest (front, a) (more, b) =
    (front ++ more, a ∙ (ap (λ (l : List ℕ). front ++ l) b ∙ sym (append_assoc front more rest)))

-- a star takes up more bytes
pub star_more : (pattern text later : List ℕ) → EndsWith text later → MatchesPattern (star ∷ pattern) later → MatchesPattern (star ∷ pattern) text
star_more pattern text later ends (rest, found, matched) = (rest, ends_further text later rest ends found, matched)

-- the leftmost place of a piece serves
pub first_place : (pattern piece behind text rest : List ℕ) → IsCutAtStar pattern piece behind → IsFirstPlace text piece rest
    → MatchesPattern (star ∷ pattern) text ↔ MatchesPattern (star ∷ behind) rest
first_place pattern piece behind text rest cut place = (
  (λ (later, ends, matched).
      let taken : (after : List ℕ) × (later ≡ piece ++ after) × MatchesPattern (star ∷ behind) after =
      piece_taken piece (star ∷ behind) later cut.starless (subst (λ (p : List ℕ). MatchesPattern p later) cut.whole matched) in
      star_more behind rest taken.0
      (place.leftmost taken.0 (subst (λ (l : List ℕ). EndsWith text l) taken.1 ends)) taken.2),
  (λ matched. (
    piece ++ rest,
    place.here,
    subst (λ (p : List ℕ). MatchesPattern p (piece ++ rest)) (sym cut.whole)
        (piece_given piece (star ∷ behind) (piece ++ rest) rest cut.starless refl matched),
  )),
)

-- a piece that stands nowhere matches nowhere
pub no_place : (pattern piece behind text : List ℕ) → IsCutAtStar pattern piece behind
    → OccursNowhere text piece → MatchesPattern (star ∷ pattern) text → ⊥
no_place pattern piece behind text cut none (later, ends, matched) =
    let taken : (after : List ℕ) × (later ≡ piece ++ after) × MatchesPattern (star ∷ behind) after =
    piece_taken piece (star ∷ behind) later cut.starless (subst (λ (p : List ℕ). MatchesPattern p later) cut.whole matched) in
    none taken.0 (subst (λ (l : List ℕ). EndsWith text l) taken.1 ends)

-- a pattern without a star matches itself alone
pub starless_matches : (pattern text : List ℕ) → IsStarless pattern → MatchesPattern pattern text ↔ (text ≡ pattern)
starless_matches [] text starless = ((λ same. same), (λ same. same))
starless_matches (byte ∷ pattern) text starless = (
  (λ matched.
      let first : text ≡ byte ∷ matched.0 =
      subst (λ (v : Bool). StandsFor v byte text matched.0) (first_starless byte pattern starless) matched.1 in
      first ∙ ap (λ (l : List ℕ). byte ∷ l)
      ((starless_matches pattern matched.0 (rest_starless byte pattern starless)).0 matched.2)),
  (λ same. (
    pattern,
    subst (λ (v : Bool). StandsFor v byte text pattern) (sym (first_starless byte pattern starless)) same,
    (starless_matches pattern pattern (rest_starless byte pattern starless)).1 refl,
  )),
)

-- behind a star it matches the texts that end with it
pub starless_end : (pattern text : List ℕ) → IsStarless pattern → MatchesPattern (star ∷ pattern) text ↔ EndsWith text pattern
starless_end pattern text starless = (
  (λ (rest, ends, matched). subst (λ (l : List ℕ). EndsWith text l) ((starless_matches pattern rest starless).0 matched) ends),
  (λ ends. (pattern, ends, (starless_matches pattern pattern starless).1 refl)),
)

-- a pattern that begins with a piece
pub front_piece : (pattern piece behind text rest : List ℕ) → IsCutAtStar pattern piece behind → text ≡ piece ++ rest
    → MatchesPattern (star ∷ behind) rest ↔ MatchesPattern pattern text
front_piece pattern piece behind text rest cut same = (
  (λ matched. subst (λ (p : List ℕ). MatchesPattern p text) (sym cut.whole)
      (piece_given piece (star ∷ behind) text rest cut.starless same matched)),
  (λ matched.
      let taken : (after : List ℕ) × (text ≡ piece ++ after) × MatchesPattern (star ∷ behind) after =
      piece_taken piece (star ∷ behind) text cut.starless (subst (λ (p : List ℕ). MatchesPattern p text) cut.whole matched) in
      subst (λ (l : List ℕ). MatchesPattern (star ∷ behind) l)
      (append_cancel_left piece taken.0 rest (sym taken.1 ∙ same)) taken.2),
)

-- a text that does not begin with the piece
pub other_front : (pattern piece behind text : List ℕ) → IsCutAtStar pattern piece behind
    → ((rest : List ℕ) → text ≡ piece ++ rest → ⊥) → MatchesPattern pattern text → ⊥
other_front pattern piece behind text cut other matched =
    let taken : (after : List ℕ) × (text ≡ piece ++ after) × MatchesPattern (star ∷ behind) after =
    piece_taken piece (star ∷ behind) text cut.starless (subst (λ (p : List ℕ). MatchesPattern p text) cut.whole matched) in
    other taken.0 taken.1
