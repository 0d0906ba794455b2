-- The places of a piece in a text, from the left.
use Rattle.std.proofs.Common.{◌≡◌, ℕ, ◌+◌, ◌-◌, ◌<◌, List, [], ◌∷◌, ◌++◌, length, take, drop, refl, sym, ◌∙◌, ap, subst, append_assoc, arith, length-append}
use Rattle.std.proofs.lemmas.List.{take-append-drop, take_rest, drop_at, drop-drop}
use Rattle.cmc_policy_rules.specs.Patterns.{EndsWith, IsFirstPlace, OccursNowhere}
use Rattle.cmc_policy_rules.proofs.Pieces.{ends_further}

-- two places of a piece in one text, the first at its front
shifted : (piece rest front after : List ℕ) → piece ++ rest ≡ front ++ (piece ++ after) → EndsWith rest after
shifted piece rest front after same =
    let moved : drop (length front) rest ≡ drop (length piece + length front) (piece ++ rest) =
    ap (λ (l : List ℕ). drop (length front) l) (sym (drop_at piece rest (length piece) refl))
    ∙ drop-drop (length front) (length piece) (piece ++ rest) in
    let there : drop (length piece + length front) ((front ++ piece) ++ after) ≡ after =
    drop_at (front ++ piece) after (length piece + length front) (omega (arith, length-append front piece)) in
    let is_after : drop (length front) rest ≡ after =
    moved ∙ (ap (λ (l : List ℕ). drop (length piece + length front) l) (same ∙ sym (append_assoc front piece after)) ∙ there) in
    (take (length front) rest, sym (take-append-drop (length front) rest) ∙ ap (λ (l : List ℕ). take (length front) rest ++ l) is_after)

-- where what is left begins with the piece, that is its first place
pub found : (text left piece rest : List ℕ) → EndsWith text left
    → ((after : List ℕ) → EndsWith text (piece ++ after) → EndsWith left (piece ++ after))
    → left ≡ piece ++ rest → IsFirstPlace text piece rest
found text left piece rest is_end has_each same = record {
  here = subst (λ (l : List ℕ). EndsWith text l) same is_end;
  leftmost = λ after ends.
      let at : EndsWith left (piece ++ after) = has_each after ends in
      shifted piece rest at.0 after (sym same ∙ at.1);
}

-- where it does not, each place is further to the right
further : (left piece after : List ℕ) → ((rest : List ℕ) → left ≡ piece ++ rest → ⊥)
    → EndsWith left (piece ++ after) → EndsWith (take (length left - 1) (drop 1 left)) (piece ++ after)
further left piece after other ([], same) = absurd (other after same)
further left piece after other (byte ∷ front, same) =
    (front, take_rest left 1 ∙ ap (λ (l : List ℕ). drop 1 l) same)

pub each_further : (text left piece : List ℕ)
    → ((after : List ℕ) → EndsWith text (piece ++ after) → EndsWith left (piece ++ after))
    → ((rest : List ℕ) → left ≡ piece ++ rest → ⊥)
    → (after : List ℕ) → EndsWith text (piece ++ after) → EndsWith (take (length left - 1) (drop 1 left)) (piece ++ after)
each_further text left piece has_each other after ends = further left piece after other (has_each after ends)

pub end_further : (text left : List ℕ) → EndsWith text left → EndsWith text (take (length left - 1) (drop 1 left))
end_further text left is_end =
    ends_further text left (take (length left - 1) (drop 1 left)) is_end
    (take 1 left, sym (take-append-drop 1 left) ∙ ap (λ (l : List ℕ). take 1 left ++ l) (sym (take_rest left 1)))

-- where nothing is left, there is none
pub none_left : (text left piece : List ℕ)
    → ((after : List ℕ) → EndsWith text (piece ++ after) → EndsWith left (piece ++ after))
    → ((rest : List ℕ) → left ≡ piece ++ rest → ⊥) → length left < 1 → OccursNowhere text piece
none_left text left piece has_each other short rest ends = nowhere (has_each rest ends)
  where
    nowhere : EndsWith left (piece ++ rest) → ⊥
    nowhere ([], same) = other rest same
    nowhere (byte ∷ front, same) = absurd (omega (arith, ap length same))
