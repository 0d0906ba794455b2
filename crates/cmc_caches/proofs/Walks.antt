-- Lines of numbers walked from the newest on.
use Rattle.std.proofs.Common.{◌≡◌, ◌⊎◌, ℕ, ◌+◌, ◌-◌, ◌<◌, ◌≤◌, List, [], ◌∷◌, length, take, get_or, Bool, true, false, refl, sym, ap, subst, ◌∙◌, inl, inr, arith}
use Rattle.std.specs.Prelude.{if◌then◌else◌, reverse, nat_le, nat_lt, ◌&&◌, ◌||◌}
use Rattle.std.proofs.lemmas.Bool.{or_cases}
use Rattle.std.proofs.lemmas.Bool.Decides.{nat_tests}
use Rattle.std.proofs.lemmas.List.{reverse-append, take_all, take_more}
use Rattle.cmc_meta.specs.declared.key.Key.{Key}
use Rattle.cmc_model.specs.declared.write.Write.{Write}
use Rattle.cmc_model.specs.Writes.{write_at}
use Rattle.cmc_caches.specs.Lines.{last_at}
use Rattle.cmc_caches.specs.Left.{AreAtMost, AreFalling, has_left, is_write_of}
use Rattle.cmc_caches.proofs.Topped.{none_below}

-- those that are not newer, the newest first
abbrev pub older : List ℕ → ℕ → List ℕ
older ns newer = reverse (take (length ns - newer) ns)

older_next : (ns : List ℕ) (newer d : ℕ) → newer < length ns → older ns newer ≡ get_or ns (length ns - 1 - newer) d ∷ older ns (newer + 1)
older_next ns newer d low =
    let i : ℕ = length ns - 1 - newer in
    let one : length ns - newer ≡ i + 1 = omega (arith, low) in
    let rest : i ≡ length ns - (newer + 1) = omega (arith, low) in
    let below : i < length ns = omega (arith, low) in
    ap (λ (n : ℕ). reverse (take n ns)) one ∙ ap reverse (take_more ns i d below) ∙ reverse-append (take i ns) (get_or ns i d ∷ []) ∙ ap (λ (n : ℕ). get_or ns i d ∷ reverse (take n ns)) rest

none_older : (ns : List ℕ) (newer : ℕ) → length ns ≤ newer → older ns newer ≡ []
none_older ns newer all = let none : length ns - newer ≡ 0 = omega (arith, all) in ap (λ (n : ℕ). reverse (take n ns)) none

-- ---- the last of at most the position

-- the newer ones are too new
abbrev pub IsLeft : ℕ → List ℕ → ℕ → Type 0
IsLeft at ns newer = last_at at (reverse ns) ≡ last_at at (older ns newer)

last_here : (at n : ℕ) (ns : List ℕ) → last_at at (n ∷ ns) ≡ (if nat_le n at then n else last_at at ns)
unfolding last_at
last_here at n ns = refl

last_none : (at : ℕ) → last_at at [] ≡ 0
unfolding last_at
last_none at = refl

next_last : (at : ℕ) (ns : List ℕ) (newer n d : ℕ) → newer < length ns → IsLeft at ns newer → get_or ns (length ns - 1 - newer) d ≡ n
    → last_at at (reverse ns) ≡ (if nat_le n at then n else last_at at (older ns (newer + 1)))
next_last at ns newer n d low left is =
    left ∙ ap (last_at at) (older_next ns newer d low ∙ ap (λ (m : ℕ). m ∷ older ns (newer + 1)) is) ∙ last_here at n (older ns (newer + 1))

pub left_here : (at : ℕ) (ns : List ℕ) (newer d n : ℕ) → newer < length ns → IsLeft at ns newer → get_or ns (length ns - 1 - newer) d ≡ n → nat_le n at ≡ true → n ≡ last_at at (reverse ns)
left_here at ns newer d n low left is on = sym (next_last at ns newer n d low left is ∙ ap (λ (b : Bool). if b then n else last_at at (older ns (newer + 1))) on)

pub left_before : (at : ℕ) (ns : List ℕ) (newer d n : ℕ) → newer < length ns → IsLeft at ns newer → get_or ns (length ns - 1 - newer) d ≡ n → nat_le n at ≡ false → IsLeft at ns (newer + 1)
left_before at ns newer d n low left is off = next_last at ns newer n d low left is ∙ ap (λ (b : Bool). if b then n else last_at at (older ns (newer + 1))) off

pub left_none : (at : ℕ) (ns : List ℕ) (newer : ℕ) → length ns ≤ newer → IsLeft at ns newer → 0 ≡ last_at at (reverse ns)
left_none at ns newer all left = sym (left ∙ ap (last_at at) (none_older ns newer all) ∙ last_none at)

-- ---- those above the position

-- the key of each number above the position holds the test, or the number is one of those that are left to be walked
abbrev pub AreWalked : ℕ → List ℕ → List Write → ℕ → (Key → Bool) → Type 0
AreWalked at ns ws newer test = (key : Key) → has_left at (reverse ns) key ws ≡ true → (test key ≡ true) ⊎ (has_left at (older ns newer) key ws ≡ true)

pub falls_next : (ns : List ℕ) (newer n d : ℕ) → newer < length ns → get_or ns (length ns - 1 - newer) d ≡ n → AreFalling (older ns newer) → AreAtMost n (older ns (newer + 1)) × AreFalling (older ns (newer + 1))
falls_next ns newer n d low is falls = subst AreFalling (older_next ns newer d low ∙ ap (λ (m : ℕ). m ∷ older ns (newer + 1)) is) falls

no_more : (at n : ℕ) (key : Key) (ws : List Write) (ns : List ℕ) → n ≤ at → AreAtMost n ns → has_left at (n ∷ ns) key ws ≡ false
no_more at n key ws ns low most =
    let off : nat_lt at n ≡ false = grind (arith, nat_tests) in
    ap (λ (b : Bool). (b && is_write_of (write_at n ws) key) || has_left at ns key ws) off ∙ none_below at n key ws ns low most

pub all_above : (at : ℕ) (ns : List ℕ) (ws : List Write) (newer n d : ℕ) (test : Key → Bool) → newer < length ns → get_or ns (length ns - 1 - newer) d ≡ n → n ≤ at → AreFalling (older ns newer)
    → AreWalked at ns ws newer test → (key : Key) → has_left at (reverse ns) key ws ≡ true → test key ≡ true
all_above at ns ws newer n d test low is below falls walked key had =
    elim (walked key had) [
      | inl on ↦ on
      | inr left ↦ absurd (let off : has_left at (older ns newer) key ws ≡ false =
          ap (λ (l : List ℕ). has_left at l key ws) (older_next ns newer d low ∙ ap (λ (m : ℕ). m ∷ older ns (newer + 1)) is)
          ∙ no_more at n key ws (older ns (newer + 1)) below (falls_next ns newer n d low is falls).0 in cc (off, left))
    ]

pub all_walked : (at : ℕ) (ns : List ℕ) (ws : List Write) (newer : ℕ) (test : Key → Bool) → length ns ≤ newer → AreWalked at ns ws newer test → (key : Key) → has_left at (reverse ns) key ws ≡ true → test key ≡ true
all_walked at ns ws newer test all walked key had =
    elim (walked key had) [
      | inl on ↦ on
      | inr left ↦ absurd (let off : has_left at (older ns newer) key ws ≡ false = ap (λ (l : List ℕ). has_left at l key ws) (none_older ns newer all) in cc (off, left))
    ]

and_right : (a b : Bool) → (a && b) ≡ true → b ≡ true
and_right true b is = is
and_right false b is = absurd (cc is)

pub walked_more : (at : ℕ) (ns : List ℕ) (ws : List Write) (newer n d : ℕ) (old new : Key → Bool) → newer < length ns → get_or ns (length ns - 1 - newer) d ≡ n
    → ((key : Key) → old key ≡ true → new key ≡ true) → ((key : Key) → is_write_of (write_at n ws) key ≡ true → new key ≡ true) → AreWalked at ns ws newer old → AreWalked at ns ws (newer + 1) new
walked_more at ns ws newer n d old new low is keeps adds walked key had =
    elim (walked key had) [
      | inl on ↦ inl (keeps key on)
      | inr left ↦ elim (or_cases (nat_lt at n && is_write_of (write_at n ws) key) (has_left at (older ns (newer + 1)) key ws)
          (sym (ap (λ (l : List ℕ). has_left at l key ws) (older_next ns newer d low ∙ ap (λ (m : ℕ). m ∷ older ns (newer + 1)) is)) ∙ left)) [
            | inl here ↦ inl (adds key (and_right (nat_lt at n) (is_write_of (write_at n ws) key) here))
            | inr there ↦ inr there
          ]
    ]

pub none_at_all : (at : ℕ) (ns : List ℕ) (key : Key) (ws : List Write) → length ns ≡ 0 → has_left at (reverse ns) key ws ≡ false
none_at_all at ns key ws none =
    ap (λ (l : List ℕ). has_left at (reverse l) key ws) (empty ns none) where
      empty : (ms : List ℕ) → length ms ≡ 0 → ms ≡ []
      empty [] is = refl
      empty (m ∷ ms) is = absurd (omega (arith, is))

-- the newest is not above the position
pub none_newer : (at : ℕ) (ns : List ℕ) (key : Key) (ws : List Write) → 0 < length ns → AreFalling (reverse ns) → get_or ns (length ns - 1) 0 ≤ at → has_left at (reverse ns) key ws ≡ false
none_newer at ns key ws some falls low =
    let n : ℕ = get_or ns (length ns - 1) 0 in
    let first : length ns - 1 - 0 ≡ length ns - 1 = omega arith in
    let whole : length ns - 0 ≡ length ns = omega arith in
    let all : older ns 0 ≡ reverse ns = ap (λ (k : ℕ). reverse (take k ns)) whole ∙ ap reverse (take_all (length ns) ns (omega arith)) in
    let next : reverse ns ≡ n ∷ older ns 1 = sym all ∙ older_next ns 0 0 some ∙ ap (λ (k : ℕ). get_or ns k 0 ∷ older ns 1) first in
    let most = subst AreFalling next falls in
    ap (λ (l : List ℕ). has_left at l key ws) next ∙ no_more at n key ws (older ns 1) low most.0
