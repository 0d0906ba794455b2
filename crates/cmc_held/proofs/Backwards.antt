-- The last write under a key, searched from the newest on.
use Rattle.std.proofs.Common.{◌≡◌, ℕ, ◌+◌, ◌-◌, ◌<◌, ◌≤◌, List, [], ◌∷◌, length, take, get_or, Bool, true, false, refl, sym, ap, ◌∙◌, arith}
use Rattle.std.specs.Prelude.{if◌then◌else◌, reverse}
use Rattle.std.proofs.lemmas.List.{length-reverse, length-take-le}
use Rattle.cmc_meta.specs.declared.key.Key.{Key}
use Rattle.cmc_meta.specs.Keys.{key_eq}
use Rattle.cmc_model.specs.declared.write.Write.{Write}
use Rattle.cmc_model.specs.Writes.{last_under}
use Rattle.cmc_held.proofs.Numbered.{last_under-next, last_under-none}

last_low : (b : Bool) (key : Key) (w : Write) (ws : List Write) → last_under key ws ≤ length ws → (if b then length (w ∷ ws) else last_under key ws) ≤ length (w ∷ ws)
last_low true key w ws low = omega arith
last_low false key w ws low = omega (arith, low)

pub last_under-low : (key : Key) (ws : List Write) → last_under key ws ≤ length ws
unfolding last_under
last_under-low key [] = omega arith
last_under-low key (w ∷ ws) = last_low (key_eq w.key key) key w ws (last_under-low key ws)

-- the newer ones do not stand under the key
abbrev pub IsLeft : Key → List Write → ℕ → Type 0
IsLeft key ws newer = last_under key (reverse ws) ≡ last_under key (reverse (take (length ws - newer) ws))

chosen : (b : Bool) (x y : ℕ) → b ≡ true → (if b then x else y) ≡ x
chosen true x y on = refl
chosen false x y on = absurd (cc on)

passed : (b : Bool) (x y : ℕ) → b ≡ false → (if b then x else y) ≡ y
passed true x y off = absurd (cc off)
passed false x y off = refl

next_at : (key : Key) (ws : List Write) (version newer : ℕ) (d : Write) → version ≡ length ws - newer → newer < length ws → IsLeft key ws newer
    → last_under key (reverse ws) ≡ (if key_eq (get_or ws (version - 1) d).key key then version else last_under key (reverse (take (version - 1) ws)))
next_at key ws version newer d is low left =
    let i : ℕ = version - 1 in
    let one : i + 1 ≡ version = omega (arith, is, low) in
    let below : i < length ws = omega (arith, is, low) in
    left ∙ ap (λ (n : ℕ). last_under key (reverse (take n ws))) (sym (one ∙ is)) ∙ last_under-next key ws i d below
    ∙ ap (λ (n : ℕ). if key_eq (get_or ws i d).key key then n else last_under key (reverse (take i ws))) one

-- this one does
pub under_here : (key : Key) (ws : List Write) (version newer : ℕ) (d : Write) → version ≡ length ws - newer → newer < length ws → IsLeft key ws newer
    → key_eq (get_or ws (version - 1) d).key key ≡ true → version ≡ last_under key (reverse ws)
under_here key ws version newer d is low left on = sym (next_at key ws version newer d is low left ∙ chosen (key_eq (get_or ws (version - 1) d).key key) version _ on)

-- nor does this one
pub under_before : (key : Key) (ws : List Write) (version newer : ℕ) (d : Write) → version ≡ length ws - newer → newer < length ws → IsLeft key ws newer
    → key_eq (get_or ws (version - 1) d).key key ≡ false → IsLeft key ws (newer + 1)
under_before key ws version newer d is low left off =
    let same : version - 1 ≡ length ws - (newer + 1) = omega (arith, is, low) in
    next_at key ws version newer d is low left ∙ passed (key_eq (get_or ws (version - 1) d).key key) version _ off ∙ ap (λ (n : ℕ). last_under key (reverse (take n ws))) same

-- none does
pub under_none : (key : Key) (ws : List Write) (newer : ℕ) → length ws ≤ newer → IsLeft key ws newer → 0 ≡ last_under key (reverse ws)
under_none key ws newer all left =
    let none : length ws - newer ≡ 0 = omega (arith, all) in
    sym (left ∙ ap (λ (n : ℕ). last_under key (reverse (take n ws))) none ∙ last_under-none key)

-- so that the last is none of the newer ones
pub under_older : (key : Key) (ws : List Write) (newer : ℕ) → IsLeft key ws newer → last_under key (reverse ws) ≤ length ws - newer
under_older key ws newer left =
    let n : ℕ = length ws - newer in
    let count : length (reverse (take n ws)) ≡ n = length-reverse (take n ws) ∙ length-take-le n ws (omega arith) in
    let low : last_under key (reverse (take n ws)) ≤ length (reverse (take n ws)) = last_under-low key (reverse (take n ws)) in
    omega (arith, left, count, low)
