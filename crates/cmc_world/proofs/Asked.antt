-- The entry in which a pass asked, searched from the newest on.
use Rattle.std.proofs.Common.{◌≡◌, ℕ, ◌+◌, ◌-◌, ◌<◌, ◌≤◌, List, [], ◌∷◌, length, take, get_or, Bool, true, false, refl, sym, ap, ◌∙◌, arith}
use Rattle.std.specs.Prelude.{if◌then◌else◌, reverse}
use Rattle.std.proofs.lemmas.List.{length-reverse, length-take-le, reverse-append, take_more}
use Rattle.cmc_objects.specs.declared.entry.Entry.{Entry}
use Rattle.cmc_world.specs.Questions.{asks, ask_number}

reversed_next : (es : List Entry) (i : ℕ) (d : Entry) → i < length es → reverse (take (i + 1) es) ≡ get_or es i d ∷ reverse (take i es)
reversed_next es i d h = ap reverse (take_more es i d h) ∙ reverse-append (take i es) (get_or es i d ∷ [])

counted_next : (es : List Entry) (i : ℕ) (d : Entry) → i < length es → length (get_or es i d ∷ reverse (take i es)) ≡ i + 1
counted_next es i d h =
    let a : length (reverse (take i es)) ≡ length (take i es) = length-reverse (take i es) in
    let b : length (take i es) ≡ i = length-take-le i es (omega (arith, h)) in
    omega (arith, a, b)

ask_number-none : (pass : ℕ) → ask_number pass [] ≡ 0
unfolding ask_number
ask_number-none pass = refl

ask_number-next : (pass : ℕ) (es : List Entry) (i : ℕ) (d : Entry) → i < length es
    → ask_number pass (reverse (take (i + 1) es)) ≡ (if asks pass (get_or es i d) then i + 1 else ask_number pass (reverse (take i es)))
unfolding ask_number
ask_number-next pass es i d h =
    ap (ask_number pass) (reversed_next es i d h)
    ∙ ap (λ (n : ℕ). if asks pass (get_or es i d) then n else ask_number pass (reverse (take i es))) (counted_next es i d h)

-- the newer ones are no question of the pass
abbrev pub IsLeft : ℕ → List Entry → ℕ → Type 0
IsLeft pass es newer = ask_number pass (reverse es) ≡ ask_number pass (reverse (take (length es - newer) es))

chosen : (b : Bool) (x y : ℕ) → b ≡ true → (if b then x else y) ≡ x
chosen true x y on = refl
chosen false x y on = absurd (cc on)

passed : (b : Bool) (x y : ℕ) → b ≡ false → (if b then x else y) ≡ y
passed true x y off = absurd (cc off)
passed false x y off = refl

next_at : (pass : ℕ) (es : List Entry) (number newer : ℕ) (d : Entry) → number ≡ length es - newer → newer < length es → IsLeft pass es newer
    → ask_number pass (reverse es) ≡ (if asks pass (get_or es (number - 1) d) then number else ask_number pass (reverse (take (number - 1) es)))
next_at pass es number newer d is low left =
    let i : ℕ = number - 1 in
    let one : i + 1 ≡ number = omega (arith, is, low) in
    let below : i < length es = omega (arith, is, low) in
    left ∙ ap (λ (n : ℕ). ask_number pass (reverse (take n es))) (sym (one ∙ is)) ∙ ask_number-next pass es i d below
    ∙ ap (λ (n : ℕ). if asks pass (get_or es i d) then n else ask_number pass (reverse (take i es))) one

-- this one is
pub asks_here : (pass : ℕ) (es : List Entry) (number newer : ℕ) (d : Entry) → number ≡ length es - newer → newer < length es → IsLeft pass es newer
    → asks pass (get_or es (number - 1) d) ≡ true → number ≡ ask_number pass (reverse es)
asks_here pass es number newer d is low left on = sym (next_at pass es number newer d is low left ∙ chosen (asks pass (get_or es (number - 1) d)) number _ on)

-- nor is this one
pub asks_before : (pass : ℕ) (es : List Entry) (number newer : ℕ) (d : Entry) → number ≡ length es - newer → newer < length es → IsLeft pass es newer
    → asks pass (get_or es (number - 1) d) ≡ false → IsLeft pass es (newer + 1)
asks_before pass es number newer d is low left off =
    let same : number - 1 ≡ length es - (newer + 1) = omega (arith, is, low) in
    next_at pass es number newer d is low left ∙ passed (asks pass (get_or es (number - 1) d)) number _ off ∙ ap (λ (n : ℕ). ask_number pass (reverse (take n es))) same

-- none is
pub asks_nowhere : (pass : ℕ) (es : List Entry) (newer : ℕ) → length es ≤ newer → IsLeft pass es newer → 0 ≡ ask_number pass (reverse es)
asks_nowhere pass es newer all left =
    let none : length es - newer ≡ 0 = omega (arith, all) in
    sym (left ∙ ap (λ (n : ℕ). ask_number pass (reverse (take n es))) none ∙ ask_number-none pass)
