-- The writes by their versions, where they are kept in order of time.
use Rattle.std.proofs.Common.{◌≡◌, ℕ, suc, ◌+◌, ◌-◌, ◌≤◌, ◌<◌, get_or, List, [], ◌∷◌, length, take, Bool, true, false, Some, None, inl, inr, refl, sym, ap, ◌∙◌, arith}
use Rattle.std.specs.Prelude.{if◌then◌else◌, reverse, ◌==◌, ◌||◌, slice_get}
use Rattle.std.specs.List.{list_any}
use Rattle.std.proofs.lemmas.Bool.Decides.{nat_tests}
use Rattle.std.proofs.lemmas.List.{length-reverse, length-take-le, reverse-append, get_or-reverse, take_more}
use Rattle.std.proofs.lemmas.List.Folds.{list_any-append}
use Rattle.std.proofs.lemmas.Option.{slice_get_cases}
use Rattle.cmc_meta.specs.declared.key.Key.{Key}
use Rattle.cmc_meta.specs.Keys.{key_eq}
use Rattle.cmc_model.specs.declared.write.Write.{Write}
use Rattle.cmc_model.specs.Writes.{write_at, last_under}

-- ---- one more write in order of time

pub reversed_next : (ws : List Write) (i : ℕ) (d : Write) → i < length ws → reverse (take (i + 1) ws) ≡ get_or ws i d ∷ reverse (take i ws)
reversed_next ws i d h = ap reverse (take_more ws i d h) ∙ reverse-append (take i ws) (get_or ws i d ∷ [])

counted_next : (ws : List Write) (i : ℕ) (d : Write) → i < length ws → length (get_or ws i d ∷ reverse (take i ws)) ≡ i + 1
counted_next ws i d h =
    let a : length (reverse (take i ws)) ≡ length (take i ws) = length-reverse (take i ws) in
    let b : length (take i ws) ≡ i = length-take-le i ws (omega (arith, h)) in
    omega (arith, a, b)

-- ---- the last write under a key

pub last_under-none : (key : Key) → last_under key [] ≡ 0
unfolding last_under
last_under-none key = refl

pub last_under-next : (key : Key) (ws : List Write) (i : ℕ) (d : Write) → i < length ws
    → last_under key (reverse (take (i + 1) ws)) ≡ (if key_eq (get_or ws i d).key key then i + 1 else last_under key (reverse (take i ws)))
unfolding last_under
last_under-next key ws i d h =
    ap (last_under key) (reversed_next ws i d h)
    ∙ ap (λ (n : ℕ). if key_eq (get_or ws i d).key key then n else last_under key (reverse (take i ws))) (counted_next ws i d h)

-- ---- the write of a version

at_version : (w : Write) (ws : List Write) (i : ℕ) (d : Write) → i < length (w ∷ ws) → (b : Bool) → (length (w ∷ ws) == i + 1) ≡ b
    → (i < length ws → write_at (i + 1) ws ≡ Some (get_or ws (length ws - 1 - i) d))
    → (if b then Some w else write_at (i + 1) ws) ≡ Some (get_or (w ∷ ws) (length (w ∷ ws) - 1 - i) d)
at_version w ws i d h true e below =
    let same : i ≡ length ws = grind (arith, nat_tests) in
    let zero_left : length (w ∷ ws) - 1 - i ≡ 0 = omega (arith, same) in
    rw zero_left refl
at_version w ws i d h false e below =
    let less : i < length ws = grind (arith, nat_tests) in
    let some_left : length (w ∷ ws) - 1 - i ≡ suc (length ws - 1 - i) = omega (arith, less) in
    rw some_left (below less)

newest_first : (ws : List Write) (i : ℕ) (d : Write) → i < length ws → write_at (i + 1) ws ≡ Some (get_or ws (length ws - 1 - i) d)
unfolding write_at
newest_first [] i d h = absurd (omega (arith, h))
newest_first (w ∷ ws) i d h = at_version w ws i d h (length (w ∷ ws) == i + 1) refl (λ less. newest_first ws i d less)

past_all : (b : Bool) (w : Write) (ws : List Write) (n : ℕ) → (length (w ∷ ws) == n) ≡ b → length (w ∷ ws) < n → write_at n ws ≡ None → (if b then Some w else write_at n ws) ≡ None
past_all true w ws n e h below = absurd (grind (arith, nat_tests))
past_all false w ws n e h below = below

write_at-past : (ws : List Write) (n : ℕ) → length ws < n → write_at n ws ≡ None
unfolding write_at
write_at-past [] n h = refl
write_at-past (w ∷ ws) n h = past_all (length (w ∷ ws) == n) w ws n refl h (write_at-past ws n (omega (arith, h)))

zeroth : (b : Bool) (w : Write) (ws : List Write) → (length (w ∷ ws) == 0) ≡ b → write_at 0 ws ≡ None → (if b then Some w else write_at 0 ws) ≡ None
zeroth true w ws e below = absurd (grind (arith, nat_tests))
zeroth false w ws e below = below

-- no write has version 0
pub write_at-zero : (ws : List Write) → write_at 0 ws ≡ None
unfolding write_at
write_at-zero [] = refl
write_at-zero (w ∷ ws) = zeroth (length (w ∷ ws) == 0) w ws refl (write_at-zero ws)

kept_within : (ws : List Write) (i : ℕ) (x : Write) → i < length ws → get_or ws i x ≡ x → write_at (i + 1) (reverse ws) ≡ Some x
kept_within ws i x h is =
    let n : length (reverse ws) ≡ length ws = length-reverse ws in
    let at : get_or (reverse ws) (length (reverse ws) - 1 - i) x ≡ get_or ws (length ws - 1 - (length (reverse ws) - 1 - i)) x = get_or-reverse ws (length (reverse ws) - 1 - i) x (omega (arith, h, n)) in
    let place : length ws - 1 - (length (reverse ws) - 1 - i) ≡ i = omega (arith, h, n) in
    newest_first (reverse ws) i x (omega (arith, h, n)) ∙ ap (λ (w : Write). Some w) (at ∙ ap (λ (p : ℕ). get_or ws p x) place ∙ is)

kept_past : (ws : List Write) (i : ℕ) → length ws ≤ i → write_at (i + 1) (reverse ws) ≡ None
kept_past ws i h = let n : length (reverse ws) ≡ length ws = length-reverse ws in write_at-past (reverse ws) (i + 1) (omega (arith, h, n))

-- the write of version i + 1 stands at place i in order of time
pub write_at-kept : (ws : List Write) (i : ℕ) → write_at (i + 1) (reverse ws) ≡ slice_get ws i
write_at-kept ws i =
    elim (slice_get_cases ws i).1 [
      | inl p ↦ kept_within ws i p.0 p.1 p.3 ∙ sym p.2
      | inr p ↦ kept_past ws i p.0 ∙ sym p.1
    ]

-- ---- whether a key is known

any_first : (p : Write → Bool) (w : Write) (ws : List Write) → list_any p (reverse (w ∷ ws)) ≡ (list_any p (reverse ws) || list_any p (w ∷ []))
any_first p w ws = ap (list_any p) (reverse-append (w ∷ []) ws) ∙ list_any-append p (reverse ws) (w ∷ [])

turned : (a b : Bool) → (a || (b || false)) ≡ (b || a)
turned true true = refl
turned true false = refl
turned false true = refl
turned false false = refl

pub list_any-reverse : (p : Write → Bool) (ws : List Write) → list_any p (reverse ws) ≡ list_any p ws
list_any-reverse p [] = refl
list_any-reverse p (w ∷ ws) = any_first p w ws ∙ (rw (list_any-reverse p ws) (turned (list_any p ws) (p w)))
