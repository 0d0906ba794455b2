-- An origin by the number of its pass: its place in the list of them with the oldest first.
use Rattle.std.proofs.Common.{◌≡◌, ◌==◌, ℕ, suc, zero, ◌-◌, ◌<◌, ◌≢◌, List, [], ◌∷◌, ◌++◌, length, Some, None, Bool, true, false, refl, ap, sym, ◌∙◌, arith}
use Rattle.std.proofs.lemmas.Bool.Decides.{nat_tests}
use Rattle.std.proofs.lemmas.List.{reverse-append, reverse-reverse, length-reverse}
use Rattle.std.specs.Prelude.{if◌then◌else◌, slice_get, reverse}
use Rattle.cmc_rules.specs.declared.progress.Origin.{Origin}
use Rattle.cmc_rules.specs.Origins.{origin_at}

last_place : {X : Type 0} (xs : List X) (y : X) → slice_get (xs ++ y ∷ []) (length xs) ≡ Some y
last_place [] y = refl
last_place (x ∷ xs) y = last_place xs y

other_place : {X : Type 0} (xs : List X) (y : X) (k : ℕ) → k ≢ length xs → slice_get (xs ++ y ∷ []) k ≡ slice_get xs k
other_place [] y zero apart = absurd (apart refl)
other_place [] y (suc k) apart = refl
other_place (x ∷ xs) y zero apart = refl
other_place (x ∷ xs) y (suc k) apart = other_place xs y k (λ e. apart (ap suc e))

newest : (o : Origin) (os : List Origin) → reverse (o ∷ os) ≡ reverse os ++ o ∷ []
newest o os = reverse-append (o ∷ []) os

chosen : (b : Bool) (o : Origin) (os : List Origin) (n : ℕ) → (length (o ∷ os) == n) ≡ b → origin_at n os ≡ slice_get (reverse os) (n - 1) → 0 < n
    → (if b then Some o else origin_at n os) ≡ slice_get (reverse (o ∷ os)) (n - 1)
chosen true o os n e rest above =
    let size : length (reverse os) ≡ length os = length-reverse os in
    let place : n - 1 ≡ length (reverse os) = grind (arith, nat_tests) in
    sym (ap (λ l. slice_get l (n - 1)) (newest o os) ∙ ap (slice_get (reverse os ++ o ∷ [])) place ∙ last_place (reverse os) o)
chosen false o os n e rest above =
    let size : length (reverse os) ≡ length os = length-reverse os in
    let apart : n - 1 ≢ length (reverse os) = grind (arith, nat_tests) in
    rest ∙ sym (ap (λ l. slice_get l (n - 1)) (newest o os) ∙ other_place (reverse os) o (n - 1) apart)

at_place : (os : List Origin) (n : ℕ) → 0 < n → origin_at n os ≡ slice_get (reverse os) (n - 1)
unfolding origin_at
at_place [] n above = refl
at_place (o ∷ os) n above = chosen (length (o ∷ os) == n) o os n refl (at_place os n above) above

pub origin_by_place : (items : List Origin) (n : ℕ) → 0 < n → origin_at n (reverse items) ≡ slice_get items (n - 1)
origin_by_place items n above = at_place (reverse items) n above ∙ ap (λ l. slice_get l (n - 1)) (reverse-reverse items)

not_first : (b : Bool) (o : Origin) (os : List Origin) → (length (o ∷ os) == 0) ≡ b → origin_at 0 os ≡ None → (if b then Some o else origin_at 0 os) ≡ None
not_first true o os e rest = absurd (grind (arith, nat_tests))
not_first false o os e rest = rest

-- passes are numbered from 1
pub no_origin_at_zero : (os : List Origin) → origin_at 0 os ≡ None
unfolding origin_at
no_origin_at_zero [] = refl
no_origin_at_zero (o ∷ os) = not_first (length (o ∷ os) == 0) o os refl (no_origin_at_zero os)
