-- No name that is generated for a Certificate of a generated load is that of a Secret which one names.
use Rattle.std.proofs.Common.{◌≡◌, ◌≢◌, refl, ℕ, zero, suc, ◌-◌, ◌/◌, ◌≤◌, ◌==◌, List, [], ◌∷◌, ◌++◌, length, Bool, true, false, ◌&&◌, sym, ap, ◌∙◌, arith, length-append}
use Rattle.std.specs.Prelude.{if◌then◌else◌, ◌%◌, slice_index}
use Rattle.std.proofs.lemmas.Bool.Decides.{nat_tests}
use Rattle.std.proofs.lemmas.List.{length-reverse}
use Rattle.cmc_model.specs.Generated.{digits, generated_name, low_digits, prefix, suffix}
use Rattle.cmc_scenario.specs.Loads.{load_name, load_secret}

one_digit : (b c : Bool) (least d : ℕ) (ds : List ℕ) → (least == 0) ≡ c → least - 1 ≤ length ds → least ≤ length (if b && c then [] else d ∷ ds)
one_digit true true least d ds is low = grind (arith, nat_tests)
one_digit true false least d ds is low = omega (arith, low)
one_digit false c least d ds is low = omega (arith, low)

-- at least so many digits, where there is room
enough_digits : (room least n : ℕ) → least ≤ room → least ≤ length (low_digits room least n)
enough_digits zero least n low = omega (arith, low)
enough_digits (suc room) least n low =
    one_digit (n == 0) (least == 0) least (slice_index digits (n % 27)) (low_digits room (least - 1) (n / 27)) refl (enough_digits room (least - 1) (n / 27) (omega (arith, low)))

five_at_least : (n : ℕ) → 5 ≤ length (suffix n)
five_at_least n = let low = enough_digits 14 5 n (omega arith) in let same = length-reverse (low_digits 14 5 n) in omega (arith, low, same)

short_secret : (i : ℕ) → length (load_secret i) ≡ 9
short_secret i = refl

prefix_length : (i : ℕ) → length (prefix (load_name i)) ≡ 6
prefix_length i = refl

pub secret_apart : (i j number : ℕ) → load_secret i ≢ generated_name (load_name j) number
unfolding generated_name
secret_apart i j number same =
    let long = five_at_least number in
    let sum = length-append (prefix (load_name j)) (suffix number) in
    let is : 9 ≡ length (prefix (load_name j) ++ suffix number) = sym (short_secret i) ∙ ap length same in
    let six = prefix_length j in
    omega (arith, long, sum, is, six)
