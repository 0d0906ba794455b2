-- The names of generated Certificates are names, their hosts are printable, and their scenario is one.
use Rattle.std.proofs.Common.{◌≡◌, ℕ, zero, suc, ◌+◌, ◌<◌, ◌≤◌, ◌==◌, ◌&&◌, true, false, List, [], ◌∷◌, ◌++◌, length, refl, sym, ap, ◌∙◌, subst, arith, append_assoc}
use Rattle.std.specs.Prelude.{nat_le, pos, ◌+ℤ◌, ◌≤ℤ◌, All, ◌/◌, ◌%◌}
use Rattle.std.specs.List.{list_all}
use Rattle.std.specs.Int.Signed.{le_z_yes}
use Rattle.std.proofs.lemmas.Bool.Decides.{nat_tests}
use Rattle.std.proofs.lemmas.List.{append-nil, length-append}
use Rattle.std.proofs.lemmas.List.Sums.{sum_by-cons}
use Rattle.std.proofs.lemmas.Bool.{and_from, and_parts}
use Rattle.cmc_meta.specs.Names.{is_alphanumeric, is_label_byte, is_label, labels_from, has_labels, is_subdomain}
use Rattle.cmc_meta.specs.Wordings.{is_printable, is_printable_name, is_clean}
use Rattle.cmc_objects.specs.declared.entry.Step.{Step}
use Rattle.cmc_objects.specs.declared.entry.Step.TheVariants.{Settle, Tick}
use Rattle.cmc_setup.specs.Forms.{is_step_form}
use Rattle.cmc_setup.specs.Holds.{AreHeldInTurn, none_held}
use Rattle.cmc_setup.specs.Setups.{IsSetup, IsTickForm, IsOrderlyFrom, seconds_ticked, step_seconds}
use Rattle.cmc_scenario_print.specs.Defaults.{all_roles}
use Rattle.cmc_scenario.specs.Loads.{load_name, load_secret, load_host, load_setup, load_step, loads, rests}
use Rattle.cmc_scenario.proofs.ReadForms.{empty_is_clean}

-- ---- names

no_dot : (c : ℕ) → is_label_byte c ≡ true → (c == 46) ≡ false
no_dot c is = grind (arith, nat_tests)

-- bytes of a label are one part
one_part : (begun t : List ℕ) → list_all is_label_byte t ≡ true → labels_from begun t ≡ (begun ++ t) ∷ []
one_part begun [] all = ap (λ l. l ∷ []) (sym (append-nil begun))
one_part begun (c ∷ cs) all =
    let later = one_part (begun ++ c ∷ []) cs (and_parts (is_label_byte c) (list_all is_label_byte cs) all).1 in
    rw (no_dot c (and_parts (is_label_byte c) (list_all is_label_byte cs) all).0) (later ∙ ap (λ l. l ∷ []) (append_assoc begun (c ∷ []) cs))

is_name : (t : List ℕ) → nat_le (length t) 253 ≡ true → list_all is_label_byte t ≡ true → is_label t ≡ true → is_subdomain t ≡ true
is_name t short bytes label = and_from (nat_le (length t) 253) (has_labels t) short (rw (one_part [] t bytes) (and_from (is_label t) true label refl))

digit : (n : ℕ) → n < 10 → is_label_byte (48 + n) ≡ true
digit n below = grind (arith, nat_tests)

ends_digit : (n : ℕ) → n < 10 → is_alphanumeric (48 + n) ≡ true
ends_digit n below = grind (arith, nat_tests)

-- `c` and four digits
label_of : (a b c d : ℕ) → a < 10 → b < 10 → c < 10 → d < 10 → is_subdomain (99 ∷ (48 + a) ∷ (48 + b) ∷ (48 + c) ∷ (48 + d) ∷ []) ≡ true
unfolding is_label
label_of a b c d ha hb hc hd =
    let bytes : list_all is_label_byte (99 ∷ (48 + a) ∷ (48 + b) ∷ (48 + c) ∷ (48 + d) ∷ []) ≡ true = rw (digit a ha, digit b hb, digit c hc, digit d hd) refl in
    is_name (99 ∷ (48 + a) ∷ (48 + b) ∷ (48 + c) ∷ (48 + d) ∷ []) refl bytes (and_from (is_alphanumeric (48 + d)) (list_all is_label_byte (99 ∷ (48 + a) ∷ (48 + b) ∷ (48 + c) ∷ (48 + d) ∷ [])) (ends_digit d hd) bytes)

secret_label_of : (a b c d : ℕ) → a < 10 → b < 10 → c < 10 → d < 10 → is_subdomain (99 ∷ (48 + a) ∷ (48 + b) ∷ (48 + c) ∷ (48 + d) ∷ 45 ∷ 116 ∷ 108 ∷ 115 ∷ []) ≡ true
unfolding is_label
secret_label_of a b c d ha hb hc hd =
    let bytes : list_all is_label_byte (99 ∷ (48 + a) ∷ (48 + b) ∷ (48 + c) ∷ (48 + d) ∷ 45 ∷ 116 ∷ 108 ∷ 115 ∷ []) ≡ true = rw (digit a ha, digit b hb, digit c hc, digit d hd) refl in
    is_name (99 ∷ (48 + a) ∷ (48 + b) ∷ (48 + c) ∷ (48 + d) ∷ 45 ∷ 116 ∷ 108 ∷ 115 ∷ []) refl bytes bytes

pub name_is_name : (n : ℕ) → n < 10000 → is_subdomain (load_name n) ≡ true
name_is_name n below = label_of (n / 100 / 10) (n / 100 % 10) (n % 100 / 10) (n % 100 % 10) (omega arith) (omega arith) (omega arith) (omega arith)

pub secret_is_name : (n : ℕ) → n < 10000 → is_subdomain (load_secret n) ≡ true
secret_is_name n below = secret_label_of (n / 100 / 10) (n / 100 % 10) (n % 100 / 10) (n % 100 % 10) (omega arith) (omega arith) (omega arith) (omega arith)

-- ---- what is applied

printable_digit : (n : ℕ) → n < 10 → is_printable (48 + n) ≡ true
printable_digit n below = grind (arith, nat_tests)

-- `c`, four digits and `.example`
host_of : (a b c d : ℕ) → a < 10 → b < 10 → c < 10 → d < 10 → is_printable_name (99 ∷ (48 + a) ∷ (48 + b) ∷ (48 + c) ∷ (48 + d) ∷ 46 ∷ 101 ∷ 120 ∷ 97 ∷ 109 ∷ 112 ∷ 108 ∷ 101 ∷ []) ≡ true
host_of a b c d ha hb hc hd = rw (printable_digit a ha, printable_digit b hb, printable_digit c hc, printable_digit d hd) refl

host_is_printable : (n : ℕ) → n < 10000 → is_printable_name (load_host n) ≡ true
host_is_printable n below = host_of (n / 100 / 10) (n / 100 % 10) (n % 100 / 10) (n % 100 % 10) (omega arith) (omega arith) (omega arith) (omega arith)

-- but for its host, a generated Certificate has the form by computation
load_form : (i : ℕ) → i < 10000 → is_step_form (load_step i) ≡ true
load_form i below = and_from (is_clean []) _ empty_is_clean (and_from (list_all is_printable_name (load_host i ∷ [])) true (and_from (is_printable_name (load_host i)) true (host_is_printable i below) refl) refl)

-- ---- the script

-- what is so of the end is so with the applies in front of it, where each apply keeps it
for_loads : (P : List Step → Type 0) (n : ℕ) → ((i : ℕ) → i ≤ n → (rest : List Step) → P rest → P (load_step i ∷ rest)) → (rest : List Step) → P rest → P (loads n ++ rest)
for_loads P zero more rest is = is
for_loads P (suc n) more rest is = subst P (sym (append_assoc (loads n) (load_step (n + 1) ∷ []) rest)) (for_loads P n (λ i within. more i (omega (arith, within))) (load_step (n + 1) ∷ rest) (more (n + 1) (omega arith) rest is))

still : (i : ℕ) → IsTickForm (load_step i)
still i = record { least = λ t. absurd (cc); most = omega arith }

more_ticks : (step : Step) (rest : List Step) → IsTickForm step → All IsTickForm rest → All IsTickForm (step ∷ rest)
more_ticks step rest first all zero d h = first
more_ticks step rest first all (suc k) d h = all k d (omega (arith, h))

no_ticks : All IsTickForm []
no_ticks k d h = absurd (omega (arith, h))

settle_form : IsTickForm Settle
settle_form = record { least = λ t. absurd (no_tick t); most = omega arith }
  where
    no_tick : false ≡ true → ⊥
    no_tick t = absurd (cc)

long_tick : IsTickForm (Tick 5184000)
long_tick = record { least = λ t. omega arith; most = omega arith }

rest_ticks : All IsTickForm rests
rest_ticks = more_ticks Settle (Tick 5184000 ∷ Settle ∷ []) settle_form (more_ticks (Tick 5184000) (Settle ∷ []) long_tick (more_ticks Settle [] settle_form no_ticks))

apply_ticks : (i : ℕ) (rest : List Step) → seconds_ticked rest ≡ 5184000 → seconds_ticked (load_step i ∷ rest) ≡ 5184000
apply_ticks i rest is = let sum : seconds_ticked (load_step i ∷ rest) ≡ 0 + seconds_ticked rest = sum_by-cons step_seconds (load_step i) rest in omega (arith, sum, is)

length_loads : (n : ℕ) → length (loads n) ≡ n
length_loads zero = refl
length_loads (suc n) = length-append (loads n) (load_step (n + 1) ∷ []) ∙ omega (arith, length_loads n)

pub is_setup : (count : ℕ) → 1 ≤ count → count ≤ 200 → IsSetup (load_setup count)
is_setup count some few = record {
  some_events = omega arith;
  most_events = omega arith;
  some_window = omega arith;
  most_window = omega arith;
  begins = le_z_yes tt;
  ends = subst (λ n. (pos 1893456000 +ℤ pos n) ≤ℤ pos 250246627200) (sym (for_loads (λ steps. seconds_ticked steps ≡ 5184000) count (λ i within. apply_ticks i) rests refl)) (le_z_yes tt);
  short = omega (arith, length-append (loads count) rests, length_loads count);
  ticks = for_loads (All IsTickForm) count (λ i within rest is. more_ticks (load_step i) rest (still i) is) rests rest_ticks;
  faults = tt;
  roles = (omega arith, (omega arith, (omega arith, (omega arith, (omega arith, (omega arith, (omega arith, (omega arith, tt))))))));
  orderly = for_loads (IsOrderlyFrom all_roles) count (λ i within rest is. (tt, is)) rests (tt, (tt, (tt, tt)));
  held = for_loads (AreHeldInTurn none_held) count (λ i within rest is. (refl, is)) rests (refl, (refl, (refl, tt)));
  approver = refl;
  material = refl;
  steps = for_loads (λ steps. list_all is_step_form steps ≡ true) count (λ i within rest is. and_from (is_step_form (load_step i)) (list_all is_step_form rest) (load_form i (omega (arith, within, few))) is) rests refl;
}
