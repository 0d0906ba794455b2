-- Counts of entries by parts: where each entry that is counted belongs to one of the parts.
use Rattle.std.proofs.Common.{◌≡◌, ℕ, ◌+◌, ◌*◌, ◌≤◌, List, [], ◌∷◌, length, Bool, true, false, refl, arith}
use Rattle.std.specs.Prelude.{if◌then◌else◌, ◌||◌}
use Rattle.std.specs.List.{list_any}
use Rattle.std.proofs.Math.Nat.{suc-mul}
use Rattle.cmc_objects.specs.declared.entry.Entry.{Entry}
use Rattle.cmc_run_laws.specs.Begins.{count_of}
use Rattle.cmc_run_laws.specs.Lengths.{Each}
use Rattle.cmc_run_laws.proofs.ReasonsEnough.{counted_here, counted_more}

-- what implies the other counts no more
pub counted_less : (p q : Entry → Bool) (h : List Entry) → ((e : Entry) → p e ≡ true → q e ≡ true) → count_of p h ≤ count_of q h
counted_less p q [] goes = omega arith
counted_less p q (e ∷ h) goes = by (p e) refl (counted_less p q h goes) where
  by : (b : Bool) → p e ≡ b → count_of p h ≤ count_of q h → (if b then count_of p h + 1 else count_of p h) ≤ count_of q (e ∷ h)
  by true is low = let one = counted_here q e h (goes e is) in omega (arith, one, low)
  by false off low = let more = counted_more q e h in omega (arith, more, low)

-- the counts of all parts together
abbrev pub total : {A : Type 0} → (A → Entry → Bool) → List A → List Entry → ℕ
total q [] h = 0
total q (x ∷ xs) h = count_of (q x) h + total q xs h

abbrev pub is_in_part : {A : Type 0} → (A → Entry → Bool) → List A → Entry → Bool
is_in_part q xs e = list_any (λ x. q x e) xs

total_keeps : {A : Type 0} → (q : A → Entry → Bool) (xs : List A) (e : Entry) (h : List Entry) → total q xs h ≤ total q xs (e ∷ h)
total_keeps q [] e h = omega arith
total_keeps q (x ∷ xs) e h = let one = counted_more (q x) e h in let rest = total_keeps q xs e h in omega (arith, one, rest)

total_rises : {A : Type 0} → (q : A → Entry → Bool) (xs : List A) (e : Entry) (h : List Entry) → is_in_part q xs e ≡ true → total q xs h + 1 ≤ total q xs (e ∷ h)
total_rises q [] e h is = absurd (cc is)
total_rises q (x ∷ xs) e h is = by (q x e) (is_in_part q xs e) refl refl is (total_rises q xs e h) where
  by : (b c : Bool) → q x e ≡ b → is_in_part q xs e ≡ c → (b || c) ≡ true → (is_in_part q xs e ≡ true → total q xs h + 1 ≤ total q xs (e ∷ h)) → total q (x ∷ xs) h + 1 ≤ total q (x ∷ xs) (e ∷ h)
  by true c here there one rises = let more = counted_here (q x) e h here in let rest = total_keeps q xs e h in omega (arith, more, rest)
  by false true here there one rises = let more = counted_more (q x) e h in let rest = rises there in omega (arith, more, rest)
  by false false here there one rises = absurd (cc one)

pub in_all : {A : Type 0} → (p : Entry → Bool) (q : A → Entry → Bool) (xs : List A) (h : List Entry) → Each (λ (e : Entry). p e ≡ true → is_in_part q xs e ≡ true) h → count_of p h ≤ total q xs h
in_all p q xs [] covers = omega arith
in_all p q xs (e ∷ h) covers = by (p e) refl (in_all p q xs h covers.1) where
  by : (b : Bool) → p e ≡ b → count_of p h ≤ total q xs h → (if b then count_of p h + 1 else count_of p h) ≤ total q xs (e ∷ h)
  by true is low = let more = total_rises q xs e h (covers.0 is) in omega (arith, more, low)
  by false off low = let more = total_keeps q xs e h in omega (arith, more, low)

one_more : (n b : ℕ) → (1 + n) * b ≡ b + n * b
one_more n b = let is = suc-mul n b in omega (arith, is)

each_low : {A : Type 0} → (q : A → Entry → Bool) (xs : List A) (h : List Entry) (b : ℕ) → Each (λ (x : A). count_of (q x) h ≤ b) xs → total q xs h ≤ length xs * b
each_low q [] h b low = omega arith
each_low q (x ∷ xs) h b low =
    let one = low.0 in
    let rest = each_low q xs h b low.1 in
    let product = one_more (length xs) b in
    omega (arith, one, rest, product)

pub counted_by_parts : {A : Type 0} → (p : Entry → Bool) (q : A → Entry → Bool) (xs : List A) (h : List Entry) (b : ℕ) → Each (λ (e : Entry). p e ≡ true → is_in_part q xs e ≡ true) h
    → Each (λ (x : A). count_of (q x) h ≤ b) xs → count_of p h ≤ length xs * b
counted_by_parts p q xs h b covers low =
    let all = in_all p q xs h covers in
    let few = each_low q xs h b low in
    omega (arith, all, few)

-- what is so of all is so of each
pub of_all : {A : Type 0} → (P : A → Type 0) (xs : List A) → ((x : A) → P x) → Each P xs
of_all P [] all = tt
of_all P (x ∷ xs) all = (all x, of_all P xs all)

pub each_goes : {A : Type 0} → (P Q : A → Type 0) (xs : List A) → ((x : A) → P x → Q x) → Each P xs → Each Q xs
each_goes P Q [] goes all = tt
each_goes P Q (x ∷ xs) goes all = (goes x all.0, each_goes P Q xs goes all.1)
