-- One byte more of a name.
use Rattle.std.proofs.Common.{◌≡◌, ℕ, ◌+◌, ◌-◌, ◌<◌, ◌≤◌, List, [], ◌∷◌, ◌++◌, length, take, drop, get_or, true, false, refl, ap, ◌∙◌, arith, add-one, drop-cons}
use Rattle.std.proofs.lemmas.Bool.Decides.{nat_tests}
use Rattle.std.proofs.lemmas.List.{take_more, length-drop, get_or-drop}
use Rattle.std.specs.Prelude.{◌==◌}
use Rattle.std.specs.List.{list_all}
use Rattle.cmc_meta.specs.Names.{is_label, labels_from}

-- the part of a name that has begun
abbrev pub begun : List ℕ → ℕ → ℕ → List ℕ
begun bytes start i = take (i - start) (drop start bytes)

begun_more : (bytes : List ℕ) (start i : ℕ) → start ≤ i → i < length bytes → begun bytes start (i + 1) ≡ begun bytes start i ++ get_or bytes i 0 ∷ []
begun_more bytes start i before here =
    let within : i - start < length (drop start bytes) = omega (arith, length-drop start bytes) in
    let count : (i + 1) - start ≡ (i - start) + 1 = omega arith in
    let at : get_or (drop start bytes) (i - start) 0 ≡ get_or bytes i 0 = get_or-drop start bytes (i - start) 0 ∙ ap (λ k. get_or bytes k 0) (let e : start + (i - start) ≡ i = omega arith in e) in
    ap (λ k. take k (drop start bytes)) count ∙ take_more (drop start bytes) (i - start) 0 within ∙ ap (λ (x : ℕ). begun bytes start i ++ x ∷ []) at

next_byte : (bytes : List ℕ) (i : ℕ) → i < length bytes → drop i bytes ≡ get_or bytes i 0 ∷ drop (i + 1) bytes
next_byte bytes i here = rw (add-one, drop-cons bytes i 0 here) refl

pub step_other : (bytes : List ℕ) (start i : ℕ) → start ≤ i → i < length bytes → (get_or bytes i 0 == 46) ≡ false
    → labels_from (begun bytes start (i + 1)) (drop (i + 1) bytes) ≡ labels_from (begun bytes start i) (drop i bytes)
step_other bytes start i before here other = rw (begun_more bytes start i before here, next_byte bytes i here, other) refl

pub step_dot : (bytes : List ℕ) (start i : ℕ) → start ≤ i → i < length bytes → (get_or bytes i 0 == 46) ≡ true → is_label (begun bytes start i) ≡ true
    → list_all is_label (labels_from [] (drop (i + 1) bytes)) ≡ list_all is_label (labels_from (begun bytes start i) (drop i bytes))
step_dot bytes start i before here dot label = rw (next_byte bytes i here, dot, label) refl

pub nothing_begun : (bytes : List ℕ) (i : ℕ) → begun bytes i i ≡ []
nothing_begun bytes i = let e : i - i ≡ 0 = omega arith in ap (λ k. take k (drop i bytes)) e

is_dot : (x : ℕ) → x ≡ 46 → (x == 46) ≡ true
is_dot x h = rw h refl

is_no_dot : (x : ℕ) → (x ≡ 46 → ⊥) → (x == 46) ≡ false
is_no_dot x h = grind (arith, nat_tests)

pub after_dot : (bytes : List ℕ) (start i next : ℕ) → start ≤ i → i < length bytes → get_or bytes i 0 ≡ 46 → is_label (begun bytes start i) ≡ true → next ≡ i + 1
    → list_all is_label (labels_from (begun bytes next (i + 1)) (drop (i + 1) bytes)) ≡ list_all is_label (labels_from (begun bytes start i) (drop i bytes))
after_dot bytes start i next before here dot label is =
    ap (λ s. list_all is_label (labels_from (begun bytes s (i + 1)) (drop (i + 1) bytes))) is ∙ ap (λ b. list_all is_label (labels_from b (drop (i + 1) bytes))) (nothing_begun bytes (i + 1))
    ∙ step_dot bytes start i before here (is_dot _ dot) label

pub after_other : (bytes : List ℕ) (start i next : ℕ) → start ≤ i → i < length bytes → (get_or bytes i 0 ≡ 46 → ⊥) → next ≡ start
    → list_all is_label (labels_from (begun bytes next (i + 1)) (drop (i + 1) bytes)) ≡ list_all is_label (labels_from (begun bytes start i) (drop i bytes))
after_other bytes start i next before here other is =
    ap (λ s. list_all is_label (labels_from (begun bytes s (i + 1)) (drop (i + 1) bytes))) is ∙ ap (list_all is_label) (step_other bytes start i before here (is_no_dot _ other))
