-- A generated name is a name.
use Rattle.std.proofs.Common.{◌≡◌, ℕ, zero, suc, ◌+◌, ◌-◌, ◌<◌, ◌≤◌, Bool, true, false, ◌&&◌, List, [], ◌∷◌, ◌++◌, length, get_or, take, refl, ap, ◌∙◌, arith, append_assoc, append-nil, length-append}
use Rattle.std.proofs.lemmas.Bool.{and_parts, and_from}
use Rattle.std.proofs.lemmas.Bool.Decides.{nat_tests}
use Rattle.std.proofs.lemmas.List.{length-take, get_or-append-add}
use Rattle.std.specs.Prelude.{◌==◌, nat_le, nat_lt, slice_index, if◌then◌else◌}
use Rattle.std.specs.Str.{IsUtf8}
use Rattle.std.proofs.lemmas.Str.{IsUtf8-from_ascii}
use Rattle.std.specs.List.{list_all}
use Rattle.cmc_meta.specs.Names.{is_alphanumeric, is_label_byte, is_label, labels_from, has_labels, is_subdomain}
use Rattle.cmc_model.specs.Generated.{prefix, suffix, generated_name}
use Rattle.cmc_store.proofs.Bytes.{all_at, all_append, all_left, all_more, is_small, label_small, small_ascii, alphanumeric_label, no_dot}
use Rattle.cmc_store.proofs.Digits.{suffix_letters, suffix_length, suffix_some}

-- what a label may begin with
abbrev first_ok : List ℕ → Bool
first_ok [] = true
first_ok (x ∷ xs) = is_alphanumeric x

record IsBegun (b : List ℕ) : Type 0 where
  all : list_all is_label_byte b ≡ true
  first : first_ok b ≡ true

begun_by : (b : List ℕ) → nat_lt 0 (length b) ≡ true → is_alphanumeric (slice_index b 0) ≡ true → list_all is_label_byte b ≡ true → IsBegun b
begun_by [] some first all = record { all = all; first = refl }
begun_by (x ∷ xs) some first all = record { all = all; first = first }

begun_label : (b : List ℕ) → is_label b ≡ true → IsBegun b
unfolding is_label
begun_label b is =
    let one = and_parts (nat_lt 0 (length b)) (is_alphanumeric (slice_index b 0) && (is_alphanumeric (slice_index b (length b - 1)) && list_all is_label_byte b)) is in
    let two = and_parts (is_alphanumeric (slice_index b 0)) (is_alphanumeric (slice_index b (length b - 1)) && list_all is_label_byte b) one.1 in
    let three = and_parts (is_alphanumeric (slice_index b (length b - 1))) (list_all is_label_byte b) two.1 in
    begun_by b one.0 two.0 three.1

begun_less : (b : List ℕ) (c : ℕ) → IsBegun (b ++ c ∷ []) → IsBegun b
begun_less [] c h = record { all = refl; first = refl }
begun_less (x ∷ xs) c h = record { all = all_left is_label_byte (x ∷ xs) (c ∷ []) h.all; first = h.first }

-- where the labels are right, what has begun is the begin of one
begun_at : (e : Bool) (b cs : List ℕ) (c : ℕ) → (list_all is_label (labels_from (b ++ c ∷ []) cs) ≡ true → IsBegun (b ++ c ∷ [])) → list_all is_label (if e then b ∷ labels_from [] cs else labels_from (b ++ c ∷ []) cs) ≡ true → IsBegun b
begun_at true b cs c later is = begun_label b (and_parts (is_label b) (list_all is_label (labels_from [] cs)) is).0
begun_at false b cs c later is = begun_less b c (later is)

begun_from : (b cs : List ℕ) → list_all is_label (labels_from b cs) ≡ true → IsBegun b
begun_from b [] is = begun_label b (and_parts (is_label b) true is).0
begun_from b (c ∷ cs) is = begun_at (c == 46) b cs c (begun_from (b ++ c ∷ []) cs) is

-- ---- the bytes are ASCII

last_small : (b : List ℕ) (c : ℕ) → list_all is_label_byte (b ++ c ∷ []) ≡ true → is_small c ≡ true
last_small [] c is = label_small c (and_parts (is_label_byte c) true is).0
last_small (x ∷ xs) c is = last_small xs c (and_parts (is_label_byte x) (list_all is_label_byte (xs ++ c ∷ [])) is).1

dot_small : (c : ℕ) → (c == 46) ≡ true → is_small c ≡ true
dot_small c is = grind (arith, nat_tests)

ascii_at : (e : Bool) (b cs : List ℕ) (c : ℕ) → (c == 46) ≡ e → ((d : List ℕ) → list_all is_label (labels_from d cs) ≡ true → list_all is_small cs ≡ true)
    → list_all is_label (if e then b ∷ labels_from [] cs else labels_from (b ++ c ∷ []) cs) ≡ true → list_all is_small (c ∷ cs) ≡ true
ascii_at true b cs c at later is = and_from (is_small c) (list_all is_small cs) (dot_small c at) (later [] (and_parts (is_label b) (list_all is_label (labels_from [] cs)) is).1)
ascii_at false b cs c at later is = and_from (is_small c) (list_all is_small cs) (last_small b c (begun_from (b ++ c ∷ []) cs is).all) (later (b ++ c ∷ []) is)

ascii_from : (b cs : List ℕ) → list_all is_label (labels_from b cs) ≡ true → list_all is_small cs ≡ true
ascii_from b [] is = refl
ascii_from b (c ∷ cs) is = ascii_at (c == 46) b cs c refl (λ d. ascii_from d cs) is

-- a name is a text
pub name_utf8 : (bs : List ℕ) → is_subdomain bs ≡ true → IsUtf8 bs
name_utf8 bs is = IsUtf8-from_ascii bs (small_ascii bs (ascii_from [] bs (and_parts (nat_le (length bs) 253) (has_labels bs) is).1))

-- ---- letters and digits after a part of a name

no_dots_at : (e : Bool) (b s : List ℕ) (c : ℕ) → e ≡ false → labels_from (b ++ c ∷ []) s ≡ ((b ++ c ∷ []) ++ s) ∷ [] → (if e then b ∷ labels_from [] s else labels_from (b ++ c ∷ []) s) ≡ ((b ++ c ∷ []) ++ s) ∷ []
no_dots_at true b s c is later = absurd (cc is)
no_dots_at false b s c is later = later

no_dots : (b s : List ℕ) → list_all is_alphanumeric s ≡ true → labels_from b s ≡ (b ++ s) ∷ []
no_dots b [] all = rw (append-nil b) refl
no_dots b (c ∷ s) all =
    let parts = and_parts (is_alphanumeric c) (list_all is_alphanumeric s) all in
    no_dots_at (c == 46) b s c (no_dot c parts.0) (no_dots (b ++ c ∷ []) s parts.1) ∙ ap (λ (x : List ℕ). x ∷ []) (append_assoc b (c ∷ []) s)

first_of_both : (b s : List ℕ) → first_ok b ≡ true → list_all is_alphanumeric s ≡ true → 0 < length s → is_alphanumeric (slice_index (b ++ s) 0) ≡ true
first_of_both [] s first all some = all_at is_alphanumeric s 0 0 some all
first_of_both (x ∷ xs) s first all some = first

last_of_both : (b s : List ℕ) → list_all is_alphanumeric s ≡ true → 0 < length s → is_alphanumeric (slice_index (b ++ s) (length (b ++ s) - 1)) ≡ true
last_of_both b s all some =
    let at : length (b ++ s) - 1 ≡ length b + (length s - 1) = omega (arith, some, length-append b s) in
    ap (λ (i : ℕ). is_alphanumeric (get_or (b ++ s) i 0)) at ∙ ap is_alphanumeric (get_or-append-add b s (length s - 1) 0) ∙ all_at is_alphanumeric s (length s - 1) 0 (omega (arith, some)) all

is_some_length : (b s : List ℕ) → 0 < length s → nat_lt 0 (length (b ++ s)) ≡ true
is_some_length b s some = let more : 0 < length (b ++ s) = omega (arith, some, length-append b s) in grind (arith, nat_tests)

label_of : (b s : List ℕ) → IsBegun b → list_all is_alphanumeric s ≡ true → 0 < length s → is_label (b ++ s) ≡ true
unfolding is_label
label_of b s h all some =
    and_from (nat_lt 0 (length (b ++ s))) _ (is_some_length b s some)
    (and_from (is_alphanumeric (slice_index (b ++ s) 0)) _ (first_of_both b s h.first all some)
    (and_from (is_alphanumeric (slice_index (b ++ s) (length (b ++ s) - 1))) _ (last_of_both b s all some)
    (all_append is_label_byte b s h.all (all_more is_alphanumeric is_label_byte s alphanumeric_label all))))

-- the labels end with what has begun and the letters
labels_end : (b s : List ℕ) → IsBegun b → list_all is_alphanumeric s ≡ true → 0 < length s → list_all is_label (labels_from b s) ≡ true
labels_end b s h all some = ap (list_all is_label) (no_dots b s all) ∙ and_from (is_label (b ++ s)) true (label_of b s h all some) refl

not_empty : is_label [] ≡ true → ⊥
unfolding is_label
not_empty is = absurd (cc is)

dashed_by : (b : List ℕ) → is_label b ≡ true → IsBegun b → IsBegun (b ++ 45 ∷ [])
dashed_by [] is h = absurd (not_empty is)
dashed_by (x ∷ xs) is h = record { all = all_append is_label_byte (x ∷ xs) (45 ∷ []) h.all refl; first = h.first }

dashed : (b : List ℕ) → is_label b ≡ true → IsBegun (b ++ 45 ∷ [])
dashed b is = dashed_by b is (begun_label b is)

none : List ℕ
none = []

take_none : (k : ℕ) → take k none ≡ none
unfolding none
take_none zero = refl
take_none (suc k) = refl

cut_at : (e : Bool) (b rest cs s : List ℕ) (c : ℕ) → ((d : List ℕ) → list_all is_label (labels_from d cs) ≡ true → list_all is_label (labels_from d (rest ++ s)) ≡ true)
    → list_all is_label (if e then b ∷ labels_from [] cs else labels_from (b ++ c ∷ []) cs) ≡ true → list_all is_label (if e then b ∷ labels_from [] (rest ++ s) else labels_from (b ++ c ∷ []) (rest ++ s)) ≡ true
cut_at true b rest cs s c later is =
    let parts = and_parts (is_label b) (list_all is_label (labels_from [] cs)) is in
    and_from (is_label b) (list_all is_label (labels_from [] (rest ++ s))) parts.0 (later [] parts.1)
cut_at false b rest cs s c later is = later (b ++ c ∷ []) is

cut : (k : ℕ) (b cs s : List ℕ) → list_all is_label (labels_from b cs) ≡ true → list_all is_alphanumeric s ≡ true → 0 < length s → list_all is_label (labels_from b (take k (cs ++ 45 ∷ []) ++ s)) ≡ true
unfolding none
cut zero b cs s is all some = labels_end b s (begun_from b cs is) all some
cut (suc k) b [] s is all some =
    ap (λ (t : List ℕ). list_all is_label (labels_from b (45 ∷ (t ++ s)))) (take_none k) ∙ labels_end (b ++ 45 ∷ []) s (dashed b (and_parts (is_label b) true is).0) all some
cut (suc k) b (c ∷ cs) s is all some = cut_at (c == 46) b (take k (cs ++ 45 ∷ [])) cs s c (λ d right. cut k d cs s right all some) is

fits : (name : List ℕ) (n : ℕ) → nat_le (length (prefix name ++ suffix n)) 253 ≡ true
fits name n =
    let few : length (prefix name) ≤ 58 = omega (arith, length-take 58 (name ++ 45 ∷ [])) in
    let all : length (prefix name ++ suffix n) ≤ 253 = omega (arith, few, suffix_length n, length-append (prefix name) (suffix n)) in
    grind (arith, nat_tests)

pub generated_is : (name : List ℕ) (n : ℕ) → is_subdomain name ≡ true → is_subdomain (generated_name name n) ≡ true
unfolding generated_name
generated_is name n is =
    and_from (nat_le (length (prefix name ++ suffix n)) 253) (has_labels (prefix name ++ suffix n)) (fits name n)
    (cut 58 [] name (suffix n) (and_parts (nat_le (length name) 253) (has_labels name) is).1 (suffix_letters n) (suffix_some n))

pub joined_is : (bytes first then_ name : List ℕ) (n : ℕ) → is_subdomain name ≡ true → bytes ≡ first ++ then_ → first ≡ prefix name → then_ ≡ suffix n → is_subdomain bytes ≡ true
unfolding generated_name
joined_is bytes first then_ name n is both one other = rw (both, one, other) (generated_is name n is)
