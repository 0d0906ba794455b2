-- The key of a Certificate is read again of its text.
use Rattle.std.proofs.Common.{◌≡◌, ℕ, suc, ◌+◌, List, [], ◌∷◌, ◌++◌, length, Bool, true, false, ◌&&◌, Ok, refl, sym, codes, arith, length-append}
use Rattle.std.specs.Prelude.{if◌then◌else◌, ◌==◌, not, nat_lt, nat_le, slice_index, ◌-◌}
use Rattle.std.specs.List.{position_or_len, list_all}
use Rattle.std.proofs.lemmas.Bool.{and_parts, and_from}
use Rattle.std.proofs.lemmas.Bool.Decides.{nat_tests}
use Rattle.std.proofs.Math.Seq.{take-append_seam, drop-append-add}
use Rattle.serde_json.specs.Data.{Data, string}
use Rattle.cmc_meta.specs.Names.{is_alphanumeric, is_label_byte, is_label, labels_from, has_labels, is_subdomain}
use Rattle.cmc_meta.specs.declared.key.Key.{Key}
use Rattle.cmc_meta.specs.declared.key.Kind.{Kind}
use Rattle.cmc_meta.specs.declared.key.Kind.TheVariants.{Certificate}
use Rattle.cmc_cursor.specs.Readers.{text_at, name_in}
use Rattle.cmc_cursor.proofs.Always.{Always, so, next, after, where_true}
use Rattle.cmc_print.specs.Words.{name_text}
use Rattle.cmc_material.specs.Keys.{is_slash, split_slash, key_of_kind}
use Rattle.cmc_material.specs.MaterialRows.{certificate_key_at}
use Rattle.cmc_summary_form.specs.SummaryForm.{IsKeyOfKind}

-- ---- no slash stands in a name

abbrev is_other : ℕ → Bool
is_other c = not (is_slash c)

all_left : (p : ℕ → Bool) (xs ys : List ℕ) → list_all p (xs ++ ys) ≡ true → list_all p xs ≡ true
all_left p [] ys a = refl
all_left p (x ∷ xs) ys a = let parts = and_parts (p x) (list_all p (xs ++ ys)) a in and_from (p x) (list_all p xs) parts.0 (all_left p xs ys parts.1)

all_last : (p : ℕ → Bool) (xs : List ℕ) (y : ℕ) → list_all p (xs ++ y ∷ []) ≡ true → p y ≡ true
all_last p [] y a = (and_parts (p y) true a).0
all_last p (x ∷ xs) y a = all_last p xs y (and_parts (p x) (list_all p (xs ++ y ∷ [])) a).1

label_bytes : (b : List ℕ) → is_label b ≡ true → list_all is_label_byte b ≡ true
unfolding is_label
label_bytes b is =
    let one = and_parts (nat_lt 0 (length b)) (is_alphanumeric (slice_index b 0) && (is_alphanumeric (slice_index b (length b - 1)) && list_all is_label_byte b)) is in
    let two = and_parts (is_alphanumeric (slice_index b 0)) (is_alphanumeric (slice_index b (length b - 1)) && list_all is_label_byte b) one.1 in
    (and_parts (is_alphanumeric (slice_index b (length b - 1))) (list_all is_label_byte b) two.1).1

-- where the labels are right, what has begun has only bytes of labels
begun_at : (e : Bool) (b cs : List ℕ) (c : ℕ) → (list_all is_label (labels_from (b ++ c ∷ []) cs) ≡ true → list_all is_label_byte (b ++ c ∷ []) ≡ true)
    → list_all is_label (if e then b ∷ labels_from [] cs else labels_from (b ++ c ∷ []) cs) ≡ true → list_all is_label_byte b ≡ true
begun_at true b cs c later is = label_bytes b (and_parts (is_label b) (list_all is_label (labels_from [] cs)) is).0
begun_at false b cs c later is = all_left is_label_byte b (c ∷ []) (later is)

begun_from : (b cs : List ℕ) → list_all is_label (labels_from b cs) ≡ true → list_all is_label_byte b ≡ true
begun_from b [] is = label_bytes b (and_parts (is_label b) true is).0
begun_from b (c ∷ cs) is = begun_at (c == 46) b cs c (begun_from (b ++ c ∷ []) cs) is

byte_other : (c : ℕ) → is_label_byte c ≡ true → is_other c ≡ true
byte_other c is = grind (arith, nat_tests)

dot_other : (c : ℕ) → (c == 46) ≡ true → is_other c ≡ true
dot_other c is = grind (arith, nat_tests)

others_at : (e : Bool) (b cs : List ℕ) (c : ℕ) → (c == 46) ≡ e → ((d : List ℕ) → list_all is_label (labels_from d cs) ≡ true → list_all is_other cs ≡ true)
    → list_all is_label (if e then b ∷ labels_from [] cs else labels_from (b ++ c ∷ []) cs) ≡ true → list_all is_other (c ∷ cs) ≡ true
others_at true b cs c at later is = and_from (is_other c) (list_all is_other cs) (dot_other c at) (later [] (and_parts (is_label b) (list_all is_label (labels_from [] cs)) is).1)
others_at false b cs c at later is = and_from (is_other c) (list_all is_other cs) (byte_other c (all_last is_label_byte b c (begun_from (b ++ c ∷ []) cs is))) (later (b ++ c ∷ []) is)

others_from : (b cs : List ℕ) → list_all is_label (labels_from b cs) ≡ true → list_all is_other cs ≡ true
others_from b [] is = refl
others_from b (c ∷ cs) is = others_at (c == 46) b cs c refl (λ d. others_from d cs) is

name_others : (name : List ℕ) → is_subdomain name ≡ true → list_all is_other name ≡ true
name_others name is = others_from [] name (and_parts (nat_le (length name) 253) (has_labels name) is).1

-- ---- the text is split at its slash

slash_at : (front back : List ℕ) → list_all is_other front ≡ true → position_or_len is_slash (front ++ 47 ∷ back) ≡ length front
slash_at [] back h = refl
slash_at (c ∷ cs) back h = let parts = and_parts (is_other c) (list_all is_other cs) h in rw (parts.0, slash_at cs back parts.1) (one_more (length cs))
  where
    one_more : (n : ℕ) → 1 + n ≡ suc n
    one_more n = omega arith

not_at_end : (n m k : ℕ) → k ≡ n + suc m → (n == k) ≡ false
not_at_end n m k e = grind (arith, nat_tests)

pub split_is : (front back : List ℕ) → list_all is_other front ≡ true → split_slash (front ++ (codes "/" ++ back)) ≡ Ok (front, back)
split_is front back h =
    rw (slash_at front back h, not_at_end (length front) (length back) (length (front ++ 47 ∷ back)) (length-append front (47 ∷ back)), take-append_seam front (47 ∷ back), drop-append-add front (47 ∷ back) 1) refl

-- ---- keys

pub key_again : (kind : Kind) (key : Key) → IsKeyOfKind kind key → key_of_kind kind (name_text key) ≡ Ok key
unfolding key_of_kind
key_again kind key is = rw (split_is key.namespace key.name (name_others key.namespace is.1.0), is.1.0, is.1.1, sym is.0) refl

pub certificate_again : (key : Key) → IsKeyOfKind Certificate key → certificate_key_at (string (name_text key)) ≡ Ok key
certificate_again key is = key_again Certificate key is

-- ---- what is read

name_so : (t : List ℕ) → Always (λ name. is_subdomain name ≡ true) (name_in t)
name_so t = where_true _ (is_subdomain t) (Ok t) [] (λ e. so e)

pub key_so : (kind : Kind) (t : List ℕ) → Always (IsKeyOfKind kind) (key_of_kind kind t)
unfolding key_of_kind
key_so kind t =
    next (IsKeyOfKind kind) (split_slash t) _ (λ parts. after (λ name. is_subdomain name ≡ true) (IsKeyOfKind kind) (name_in parts.0) _ (name_so parts.0)
    (λ namespace first. after (λ name. is_subdomain name ≡ true) (IsKeyOfKind kind) (name_in parts.1) _ (name_so parts.1)
    (λ name second. so (refl, (first, second)))))

pub certificate_so : (d : Data) → Always (IsKeyOfKind Certificate) (certificate_key_at d)
certificate_so d = next (IsKeyOfKind Certificate) (text_at d) (key_of_kind Certificate) (key_so Certificate)
