-- Members in order of their names, each with its place kept also where it is left out.
use Rattle.std.proofs.Common.{◌≡◌, ℕ, List, [], ◌∷◌, Bool, true, false, ◌&&◌, Option, Some, None, Ok, refl, ap, sym, ◌∙◌}
use Rattle.std.specs.Prelude.{IfSome}
use Rattle.std.specs.declared.cmp.Ordering.{Ordering}
use Rattle.std.specs.declared.cmp.Ordering.TheVariants.{Less, Equal, Greater}
use Rattle.std.specs.Ordering.{nat_cmp, match_ordering}
use Rattle.std.specs.Cmp.Lexicographic.{slice_cmp}
use Rattle.std.proofs.lemmas.Bool.{and_parts}
use Rattle.serde_json.specs.Data.{Data, boolean, object, Members, no_members, member, put}
use Rattle.cmc_cursor.specs.Members.{Read, ◌>>=◌, under, fields_of, optional_at, required_at}
use Rattle.cmc_cursor.specs.Readers.{flag_at, sought_at}
use Rattle.cmc_print.specs.Puts.{put_option, put_list, put_true, put_object}
use Rattle.cmc_codec.specs.Given.{given_at, given_or, member_at, next_member_or, needed_at}

abbrev pub slot : List ℕ → Option Data → Members → Members
slot n None ms = ms
slot n (Some d) ms = member n d ms

abbrev pub slots : List (List ℕ × Option Data) → Members
slots [] = no_members
slots (s ∷ ss) = slot s.0 s.1 (slots ss)

abbrev pub is_less : Ordering → Bool
is_less Less = true
is_less Equal = false
is_less Greater = false

abbrev pub is_greater : Ordering → Bool
is_greater Less = false
is_greater Equal = false
is_greater Greater = true

abbrev pub is_same : Ordering → Bool
is_same Less = false
is_same Equal = true
is_same Greater = false

-- the name comes before each of the places
abbrev pub is_before : List ℕ → List (List ℕ × Option Data) → Bool
is_before n [] = true
is_before n (s ∷ ss) = is_less (slice_cmp nat_cmp n s.0) && (is_greater (slice_cmp nat_cmp s.0 n) && is_before n ss)

less : (o : Ordering) → is_less o ≡ true → o ≡ Less
less Less h = refl
less Equal h = cc
less Greater h = cc

greater : (o : Ordering) → is_greater o ≡ true → o ≡ Greater
greater Less h = cc
greater Equal h = cc
greater Greater h = refl

same : (o : Ordering) → is_same o ≡ true → o ≡ Equal
same Less h = cc
same Equal h = refl
same Greater h = cc

behind : (n m : List ℕ) (back : List (List ℕ × Option Data)) → (is_less (slice_cmp nat_cmp n m) && (is_greater (slice_cmp nat_cmp m n) && is_before n back)) ≡ true → is_before n back ≡ true
behind n m back h = (and_parts (is_greater (slice_cmp nat_cmp m n)) (is_before n back) (and_parts (is_less (slice_cmp nat_cmp n m)) (is_greater (slice_cmp nat_cmp m n) && is_before n back) h).1).1

not_above : (n m : List ℕ) (back : List (List ℕ × Option Data)) → (is_less (slice_cmp nat_cmp n m) && (is_greater (slice_cmp nat_cmp m n) && is_before n back)) ≡ true → is_greater (slice_cmp nat_cmp m n) ≡ true
not_above n m back h = (and_parts (is_greater (slice_cmp nat_cmp m n)) (is_before n back) (and_parts (is_less (slice_cmp nat_cmp n m)) (is_greater (slice_cmp nat_cmp m n) && is_before n back) h).1).0

below_it : (n m : List ℕ) (back : List (List ℕ × Option Data)) → (is_less (slice_cmp nat_cmp n m) && (is_greater (slice_cmp nat_cmp m n) && is_before n back)) ≡ true → is_less (slice_cmp nat_cmp n m) ≡ true
below_it n m back h = (and_parts (is_less (slice_cmp nat_cmp n m)) (is_greater (slice_cmp nat_cmp m n) && is_before n back) h).0

-- ---- reading

left_out : (n : List ℕ) (back : List (List ℕ × Option Data)) → is_before n back ≡ true → optional_at n (fields_of (slots back)) ≡ Ok (None, fields_of (slots back))
left_out n [] h = refl
left_out n ((m, None) ∷ back) h = left_out n back (behind n m back h)
left_out n ((m, Some d) ∷ back) h = rw (greater (slice_cmp nat_cmp m n) (not_above n m back h)) refl

abbrev pub is_next : List ℕ → List (List ℕ × Option Data) → Bool
is_next n back = is_same (slice_cmp nat_cmp n n) && is_before n back

pub next_is : (n : List ℕ) (o : Option Data) (back : List (List ℕ × Option Data)) → is_next n back ≡ true
    → optional_at n (fields_of (slots ((n, o) ∷ back))) ≡ Ok (o, fields_of (slots back))
next_is n None back h = left_out n back (and_parts (is_same (slice_cmp nat_cmp n n)) (is_before n back) h).1
next_is n (Some d) back h = rw (same (slice_cmp nat_cmp n n) (and_parts (is_same (slice_cmp nat_cmp n n)) (is_before n back) h).0) refl

-- what is left out counts as x, and what stands is read as x
pub bind : {A B : Type 0} (r : Read A) (x : A) (f : A → Read B) (y : Read B) → r ≡ Ok x → f x ≡ y → r >>= f ≡ y
bind r x f y e h = rw e h

pub below : {A : Type 0} (n : List ℕ) (r : Read A) (x : A) → r ≡ Ok x → under n r ≡ Ok x
below n r x e = rw e refl

pub member_is : {A : Type 0} (read : Data → Read A) (n : List ℕ) (o : Option Data) (back : List (List ℕ × Option Data)) (x : Option A)
    → is_next n back ≡ true → given_at read n o ≡ Ok x → member_at read n (fields_of (slots ((n, o) ∷ back))) ≡ Ok (x, fields_of (slots back))
member_is read n o back x h e = rw (next_is n o back h, e) refl

pub member_or_is : {A : Type 0} (absent : A) (read : Data → Read A) (n : List ℕ) (o : Option Data) (back : List (List ℕ × Option Data)) (x : A)
    → is_next n back ≡ true → given_or absent read n o ≡ Ok x → next_member_or absent read n (fields_of (slots ((n, o) ∷ back))) ≡ Ok (x, fields_of (slots back))
member_or_is absent read n o back x h e = rw (next_is n o back h, e) refl

pub required_is : (n : List ℕ) (d : Data) (back : List (List ℕ × Option Data)) → is_next n back ≡ true
    → required_at n (fields_of (slots ((n, Some d) ∷ back))) ≡ Ok (d, fields_of (slots back))
unfolding required_at
required_is n d back h = rw (next_is n (Some d) back h) refl

pub needed_is : {A : Type 0} (read : Data → Read A) (n : List ℕ) (d : Data) (back : List (List ℕ × Option Data)) (x : A)
    → is_next n back ≡ true → read d ≡ Ok x → needed_at read n (fields_of (slots ((n, Some d) ∷ back))) ≡ Ok (x, fields_of (slots back))
needed_is read n d back x h e = rw (required_is n d back h, e) refl

-- ---- printing

-- the places with a value at the name
abbrev pub set : List ℕ → Option Data → List (List ℕ × Option Data) → List (List ℕ × Option Data)
set n o [] = []
set n o (s ∷ ss) = match_ordering (slice_cmp nat_cmp n s.0) (s ∷ set n o ss) ((n, o) ∷ ss) (s ∷ set n o ss)

abbrev pub is_empty_place : Option Data → Bool
is_empty_place None = true
is_empty_place (Some d) = false

-- the name has an empty place, with those before and behind it in order
abbrev pub fits : List ℕ → List (List ℕ × Option Data) → Bool
fits n [] = false
fits n (s ∷ ss) = match_ordering (slice_cmp nat_cmp n s.0) false (is_empty_place s.1 && is_before n ss) (fits n ss)

abbrev pub put_some : List ℕ → Option Data → Members → Members
put_some n None ms = ms
put_some n (Some d) ms = put n d ms

put_first : (n : List ℕ) (d : Data) (back : List (List ℕ × Option Data)) → is_before n back ≡ true → put n d (slots back) ≡ member n d (slots back)
put_first n d [] h = refl
put_first n d ((m, None) ∷ back) h = put_first n d back (behind n m back h)
put_first n d ((m, Some e) ∷ back) h = rw (less (slice_cmp nat_cmp n m) (below_it n m back h)) refl

-- a put at each place of the order
at_place : (o : Ordering) (n : List ℕ) (d : Data) (m : List ℕ) (v : Option Data) (ss : List (List ℕ × Option Data)) → o ≡ slice_cmp nat_cmp n m
    → match_ordering o false (is_empty_place v && is_before n ss) (fits n ss) ≡ true
    → (fits n ss ≡ true → put n d (slots ss) ≡ slots (set n (Some d) ss))
    → put n d (slot m v (slots ss)) ≡ slots (match_ordering o ((m, v) ∷ set n (Some d) ss) ((n, Some d) ∷ ss) ((m, v) ∷ set n (Some d) ss))
at_place Less n d m v ss e h rest = cc
at_place Equal n d m None ss e h rest = put_first n d ss h
at_place Equal n d m (Some x) ss e h rest = cc
at_place Greater n d m None ss e h rest = rest h
at_place Greater n d m (Some x) ss e h rest = rw (sym e) (ap (λ k. member m x k) (rest h))

put_at : (n : List ℕ) (d : Data) (ss : List (List ℕ × Option Data)) → fits n ss ≡ true → put n d (slots ss) ≡ slots (set n (Some d) ss)
put_at n d [] h = cc
put_at n d (s ∷ ss) h = at_place (slice_cmp nat_cmp n s.0) n d s.0 s.1 ss refl h (put_at n d ss)

-- nothing is put at an empty place
none_place : (o : Ordering) (n m : List ℕ) (v : Option Data) (ss : List (List ℕ × Option Data))
    → match_ordering o false (is_empty_place v && is_before n ss) (fits n ss) ≡ true
    → (fits n ss ≡ true → slots ss ≡ slots (set n None ss))
    → slot m v (slots ss) ≡ slots (match_ordering o ((m, v) ∷ set n None ss) ((n, None) ∷ ss) ((m, v) ∷ set n None ss))
none_place Less n m v ss h rest = cc
none_place Equal n m None ss h rest = refl
none_place Equal n m (Some x) ss h rest = cc
none_place Greater n m v ss h rest = ap (slot m v) (rest h)

none_at : (n : List ℕ) (ss : List (List ℕ × Option Data)) → fits n ss ≡ true → slots ss ≡ slots (set n None ss)
none_at n [] h = cc
none_at n (s ∷ ss) h = none_place (slice_cmp nat_cmp n s.0) n s.0 s.1 ss h (none_at n ss)

put_some_at : (n : List ℕ) (o : Option Data) (ss : List (List ℕ × Option Data)) (ms : Members) → ms ≡ slots ss → fits n ss ≡ true → put_some n o ms ≡ slots (set n o ss)
put_some_at n None ss ms e h = e ∙ none_at n ss h
put_some_at n (Some d) ss ms e h = ap (put n d) e ∙ put_at n d ss h

-- the members are what stands at these places
pub record Stands (ss : List (List ℕ × Option Data)) (ms : Members) : Type 0 where
  pub same : ms ≡ slots ss

pub start : {ss : List (List ℕ × Option Data)} → no_members ≡ slots ss → Stands ss no_members
start e = record { same = e }

put_one : {ss : List (List ℕ × Option Data)} {ms : Members} (n : List ℕ) (o : Option Data) → Stands ss ms → fits n ss ≡ true → Stands (set n o ss) (put_some n o ms)
put_one {ss = ss} {ms = ms} n o is h = record { same = put_some_at n o ss ms is.same h }

pub put_is : {ss : List (List ℕ × Option Data)} {ms : Members} (n : List ℕ) (d : Data) → Stands ss ms → fits n ss ≡ true → Stands (set n (Some d) ss) (put n d ms)
put_is n d is h = put_one n (Some d) is h

abbrev pub some_option : {A : Type 0} → (A → Data) → Option A → Option Data
some_option tree None = None
some_option tree (Some x) = Some (tree x)

pub put_option_is : {A : Type 0} {ss : List (List ℕ × Option Data)} {ms : Members} (tree : A → Data) (n : List ℕ) (o : Option A) → Stands ss ms → fits n ss ≡ true
    → Stands (set n (some_option tree o) ss) (put_option tree n o ms)
put_option_is tree n None is h = put_one n None is h
put_option_is tree n (Some x) is h = put_one n (Some (tree x)) is h

abbrev pub some_list : {A : Type 0} → (List A → Data) → List A → Option Data
some_list tree [] = None
some_list tree (x ∷ xs) = Some (tree (x ∷ xs))

pub put_list_is : {A : Type 0} {ss : List (List ℕ × Option Data)} {ms : Members} (tree : List A → Data) (n : List ℕ) (xs : List A) → Stands ss ms → fits n ss ≡ true
    → Stands (set n (some_list tree xs) ss) (put_list tree n xs ms)
put_list_is tree n [] is h = put_one n None is h
put_list_is tree n (x ∷ xs) is h = put_one n (Some (tree (x ∷ xs))) is h

abbrev pub some_true : Bool → Option Data
some_true false = None
some_true true = Some (boolean true)

pub put_true_is : {ss : List (List ℕ × Option Data)} {ms : Members} (n : List ℕ) (b : Bool) → Stands ss ms → fits n ss ≡ true → Stands (set n (some_true b) ss) (put_true n b ms)
put_true_is n false is h = put_one n None is h
put_true_is n true is h = put_one n (Some (boolean true)) is h

abbrev pub some_object : Members → Option Data
some_object no_members = None
some_object (member first d rest) = Some (object (member first d rest))

pub put_object_is : {ss : List (List ℕ × Option Data)} {ms : Members} (n : List ℕ) (inner : Members) → Stands ss ms → fits n ss ≡ true
    → Stands (set n (some_object inner) ss) (put_object n inner ms)
put_object_is n no_members is h = put_one n None is h
put_object_is n (member first d rest) is h = put_one n (Some (object (member first d rest))) is h

-- ---- values

pub option_given : {A : Type 0} (read : Data → Read A) (tree : A → Data) (n : List ℕ) (o : Option A) → IfSome o (λ x. read (tree x) ≡ Ok x) → given_at read n (some_option tree o) ≡ Ok o
option_given read tree n None again = refl
option_given read tree n (Some x) again = rw again refl

pub list_given : {A : Type 0} (read : Data → Read (List A)) (tree : List A → Data) (n : List ℕ) (xs : List A) → read (tree xs) ≡ Ok xs → given_or [] read n (some_list tree xs) ≡ Ok xs
list_given read tree n [] again = refl
list_given read tree n (x ∷ xs) again = rw again refl

pub option_next : {A : Type 0} (read : Data → Read A) (tree : A → Data) (n : List ℕ) (o : Option A) (back : List (List ℕ × Option Data))
    → is_next n back ≡ true → IfSome o (λ x. read (tree x) ≡ Ok x) → member_at read n (fields_of (slots ((n, some_option tree o) ∷ back))) ≡ Ok (o, fields_of (slots back))
option_next read tree n o back h again = member_is read n (some_option tree o) back o h (option_given read tree n o again)

pub list_next : {A : Type 0} (read : Data → Read (List A)) (tree : List A → Data) (n : List ℕ) (xs : List A) (back : List (List ℕ × Option Data))
    → is_next n back ≡ true → read (tree xs) ≡ Ok xs → next_member_or [] read n (fields_of (slots ((n, some_list tree xs) ∷ back))) ≡ Ok (xs, fields_of (slots back))
list_next read tree n xs back h again = member_or_is [] read n (some_list tree xs) back xs h (list_given read tree n xs again)

true_given : (n : List ℕ) (b : Bool) → given_or false flag_at n (some_true b) ≡ Ok b
true_given n false = refl
true_given n true = refl

pub true_next : (n : List ℕ) (b : Bool) (back : List (List ℕ × Option Data))
    → is_next n back ≡ true → next_member_or false flag_at n (fields_of (slots ((n, some_true b) ∷ back))) ≡ Ok (b, fields_of (slots back))
true_next n b back h = member_or_is false flag_at n (some_true b) back b h (true_given n b)

-- ---- places among members that are dropped

left_out_there : (n : List ℕ) (back : List (List ℕ × Option Data)) → is_before n back ≡ true → sought_at n (fields_of (slots back)) ≡ Ok (None, fields_of (slots back))
left_out_there n [] h = refl
left_out_there n ((m, None) ∷ back) h = left_out_there n back (behind n m back h)
left_out_there n ((m, Some d) ∷ back) h = rw (greater (slice_cmp nat_cmp m n) (not_above n m back h)) refl

pub sought_is : (n : List ℕ) (o : Option Data) (back : List (List ℕ × Option Data)) → is_next n back ≡ true
    → sought_at n (fields_of (slots ((n, o) ∷ back))) ≡ Ok (o, fields_of (slots back))
sought_is n None back h = left_out_there n back (and_parts (is_same (slice_cmp nat_cmp n n)) (is_before n back) h).1
sought_is n (Some d) back h = rw (same (slice_cmp nat_cmp n n) (and_parts (is_same (slice_cmp nat_cmp n n)) (is_before n back) h).0) refl
