-- What is read of a print is what was printed, if anything is read.
use Rattle.std.proofs.Common.{◌≡◌, ℕ, ◌+◌, ◌≤◌, List, [], ◌∷◌, Bool, true, false, Option, Some, None, Ok, Err, refl, sym, subst, map, ◌<◌, ◌^◌, ◌⊎◌, inl, inr, arith}
use Rattle.std.specs.Prelude.{decimal, if◌then◌else◌, IfSome}
use Rattle.serde_json.specs.Data.{Data, string}
use Rattle.serde_json.specs.View.{items_of}
use Rattle.cmc_time.specs.Durations.{longest, go_duration}
use Rattle.cmc_time.proofs.DurationLaws.{duration_again, go_duration_is}
use Rattle.cmc_cursor.specs.Members.{Read, ◌>>=◌, under, fields_of}
use Rattle.cmc_cursor.specs.Readers.{found, name_at, short_text_at, small_count_at, flag_at}
use Rattle.cmc_print.specs.Trees.{natural}
use Rattle.cmc_print.specs.Puts.{strings}
use Rattle.cmc_print.specs.Printed.{duration_tree}
use Rattle.cmc_codec.specs.Given.{worded_at, list_from, text_list_at, clean_text_at, duration_at, given_at, given_or, member_at, next_member_or, needed_at}
use Rattle.cmc_codec.specs.MetadataForm.{sought_or, sought_needed}
use Rattle.cmc_codec.specs.declared.given.Wording.{Wording}
use Rattle.cmc_codec.specs.declared.given.Wording.TheVariants.{Any, Printable, Address}
use Rattle.cmc_codec.proofs.Slots.{slots, is_next, next_is, sought_is, required_is, some_option, some_list, some_true}
use Rattle.cmc_codec.proofs.LongDurations.{unread}
use Rattle.cmc_cursor.proofs.Always.{Always, so, failed, after, below}

-- the reading gives x, if it gives anything
abbrev pub Only : {A : Type 0} → A → Read A → Type 0
Only x r = Always (λ y. y ≡ x) r

pub exactly : {A : Type 0} (x : A) → Only x (Ok x)
exactly x = so refl

pub given : {A : Type 0} {x : A} {r : Read A} → r ≡ Ok x → Only x r
given {x = x} e = subst (Only x) (sym e) (exactly x)

pub only_then : {A B : Type 0} (r : Read A) (x : A) (f : A → Read B) (y : B) → Only x r → Only y (f x) → Only y (r >>= f)
only_then r x f y first rest = after (λ p. p ≡ x) (λ q. q ≡ y) r f first (λ p e. subst (λ p. Only y (f p)) (sym e) rest)

pub only_below : {A : Type 0} (n : List ℕ) (x : A) (r : Read A) → Only x r → Only x (under n r)
only_below n x r only = below (λ y. y ≡ x) n r only

-- ---- values

kept : (b : Bool) (t : List ℕ) → Only t (if b then Ok t else Err [])
kept true t = so refl
kept false t = failed []

small : (b : Bool) (n : ℕ) → Only n (if b then Ok n else Err [])
small true n = so refl
small false n = failed []

pub short_text_only : (n : ℕ) (t : List ℕ) → Only t (short_text_at n (string t))
short_text_only n t = kept _ t

pub name_only : (t : List ℕ) → Only t (name_at (string t))
name_only t = kept _ t

pub clean_text_only : (t : List ℕ) → Only t (clean_text_at (string t))
clean_text_only t = kept _ t

worded_only : (wording : Wording) (t : List ℕ) → Only t (worded_at wording (string t))
worded_only Any t = so refl
worded_only Printable t = kept _ t
worded_only Address t = kept _ t

list_from_only : (wording : Wording) (n : ℕ) (ts : List (List ℕ)) → Only ts (list_from wording n (items_of (map string ts)))
list_from_only wording n [] = so refl
list_from_only wording n (t ∷ ts) =
    only_then (under (decimal n) (worded_at wording (string t))) t _ (t ∷ ts) (only_below (decimal n) t (worded_at wording (string t)) (worded_only wording t))
    (only_then (list_from wording (n + 1) (items_of (map string ts))) ts _ (t ∷ ts) (list_from_only wording (n + 1) ts) (so refl))

pub list_only : (wording : Wording) (ts : List (List ℕ)) → Only ts (text_list_at wording (strings ts))
list_only wording ts = list_from_only wording 0 ts

pub small_count_only : (n : ℕ) → Only n (small_count_at (natural n))
small_count_only n = small _ n

pub duration_only : (n : ℕ) → n < 2 ^ 64 → Only n (duration_at (duration_tree n))
duration_only n fits =
    elim (within_or_over n longest) [
      | inl within ↦ given (rw (duration_again (go_duration n) n (go_duration_is n within)) refl)
      | inr over ↦ subst (λ (o : Option ℕ). Only n (found o)) (sym (unread n over fits)) (failed [])
    ]
  where
    within_or_over : (a b : ℕ) → (a ≤ b) ⊎ (b < a)
    within_or_over a b = grind arith

-- ---- members

option_given : {A : Type 0} (read : Data → Read A) (tree : A → Data) (n : List ℕ) (o : Option A) → IfSome o (λ x. Only x (read (tree x))) → Only o (given_at read n (some_option tree o))
option_given read tree n None only = so refl
option_given read tree n (Some x) only = only_then (under n (read (tree x))) x _ (Some x) (only_below n x (read (tree x)) only) (so refl)

list_given : {A : Type 0} (read : Data → Read (List A)) (tree : List A → Data) (n : List ℕ) (xs : List A) → Only xs (read (tree xs)) → Only xs (given_or [] read n (some_list tree xs))
list_given read tree n [] only = so refl
list_given read tree n (x ∷ xs) only = only_below n (x ∷ xs) (read (tree (x ∷ xs))) only

pub option_is : {A : Type 0} (read : Data → Read A) (tree : A → Data) (n : List ℕ) (o : Option A) (back : List (List ℕ × Option Data))
    → is_next n back ≡ true → IfSome o (λ x. Only x (read (tree x))) → Only (o, fields_of (slots back)) (member_at read n (fields_of (slots ((n, some_option tree o) ∷ back))))
option_is read tree n o back h only = rw (next_is n (some_option tree o) back h) (only_then _ o _ _ (option_given read tree n o only) (so refl))

pub member_or_is : {A : Type 0} (absent : A) (read : Data → Read A) (n : List ℕ) (o : Option Data) (back : List (List ℕ × Option Data)) (x : A)
    → is_next n back ≡ true → Only x (given_or absent read n o) → Only (x, fields_of (slots back)) (next_member_or absent read n (fields_of (slots ((n, o) ∷ back))))
member_or_is absent read n o back x h only = rw (next_is n o back h) (only_then _ x _ _ only (so refl))

pub list_is : {A : Type 0} (read : Data → Read (List A)) (tree : List A → Data) (n : List ℕ) (xs : List A) (back : List (List ℕ × Option Data))
    → is_next n back ≡ true → Only xs (read (tree xs)) → Only (xs, fields_of (slots back)) (next_member_or [] read n (fields_of (slots ((n, some_list tree xs) ∷ back))))
list_is read tree n xs back h only = member_or_is [] read n (some_list tree xs) back xs h (list_given read tree n xs only)

true_given : (n : List ℕ) (b : Bool) → Only b (given_or false flag_at n (some_true b))
true_given n false = so refl
true_given n true = so refl

pub true_is : (n : List ℕ) (b : Bool) (back : List (List ℕ × Option Data))
    → is_next n back ≡ true → Only (b, fields_of (slots back)) (next_member_or false flag_at n (fields_of (slots ((n, some_true b) ∷ back))))
true_is n b back h = member_or_is false flag_at n (some_true b) back b h (true_given n b)

pub needed_is : {A : Type 0} (read : Data → Read A) (n : List ℕ) (d : Data) (back : List (List ℕ × Option Data)) (x : A)
    → is_next n back ≡ true → Only x (read d) → Only (x, fields_of (slots back)) (needed_at read n (fields_of (slots ((n, Some d) ∷ back))))
needed_is read n d back x h only = rw (required_is n d back h) (only_then _ x _ _ (only_below n x (read d) only) (so refl))

pub sought_or_is : {A : Type 0} (absent : A) (read : Data → Read A) (n : List ℕ) (o : Option Data) (back : List (List ℕ × Option Data)) (x : A)
    → is_next n back ≡ true → Only x (given_or absent read n o) → Only (x, fields_of (slots back)) (sought_or absent read n (fields_of (slots ((n, o) ∷ back))))
sought_or_is absent read n o back x h only = rw (sought_is n o back h) (only_then _ x _ _ only (so refl))

pub sought_list_is : {A : Type 0} (read : Data → Read (List A)) (tree : List A → Data) (n : List ℕ) (xs : List A) (back : List (List ℕ × Option Data))
    → is_next n back ≡ true → Only xs (read (tree xs)) → Only (xs, fields_of (slots back)) (sought_or [] read n (fields_of (slots ((n, some_list tree xs) ∷ back))))
sought_list_is read tree n xs back h only = sought_or_is [] read n (some_list tree xs) back xs h (list_given read tree n xs only)

pub sought_needed_is : {A : Type 0} (read : Data → Read A) (n : List ℕ) (d : Data) (back : List (List ℕ × Option Data)) (x : A)
    → is_next n back ≡ true → Only x (read d) → Only (x, fields_of (slots back)) (sought_needed read n (fields_of (slots ((n, Some d) ∷ back))))
sought_needed_is read n d back x h only = rw (sought_is n (Some d) back h) (only_then _ x _ _ (only_below n x (read d) only) (so refl))
