-- No line feed stands in the compact text of a tree whose numbers are whole numbers of 64 bits.
use Rattle.std.proofs.Common.{◌≡◌, ◌==◌, ◌||◌, ◌/◌, ◌%◌, ◌≤◌, ◌<◌, ◌^◌, ◌-◌, ◌+◌, ℕ, List, [], ◌∷◌, ◌++◌, Bool, true, false, cond, nat_lt, refl, sym, subst, arith, suc, ℤ}
use Rattle.std.proofs.lemmas.Bool.Decides.{nat_tests}
use Rattle.std.proofs.lemmas.Fmt.{digits_decimal}
use Rattle.std.proofs.lemmas.List.Elements.{All-from_recursion}
use Rattle.std.specs.List.{All, AllByRecursion}
use Rattle.std.specs.Fmt.{decimal}
use Rattle.std.specs.Char.{digit_char, is_ascii_digit}
use Rattle.std.specs.Str.{all_ascii_digits}
use Rattle.std.proofs.lemmas.Bool.{and_parts}
use Rattle.json.specs.Print.{escape_letter, escape_byte, escape, quoted}
use Rattle.serde_json.specs.Data.{Num, unsigned, negative, float, Data, null, boolean, number, string, array, object, Items, no_items, item, Members, no_members, member}
use Rattle.serde_json.specs.Written.{number_text, comma_if, compact_text, items_text, members_text}
use Rattle.cmc_time.proofs.Digits.{own}
use Rattle.cmc_audit_laws.proofs.TextsRead.{IsCount, Fits, ItemsFit, MembersFit}

abbrev pub IsNoFeed : ℕ → Type 0
IsNoFeed c = (c == 10) ≡ false

abbrev pub HasNoFeed : List ℕ → Type 0
HasNoFeed text = AllByRecursion IsNoFeed text

pub both : (xs ys : List ℕ) → HasNoFeed xs → HasNoFeed ys → HasNoFeed (xs ++ ys)
both [] ys a b = b
both (x ∷ xs) ys a b = (a.0, both xs ys a.1 b)

-- ---- texts in quotes

either_way : (b : Bool) (x y : ℕ) → (b ≡ true → IsNoFeed x) → IsNoFeed y → IsNoFeed (cond b x y)
either_way true x y f g = f refl
either_way false x y f g = g

quote_or_slash : (x : ℕ) → ((x == 34) || (x == 92)) ≡ true → IsNoFeed x
quote_or_slash x is = grind (arith, nat_tests, is)

letter_no_feed : (x : ℕ) → IsNoFeed (escape_letter x)
letter_no_feed x =
    either_way ((x == 34) || (x == 92)) x _ (quote_or_slash x)
    (either_way (x == 8) 98 _ (λ is. refl)
    (either_way (x == 12) 102 _ (λ is. refl)
    (either_way (x == 10) 110 _ (λ is. refl)
    (either_way (x == 13) 114 _ (λ is. refl) (either_way (x == 9) 116 0 (λ is. refl) refl)))))

above : (d low : ℕ) → 11 ≤ low → IsNoFeed (low + d)
above d low is = grind (arith, nat_tests, is)

digit_no_feed : (d : ℕ) → IsNoFeed (digit_char d)
digit_no_feed d = either_way (nat_lt d 10) (48 + d) (87 + d) (λ is. above d 48 (omega arith)) (above d 87 (omega arith))

high_no_feed : (x : ℕ) → nat_lt x 32 ≡ false → IsNoFeed x
high_no_feed x is = grind (arith, nat_tests, is)

either_text : (b : Bool) (xs ys : List ℕ) → (b ≡ true → HasNoFeed xs) → (b ≡ false → HasNoFeed ys) → HasNoFeed (cond b xs ys)
either_text true xs ys f g = f refl
either_text false xs ys f g = g refl

byte_no_feed : (x : ℕ) → HasNoFeed (escape_byte x)
unfolding escape_byte
byte_no_feed x =
    either_text (nat_lt 0 (escape_letter x)) (92 ∷ escape_letter x ∷ []) _ (λ is. (refl, (letter_no_feed x, tt)))
    (λ none. either_text (nat_lt x 32) (92 ∷ 117 ∷ 48 ∷ 48 ∷ digit_char (x / 16) ∷ digit_char (x % 16) ∷ []) (x ∷ [])
    (λ is. (refl, (refl, (refl, (refl, (digit_no_feed (x / 16), (digit_no_feed (x % 16), tt))))))) (λ is. (high_no_feed x is, tt)))

escape_no_feed : (s : List ℕ) → HasNoFeed (escape s)
escape_no_feed [] = tt
escape_no_feed (x ∷ s) = both (escape_byte x) (escape s) (byte_no_feed x) (escape_no_feed s)

quoted_no_feed : (s : List ℕ) → HasNoFeed (quoted s)
quoted_no_feed s = (refl, both (escape s) (34 ∷ []) (escape_no_feed s) (refl, tt))

-- ---- numbers

digit_is_no_feed : (c : ℕ) → is_ascii_digit c ≡ true → IsNoFeed c
digit_is_no_feed c is = grind (arith, nat_tests, is)

digits_no_feed : (ds : List ℕ) → all_ascii_digits ds ≡ true → HasNoFeed ds
digits_no_feed [] all = tt
digits_no_feed (d ∷ ds) all = let parts = and_parts (is_ascii_digit d) (all_ascii_digits ds) all in (digit_is_no_feed d parts.0, digits_no_feed ds parts.1)

number_no_feed : (x : Num) → IsCount x → HasNoFeed (number_text x)
number_no_feed (unsigned n) low = digits_no_feed (decimal n) (digits_decimal own n low)
number_no_feed (negative z) low =
    subst (λ (x : ℤ). HasNoFeed (number_text (negative x))) (sym low.1.0) (refl, digits_no_feed (decimal (suc low.0)) (digits_decimal own (suc low.0) (omega (arith, low.1.1))))
number_no_feed (float x) low = absurd low

-- ---- trees

comma_no_feed : (later : Bool) → HasNoFeed (comma_if later)
comma_no_feed true = (refl, tt)
comma_no_feed false = tt

mutual
  no_feed : (n : ℕ) (d : Data) → Fits n d → HasNoFeed (compact_text d)
  no_feed n null fits = (refl, (refl, (refl, (refl, tt))))
  no_feed n (boolean true) fits = (refl, (refl, (refl, (refl, tt))))
  no_feed n (boolean false) fits = (refl, (refl, (refl, (refl, (refl, tt)))))
  no_feed n (number x) fits = number_no_feed x fits
  no_feed n (string s) fits = quoted_no_feed s
  no_feed n (array ds) fits = (refl, items_no_feed (n - 1) false ds fits.1)
  no_feed n (object ms) fits = (refl, members_no_feed (n - 1) false ms fits.1)

  items_no_feed : (n : ℕ) (later : Bool) (ds : Items) → ItemsFit n ds → HasNoFeed (items_text later ds)
  items_no_feed n later no_items fits = (refl, tt)
  items_no_feed n later (item d ds) fits = both (comma_if later) _ (comma_no_feed later) (both (compact_text d) (items_text true ds) (no_feed n d fits.0) (items_no_feed n true ds fits.1))

  members_no_feed : (n : ℕ) (later : Bool) (ms : Members) → MembersFit n ms → HasNoFeed (members_text later ms)
  members_no_feed n later no_members fits = (refl, tt)
  members_no_feed n later (member k d ms) fits =
      both (comma_if later) _ (comma_no_feed later)
      (both (quoted k) _ (quoted_no_feed k) (refl, both (compact_text d) (members_text true ms) (no_feed n d fits.0) (members_no_feed n true ms fits.1.1)))

pub one_line : (n : ℕ) (d : Data) → Fits n d → All (λ c. (c == 10) ≡ false) (compact_text d)
one_line n d fits = All-from_recursion IsNoFeed (compact_text d) (no_feed n d fits)
