-- The compact text of a tree is read as the tree, where its members stand in order and its numbers are whole numbers of 64 bits.
use Rattle.std.proofs.Common.{◌≡◌, ◌==◌, ℕ, ◌+◌, ◌-◌, ◌<◌, ◌≤◌, ◌^◌, zero, suc, max, List, [], ◌∷◌, ◌++◌, Bool, true, false, Option, Some, None, refl, ap, sym, subst, ◌∙◌, arith, option_and_then, append-nil, ℤ, negsuc}
use Rattle.std.specs.Prelude.{option_map, decimal}
use Rattle.std.specs.declared.cmp.Ordering.{Ordering}
use Rattle.std.specs.declared.cmp.Ordering.TheVariants.{Less, Equal, Greater}
use Rattle.std.specs.Ordering.{nat_cmp, match_ordering, ordering_reverse}
use Rattle.std.specs.Cmp.Lexicographic.{slice_cmp}
use Rattle.std.proofs.lemmas.Cmp.{nat_list_cmp_total}
use Rattle.json.specs.Token.{Token}
use Rattle.json.specs.Lex.{tokens}
use Rattle.json.specs.Json as json
use Rattle.json.specs.Tree as tree
use Rattle.json.specs.Print.{print}
use Rattle.json.proofs.Printed.Decimals.{IsNumber-decimal, IsNumber-signed_decimal}
use Rattle.json.proofs.Printed.Tokens.{tokens-print}
use Rattle.json.proofs.Printed.Trees.{ArePrintable-json_tokens, value-json_tokens}
use Rattle.serde_json.specs.Data.{Num, unsigned, negative, float, Data, null, boolean, number, string, array, object, Items, no_items, item, Members, no_members, member, put}
use Rattle.serde_json.specs.Read.{of_json, of_items, of_members, max_depth, read}
use Rattle.serde_json.specs.Written.{outline, items_outline, members_outline, compact_text}
use Rattle.serde_json.proofs.Numbers.{number_of-decimal, number_of-negative}
use Rattle.serde_json.proofs.Texts.{print-outline}

-- ---- trees that are read again

-- the name comes before each of the members
abbrev pub IsBefore : List ℕ → Members → Type 0
IsBefore k no_members = Unit {0}
IsBefore k (member l d ms) = (slice_cmp nat_cmp k l ≡ Less) × IsBefore k ms

-- a number of 64 bits below zero
abbrev pub IsNegative : ℤ → Type 0
IsNegative z = (n : ℕ) × ((z ≡ negsuc n) × (n < 2 ^ 63))

abbrev pub IsCount : Num → Type 0
IsCount (unsigned n) = n < 2 ^ 64
IsCount (negative z) = IsNegative z
IsCount (float x) = ⊥

-- numbers are whole numbers of 64 bits, members stand in order, each once, and no more than so many levels lie within each other
abbrev mutual
  pub Fits : ℕ → Data → Type 0
  Fits n null = Unit {0}
  Fits n (boolean b) = Unit {0}
  Fits n (number x) = IsCount x
  Fits n (string s) = Unit {0}
  Fits n (array ds) = (0 < n) × ItemsFit (n - 1) ds
  Fits n (object ms) = (0 < n) × MembersFit (n - 1) ms

  pub ItemsFit : ℕ → Items → Type 0
  ItemsFit n no_items = Unit {0}
  ItemsFit n (item d ds) = Fits n d × ItemsFit n ds

  pub MembersFit : ℕ → Members → Type 0
  MembersFit n no_members = Unit {0}
  MembersFit n (member k d ms) = Fits n d × (IsBefore k ms × MembersFit n ms)

-- ---- members that are put one after another

-- the name comes after each of the members
abbrev IsAfter : List ℕ → Members → Type 0
IsAfter k no_members = Unit {0}
IsAfter k (member l d ms) = (slice_cmp nat_cmp k l ≡ Greater) × IsAfter k ms

-- each name of the members comes after each of those in front
abbrev AreAfter : Members → Members → Type 0
AreAfter no_members front = Unit {0}
AreAfter (member k d ms) front = IsAfter k front × AreAfter ms front

abbrev joined : Members → Members → Members
joined no_members ms = ms
joined (member k d front) ms = member k d (joined front ms)

joined_none : (front : Members) → joined front no_members ≡ front
joined_none no_members = refl
joined_none (member k d front) = ap (member k d) (joined_none front)

joined_more : (front : Members) (k : List ℕ) (d : Data) (ms : Members) → joined (joined front (member k d no_members)) ms ≡ joined front (member k d ms)
joined_more no_members k d ms = refl
joined_more (member l e front) k d ms = ap (member l e) (joined_more front k d ms)

put_last : (k : List ℕ) (d : Data) (front : Members) → IsAfter k front → put k d front ≡ joined front (member k d no_members)
put_last k d no_members after = refl
put_last k d (member l e front) after = rw (after.0) (ap (member l e) (put_last k d front after.1))

reversed : (j k : List ℕ) (o : Ordering) → slice_cmp nat_cmp k j ≡ o → slice_cmp nat_cmp j k ≡ ordering_reverse o
reversed j k o h = nat_list_cmp_total.antisymm j k ∙ ap ordering_reverse h

after_last : (j k : List ℕ) (d : Data) (front : Members) → IsAfter j front → slice_cmp nat_cmp j k ≡ Greater → IsAfter j (joined front (member k d no_members))
after_last j k d no_members after last = (last, tt)
after_last j k d (member l e front) after last = (after.0, after_last j k d front after.1 last)

all_after_last : (k : List ℕ) (d : Data) (front ms : Members) → AreAfter ms front → IsBefore k ms → AreAfter ms (joined front (member k d no_members))
all_after_last k d front no_members after before = tt
all_after_last k d front (member l e ms) after before = (after_last l k d front after.0 (reversed l k Less before.0), all_after_last k d front ms after.1 before.1)

none_in_front : (ms : Members) → AreAfter ms no_members
none_in_front no_members = tt
none_in_front (member k d ms) = (tt, none_in_front ms)

-- ---- what the outline of such a tree stands for

number_again : (x : Num) → IsCount x → of_json (outline (number x)) ≡ Some (number x)
number_again (unsigned n) low = rw (number_of-decimal n low) refl
number_again (negative z) low =
    subst (λ (x : ℤ). of_json (outline (number (negative x))) ≡ Some (number (negative x))) (sym low.1.0) (rw (number_of-negative low.0 low.1.1) refl)
number_again (float x) low = absurd low

mutual
  of_outline : (n : ℕ) (d : Data) → Fits n d → of_json (outline d) ≡ Some d
  of_outline n null fits = refl
  of_outline n (boolean b) fits = refl
  of_outline n (number x) fits = number_again x fits
  of_outline n (string s) fits = refl
  of_outline n (array ds) fits = rw (of_items_outline (n - 1) ds fits.1) refl
  of_outline n (object ms) fits = rw (of_members_outline (n - 1) ms no_members fits.1 (none_in_front ms)) refl

  of_items_outline : (n : ℕ) (ds : Items) → ItemsFit n ds → of_items (items_outline ds) ≡ Some ds
  of_items_outline n no_items fits = refl
  of_items_outline n (item d ds) fits = rw (of_outline n d fits.0, of_items_outline n ds fits.1) refl

  of_members_outline : (n : ℕ) (ms front : Members) → MembersFit n ms → AreAfter ms front → of_members (members_outline ms) front ≡ Some (joined front ms)
  of_members_outline n no_members front fits after = ap Some (sym (joined_none front))
  of_members_outline n (member k d ms) front fits after =
      ap (option_and_then (λ e. of_members (members_outline ms) (put k e front))) (of_outline n d fits.0)
      ∙ (ap (of_members (members_outline ms)) (put_last k d front after.0)
      ∙ (of_members_outline n ms (joined front (member k d no_members)) fits.1.1 (all_after_last k d front ms after.1 fits.1.0)
      ∙ ap Some (joined_more front k d ms)))

has_number : (x : Num) → IsCount x → tree.HasNumbers (outline (number x))
has_number (unsigned n) low = IsNumber-decimal n low
has_number (negative z) low = subst (λ (x : ℤ). tree.HasNumbers (outline (number (negative x)))) (sym low.1.0) (IsNumber-signed_decimal (negsuc low.0) (omega (arith, low.1.1)))
has_number (float x) low = absurd low

mutual
  has_numbers : (n : ℕ) (d : Data) → Fits n d → tree.HasNumbers (outline d)
  has_numbers n null fits = tt
  has_numbers n (boolean b) fits = tt
  has_numbers n (number x) fits = has_number x fits
  has_numbers n (string s) fits = tt
  has_numbers n (array ds) fits = items_have_numbers (n - 1) ds fits.1
  has_numbers n (object ms) fits = members_have_numbers (n - 1) ms fits.1

  items_have_numbers : (n : ℕ) (ds : Items) → ItemsFit n ds → tree.ItemsHaveNumbers (items_outline ds)
  items_have_numbers n no_items fits = tt
  items_have_numbers n (item d ds) fits = (has_numbers n d fits.0, items_have_numbers n ds fits.1)

  members_have_numbers : (n : ℕ) (ms : Members) → MembersFit n ms → tree.MembersHaveNumbers (members_outline ms)
  members_have_numbers n no_members fits = tt
  members_have_numbers n (member k d ms) fits = (has_numbers n d fits.0, members_have_numbers n ms fits.1.1)

mutual
  shallow : (n : ℕ) (d : Data) → Fits n d → tree.depth (outline d) ≤ n
  shallow n null fits = omega arith
  shallow n (boolean b) fits = omega arith
  shallow n (number x) fits = omega arith
  shallow n (string s) fits = omega arith
  shallow n (array ds) fits = omega (arith, fits.0, items_shallow (n - 1) ds fits.1)
  shallow n (object ms) fits = omega (arith, fits.0, members_shallow (n - 1) ms fits.1)

  items_shallow : (n : ℕ) (ds : Items) → ItemsFit n ds → tree.items_depth (items_outline ds) ≤ n
  items_shallow n no_items fits = omega arith
  items_shallow n (item d ds) fits = omega (arith, shallow n d fits.0, items_shallow n ds fits.1)

  members_shallow : (n : ℕ) (ms : Members) → MembersFit n ms → tree.members_depth (members_outline ms) ≤ n
  members_shallow n no_members fits = omega arith
  members_shallow n (member k d ms) fits = omega (arith, shallow n d fits.0, members_shallow n ms fits.1.1)

-- the text has the tokens of the outline, and these are a value
print_read : (j : json.Json) → tree.HasNumbers j → tree.depth j ≤ max_depth → option_and_then (λ (p : json.Json × List Token). json.if_last p.0 p.1) (json.value max_depth (tokens (print (tree.json_tokens j)))) ≡ Some j
print_read j numbers deep =
    ap (option_and_then (λ (p : json.Json × List Token). json.if_last p.0 p.1))
    (ap (json.value max_depth) (tokens-print (tree.json_tokens j) (ArePrintable-json_tokens j numbers) ∙ sym (append-nil (tree.json_tokens j)))
    ∙ value-json_tokens j max_depth [] deep)

pub text_read : (n : ℕ) (d : Data) → n ≤ max_depth → Fits n d → read (compact_text d) ≡ Some d
text_read n d low fits =
    let deep : tree.depth (outline d) ≤ max_depth = omega (arith, low, shallow n d fits) in
    ap read (sym (print-outline d)) ∙ (ap (option_and_then of_json) (print_read (outline d) (has_numbers n d fits) deep) ∙ of_outline n d fits)
