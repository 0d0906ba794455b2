-- The compact text of a value that was read is read as the value, where it has no float.
use Rattle.std.proofs.Common.{◌≡◌, ◌==◌, ◌||◌, ◌&&◌, ◌<◌, ◌≤◌, ◌-◌, ◌^◌, ℕ, ℤ, negsuc, zero, suc, max, List, Bool, true, false, Option, Some, None, refl, ap, sym, subst, ◌∙◌, arith, option_and_then, not, length, drop}
use Rattle.std.proofs.lemmas.Bool.{and_parts}
use Rattle.std.proofs.lemmas.Bool.Decides.{nat_tests}
use Rattle.std.specs.Prelude.{option_map, if◌then◌else◌, nat_lt, nat_le, slice_index, Ok, All}
use Rattle.std.specs.declared.cmp.Ordering.{Ordering}
use Rattle.std.specs.declared.cmp.Ordering.TheVariants.{Less, Equal, Greater}
use Rattle.std.specs.Float.{binary64, float_is_finite}
use Rattle.std.specs.Ordering.{nat_cmp, match_ordering}
use Rattle.std.specs.Cmp.Lexicographic.{slice_cmp}
use Rattle.fast_float.specs.Text.{minus, Parts, scan, digits_of, nearest, with_sign}
use Rattle.json.specs.Json as json
use Rattle.json.specs.Token.{Token}
use Rattle.json.specs.Lex.{tokens}
use Rattle.serde_json.specs.Data.{Num, unsigned, negative, float, Data, null, boolean, number, string, array, object, Items, no_items, item, Members, no_members, member, put, depth, items_depth, members_depth}
use Rattle.serde_json.specs.Read.{is_integer, float_of, number_from, number_of, of_json, of_items, of_members, max_depth, read}
use Rattle.serde_json.specs.Written.{has_float, items_have_float, members_have_float, compact_text}
use Rattle.serde_json.proofs.Nesting.{depth-read}
use Rattle.cmc_setup.specs.Setups.{Setup}
use Rattle.cmc_scenario.specs.Scenarios.{scenario_at}
use Rattle.cmc_audit_laws.specs.Printed.{IsValueOf}
use Rattle.cmc_audit_laws.proofs.TextsRead.{IsBefore, IsNegative, Fits, ItemsFit, MembersFit, text_read}
use Rattle.cmc_audit_laws.proofs.OneLines.{one_line}
use Rattle.cmc_audit_laws.proofs.TreesFit.{before_next, before_put, reversed}

-- ---- what reading gives: members in order, and whole numbers of 64 bits

abbrev IsRanged : Num → Type 0
IsRanged (unsigned n) = n < 2 ^ 64
IsRanged (negative z) = IsNegative z
IsRanged (float x) = Unit {0}

abbrev mutual
  IsTidy : Data → Type 0
  IsTidy null = Unit {0}
  IsTidy (boolean b) = Unit {0}
  IsTidy (number x) = IsRanged x
  IsTidy (string s) = Unit {0}
  IsTidy (array ds) = AreTidy ds
  IsTidy (object ms) = MembersTidy ms

  AreTidy : Items → Type 0
  AreTidy no_items = Unit {0}
  AreTidy (item d ds) = IsTidy d × AreTidy ds

  MembersTidy : Members → Type 0
  MembersTidy no_members = Unit {0}
  MembersTidy (member k d ms) = IsTidy d × (IsBefore k ms × MembersTidy ms)

-- ---- numbers

some_same : {A : Type 0} (x y : A) → Some x ≡ Some y → x ≡ y
some_same x y e = cc e

by_float : (b : Bool) (x y : Num) → IsRanged x → (if b then Some x else None) ≡ Some y → IsRanged y
by_float true x y is e = subst IsRanged (some_same x y e) is
by_float false x y is e = absurd (cc e)

float_ranged : (sign : Bool) (p : Parts) (y : Num) → float_of sign p ≡ Some y → IsRanged y
float_ranged sign p y e = by_float (float_is_finite (nearest binary64 sign p)) (float (nearest binary64 sign p)) y tt e

by_integer : (b : Bool) (x y : Num) (other : Option Num) → (b ≡ true → IsRanged x) → (other ≡ Some y → IsRanged y) → (if b then Some x else other) ≡ Some y → IsRanged y
by_integer true x y other is or e = subst IsRanged (some_same x y e) (is refl)
by_integer false x y other is or e = or e

below_zero : (d : ℕ) → 0 < d → d ≤ 2 ^ 63 → IsNegative (with_sign true d)
below_zero zero some most = absurd (omega (arith, some))
below_zero (suc n) some most = (n, (refl, omega (arith, most)))

negative_ranged : (whole : Bool) (d : ℕ) → ((whole && nat_lt 0 d) && nat_le d (2 ^ 63)) ≡ true → IsNegative (with_sign true d)
negative_ranged whole d is =
    let parts = and_parts (whole && nat_lt 0 d) (nat_le d (2 ^ 63)) is in
    let some = (and_parts whole (nat_lt 0 d) parts.0).1 in
    below_zero d (grind (arith, nat_tests, some)) (grind (arith, nat_tests, parts))

positive_ranged : (whole : Bool) (d : ℕ) → (whole && nat_lt d (2 ^ 64)) ≡ true → d < 2 ^ 64
positive_ranged whole d is = let low = (and_parts whole (nat_lt d (2 ^ 64)) is).1 in grind (arith, nat_tests, low)

from_ranged : (sign : Bool) (p : Parts) (y : Num) → number_from sign p ≡ Some y → IsRanged y
from_ranged false p y e =
    by_integer (is_integer p && nat_lt (digits_of p) (2 ^ 64)) (unsigned (digits_of p)) y (float_of false p) (positive_ranged (is_integer p) (digits_of p)) (float_ranged false p y) e
from_ranged true p y e =
    by_integer ((is_integer p && nat_lt 0 (digits_of p)) && nat_le (digits_of p) (2 ^ 63)) (negative (with_sign true (digits_of p))) y (float_of true p) (negative_ranged (is_integer p) (digits_of p)) (float_ranged true p y) e

by_sign : (b : Bool) (p q : Parts) (y : Num) → (if b then number_from true p else number_from false q) ≡ Some y → IsRanged y
by_sign true p q y e = from_ranged true p y e
by_sign false p q y e = from_ranged false q y e

number_ranged : (s : List ℕ) (y : Num) → number_of s ≡ Some y → IsRanged y
unfolding number_of
number_ranged s y e = by_sign (slice_index s 0 == minus) (scan (drop 1 s)) (scan s) y e

-- ---- members that are put

tidy_placed : (o : Ordering) (k l : List ℕ) (d e : Data) (ms rest : Members) → slice_cmp nat_cmp k l ≡ o → IsTidy d → MembersTidy (member l e ms) → (slice_cmp nat_cmp l k ≡ Less → IsBefore l rest) → MembersTidy rest
    → MembersTidy (match_ordering o (member k d (member l e ms)) (member l d ms) (member l e rest))
tidy_placed Less k l d e ms rest h tidy all before later = (tidy, ((h, before_next k l ms h all.1.0), all))
tidy_placed Equal k l d e ms rest h tidy all before later = (tidy, all.1)
tidy_placed Greater k l d e ms rest h tidy all before later = (all.0, (before (reversed l k Greater h), later))

tidy_put : (k : List ℕ) (d : Data) (ms : Members) → IsTidy d → MembersTidy ms → MembersTidy (put k d ms)
tidy_put k d no_members tidy all = (tidy, (tt, tt))
tidy_put k d (member l e ms) tidy all =
    tidy_placed (slice_cmp nat_cmp k l) k l d e ms (put k d ms) refl tidy all (λ h. before_put l k d ms h all.1.0) (tidy_put k d ms tidy all.1.1)

-- ---- values

mapped : {A B : Type 0} (P : B → Type 0) (f : A → B) (o : Option A) (y : B) → ((x : A) → o ≡ Some x → P (f x)) → option_map f o ≡ Some y → P y
mapped P f None y each e = absurd (cc e)
mapped P f (Some x) y each e = subst P (some_same (f x) y e) (each x refl)

chained : {A B : Type 0} (P : B → Type 0) (f : A → Option B) (o : Option A) (y : B) → ((x : A) → o ≡ Some x → f x ≡ Some y → P y) → option_and_then f o ≡ Some y → P y
chained P f None y each e = absurd (cc e)
chained P f (Some x) y each e = each x refl e

mutual
  tidy : (j : json.Json) (d : Data) → of_json j ≡ Some d → IsTidy d
  tidy json.null d e = subst IsTidy (some_same null d e) tt
  tidy (json.boolean b) d e = subst IsTidy (some_same (boolean b) d e) tt
  tidy (json.number s) d e = mapped IsTidy number (number_of s) d (λ x is. number_ranged s x is) e
  tidy (json.string s) d e = subst IsTidy (some_same (string s) d e) tt
  tidy (json.array js) d e = mapped IsTidy array (of_items js) d (λ ds is. items_tidy js ds is) e
  tidy (json.object ms) d e = mapped IsTidy object (of_members ms no_members) d (λ found is. members_tidy ms no_members found tt is) e

  items_tidy : (js : json.Items) (ds : Items) → of_items js ≡ Some ds → AreTidy ds
  items_tidy json.no_items ds e = subst AreTidy (some_same no_items ds e) tt
  items_tidy (json.item j js) ds e =
      chained AreTidy (λ d. option_map (item d) (of_items js)) (of_json j) ds (λ d is rest. mapped AreTidy (item d) (of_items js) ds (λ later are. (tidy j d is, items_tidy js later are)) rest) e

  members_tidy : (ms : json.Members) (found all : Members) → MembersTidy found → of_members ms found ≡ Some all → MembersTidy all
  members_tidy json.no_members found all before e = subst MembersTidy (some_same found all e) before
  members_tidy (json.member k j ms) found all before e =
      chained MembersTidy (λ d. of_members ms (put k d found)) (of_json j) all (λ d is rest. members_tidy ms (put k d found) all (tidy_put k d found (tidy j d is) before) rest) e

read_tidy : (text : List ℕ) (d : Data) → read text ≡ Some d → IsTidy d
read_tidy text d e = chained IsTidy of_json (option_and_then (λ (p : json.Json × List Token). json.if_last p.0 p.1) (json.value max_depth (tokens text))) d (λ j found is. tidy j d is) e

-- ---- with no float, and not too deep

neither : (a b : Bool) → (a || b) ≡ false → (a ≡ false) × (b ≡ false)
neither true b e = absurd (cc e)
neither false b e = (refl, e)

number_fits : (x : Num) (n : ℕ) → IsRanged x → has_float (number x) ≡ false → Fits n (number x)
number_fits (unsigned m) n is none = is
number_fits (negative z) n is none = is
number_fits (float x) n is none = absurd (cc none)

mutual
  tidy_fits : (n : ℕ) (d : Data) → IsTidy d → has_float d ≡ false → depth d ≤ n → Fits n d
  tidy_fits n null is none low = tt
  tidy_fits n (boolean b) is none low = tt
  tidy_fits n (number x) is none low = number_fits x n is none
  tidy_fits n (string s) is none low = tt
  tidy_fits n (array ds) is none low = (omega (arith, low), items_fit (n - 1) ds is none (omega (arith, low)))
  tidy_fits n (object ms) is none low = (omega (arith, low), members_fit (n - 1) ms is none (omega (arith, low)))

  items_fit : (n : ℕ) (ds : Items) → AreTidy ds → items_have_float ds ≡ false → items_depth ds ≤ n → ItemsFit n ds
  items_fit n no_items is none low = tt
  items_fit n (item d ds) is none low =
      let parts = neither (has_float d) (items_have_float ds) none in (tidy_fits n d is.0 parts.0 (omega (arith, low)), items_fit n ds is.1 parts.1 (omega (arith, low)))

  members_fit : (n : ℕ) (ms : Members) → MembersTidy ms → members_have_float ms ≡ false → members_depth ms ≤ n → MembersFit n ms
  members_fit n no_members is none low = tt
  members_fit n (member k d ms) is none low =
      let parts = neither (has_float d) (members_have_float ms) none in
      (tidy_fits n d is.0 parts.0 (omega (arith, low)), (is.1.0, members_fit n ms is.1.1 parts.1 (omega (arith, low))))

pub value_of : (text : List ℕ) (d : Data) (scenario : Setup) → read text ≡ Some d → has_float d ≡ false → scenario_at d ≡ Ok scenario → IsValueOf d scenario
value_of text d scenario reads none is =
    let fits : Fits max_depth d = tidy_fits max_depth d (read_tidy text d reads) none (depth-read text d reads) in
    record { is = is; again = text_read max_depth d (omega arith) fits; one_line = one_line max_depth d fits }
