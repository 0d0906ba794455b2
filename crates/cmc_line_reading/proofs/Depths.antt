-- A value that is found to nest at most so deep is of that depth, and the other way round.
use Rattle.std.proofs.Common.{◌≡◌, ℕ, suc, ◌-◌, ◌<◌, ◌≤◌, true, refl, arith}
use Rattle.std.specs.Prelude.{nat_lt}
use Rattle.std.proofs.lemmas.Bool.{and_parts, and_from}
use Rattle.std.proofs.lemmas.Bool.Decides.{nat_tests}
use Rattle.serde_json.specs.Data.{Data, null, boolean, number, string, array, object, Items, no_items, item, Members, no_members, member, depth, items_depth, members_depth}
use Rattle.cmc_line_reading.specs.Depths.{is_nested_within, items_within, members_within}

above : (n : ℕ) → nat_lt 0 n ≡ true → 0 < n
above n h = grind (arith, nat_tests)

one_less : (n k : ℕ) → 0 < n → k ≤ n - 1 → suc k ≤ n
one_less n k h e = omega arith

mutual
  pub depth_of_within : (n : ℕ) (d : Data) → is_nested_within n d ≡ true → depth d ≤ n
  depth_of_within n null h = omega arith
  depth_of_within n (boolean b) h = omega arith
  depth_of_within n (number x) h = omega arith
  depth_of_within n (string s) h = omega arith
  depth_of_within n (array ds) h = let p = and_parts (nat_lt 0 n) (items_within (n - 1) ds) h in one_less n (items_depth ds) (above n p.0) (depth_of_items (n - 1) ds p.1)
  depth_of_within n (object ms) h = let p = and_parts (nat_lt 0 n) (members_within (n - 1) ms) h in one_less n (members_depth ms) (above n p.0) (depth_of_members (n - 1) ms p.1)

  depth_of_items : (n : ℕ) (ds : Items) → items_within n ds ≡ true → items_depth ds ≤ n
  depth_of_items n no_items h = omega arith
  depth_of_items n (item d ds) h = let p = and_parts (is_nested_within n d) (items_within n ds) h in omega (arith, depth_of_within n d p.0, depth_of_items n ds p.1)

  depth_of_members : (n : ℕ) (ms : Members) → members_within n ms ≡ true → members_depth ms ≤ n
  depth_of_members n no_members h = omega arith
  depth_of_members n (member name d ms) h = let p = and_parts (is_nested_within n d) (members_within n ms) h in omega (arith, depth_of_within n d p.0, depth_of_members n ms p.1)

some_left : (n k : ℕ) → suc k ≤ n → nat_lt 0 n ≡ true
some_left n k h = grind (arith, nat_tests)

mutual
  pub within_of_depth : (n : ℕ) (d : Data) → depth d ≤ n → is_nested_within n d ≡ true
  within_of_depth n null h = refl
  within_of_depth n (boolean b) h = refl
  within_of_depth n (number x) h = refl
  within_of_depth n (string s) h = refl
  within_of_depth n (array ds) h = and_from (nat_lt 0 n) (items_within (n - 1) ds) (some_left n (items_depth ds) h) (within_of_items (n - 1) ds (omega (arith, h)))
  within_of_depth n (object ms) h = and_from (nat_lt 0 n) (members_within (n - 1) ms) (some_left n (members_depth ms) h) (within_of_members (n - 1) ms (omega (arith, h)))

  within_of_items : (n : ℕ) (ds : Items) → items_depth ds ≤ n → items_within n ds ≡ true
  within_of_items n no_items h = refl
  within_of_items n (item d ds) h = and_from (is_nested_within n d) (items_within n ds) (within_of_depth n d (omega (arith, h))) (within_of_items n ds (omega (arith, h)))

  within_of_members : (n : ℕ) (ms : Members) → members_depth ms ≤ n → members_within n ms ≡ true
  within_of_members n no_members h = refl
  within_of_members n (member name d ms) h = and_from (is_nested_within n d) (members_within n ms) (within_of_depth n d (omega (arith, h))) (within_of_members n ms (omega (arith, h)))
