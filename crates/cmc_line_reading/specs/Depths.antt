-- How deep a value nests, asked from the outside in.
use Rattle.std.specs.Prelude.{ℕ, ◌-◌, ◌&&◌, nat_lt, Bool, true}
use Rattle.serde_json.specs.Data.{Data, null, boolean, number, string, array, object, Items, no_items, item, Members, no_members, member}

-- Lists and objects nest at most so deep.
abbrev mutual
  pub is_nested_within : ℕ → Data → Bool
  is_nested_within most null = true
  is_nested_within most (boolean b) = true
  is_nested_within most (number n) = true
  is_nested_within most (string s) = true
  is_nested_within most (array ds) = nat_lt 0 most && items_within (most - 1) ds
  is_nested_within most (object ms) = nat_lt 0 most && members_within (most - 1) ms

  pub items_within : ℕ → Items → Bool
  items_within most no_items = true
  items_within most (item d ds) = is_nested_within most d && items_within most ds

  pub members_within : ℕ → Members → Bool
  members_within most no_members = true
  members_within most (member name d ms) = is_nested_within most d && members_within most ms
