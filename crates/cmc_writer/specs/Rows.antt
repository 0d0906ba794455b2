-- The rows of an object, in byte order of their names.
use Rattle.std.specs.Prelude.{ℕ, List, [], ◌∷◌, Bool, true, false, Some, None}
use Rattle.std.specs.declared.option.Option.{Option}
use Rattle.serde_json.specs.Data.{Data, boolean, object, Members, no_members, member}
use Rattle.cmc_writer.specs.Additions.{Row}

-- The members of some rows.
abbrev pub built_row : List ℕ → Option Data → Members → Members
built_row name None ms = ms
built_row name (Some d) ms = member name d ms

abbrev pub built : List Row → Members
built [] = no_members
built (r ∷ rs) = built_row r.0 r.1 (built rs)

-- What a row holds that is left out where the list is empty, or where the flag is false.
abbrev pub list_row : {A : Type 0} → (List A → Data) → List A → Option Data
list_row tree [] = None
list_row tree (x ∷ xs) = Some (tree (x ∷ xs))

abbrev pub true_row : Bool → Option Data
true_row false = None
true_row true = Some (boolean true)

-- An object that is left out where it has no members.
abbrev pub object_row : Members → Option Data
object_row no_members = None
object_row (member name d ms) = Some (object (member name d ms))
