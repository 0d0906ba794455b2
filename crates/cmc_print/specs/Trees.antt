-- JSON trees that are printed.
use Rattle.std.specs.Prelude.{ℕ, List, [], ◌∷◌, ◌++◌, map}
use Rattle.serde_json.specs.Data.{Data, Members, number, unsigned}
use Rattle.serde_json.specs.View.{view, members_view}
use Rattle.serde_json.specs.Written.{compact_text}
use Rattle.cmc_print.specs.declared.tree.Tree.{Tree}
use Rattle.cmc_print.specs.declared.tree.Members.{Members as Built}
use Rattle.cmc_print.specs.declared.tree.Trees.{Trees}

-- A whole number.
abbrev pub natural : ℕ → Data
natural n = number (unsigned n)

-- A tree as one line: compact JSON and a line feed.
unfoldable pub line_of : Data → List ℕ
line_of d = compact_text d ++ 10 ∷ []

-- What a tree, members and a list of trees stand for.
abbrev pub data_of : Tree → Data
data_of t = view t.value

abbrev pub members_of : Built → Members
members_of m = members_view m.map.entries

abbrev pub items_in : Trees → List Data
items_in t = map view t.list.items
