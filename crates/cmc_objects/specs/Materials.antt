-- The rows of Certificates, in order of key.
use Rattle.std.specs.Prelude.{List, Option}
use Rattle.std.specs.Map.{lookup, remove_entry}
use Rattle.std.specs.BTreeMap.{insert_entry, is_at}
use Rattle.cmc_meta.specs.declared.key.Key.{Key}
use Rattle.cmc_meta.specs.Keys.{key_cmp}
use Rattle.cmc_objects.specs.declared.rows.Rows.{Rows}

-- the rows of the Certificate
abbrev pub rows_under : List (Key × Rows) → Key → Option Rows
rows_under material certificate = lookup (is_at (key_cmp certificate)) material

-- the material with these rows of the Certificate
abbrev pub with_rows_of : List (Key × Rows) → Key → Rows → List (Key × Rows)
with_rows_of material certificate rows = insert_entry key_cmp material certificate rows

-- the material but that of the Certificate
abbrev pub without_rows : List (Key × Rows) → Key → List (Key × Rows)
without_rows material certificate = remove_entry (is_at (key_cmp certificate)) material
