-- What printing rows and reading them make of each other.
use Rattle.std.specs.Prelude.{◌≡◌, List, [], ◌∷◌, Ok}
use Rattle.std.specs.List.{AllByRecursion}
use Rattle.std.specs.declared.cmp.Ordering.TheVariants.{Less}
use Rattle.base64.specs.GeneralPurpose.{IsBytes}
use Rattle.serde_json.specs.Data.{Data}
use Rattle.cmc_meta.specs.Keys.{key_cmp}
use Rattle.cmc_meta.specs.declared.key.Key.{Key}
use Rattle.cmc_objects.specs.declared.rows.Rows.{Rows}
use Rattle.cmc_objects.specs.declared.rows.KeyRow.{KeyRow}
use Rattle.cmc_objects.specs.declared.rows.KeyRow.TheVariants as keys
use Rattle.cmc_objects.specs.declared.rows.SignRow.{SignRow}
use Rattle.cmc_objects.specs.declared.rows.SignRow.TheVariants as signs
use Rattle.cmc_material.specs.MaterialRows.{material_at, reply_row_at, rows_at}
use Rattle.cmc_scenario_print.specs.RowTrees.{material_tree, sign_row_tree, rows_tree}

-- Where the row was read of some value, what is printed of it is read as the same row.
abbrev pub IsReplyReadAgain : SignRow → Type 0
IsReplyReadAgain row = (d : Data) → reply_row_at d ≡ Ok row → reply_row_at (sign_row_tree row) ≡ Ok row

-- The same of the rows of one Certificate.
abbrev pub AreReadAgain : Rows → Type 0
AreReadAgain rows = (d : Data) → rows_at d ≡ Ok rows → rows_at (rows_tree rows) ≡ Ok rows

-- The same of the rows of all Certificates, as `namespace/name` has them.
abbrev pub IsMaterialReadAgain : List (Key × Rows) → Type 0
IsMaterialReadAgain material = (d : Data) → material_at d ≡ Ok material → material_at (material_tree material) ≡ Ok material

-- ---- what is so of each row: octets are bytes

abbrev pub HasKeyBytes : KeyRow → Type 0
HasKeyBytes (keys.Der bytes) = IsBytes bytes
HasKeyBytes (keys.Synthetic number) = Unit {0}
HasKeyBytes keys.Default = Unit {0}
HasKeyBytes keys.Free = Unit {0}

abbrev pub HasReplyBytes : SignRow → Type 0
HasReplyBytes (signs.Issue seconds before serial key ca) = IsBytes ca
HasReplyBytes (signs.Raw der) = IsBytes der
HasReplyBytes signs.Pending = Unit {0}
HasReplyBytes (signs.Fail message) = Unit {0}
HasReplyBytes signs.Free = Unit {0}

abbrev pub HaveRowBytes : Rows → Type 0
HaveRowBytes rows = AllByRecursion HasKeyBytes rows.keys × AllByRecursion HasReplyBytes rows.replies

abbrev pub HasEntryBytes : Key × Rows → Type 0
HasEntryBytes entry = HaveRowBytes entry.1

-- The rows are in order of key, each key once.
abbrev pub AreInOrder : List (Key × Rows) → Type 0
AreInOrder [] = Unit {0}
AreInOrder (e ∷ es) = AllByRecursion (λ (f : Key × Rows). key_cmp e.0 f.0 ≡ Less) es × AreInOrder es
