-- What a scenario says of keys and issuers, as JSON.
use Rattle.std.specs.Prelude.{ℕ, List, [], ◌∷◌, ◌==◌, codes, map}
use Rattle.serde_json.specs.Data.{Data, string, array, object, Members, no_members, put}
use Rattle.serde_json.specs.View.{items_of}
use Rattle.cmc_meta.specs.declared.key.Key.{Key}
use Rattle.cmc_objects.specs.declared.rows.Rows.{Rows}
use Rattle.cmc_objects.specs.declared.rows.KeyRow.{KeyRow}
use Rattle.cmc_objects.specs.declared.rows.KeyRow.TheVariants as keys
use Rattle.cmc_objects.specs.declared.rows.SignRow.{SignRow}
use Rattle.cmc_objects.specs.declared.rows.SignRow.TheVariants as signs
use Rattle.cmc_print.specs.Trees.{natural}
use Rattle.cmc_print.specs.Puts.{put_option, put_list, base64_text}
use Rattle.cmc_print.specs.Words.{name_text}
use Rattle.cmc_scenario_print.specs.Defaults.{put_unless, is_usual_message}

-- ---- keys

-- A row that says nothing, or that may be any, has no members: no scenario that is read has it.
abbrev pub key_row_members : KeyRow → Members
key_row_members (keys.Synthetic number) = put (codes "synthetic") (natural number) no_members
key_row_members (keys.Der bytes) = put (codes "der") (base64_text bytes) no_members
key_row_members keys.Default = no_members
key_row_members keys.Free = no_members

abbrev pub key_row_tree : KeyRow → Data
key_row_tree row = object (key_row_members row)

abbrev pub key_rows_tree : List KeyRow → Data
key_rows_tree rows = array (items_of (map key_row_tree rows))

-- ---- issuers

unfoldable pub sign_row_members : SignRow → Members
sign_row_members (signs.Issue seconds before serial key ca) =
    put_option natural (codes "serial") serial
    (put_option natural (codes "seconds") seconds
    (put (codes "reply") (string (codes "issue"))
    (put_option natural (codes "key") key
    (put_list base64_text (codes "ca") ca
    (put_unless (before == 0) natural (codes "before") before no_members)))))
sign_row_members signs.Pending = put (codes "reply") (string (codes "pending")) no_members
sign_row_members (signs.Fail message) =
    put (codes "reply") (string (codes "fail"))
    (put_unless (is_usual_message message) string (codes "message") message no_members)
sign_row_members (signs.Raw der) = put (codes "reply") (string (codes "raw")) (put (codes "der") (base64_text der) no_members)
sign_row_members signs.Free = no_members

abbrev pub sign_row_tree : SignRow → Data
sign_row_tree row = object (sign_row_members row)

abbrev pub sign_rows_tree : List SignRow → Data
sign_rows_tree rows = array (items_of (map sign_row_tree rows))

-- ---- rows by Certificate

unfoldable pub rows_tree : Rows → Data
rows_tree rows = object
    (put_list sign_rows_tree (codes "replies") rows.replies
    (put_list key_rows_tree (codes "keys") rows.keys no_members))

-- The rows of each Certificate stand under `namespace/name`.
abbrev pub put_entries : List (Key × Rows) → Members → Members
put_entries [] ms = ms
put_entries (e ∷ es) ms = put_entries es (put (name_text e.0) (rows_tree e.1) ms)

abbrev pub material_tree : List (Key × Rows) → Data
material_tree material = object (put_entries material no_members)
