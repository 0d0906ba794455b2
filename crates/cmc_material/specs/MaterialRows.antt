-- What a scenario says of keys and issuers.
use Rattle.std.specs.Prelude.{ℕ, List, [], ◌∷◌, codes, if◌then◌else◌, Ok, Err, Some, None}
use Rattle.std.specs.declared.option.Option.{Option}
use Rattle.std.specs.Str.{bytes_eq}
use Rattle.serde_json.specs.Data.{Data, null, boolean, number, string, array, object, Members, no_members, member}
use Rattle.cmc_meta.specs.declared.key.Key.{Key}
use Rattle.cmc_meta.specs.declared.key.Kind.TheVariants.{Certificate}
use Rattle.cmc_objects.specs.declared.rows.Rows.{Rows}
use Rattle.cmc_objects.specs.declared.rows.KeyRow.{KeyRow}
use Rattle.cmc_objects.specs.declared.rows.KeyRow.TheVariants.{Synthetic, Der}
use Rattle.cmc_objects.specs.declared.rows.SignRow.{SignRow}
use Rattle.cmc_objects.specs.declared.rows.SignRow.TheVariants.{Issue, Pending, Fail, Raw}
use Rattle.cmc_objects.specs.Materials.{with_rows_of}
use Rattle.cmc_cursor.specs.Members.{Read, ◌>>=◌, under, Field, fields_at, optional_at, required_at, at_end}
use Rattle.cmc_cursor.specs.Readers.{text_at, count_at, bytes_at}
use Rattle.cmc_cursor.specs.Readers.{passes, text_member}
use Rattle.cmc_material.specs.Keys.{key_of_kind}
use Rattle.cmc_material.specs.Lists.{numbered_at, list_at, member_or, member_option, bounded_at}

-- ---- keys

-- A number alone.
unfoldable pub synthetic_in : Option Data → List Field → Read KeyRow
synthetic_in None fs = at_end fs >>= (λ end. Err [])
synthetic_in (Some d) fs = do
  n ← under (codes "synthetic") (count_at d)
  end ← at_end fs
  Ok (Synthetic n)

-- A key file alone; without one, a number.
unfoldable pub key_row_in : Option Data → List Field → Read KeyRow
key_row_in None fs = do
  given ← optional_at (codes "synthetic") fs
  synthetic_in given.0 given.1
key_row_in (Some d) fs = do
  bytes ← under (codes "der") (bytes_at d)
  end ← at_end fs
  Ok (Der bytes)

-- The number of a stand-in key, or a key file: one of both.
unfoldable pub key_row_at : Data → Read KeyRow
key_row_at d = do
  fs ← fields_at d
  der ← optional_at (codes "der") fs
  key_row_in der.0 der.1

-- ---- issuers

-- A certificate is issued.
unfoldable pub issue_in : List Field → Read SignRow
issue_in fs = do
  first ← optional_at (codes "before") fs
  before ← member_or 0 (codes "before") (bounded_at 0 86400) first.0
  second ← optional_at (codes "ca") first.1
  ca ← member_or [] (codes "ca") bytes_at second.0
  third ← optional_at (codes "key") second.1
  key ← member_option (codes "key") count_at third.0
  word ← required_at (codes "reply") third.1
  fourth ← optional_at (codes "seconds") word.1
  seconds ← member_option (codes "seconds") (bounded_at 1 3153600000) fourth.0
  fifth ← optional_at (codes "serial") fourth.1
  serial ← member_option (codes "serial") count_at fifth.0
  end ← at_end fifth.1
  Ok (Issue seconds before serial key ca)

-- The issuer has not decided yet.
unfoldable pub pending_in : List Field → Read SignRow
pending_in fs = do
  word ← required_at (codes "reply") fs
  end ← at_end word.1
  Ok Pending

-- The issuer refuses.
unfoldable pub fail_in : List Field → Read SignRow
fail_in fs = do
  given ← optional_at (codes "message") fs
  message ← member_or (codes "The issuer refused") (codes "message") text_at given.0
  word ← required_at (codes "reply") given.1
  end ← at_end word.1
  Ok (Fail message)

-- The issuer answers these bytes.
unfoldable pub raw_in : List Field → Read SignRow
raw_in fs = do
  given ← required_at (codes "der") fs
  der ← under (codes "der") (bytes_at given.0)
  word ← required_at (codes "reply") given.1
  end ← at_end word.1
  Ok (Raw der)

-- No row has the word: it fails at `reply`, unless a member before that fails. The members that some row has before `reply` may
-- hold anything but a float.
unfoldable pub no_reply_in : List Field → Read SignRow
no_reply_in fs = do
  before ← optional_at (codes "before") fs
  first ← passes (codes "before") before.0
  ca ← optional_at (codes "ca") before.1
  second ← passes (codes "ca") ca.0
  der ← optional_at (codes "der") ca.1
  third ← passes (codes "der") der.0
  key ← optional_at (codes "key") der.1
  fourth ← passes (codes "key") key.0
  message ← optional_at (codes "message") key.1
  fifth ← passes (codes "message") message.0
  word ← required_at (codes "reply") message.1
  Err (codes "reply" ∷ [])

-- The word decides the form of the members.
abbrev pub reply_row_in : Option (List ℕ) → List Field → Read SignRow
reply_row_in None fs = no_reply_in fs
reply_row_in (Some word) fs = if bytes_eq word (codes "issue") then issue_in fs
    else (if bytes_eq word (codes "pending") then pending_in fs
    else (if bytes_eq word (codes "fail") then fail_in fs
    else (if bytes_eq word (codes "raw") then raw_in fs else no_reply_in fs)))

unfoldable pub reply_row_at : Data → Read SignRow
reply_row_at d = fields_at d >>= reply_row_in (text_member (codes "reply") d)

-- ---- rows by Certificate

abbrev pub key_rows_at : Data → Read (List KeyRow)
key_rows_at d = list_at (numbered_at key_row_at) d

abbrev pub reply_rows_at : Data → Read (List SignRow)
reply_rows_at d = list_at (numbered_at reply_row_at) d

-- The rows of one Certificate.
unfoldable pub rows_at : Data → Read Rows
rows_at d = do
  fs ← fields_at d
  first ← optional_at (codes "keys") fs
  keys ← member_or [] (codes "keys") key_rows_at first.0
  second ← optional_at (codes "replies") first.1
  replies ← member_or [] (codes "replies") reply_rows_at second.0
  end ← at_end second.1
  Ok (record { keys = keys; replies = replies })

-- A Certificate, written `namespace/name`.
abbrev pub certificate_key_at : Data → Read Key
certificate_key_at d = text_at d >>= key_of_kind Certificate

-- The member's name is a Certificate, and its value has the Certificate's rows.
unfoldable pub certificate_rows_at : List ℕ → Data → Read (Key × Rows)
certificate_rows_at name d = do
  certificate ← key_of_kind Certificate name
  rows ← rows_at d
  Ok (certificate, rows)

-- The material with the rows of each member, one after another.
abbrev pub material_with : List (Key × Rows) → Members → Read (List (Key × Rows))
material_with material no_members = Ok material
material_with material (member name d ms) = under name (certificate_rows_at name d) >>= (λ entry. material_with (with_rows_of material entry.0 entry.1) ms)

abbrev pub material_at : Data → Read (List (Key × Rows))
material_at (object ms) = material_with [] ms
material_at null = Err []
material_at (boolean b) = Err []
material_at (number n) = Err []
material_at (string s) = Err []
material_at (array ds) = Err []
