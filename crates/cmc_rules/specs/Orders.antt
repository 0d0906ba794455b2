-- The rows of a scenario that answer the questions about a Certificate, by the numbers of the questions.
use Rattle.std.specs.Prelude.{ℕ, List, [], ◌∷◌, Option, Some, None, slice_get, unwrap_or}
use Rattle.cmc_meta.specs.declared.key.Key.{Key}
use Rattle.cmc_objects.specs.declared.rows.Rows.{Rows}
use Rattle.cmc_objects.specs.declared.rows.KeyRow.{KeyRow}
use Rattle.cmc_objects.specs.declared.rows.KeyRow.TheVariants.{Default}
use Rattle.cmc_objects.specs.declared.rows.SignRow.{SignRow}
use Rattle.cmc_objects.specs.declared.rows.SignRow.TheVariants.{Issue}
use Rattle.cmc_objects.specs.Materials.{rows_under}

-- The row in that place, counted from 0, is for the question before which that many were asked; past the end the default holds.
abbrev pub key_row_for : Option Rows → ℕ → KeyRow
key_row_for None asked = Default
key_row_for (Some rows) asked = unwrap_or (slice_get rows.keys asked) Default

unfoldable pub key_row : List (Key × Rows) → Key → ℕ → KeyRow
key_row material certificate asked = key_row_for (rows_under material certificate) asked

-- a certificate of the duration that the request asks for, and no CA's
abbrev pub default_row : SignRow
default_row = Issue None 0 None None []

abbrev pub last_or : SignRow → List SignRow → SignRow
last_or row [] = row
last_or row (next ∷ rows) = last_or next rows

-- past the end the last row holds, and where there is none the default one
abbrev pub reply_row_for : Option Rows → ℕ → SignRow
reply_row_for None asked = default_row
reply_row_for (Some rows) asked = unwrap_or (slice_get rows.replies asked) (last_or default_row rows.replies)

unfoldable pub reply_row : List (Key × Rows) → Key → ℕ → SignRow
reply_row material certificate asked = reply_row_for (rows_under material certificate) asked
