-- What printing a key and reading it make of each other.
use Rattle.std.specs.Prelude.{◌≡◌, Ok}
use Rattle.serde_json.specs.Data.{Data, string}
use Rattle.cmc_meta.specs.declared.key.Key.{Key}
use Rattle.cmc_print.specs.Words.{key_text, name_text}
use Rattle.cmc_material.specs.Keys.{key_at}
use Rattle.cmc_material.specs.MaterialRows.{certificate_key_at}

-- Where the key was read of some value, `Kind/namespace/name` is read as the same key.
abbrev pub IsKeyReadAgain : Key → Type 0
IsKeyReadAgain key = (d : Data) → key_at d ≡ Ok key → key_at (string (key_text key)) ≡ Ok key

-- The same of a Certificate's key and `namespace/name`.
abbrev pub IsCertificateReadAgain : Key → Type 0
IsCertificateReadAgain key = (d : Data) → certificate_key_at d ≡ Ok key → certificate_key_at (string (name_text key)) ≡ Ok key
