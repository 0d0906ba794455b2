-- Keys written as text: `Kind/namespace/name`.
use Rattle.std.specs.Prelude.{ℕ, List, [], ◌==◌, codes, length, Bool, if◌then◌else◌, Ok, Err}
use Rattle.std.specs.List.{position_or_len, before_first, after_first}
use Rattle.std.specs.Str.{bytes_eq}
use Rattle.serde_json.specs.Data.{Data}
use Rattle.cmc_meta.specs.declared.key.Kind.{Kind}
use Rattle.cmc_meta.specs.declared.key.Kind.TheVariants.{Certificate, CertificateRequest, Secret}
use Rattle.cmc_meta.specs.declared.key.Key.{Key}
use Rattle.cmc_cursor.specs.Members.{Read, ◌>>=◌}
use Rattle.cmc_cursor.specs.Readers.{text_at, name_in}

abbrev pub is_slash : ℕ → Bool
is_slash c = c == 47

-- The parts before and after the first slash, where there is one.
abbrev pub split_slash : List ℕ → Read (List ℕ × List ℕ)
split_slash t = if position_or_len is_slash t == length t then Err [] else Ok (before_first is_slash t, after_first is_slash t)

abbrev pub kind_in : List ℕ → Read Kind
kind_in t = if bytes_eq t (codes "Certificate") then Ok Certificate
    else (if bytes_eq t (codes "CertificateRequest") then Ok CertificateRequest
    else (if bytes_eq t (codes "Secret") then Ok Secret else Err []))

-- A namespace and a name, with a slash between them.
unfoldable pub key_of_kind : Kind → List ℕ → Read Key
key_of_kind kind t = do
  parts ← split_slash t
  namespace ← name_in parts.0
  name ← name_in parts.1
  Ok (record { kind = kind; namespace = namespace; name = name })

unfoldable pub key_of_text : List ℕ → Read Key
key_of_text t = do
  parts ← split_slash t
  kind ← kind_in parts.0
  key_of_kind kind parts.1

abbrev pub key_at : Data → Read Key
key_at d = text_at d >>= key_of_text
