-- The form of an object that is read: its kind decides it.
use Rattle.std.specs.Prelude.{ℕ, List, [], ◌∷◌, ◌||◌, codes, Bool, if◌then◌else◌, Ok, Err, Some, None}
use Rattle.std.specs.declared.option.Option.{Option}
use Rattle.std.specs.Str.{bytes_eq}
use Rattle.serde_json.specs.Data.{Data}
use Rattle.cmc_objects.specs.Objects.{no_cert_status, no_request_status}
use Rattle.cmc_objects.specs.declared.object.Object.{Object}
use Rattle.cmc_objects.specs.declared.object.Object.TheVariants.{Cert, Request, Secret}
use Rattle.cmc_cursor.specs.Members.{Read, Check, ◌>>=◌, Field, fields_at, optional_at, required_at, at_end}
use Rattle.cmc_cursor.specs.Readers.{text_at, word_at, parts_at, passes, text_member}
use Rattle.cmc_codec.specs.Given.{next_member_or, needed_at}
use Rattle.cmc_codec.specs.MetadataForm.{head_at}
use Rattle.cmc_codec.specs.CertificateForm.{api_at, spec_at, api_request_spec_at}
use Rattle.cmc_codec.specs.declared.object_in.Applied.{Applied}

-- A status is dropped, and nothing comes after it.
abbrev pub status_last : List Field → Check
status_last fs = optional_at (codes "status") fs >>= (λ status. passes (codes "status") status.0 >>= (λ _. at_end status.1))

unfoldable pub applied_certificate_in : List Field → Read Applied
applied_certificate_in fs = do
  api ← needed_at api_at (codes "apiVersion") fs
  kind ← required_at (codes "kind") api.1
  head ← needed_at head_at (codes "metadata") kind.1
  spec ← needed_at (spec_at api.0) (codes "spec") head.1
  end ← status_last spec.1
  Ok (record { object = Cert (record { meta = head.0.meta; spec = spec.0; status = no_cert_status }); version = head.0.version })

unfoldable pub applied_request_in : List Field → Read Applied
applied_request_in fs = do
  api ← needed_at api_at (codes "apiVersion") fs
  kind ← required_at (codes "kind") api.1
  head ← needed_at head_at (codes "metadata") kind.1
  spec ← needed_at (api_request_spec_at api.0) (codes "spec") head.1
  end ← status_last spec.1
  Ok (record { object = Request (record { meta = head.0.meta; spec = spec.0; status = no_request_status }); version = head.0.version })

-- A Secret without a type is `Opaque`.
unfoldable pub applied_secret_in : List Field → Read Applied
applied_secret_in fs = do
  api ← needed_at (word_at (codes "v1")) (codes "apiVersion") fs
  parts ← next_member_or [] parts_at (codes "data") api.1
  kind ← required_at (codes "kind") parts.1
  head ← needed_at head_at (codes "metadata") kind.1
  status ← optional_at (codes "status") head.1
  dropped ← passes (codes "status") status.0
  kind_text ← next_member_or (codes "Opaque") text_at (codes "type") status.1
  end ← at_end kind_text.1
  Ok (record { object = Secret (record { meta = head.0.meta; kind_text = kind_text.0; parts = parts.0 }); version = head.0.version })

abbrev pub is_any_version : List ℕ → Bool
is_any_version t = bytes_eq t (codes "cert-manager.io/v1") || (bytes_eq t (codes "cert-manager.io/v1alpha2") || bytes_eq t (codes "v1"))

abbrev pub any_version_at : Data → Check
any_version_at d = text_at d >>= (λ t. if is_any_version t then Ok tt else Err [])

-- The members of an object of no known kind: the kind fails, unless a member before it does.
unfoldable pub stranger_in : List Field → Read Applied
stranger_in fs = do
  api ← needed_at any_version_at (codes "apiVersion") fs
  given ← optional_at (codes "data") api.1
  passed ← passes (codes "data") given.0
  kind ← required_at (codes "kind") given.1
  Err (codes "kind" ∷ [])

abbrev pub object_in : Option (List ℕ) → List Field → Read Applied
object_in None fs = stranger_in fs
object_in (Some kind) fs = if bytes_eq kind (codes "Certificate") then applied_certificate_in fs
    else (if bytes_eq kind (codes "CertificateRequest") then applied_request_in fs
    else (if bytes_eq kind (codes "Secret") then applied_secret_in fs else stranger_in fs))

-- An object and the resource version that it names. The member `kind` decides the form of the others.
unfoldable pub applied_at : Data → Read Applied
applied_at d = fields_at d >>= object_in (text_member (codes "kind") d)

-- The object alone.
abbrev pub object_read_at : Data → Read Object
object_read_at d = applied_at d >>= (λ applied. Ok applied.object)
