-- The form of objects that are read with their status.
use Rattle.std.specs.Prelude.{[], ◌∷◌, codes, Ok, Err, Some, None}
use Rattle.std.specs.declared.option.Option.{Option}
use Rattle.serde_json.specs.Data.{Data}
use Rattle.serde_json.specs.Find.{get}
use Rattle.cmc_objects.specs.Objects.{no_cert_status, no_request_status}
use Rattle.cmc_objects.specs.declared.certificate.Certificate.{Certificate}
use Rattle.cmc_objects.specs.declared.request.CertificateRequest.{CertificateRequest}
use Rattle.cmc_objects.specs.declared.secret.Secret.{Secret as SecretObject}
use Rattle.cmc_objects.specs.declared.object.Object.{Object}
use Rattle.cmc_objects.specs.declared.object.Object.TheVariants.{Cert, Request, Secret}
use Rattle.cmc_cursor.specs.Members.{Read, ◌>>=◌}
use Rattle.cmc_codec.specs.Given.{given_or}
use Rattle.cmc_codec.specs.ObjectForm.{object_read_at}
use Rattle.cmc_status_form.specs.StatusForm.{cert_status_at, request_status_at}

-- The Certificate with the status that the member holds, where one exists.
abbrev pub cert_with : Certificate → Option Data → Read Object
cert_with c given = given_or no_cert_status cert_status_at (codes "status") given >>= (λ s. Ok (Cert (record c { status = s })))

abbrev pub request_with : CertificateRequest → Option Data → Read Object
request_with r given = given_or no_request_status request_status_at (codes "status") given >>= (λ s. Ok (Request (record r { status = s })))

-- A Secret has no status: the member fails at its name.
abbrev pub secret_with : SecretObject → Option Data → Read Object
secret_with s None = Ok (Secret s)
secret_with s (Some d) = Err (codes "status" ∷ [])

abbrev pub with_status_read : Option Data → Object → Read Object
with_status_read given (Cert c) = cert_with c given
with_status_read given (Request r) = request_with r given
with_status_read given (Secret s) = secret_with s given

-- The object that is read without its status, and then the status.
unfoldable pub whole_object_at : Data → Read Object
whole_object_at d = object_read_at d >>= with_status_read (get (codes "status") d)
