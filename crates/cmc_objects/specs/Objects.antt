-- What every object has, and the empty statuses.
use Rattle.std.specs.Prelude.{ℕ, List, [], None}
use Rattle.cmc_meta.specs.declared.key.Kind.{Kind}
use Rattle.cmc_meta.specs.declared.key.Kind.TheVariants as kinds
use Rattle.cmc_meta.specs.declared.key.Key.{Key}
use Rattle.cmc_meta.specs.declared.object_meta.ObjectMeta.{ObjectMeta}
use Rattle.cmc_objects.specs.declared.certificate.CertStatus.{CertStatus}
use Rattle.cmc_objects.specs.declared.request.RequestStatus.{RequestStatus}
use Rattle.cmc_objects.specs.declared.object.Object.{Object}
use Rattle.cmc_objects.specs.declared.object.Object.TheVariants.{Cert, Request, Secret}

abbrev pub meta_of : Object → ObjectMeta
meta_of (Cert c) = c.meta
meta_of (Request r) = r.meta
meta_of (Secret s) = s.meta

abbrev pub kind_of : Object → Kind
kind_of (Cert c) = kinds.Certificate
kind_of (Request r) = kinds.CertificateRequest
kind_of (Secret s) = kinds.Secret

-- the key that an object exists under
abbrev pub key_of : Object → Key
key_of object = record { kind = kind_of object; namespace = (meta_of object).namespace; name = (meta_of object).name }

abbrev pub name_of : Object → List ℕ
name_of object = (meta_of object).name

abbrev pub version_of : Object → ℕ
version_of object = (meta_of object).version

abbrev pub numbered_meta : ℕ → ℕ → ObjectMeta → ObjectMeta
numbered_meta version generation m = record m { version = version; generation = generation }

-- the object under this version and this generation
unfoldable pub numbered : ℕ → ℕ → Object → Object
numbered version generation (Cert c) = Cert (record c { meta = numbered_meta version generation c.meta })
numbered version generation (Request r) = Request (record r { meta = numbered_meta version generation r.meta })
numbered version generation (Secret s) = Secret (record s { meta = numbered_meta version generation s.meta })

-- the status of a new Certificate
abbrev pub no_cert_status : CertStatus
no_cert_status = record { conditions = []; last_failure = None; attempts = None; not_before = None; not_after = None; renewal = None; revision = None; next_key = None }

-- the status of a new CertificateRequest
abbrev pub no_request_status : RequestStatus
no_request_status = record { conditions = []; certificate = []; ca = []; failure = None }
