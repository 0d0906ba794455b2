-- What a role sees of a key.
use Rattle.std.specs.Prelude.{ℕ, Bool, false, ◌&&◌, ◌==◌, List, [], codes, Option, Some, None, filter_map, option_and_then, if◌then◌else◌}
use Rattle.std.specs.List.{list_any}
use Rattle.std.specs.FinMap as map
use Rattle.std.specs.Str.{bytes_eq}
use Rattle.cmc_meta.specs.declared.key.Key.{Key}
use Rattle.cmc_meta.specs.declared.key.Kind.TheVariants as kinds
use Rattle.cmc_meta.specs.declared.object_meta.ObjectMeta.{ObjectMeta}
use Rattle.cmc_meta.specs.PairLists.{text_by_key}
use Rattle.cmc_objects.specs.declared.certificate.Certificate.{Certificate}
use Rattle.cmc_objects.specs.declared.request.CertificateRequest.{CertificateRequest}
use Rattle.cmc_objects.specs.declared.secret.Secret.{Secret as SecretObject}
use Rattle.cmc_objects.specs.declared.object.Object.{Object}
use Rattle.cmc_objects.specs.declared.object.Object.TheVariants.{Cert, Request, Secret}
use Rattle.cmc_objects.specs.declared.role.Role.{Role}
use Rattle.cmc_objects.specs.declared.entry.Entry.{Entry}
use Rattle.cmc_pass.specs.declared.pass.Views.{Views}
use Rattle.cmc_model.specs.Objects.{Objects, object_at}
use Rattle.cmc_model.specs.Histories.{Setting, objects}
use Rattle.cmc_objects.specs.Informers.{works_on_requests, looks_at_secret, looks_at_next, looks_at_requests}
use Rattle.cmc_rules.specs.Positions.{cache}

-- what a role may look at: the objects of each kind
pub record Caches : Type 0 where
  pub certificates : Objects
  pub requests : Objects
  pub secrets : Objects

abbrev pub certificate_in : Object → Option Certificate
certificate_in (Cert c) = Some c
certificate_in (Request r) = None
certificate_in (Secret o) = None

abbrev pub request_in : Object → Option CertificateRequest
request_in (Cert c) = None
request_in (Request r) = Some r
request_in (Secret o) = None

abbrev pub secret_in : Object → Option SecretObject
secret_in (Cert c) = None
secret_in (Request r) = None
secret_in (Secret o) = Some o

abbrev pub certificate_at : Objects → Key → Option Certificate
certificate_at stored key = option_and_then certificate_in (object_at stored key)

abbrev pub request_at : Objects → Key → Option CertificateRequest
request_at stored key = option_and_then request_in (object_at stored key)

-- the Secret that the Certificate names for its key and its certificate
abbrev pub target_at : Objects → Certificate → Option SecretObject
target_at stored c = option_and_then secret_in (object_at stored (record { kind = kinds.Secret; namespace = c.meta.namespace; name = c.spec.secret_name }))

-- ownership is by uid
abbrev pub is_owned : Certificate → ObjectMeta → Bool
is_owned c m = bytes_eq m.namespace c.meta.namespace && list_any (λ owner. owner.uid == c.meta.uid) m.owners

abbrev pub is_text_true : Option (List ℕ) → Bool
is_text_true None = false
is_text_true (Some text) = bytes_eq text (codes "true")

-- the label of a Secret that holds a next private key
abbrev pub has_next_label : ObjectMeta → Bool
has_next_label m = is_text_true (text_by_key m.labels (codes "cert-manager.io/next-private-key"))

abbrev pub next_in : Certificate → Object → Option SecretObject
next_in c (Cert other) = None
next_in c (Request r) = None
next_in c (Secret o) = if has_next_label o.meta && is_owned c o.meta then Some o else None

abbrev pub owned_in : Certificate → Object → Option CertificateRequest
owned_in c (Cert other) = None
owned_in c (Request r) = if is_owned c r.meta then Some r else None
owned_in c (Secret o) = None

-- the Secrets with a next private key of the Certificate, and the CertificateRequests that it owns, in order of name
abbrev pub next_of : Objects → Certificate → List SecretObject
next_of stored c = filter_map (λ e. next_in c e.1) (map.entries stored)

abbrev pub requests_of : Objects → Certificate → List CertificateRequest
requests_of stored c = filter_map (λ e. owned_in c e.1) (map.entries stored)

abbrev pub of_certificate : {A : Type 0} → (Certificate → List A) → Option Certificate → List A
of_certificate f None = []
of_certificate f (Some c) = f c

-- the parts that the role looks at; the others are empty
unfoldable pub views_of : Role → Caches → Option Certificate → Option CertificateRequest → Views
views_of role c certificate request = record {
  certificate = certificate;
  secret = if looks_at_secret role then option_and_then (target_at c.secrets) certificate else None;
  next = if looks_at_next role then of_certificate (next_of c.secrets) certificate else [];
  requests = if looks_at_requests role then of_certificate (requests_of c.requests) certificate else [];
  request = request;
}

unfoldable pub views_in : Role → Caches → Key → Views
views_in role c key =
    views_of role c (if works_on_requests role then None else certificate_at c.certificates key) (if works_on_requests role then request_at c.requests key else None)

-- the objects as the role sees them
abbrev pub caches : Setting → List Entry → Role → Caches
caches s h role =
    record { certificates = cache s h role kinds.Certificate; requests = cache s h role kinds.CertificateRequest; secrets = cache s h role kinds.Secret }

-- what the role sees of the key
abbrev pub views : Setting → List Entry → Role → Key → Views
views s h role key = views_in role (caches s h role) key

-- what there is to see of the key
abbrev pub present_views : Setting → List Entry → Role → Key → Views
present_views s h role key = views_in role (record { certificates = objects s h; requests = objects s h; secrets = objects s h }) key
