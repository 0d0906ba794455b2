-- Which requests of a Certificate are kept (cert-manager.io/v1 `revisionHistoryLimit`).
use Rattle.std.specs.Prelude.{ℕ, Bool, ◌&&◌, nat_lt, is_some, List, [], ◌∷◌, length, filter, Option, Some, None, unwrap_or, if◌then◌else◌}
use Rattle.cmc_meta.specs.declared.conditions.ConditionKind.TheVariants.{Ready, Issuing}
use Rattle.cmc_objects.specs.declared.certificate.Certificate.{Certificate}
use Rattle.cmc_objects.specs.declared.request.CertificateRequest.{CertificateRequest}
use Rattle.cmc_objects.specs.declared.object.Object.TheVariants.{Request}
use Rattle.cmc_objects.specs.declared.call.Call.TheVariants.{Delete}
use Rattle.cmc_objects.specs.Objects.{key_of}
use Rattle.cmc_objects.specs.Requests.{is_stated}
use Rattle.cmc_match.specs.Revisions.{revision_of}
use Rattle.cmc_pass.specs.declared.pass.Views.{Views}
use Rattle.cmc_pass.specs.declared.pass.Act.{Act}
use Rattle.cmc_pass.specs.declared.pass.Act.TheVariants.{Nothing, Call as Calls}

-- a request that counts has a revision and is Ready
unfoldable pub counts : CertificateRequest → Bool
counts request = is_some (revision_of request) && is_stated Ready request.status.conditions

abbrev pub revision : CertificateRequest → ℕ
revision request = unwrap_or (revision_of request) 0

-- of a request and the oldest one before it, the one of less revision, the one before where they have the same
abbrev pub older_of : Option CertificateRequest → CertificateRequest → Option CertificateRequest
older_of None request = Some request
older_of (Some oldest) request = if nat_lt (revision request) (revision oldest) then Some request else Some oldest

-- of the requests, which stand in the order of their names, the one of least revision, of several the first
abbrev pub oldest_from : Option CertificateRequest → List CertificateRequest → Option CertificateRequest
oldest_from oldest [] = oldest
oldest_from oldest (request ∷ requests) = oldest_from (older_of oldest request) requests

unfoldable pub oldest_of : List CertificateRequest → Option CertificateRequest
oldest_of requests = oldest_from None requests

-- the deletion of the request at the version that was seen
unfoldable pub delete_call : CertificateRequest → Act
delete_call request = Calls (Delete (key_of (Request request)) (Some request.meta.version))

abbrev pub delete_of : Option CertificateRequest → Act
delete_of None = Nothing
delete_of (Some request) = delete_call request

-- above the limit the oldest one goes
abbrev pub above_limit : ℕ → List CertificateRequest → Act
above_limit limit requests = if nat_lt limit (length requests) then delete_of (oldest_of requests) else Nothing

abbrev pub by_limit : Option ℕ → List CertificateRequest → Act
by_limit None requests = Nothing
by_limit (Some limit) requests = above_limit limit (filter counts requests)

-- nothing goes while the Certificate is being issued, or where it sets no limit
abbrev pub revise_of : List CertificateRequest → Option Certificate → Act
revise_of requests None = Nothing
revise_of requests (Some c) = if is_stated Issuing c.status.conditions then Nothing else by_limit c.spec.history_limit requests

unfoldable pub revise : Views → Act
revise views = revise_of views.requests views.certificate
