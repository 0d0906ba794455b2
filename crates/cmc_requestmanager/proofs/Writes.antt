-- Each call of the request manager keeps to its rights, and no rule refuses it.
use Rattle.std.proofs.Common.{◌≡◌, ℕ, ℤ, List, Some, refl, subst, inl, inr}
use Rattle.cmc_objects.specs.declared.certificate.Certificate.{Certificate}
use Rattle.cmc_objects.specs.declared.request.CertificateRequest.{CertificateRequest}
use Rattle.cmc_objects.specs.declared.secret.Secret.{Secret as SecretObject}
use Rattle.cmc_objects.specs.declared.object.Object.TheVariants.{Request}
use Rattle.cmc_objects.specs.declared.role.Role.TheVariants.{RequestManager}
use Rattle.cmc_pass.specs.declared.pass.Views.{Views}
use Rattle.cmc_pass.specs.declared.value.Value.{Value}
use Rattle.cmc_model.specs.Admission.{refusing_rule}
use Rattle.cmc_model.specs.Generated.{named}
use Rattle.cmc_model.specs.Stored.{created}
use Rattle.cmc_rules.specs.RevisionManager.{delete_call}
use Rattle.cmc_rules.specs.RequestManager.{request_spec, new_request, make_request, request_after}
use Rattle.cmc_rules.specs.SeenObjects.{IsAmong, OnSeen}
use Rattle.cmc_rules.specs.Sound.{IsOfCertificate, IsWriteAfterValue, IsWithin}
use Rattle.cmc_rules.proofs.Sights.{seen_owned}

-- the deletion of a request
pub dropping : (seen : Views) (now : ℤ) (r : CertificateRequest) → IsAmong r seen.requests → IsWithin RequestManager (request_after seen now) seen now (delete_call r)
unfolding delete_call OnSeen
dropping seen now r among = record {
  old = Request r;
  sees = seen_owned seen r among;
  key = refl;
  version = refl;
  changes = λ next. record {
    rights = inr tt;
    dated = λ timed dated. tt;
    revision = tt;
    no_secret = λ written issuing is. absurd (cc issuing);
    no_approval = λ o n approver b a x y. absurd (cc approver);
    no_request = λ made before after. absurd (cc before);
  };
  passes = λ taken. refl;
}

-- the create of a request
is_that : (a b : CertificateRequest) → Some (Request a) ≡ Some (Request b) → a ≡ b
is_that a b is = cc is

of_certificate : (seen : Views) (c : Certificate) (a made : CertificateRequest) → seen.certificate ≡ Some c → a.spec.issuer ≡ c.spec.issuer → a.spec.duration ≡ c.spec.duration
    → Some (Request a) ≡ Some (Request made) → IsOfCertificate seen made
of_certificate seen c a made sees issuer duration is =
    subst (IsOfCertificate seen) (is_that a made is) (record { certificate = c; sees = sees; issuer = issuer; duration = duration })

pub making : (seen : Views) (now : ℤ) (value : Value) (c : Certificate) (k : SecretObject) (request : List ℕ) → seen.certificate ≡ Some c
    → OnSeen (IsWriteAfterValue RequestManager seen now value) seen (make_request c k request)
unfolding make_request new_request request_spec created named refusing_rule OnSeen
making seen now value c k request sees = λ name. record {
  makes = λ next at. record {
    rights = inl tt;
    dated = λ timed dated. record { conditions = tt; failure = tt };
    revision = refl;
    no_secret = λ written issuing is. absurd (cc issuing);
    approval = λ o n approver b a x y. absurd (cc approver);
    made = λ made before after. of_certificate seen c _ made sees refl refl after;
  };
  passes = λ taken. refl;
}
