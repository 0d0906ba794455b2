-- The rows of checks that say why a Certificate must be issued, and why it is not ready.
use Rattle.std.specs.Prelude.{List, [], ◌∷◌, Option}
use Rattle.cmc_objects.specs.declared.certificate.Certificate.{Certificate}
use Rattle.cmc_objects.specs.declared.request.CertificateRequest.{CertificateRequest}
use Rattle.cmc_objects.specs.declared.secret.Secret.{Secret}
use Rattle.cmc_policies.specs.declared.facts.Frame.{Frame}
use Rattle.cmc_policies.specs.declared.facts.Reason.{Reason}
use Rattle.cmc_policies.specs.declared.facts.Reason.TheVariants.{DoesNotExist, MissingData, InvalidKeyPair, IncorrectIssuer, IncorrectCertificate, SecretMismatch, RequestChanged, Renewing, Expired}
use Rattle.cmc_policies.specs.Reasons.{first_of}
use Rattle.cmc_match.specs.Facts.{known_for}

abbrev pub trigger_chain : List Reason
trigger_chain = DoesNotExist ∷ MissingData ∷ InvalidKeyPair ∷ IncorrectIssuer ∷ IncorrectCertificate ∷ SecretMismatch ∷ RequestChanged ∷ Renewing ∷ []

abbrev pub readiness_chain : List Reason
readiness_chain = DoesNotExist ∷ MissingData ∷ InvalidKeyPair ∷ SecretMismatch ∷ RequestChanged ∷ Expired ∷ []

-- why the Certificate must be issued, none where it need not be
abbrev pub trigger_reason : Frame → Certificate → Option Secret → List CertificateRequest → Option Reason
trigger_reason frame certificate secret requests = first_of trigger_chain frame (known_for certificate secret requests)

-- why the Certificate is not ready, none where it is
abbrev pub readiness_reason : Frame → Certificate → Option Secret → List CertificateRequest → Option Reason
readiness_reason frame certificate secret requests = first_of readiness_chain frame (known_for certificate secret requests)
