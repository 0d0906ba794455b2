-- What is left after an issuance.
use Rattle.std.specs.Prelude.{◌≡◌, ℕ, ℤ, true, Option, Some, None, int_lt}
use Rattle.cmc_objects.specs.declared.certificate.Certificate.{Certificate}
use Rattle.cmc_objects.specs.declared.certificate.CertStatus.{CertStatus}
use Rattle.cmc_objects.specs.declared.secret.Secret.{Secret as SecretObject}
use Rattle.cmc_objects.specs.declared.object.Object.TheVariants.{Secret}
use Rattle.cmc_objects.specs.declared.call.Call.{Call}
use Rattle.cmc_objects.specs.declared.call.Call.TheVariants.{Create, Update}
use Rattle.cmc_objects.specs.KeyPairs.{begins, ends}
use Rattle.cmc_policies.specs.Renewal.{renewal}
use Rattle.cmc_match.specs.Facts.{pair_in}
use Rattle.cmc_pass.specs.declared.pass.Views.{Views}
use Rattle.cmc_rules.specs.Trigger.{frame_of}

-- the Certificate with this status, at its new version
abbrev pub certificate_restated : ℕ → CertStatus → Certificate → Certificate
certificate_restated version status c = record c { meta = record c.meta { version = version }; status = status }

-- the same views, but for the Certificate, or for its Secret too
abbrev pub with_certificate : Certificate → Views → Views
with_certificate c seen = record seen { certificate = Some c }

abbrev pub with_secret : SecretObject → Views → Views
with_secret k seen = record seen { secret = Some k }

-- the Secret that a call makes or updates
abbrev pub written_secret : Call → Option SecretObject
written_secret (Create (Secret k) generate) = Some k
written_secret (Update (Secret k) version) = Some k
written_secret other = None

-- The Secret has the annotations and the data that the call writes.
pub record IsAsWritten (call : Call) (k : SecretObject) : Type 0 where
  pub new : SecretObject
  pub writes : written_secret call ≡ Some new
  pub annotations : k.meta.annotations ≡ new.meta.annotations
  pub parts : k.parts ≡ new.parts

-- its certificate is not due for renewal
abbrev pub IsNotDue : ℤ → Certificate → SecretObject → Type 0
IsNotDue now c k = int_lt now (renewal (begins (pair_in k)) (ends (pair_in k)) (frame_of now c).renew) ≡ true
