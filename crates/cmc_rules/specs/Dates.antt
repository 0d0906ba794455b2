-- Moments that objects say: each lies in the years 1950 to 9999.
use Rattle.std.specs.Prelude.{ℤ, List, [], ◌∷◌, Option, Some, None}
use Rattle.cmc_meta.specs.declared.conditions.Condition.{Condition}
use Rattle.cmc_objects.specs.declared.certificate.Certificate.{Certificate}
use Rattle.cmc_objects.specs.declared.certificate.CertStatus.{CertStatus}
use Rattle.cmc_objects.specs.declared.request.RequestStatus.{RequestStatus}
use Rattle.cmc_objects.specs.declared.object.Object.{Object}
use Rattle.cmc_objects.specs.declared.object.Object.TheVariants.{Cert, Request, Secret}
use Rattle.cmc_policies.specs.Renewal.{IsCertificateTime}
use Rattle.cmc_pass.specs.declared.pass.Views.{Views}

-- the moment, where there is one, lies in these years
abbrev pub IsDatedOption : Option ℤ → Type 0
IsDatedOption None = Unit {0}
IsDatedOption (Some at) = IsCertificateTime at

-- the last transition of each condition does
abbrev pub AreDated : List Condition → Type 0
AreDated [] = Unit {0}
AreDated (c ∷ cs) = IsCertificateTime c.since × AreDated cs

-- each moment of a Certificate's status
pub record IsDatedStatus (status : CertStatus) : Type 0 where
  pub conditions : AreDated status.conditions
  pub last_failure : IsDatedOption status.last_failure
  pub not_before : IsDatedOption status.not_before
  pub not_after : IsDatedOption status.not_after
  pub renewal : IsDatedOption status.renewal

-- and of a request's
pub record IsDatedAnswer (status : RequestStatus) : Type 0 where
  pub conditions : AreDated status.conditions
  pub failure : IsDatedOption status.failure

-- each moment that the status of an object says, where the object stands
abbrev pub IsDated : Option Object → Type 0
IsDated (Some (Cert c)) = IsDatedStatus c.status
IsDated (Some (Request r)) = IsDatedAnswer r.status
IsDated (Some (Secret k)) = Unit {0}
IsDated None = Unit {0}

-- what is written at a moment of these years leaves it so
abbrev pub StaysDated : ℤ → Option Object → Option Object → Type 0
StaysDated now old new = IsCertificateTime now → IsDated old → IsDated new

-- ---- what the trigger asks of what it sees

abbrev pub IsDatedCertificate : Option Certificate → Type 0
IsDatedCertificate None = Unit {0}
IsDatedCertificate (Some c) = IsDatedOption c.status.last_failure

-- the last failure of the Certificate that is seen
abbrev pub HasDatedFailure : Views → Type 0
HasDatedFailure seen = IsDatedCertificate seen.certificate
