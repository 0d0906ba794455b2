-- The moments at which a role may come to have something to do without seeing anything new.
use Rattle.std.specs.Prelude.{◌≡◌, ℤ, true, false, int_le, Option, Some, None, if◌then◌else◌}
use Rattle.cmc_objects.specs.declared.request.CertificateRequest.{CertificateRequest as Request}
use Rattle.cmc_pass.specs.declared.pass.Views.{Views}
use Rattle.cmc_rules.specs.Dates.{HasDatedFailure, IsDatedAnswer}

-- the first moment after now of which P holds
abbrev pub IsFirstAfter : ℤ → (ℤ → Type 0) → Option ℤ → Type 0
IsFirstAfter now P None = (at : ℤ) → P at → int_le at now ≡ true
IsFirstAfter now P (Some first) = P first × (int_le first now ≡ false) × ((at : ℤ) → P at → int_le at now ≡ false → int_le first at ≡ true)

-- the sooner of two moments
abbrev pub sooner : Option ℤ → Option ℤ → Option ℤ
sooner None other = other
sooner (Some one) None = Some one
sooner (Some one) (Some other) = if int_le one other then Some one else Some other

-- the moments of what is seen lie in the years that can be written
abbrev pub IsDatedRequest : Option Request → Type 0
IsDatedRequest None = Unit {0}
IsDatedRequest (Some r) = IsDatedAnswer r.status

pub record HasDatedMoments (seen : Views) : Type 0 where
  pub failure : HasDatedFailure seen
  pub answer : IsDatedRequest seen.request
