-- The record of laws of issuing.
use Rattle.std.proofs.Common.{◌≡◌, ℤ, None, refl}
use Rattle.cmc_objects.specs.declared.role.Role.TheVariants.{Issuing}
use Rattle.cmc_pass.specs.declared.pass.Views.{Views}
use Rattle.cmc_rules.specs.Issuance.{issuing}
use Rattle.cmc_rules.specs.Sound.{views_shown, IsSoundTable}
use Rattle.cmc_issuing.proofs.Table.{within}
use Rattle.cmc_issuing.proofs.Staying.{stays, none}

told : (seen : Views) (now : ℤ) → issuing seen now ≡ issuing (views_shown Issuing seen) now
unfolding issuing
told seen now = refl

-- it asks nothing, so no call follows a value
pub issuing_sound : IsSoundTable Issuing (λ seen now desk. issuing seen now) (λ seen now order value. None)
issuing_sound = record {
  within = λ seen now desk well. within (λ order value. None) seen now well;
  told = λ seen now desk. told seen now;
  absent = λ seen now desk is. none seen now is.certificate;
  idle = λ seen t u d e rules quiet le is. stays seen t u le is;
}
