-- The record of laws of the issuer.
use Rattle.std.proofs.Common.{◌≡◌, ℤ, refl}
use Rattle.cmc_objects.specs.declared.role.Role.TheVariants.{Issuer}
use Rattle.cmc_pass.specs.declared.pass.Views.{Views}
use Rattle.cmc_pass.specs.declared.pass.Desk.{Desk}
use Rattle.cmc_rules.specs.Issuer.{issuer, answered_after}
use Rattle.cmc_rules.specs.Sound.{views_shown, IsSoundTable}
use Rattle.cmc_issuer.proofs.Table.{within, stays, none}

told : (seen : Views) (now : ℤ) (desk : Desk) → issuer seen now desk ≡ issuer (views_shown Issuer seen) now desk
unfolding issuer
told seen now desk = refl

pub issuer_sound : IsSoundTable Issuer issuer answered_after
issuer_sound = record {
  within = within;
  told = told;
  absent = λ seen now desk is. none seen now desk is.request;
  idle = λ seen t u d e rules quiet le is. stays seen t u d e quiet is;
}
