-- The record of laws of the approver.
use Rattle.std.proofs.Common.{◌≡◌, refl}
use Rattle.cmc_objects.specs.declared.role.Role.TheVariants.{Approver}
use Rattle.cmc_pass.specs.declared.pass.Views.{Views}
use Rattle.cmc_pass.specs.declared.pass.Desk.{Desk}
use Rattle.cmc_rules.specs.Approver.{approver, judged_after}
use Rattle.cmc_rules.specs.Sound.{views_shown, IsSoundTable}
use Rattle.cmc_approver.proofs.Table.{within, stays, none}

told : (seen : Views) (desk : Desk) → approver seen desk ≡ approver (views_shown Approver seen) desk
unfolding approver
told seen desk = refl

pub approver_sound : IsSoundTable Approver (λ seen now desk. approver seen desk) judged_after
approver_sound = record {
  within = within;
  told = λ seen now desk. told seen desk;
  absent = λ seen now desk is. none seen desk is.request;
  idle = λ seen t u d e rules quiet le is. stays seen d e rules is;
}
