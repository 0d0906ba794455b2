-- The record of laws of the key manager.
use Rattle.std.proofs.Common.{◌≡◌, ℤ, refl}
use Rattle.cmc_objects.specs.declared.role.Role.TheVariants.{KeyManager}
use Rattle.cmc_pass.specs.declared.pass.Views.{Views}
use Rattle.cmc_pass.specs.declared.pass.Desk.{Desk}
use Rattle.cmc_rules.specs.KeyManager.{key_manager, key_after}
use Rattle.cmc_rules.specs.Sound.{views_shown, IsSoundTable}
use Rattle.cmc_keymanager.proofs.Table.{within, stays, none}

told : (seen : Views) (desk : Desk) → key_manager seen desk ≡ key_manager (views_shown KeyManager seen) desk
unfolding key_manager
told seen desk = refl

pub key_manager_sound : IsSoundTable KeyManager (λ seen now desk. key_manager seen desk) key_after
key_manager_sound = record {
  within = within;
  told = λ seen now desk. told seen desk;
  absent = λ seen now desk is. none seen desk is.certificate;
  idle = λ seen t u d e rules quiet le is. stays seen d e is;
}
