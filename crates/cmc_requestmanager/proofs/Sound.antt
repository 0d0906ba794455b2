-- The record of laws of the request manager.
use Rattle.std.proofs.Common.{◌≡◌, refl}
use Rattle.cmc_objects.specs.declared.role.Role.TheVariants.{RequestManager}
use Rattle.cmc_pass.specs.declared.pass.Views.{Views}
use Rattle.cmc_rules.specs.RequestManager.{request_manager, request_after}
use Rattle.cmc_rules.specs.Sound.{views_shown, IsSoundTable}
use Rattle.cmc_requestmanager.proofs.Table.{within, none}

told : (seen : Views) → request_manager seen ≡ request_manager (views_shown RequestManager seen)
unfolding request_manager
told seen = refl

pub request_manager_sound : IsSoundTable RequestManager (λ seen now desk. request_manager seen) request_after
request_manager_sound = record {
  within = λ seen now desk well. within seen now;
  told = λ seen now desk. told seen;
  absent = λ seen now desk is. none seen is.certificate;
  idle = λ seen t u d e rules quiet le is. is;
}
