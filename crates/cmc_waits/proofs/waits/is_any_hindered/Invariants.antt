use Rattle.std.proofs.Common.{◌≡◌, false, take}
use Rattle.std.specs.List.{list_any}
use Rattle.cmc_kernel.specs.Kept.{setting_of}
use Rattle.cmc_waits.specs.Waits.{is_hindered}
use Rattle.cmc_waits.proofs.waits.is_any_hindered.Given as goal

abbrev pub invariant-loop-role : goal.invariant-loop-role
invariant-loop-role l = list_any (λ role. is_hindered (setting_of l.kernel.scenario) l.kernel.history role) (take l.role-index l.roles) ≡ false
