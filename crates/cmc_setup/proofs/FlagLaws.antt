-- Eight flags that are off.
use Rattle.std.proofs.Common.{◌≡◌, false, [], ◌∷◌, refl}
use Rattle.cmc_objects.specs.declared.role.Role.{Role}
use Rattle.cmc_objects.specs.declared.role.Role.TheVariants.{Trigger}
use Rattle.cmc_setup.specs.Flags.{is_on}

pub no_flag : (r : Role) → is_on (false ∷ false ∷ false ∷ false ∷ false ∷ false ∷ false ∷ false ∷ []) r ≡ false
unfolding is_on
no_flag Trigger = refl
no_flag other = refl
