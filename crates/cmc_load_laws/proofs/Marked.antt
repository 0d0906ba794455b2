-- The measure falls where the issuer's controller marks a request as denied.
use Rattle.std.proofs.Common.{◌≡◌, ◌<◌, ℕ, ℤ, ◌∷◌, ◌++◌, Bool, true, false, refl, ◌∙◌}
use Rattle.std.specs.Prelude.{if◌then◌else◌, ◌&&◌, ◌||◌}
use Rattle.cmc_pass.specs.declared.pass.Act.{Act}
use Rattle.cmc_pass.specs.declared.pass.Act.TheVariants.{Nothing}
use Rattle.cmc_load_laws.specs.Measure.{acts}

marked_by : (denied known : Bool) (call other : Act) → denied ≡ true → known ≡ true → acts (if denied then (if known then Nothing else call) else other) ≡ false
marked_by denied known call other a b = rw (a, b) refl
