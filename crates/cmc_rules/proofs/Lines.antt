-- The lines of a table: what holds of each branch holds of the whole.
use Rattle.std.proofs.Common.{◌≡◌, Bool, true, false, refl}
use Rattle.std.specs.Prelude.{if◌then◌else◌}
use Rattle.cmc_pass.specs.declared.pass.Act.{Act}

-- of an act
pub by_test : (P : Act → Type 0) (b : Bool) (one other : Act) → (b ≡ true → P one) → (b ≡ false → P other) → P (if b then one else other)
by_test P true one other f g = f refl
by_test P false one other f g = g refl

-- of the acts on the same views at two moments or desks
pub by_both : (R : Act → Act → Type 0) (b : Bool) (one other one_then other_then : Act) → (b ≡ true → R one one_then) → (b ≡ false → R other other_then) → R (if b then one else other) (if b then one_then else other_then)
by_both R true one other one_then other_then f g = f refl
by_both R false one other one_then other_then f g = g refl
