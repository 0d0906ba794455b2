use Rattle.std.proofs.Common.{ℕ, ◌≤◌, ◌<◌, ◌^◌, arith}
use Rattle.cmc_load_ends.proofs.LinearLength.{linear_length}
use Rattle.cmc_load_ends.proofs.loads.load_length_is_linear.Goals as goal

small : (n : ℕ) → n ≤ 250000 → n < 2 ^ 64
small n low = omega (arith, low)

pub returns : goal.returns
returns c = λ s h formed load plain. linear_length c.generated_names_are_free.ensures s h formed load (small s.events formed.short) plain
