use Rattle.std.proofs.Common.{◌≡◌, ◌+◌, ◌*◌, ◌/◌, ◌&&◌, ◌<◌, ◌≤◌, ℕ, Bool, true, false, refl, nat_lt, arith}
use Rattle.std.specs.Prelude.{if◌then◌else◌}
use Rattle.std.proofs.lemmas.Bool.Decides.{nat_tests}
use Rattle.std.proofs.Math.Nat.{mul-le-mul_right}
use Rattle.cmc_policies.specs.Renewal.{lead, third}
use Rattle.cmc_policies.specs.declared.renewal.Renew.{Renew}
use Rattle.cmc_policies.specs.declared.renewal.Renew.TheVariants.{Default, Before, Percent}
use Rattle.cmc_run_laws.proofs.issuance.lead_is_below_the_lifetime.Goals as goal

a_third : (life : ℕ) → 100 ≤ life → third life < life
a_third life long = grind (arith)

a_part : (part life : ℕ) → 100 ≤ life → part < 100 → (part * life + 99) / 100 < life
a_part part life long small = by_product (mul-le-mul_right life (at_most part small)) where
  at_most : (n : ℕ) → n < 100 → n ≤ 99
  at_most n is = grind (arith)

  by_product : part * life ≤ 99 * life → (part * life + 99) / 100 < life
  by_product is = grind (arith)

by_before : (b d : Bool) (seconds life : ℕ) → nat_lt 0 seconds ≡ b → nat_lt seconds life ≡ d → 100 ≤ life → (if b && d then seconds else third life) < life
by_before true true seconds life one two long = grind (arith, nat_tests)
by_before true false seconds life one two long = a_third life long
by_before false d seconds life one two long = a_third life long

by_percent : (b d : Bool) (part life : ℕ) → nat_lt 0 part ≡ b → nat_lt part 100 ≡ d → 100 ≤ life → (if b && d then (part * life + 99) / 100 else third life) < life
by_percent true true part life one two long = a_part part life long (grind (arith, nat_tests))
by_percent true false part life one two long = a_third life long
by_percent false d part life one two long = a_third life long

below : (life : ℕ) (renew : Renew) → 100 ≤ life → lead life renew < life
below life Default long = a_third life long
below life (Before seconds) long = by_before (nat_lt 0 seconds) (nat_lt seconds life) seconds life refl refl long
below life (Percent part) long = by_percent (nat_lt 0 part) (nat_lt part 100) part life refl refl long

pub returns : goal.returns
returns c = below
