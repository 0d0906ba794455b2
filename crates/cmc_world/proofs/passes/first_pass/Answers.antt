use Rattle.std.proofs.Common.{◌≡◌, ℕ, List, subst, sym}
use Rattle.cmc_rules.specs.declared.progress.OpenPass.{OpenPass}
use Rattle.cmc_rules.specs.Passes.{open_pass}
use Rattle.cmc_held.specs.Open.{pass_at}
use Rattle.cmc_kernel.specs.Kept.{setting_of}
use Rattle.cmc_world.proofs.Passing.{first_pass_is, no_pass, nothing_in}
use Rattle.cmc_world.proofs.passes.first_pass.Goals as goal

pub returns-in-Some : goal.returns-in-Some
returns-in-Some c =
    let s = setting_of c.args.kernel.now.scenario in
    let h = c.args.kernel.now.history in
    first_pass_is s h c.by_number.result.now.entries c.in-Some.number.now c.incarnation.result c.in-Some.pass.now
    (λ m. subst (λ (es : List (ℕ × OpenPass)). pass_at es m ≡ open_pass s h m) (sym c.by_number.ensures) (c.passes.ensures m))
    c.in-Some.ensures.first c.in-Some.ensures.all_from c.incarnation.ensures

pub returns-in-None : goal.returns-in-None
returns-in-None c =
    let s = setting_of c.args.kernel.now.scenario in
    let h = c.args.kernel.now.history in
    no_pass s h c.by_number.result.now.entries
    (λ m. subst (λ (es : List (ℕ × OpenPass)). pass_at es m ≡ open_pass s h m) (sym c.by_number.ensures) (c.passes.ensures m))
    (nothing_in c.by_number.result.now.entries c.first_key_value.result c.in-None.is c.first_key_value.ensures.variant)
