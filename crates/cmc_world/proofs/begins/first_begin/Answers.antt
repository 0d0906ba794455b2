use Rattle.std.proofs.Common.{subst, arith, ◌≡◌, Option}
use Rattle.cmc_meta.specs.declared.key.Key.{Key}
use Rattle.cmc_kernel.specs.Kept.{setting_of}
use Rattle.cmc_world.specs.Searches.{HasNoneBefore, FitsSome, FindsKey}
use Rattle.cmc_world.proofs.Ordering.{begin_found, none_before_more, no_begin}
use Rattle.cmc_world.proofs.begins.first_begin.Goals as goal

pub returns-in-Some-clause-finds : goal.returns-in-Some-clause-finds
returns-in-Some-clause-finds c =
    begin_found (setting_of c.args.kernel.now.scenario) c.args.kernel.now.history c.role_in-role.result c.in-Some.key c.loop-place.place c.role_in-role.ensures c.loop-place.invariant.0
    (subst (λ (found : Option Key). FindsKey (setting_of c.args.kernel.now.scenario) c.args.kernel.now.history c.role_in-role.result found) c.in-Some.is c.in_ok-key.ensures.finds)

pub loop-place-preserved : goal.loop-place-preserved
loop-place-preserved c = (
  none_before_more (FitsSome (setting_of c.args.kernel.now.scenario) c.args.kernel.now.history) c.loop-place.place c.role_in-role.result c.role_in-role.ensures
      (subst (λ (found : Option Key). FindsKey (setting_of c.args.kernel.now.scenario) c.args.kernel.now.history c.role_in-role.result found) c.in_default.is c.in_ok-key.ensures.finds)
      c.loop-place.invariant.0,
  c.first_key.ensures.fed,
  c.first_key.ensures.kept,
)

pub returns-clause-finds : goal.returns-clause-finds
returns-clause-finds c =
    let all : c.loop-place.place ≡ 8 = omega arith in
    no_begin (setting_of c.args.kernel.now.scenario) c.args.kernel.now.history
    (subst (HasNoneBefore (FitsSome (setting_of c.args.kernel.now.scenario) c.args.kernel.now.history)) all c.loop-place.invariant.0)
