use Rattle.std.proofs.Common.{Option, sym, subst}
use Rattle.std.specs.Prelude.{IfSome}
use Rattle.cmc_meta.specs.declared.key.Key.{Key}
use Rattle.cmc_objects.specs.declared.role.Role.{Role}
use Rattle.cmc_pass.specs.declared.pass.Act.{Act}
use Rattle.cmc_pass.specs.declared.pass.Views.{Views}
use Rattle.cmc_kernel.specs.Kept.{setting_of}
use Rattle.cmc_world.specs.DueMoments.{HasDatedMoments}
use Rattle.cmc_world.specs.KeptLooks.{IsCurrent, IsMine}
use Rattle.cmc_world.specs.declared.openings.Opening.{Opening}
use Rattle.cmc_world.proofs.KeptActs.{found_does}
use Rattle.cmc_world.proofs.Undue.{dated_moments}
use Rattle.cmc_world.proofs.fed_begins.found_on.Goals as goal

pub returns-in-Some-clause-dated : goal.returns-in-Some-clause-dated
returns-in-Some-clause-dated c =
    let s = setting_of c.args.kernel.now.scenario in
    let h = c.args.kernel.now.history in
    let role = c.args.role in
    let key = c.args.key.now in
    let found = subst (λ (o : Option Opening). IfSome o (IsCurrent s h)) c.in-Some.is c.requires.found in
    let mine = subst (λ (o : Option Opening). IfSome o (IsMine role key)) c.in-Some.is c.requires.mine in
    subst (λ (t : Role × Key × Views × Option Act). HasDatedMoments t.2) (sym c.into_parts-role.ensures)
    (subst (λ (v : Views). HasDatedMoments v) (sym (found_does s h role key c.in-Some.opening found mine).0) (dated_moments s h role key c.is_formed.ensures c.is_run.ensures.run (c.can_act.ensures role key).dated))
