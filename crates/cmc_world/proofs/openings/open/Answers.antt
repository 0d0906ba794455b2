use Rattle.std.proofs.Common.{◌≡◌, Option, true, sym, subst}
use Rattle.std.specs.Prelude.{IfSome}
use Rattle.cmc_meta.specs.declared.key.Key.{Key}
use Rattle.cmc_objects.specs.declared.role.Role.{Role}
use Rattle.cmc_pass.specs.declared.pass.Act.{Act}
use Rattle.cmc_pass.specs.declared.pass.Views.{Views}
use Rattle.cmc_model.specs.Histories.{moment}
use Rattle.cmc_rules.specs.Memory.{past}
use Rattle.cmc_rules.specs.Origins.{begun}
use Rattle.cmc_rules.specs.Positions.{positions}
use Rattle.cmc_rules.specs.Sameness.{IsDue}
use Rattle.cmc_moves.specs.Answers.{IsQueued, Leaves}
use Rattle.cmc_moves.specs.Prospects.{IsFirstAct}
use Rattle.cmc_moves.specs.declared.moves.Move.TheVariants as moves
use Rattle.cmc_kernel.specs.Kept.{setting_of}
use Rattle.cmc_world.specs.Openings.{LeavesNext}
use Rattle.cmc_world.proofs.AtOnce.{does_known, first_act_where, opened_both}
use Rattle.cmc_world.specs.DueMoments.{HasDatedMoments}
use Rattle.cmc_world.proofs.Undue.{dated_moments}
use Rattle.cmc_world.proofs.openings.open.Goals as goal

pub begin_due-requires-clause-due : goal.begin_due-requires-clause-due
begin_due-requires-clause-due c =
    let s = setting_of c.args.kernel.now.scenario in
    let h = c.args.kernel.now.history in
    let o = c.args.opening in
    subst (λ (t : Role × Key × Views × Option Act). IsDue (past s h t.0 t.1) t.2 (moment s h) (positions h t.0)) (sym c.into_parts-role.ensures)
    (subst (λ (v : Views). IsDue (past s h o.role o.key) v (moment s h) (positions h o.role)) (sym c.requires.work.known.seen) c.requires.work.work.may.due)

pub begin_due-requires-clause-queued : goal.begin_due-requires-clause-queued
begin_due-requires-clause-queued c =
    let s = setting_of c.args.kernel.now.scenario in
    let h = c.args.kernel.now.history in
    let o = c.args.opening in
    let work = c.requires.work.work in
    let queued : IsQueued s h o.role o.key = record { work = work.may.work; known = work.may.known; worth = λ quiet. work.busy quiet.idle } in
    subst (λ (t : Role × Key × Views × Option Act). IsQueued s h t.0 t.1) (sym c.into_parts-role.ensures) queued

pub act_if-requires-clause-first : goal.act_if-requires-clause-first
act_if-requires-clause-first c =
    let s = setting_of c.args.kernel.now.scenario in
    let h = c.args.kernel.now.history in
    let o = c.args.opening in
    let mid = c.begin_due.new.kernel in
    let leaves = subst (λ (t : Role × Key × Views × Option Act). Leaves s h (moves.Begin t.0 t.1) c.in-Ok.begin mid.history) c.into_parts-role.ensures c.in-Ok.ensures.leaves in
    subst (λ (t : Role × Key × Views × Option Act). c.is_done.result ≡ true → IfSome t.3 (IsFirstAct (setting_of mid.scenario) mid.history (begun (setting_of mid.scenario) mid.history))) (sym c.into_parts-role.ensures)
    (λ on. first_act_where c.args.kernel.now mid o.role o.key o.does c.in-Ok.begin c.is_done.result c.in-Ok.ensures.scenario (does_known s h o.role o.key o.does c.requires.work.known.does) leaves c.is_done.ensures on)

pub returns-in-Ok-act_if-clause-leaves : goal.returns-in-Ok-act_if-clause-leaves
returns-in-Ok-act_if-clause-leaves c =
    let s = setting_of c.args.kernel.now.scenario in
    let h = c.args.kernel.now.history in
    let o = c.args.opening in
    let mid = c.begin_due.new.kernel in
    let new = c.act_if.new.kernel in
    let leaves = subst (λ (t : Role × Key × Views × Option Act). Leaves s h (moves.Begin t.0 t.1) c.in-Ok.begin mid.history) c.into_parts-role.ensures c.in-Ok.ensures.leaves in
    let next = subst (λ (t : Role × Key × Views × Option Act). LeavesNext (setting_of mid.scenario) mid.history c.is_done.result t.3 c.in-Ok-act_if.first new.history) c.into_parts-role.ensures c.in-Ok-act_if.ensures.leaves in
    opened_both c.args.kernel.now mid new o.role o.key o.does c.in-Ok.begin c.is_done.result c.in-Ok-act_if.first c.in-Ok.ensures.scenario leaves c.is_done.ensures next

pub begin_due-requires-clause-dated : goal.begin_due-requires-clause-dated
begin_due-requires-clause-dated c =
    let s = setting_of c.args.kernel.now.scenario in
    let h = c.args.kernel.now.history in
    let o = c.args.opening in
    subst (λ (t : Role × Key × Views × Option Act). HasDatedMoments t.2) (sym c.into_parts-role.ensures)
    (subst (λ (v : Views). HasDatedMoments v) (sym c.requires.work.known.seen) (dated_moments s h o.role o.key c.is_formed.ensures c.is_run.ensures.run (c.can_act.ensures o.role o.key).dated))
