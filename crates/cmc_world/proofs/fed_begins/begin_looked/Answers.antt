use Rattle.std.proofs.Common.{Option, sym, subst, ◌∙◌}
use Rattle.std.specs.Prelude.{IfSome}
use Rattle.cmc_pass.specs.declared.pass.Act.{Act}
use Rattle.cmc_rules.specs.Origins.{begun}
use Rattle.cmc_moves.specs.Prospects.{IsFirstAct}
use Rattle.cmc_kernel.specs.Kept.{on}
use Rattle.cmc_world.proofs.AtOnce.{first_act_where, only_does}
use Rattle.cmc_world.proofs.BeginsFed.{idle_now, looked_fits}
use Rattle.cmc_world.proofs.fed_begins.begin_looked.Goals as goal

pub found_on-requires-clause-idle : goal.found_on-requires-clause-idle
found_on-requires-clause-idle c nothing =
    idle_now c.args.kernel.now c.args.role c.args.key c.args.queues.now c.requires.fed c.requires.running c.requires.free (sym c.requires.work ∙ nothing)
    (looked_fits c.args.kernel.now c.args.role c.args.key c.args.queues.now c.args.work c.is_run.ensures.run c.requires.fed c.requires.running c.requires.free c.requires.looked c.requires.work).may.work

pub returns-in-Ok-clause-does : goal.returns-in-Ok-clause-does
returns-in-Ok-clause-does c =
    let mid = c.begin_seen.new.kernel in
    let first = on IsFirstAct mid (on begun mid) in
    subst (λ (a : Option Act). IfSome a (on IsFirstAct c.begin_seen.new.kernel (on begun c.begin_seen.new.kernel))) (sym c.only_if-does.ensures)
    (only_does first c.is_done.result c.in_ok-seen.does
    (λ done. first_act_where c.args.kernel.now mid c.args.role c.args.key c.in_ok-seen.does c.in-Ok.answer c.is_done.result c.in-Ok.ensures.scenario c.in_ok-seen.ensures.does c.in-Ok.ensures.leaves c.is_done.ensures done))
