use Rattle.std.proofs.Common.{subst, sym}
use Rattle.serde_json.specs.View.{view}
use Rattle.cmc_report.specs.Text.{joined}
use Rattle.cmc_setup.specs.Setups.{Setup}
use Rattle.cmc_kernel.specs.Kept.{setting_of}
use Rattle.cmc_world.specs.declared.run.Driven.{Driven}
use Rattle.cmc_world.specs.Histories.{IsPlain}
use Rattle.cmc_world.specs.Turns.{IsDriven}
use Rattle.cmc_workers.specs.Drives.{Drives}
use Rattle.cmrun.specs.Headline.{RunsOn}
use Rattle.cmrun.proofs.top.run_of.Goals as goal

pub lines_of-requires-clause-plain : goal.lines_of-requires-clause-plain
lines_of-requires-clause-plain g c = λ none.
    let ends = subst (λ (d : Driven). IsDriven c.args.scenario d) c.in-Finished.is (c.in_ok-world.ensures.alone none) in
    subst (λ (u : Setup). IsPlain (setting_of u) c.in-Finished.world.history) (sym ends.same) ends.plain

pub returns-in-Finished-clause-ok : goal.returns-in-Finished-clause-ok
returns-in-Finished-clause-ok g c =
    let ends = subst (λ (d : Driven). Drives c.args.scenario d) c.in-Finished.is c.in_ok-world.ensures.ends in
    subst (λ (u : Setup). RunsOn c.args.workers c.args.alone (view c.args.value.now) u (joined c.in_ok-lines-in-Finished.lines)) ends.same c.in_ok-lines-in-Finished.ensures

pub returns-clause-err : goal.returns-clause-err
returns-clause-err g c =
    let ends = subst (λ (d : Driven). Drives c.args.scenario d) c.in-Spent.is c.in_ok-world.ensures.ends in
    record { history = c.in-Spent.field-0.history; plain = ends.plain; full = ends.comes }
