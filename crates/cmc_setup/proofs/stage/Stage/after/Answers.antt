use Rattle.std.proofs.Common.{rules}
use Rattle.std.specs.Int.{w64}
use Rattle.std.proofs.lemmas.Int.{to_z-of_z}
use Rattle.cmc_setup.proofs.StageLaws.{kept}
use Rattle.cmc_setup.proofs.stage.Stage.after.Goals as goal

pub returns : goal.returns
returns c = λ before is. kept before c.args.step.now _ _ _ _ _ _ is.moment c.seconds_in.ensures (c.in_ok-running.ensures before.running is.running) (c.in_ok-held.ensures before.held is.held) (simp (to_z-of_z w64 c.args.self.moment (search rules)) at c.in_ok-moment.ensures) (to_z-of_z w64 c.in_ok-moment.moment (search rules))
