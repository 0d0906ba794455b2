use Rattle.std.proofs.Common.{subst}
use Rattle.std.proofs.lemmas.Result.{IfOk-weaker}
use Rattle.cmc_kernel.specs.Kept.{Seen}
use Rattle.cmc_world.specs.Turns.{IsDrained}
use Rattle.cmc_world.proofs.Turns.{driven_by}
use Rattle.cmc_world.proofs.run.drive_plain.Goals as goal

pub returns : goal.returns
returns g c =
    IfOk-weaker c.drain.result _ _ (λ d drained. driven_by c.args.scenario d (subst (λ (w : Seen). IsDrained w d) c.in_ok-world.ensures drained)) c.drain.ensures
