-- What a drain leaves of the world that threads gave back, and what a run by one hand comes to.
use Rattle.std.proofs.Common.{◌≡◌, ◌∙◌, sym, subst, IfOk, Result}
use Rattle.std.proofs.lemmas.Result.{IfOk-weaker}
use Rattle.std.specs.declared.alloc.AllocError.{AllocError}
use Rattle.cmc_rules.specs.Runs.{IsFinished}
use Rattle.cmc_setup.specs.Setups.{Setup}
use Rattle.cmc_kernel.specs.Kept.{Seen, setting_of}
use Rattle.cmc_world.specs.declared.run.Driven.{Driven}
use Rattle.cmc_world.specs.declared.run.Driven.TheVariants.{Finished, Spent}
use Rattle.cmc_world.specs.Turns.{IsDrained, IsDriven}
use Rattle.cmc_workers.specs.Drives.{Drives, IsFinishedOn}

-- a finished world that is one of the scenario
pub finished_on : (setup : Setup) (start kernel : Seen) (d : Driven) → IsDrained start d → d ≡ Finished kernel → kernel.scenario ≡ setup → IsFinishedOn setup kernel
finished_on setup start kernel d drained is same =
    let e = subst (IsDrained start) is drained in
    record { same = same; finished = subst (λ (u : Setup). IsFinished (setting_of u) kernel.history) (sym e.same ∙ same) e.comes }

by_end : (setup : Setup) (d : Driven) → IsDriven setup d → Drives setup d
by_end setup (Finished kernel) e = record { same = e.same; finished = e.comes }
by_end setup (Spent kernel) e = e

-- a run by the plain order is one of those that threads may come to
pub driven_drives : (setup : Setup) (r : Result Driven AllocError) → IfOk r (λ d. IsDriven setup d) → IfOk r (λ d. Drives setup d)
driven_drives setup r driven = IfOk-weaker r _ _ (λ d is. by_end setup d is) driven
