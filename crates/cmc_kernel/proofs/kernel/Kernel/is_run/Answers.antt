use Rattle.std.proofs.Common.{subst}
use Rattle.cmc_rules.specs.Rights.{KeepsRights}
use Rattle.cmc_rules.specs.Safety.{IsSafe}
use Rattle.cmc_rules.specs.Runs.{IsRun}
use Rattle.cmc_safety.specs.MayAct.{IsNeverInvalid}
use Rattle.cmc_safety.specs.Completion.{CompletesIssuing}
use Rattle.cmc_safety.specs.Invariants.{KeepsInvariants}
use Rattle.cmc_safety.proofs.Barred.{never_invalid}
use Rattle.cmc_safety.proofs.Completing.{completes}
use Rattle.cmc_safety.proofs.Rights.{keeps_rights}
use Rattle.cmc_safety.proofs.Safe.{safe}
use Rattle.cmc_safety.proofs.Standing.{in_order}
use Rattle.cmc_kernel.specs.Kept.{Seen, on}
use Rattle.cmc_moves.proofs.Sounds.{each_sound}
use Rattle.cmc_kernel.proofs.Said.{run_of}
use Rattle.cmc_kernel.proofs.kernel.Kernel.is_run.Goals as goal

pub returns-clause-run : goal.returns-clause-run
returns-clause-run c = subst (λ (v : Seen). on IsRun v) c.self.view_is (run_of _ _ _ c.self.invariant)

pub returns-clause-rights : goal.returns-clause-rights
returns-clause-rights c = subst (λ (v : Seen). on KeepsRights v) c.self.view_is (keeps_rights each_sound _ _ c.self.invariant.held.formed (run_of _ _ _ c.self.invariant))

pub returns-clause-safe : goal.returns-clause-safe
returns-clause-safe c =
    let run = c.self.invariant.held.run in
    subst (λ (v : Seen). on IsSafe v) c.self.view_is (safe each_sound _ _ c.self.invariant.held.formed run.legal run.caused run.follows)

pub returns-clause-valid : goal.returns-clause-valid
returns-clause-valid c =
    let run = c.self.invariant.held.run in
    subst (λ (v : Seen). IsNeverInvalid v.history) c.self.view_is (never_invalid each_sound _ _ run.legal run.caused)

pub returns-clause-complete : goal.returns-clause-complete
returns-clause-complete c =
    let run = c.self.invariant.held.run in
    subst (λ (v : Seen). on CompletesIssuing v) c.self.view_is (completes each_sound _ _ run.legal run.caused)

pub returns-clause-order : goal.returns-clause-order
returns-clause-order c =
    let run = c.self.invariant.held.run in
    subst (λ (v : Seen). on KeepsInvariants v) c.self.view_is (in_order each_sound _ _ c.self.invariant.held.formed run.legal run.caused run.follows)
