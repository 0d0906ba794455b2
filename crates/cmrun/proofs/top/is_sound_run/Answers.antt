use Rattle.std.proofs.Common.{subst}
use Rattle.cmc_rules.specs.Runs.{IsRun}
use Rattle.cmc_rules.specs.Safety.{IsSafe}
use Rattle.cmc_safety.specs.Completion.{CompletesIssuing}
use Rattle.cmc_safety.specs.Invariants.{KeepsInvariants}
use Rattle.cmc_audit_laws.specs.AuditedYes.{IsAuditedYes}
use Rattle.cmc_kernel.specs.Kept.{Seen, on}
use Rattle.cmrun.proofs.top.is_sound_run.Goals as goal

pub returns-clause-run : goal.returns-clause-run
returns-clause-run c = subst (λ (v : Seen). on IsRun v) c.kernel-kernel.ensures c.is_run.ensures.run

pub returns-clause-safe : goal.returns-clause-safe
returns-clause-safe c = subst (λ (v : Seen). on IsSafe v) c.kernel-kernel.ensures c.is_run.ensures.safe

pub returns-clause-complete : goal.returns-clause-complete
returns-clause-complete c = subst (λ (v : Seen). on CompletesIssuing v) c.kernel-kernel.ensures c.is_run.ensures.complete

pub returns-clause-order : goal.returns-clause-order
returns-clause-order c = subst (λ (v : Seen). on KeepsInvariants v) c.kernel-kernel.ensures c.is_run.ensures.order

pub returns-clause-audited : goal.returns-clause-audited
returns-clause-audited c = subst (λ (v : Seen). on IsAuditedYes v) c.kernel-kernel.ensures c.each_world_is_audited_yes.ensures
