use Rattle.std.proofs.Common.{Option, subst, sym, ap, ◌∙◌, rules, w64}
use Rattle.std.proofs.lemmas.Int.{to_z-of_z}
use Rattle.std.specs.Prelude.{IfSome}
use Rattle.cmc_meta.specs.declared.conditions.Condition.{Condition}
use Rattle.cmc_meta.specs.declared.conditions.ConditionKind.TheVariants.{Ready}
use Rattle.cmc_meta.specs.ConditionLists.{condition_at}
use Rattle.cmc_policies.specs.Renewal.{IsCertificateTime}
use Rattle.cmc_objects.specs.declared.request.RequestStatus.{RequestStatus}
use Rattle.cmc_rules.specs.Sound.{IsMinuteAfter}
use Rattle.cmc_world.specs.DueMoments.{IsFirstAfter}
use Rattle.cmc_rules.proofs.Dating.{dated_condition}
use Rattle.cmc_world.proofs.due.retry.Goals as goal

pub minute_after-requires : goal.minute_after-requires
minute_after-requires c =
    subst (λ (o : Option Condition). IfSome o (λ (condition : Condition). IsCertificateTime condition.since)) (sym (c.get.ensures ∙ ap (λ (status : RequestStatus). condition_at status.conditions Ready) c.deref.ensures))
    (dated_condition Ready c.args.request.now.status.conditions c.requires.conditions)

pub returns : goal.returns
returns c =
    subst (λ (o : Option Condition). IsFirstAfter c.args.now (IsMinuteAfter o) c.minute_after.result) (c.get.ensures ∙ ap (λ (status : RequestStatus). condition_at status.conditions Ready) c.deref.ensures)
    (rw (to_z-of_z w64 c.args.now (search rules)) at c.minute_after.ensures)
