use Rattle.std.proofs.Common.{sym, ap, ◌∙◌}
use Rattle.cmc_meta.specs.declared.conditions.ConditionKind.TheVariants as conditions
use Rattle.cmc_meta.specs.ConditionLists.{condition_at}
use Rattle.cmc_objects.specs.declared.request.RequestStatus.{RequestStatus}
use Rattle.cmc_audit_clauses.proofs.Reading.{issued_some, issued_none}
use Rattle.cmc_audit_clauses.proofs.written.is_issued.Goals as goal

pub returns-in-Some : goal.returns-in-Some
returns-in-Some c =
    issued_some c.args.request.now c.in-Some.ready.now c.says_issued.result (ap (λ (s : RequestStatus). condition_at s.conditions conditions.Ready) (sym c.deref.ensures) ∙ sym c.in-Some.ensures) c.says_issued.ensures

pub returns-in-None : goal.returns-in-None
returns-in-None c = issued_none c.args.request.now (ap (λ (s : RequestStatus). condition_at s.conditions conditions.Ready) (sym c.deref.ensures) ∙ sym c.in-None.ensures)
