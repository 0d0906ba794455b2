use Rattle.cmc_audit.specs.Answers.{AnswersAudit}
use Rattle.cmrun.specs.Statuses.{RefusesHistory, history_limit}
use Rattle.cmrun.proofs.Telling.{of_histories, told_cause}
use Rattle.cmrun.proofs.auditing.run_audit.Goals as goal

pub returns-in-Err-clause-told : goal.returns-in-Err-clause-told
returns-in-Err-clause-told g c =
    told_cause history_limit AnswersAudit RefusesHistory c.in-Err.status c.in-Ok.bytes.items _ _ _ of_histories c.in-Ok.ensures.content c.in-Ok.ensures.end (rw c.as_slice.ensures.value at c.in-Err.ensures.err) c.in-Ok.ensures.short
