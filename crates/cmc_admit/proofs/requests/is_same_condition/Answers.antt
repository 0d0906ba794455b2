use Rattle.std.specs.Bool.{one_answer}
use Rattle.cmc_model.proofs.Admission.{condition_eq-Decides}
use Rattle.cmc_admit.proofs.requests.is_same_condition.Goals as goal

pub returns : goal.returns
returns c = one_answer _ _ c.same.ensures (condition_eq-Decides _ _)
