use Rattle.std.specs.Bool.{one_answer}
use Rattle.cmc_model.proofs.SameSpecs.{request_spec_eq-Decides}
use Rattle.cmc_admit.proofs.requests.is_same_request_spec.Goals as goal

pub returns : goal.returns
returns c = one_answer _ _ c.same.ensures (request_spec_eq-Decides _ _)
