-- What the answer of an issuer makes of a request's status.
use Rattle.std.specs.Prelude.{ℕ, ℤ, List, codes, Some}
use Rattle.cmc_meta.specs.declared.conditions.Condition.{Condition}
use Rattle.cmc_meta.specs.declared.conditions.ConditionKind.TheVariants.{Ready}
use Rattle.cmc_meta.specs.declared.conditions.Tri.{Tri}
use Rattle.cmc_meta.specs.declared.conditions.Tri.TheVariants.{True, False}
use Rattle.cmc_meta.specs.ConditionLists.{transitioned, renewed}
use Rattle.cmc_objects.specs.declared.orders.Signing.{Signing}
use Rattle.cmc_objects.specs.declared.orders.Signing.TheVariants.{Issued, Pending, Failed}
use Rattle.cmc_objects.specs.declared.request.RequestStatus.{RequestStatus}

abbrev pub answer_condition : Tri → List ℕ → List ℕ → ℤ → Condition
answer_condition status reason message moment = record { kind = Ready; status = status; reason = reason; message = message; since = moment }

-- a certificate that was issued is ready
unfoldable pub issued_condition : ℤ → Condition
issued_condition moment = answer_condition True (codes "Issued") (codes "Certificate fetched from issuer successfully") moment

unfoldable pub pending_condition : ℤ → Condition
pending_condition moment = answer_condition False (codes "Pending") (codes "Waiting on the issuer") moment

unfoldable pub failed_condition : List ℕ → ℤ → Condition
failed_condition message moment = answer_condition False (codes "Failed") message moment

-- The status after the answer: what is issued stands with the CA's certificate, an answer that is pending renews the moment, and
-- a failure has one. Nothing else changes.
unfoldable pub answered : RequestStatus → Signing → ℤ → RequestStatus
answered status (Issued certificate ca) moment = record status {
  conditions = transitioned status.conditions (issued_condition moment);
  certificate = certificate;
  ca = ca;
}
answered status Pending moment = record status { conditions = renewed status.conditions (pending_condition moment) }
answered status (Failed message) moment = record status {
  conditions = transitioned status.conditions (failed_condition message moment);
  failure = Some moment;
}
