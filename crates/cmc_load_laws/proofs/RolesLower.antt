-- Which roles lower the measure by their writes on what there is to see.
use Rattle.cmc_objects.specs.declared.role.Role.{Role}
use Rattle.cmc_objects.specs.declared.role.Role.TheVariants.{Trigger, KeyManager, RequestManager, Approver, Issuer, Issuing, Readiness, Revision}
use Rattle.cmc_safety.proofs.Course.{AreSound}
use Rattle.cmc_load_laws.proofs.CurrentAnswers.{issuer_lowers}
use Rattle.cmc_load_laws.proofs.CurrentHistories.{RoleLowers}
use Rattle.cmc_load_laws.proofs.CurrentKeys.{MadeKeysFit, key_manager_lowers}
use Rattle.cmc_load_laws.proofs.CurrentRequests.{OwnRequestsAreWanted, request_manager_lowers}
use Rattle.cmc_load_laws.proofs.CurrentRevisions.{revision_lowers}
use Rattle.cmc_load_laws.proofs.CurrentSecrets.{issuing_lowers}
use Rattle.cmc_load_laws.proofs.CurrentStatuses.{readiness_lowers, trigger_lowers}
use Rattle.cmc_load_laws.proofs.CurrentVerdicts.{approver_lowers}

pub role_lowers : AreSound → MadeKeysFit → OwnRequestsAreWanted → (role : Role) → RoleLowers role
role_lowers sound fit wanted Trigger s h n call reply a load revision is current lowers one = trigger_lowers s h n call reply a is current one
role_lowers sound fit wanted KeyManager s h n call reply a load revision is current lowers one = key_manager_lowers fit s h n call reply a load is current lowers one
role_lowers sound fit wanted RequestManager s h n call reply a load revision is current lowers one = request_manager_lowers wanted s h n call reply a load revision is current lowers.0 lowers.1 one
role_lowers sound fit wanted Approver s h n call reply a load revision is current lowers one = approver_lowers s h n call reply a load is current one
role_lowers sound fit wanted Issuer s h n call reply a load revision is current lowers one = issuer_lowers s h n call reply a load is current lowers one
role_lowers sound fit wanted Issuing s h n call reply a load revision is current lowers one = issuing_lowers sound s h n call reply a is current lowers one
role_lowers sound fit wanted Readiness s h n call reply a load revision is current lowers one = readiness_lowers s h n call reply a is current one
role_lowers sound fit wanted Revision s h n call reply a load revision is current lowers one = revision_lowers s h n call reply a is current lowers one
