-- What a role does, by what it sees.
use Rattle.std.specs.Prelude.{ℤ, Option, None}
use Rattle.cmc_objects.specs.declared.call.Call.{Call}
use Rattle.cmc_objects.specs.declared.orders.Order.{Order}
use Rattle.cmc_objects.specs.declared.role.Role.{Role}
use Rattle.cmc_objects.specs.declared.role.Role.TheVariants.{Trigger, KeyManager, RequestManager, Approver, Issuer, Issuing, Readiness, Revision}
use Rattle.cmc_pass.specs.declared.pass.Views.{Views}
use Rattle.cmc_pass.specs.declared.pass.Desk.{Desk}
use Rattle.cmc_pass.specs.declared.value.Value.{Value}
use Rattle.cmc_pass.specs.declared.pass.Act.{Act}
use Rattle.cmc_rules.specs.Trigger.{trigger}
use Rattle.cmc_rules.specs.KeyManager.{key_manager, key_after}
use Rattle.cmc_rules.specs.RequestManager.{request_manager, request_after}
use Rattle.cmc_rules.specs.Approver.{approver, judged_after}
use Rattle.cmc_rules.specs.Issuer.{issuer, answered_after}
use Rattle.cmc_rules.specs.Issuance.{issuing}
use Rattle.cmc_rules.specs.Readiness.{readiness}
use Rattle.cmc_rules.specs.RevisionManager.{revise}

-- the act of the role on these views at this moment
unfoldable pub act : Role → Views → ℤ → Desk → Act
act Trigger views moment desk = trigger views moment
act KeyManager views moment desk = key_manager views desk
act RequestManager views moment desk = request_manager views
act Approver views moment desk = approver views desk
act Issuer views moment desk = issuer views moment desk
act Issuing views moment desk = issuing views moment
act Readiness views moment desk = readiness views moment
act Revision views moment desk = revise views

-- the call that follows the value of the role's question, which a pass asked that began at this moment; where there is none, none
unfoldable pub call_after : Role → Views → ℤ → Order → Value → Option Call
call_after KeyManager views moment order value = key_after views moment order value
call_after RequestManager views moment order value = request_after views moment order value
call_after Approver views moment order value = judged_after views moment order value
call_after Issuer views moment order value = answered_after views moment order value
call_after other views moment order value = None
