-- The Secret call of issuing is for the Certificate that is seen.
use Rattle.std.proofs.Common.{◌≡◌, ℕ, ℤ, List, Option, Some, None, Bool, true, false, refl, ◌∙◌}
use Rattle.cmc_objects.specs.declared.certificate.Certificate.{Certificate}
use Rattle.cmc_objects.specs.declared.call.Call.{Call}
use Rattle.cmc_pass.specs.declared.pass.Views.{Views}
use Rattle.cmc_pass.specs.declared.pass.Act.{Act}
use Rattle.cmc_pass.specs.declared.pass.Act.TheVariants.{Nothing, Call as Calls, Ask as Asks, Issue, Temporary}
use Rattle.cmc_rules.specs.Causes.{IsSecretCall}
use Rattle.cmc_rules.specs.Issuance.{issuing, secret_call}
use Rattle.cmc_safety.specs.Completion.{IsPlan}
use Rattle.cmc_safety.proofs.Plans.{PlansFor, PlansOf, plans}

-- the call writes the Secret that the Certificate names, over the one that is seen
pub record IsTargetWrite (seen : Views) (call : Call) : Type 0 where
  pub stand_in : Bool
  pub certificate : Certificate
  pub key : List ℕ
  pub signed : List ℕ
  pub ca : List ℕ
  pub sees : seen.certificate ≡ Some certificate
  pub is : call ≡ secret_call stand_in certificate key signed ca seen.secret

planned : (does : Act) (call : Call) → IsSecretCall does call → IsPlan does
planned Nothing call is = absurd is
planned (Calls first) call is = absurd is
planned (Asks order) call is = absurd is
planned (Issue plan) call is = tt
planned (Temporary plan) call is = tt

for_plan : (seen : Views) (c : Certificate) (does : Act) (call : Call) → seen.certificate ≡ Some c → PlansFor c seen.secret does → IsSecretCall does call → IsTargetWrite seen call
for_plan seen c Nothing call sees plans_it is = absurd is
for_plan seen c (Calls first) call sees plans_it is = absurd is
for_plan seen c (Asks order) call sees plans_it is = absurd is
for_plan seen c (Issue plan) call sees plans_it is =
    record { stand_in = false; certificate = c; key = plans_it.1.key; signed = plans_it.1.certificate; ca = plans_it.1.ca; sees = sees; is = is ∙ plans_it.1.is }
for_plan seen c (Temporary plan) call sees plans_it is =
    record { stand_in = true; certificate = c; key = plans_it.1.key; signed = plans_it.1.certificate; ca = plans_it.1.ca; sees = sees; is = is ∙ plans_it.1.is }

for_act : (seen : Views) (o : Option Certificate) (does : Act) (call : Call) → seen.certificate ≡ o → PlansOf o seen.secret does → IsSecretCall does call → IsTargetWrite seen call
for_act seen None does call sees none is = absurd (none (planned does call is))
for_act seen (Some c) does call sees plans_it is = for_plan seen c does call sees plans_it is

pub target_write : (seen : Views) (since : ℤ) (call : Call) → IsSecretCall (issuing seen since) call → IsTargetWrite seen call
target_write seen since call is = for_act seen seen.certificate (issuing seen since) call refl (plans seen since) is
