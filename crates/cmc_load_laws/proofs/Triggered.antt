-- The measure falls where the trigger asks for an issuance.
use Rattle.std.proofs.Common.{◌≡◌, ◌≤◌, ◌<◌, ℕ, ℤ, Bool, true, false, not, Some, refl, ap, arith}
use Rattle.std.specs.Prelude.{if◌then◌else◌}
use Rattle.cmc_meta.specs.declared.conditions.ConditionKind.TheVariants.{Ready}
use Rattle.cmc_objects.specs.declared.certificate.Certificate.{Certificate}
use Rattle.cmc_objects.specs.declared.certificate.CertStatus.{CertStatus}
use Rattle.cmc_policies.specs.declared.facts.Reason.{Reason}
use Rattle.cmc_pass.specs.declared.pass.Views.{Views}
use Rattle.cmc_pass.specs.declared.pass.Desk.{Desk}
use Rattle.cmc_pass.specs.declared.pass.Act.{Act}
use Rattle.cmc_pass.specs.declared.pass.Act.TheVariants.{Nothing}
use Rattle.cmc_rules.specs.NextKeys.{named_key}
use Rattle.cmc_rules.specs.Trigger.{trigger, for_certificate as trigger_for, is_issuing, issuing_status, issuing_condition}
use Rattle.cmc_rules.specs.Readiness.{readiness}
use Rattle.cmc_rules.specs.Issuance.{issuing}
use Rattle.cmc_run_laws.specs.Issuances.{certificate_restated, with_certificate}
use Rattle.cmc_load_laws.specs.Measure.{weight, acts, has_fresh_for, is_target_written, under_way, certificate_part, measure}
use Rattle.cmc_load_laws.proofs.Keeping.{other_found, now_stated}
use Rattle.cmc_load_laws.proofs.Parts.{weight_within, weight_on, key_within, while_issued, while_not, SaysSame, ready_kept}

-- what is under way weighs twelve at most
pub way_within : (now : ℤ) (seen : Views) (c : Certificate) → under_way now seen c ≤ 12
way_within now seen c =
    omega (arith, key_within c seen.next, weight_within 4 (not (has_fresh_for c seen.requests (named_key c.status.next_key seen.next))), weight_within 2 (not (is_target_written seen.secret (issuing seen now))))

asked : (now : ℤ) (reason : Reason) (version : ℕ) (c : Certificate) → is_issuing (certificate_restated version (issuing_status now reason c.status) c) ≡ true
unfolding issuing_status issuing_condition
asked now reason version c = now_stated c.status.conditions (issuing_condition now reason) refl

says : (now : ℤ) (reason : Reason) (status : CertStatus) → SaysSame status (issuing_status now reason status)
unfolding issuing_status issuing_condition
says now reason status = record { ready = other_found status.conditions (issuing_condition now reason) Ready refl; revision = refl; begins = refl; ends = refl; renews = refl }

-- the trigger asks only where nothing is issued
not_yet : (b : Bool) (a : Act) → acts (if b then Nothing else a) ≡ true → b ≡ false
not_yet true a is = absurd (cc is)
not_yet false a is = refl

not_issuing : (now : ℤ) (seen : Views) (c : Certificate) → acts (trigger (with_certificate c seen) now) ≡ true → is_issuing c ≡ false
unfolding trigger trigger_for
not_issuing now seen c is = not_yet (is_issuing c) _ is

falls_by : (now : ℤ) (before after : Views) (c later : Certificate) → is_issuing c ≡ false → is_issuing later ≡ true → acts (trigger before now) ≡ true → acts (readiness after now) ≡ acts (readiness before now)
    → certificate_part now after (Some later) < certificate_part now before (Some c)
falls_by now before after c later idle_now issuing_then asks ready =
    omega (arith, while_not now before c idle_now, while_issued now after later issuing_then, way_within now after later, weight_on 13 (acts (trigger before now)) asks, ap (weight 1) ready)

pub trigger_falls : (desk : Desk) (due : ℕ) (now : ℤ) (seen : Views) (c : Certificate) (reason : Reason) (version : ℕ) → acts (trigger (with_certificate c seen) now) ≡ true
    → measure desk due now (with_certificate (certificate_restated version (issuing_status now reason c.status) c) seen) < measure desk due now (with_certificate c seen)
trigger_falls desk due now seen c reason version asks =
    let later : Certificate = certificate_restated version (issuing_status now reason c.status) c in
    omega (arith, falls_by now (with_certificate c seen) (with_certificate later seen) c later (not_issuing now seen c asks) (asked now reason version c) asks (ready_kept now seen version c (issuing_status now reason c.status) (says now reason c.status)))
