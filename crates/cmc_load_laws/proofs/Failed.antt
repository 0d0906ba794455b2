-- The measure falls where an issuance fails.
use Rattle.std.proofs.Common.{◌≡◌, ◌<◌, ℕ, ℤ, List, Bool, true, false, not, Option, None, refl, ap, arith}
use Rattle.std.specs.Prelude.{is_some, codes}
use Rattle.cmc_meta.specs.declared.conditions.ConditionKind.TheVariants.{Ready}
use Rattle.cmc_meta.specs.ConditionLists.{IsInOrder}
use Rattle.cmc_objects.specs.declared.certificate.Certificate.{Certificate}
use Rattle.cmc_objects.specs.declared.certificate.CertStatus.{CertStatus}
use Rattle.cmc_objects.specs.declared.secret.Secret.{Secret}
use Rattle.cmc_pass.specs.declared.pass.Views.{Views}
use Rattle.cmc_pass.specs.declared.pass.Desk.{Desk}
use Rattle.cmc_pass.specs.declared.pass.Act.{Act}
use Rattle.cmc_pass.specs.declared.pass.Act.TheVariants.{Nothing}
use Rattle.cmc_rules.specs.Trigger.{trigger, is_issuing}
use Rattle.cmc_rules.specs.Issuance.{issuing, failure, failed_status, ended_condition}
use Rattle.cmc_run_laws.specs.Issuances.{certificate_restated, with_certificate}
use Rattle.cmc_load_laws.specs.Measure.{weight, acts, is_target_written, measure}
use Rattle.cmc_load_laws.proofs.Keeping.{other_found, not_stated}
use Rattle.cmc_load_laws.proofs.Parts.{weight_within, while_issued, while_not, SaysSame, ready_kept}
use Rattle.cmc_run_laws.proofs.Going.{going}
use Rattle.cmc_run_laws.proofs.Failing.{nothing_after_failure}

ended : (now : ℤ) (reason : List ℕ) (version : ℕ) (c : Certificate) → IsInOrder c.status.conditions → is_issuing (certificate_restated version (failed_status now reason c.status) c) ≡ false
unfolding failed_status ended_condition
ended now reason version c ordered = not_stated c.status.conditions (ended_condition now reason (codes "The certificate request has failed to complete and will be retried")) ordered refl

says : (now : ℤ) (reason : List ℕ) (status : CertStatus) → SaysSame status (failed_status now reason status)
unfolding failed_status ended_condition
says now reason status =
    record { ready = other_found status.conditions (ended_condition now reason (codes "The certificate request has failed to complete and will be retried")) Ready refl; revision = refl; begins = refl; ends = refl; renews = refl }

acts_then : (now : ℤ) (reason : List ℕ) (c : Certificate) (a : Act) → a ≡ failure now reason c → (acts a ≡ true) × (is_target_written None a ≡ false)
unfolding failure
acts_then now reason c a is = (ap acts is, ap (is_target_written None) is)

unwritten : (old : Option Secret) (now : ℤ) (reason : List ℕ) (c : Certificate) (a : Act) → a ≡ failure now reason c → is_target_written old a ≡ false
unfolding failure
unwritten old now reason c a is = ap (is_target_written old) is

pub failed_falls : (desk : Desk) (due : ℕ) (now : ℤ) (seen : Views) (c : Certificate) (reason : List ℕ) (version : ℕ) → IsInOrder c.status.conditions → issuing (with_certificate c seen) now ≡ failure now reason c
    → measure desk due now (with_certificate (certificate_restated version (failed_status now reason c.status) c) seen) < measure desk due now (with_certificate c seen)
failed_falls desk due now seen c reason version ordered is =
    let before : Views = with_certificate c seen in
    let later : Certificate = certificate_restated version (failed_status now reason c.status) c in
    let after : Views = with_certificate later seen in
    let on = going now seen c (acts_then now reason c (issuing before now) is).0 in
    let quiet : trigger after now ≡ Nothing = nothing_after_failure now seen c reason version is in
    omega (
      arith,
      while_issued now before c on.0,
      while_not now after later (ended now reason version c ordered),
      ap (weight 1) (ready_kept now seen version c (failed_status now reason c.status) (says now reason c.status)),
      ap (λ (a : Act). weight 13 (acts a)) quiet,
      weight_within 1 (is_some later.status.next_key),
      ap (λ (b : Bool). weight 2 (not b)) (unwritten seen.secret now reason c (issuing before now) is),
    )
