-- The measure falls where an issuance ends and the trigger has nothing to do after it.
use Rattle.std.proofs.Common.{◌≡◌, ◌<◌, ℕ, ℤ, true, false, refl, ap, arith}
use Rattle.std.specs.Prelude.{codes, is_some}
use Rattle.cmc_meta.specs.ConditionLists.{IsInOrder}
use Rattle.cmc_objects.specs.declared.certificate.Certificate.{Certificate}
use Rattle.cmc_pass.specs.declared.pass.Act.{Act}
use Rattle.cmc_pass.specs.declared.pass.Act.TheVariants.{Nothing}
use Rattle.cmc_pass.specs.declared.pass.Desk.{Desk}
use Rattle.cmc_pass.specs.declared.pass.Views.{Views}
use Rattle.cmc_rules.specs.Issuance.{ended_condition, issued_status}
use Rattle.cmc_rules.specs.Readiness.{readiness}
use Rattle.cmc_rules.specs.Trigger.{is_issuing, trigger}
use Rattle.cmc_run_laws.specs.Issuances.{certificate_restated, with_certificate}
use Rattle.cmc_load_laws.specs.Measure.{acts, measure, weight}
use Rattle.cmc_load_laws.proofs.Keeping.{not_stated}
use Rattle.cmc_load_laws.proofs.Parts.{weight_within, while_issued, while_not}

ended : (now : ℤ) (version : ℕ) (c : Certificate) → IsInOrder c.status.conditions → is_issuing (certificate_restated version (issued_status now c.status) c) ≡ false
unfolding issued_status ended_condition
ended now version c ordered = not_stated c.status.conditions (ended_condition now (codes "Issued") (codes "The certificate has been successfully issued")) ordered refl

pub ended_falls : (desk : Desk) (due : ℕ) (now : ℤ) (seen : Views) (c : Certificate) (version : ℕ) → IsInOrder c.status.conditions → is_issuing c ≡ true
    → trigger (with_certificate (certificate_restated version (issued_status now c.status) c) seen) now ≡ Nothing
    → measure desk due now (with_certificate (certificate_restated version (issued_status now c.status) c) seen) < measure desk due now (with_certificate c seen)
ended_falls desk due now seen c version ordered on quiet =
    let later : Certificate = certificate_restated version (issued_status now c.status) c in
    omega (
      arith,
      while_issued now (with_certificate c seen) c on,
      while_not now (with_certificate later seen) later (ended now version c ordered),
      ap (λ (a : Act). weight 13 (acts a)) quiet,
      weight_within 1 (is_some later.status.next_key),
      weight_within 1 (acts (readiness (with_certificate later seen) now)),
    )
