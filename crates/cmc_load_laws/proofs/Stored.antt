-- The measure falls where issuing writes the Secret.
use Rattle.std.proofs.Common.{◌≡◌, ◌<◌, ℕ, ℤ, List, Bool, true, false, not, Option, Some, refl, ap, ◌∙◌, arith}
use Rattle.cmc_objects.specs.declared.certificate.Certificate.{Certificate}
use Rattle.cmc_objects.specs.declared.request.CertificateRequest.{CertificateRequest}
use Rattle.cmc_objects.specs.declared.secret.Secret.{Secret}
use Rattle.cmc_pass.specs.declared.pass.Views.{Views}
use Rattle.cmc_pass.specs.declared.pass.Desk.{Desk}
use Rattle.cmc_pass.specs.declared.pass.Act.TheVariants.{Issue}
use Rattle.cmc_rules.specs.NextRequests.{is_refused}
use Rattle.cmc_rules.specs.Trigger.{is_issuing}
use Rattle.cmc_rules.specs.Readiness.{readiness}
use Rattle.cmc_rules.specs.Issuance.{issuing, with_wanted, is_granted, is_certified, is_kept_for_keys, issue_plan, secret_call, filled, marks}
use Rattle.cmc_run_laws.specs.Issuances.{with_certificate, with_secret}
use Rattle.cmc_load_laws.specs.Measure.{weight, acts, is_left, is_target_written, measure}
use Rattle.cmc_load_laws.proofs.Parts.{weight_within, while_issued}
use Rattle.cmc_run_laws.proofs.Going.{IsGoing, going_is}
use Rattle.cmc_load_laws.proofs.Again.{left_again}

-- the one next request is granted, with a certificate for the key
pub record IsGranted (c : Certificate) (file : List ℕ) (r : CertificateRequest) : Type 0 where
  pub not_refused : is_refused r ≡ false
  pub granted : is_granted r ≡ true
  pub certified : is_certified file r.status.certificate ≡ true

plan_then : (now : ℤ) (c : Certificate) (file : List ℕ) (target : Option Secret) (r : CertificateRequest) → IsGranted c file r → is_kept_for_keys target ≡ false → with_wanted now c file target r ≡ Issue (issue_plan now c file r target)
plan_then now c file target r is free = rw (is.not_refused, is.granted, is.certified, free) refl

plan_left : (now : ℤ) (c : Certificate) (file : List ℕ) (r : CertificateRequest) (k : Secret) → is_left (Some k) (secret_call false c file r.status.certificate r.status.ca (Some k)) ≡ true → is_target_written (Some k) (Issue (issue_plan now c file r (Some k))) ≡ true
unfolding issue_plan
plan_left now c file r k is = is

pub stored_falls : (desk : Desk) (due : ℕ) (now : ℤ) (seen : Views) (c : Certificate) (k : Secret) (annotations parts : List (List ℕ × List ℕ)) (g : IsGoing c seen.next seen.requests) → is_issuing c ≡ true → IsGranted c g.file g.request
    → is_target_written seen.secret (issuing (with_certificate c seen) now) ≡ false → is_kept_for_keys (Some k) ≡ false → k.meta.annotations ≡ marks false c annotations → k.parts ≡ filled g.file g.request.status.certificate g.request.status.ca parts
    → measure desk due now (with_secret k (with_certificate c seen)) < measure desk due now (with_certificate c seen)
stored_falls desk due now seen c k annotations parts g on is unwritten free one two =
    let after : Views = with_secret k seen in
    let r : CertificateRequest = g.request in
    let acts_so : issuing (with_certificate c after) now ≡ Issue (issue_plan now c g.file r (Some k)) = going_is now after c g on ∙ plan_then now c g.file (Some k) r is free in
    let written : is_target_written (Some k) (issuing (with_certificate c after) now) ≡ true =
    ap (is_target_written (Some k)) acts_so ∙ plan_left now c g.file r k (left_again c g.file r.status.certificate r.status.ca annotations parts k one two) in
    omega (
      arith,
      while_issued now (with_certificate c seen) c on,
      while_issued now (with_certificate c after) c on,
      weight_within 1 (acts (readiness (with_certificate c after) now)),
      ap (λ (b : Bool). weight 2 (not b)) unwritten,
      ap (λ (b : Bool). weight 2 (not b)) written,
    )
