-- The measure falls where the revision manager deletes a request that is neither the current one nor a next one.
use Rattle.std.proofs.Common.{◌≡◌, ◌+◌, ◌<◌, ℕ, ℤ, List, ◌∷◌, ◌++◌, false, not, Option, sym, ap, ◌∙◌, arith}
use Rattle.std.specs.Prelude.{◌&&◌, unwrap_or, is_some}
use Rattle.cmc_objects.specs.declared.certificate.Certificate.{Certificate}
use Rattle.cmc_objects.specs.declared.request.CertificateRequest.{CertificateRequest}
use Rattle.cmc_policies.specs.Reasons.{Known, first_of}
use Rattle.cmc_match.specs.Facts.{known_of, known_for, pair_at}
use Rattle.cmc_match.specs.Revisions.{is_of_revision}
use Rattle.cmc_pass.specs.declared.pass.Views.{Views}
use Rattle.cmc_pass.specs.declared.pass.Desk.{Desk}
use Rattle.cmc_rules.specs.NextRequests.{is_next}
use Rattle.cmc_rules.specs.Chains.{trigger_chain, readiness_chain}
use Rattle.cmc_rules.specs.Trigger.{trigger, is_issuing, is_in_back_off, is_backing_off, is_outrun, frame_of}
use Rattle.cmc_rules.specs.Readiness.{readiness, ready_condition, ready_by}
use Rattle.cmc_load_laws.specs.Measure.{weight, acts, measure, with_requests}
use Rattle.cmc_load_laws.proofs.Parts.{while_not, trigger_acts}
use Rattle.cmc_load_laws.proofs.Approved.{the_views}
use Rattle.cmc_load_laws.proofs.Requested.{length_more, waiting_more, only_more}

known_more : (c : Certificate) (seen : Views) (b a : List CertificateRequest) (r : CertificateRequest) → is_of_revision (unwrap_or c.status.revision 0) r ≡ false → known_for c seen.secret (b ++ r ∷ a) ≡ known_for c seen.secret (b ++ a)
known_more c seen b a r off = ap (known_of c.spec c.meta.name seen.secret) (only_more (unwrap_or c.status.revision 0) b a r off)

ready_same : (now : ℤ) (seen : Views) (c : Certificate) (b a : List CertificateRequest) (r : CertificateRequest) → is_of_revision (unwrap_or c.status.revision 0) r ≡ false
    → acts (readiness (the_views seen c (b ++ r ∷ a)) now) ≡ acts (readiness (the_views seen c (b ++ a)) now)
unfolding readiness
ready_same now seen c b a r off = ap (λ (k : Known). acts (ready_by (ready_condition now (first_of readiness_chain (frame_of now c) k)) (frame_of now c).renew (pair_at seen.secret) c)) (known_more c seen b a r off)

asks_same : (now : ℤ) (seen : Views) (c : Certificate) (b a : List CertificateRequest) (r : CertificateRequest) → is_of_revision (unwrap_or c.status.revision 0) r ≡ false → is_next c r ≡ false
    → acts (trigger (the_views seen c (b ++ r ∷ a)) now) ≡ acts (trigger (the_views seen c (b ++ a)) now)
asks_same now seen c b a r off other =
    trigger_acts now (with_requests (b ++ r ∷ a) seen) c
    ∙ ap (λ (k : Known). not (is_issuing c) && (is_some (first_of trigger_chain (frame_of now c) k) && not (is_in_back_off now (b ++ r ∷ a) c))) (known_more c seen b a r off)
    ∙ ap (λ (o : Option CertificateRequest). not (is_issuing c) && (is_some (first_of trigger_chain (frame_of now c) (known_for c seen.secret (b ++ a))) && not (is_backing_off c.status now && not (is_outrun c.spec o))))
    (only_more (unwrap_or c.status.revision 0 + 1) b a r other)
    ∙ sym (trigger_acts now (with_requests (b ++ a) seen) c)

pub revised_falls : (desk : Desk) (due : ℕ) (now : ℤ) (seen : Views) (c : Certificate) (b a : List CertificateRequest) (r : CertificateRequest) → is_issuing c ≡ false → is_of_revision (unwrap_or c.status.revision 0) r ≡ false → is_next c r ≡ false
    → measure desk due now (the_views seen c (b ++ a)) < measure desk due now (the_views seen c (b ++ r ∷ a))
revised_falls desk due now seen c b a r idle_now off other =
    omega (
      arith,
      while_not now (the_views seen c (b ++ r ∷ a)) c idle_now,
      while_not now (the_views seen c (b ++ a)) c idle_now,
      ap (weight 1) (ready_same now seen c b a r off),
      ap (weight 13) (asks_same now seen c b a r off other),
      length_more b a r,
      waiting_more desk now b a r,
    )
