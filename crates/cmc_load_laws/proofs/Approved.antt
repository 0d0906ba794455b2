-- The measure falls where a request is restated that waits for less, and so at each verdict of the approver.
use Rattle.std.proofs.Common.{◌≡◌, ◌==◌, ◌<◌, ◌≤◌, ℕ, ℤ, List, ◌∷◌, ◌++◌, Bool, true, false, not, Option, Some, None, refl, sym, ap, ◌∙◌, arith}
use Rattle.std.specs.Prelude.{if◌then◌else◌, ◌&&◌, ◌||◌, is_some}
use Rattle.std.proofs.lemmas.Bool.{and_parts}
use Rattle.cmc_meta.specs.declared.conditions.Condition.{Condition}
use Rattle.cmc_meta.specs.declared.conditions.ConditionKind.TheVariants.{Ready, Approved, Denied}
use Rattle.cmc_meta.specs.ConditionLists.{condition_rank, condition_at, transitioned}
use Rattle.cmc_objects.specs.declared.certificate.Certificate.{Certificate}
use Rattle.cmc_objects.specs.declared.request.CertificateRequest.{CertificateRequest}
use Rattle.cmc_objects.specs.declared.request.RequestStatus.{RequestStatus}
use Rattle.cmc_objects.specs.declared.secret.Secret.{Secret}
use Rattle.cmc_objects.specs.Requests.{is_denied, is_approved, is_stated}
use Rattle.cmc_policies.specs.Reasons.{Known, first_of}
use Rattle.cmc_answers.specs.declared.denial.Denial.{Denial}
use Rattle.cmc_match.specs.Facts.{key_in, fits, known_for, pair_at}
use Rattle.cmc_pass.specs.declared.pass.Views.{Views}
use Rattle.cmc_pass.specs.declared.pass.Desk.{Desk}
use Rattle.cmc_pass.specs.declared.pass.Act.{Act}
use Rattle.cmc_pass.specs.declared.pass.Act.TheVariants.{Nothing}
use Rattle.cmc_rules.specs.Chains.{trigger_chain, readiness_chain}
use Rattle.cmc_rules.specs.NextKeys.{named_key}
use Rattle.cmc_rules.specs.NextRequests.{next_revision}
use Rattle.cmc_rules.specs.Trigger.{trigger, is_issuing, is_in_back_off, frame_of}
use Rattle.cmc_rules.specs.Readiness.{readiness, ready_condition, ready_by}
use Rattle.cmc_rules.specs.Approver.{judge_one, is_covered, ask_judgement, judged_status, approval, denied_for}
use Rattle.cmc_rules.specs.Issuer.{grant_one}
use Rattle.cmc_rules.specs.Issuance.{is_granted, says_issued}
use Rattle.cmc_run_laws.specs.Issuances.{with_certificate}
use Rattle.cmc_load_laws.specs.Measure.{weight, acts, is_fresh_request, has_fresh, has_fresh_for, certificate_part, waits, measure, restated_request, with_requests}
use Rattle.cmc_load_laws.proofs.Keeping.{other_found, now_stated}
use Rattle.cmc_load_laws.proofs.Parts.{weight_within, while_issued, while_not, trigger_acts}
use Rattle.cmc_load_laws.proofs.Restated.{length_same, waiting_falls, any_kept, of_same, matches_by, has_by, known_same, held_same, written_kept}

weight_kept : (n : ℕ) (x y : Bool) → (x ≡ true → y ≡ true) → weight n (not y) ≤ weight n (not x)
weight_kept n true true f = omega arith
weight_kept n true false f = absurd (cc (f refl))
weight_kept n false true f = omega arith
weight_kept n false false f = omega arith

-- ---- the whole measure

abbrev pub the_views : Views → Certificate → List CertificateRequest → Views
the_views seen c requests = with_requests requests (with_certificate c seen)

ready_same : (now : ℤ) (seen : Views) (c : Certificate) (version : ℕ) (status : RequestStatus) (b a : List CertificateRequest) (r : CertificateRequest)
    → acts (readiness (the_views seen c (b ++ restated_request version status r ∷ a)) now) ≡ acts (readiness (the_views seen c (b ++ r ∷ a)) now)
unfolding readiness
ready_same now seen c version status b a r =
    ap (λ (k : Known). acts (ready_by (ready_condition now (first_of readiness_chain (frame_of now c) k)) (frame_of now c).renew (pair_at seen.secret) c)) (known_same c seen.secret version status b a r)

trigger_same : (now : ℤ) (seen : Views) (c : Certificate) (version : ℕ) (status : RequestStatus) (b a : List CertificateRequest) (r : CertificateRequest)
    → acts (trigger (the_views seen c (b ++ restated_request version status r ∷ a)) now) ≡ acts (trigger (the_views seen c (b ++ r ∷ a)) now)
trigger_same now seen c version status b a r =
    let s : CertificateRequest = restated_request version status r in
    trigger_acts now (with_requests (b ++ s ∷ a) seen) c
    ∙ ap (λ (k : Known). not (is_issuing c) && (is_some (first_of trigger_chain (frame_of now c) k) && not (is_in_back_off now (b ++ s ∷ a) c))) (known_same c seen.secret version status b a r)
    ∙ ap (λ (x : Bool). not (is_issuing c) && (is_some (first_of trigger_chain (frame_of now c) (known_for c seen.secret (b ++ r ∷ a))) && not x)) (held_same now c version status b a r)
    ∙ sym (trigger_acts now (with_requests (b ++ r ∷ a) seen) c)

fresh_kept : (c : Certificate) (b a : List CertificateRequest) (r s : CertificateRequest) (k : Option Secret) → ((file : List ℕ) → is_fresh_request c file r ≡ true → is_fresh_request c file s ≡ true)
    → has_fresh_for c (b ++ r ∷ a) k ≡ true → has_fresh_for c (b ++ s ∷ a) k ≡ true
fresh_kept c b a r s None stays is = is
fresh_kept c b a r s (Some k) stays is = by_file (key_in k) is where
  by_file : (file : Option (List ℕ)) → has_fresh c (b ++ r ∷ a) file ≡ true → has_fresh c (b ++ s ∷ a) file ≡ true
  by_file None is = is
  by_file (Some file) is = let both = and_parts (fits c.spec.key file) _ is in rw (both.0) (any_kept (is_fresh_request c file) b a r s (stays file) both.1)

by_state : (x : Bool) (now : ℤ) (seen : Views) (c : Certificate) (version : ℕ) (status : RequestStatus) (b a : List CertificateRequest) (r : CertificateRequest) → is_issuing c ≡ x → is_granted r ≡ false
    → ((file : List ℕ) → is_fresh_request c file r ≡ true → is_fresh_request c file (restated_request version status r) ≡ true)
    → certificate_part now (the_views seen c (b ++ restated_request version status r ∷ a)) (Some c) ≤ certificate_part now (the_views seen c (b ++ r ∷ a)) (Some c)
by_state true now seen c version status b a r is off stays =
    let s : CertificateRequest = restated_request version status r in
    omega (
      arith,
      while_issued now (the_views seen c (b ++ r ∷ a)) c is,
      while_issued now (the_views seen c (b ++ s ∷ a)) c is,
      ap (weight 1) (ready_same now seen c version status b a r),
      weight_kept 4 _ _ (fresh_kept c b a r s (named_key c.status.next_key seen.next) stays),
      weight_kept 2 _ _ (written_kept now seen c version status b a r off),
    )
by_state false now seen c version status b a r is off stays =
    let s : CertificateRequest = restated_request version status r in
    omega (arith, while_not now (the_views seen c (b ++ r ∷ a)) c is, while_not now (the_views seen c (b ++ s ∷ a)) c is, ap (weight 1) (ready_same now seen c version status b a r), ap (weight 13) (trigger_same now seen c version status b a r))

pub restated_falls : (desk : Desk) (due : ℕ) (now : ℤ) (seen : Views) (c : Certificate) (version : ℕ) (status : RequestStatus) (b a : List CertificateRequest) (r : CertificateRequest)
    → waits desk now (restated_request version status r) < waits desk now r → is_granted r ≡ false → ((file : List ℕ) → is_fresh_request c file r ≡ true → is_fresh_request c file (restated_request version status r) ≡ true)
    → measure desk due now (the_views seen c (b ++ restated_request version status r ∷ a)) < measure desk due now (the_views seen c (b ++ r ∷ a))
restated_falls desk due now seen c version status b a r less off stays =
    let s : CertificateRequest = restated_request version status r in
    omega (arith, length_same b a r s, waiting_falls desk now b a r s less, by_state (is_issuing c) now seen c version status b a r refl off stays)

-- ---- the approver

refused_fresh : (c : Certificate) (file : List ℕ) (version : ℕ) (status : RequestStatus) (r : CertificateRequest) → condition_at status.conditions Ready ≡ condition_at r.status.conditions Ready → status.failure ≡ r.status.failure
    → is_fresh_request c file (restated_request version status r) ≡ is_fresh_request c file r
refused_fresh c file version status r same failure =
    let s : CertificateRequest = restated_request version status r in
    rw (of_same (next_revision c) version status r, matches_by c.spec r s refl, has_by file r s refl, same, failure) refl

verdict_found : (cs : List Condition) (verdict : Condition) → (condition_rank verdict.kind == condition_rank Ready) ≡ false → condition_at (transitioned cs verdict) Ready ≡ condition_at cs Ready
verdict_found cs verdict off = other_found cs verdict Ready off

judged_by : (x y : Bool) (a : Act) → acts (if x then Nothing else (if y then a else Nothing)) ≡ true → x ≡ false
judged_by true y a is = absurd (cc is)
judged_by false y a is = refl

not_granted : (x y z w : Bool) → (y || z) ≡ false → (x && (y && w)) ≡ false
not_granted true true z w is = absurd (cc is)
not_granted true false z w is = refl
not_granted false y z w is = refl

pub settled_by : (x : Bool) (a : Act) → x ≡ true → acts (if x then Nothing else a) ≡ false
settled_by true a is = refl
settled_by false a is = absurd (cc is)

two_by : (x : Bool) (n : ℕ) → x ≡ true → (if x then 2 else n) ≡ 2
two_by x n is = rw is refl

one_by : (x : Bool) (y : Bool) → x ≡ false → (if x then 2 else weight 1 y) ≤ 1
one_by true y is = absurd (cc is)
one_by false y is = weight_within 1 y

pub judged_falls : (desk : Desk) (due : ℕ) (now : ℤ) (seen : Views) (c : Certificate) (version : ℕ) (verdict : Condition) (b a : List CertificateRequest) (r : CertificateRequest) → acts (judge_one desk.rules r) ≡ true
    → (condition_rank verdict.kind == condition_rank Ready) ≡ false → (is_stated Approved (transitioned r.status.conditions verdict) || is_stated Denied (transitioned r.status.conditions verdict)) ≡ true
    → measure desk due now (the_views seen c (b ++ restated_request version (judged_status verdict r.status) r ∷ a)) < measure desk due now (the_views seen c (b ++ r ∷ a))
unfolding judged_status
judged_falls desk due now seen c version verdict b a r asks other settles =
    let status : RequestStatus = judged_status verdict r.status in
    let s : CertificateRequest = restated_request version status r in
    let open_now = judged_by (is_approved r || is_denied r) (is_covered desk.rules r.spec.issuer) (ask_judgement r desk.rules) asks in
    let before : waits desk now r ≡ 2 = two_by (acts (judge_one desk.rules r)) (weight 1 (acts (grant_one now desk r))) asks in
    let after : waits desk now s ≤ 1 = one_by (acts (judge_one desk.rules s)) (acts (grant_one now desk s)) (settled_by (is_approved s || is_denied s) _ settles) in
    restated_falls desk due now seen c version status b a r (omega (arith, before, after)) (not_granted (says_issued (condition_at r.status.conditions Ready)) (is_approved r) (is_denied r) (not (is_denied r)) open_now)
    (λ file is. refused_fresh c file version status r (verdict_found r.status.conditions verdict other) refl ∙ is)

pub approved_falls : (desk : Desk) (due : ℕ) (now : ℤ) (seen : Views) (c : Certificate) (version : ℕ) (b a : List CertificateRequest) (r : CertificateRequest) → acts (judge_one desk.rules r) ≡ true
    → measure desk due now (the_views seen c (b ++ restated_request version (judged_status (approval now) r.status) r ∷ a)) < measure desk due now (the_views seen c (b ++ r ∷ a))
unfolding approval
approved_falls desk due now seen c version b a r asks =
    judged_falls desk due now seen c version (approval now) b a r asks refl (ap (λ (x : Bool). x || is_stated Denied (transitioned r.status.conditions (approval now))) (now_stated r.status.conditions (approval now) refl))

or_second : (x y : Bool) → y ≡ true → (x || y) ≡ true
or_second true y is = refl
or_second false y is = is

pub denied_falls : (desk : Desk) (due : ℕ) (now : ℤ) (seen : Views) (c : Certificate) (version : ℕ) (denial : Denial) (b a : List CertificateRequest) (r : CertificateRequest) → acts (judge_one desk.rules r) ≡ true
    → measure desk due now (the_views seen c (b ++ restated_request version (judged_status (denied_for now denial) r.status) r ∷ a)) < measure desk due now (the_views seen c (b ++ r ∷ a))
unfolding denied_for
denied_falls desk due now seen c version denial b a r asks =
    judged_falls desk due now seen c version (denied_for now denial) b a r asks refl (or_second (is_stated Approved (transitioned r.status.conditions (denied_for now denial))) _ (now_stated r.status.conditions (denied_for now denial) refl))
