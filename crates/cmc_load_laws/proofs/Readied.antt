-- The measure falls where readiness writes the status.
use Rattle.std.proofs.Common.{◌≡◌, ◌==◌, ◌<◌, ℕ, ℤ, List, [], ◌∷◌, Bool, true, false, not, Option, Some, None, refl, sym, ap, ◌∙◌, arith}
use Rattle.std.specs.Prelude.{if◌then◌else◌, ◌&&◌, ◌||◌, is_some, codes}
use Rattle.std.specs.List.{list_any}
use Rattle.std.specs.Str.{bytes_eq}
use Rattle.std.proofs.lemmas.Slice.Eq.{bytes_eq-Decides}
use Rattle.std.proofs.lemmas.Cmp.{int_eq_equiv}
use Rattle.cmc_meta.specs.declared.conditions.Condition.{Condition}
use Rattle.cmc_meta.specs.declared.conditions.ConditionKind.TheVariants.{Ready, Issuing}
use Rattle.cmc_meta.specs.declared.conditions.Tri.{Tri}
use Rattle.cmc_meta.specs.declared.conditions.Tri.TheVariants.{True, False, Unknown}
use Rattle.cmc_meta.specs.ConditionLists.{condition_rank, condition_at, tri_eq, kept_since, transitioned}
use Rattle.cmc_der.specs.Keys.{CertificateFields}
use Rattle.cmc_objects.specs.declared.certificate.Certificate.{Certificate}
use Rattle.cmc_objects.specs.declared.certificate.CertStatus.{CertStatus}
use Rattle.cmc_objects.specs.declared.request.CertificateRequest.{CertificateRequest}
use Rattle.cmc_objects.specs.declared.secret.Secret.{Secret}
use Rattle.cmc_policies.specs.declared.facts.Reason.{Reason}
use Rattle.cmc_policies.specs.declared.renewal.Renew.{Renew}
use Rattle.cmc_match.specs.Facts.{key_in, fits, pair_at}
use Rattle.cmc_match.specs.Revisions.{next_request}
use Rattle.cmc_pass.specs.declared.pass.Views.{Views}
use Rattle.cmc_pass.specs.declared.pass.Desk.{Desk}
use Rattle.cmc_pass.specs.declared.pass.Act.{Act}
use Rattle.cmc_pass.specs.declared.pass.Act.TheVariants.{Nothing, Issue}
use Rattle.cmc_rules.specs.NextKeys.{named_key}
use Rattle.cmc_rules.specs.NextRequests.{is_wanted, is_refused}
use Rattle.cmc_rules.specs.Chains.{readiness_reason, trigger_reason}
use Rattle.cmc_rules.specs.Trigger.{trigger, is_issuing, is_in_back_off, is_waiting_since, frame_of}
use Rattle.cmc_rules.specs.Readiness.{readiness, ready_condition, ready_status, is_settled, says, is_same_moment, begins_at, ends_at, renews_at}
use Rattle.cmc_rules.specs.Issuance.{issuing, with_key_of, with_file, with_request, with_wanted, with_granted, while_waiting, is_granted, is_certified, is_kept_for_keys, failure, fails_now, refusal, issue_plan, secret_call, new_target, old_target, marks, signed_marks}
use Rattle.cmc_run_laws.specs.Issuances.{certificate_restated, with_certificate}
use Rattle.cmc_load_laws.specs.Measure.{weight, acts, is_fresh_request, has_fresh, has_fresh_for, key_part, is_target_written, certificate_part, measure}
use Rattle.cmc_load_laws.proofs.Keeping.{other_found}
use Rattle.cmc_load_laws.proofs.Parts.{while_issued, while_not, trigger_acts, ready_acts}
use Rattle.cmc_load_laws.proofs.Restated.{unwritten_failure, waiting_off}
use Rattle.cmc_load_laws.proofs.Answered.{own_found, other_stated}

abbrev the_status : Condition → Option ℤ → Option ℤ → Option ℤ → CertStatus → CertStatus
the_status new b e r status = record status { conditions = transitioned status.conditions new; not_before = b; not_after = e; renewal = r }

-- ---- issuing sees the same Secret to be written

abbrev moved : ℕ → CertStatus → Certificate → Certificate
moved version status c = certificate_restated version status c

plan_same : (old : Option Secret) (now : ℤ) (version : ℕ) (status : CertStatus) (c : Certificate) (file : List ℕ) (r : CertificateRequest) (target : Option Secret)
    → is_target_written old (Issue (issue_plan now (moved version status c) file r target)) ≡ is_target_written old (Issue (issue_plan now c file r target))
unfolding issue_plan secret_call new_target old_target marks signed_marks
plan_same old now version status c file r None = refl
plan_same old now version status c file r (Some k) = refl

if_same : (old : Option Secret) (b : Bool) (one two other last : Act) → is_target_written old one ≡ is_target_written old two → is_target_written old other ≡ is_target_written old last → is_target_written old (if b then one else other) ≡ is_target_written old (if b then two else last)
if_same old true one two other last x y = x
if_same old false one two other last x y = y

wanted_same : (old : Option Secret) (now : ℤ) (version : ℕ) (status : CertStatus) (c : Certificate) (file : List ℕ) (target : Option Secret) (r : CertificateRequest)
    → is_target_written old (with_wanted now (moved version status c) file target r) ≡ is_target_written old (with_wanted now c file target r)
wanted_same old now version status c file target r =
    let later : Certificate = moved version status c in
    let off : (x y : Bool) → is_target_written old (if x then failure now (refusal r) later else Nothing) ≡ is_target_written old (if y then failure now (refusal r) c else Nothing) = λ x y. off_by x y in
    if_same old (is_refused r) (if fails_now later r r.status.failure then failure now (refusal r) later else Nothing) (if fails_now c r r.status.failure then failure now (refusal r) c else Nothing)
    (if is_granted r then with_granted now later file target r else while_waiting now later file target r) (if is_granted r then with_granted now c file target r else while_waiting now c file target r)
    (off (fails_now later r r.status.failure) (fails_now c r r.status.failure))
    (if_same old (is_granted r) (with_granted now later file target r) (with_granted now c file target r) (while_waiting now later file target r) (while_waiting now c file target r)
    (if_same old (is_certified file r.status.certificate) (if is_kept_for_keys target then Nothing else Issue (issue_plan now later file r target)) (if is_kept_for_keys target then Nothing else Issue (issue_plan now c file r target))
    (failure now (codes "InvalidCertificate") later) (failure now (codes "InvalidCertificate") c)
    (if_same old (is_kept_for_keys target) Nothing Nothing (Issue (issue_plan now later file r target)) (Issue (issue_plan now c file r target)) refl (plan_same old now version status c file r target))
    (unwritten_failure old now (codes "InvalidCertificate") later ∙ sym (unwritten_failure old now (codes "InvalidCertificate") c)))
    (waiting_off old now later file target r ∙ sym (waiting_off old now c file target r))) where
      none_by : (x : Bool) (a : Act) → is_target_written old a ≡ false → is_target_written old (if x then a else Nothing) ≡ false
      none_by true a is = is
      none_by false a is = refl

      off_by : (x y : Bool) → is_target_written old (if x then failure now (refusal r) (moved version status c) else Nothing) ≡ is_target_written old (if y then failure now (refusal r) c else Nothing)
      off_by x y = none_by x (failure now (refusal r) (moved version status c)) (unwritten_failure old now (refusal r) (moved version status c)) ∙ sym (none_by y (failure now (refusal r) c) (unwritten_failure old now (refusal r) c))

request_same : (old : Option Secret) (now : ℤ) (version : ℕ) (status : CertStatus) (c : Certificate) (file : List ℕ) (target : Option Secret) (next : Option CertificateRequest)
    → is_target_written old (with_request now (moved version status c) file target next) ≡ is_target_written old (with_request now c file target next)
request_same old now version status c file target None = refl
request_same old now version status c file target (Some r) =
    if_same old (is_wanted c file r) (with_wanted now (moved version status c) file target r) (with_wanted now c file target r) Nothing Nothing (wanted_same old now version status c file target r) refl

file_same : (old : Option Secret) (now : ℤ) (version : ℕ) (status : CertStatus) (c : Certificate) (target : Option Secret) (requests : List CertificateRequest) (file : Option (List ℕ)) → status.revision ≡ c.status.revision
    → is_target_written old (with_file now (moved version status c) target requests file) ≡ is_target_written old (with_file now c target requests file)
file_same old now version status c target requests None same = refl
file_same old now version status c target requests (Some file) same =
    if_same old (fits c.spec.key file) (with_request now (moved version status c) file target (next_request status.revision requests)) (with_request now c file target (next_request c.status.revision requests)) Nothing Nothing
    (request_same old now version status c file target (next_request status.revision requests) ∙ ap (λ (n : Option ℕ). is_target_written old (with_request now c file target (next_request n requests))) same) refl

key_same : (old : Option Secret) (now : ℤ) (version : ℕ) (status : CertStatus) (c : Certificate) (target : Option Secret) (requests : List CertificateRequest) (k : Option Secret) → status.revision ≡ c.status.revision
    → is_target_written old (with_key_of now (moved version status c) target requests k) ≡ is_target_written old (with_key_of now c target requests k)
key_same old now version status c target requests None same = refl
key_same old now version status c target requests (Some k) same = file_same old now version status c target requests (key_in k) same

-- a status of the same revision, the same key and the same issuance leaves what is written
pub written_same : (now : ℤ) (seen : Views) (version : ℕ) (status : CertStatus) (c : Certificate) → status.revision ≡ c.status.revision → status.next_key ≡ c.status.next_key → is_issuing (moved version status c) ≡ is_issuing c
    → is_target_written seen.secret (issuing (with_certificate (moved version status c) seen) now) ≡ is_target_written seen.secret (issuing (with_certificate c seen) now)
unfolding issuing
written_same now seen version status c revision key on =
    let named : named_key status.next_key seen.next ≡ named_key c.status.next_key seen.next = ap (λ (n : Option (List ℕ)). named_key n seen.next) key in
    ap (λ (x : Bool). is_target_written seen.secret (if x then with_key_of now (moved version status c) seen.secret seen.requests (named_key status.next_key seen.next) else Nothing)) on
    ∙ ap (λ (k : Option Secret). is_target_written seen.secret (if is_issuing c then with_key_of now (moved version status c) seen.secret seen.requests k else Nothing)) named
    ∙ if_same seen.secret (is_issuing c) (with_key_of now (moved version status c) seen.secret seen.requests (named_key c.status.next_key seen.next)) (with_key_of now c seen.secret seen.requests (named_key c.status.next_key seen.next)) Nothing Nothing
    (key_same seen.secret now version status c seen.secret seen.requests (named_key c.status.next_key seen.next) revision) refl

-- ---- what was written says what is to be said

same_tri : (t : Tri) → tri_eq t t ≡ true
same_tri True = refl
same_tri False = refl
same_tri Unknown = refl

same_text : (text : List ℕ) → bytes_eq text text ≡ true
same_text text = (bytes_eq-Decides text text).1 refl

kept_says : (old : Option Condition) (new : Condition) → says (Some (kept_since old new)) new ≡ true
kept_says None new = rw (same_tri new.status, same_text new.reason, same_text new.message) refl
kept_says (Some old) new = rw (same_tri new.status, same_text new.reason, same_text new.message) refl

same_moment : (o : Option ℤ) → is_same_moment o o ≡ true
same_moment None = refl
same_moment (Some at) = int_eq_equiv.refl at

now_settled : (new : Condition) (renew : Renew) (pair : Option CertificateFields) (status : CertStatus) → new.kind ≡ Ready → is_settled new renew pair (ready_status new renew pair status) ≡ true
unfolding is_settled ready_status
now_settled new renew pair status kind =
    let found : condition_at (transitioned status.conditions new) Ready ≡ Some (kept_since (condition_at status.conditions new.kind) new) = ap (condition_at (transitioned status.conditions new)) (sym kind) ∙ own_found status.conditions new in
    rw (ap (λ (o : Option Condition). says o new) found ∙ kept_says (condition_at status.conditions new.kind) new, same_moment (begins_at pair), same_moment (ends_at pair), same_moment (renews_at renew pair)) refl

of_ready : (now : ℤ) (reason : Option Reason) → (ready_condition now reason).kind ≡ Ready
unfolding ready_condition
of_ready now None = refl
of_ready now (Some reason) = refl

-- ---- what else looks at the Certificate

fresh_by : (c later : Certificate) (file : List ℕ) (r : CertificateRequest) → later.spec ≡ c.spec → later.status.revision ≡ c.status.revision → condition_at later.status.conditions Issuing ≡ condition_at c.status.conditions Issuing → is_fresh_request later file r ≡ is_fresh_request c file r
fresh_by c later file r spec revision same = rw (spec, revision, same) refl

any_same : (p q : CertificateRequest → Bool) (rs : List CertificateRequest) → ((r : CertificateRequest) → p r ≡ q r) → list_any p rs ≡ list_any q rs
any_same p q [] same = refl
any_same p q (r ∷ rs) same = ap (λ (x : Bool). x || list_any p rs) (same r) ∙ ap (λ (x : Bool). q r || x) (any_same p q rs same)

fresh_same : (version : ℕ) (status : CertStatus) (c : Certificate) (rs : List CertificateRequest) (k : Option Secret) → status.revision ≡ c.status.revision → condition_at status.conditions Issuing ≡ condition_at c.status.conditions Issuing
    → has_fresh_for (moved version status c) rs k ≡ has_fresh_for c rs k
fresh_same version status c rs None revision same = refl
fresh_same version status c rs (Some k) revision same = by_file (key_in k) where
  by_file : (file : Option (List ℕ)) → has_fresh (moved version status c) rs file ≡ has_fresh c rs file
  by_file None = refl
  by_file (Some file) = ap (λ (x : Bool). fits c.spec.key file && x) (any_same (is_fresh_request (moved version status c) file) (is_fresh_request c file) rs (λ r. fresh_by c (moved version status c) file r refl revision same))

waiting_same : (last : Option ℤ) (status later : CertStatus) (now : ℤ) → later.attempts ≡ status.attempts → is_waiting_since last later now ≡ is_waiting_since last status now
waiting_same None status later now same = refl
waiting_same (Some at) status later now same = rw same refl

key_part_same : (version : ℕ) (status : CertStatus) (c : Certificate) (next : List Secret) → status.next_key ≡ c.status.next_key → key_part (moved version status c) next ≡ key_part c next
key_part_same version status c [] same = refl
key_part_same version status c (k ∷ ks) same = rw same refl

three_same : (a b : Bool) (d e : Option Reason) (f g : Bool) → a ≡ b → d ≡ e → f ≡ g → (not a && (is_some d && not f)) ≡ (not b && (is_some e && not g))
three_same a b d e f g x y z = rw (x, y, z) refl

by_state : (x : Bool) (now : ℤ) (seen : Views) (version : ℕ) (status : CertStatus) (c : Certificate) → is_issuing c ≡ x → is_issuing (moved version status c) ≡ x → status.revision ≡ c.status.revision → status.next_key ≡ c.status.next_key → status.last_failure ≡ c.status.last_failure
    → status.attempts ≡ c.status.attempts → condition_at status.conditions Issuing ≡ condition_at c.status.conditions Issuing → acts (readiness (with_certificate c seen) now) ≡ true → acts (readiness (with_certificate (moved version status c) seen) now) ≡ false
    → certificate_part now (with_certificate (moved version status c) seen) (Some (moved version status c)) < certificate_part now (with_certificate c seen) (Some c)
by_state true now seen version status c on then_on revision key last tries same asks quiet =
    let later : Certificate = moved version status c in
    let named : named_key status.next_key seen.next ≡ named_key c.status.next_key seen.next = ap (λ (n : Option (List ℕ)). named_key n seen.next) key in
    omega (
      arith,
      while_issued now (with_certificate c seen) c on,
      while_issued now (with_certificate later seen) later then_on,
      ap (weight 1) asks,
      ap (weight 1) quiet,
      key_part_same version status c seen.next key,
      ap (λ (b : Bool). weight 4 (not b)) (fresh_same version status c seen.requests (named_key status.next_key seen.next) revision same ∙ ap (has_fresh_for c seen.requests) named),
      ap (λ (b : Bool). weight 2 (not b)) (written_same now seen version status c revision key (then_on ∙ sym on)),
    )
by_state false now seen version status c off then_off revision key last tries same asks quiet =
    let later : Certificate = moved version status c in
    let held : is_in_back_off now seen.requests later ≡ is_in_back_off now seen.requests c =
    rw (ap (λ (o : Option ℤ). is_waiting_since o status now) last ∙ waiting_same c.status.last_failure c.status status now tries, revision) refl in
    let reason : trigger_reason (frame_of now later) later seen.secret seen.requests ≡ trigger_reason (frame_of now c) c seen.secret seen.requests = rw revision refl in
    let asked : acts (trigger (with_certificate later seen) now) ≡ acts (trigger (with_certificate c seen) now) =
    trigger_acts now seen later ∙ three_same (is_issuing later) (is_issuing c) _ (trigger_reason (frame_of now c) c seen.secret seen.requests) _ (is_in_back_off now seen.requests c) (then_off ∙ sym off) reason held ∙ sym (trigger_acts now seen c) in
    omega (arith, while_not now (with_certificate c seen) c off, while_not now (with_certificate later seen) later then_off, ap (weight 1) asks, ap (weight 1) quiet, ap (λ (o : Option (List ℕ)). weight 1 (is_some o)) key, ap (weight 13) asked)

pub readied_falls : (desk : Desk) (due : ℕ) (now : ℤ) (seen : Views) (c : Certificate) (version : ℕ) → acts (readiness (with_certificate c seen) now) ≡ true
    → measure desk due now
    (with_certificate (certificate_restated version (ready_status (ready_condition now (readiness_reason (frame_of now c) c seen.secret seen.requests)) (frame_of now c).renew (pair_at seen.secret) c.status) c) seen)
    < measure desk due now (with_certificate c seen)
unfolding readiness ready_status
readied_falls desk due now seen c version asks =
    let reason : Option Reason = readiness_reason (frame_of now c) c seen.secret seen.requests in
    let new : Condition = ready_condition now reason in
    let status : CertStatus = ready_status new (frame_of now c).renew (pair_at seen.secret) c.status in
    let later : Certificate = certificate_restated version status c in
    let apart : (condition_rank new.kind == condition_rank Issuing) ≡ false = rw (of_ready now reason) refl in
    let quiet : acts (readiness (with_certificate later seen) now) ≡ false =
    ready_acts new (frame_of now c).renew (pair_at seen.secret) later ∙ ap not (now_settled new (frame_of now c).renew (pair_at seen.secret) c.status (of_ready now reason)) in
    omega (arith, by_state (is_issuing c) now seen version status c refl (other_stated c.status.conditions new Issuing apart) refl refl refl refl (other_found c.status.conditions new Issuing apart) asks quiet)
