-- The status of an issuance that failed lowers the measure.
use Rattle.std.proofs.Common.{◌≡◌, ◌<◌, ◌+◌, ◌&&◌, ℕ, ℤ, List, not, Option, Some, None, refl, sym, ap, subst, ◌∙◌}
use Rattle.std.specs.Prelude.{codes, if◌then◌else◌, nat_le, length}
use Rattle.cmc_meta.specs.declared.key.Key.{Key}
use Rattle.cmc_meta.specs.ConditionLists.{IsInOrder}
use Rattle.cmc_objects.specs.declared.certificate.Certificate.{Certificate}
use Rattle.cmc_objects.specs.declared.certificate.CertStatus.{CertStatus}
use Rattle.cmc_objects.specs.declared.request.CertificateRequest.{CertificateRequest}
use Rattle.cmc_objects.specs.declared.secret.Secret.{Secret as SecretObject}
use Rattle.cmc_objects.specs.declared.object.Object.TheVariants.{Cert}
use Rattle.cmc_objects.specs.declared.call.Call.{Call}
use Rattle.cmc_objects.specs.declared.call.Call.TheVariants.{Get, UpdateStatus}
use Rattle.cmc_objects.specs.declared.call.Reply.{Reply}
use Rattle.cmc_objects.specs.declared.entry.Entry.{Entry}
use Rattle.cmc_objects.specs.declared.entry.Entry.TheVariants.{Call as Called}
use Rattle.cmc_objects.specs.declared.entry.Who.TheVariants.{Pass}
use Rattle.cmc_objects.specs.declared.role.Role.TheVariants.{Issuing}
use Rattle.cmc_objects.specs.Objects.{key_of}
use Rattle.cmc_objects.specs.Requests.{is_denied}
use Rattle.cmc_answers.specs.Temporary.{temporary}
use Rattle.cmc_match.specs.Facts.{fits, key_in}
use Rattle.cmc_match.specs.Marks.{asks_for_temporary}
use Rattle.cmc_match.specs.Revisions.{next_request}
use Rattle.cmc_pass.specs.declared.pass.Act.{Act}
use Rattle.cmc_pass.specs.declared.pass.Act.TheVariants.{Nothing, Call as Calls, Ask as Asks, Issue, Temporary}
use Rattle.cmc_pass.specs.declared.pass.Views.{Views}
use Rattle.cmc_model.specs.Acceptance.{IsFounded}
use Rattle.cmc_model.specs.Replies.{key_of_call, settled, stored}
use Rattle.cmc_model.specs.Histories.{Setting, moment, objects, accepted}
use Rattle.cmc_model.specs.Writes.{writes}
use Rattle.cmc_rules.specs.Acts.{act, call_after}
use Rattle.cmc_rules.specs.Causes.{IsFirstCall, IsNextCall}
use Rattle.cmc_rules.specs.Desks.{desk}
use Rattle.cmc_rules.specs.Issuance.{failed_status, failure, fails_now, is_certified, is_granted, is_kept_for_keys, issue_plan, issuing, issuing_of, lacks_certificate, refusal, status_call, temporary_plan, temporary_with, while_waiting, with_file, with_granted, with_key_of, with_request, with_wanted}
use Rattle.cmc_rules.specs.NextKeys.{named_key}
use Rattle.cmc_rules.specs.NextRequests.{is_refused, is_wanted}
use Rattle.cmc_rules.specs.Trigger.{is_issuing}
use Rattle.cmc_rules.specs.declared.progress.OpenPass.{OpenPass}
use Rattle.cmc_rules.specs.declared.progress.Stage.{Stage}
use Rattle.cmc_rules.specs.declared.progress.Stage.TheVariants.{Fresh}
use Rattle.cmc_rules.proofs.Lines.{by_test}
use Rattle.cmc_rules.proofs.Sights.{seen_certificate}
use Rattle.cmc_run_laws.specs.Issuances.{certificate_restated, with_certificate}
use Rattle.cmc_run_laws.proofs.InOrder.{all_in_order}
use Rattle.cmc_run_laws.proofs.TablesChange.{IsOrderly}
use Rattle.cmc_safety.proofs.Carried.{seen_has}
use Rattle.cmc_safety.proofs.InProgress.{IsPlayed}
use Rattle.cmc_load_laws.specs.Frame.{part_for, seen_of}
use Rattle.cmc_load_laws.specs.LoadRuns.{LowersMeasure, SeesAll}
use Rattle.cmc_load_laws.specs.Measure.{measure}
use Rattle.cmc_load_laws.proofs.CertificateWrites.{seen_with}
use Rattle.cmc_load_laws.proofs.CurrentStatuses.{as_restated, is_seen, its_key, on_present, sees_part}
use Rattle.cmc_load_laws.proofs.Failed.{failed_falls}
use Rattle.cmc_load_laws.proofs.FirstCalls.{IsStatusWrite}
use Rattle.cmc_load_laws.proofs.LoadHistories.{IsForOneIn}
use Rattle.cmc_load_laws.proofs.MeasureLowers.{status_lowers}
use Rattle.cmc_load_laws.proofs.PassRights.{IsAcceptedBy, next_as}

-- ---- the only call of issuing's table is the status of a failure

abbrev OfFailure : ℤ → Certificate → Act → Type 0
OfFailure now c (Calls call) = (reason : List ℕ) × (Calls call ≡ failure now reason c)
OfFailure now c other = Unit {0}

of_failure : (now : ℤ) (reason : List ℕ) (c : Certificate) → OfFailure now c (failure now reason c)
unfolding failure
of_failure now reason c = (reason, refl)

of_stand_in : (now : ℤ) (c : Certificate) (file : List ℕ) (target : Option SecretObject) (o : Option (List ℕ)) → OfFailure now c (temporary_with c file target o)
of_stand_in now c file target None = tt
of_stand_in now c file target (Some certificate) = by_test (OfFailure now c) (nat_le (length certificate) 16777216) (Temporary (temporary_plan c file certificate target)) Nothing (λ short. tt) (λ long. tt)

of_waiting : (now : ℤ) (c : Certificate) (file : List ℕ) (target : Option SecretObject) (r : CertificateRequest) → OfFailure now c (while_waiting now c file target r)
of_waiting now c file target r =
    by_test (OfFailure now c) (asks_for_temporary c && (not (is_denied r) && (not (is_kept_for_keys target) && lacks_certificate file target))) (temporary_with c file target (temporary r.spec.request file now)) Nothing
    (λ on. of_stand_in now c file target (temporary r.spec.request file now)) (λ off. tt)

of_granted : (now : ℤ) (c : Certificate) (file : List ℕ) (target : Option SecretObject) (r : CertificateRequest) → OfFailure now c (with_granted now c file target r)
of_granted now c file target r =
    by_test (OfFailure now c) (is_certified file r.status.certificate) (if is_kept_for_keys target then Nothing else Issue (issue_plan now c file r target)) (failure now (codes "InvalidCertificate") c)
    (λ certified. by_test (OfFailure now c) (is_kept_for_keys target) Nothing (Issue (issue_plan now c file r target)) (λ kept. tt) (λ free. tt)) (λ other. of_failure now (codes "InvalidCertificate") c)

of_wanted : (now : ℤ) (c : Certificate) (file : List ℕ) (target : Option SecretObject) (r : CertificateRequest) → OfFailure now c (with_wanted now c file target r)
of_wanted now c file target r =
    by_test (OfFailure now c) (is_refused r) (if fails_now c r r.status.failure then failure now (refusal r) c else Nothing) (if is_granted r then with_granted now c file target r else while_waiting now c file target r)
    (λ refused. by_test (OfFailure now c) (fails_now c r r.status.failure) (failure now (refusal r) c) Nothing (λ fails. of_failure now (refusal r) c) (λ before. tt))
    (λ open_yet. by_test (OfFailure now c) (is_granted r) (with_granted now c file target r) (while_waiting now c file target r) (λ granted. of_granted now c file target r) (λ waits. of_waiting now c file target r))

of_request : (now : ℤ) (c : Certificate) (file : List ℕ) (target : Option SecretObject) (o : Option CertificateRequest) → OfFailure now c (with_request now c file target o)
of_request now c file target None = tt
of_request now c file target (Some r) = by_test (OfFailure now c) (is_wanted c file r) (with_wanted now c file target r) Nothing (λ wanted. of_wanted now c file target r) (λ other. tt)

of_file : (now : ℤ) (c : Certificate) (target : Option SecretObject) (requests : List CertificateRequest) (o : Option (List ℕ)) → OfFailure now c (with_file now c target requests o)
of_file now c target requests None = tt
of_file now c target requests (Some file) =
    by_test (OfFailure now c) (fits c.spec.key file) (with_request now c file target (next_request c.status.revision requests)) Nothing (λ fit. of_request now c file target (next_request c.status.revision requests)) (λ other. tt)

of_key : (now : ℤ) (c : Certificate) (target : Option SecretObject) (requests : List CertificateRequest) (o : Option SecretObject) → OfFailure now c (with_key_of now c target requests o)
of_key now c target requests None = tt
of_key now c target requests (Some k) = of_file now c target requests (key_in k)

-- ---- the write

-- issuing fails on these views, with this status
abbrev pub IsFailedAs : ℤ → Views → Certificate → CertStatus → Type 0
IsFailedAs now seen c status = (reason : List ℕ) × (status ≡ failed_status now reason c.status) × (issuing seen now ≡ failure now reason c)

failed_call : (now : ℤ) (reason : List ℕ) (c : Certificate) (made : Call) → Calls made ≡ failure now reason c → made ≡ UpdateStatus (Cert (record c { status = failed_status now reason c.status })) c.meta.version
unfolding failure status_call
failed_call now reason c made is = cc is

write_by : (now : ℤ) (seen : Views) (c : Certificate) (does : Act) (call : Call) → seen.certificate ≡ Some c → issuing seen now ≡ does → OfFailure now c does → IsFirstCall does call → ((key : Key) → call ≡ Get key → ⊥)
    → IsStatusWrite seen (IsFailedAs now seen) call
write_by now seen c Nothing call sees is of first live = absurd first
write_by now seen c (Calls made) call sees is of first live = record {
  certificate = c;
  status = failed_status now of.0 c.status;
  sees = sees;
  is = first ∙ failed_call now of.0 c made of.1;
  so = (of.0, refl, is ∙ of.1);
}
write_by now seen c (Asks order) call sees is of first live = absurd first
write_by now seen c (Issue plan) call sees is of first live = absurd (live plan.get first)
write_by now seen c (Temporary plan) call sees is of first live = absurd (live plan.get first)

of_issuing : (now : ℤ) (seen : Views) (c : Certificate) → OfFailure now c (issuing_of now seen.next seen.secret seen.requests (Some c))
of_issuing now seen c =
    by_test (OfFailure now c) (is_issuing c) (with_key_of now c seen.secret seen.requests (named_key c.status.next_key seen.next)) Nothing (λ on. of_key now c seen.secret seen.requests (named_key c.status.next_key seen.next)) (λ idle. tt)

pub write_of : (now : ℤ) (seen : Views) (o : Option Certificate) (call : Call) → seen.certificate ≡ o → IsFirstCall (issuing seen now) call → ((key : Key) → call ≡ Get key → ⊥) → IsStatusWrite seen (IsFailedAs now seen) call
unfolding issuing
write_of now seen None call sees first live = absurd (subst (λ (o : Option Certificate). IsFirstCall (issuing_of now seen.next seen.secret seen.requests o) call) sees first)
write_of now seen (Some c) call sees first live =
    let same : issuing_of now seen.next seen.secret seen.requests seen.certificate ≡ issuing_of now seen.next seen.secret seen.requests (Some c) = ap (issuing_of now seen.next seen.secret seen.requests) sees in
    write_by now seen c (issuing_of now seen.next seen.secret seen.requests (Some c)) call sees same (of_issuing now seen c) (subst (λ (x : Act). IsFirstCall x call) same first) live

-- what is accepted is no live read
pub not_live : (s : Setting) (h : List Entry) (call : Call) (reply : Reply) (key : Key) → IsFounded (objects s h) (settled call reply) → call ≡ Get key → ⊥
unfolding settled IsFounded
not_live s h call reply key on is = subst (λ (x : Call). IsFounded (objects s h) (settled x reply)) is on

-- ---- the measure

issuing_part : (seen : Views) (now : ℤ) → issuing (part_for Issuing seen) now ≡ issuing seen now
unfolding issuing
issuing_part seen now = refl

pub fresh_next : (s : Setting) (h : List Entry) (n : ℕ) (call : Call) (reply : Reply) (a : IsAcceptedBy s h n call reply) → a.caller.pass.role ≡ Issuing → a.caller.pass.stage ≡ Fresh → IsFirstCall (issuing a.caller.pass.seen a.caller.pass.since) call
unfolding act
fresh_next s h n call reply a is fresh =
    let p : OpenPass = a.caller.pass in
    subst (λ (t : Stage). IsNextCall t (act Issuing p.seen p.since (desk s h p.role p.seen)) (call_after Issuing p.seen p.since) call) fresh (next_as s h n call reply a Issuing is)

pub failed_lowers : (s : Setting) (h : List Entry) (n : ℕ) (call : Call) (reply : Reply) (a : IsAcceptedBy s h n call reply) → IsPlayed s h → a.caller.pass.role ≡ Issuing → a.caller.pass.stage ≡ Fresh → SeesAll s h a.caller.pass
    → IsForOneIn (objects s h) (key_of_call (settled call reply)) (stored (accepted s h + 1) (moment s h) (objects s h) (settled call reply)) → LowersMeasure s h (Called (Pass n) call reply)
failed_lowers s h n call reply a o is fresh current one =
    let p : OpenPass = a.caller.pass in
    let now : ℤ = moment s h in
    let there : Views = seen_of (objects s h) p.key in
    let first : IsFirstCall (issuing there now) call =
    subst (λ (x : Act). IsFirstCall x call) (issuing_part there now) (on_present issuing s h p (part_for Issuing there) call (sees_part s h p Issuing refl is current) current.now (fresh_next s h n call reply a is fresh)) in
    let w = write_of now there there.certificate call refl first (λ key live. not_live s h call reply key a.founded live) in
    let c : Certificate = w.certificate in
    let seen : Views = seen_of (objects s h) (key_of (Cert c)) in
    let restated = as_restated s h n call reply a Issuing refl is current (IsFailedAs now there) w in
    let key : p.key ≡ key_of (Cert c) = sym (its_key s h n call reply a Issuing refl is current (IsFailedAs now there) w) in
    let fails : issuing (with_certificate c seen) now ≡ failure now w.so.0 c =
    ap (λ (v : Views). issuing v now) (sym (seen_with (objects s h) c restated.was)) ∙ ap (λ (k : Key). issuing (seen_of (objects s h) k) now) (sym key) ∙ w.so.2 in
    let ordered : IsInOrder c.status.conditions = seen_has IsOrderly (writes s h) p.seen (Cert c) (all_in_order s h o.caused o.follows) a.caller.saw.known
    (seen_certificate p.seen c (is_seen s h n call reply a Issuing refl is current (IsFailedAs now there) w)) in
    status_lowers s h n call reply c w.status a.ok restated one
    (λ desk due rules.
    subst (λ (status : CertStatus). measure desk due now (with_certificate (certificate_restated (accepted s h + 1) status c) seen) < measure desk due now (with_certificate c seen)) (sym w.so.1)
    (failed_falls desk due now seen c w.so.0 (accepted s h + 1) ordered fails))
