-- Issuing lowers the measure where it writes the Secret with what the issuer issued.
use Rattle.std.proofs.Common.{◌≡◌, ◌+◌, ◌<◌, ◌∷◌, [], ℕ, ℤ, List, Bool, true, false, Option, Some, None, refl, sym, ap, subst, ◌∙◌, inl, inr}
use Rattle.std.proofs.lemmas.Bool.{and_parts}
use Rattle.std.proofs.lemmas.Slice.Eq.{bytes_eq-Decides}
use Rattle.std.specs.BTreeMap.{is_at}
use Rattle.std.specs.Prelude.{option_and_then, if◌then◌else◌, ◌&&◌, codes, nat_le, length, not}
use Rattle.std.specs.Str.{bytes_eq}
use Rattle.cmc_meta.specs.declared.key.Key.{Key}
use Rattle.cmc_meta.specs.Keys.{key_cmp}
use Rattle.cmc_objects.specs.declared.certificate.Certificate.{Certificate}
use Rattle.cmc_objects.specs.declared.request.CertificateRequest.{CertificateRequest}
use Rattle.cmc_objects.specs.declared.secret.Secret.{Secret as SecretObject}
use Rattle.cmc_objects.specs.declared.object.Object.{Object}
use Rattle.cmc_objects.specs.declared.object.Object.TheVariants.{Cert, Secret}
use Rattle.cmc_objects.specs.declared.call.Call.{Call}
use Rattle.cmc_objects.specs.declared.call.Reply.{Reply}
use Rattle.cmc_objects.specs.declared.entry.Entry.{Entry}
use Rattle.cmc_objects.specs.declared.entry.Entry.TheVariants.{Call as Called}
use Rattle.cmc_objects.specs.declared.entry.Who.TheVariants.{Pass}
use Rattle.cmc_objects.specs.declared.orders.Order.{Order}
use Rattle.cmc_objects.specs.declared.role.Role.{Role}
use Rattle.cmc_objects.specs.declared.role.Role.TheVariants.{Issuing}
use Rattle.cmc_objects.specs.Objects.{key_of, meta_of, numbered}
use Rattle.cmc_objects.specs.Requests.{is_denied}
use Rattle.cmc_answers.specs.Temporary.{temporary}
use Rattle.cmc_match.specs.Marks.{asks_for_temporary}
use Rattle.cmc_pass.specs.declared.pass.Act.{Act}
use Rattle.cmc_pass.specs.declared.pass.Act.TheVariants.{Nothing, Call as Calls, Ask as Asks, Issue, Temporary}
use Rattle.cmc_pass.specs.declared.pass.Desk.{Desk}
use Rattle.cmc_pass.specs.declared.pass.IssuePlan.{IssuePlan}
use Rattle.cmc_pass.specs.declared.pass.Views.{Views}
use Rattle.cmc_pass.specs.declared.value.Value.{Value}
use Rattle.cmc_model.specs.Acceptance.{IsFounded}
use Rattle.cmc_model.specs.Objects.{Objects, object_at}
use Rattle.cmc_model.specs.Replies.{from_old, key_of_call, put_at, settled, stored}
use Rattle.cmc_model.specs.Stored.{created, revised, updated}
use Rattle.cmc_model.specs.Histories.{Setting, moment, objects, accepted}
use Rattle.cmc_informer.specs.Caches.{is_owned_by, names}
use Rattle.cmc_rules.specs.declared.progress.OpenPass.{OpenPass}
use Rattle.cmc_rules.specs.declared.progress.Stage.{Stage}
use Rattle.cmc_rules.specs.declared.progress.Stage.TheVariants.{Fresh, Asked, Given, Read, Saved, Wrote, Refused, Barred}
use Rattle.cmc_rules.specs.Acts.{act, call_after}
use Rattle.cmc_rules.specs.Causes.{IsNextCall, IsSecretCall}
use Rattle.cmc_rules.specs.Desks.{desk}
use Rattle.cmc_rules.specs.Issuance.{failure, fails_now, filled, is_certified, is_granted, is_kept_for_keys, issue_plan, issuing, issuing_of, lacks_certificate, marks, new_target, old_target, refusal, secret_call, temporary_plan, temporary_with, while_waiting, with_granted, with_wanted}
use Rattle.cmc_rules.specs.NextRequests.{is_refused}
use Rattle.cmc_rules.specs.Passes.{is_temporary_act}
use Rattle.cmc_rules.specs.Sound.{IsWithin}
use Rattle.cmc_rules.specs.Trigger.{is_issuing}
use Rattle.cmc_rules.specs.Views.{certificate_in, views_in, views_of}
use Rattle.cmc_rules.proofs.Sighted.{stands_as_seen}
use Rattle.cmc_rules.proofs.Sights.{seen_secret}
use Rattle.cmc_rules.proofs.Versions.{version_keyed}
use Rattle.cmc_run_laws.specs.Issuances.{with_certificate, with_secret}
use Rattle.cmc_run_laws.proofs.Going.{IsGoing, acts, going, going_is}
use Rattle.cmc_safety.proofs.Course.{AreSound, within_act}
use Rattle.cmc_safety.proofs.NextCalls.{marked_by}
use Rattle.cmc_load_laws.specs.Belonging.{IsOfOrNone, IsParted}
use Rattle.cmc_load_laws.specs.Frame.{IsUnowned, is_of, key_of_target, part_for, seen_of}
use Rattle.cmc_load_laws.specs.LoadRuns.{LowersMeasure, SeesAll, WritesIssued}
use Rattle.cmc_load_laws.specs.Measure.{is_left, is_target_written, measure, same_pairs}
use Rattle.cmc_load_laws.proofs.Belonging.{certificate_of, itself, not_true, one_certificate}
use Rattle.cmc_load_laws.proofs.CertificateWrites.{seen_with}
use Rattle.cmc_load_laws.proofs.CurrentStatuses.{sees_part}
use Rattle.cmc_load_laws.proofs.Elsewhere.{elsewhere_at, no_next, none_owned}
use Rattle.cmc_load_laws.proofs.LoadHistories.{IsForOneIn, put_there}
use Rattle.cmc_load_laws.proofs.MeasureLowers.{LowersOver, lowers_measure, lowers_over}
use Rattle.cmc_load_laws.proofs.OneWrite.{one_write, only_secret}
use Rattle.cmc_load_laws.proofs.PassRights.{IsAcceptedBy, next_as}
use Rattle.cmc_load_laws.proofs.Stored.{IsGranted, stored_falls}
use Rattle.cmc_load_laws.proofs.Totals.{one_key}
use Rattle.cmc_load_laws.proofs.WritesForOne.{of_target_key}

-- ---- the plan

record HasPlan (does : Act) (call : Call) : Type 0 where
  plan : IssuePlan
  is : does ≡ Issue plan
  calls : call ≡ plan.secret

of_plan : (does : Act) (call : Call) → IsSecretCall does call → is_temporary_act does ≡ false → HasPlan does call
of_plan Nothing call is off = absurd is
of_plan (Calls first) call is off = absurd is
of_plan (Asks order) call is off = absurd is
of_plan (Issue plan) call is off = record { plan = plan; is = refl; calls = is }
of_plan (Temporary plan) call is off = absurd (cc off)

plan_at : (stage : Stage) (after : Order → Value → Option Call) (seen : Views) (since : ℤ) (d : Desk) (call : Call) → WritesIssued stage call → IsWithin Issuing after seen since (act Issuing seen since d) → IsNextCall stage (act Issuing seen since d) after call
    → HasPlan (issuing seen since) call
unfolding act
plan_at Read after seen since d call writes within next =
    of_plan (issuing seen since) call next (sym (marked_by Issuing after seen since (issuing seen since) call within next).1 ∙ writes)
plan_at Fresh after seen since d call writes within next = absurd writes
plan_at (Asked order) after seen since d call writes within next = absurd writes
plan_at (Given order value) after seen since d call writes within next = absurd writes
plan_at Saved after seen since d call writes within next = absurd writes
plan_at Wrote after seen since d call writes within next = absurd writes
plan_at (Refused entry obstacle) after seen since d call writes within next = absurd writes
plan_at Barred after seen since d call writes within next = absurd writes

planning : (seen : Views) (now : ℤ) (plan : IssuePlan) (o : Option Certificate) → issuing_of now seen.next seen.secret seen.requests o ≡ Issue plan → (c : Certificate) × (o ≡ Some c)
planning seen now plan None is = absurd (cc is)
planning seen now plan (Some c) is = (c, refl)

pub sees_one : (seen : Views) (now : ℤ) (plan : IssuePlan) → issuing seen now ≡ Issue plan → (c : Certificate) × (seen.certificate ≡ Some c)
unfolding issuing
sees_one seen now plan is = planning seen now plan seen.certificate is

-- what is granted and certified is planned
pub record IsPlanned (now : ℤ) (c : Certificate) (file : List ℕ) (target : Option SecretObject) (r : CertificateRequest) (plan : IssuePlan) : Type 0 where
  pub granted : IsGranted c file r
  pub free : is_kept_for_keys target ≡ false
  pub is : plan ≡ issue_plan now c file r target

no_issue_if : (b : Bool) (x : Act) (plan : IssuePlan) → (x ≡ Issue plan → ⊥) → (if b then x else Nothing) ≡ Issue plan → ⊥
no_issue_if true x plan other is = other is
no_issue_if false x plan other is = absurd (cc is)

no_failure : (now : ℤ) (reason : List ℕ) (c : Certificate) (plan : IssuePlan) → failure now reason c ≡ Issue plan → ⊥
unfolding failure
no_failure now reason c plan is = absurd (cc is)

no_stand_in : (c : Certificate) (file : List ℕ) (target : Option SecretObject) (made : Option (List ℕ)) (plan : IssuePlan) → temporary_with c file target made ≡ Issue plan → ⊥
no_stand_in c file target None plan is = absurd (cc is)
no_stand_in c file target (Some certificate) plan is = no_issue_if (nat_le (length certificate) 16777216) (Temporary (temporary_plan c file certificate target)) plan (λ e. absurd (cc e)) is

no_waiting : (now : ℤ) (c : Certificate) (file : List ℕ) (target : Option SecretObject) (r : CertificateRequest) (plan : IssuePlan) → while_waiting now c file target r ≡ Issue plan → ⊥
no_waiting now c file target r plan is =
    no_issue_if (asks_for_temporary c && (not (is_denied r) && (not (is_kept_for_keys target) && lacks_certificate file target))) (temporary_with c file target (temporary r.spec.request file now)) plan
    (λ e. no_stand_in c file target (temporary r.spec.request file now) plan e) is

by_granted : (x y : Bool) (now : ℤ) (c : Certificate) (file : List ℕ) (target : Option SecretObject) (r : CertificateRequest) (plan : IssuePlan) → is_certified file r.status.certificate ≡ x → is_kept_for_keys target ≡ y
    → (if x then (if y then Nothing else Issue (issue_plan now c file r target)) else failure now (codes "InvalidCertificate") c) ≡ Issue plan
    → (is_certified file r.status.certificate ≡ true) × (is_kept_for_keys target ≡ false) × (plan ≡ issue_plan now c file r target)
by_granted true true now c file target r plan a b is = absurd (cc is)
by_granted true false now c file target r plan a b is = (a, b, sym (let same : issue_plan now c file r target ≡ plan = cc is in same))
by_granted false y now c file target r plan a b is = absurd (no_failure now (codes "InvalidCertificate") c plan is)

by_wanted : (x y : Bool) (now : ℤ) (c : Certificate) (file : List ℕ) (target : Option SecretObject) (r : CertificateRequest) (plan : IssuePlan) → is_refused r ≡ x → is_granted r ≡ y
    → (if x then (if fails_now c r r.status.failure then failure now (refusal r) c else Nothing) else (if y then with_granted now c file target r else while_waiting now c file target r)) ≡ Issue plan
    → IsPlanned now c file target r plan
by_wanted true y now c file target r plan a b is = absurd (no_issue_if (fails_now c r r.status.failure) (failure now (refusal r) c) plan (λ e. no_failure now (refusal r) c plan e) is)
by_wanted false false now c file target r plan a b is = absurd (no_waiting now c file target r plan is)
by_wanted false true now c file target r plan a b is =
    let three = by_granted (is_certified file r.status.certificate) (is_kept_for_keys target) now c file target r plan refl refl is in
    record { granted = record { not_refused = a; granted = b; certified = three.0 }; free = three.1; is = three.2 }

pub is_planned : (now : ℤ) (c : Certificate) (file : List ℕ) (target : Option SecretObject) (r : CertificateRequest) (plan : IssuePlan) → with_wanted now c file target r ≡ Issue plan → IsPlanned now c file target r plan
is_planned now c file target r plan is = by_wanted (is_refused r) (is_granted r) now c file target r plan refl refl is

-- ---- what is stored

same_by : (p q : List ℕ × List ℕ) → bytes_eq p.0 q.0 ≡ true → bytes_eq p.1 q.1 ≡ true → p ≡ q
same_by p q one other =
    let first = (bytes_eq-Decides p.0 q.0).0 one in
    let second = (bytes_eq-Decides p.1 q.1).0 other in
    λ i. (first i, second i)

pairs_same : (ps qs : List (List ℕ × List ℕ)) → same_pairs ps qs ≡ true → ps ≡ qs
pairs_same [] [] is = refl
pairs_same [] (q ∷ qs) is = absurd (cc is)
pairs_same (p ∷ ps) [] is = absurd (cc is)
pairs_same (p ∷ ps) (q ∷ qs) is =
    let outer = and_parts (bytes_eq p.0 q.0) (bytes_eq p.1 q.1 && same_pairs ps qs) is in
    let inner = and_parts (bytes_eq p.1 q.1) (same_pairs ps qs) outer.1 in
    let head = same_by p q outer.0 inner.0 in
    let tail = pairs_same ps qs inner.1 in
    λ i. head i ∷ tail i

-- what is written again changes nothing
unchanged : (c : Certificate) (file certificate ca : List ℕ) (old : SecretObject) → is_left (Some old) (secret_call false c file certificate ca (Some old)) ≡ true → updated (Secret old) (Secret (old_target false c file certificate ca old)) ≡ Secret old
unfolding secret_call updated old_target
unchanged c file certificate ca old left =
    let both = and_parts (same_pairs (marks false c old.meta.annotations) old.meta.annotations) (same_pairs (filled file certificate ca old.parts) old.parts) left in
    let annotations = pairs_same (marks false c old.meta.annotations) old.meta.annotations both.0 in
    let parts = pairs_same (filled file certificate ca old.parts) old.parts both.1 in
    λ i. Secret (record old { meta = record old.meta { annotations = annotations i }; parts = parts i })

record IsStoredTarget (s : Setting) (h : List Entry) (call : Call) (reply : Reply) (c : Certificate) (file certificate ca : List ℕ) (target : Option SecretObject) : Type 0 where
  key : key_of_call (settled call reply) ≡ key_of_target c
  made : SecretObject
  is : stored (accepted s h + 1) (moment s h) (objects s h) (settled call reply) ≡ Some (Secret made)
  annotations : List (List ℕ × List ℕ)
  parts : List (List ℕ × List ℕ)
  one : made.meta.annotations ≡ marks false c annotations
  two : made.parts ≡ filled file certificate ca parts
  free : is_kept_for_keys (Some made) ≡ false
  unwritten : is_left target (secret_call false c file certificate ca target) ≡ false

stored_new : (s : Setting) (h : List Entry) (reply : Reply) (c : Certificate) (file certificate ca : List ℕ) → IsStoredTarget s h (secret_call false c file certificate ca None) reply c file certificate ca None
unfolding settled secret_call new_target created
stored_new s h reply c file certificate ca = record { key = refl; made = _; is = refl; annotations = []; parts = []; one = refl; two = refl; free = refl; unwritten = refl }

stored_old : (s : Setting) (h : List Entry) (seen : Views) (reply : Reply) (c : Certificate) (file certificate ca : List ℕ) (old : SecretObject) (place : Key) → place ≡ key_of_target c → place ≡ key_of (Secret old)
    → object_at (objects s h) place ≡ Some (Secret old) → is_kept_for_keys (Some old) ≡ false → (updated (Secret old) (Secret (old_target false c file certificate ca old)) ≡ Secret old → ⊥)
    → IsStoredTarget s h (secret_call false c file certificate ca (Some old)) reply c file certificate ca (Some old)
unfolding settled secret_call old_target numbered updated
stored_old s h seen reply c file certificate ca old place target own there free change = record {
  key = sym own ∙ target;
  made = _;
  is = ap (from_old (λ (o : Object). revised (accepted s h + 1) o (Secret (old_target false c file certificate ca old)))) (ap (object_at (objects s h)) (sym own) ∙ there);
  annotations = old.meta.annotations;
  parts = old.parts;
  one = refl;
  two = refl;
  free = free;
  unwritten = not_true (is_left (Some old) (secret_call false c file certificate ca (Some old))) (λ on. change (unchanged c file certificate ca old on));
}

-- ---- what there is to see

no_own : (c : Certificate) → is_at (key_cmp (key_of (Cert c))) (key_of_target c) ≡ false
no_own c = not_true (is_at (key_cmp (key_of (Cert c))) (key_of_target c)) (λ on. absurd (let kind = ap (λ (k : Key). k.kind) (one_key (key_of (Cert c)) (key_of_target c) on) in cc kind))

-- what a Certificate names it does not own
unowned_by : (c : Certificate) (o : Option Object) → ((x : Object) → o ≡ Some x → (meta_of x).owners ≡ []) → IsUnowned c o
unowned_by c None none = (refl, refl)
unowned_by c (Some x) none =
    let off : is_owned_by c.meta.uid (Some x) ≡ false = ap (names c.meta.uid) (none x refl) in
    (no_next c (Some x) off, none_owned c (Some x) off)

unowned : (m : Objects) (c : Certificate) → IsParted m → object_at m (key_of (Cert c)) ≡ Some (Cert c) → IsUnowned c (object_at m (key_of_target c))
unowned m c parted present = unowned_by c (object_at m (key_of_target c)) (λ x is. parted.targets (key_of (Cert c)) c x present is)

module _ (s : Setting) (now : ℤ) (m : Objects) (c : Certificate) (k : SecretObject) (one : IsForOneIn m (key_of_target c) (Some (Secret k))) (present : object_at m (key_of (Cert c)) ≡ Some (Cert c)) where
  later_one : object_at (put_at m (key_of_target c) (Some (Secret k))) (key_of (Cert c)) ≡ Some (Cert c)
  later_one = elsewhere_at m (key_of_target c) (Some (Secret k)) (key_of (Cert c)) (no_own c) ∙ present

  pub after_is : seen_of (put_at m (key_of_target c) (Some (Secret k))) (key_of (Cert c)) ≡ with_secret k (with_certificate c (seen_of m (key_of (Cert c))))
  after_is =
      let own : Key = key_of (Cert c) in
      let key : Key = key_of_target c in
      let new : Option Object = Some (Secret k) in
      let n : Objects = put_at m key new in
      let left : IsUnowned c new = subst (IsUnowned c) (put_there m key new) (unowned n c one.later later_one) in
      only_secret own c key (object_at m key) new (seen_of m own) (seen_of n own)
      (one_write m own key new c c (ap (option_and_then certificate_in) present) (ap (option_and_then certificate_in) later_one) (record { namespace = refl; uid = refl; secret_name = refl })) (no_own c) (itself key)
      (unowned m c one.parted present) left ∙ ap (λ (v : Views). with_secret k v) (seen_with m c present)

  its_own : one.own ≡ key_of (Cert c)
  its_own = by one.write.leaves where
    n : Objects
    n = put_at m (key_of_target c) (Some (Secret k))

    by : IsOfOrNone one.own one.write.after (key_of_target c) (Some (Secret k)) → one.own ≡ key_of (Cert c)
    by (inl none) = absurd (cc none)
    by (inr on) =
        one_certificate n one.later one.own (key_of (Cert c)) (key_of_target c) one.write.after c one.write.is (ap (option_and_then certificate_in) later_one)
        (subst (λ (o : Option Object). is_of one.own one.write.after (key_of_target c) o ≡ true) (sym (put_there m (key_of_target c) (Some (Secret k)))) on) (of_target_key (key_of (Cert c)) c (key_of_target c) (object_at n (key_of_target c)) refl)

  secret_over : ((desk : Desk) (due : ℕ) → measure desk due now (with_secret k (with_certificate c (seen_of m (key_of (Cert c))))) < measure desk due now (with_certificate c (seen_of m (key_of (Cert c)))))
      → LowersOver s now m (put_at m (key_of_target c) (Some (Secret k)))
  secret_over falls =
      let own : Key = key_of (Cert c) in
      let v : Views = seen_of m own in
      lowers_over s now m (key_of_target c) (Some (Secret k)) one own (c, ap (option_and_then certificate_in) present) its_own
      (λ desk due rules.
      subst (λ (w : Views). measure desk due now w < measure desk due now v) (sym after_is)
      (subst (λ (w : Views). measure desk due now (with_secret k (with_certificate c v)) < measure desk due now w) (sym (seen_with m c present)) (falls desk due)))

-- ---- a pass of issuing

acts_plan : (does : Act) (plan : IssuePlan) → does ≡ Issue plan → acts does ≡ true
acts_plan does plan is = ap acts is

on_part : (seen : Views) (now : ℤ) → issuing (part_for Issuing seen) now ≡ issuing seen now
unfolding issuing
on_part seen now = refl

planned_secret : (now : ℤ) (c : Certificate) (file : List ℕ) (r : CertificateRequest) (target : Option SecretObject) → (issue_plan now c file r target).secret ≡ secret_call false c file r.status.certificate r.status.ca target
unfolding issue_plan
planned_secret now c file r target = refl

module _ (s : Setting) (h : List Entry) (n : ℕ) (call : Call) (reply : Reply) (a : IsAcceptedBy s h n call reply) (is_role : a.caller.pass.role ≡ Issuing) (current : SeesAll s h a.caller.pass) (p : HasPlan (issuing a.caller.pass.seen a.caller.pass.since) call)
    (c : Certificate) (sees : a.caller.pass.seen.certificate ≡ Some c) (one : IsForOneIn (objects s h) (key_of_call (settled call reply)) (stored (accepted s h + 1) (moment s h) (objects s h) (settled call reply))) where
  key_is : key_of (Cert c) ≡ a.caller.pass.key
  key_is = version_keyed s h a.caller.pass.key (Cert c) a.legal (a.caller.version c sees)

  part : a.caller.pass.seen ≡ part_for Issuing (seen_of (objects s h) a.caller.pass.key)
  part = sees_part s h a.caller.pass Issuing refl is_role current

  present : object_at (objects s h) (key_of (Cert c)) ≡ Some (Cert c)
  unfolding views_in views_of
  present = ap (object_at (objects s h)) key_is ∙ certificate_of (object_at (objects s h) a.caller.pass.key) c (sym (ap (λ (v : Views). v.certificate) part) ∙ sees)

  secret_is : (seen_of (objects s h) (key_of (Cert c))).secret ≡ a.caller.pass.seen.secret
  secret_is = ap (λ (k : Key). (seen_of (objects s h) k).secret) key_is ∙ sym (ap (λ (v : Views). v.secret) part)

  plans : issuing (with_certificate c (seen_of (objects s h) (key_of (Cert c)))) (moment s h) ≡ Issue p.plan
  plans =
      ap (λ (v : Views). issuing v (moment s h)) (sym (seen_with (objects s h) c present)) ∙ ap (λ (k : Key). issuing (seen_of (objects s h) k) (moment s h)) key_is
      ∙ sym (on_part (seen_of (objects s h) a.caller.pass.key) (moment s h)) ∙ ap (λ (v : Views). issuing v (moment s h)) (sym part) ∙ ap (issuing a.caller.pass.seen) (sym current.now) ∙ p.is

  -- the target as it is seen, and as it is stored
  target_by : (file : List ℕ) (r : CertificateRequest) (target : Option SecretObject) → a.caller.pass.seen.secret ≡ target → is_kept_for_keys target ≡ false → IsFounded (objects s h) (settled (secret_call false c file r.status.certificate r.status.ca target) reply)
      → IsStoredTarget s h (secret_call false c file r.status.certificate r.status.ca target) reply c file r.status.certificate r.status.ca target
  unfolding settled secret_call IsFounded old_target
  target_by file r None is free on = stored_new s h reply c file r.status.certificate r.status.ca
  target_by file r (Some old) is free on =
      let place : Key = key_of (Secret old) in
      let same : Secret old ≡ on.0 = stands_as_seen s h a.caller.pass.seen place old.meta.version (Secret old) on.0 a.legal a.caller.saw.known (seen_secret a.caller.pass.seen old is) refl on.1 on.2.version in
      let namespace : old.meta.namespace ≡ c.meta.namespace = a.caller.saw.well.target_namespace c old sees is in
      let name : old.meta.name ≡ c.spec.secret_name = a.caller.saw.well.target_name c old sees is in
      let target : place ≡ key_of_target c = λ i. record { kind = (key_of_target c).kind; namespace = namespace i; name = name i } in
      stored_old s h a.caller.pass.seen reply c file r.status.certificate r.status.ca old place target refl (on.1 ∙ ap Some (sym same)) free
      (λ still. on.2.change (subst (λ (o : Object). updated o (Secret (old_target false c file r.status.certificate r.status.ca old)) ≡ o) same still))

  secret_lowers_by : (is_issuing c ≡ true) × IsGoing c (seen_of (objects s h) (key_of (Cert c))).next (seen_of (objects s h) (key_of (Cert c))).requests → LowersMeasure s h (Called (Pass n) call reply)
  secret_lowers_by going_on =
      let m : Objects = objects s h in
      let v : Views = seen_of m (key_of (Cert c)) in
      let now : ℤ = moment s h in
      let on : is_issuing c ≡ true = going_on.0 in
      let g : IsGoing c v.next v.requests = going_on.1 in
      let r : CertificateRequest = g.request in
      let planned : IsPlanned now c g.file v.secret r p.plan = is_planned now c g.file v.secret r p.plan (sym (going_is now v c g on) ∙ plans) in
      let secret : p.plan.secret ≡ secret_call false c g.file r.status.certificate r.status.ca v.secret = ap (λ (q : IssuePlan). q.secret) planned.is ∙ planned_secret now c g.file r v.secret in
      let call_is : call ≡ secret_call false c g.file r.status.certificate r.status.ca v.secret = p.calls ∙ secret in
      let w = target_by g.file r v.secret (sym secret_is) planned.free (subst (λ (x : Call). IsFounded m (settled x reply)) call_is a.founded) in
      let t = subst (λ (x : Call). IsStoredTarget s h x reply c g.file r.status.certificate r.status.ca v.secret) (sym call_is) w in
      let new : Option Object = stored (accepted s h + 1) now m (settled call reply) in
      let here = subst (λ (x : Option Object). IsForOneIn m (key_of_target c) x) t.is (subst (λ (q : Key). IsForOneIn m q new) t.key one) in
      let unwritten : is_target_written v.secret (issuing (with_certificate c v) now) ≡ false = ap (is_target_written v.secret) plans ∙ ap (is_left v.secret) secret ∙ t.unwritten in
      let over = secret_over s now m c t.made here present (λ desk due. stored_falls desk due now v c t.made t.annotations t.parts g on planned.granted unwritten t.free t.one t.two) in
      lowers_measure s h n call reply a.ok
      (subst (λ (q : Key). LowersOver s now m (put_at m q new)) (sym t.key) (subst (λ (x : Option Object). LowersOver s now m (put_at m (key_of_target c) x)) (sym t.is) over))

  secret_lowers : LowersMeasure s h (Called (Pass n) call reply)
  secret_lowers = secret_lowers_by (going (moment s h) (seen_of (objects s h) (key_of (Cert c))) c (acts_plan (issuing (with_certificate c (seen_of (objects s h) (key_of (Cert c)))) (moment s h)) p.plan plans))

pub issuing_lowers : AreSound → (s : Setting) (h : List Entry) (n : ℕ) (call : Call) (reply : Reply) (a : IsAcceptedBy s h n call reply) → a.caller.pass.role ≡ Issuing → SeesAll s h a.caller.pass → WritesIssued a.caller.pass.stage call
    → IsForOneIn (objects s h) (key_of_call (settled call reply)) (stored (accepted s h + 1) (moment s h) (objects s h) (settled call reply)) → LowersMeasure s h (Called (Pass n) call reply)
issuing_lowers sound s h n call reply a is current writes one =
    let q : OpenPass = a.caller.pass in
    let d : Desk = desk s h q.role q.seen in
    let within : IsWithin Issuing (call_after Issuing q.seen q.since) q.seen q.since (act Issuing q.seen q.since d) =
    subst (λ (r : Role). IsWithin r (call_after r q.seen q.since) q.seen q.since (act r q.seen q.since d)) is (within_act sound s h q a.caller.saw) in
    let p = plan_at q.stage (call_after Issuing q.seen q.since) q.seen q.since d call writes within (next_as s h n call reply a Issuing is) in
    let c = sees_one q.seen q.since p.plan p.is in
    secret_lowers s h n call reply a is current p c.0 c.1 one
