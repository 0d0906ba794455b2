-- The writes of the revision manager lower the measure, where what goes is of an earlier revision.
use Rattle.std.proofs.Common.{◌≡◌, ◌⊎◌, ◌+◌, ◌∷◌, [], ℕ, List, length, Bool, true, false, Option, Some, None, refl, sym, ap, subst, ◌∙◌, inl, inr}
use Rattle.std.specs.Prelude.{if◌then◌else◌, filter, nat_lt}
use Rattle.cmc_meta.specs.declared.conditions.ConditionKind.TheVariants as conditions
use Rattle.cmc_meta.specs.declared.key.Key.{Key}
use Rattle.cmc_objects.specs.declared.certificate.Certificate.{Certificate}
use Rattle.cmc_objects.specs.declared.request.CertificateRequest.{CertificateRequest}
use Rattle.cmc_objects.specs.declared.object.Object.{Object}
use Rattle.cmc_objects.specs.declared.object.Object.TheVariants.{Cert, Request}
use Rattle.cmc_objects.specs.declared.call.Call.{Call}
use Rattle.cmc_objects.specs.declared.call.Call.TheVariants.{Delete}
use Rattle.cmc_objects.specs.declared.call.Reply.{Reply}
use Rattle.cmc_objects.specs.declared.entry.Entry.{Entry}
use Rattle.cmc_objects.specs.declared.entry.Entry.TheVariants.{Call as Called}
use Rattle.cmc_objects.specs.declared.entry.Who.TheVariants.{Pass}
use Rattle.cmc_objects.specs.declared.role.Role.TheVariants.{Revision}
use Rattle.cmc_objects.specs.Objects.{key_of}
use Rattle.cmc_objects.specs.Requests.{is_stated}
use Rattle.cmc_pass.specs.declared.pass.Act.{Act}
use Rattle.cmc_pass.specs.declared.pass.Act.TheVariants.{Nothing, Call as Calls, Ask as Asks, Issue, Temporary}
use Rattle.cmc_pass.specs.declared.pass.Views.{Views}
use Rattle.cmc_model.specs.Objects.{Objects, object_at}
use Rattle.cmc_model.specs.Replies.{key_of_call, put_at, settled, stored}
use Rattle.cmc_model.specs.Histories.{Setting, moment, objects, accepted}
use Rattle.cmc_rules.specs.Acts.{act, call_after}
use Rattle.cmc_rules.specs.Causes.{IsFirstCall}
use Rattle.cmc_rules.specs.RevisionManager.{by_limit, counts, delete_call, delete_of, older_of, oldest_from, oldest_of, revise, revise_of, revision}
use Rattle.cmc_rules.specs.SeenObjects.{IsAmong}
use Rattle.cmc_rules.specs.Trigger.{is_issuing}
use Rattle.cmc_rules.specs.Views.{views_in, views_of}
use Rattle.cmc_rules.proofs.Lines.{by_test}
use Rattle.cmc_rules.proofs.Sights.{left_among}
use Rattle.cmc_rules.proofs.Versions.{version_keyed}
use Rattle.cmc_load_laws.specs.Frame.{part_for, seen_of}
use Rattle.cmc_load_laws.specs.LoadRuns.{HasOldRequest, LowersMeasure, SeesAll}
use Rattle.cmc_load_laws.proofs.Belonging.{certificate_of}
use Rattle.cmc_load_laws.proofs.CurrentRequests.{is_dropped_request}
use Rattle.cmc_load_laws.proofs.CurrentStatuses.{sees_part}
use Rattle.cmc_load_laws.proofs.FirstCalls.{only_first}
use Rattle.cmc_load_laws.proofs.LoadHistories.{IsForOneIn}
use Rattle.cmc_load_laws.proofs.MeasureLowers.{LowersOver, lowers_measure}
use Rattle.cmc_load_laws.proofs.OwnedRequests.{dropped_over}
use Rattle.cmc_load_laws.proofs.PassRights.{IsAcceptedBy, call_as, next_as}
use Rattle.cmc_load_laws.proofs.Revised.{revised_falls}

-- the oldest request that counts goes, where nothing is issued
record IsOldDrop (seen : Views) (call : Call) : Type 0 where
  certificate : Certificate
  sees : seen.certificate ≡ Some certificate
  idle : is_issuing certificate ≡ false
  request : CertificateRequest
  oldest : oldest_of (filter counts seen.requests) ≡ Some request
  is : call ≡ Delete (key_of (Request request)) (Some request.meta.version)

abbrev OfRevision : Views → Act → Type 0
OfRevision seen Nothing = Unit {0}
OfRevision seen (Calls call) = IsOldDrop seen call
OfRevision seen other = ⊥

of_oldest : (seen : Views) (c : Certificate) (r : Option CertificateRequest) → seen.certificate ≡ Some c → is_issuing c ≡ false → oldest_of (filter counts seen.requests) ≡ r → OfRevision seen (delete_of r)
unfolding delete_call
of_oldest seen c None sees off is = tt
of_oldest seen c (Some r) sees off is = record { certificate = c; sees = sees; idle = off; request = r; oldest = is; is = refl }

of_limit : (seen : Views) (c : Certificate) (limit : Option ℕ) → seen.certificate ≡ Some c → is_issuing c ≡ false → OfRevision seen (by_limit limit seen.requests)
of_limit seen c None sees off = tt
of_limit seen c (Some limit) sees off =
    by_test (OfRevision seen) (nat_lt limit (length (filter counts seen.requests))) (delete_of (oldest_of (filter counts seen.requests))) Nothing
    (λ above. of_oldest seen c (oldest_of (filter counts seen.requests)) sees off refl) (λ within. tt)

of_certificate : (seen : Views) (o : Option Certificate) → seen.certificate ≡ o → OfRevision seen (revise_of seen.requests o)
of_certificate seen None sees = tt
of_certificate seen (Some c) sees =
    by_test (OfRevision seen) (is_stated conditions.Issuing c.status.conditions) Nothing (by_limit c.spec.history_limit seen.requests) (λ on. tt) (λ off. of_limit seen c c.spec.history_limit sees off)

first_by : (seen : Views) (does : Act) (call : Call) → OfRevision seen does → IsFirstCall does call → IsOldDrop seen call
first_by seen Nothing call of first = absurd first
first_by seen (Calls made) call of first = subst (IsOldDrop seen) (sym first) of
first_by seen (Asks order) call of first = absurd first
first_by seen (Issue plan) call of first = absurd of
first_by seen (Temporary plan) call of first = absurd of

first_revision : (seen : Views) (call : Call) → IsFirstCall (revise seen) call → IsOldDrop seen call
unfolding revise
first_revision seen call first = first_by seen (revise_of seen.requests seen.certificate) call (of_certificate seen seen.certificate refl) first

-- ---- the oldest is one of them

either_of : (b : Bool) (x y r : CertificateRequest) → (if b then Some x else Some y) ≡ Some r → (x ≡ r) ⊎ (y ≡ r)
either_of true x y r is = inl (cc is)
either_of false x y r is = inr (cc is)

older_is : (o : Option CertificateRequest) (x r : CertificateRequest) → older_of o x ≡ Some r → (o ≡ Some r) ⊎ (x ≡ r)
older_is None x r is = inr (cc is)
older_is (Some y) x r is = by (either_of (nat_lt (revision x) (revision y)) x y r is) where
  by : (x ≡ r) ⊎ (y ≡ r) → (Some y ≡ Some r) ⊎ (x ≡ r)
  by (inl same) = inr same
  by (inr same) = inl (ap Some same)

oldest_among : (o : Option CertificateRequest) (xs : List CertificateRequest) (r : CertificateRequest) → oldest_from o xs ≡ Some r → (o ≡ Some r) ⊎ IsAmong r xs
oldest_among o [] r is = inl is
oldest_among o (x ∷ xs) r is = by (oldest_among (older_of o x) xs r is) where
  of_older : (o ≡ Some r) ⊎ (x ≡ r) → (o ≡ Some r) ⊎ IsAmong r (x ∷ xs)
  of_older (inl same) = inl same
  of_older (inr same) = inr (inl same)

  by : (older_of o x ≡ Some r) ⊎ IsAmong r xs → (o ≡ Some r) ⊎ IsAmong r (x ∷ xs)
  by (inl same) = of_older (older_is o x r same)
  by (inr later) = inr (inr later)

one_among : (xs : List CertificateRequest) (r : CertificateRequest) → oldest_of xs ≡ Some r → IsAmong r xs
unfolding oldest_of
one_among xs r is = by (oldest_among None xs r is) where
  by : (None ≡ Some r) ⊎ IsAmong r xs → IsAmong r xs
  by (inl none) = absurd (cc none)
  by (inr there) = there

-- ---- the measure

first_of_pass : (s : Setting) (h : List Entry) (n : ℕ) (call : Call) (reply : Reply) (a : IsAcceptedBy s h n call reply) → a.caller.pass.role ≡ Revision → IsFirstCall (revise a.caller.pass.seen) call
unfolding act call_after
first_of_pass s h n call reply a is =
    only_first a.caller.pass.stage Revision a.caller.pass.seen a.caller.pass.since (revise a.caller.pass.seen) (call_after Revision a.caller.pass.seen a.caller.pass.since) call (λ e. absurd (cc e)) (λ order value. refl)
    (next_as s h n call reply a Revision is) (call_as s h n call reply a Revision is)

module _ (s : Setting) (h : List Entry) (n : ℕ) (call : Call) (reply : Reply) (a : IsAcceptedBy s h n call reply) (is_role : a.caller.pass.role ≡ Revision) (current : SeesAll s h a.caller.pass) (w : IsOldDrop a.caller.pass.seen call)
    (one : IsForOneIn (objects s h) (key_of_call (settled call reply)) (stored (accepted s h + 1) (moment s h) (objects s h) (settled call reply))) where
  key_is : key_of (Cert w.certificate) ≡ a.caller.pass.key
  key_is = version_keyed s h a.caller.pass.key (Cert w.certificate) a.legal (a.caller.version w.certificate w.sees)

  part : a.caller.pass.seen ≡ part_for Revision (seen_of (objects s h) a.caller.pass.key)
  part = sees_part s h a.caller.pass Revision refl is_role current

  present : object_at (objects s h) (key_of (Cert w.certificate)) ≡ Some (Cert w.certificate)
  unfolding views_in views_of
  present = ap (object_at (objects s h)) key_is ∙ certificate_of (object_at (objects s h) a.caller.pass.key) w.certificate (sym (ap (λ (v : Views). v.certificate) part) ∙ w.sees)

  old_falls : HasOldRequest a.caller.pass.seen → LowersMeasure s h (Called (Pass n) call reply)
  old_falls old =
      let m : Objects = objects s h in
      let c : Certificate = w.certificate in
      let r : CertificateRequest = w.request in
      let among : IsAmong r a.caller.pass.seen.requests = left_among counts a.caller.pass.seen.requests r (one_among (filter counts a.caller.pass.seen.requests) r w.oldest) in
      let d = is_dropped_request s h a.caller.pass.seen call reply r a.legal a.caller.saw.known among a.founded w.is in
      let new : Option Object = stored (accepted s h + 1) (moment s h) m (settled call reply) in
      let here = subst (λ (x : Option Object). IsForOneIn m (key_of (Request r)) x) d.is (subst (λ (q : Key). IsForOneIn m q new) d.key one) in
      let apart = old c r w.sees w.oldest in
      let over = dropped_over s (moment s h) m c r here present d.was (a.caller.saw.well.request_owned c r w.sees among)
      (λ desk due first rest are. revised_falls desk due (moment s h) (seen_of m (key_of (Cert c))) c first rest r w.idle apart.0 apart.1)
      in
      lowers_measure s h n call reply a.ok
      (subst (λ (q : Key). LowersOver s (moment s h) m (put_at m q new)) (sym d.key) (subst (λ (x : Option Object). LowersOver s (moment s h) m (put_at m (key_of (Request r)) x)) (sym d.is) over))

pub revision_lowers : (s : Setting) (h : List Entry) (n : ℕ) (call : Call) (reply : Reply) (a : IsAcceptedBy s h n call reply) → a.caller.pass.role ≡ Revision → SeesAll s h a.caller.pass → HasOldRequest a.caller.pass.seen
    → IsForOneIn (objects s h) (key_of_call (settled call reply)) (stored (accepted s h + 1) (moment s h) (objects s h) (settled call reply)) → LowersMeasure s h (Called (Pass n) call reply)
revision_lowers s h n call reply a is current old one = old_falls s h n call reply a is current (first_revision a.caller.pass.seen call (first_of_pass s h n call reply a is)) one old
