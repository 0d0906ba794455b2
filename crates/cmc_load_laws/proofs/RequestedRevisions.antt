-- In a run of a load no request is of a later revision than the next one of its Certificate.
use Rattle.std.proofs.Common.{◌≡◌, ◌⊎◌, ◌+◌, ◌≤◌, ℕ, List, [], ◌∷◌, length, true, Option, Some, None, refl, sym, ap, subst, ◌∙◌, inl, inr, arith}
use Rattle.std.specs.Prelude.{IfSome}
use Rattle.cmc_meta.specs.declared.key.Key.{Key}
use Rattle.cmc_meta.specs.declared.object_meta.ObjectMeta.{ObjectMeta}
use Rattle.cmc_meta.proofs.DecimalLaws.{number_again}
use Rattle.cmc_objects.specs.declared.certificate.Certificate.{Certificate}
use Rattle.cmc_objects.specs.declared.request.CertificateRequest.{CertificateRequest}
use Rattle.cmc_objects.specs.declared.object.Object.{Object}
use Rattle.cmc_objects.specs.declared.object.Object.TheVariants.{Cert, Request, Secret}
use Rattle.cmc_objects.specs.declared.call.Call.{Call}
use Rattle.cmc_objects.specs.declared.call.Reply.{Reply}
use Rattle.cmc_objects.specs.declared.entry.Entry.{Entry}
use Rattle.cmc_objects.specs.declared.entry.Entry.TheVariants.{Call as Called}
use Rattle.cmc_objects.specs.declared.entry.Who.TheVariants.{User, Pass}
use Rattle.cmc_objects.specs.declared.role.Role.{Role}
use Rattle.cmc_objects.specs.declared.role.Role.TheVariants.{RequestManager}
use Rattle.cmc_objects.specs.Objects.{key_of}
use Rattle.cmc_match.specs.Revisions.{revision_of}
use Rattle.cmc_pass.specs.declared.pass.Views.{Views}
use Rattle.cmc_model.specs.declared.write.Write.{Write}
use Rattle.cmc_model.specs.Objects.{Objects, object_at}
use Rattle.cmc_model.specs.Replies.{is_accepted, key_of_call, settled, stored}
use Rattle.cmc_model.specs.Histories.{Setting, moment, state, objects, accepted}
use Rattle.cmc_model.specs.Versions.{IsVersion}
use Rattle.cmc_model.specs.Writes.{contents, writes}
use Rattle.cmc_model.proofs.Accepting.{accepted_found}
use Rattle.cmc_model.proofs.Writes.{writes_leave}
use Rattle.cmc_rules.specs.declared.progress.OpenPass.{OpenPass}
use Rattle.cmc_rules.specs.Desks.{desk}
use Rattle.cmc_rules.specs.Legality.{IsLegal}
use Rattle.cmc_rules.specs.NextRequests.{HasNextRevision, is_next, next_revision}
use Rattle.cmc_rules.specs.Owners.{owner_of}
use Rattle.cmc_rules.specs.Passes.{open_pass}
use Rattle.cmc_rules.specs.RevisionManager as revisions
use Rattle.cmc_rules.specs.Revisions.{revision}
use Rattle.cmc_rules.specs.Rights.{KeepsMeta, MayChange}
use Rattle.cmc_rules.specs.UserSteps.{Follows}
use Rattle.cmc_rules.specs.Views.{is_owned}
use Rattle.cmc_rules.proofs.Sighted.{AreKnown}
use Rattle.cmc_rules.proofs.Sights.{seen_certificate}
use Rattle.cmc_rules.proofs.Versions.{stands_is_version, uid_has_one_key, version_keyed}
use Rattle.cmc_safety.specs.Formed.{IsFormed}
use Rattle.cmc_safety.proofs.Carried.{newest, where_accepted}
use Rattle.cmc_safety.proofs.Course.{AreSound, HasCome, of_open}
use Rattle.cmc_safety.proofs.InProgress.{IsPlayed, played_below}
use Rattle.cmc_safety.proofs.LowRevisions.{next_seen, revisions_low, writes_short}
use Rattle.cmc_load_laws.specs.Loads.{IsLoad}
use Rattle.cmc_load_laws.proofs.AppliedStores.{stores_certificate}
use Rattle.cmc_load_laws.proofs.AskedActs.{AskedByAct, HoldsOfQuestion, IsOfAct, asked_act}
use Rattle.cmc_load_laws.proofs.BelongingVersions.{IsCertificateIn}
use Rattle.cmc_load_laws.proofs.CurrentHistories.{shorter}
use Rattle.cmc_load_laws.proofs.CurrentRequests.{is_new_request, low_revision}
use Rattle.cmc_load_laws.proofs.LoadScripts.{apply_is_called}
use Rattle.cmc_load_laws.proofs.OldRequests.{is_number_of}
use Rattle.cmc_load_laws.proofs.OneNextKey.{delete_founded}
use Rattle.cmc_load_laws.proofs.OneRequest.{marks_alike}
use Rattle.cmc_load_laws.proofs.OwnersAlike.{one_owner}
use Rattle.cmc_load_laws.proofs.PassRights.{IsAcceptedBy, accepted_by, call_as, next_as}
use Rattle.cmc_load_laws.proofs.Requested.{own_revision}
use Rattle.cmc_load_laws.proofs.RisingRevisions.{HaveRisen, have_risen}
use Rattle.cmc_load_laws.proofs.RoleWrites.{WasRequest, was_request}
use Rattle.cmc_load_laws.proofs.SignedRequests.{IsManagersCall, managers_call}
use Rattle.cmc_load_laws.proofs.UsualVersions.{apply_settled}

-- made for a version of a Certificate, of its next revision
pub record IsRequested (ws : List Write) (r : CertificateRequest) : Type 0 where
  pub certificate : Certificate
  pub known : IsCertificateIn ws certificate
  pub namespace : r.meta.namespace ≡ certificate.meta.namespace
  pub owners : r.meta.owners ≡ owner_of certificate ∷ []
  pub next : is_next certificate r ≡ true

abbrev pub IsRequestedObject : List Write → Object → Type 0
IsRequestedObject ws (Cert c) = Unit {0}
IsRequestedObject ws (Request r) = IsRequested ws r
IsRequestedObject ws (Secret k) = Unit {0}

abbrev pub EachIsRequested : List Write → Type 0
EachIsRequested ws = (key : Key) (o : Object) → IsVersion key o ws → IsRequestedObject ws o

wider : (w : Write) (ws : List Write) (o : Object) → IsRequestedObject ws o → IsRequestedObject (w ∷ ws) o
wider w ws (Cert c) is = is
wider w ws (Request r) is = record { certificate = is.certificate; known = inr is.known; namespace = is.namespace; owners = is.owners; next = is.next }
wider w ws (Secret k) is = is

more_of : (w : Write) (ws : List Write) → IfSome w.object (IsRequestedObject ws) → EachIsRequested ws → EachIsRequested (w ∷ ws)
more_of w ws new each key o (inl here) = wider w ws o (subst (λ (x : Option Object). IfSome x (IsRequestedObject ws)) here.1 new)
more_of w ws new each key o (inr there) = wider w ws o (each key o there)

kept : (ws : List Write) (q r : CertificateRequest) → KeepsMeta q.meta r.meta → IsRequested ws q → IsRequested ws r
kept ws q r same is = record {
  certificate = is.certificate;
  known = is.known;
  namespace = ap (λ (m : ObjectMeta). m.namespace) same ∙ is.namespace;
  owners = ap (λ (m : ObjectMeta). m.owners) same ∙ is.owners;
  next = marks_alike (next_revision is.certificate) q r (ap (λ (m : ObjectMeta). m.annotations) same) ∙ is.next;
}

-- ---- what a pass stores

module _ (s : Setting) (h : List Entry) (n : ℕ) (call : Call) (reply : Reply) (o : IsPlayed s h) (each : EachIsRequested (writes s h)) (a : IsAcceptedBy s h n call reply) (low : HasNextRevision a.caller.pass.seen.certificate) where
  abbrev p : OpenPass
  p = a.caller.pass

  abbrev old : Option Object
  old = object_at (objects s h) (key_of_call (settled call reply))

  abbrev new : Option Object
  new = stored (accepted s h + 1) (moment s h) (objects s h) (settled call reply)

  made : (c : Certificate) (r : CertificateRequest) → p.seen.certificate ≡ Some c → old ≡ None → new ≡ Some (Request r) → IsManagersCall p.seen c call → IsRequested (writes s h) r
  made c r sees none is (inl (inl w)) = absurd (delete_founded (objects s h) call reply _ _ w.is a.founded none)
  made c r sees none is (inl (inr w)) = absurd (delete_founded (objects s h) call reply _ _ w.is a.founded none)
  made c r sees none is (inr w) =
      let q = is_new_request s h call reply c w.has.key _ a.ok a.founded w.is in
      let same : Some (Request q.made) ≡ Some (Request r) = sym q.is ∙ is in
      let one : q.made ≡ r = cc same in
      let there = a.caller.saw.known (Cert c) (seen_certificate p.seen c sees) in
      subst (IsRequested (writes s h)) one
      (record {
        certificate = c;
        known = subst (λ (k : Key). IsVersion k (Cert c) (writes s h)) (sym (version_keyed s h there.0 (Cert c) a.legal there.1)) there.1;
        namespace = q.namespace;
        owners = q.owners;
        next = own_revision c w.has.key q.made q.marks (number_again (next_revision c) (low_revision c p.seen.certificate sees low));
      })

  by_manager : (r : CertificateRequest) → p.role ≡ RequestManager → old ≡ None → new ≡ Some (Request r) → IsRequested (writes s h) r
  by_manager r is none there =
      let asked = subst (λ (x : Role). HoldsOfQuestion p.stage (IsOfAct s x p.seen p.since)) is (of_open (AskedByAct s) (open_pass s h n) p a.caller.opened (asked_act s h n o.caused)) in
      let come = subst (λ (x : Role). HasCome h n x p.seen p.since p.stage) is a.caller.done in
      let by = managers_call s h n p.seen p.since (desk s h p.role p.seen) p.stage call asked come (next_as s h n call reply a RequestManager is) (call_as s h n call reply a RequestManager is) in
      made by.certificate r by.sees none there by.so

  of_request : (r : CertificateRequest) → new ≡ Some (Request r) → ((p.role ≡ RequestManager) × (old ≡ None)) ⊎ WasRequest old r → IsRequested (writes s h) r
  of_request r there (inl first) = by_manager r first.0 first.1 there
  of_request r there (inr w) = kept (writes s h) w.before r w.kept (each (key_of_call (settled call reply)) (Request w.before) (stands_is_version s h (key_of_call (settled call reply)) (Request w.before) w.was))

  of_new : (x : Option Object) → new ≡ x → IfSome x (IsRequestedObject (writes s h))
  of_new None is = tt
  of_new (Some (Cert d)) is = tt
  of_new (Some (Secret k)) is = tt
  of_new (Some (Request r)) is = of_request r is (was_request p.role old r (subst (λ (x : Option Object). MayChange p.role old x) is a.write.rights))

  pub requested_stored : IfSome new (IsRequestedObject (writes s h))
  requested_stored = of_new new refl

-- ---- histories

low_seen : AreSound → (s : Setting) (h : List Entry) (seen : Views) → IsFormed s → length h ≤ s.events → IsPlayed s h → AreKnown (writes s h) seen → HasNextRevision seen.certificate
low_seen sound s h seen formed short o known = next_seen (writes s h) seen (omega (arith, writes_short s h, short, formed.short)) (revisions_low sound s h formed o) known

-- The entries are counted too: a revision of so many writes can be read again.
pub each_requested : AreSound → (s : Setting) (h : List Entry) → IsFormed s → IsLoad s → length h ≤ s.events → IsPlayed s h → EachIsRequested (writes s h)
unfolding IsLegal Follows
each_requested sound s [] formed load short o = λ key x has. absurd has
each_requested sound s (Called User call reply ∷ h) formed load short o =
    let below = played_below s (Called User call reply) h o in
    let each = each_requested sound s h formed load (shorter (Called User call reply) h s.events short) below in
    where_accepted EachIsRequested (is_accepted reply) (newest s h call reply) (writes s h)
    (λ ok before.
    let d = stores_certificate s h (accepted s h + 1) (moment s h) (settled call reply) below.legal (apply_settled s call reply (apply_is_called s h call load.steps o.follows.0)) (accepted_found s.faults (state s h) call reply o.legal.0.0 ok) in
    more_of (newest s h call reply) (writes s h) (subst (λ (x : Option Object). IfSome x (IsRequestedObject (writes s h))) (sym d.1) tt) before) each
each_requested sound s (Called (Pass n) call reply ∷ h) formed load short o =
    let below = played_below s (Called (Pass n) call reply) h o in
    let less = shorter (Called (Pass n) call reply) h s.events short in
    where_accepted EachIsRequested (is_accepted reply) (newest s h call reply) (writes s h)
    (λ ok before.
    let a = accepted_by sound s h n call reply o ok in
    more_of (newest s h call reply) (writes s h) (requested_stored s h n call reply below before a (low_seen sound s h a.caller.pass.seen formed less below a.caller.saw.known)) before) (each_requested sound s h formed load less below)
each_requested sound s (other ∷ h) formed load short o = each_requested sound s h formed load (shorter other h s.events short) (played_below s other h o)

-- ---- what stands

abbrev pub NoneAboveNext : Setting → List Entry → Type 0
NoneAboveNext s h =
    (key : Key) (c : Certificate) (place : Key) (r : CertificateRequest) → object_at (objects s h) key ≡ Some (Cert c) → IsVersion place (Request r) (writes s h) → is_owned c r.meta ≡ true → revisions.revision r ≤ next_revision c

none_above_by : (s : Setting) (h : List Entry) → IsLegal s h → HaveRisen (writes s h) → EachIsRequested (writes s h) → NoneAboveNext s h
none_above_by s h legal risen each key c place r is has owned =
    let q = each place (Request r) has in
    let d : Certificate = q.certificate in
    let same = one_owner c d r.meta q.namespace q.owners owned in
    let one : key_of (Cert d) ≡ key = uid_has_one_key s h (key_of (Cert d)) key (Cert d) (Cert c) legal q.known (stands_is_version s h key (Cert c) is) (sym same.uid) in
    let known : IsVersion key (Cert d) (writes s h) = subst (λ (k : Key). IsVersion k (Cert d) (writes s h)) one q.known in
    let there : object_at (contents (writes s h)) key ≡ Some (Cert c) = ap (λ (m : Objects). object_at m key) (writes_leave s h) ∙ is in
    omega (arith, risen key d c known there, is_number_of (revision_of r) (next_revision d) q.next)

pub none_above : AreSound → (s : Setting) (h : List Entry) → IsFormed s → IsLoad s → length h ≤ s.events → IsPlayed s h → NoneAboveNext s h
none_above sound s h formed load short o = none_above_by s h o.legal (have_risen sound s h load.free o) (each_requested sound s h formed load short o)
