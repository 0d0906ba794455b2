-- Of the requests of issuances under way that are issued: what is true of each of them stays so.
use Rattle.std.proofs.Common.{◌≡◌, ◌⊎◌, ◌+◌, ◌≤◌, ℕ, List, Bool, true, false, Option, Some, None, refl, sym, ap, subst, ◌∙◌, inl, inr, arith}
use Rattle.std.specs.Prelude.{unwrap_or}
use Rattle.cmc_meta.specs.declared.conditions.ConditionKind.TheVariants.{Ready}
use Rattle.cmc_meta.specs.declared.key.Key.{Key}
use Rattle.cmc_meta.specs.ConditionLists.{condition_at}
use Rattle.cmc_objects.specs.declared.certificate.Certificate.{Certificate}
use Rattle.cmc_objects.specs.declared.request.CertificateRequest.{CertificateRequest}
use Rattle.cmc_objects.specs.declared.request.RequestStatus.{RequestStatus}
use Rattle.cmc_objects.specs.declared.object.Object.{Object}
use Rattle.cmc_objects.specs.declared.object.Object.TheVariants.{Cert, Request}
use Rattle.cmc_objects.specs.declared.call.Call.{Call}
use Rattle.cmc_objects.specs.declared.call.Reply.{Reply}
use Rattle.cmc_objects.specs.declared.entry.Entry.{Entry}
use Rattle.cmc_objects.specs.declared.orders.Signing.TheVariants.{Issued}
use Rattle.cmc_objects.specs.declared.role.Role.{Role}
use Rattle.cmc_objects.specs.declared.role.Role.TheVariants.{Approver, Issuer, RequestManager}
use Rattle.cmc_objects.specs.Objects.{key_of, no_request_status}
use Rattle.cmc_objects.specs.Requests.{is_request_form}
use Rattle.cmc_match.specs.Revisions.{is_of_revision, revision_of}
use Rattle.cmc_model.specs.Objects.{Objects, object_at}
use Rattle.cmc_model.specs.Replies.{key_of_call, put_at, settled, stored}
use Rattle.cmc_model.specs.Histories.{Setting, moment, objects, accepted}
use Rattle.cmc_model.specs.Writes.{writes}
use Rattle.cmc_rules.specs.declared.progress.OpenPass.{OpenPass}
use Rattle.cmc_rules.specs.Approver.{approval, judged_status}
use Rattle.cmc_rules.specs.Desks.{desk}
use Rattle.cmc_rules.specs.Issuance.{says_issued}
use Rattle.cmc_rules.specs.Issuer.{HasRequestForm}
use Rattle.cmc_rules.specs.IssuerAnswers.{answered}
use Rattle.cmc_rules.specs.NextRequests.{is_next, next_revision}
use Rattle.cmc_rules.specs.Passes.{open_pass}
use Rattle.cmc_rules.specs.RevisionManager.{revision}
use Rattle.cmc_rules.specs.Revisions.{KeepsRevision, RaisesRevision}
use Rattle.cmc_rules.specs.Rights.{ChangesAnswer, MayChange, OfRequests}
use Rattle.cmc_rules.specs.Trigger.{is_issuing}
use Rattle.cmc_rules.specs.Views.{is_owned}
use Rattle.cmc_safety.specs.MayAct.{MayAct}
use Rattle.cmc_safety.proofs.Carried.{EachVersion}
use Rattle.cmc_safety.proofs.Course.{HasCome, of_open}
use Rattle.cmc_safety.proofs.InProgress.{IsPlayed}
use Rattle.cmc_load_laws.specs.Loads.{IsLoad}
use Rattle.cmc_load_laws.specs.Measure.{restated_request}
use Rattle.cmc_load_laws.proofs.AnsweredRequests.{IsSignedAt, signed_now}
use Rattle.cmc_load_laws.proofs.AppliedOwners.{owned_same}
use Rattle.cmc_load_laws.proofs.ApprovedCalls.{approving_call}
use Rattle.cmc_load_laws.proofs.AskedActs.{AskedByAct, HoldsOfQuestion, IsOfAct, asked_act}
use Rattle.cmc_load_laws.proofs.CurrentRequests.{is_new_request}
use Rattle.cmc_load_laws.proofs.GoodRequests.{IsGoodObject}
use Rattle.cmc_load_laws.proofs.GoodVersions.{good_seen, who_restates}
use Rattle.cmc_load_laws.proofs.IssuedAnswers.{usual_answer}
use Rattle.cmc_load_laws.proofs.Keeping.{other_found}
use Rattle.cmc_load_laws.proofs.OldRequests.{is_number_of}
use Rattle.cmc_load_laws.proofs.OneNextKey.{delete_founded}
use Rattle.cmc_load_laws.proofs.OwnedPairs.{HavePairs, over_put}
use Rattle.cmc_load_laws.proofs.Parts.{weight_off, weight_within}
use Rattle.cmc_load_laws.proofs.PassRights.{IsAcceptedBy, call_as, next_as}
use Rattle.cmc_load_laws.proofs.RequestTops.{HaveTops}
use Rattle.cmc_load_laws.proofs.RequestWrites.{is_restated_request}
use Rattle.cmc_load_laws.proofs.RevisionTops.{top}
use Rattle.cmc_load_laws.proofs.RoleWrites.{WasRequest, was_certificate, was_request}
use Rattle.cmc_load_laws.proofs.SignedRequests.{IsManagersCall, managers_call}

-- the Certificate is being issued, and the request is its next one and issued
pub record IsReadyFor (c : Certificate) (r : CertificateRequest) : Type 0 where
  pub issuing : is_issuing c ≡ true
  pub next : is_next c r ≡ true
  pub says : says_issued (condition_at r.status.conditions Ready) ≡ true

abbrev pub HaveFresh : (CertificateRequest → Type 0) → Objects → Type 0
HaveFresh F m = HavePairs (λ c r. IsReadyFor c r → F r) m

pub next_same : (c d : Certificate) (r : CertificateRequest) → c.status.revision ≡ d.status.revision → is_next c r ≡ is_next d r
next_same c d r same = ap (λ (o : Option ℕ). is_of_revision (unwrap_or o 0 + 1) r) same

-- what hangs on the specification and the certificate of a request alone
abbrev pub IsOfCertificate : (CertificateRequest → Type 0) → Type 0
IsOfCertificate F = (q r : CertificateRequest) → r.spec ≡ q.spec → q.status.certificate ≡ r.status.certificate → q.status.ca ≡ r.status.ca → F q → F r

-- ---- a Certificate is written

below_issued : (d c : Certificate) (r : CertificateRequest) → revision r ≤ top d → c.status.revision ≡ d.status.revision → is_next c r ≡ true → is_issuing d ≡ false → ⊥
below_issued d c r low same next idle =
    omega (arith, low, ap (λ (o : Option ℕ). unwrap_or o 0) same, is_number_of (revision_of r) (next_revision c) next, weight_off 1 (is_issuing d) idle)

below_raised : (d c : Certificate) (r : CertificateRequest) → revision r ≤ top d → RaisesRevision (Some (Cert d)) (Some (Cert c)) → is_next c r ≡ true → ⊥
below_raised d c r low raises next =
    omega (arith, low, ap (λ (o : Option ℕ). unwrap_or o 0) raises, is_number_of (revision_of r) (next_revision c) next, weight_within 1 (is_issuing d))

was_on : (b : Bool) → (b ≡ false → ⊥) → b ≡ true
was_on true off = refl
was_on false off = absurd (off refl)

ready_before : (d c : Certificate) (r : CertificateRequest) → revision r ≤ top d → KeepsRevision (Some (Cert d)) (Some (Cert c)) ⊎ RaisesRevision (Some (Cert d)) (Some (Cert c)) → IsReadyFor c r → IsReadyFor d r
ready_before d c r low (inl keeps) ready =
    record { issuing = was_on (is_issuing d) (below_issued d c r low keeps ready.next); next = sym (next_same c d r keeps) ∙ ready.next; says = ready.says }
ready_before d c r low (inr raises) ready = absurd (below_raised d c r low raises ready.next)

module _ (F : CertificateRequest → Type 0) (alike : IsOfCertificate F) (s : Setting) (h : List Entry) (n : ℕ) (call : Call) (reply : Reply) (load : IsLoad s) (o : IsPlayed s h) (good : EachVersion IsGoodObject (writes s h)) (a : IsAcceptedBy s h n call reply)
    (may : MayAct a.caller.pass.seen a.caller.pass.since (desk s h a.caller.pass.role a.caller.pass.seen)) (tops : HaveTops (objects s h)) (fresh : HaveFresh F (objects s h)) (signed : a.caller.pass.role ≡ Issuer → (r : CertificateRequest) → IsSignedAt a.caller.pass.since r → F r) where
  abbrev pub m : Objects
  m = objects s h

  abbrev pub key : Key
  key = key_of_call (settled call reply)

  abbrev pub new : Option Object
  new = stored (accepted s h + 1) (moment s h) m (settled call reply)

  abbrev pub p : OpenPass
  p = a.caller.pass

  asked_as : (role : Role) → p.role ≡ role → HoldsOfQuestion p.stage (IsOfAct s role p.seen p.since)
  asked_as role is = subst (λ (x : Role). HoldsOfQuestion p.stage (IsOfAct s x p.seen p.since)) is (of_open (AskedByAct s) (open_pass s h n) p a.caller.opened (asked_act s h n o.caused))

  come_as : (role : Role) → p.role ≡ role → HasCome h n role p.seen p.since p.stage
  come_as role is = subst (λ (x : Role). HasCome h n x p.seen p.since p.stage) is a.caller.done

  by_certificate : (kq : Key) (c : Certificate) (r : CertificateRequest) → new ≡ Some (Cert c) → object_at m kq ≡ Some (Request r) → is_owned c r.meta ≡ true → IsReadyFor c r → F r
  by_certificate kq c r is there owned ready =
      let w = was_certificate p.role (object_at m key) c (subst (λ (x : Option Object). MayChange p.role (object_at m key) x) is a.write.rights) in
      let d : Certificate = w.before in
      let same : Some (Cert w.later.later) ≡ Some (Cert c) = sym w.later.is in
      let one : w.later.later ≡ c = cc same in
      let owns : is_owned d r.meta ≡ true =
      owned_same d c r.meta (w.later.same.namespace ∙ ap (λ (x : Certificate). x.meta.namespace) one) (w.later.same.uid ∙ ap (λ (x : Certificate). x.meta.uid) one) ∙ owned in
      let changes : KeepsRevision (Some (Cert d)) (Some (Cert c)) ⊎ RaisesRevision (Some (Cert d)) (Some (Cert c)) =
      subst (λ (x : Option Object). KeepsRevision x (Some (Cert c)) ⊎ RaisesRevision x (Some (Cert c))) w.was
      (subst (λ (x : Option Object). KeepsRevision (object_at m key) x ⊎ RaisesRevision (object_at m key) x) is a.write.revision) in
      fresh key kq d r w.was there owns (ready_before d c r (tops key kq d r w.was there owns) changes ready)

  -- what is made is not issued
  made_none : (c : Certificate) (r : CertificateRequest) → object_at m key ≡ None → new ≡ Some (Request r) → IsManagersCall p.seen c call → says_issued (condition_at r.status.conditions Ready) ≡ false
  made_none c r none is (inl (inl w)) = absurd (delete_founded m call reply _ _ w.is a.founded none)
  made_none c r none is (inl (inr w)) = absurd (delete_founded m call reply _ _ w.is a.founded none)
  made_none c r none is (inr w) =
      let q = is_new_request s h call reply c w.has.key _ a.ok a.founded w.is in
      let same : Some (Request q.made) ≡ Some (Request r) = sym q.is ∙ is in
      let one : q.made ≡ r = cc same in
      let status : r.status ≡ no_request_status = ap (λ (x : CertificateRequest). x.status) (sym one) ∙ q.status in
      ap (λ (x : RequestStatus). says_issued (condition_at x.conditions Ready)) status

  by_manager : (r : CertificateRequest) → p.role ≡ RequestManager → object_at m key ≡ None → new ≡ Some (Request r) → says_issued (condition_at r.status.conditions Ready) ≡ true → F r
  by_manager r is none there says =
      let by = managers_call s h n p.seen p.since (desk s h p.role p.seen) p.stage call (asked_as RequestManager is) (come_as RequestManager is) (next_as s h n call reply a RequestManager is) (call_as s h n call reply a RequestManager is) in
      absurd (let e : false ≡ true = sym (made_none by.certificate r none there by.so) ∙ says in cc e)

  approved_by : (kc : Key) (c : Certificate) (q : CertificateRequest) → object_at m kc ≡ Some (Cert c) → object_at m (key_of (Request q)) ≡ Some (Request q) → is_owned c q.meta ≡ true
      → IsReadyFor c (restated_request (accepted s h + 1) (judged_status (approval p.since) q.status) q) → F (restated_request (accepted s h + 1) (judged_status (approval p.since) q.status) q)
  unfolding judged_status approval revision_of
  approved_by kc c q at was owned ready =
      alike q (restated_request (accepted s h + 1) (judged_status (approval p.since) q.status) q) refl refl refl
      (fresh kc (key_of (Request q)) c q at was owned (record { issuing = ready.issuing; next = ready.next; says = sym (ap says_issued (other_found q.status.conditions (approval p.since) Ready refl)) ∙ ready.says }))

  by_approver : (kc : Key) (c : Certificate) (r : CertificateRequest) → object_at m kc ≡ Some (Cert c) → is_owned c r.meta ≡ true → p.role ≡ Approver → new ≡ Some (Request r) → IsReadyFor c r → F r
  by_approver kc c r at owned is there ready =
      let w = approving_call s h n p.seen p.since (desk s h p.role p.seen) p.stage call load.refuse load.policies (λ q sees. good_seen (writes s h) p.seen q good a.caller.saw.known sees) (asked_as Approver is) (come_as Approver is)
      (next_as s h n call reply a Approver is) (call_as s h n call reply a Approver is)
      in
      let q : CertificateRequest = w.request in
      let status : RequestStatus = judged_status (approval p.since) q.status in
      let restated = is_restated_request s h p.seen call reply q status a.legal a.caller.saw.known w.sees a.founded w.is in
      let same : Some (Request (restated_request (accepted s h + 1) status q)) ≡ Some (Request r) = sym restated.is ∙ there in
      let one : restated_request (accepted s h + 1) status q ≡ r = cc same in
      subst F one (approved_by kc c q at restated.was (subst (λ (x : CertificateRequest). is_owned c x.meta ≡ true) (sym one) owned) (subst (IsReadyFor c) (sym one) ready))

  by_issuer : (r : CertificateRequest) → p.role ≡ Issuer → new ≡ Some (Request r) → F r
  by_issuer r is there =
      let w = usual_answer s h n p.seen p.since (desk s h p.role p.seen) p.stage call load.material (λ q sees. good_seen (writes s h) p.seen q good a.caller.saw.known sees) (asked_as Issuer is) (come_as Issuer is)
      (next_as s h n call reply a Issuer is) (call_as s h n call reply a Issuer is)
      in
      let q : CertificateRequest = w.request in
      let form : is_request_form q ≡ true = subst HasRequestForm w.sees may.form in
      let restated = is_restated_request s h p.seen call reply q (answered q.status (Issued w.certificate w.ca) p.since) a.legal a.caller.saw.known w.sees a.founded w.is in
      let same : Some (Request (restated_request (accepted s h + 1) (answered q.status (Issued w.certificate w.ca) p.since) q)) ≡ Some (Request r) = sym restated.is ∙ there in
      let one : restated_request (accepted s h + 1) (answered q.status (Issued w.certificate w.ca) p.since) q ≡ r = cc same in
      subst F one (signed is _ (signed_now (accepted s h + 1) w.number p.since w.certificate w.ca q may.time form w.signs))

  by_request : (kc : Key) (c : Certificate) (r : CertificateRequest) → object_at m kc ≡ Some (Cert c) → new ≡ Some (Request r) → is_owned c r.meta ≡ true → IsReadyFor c r → F r
  by_request kc c r at is owned ready = by (was_request p.role (object_at m key) r rights) where
    rights : MayChange p.role (object_at m key) (Some (Request r))
    rights = subst (λ (x : Option Object). MayChange p.role (object_at m key) x) is a.write.rights

    restates : (q : CertificateRequest) → (p.role ≡ Approver) ⊎ ((p.role ≡ Issuer) × OfRequests ChangesAnswer (Request q) (Request r)) → F r
    restates q (inl approver) = by_approver kc c r at owned approver is ready
    restates q (inr issuer) = by_issuer r issuer.0 is

    by : ((p.role ≡ RequestManager) × (object_at m key ≡ None)) ⊎ WasRequest (object_at m key) r → F r
    by (inl made) = by_manager r made.0 made.1 is ready.says
    by (inr w) = restates w.before (who_restates p.role w.before r (subst (λ (x : Option Object). MayChange p.role x (Some (Request r))) w.was rights))

  pub fresh_over : HaveFresh F (put_at m key new)
  fresh_over = over_put (λ c r. IsReadyFor c r → F r) m key new fresh by_certificate by_request
