-- In a run of a load each version of a request is not answered, or has the usual certificate of a moment.
use Rattle.std.proofs.Common.{◌≡◌, ◌⊎◌, ◌+◌, ◌≤◌, ℕ, List, [], ◌∷◌, length, true, Option, Some, None, refl, sym, subst, ◌∙◌, inl, inr}
use Rattle.std.specs.Prelude.{IfSome}
use Rattle.cmc_objects.specs.declared.certificate.Certificate.{Certificate}
use Rattle.cmc_objects.specs.declared.request.CertificateRequest.{CertificateRequest}
use Rattle.cmc_objects.specs.declared.object.Object.{Object}
use Rattle.cmc_objects.specs.declared.object.Object.TheVariants.{Cert, Request, Secret}
use Rattle.cmc_objects.specs.declared.call.Call.{Call}
use Rattle.cmc_objects.specs.declared.call.Reply.{Reply}
use Rattle.cmc_objects.specs.declared.entry.Entry.{Entry}
use Rattle.cmc_objects.specs.declared.entry.Entry.TheVariants.{Call as Called}
use Rattle.cmc_objects.specs.declared.entry.Who.TheVariants.{User, Pass}
use Rattle.cmc_objects.specs.declared.orders.Signing.TheVariants.{Issued}
use Rattle.cmc_objects.specs.declared.role.Role.{Role}
use Rattle.cmc_objects.specs.declared.role.Role.TheVariants.{Approver, Issuer, RequestManager}
use Rattle.cmc_objects.specs.Requests.{is_request_form}
use Rattle.cmc_pass.specs.declared.pass.Views.{Views}
use Rattle.cmc_model.specs.Objects.{object_at}
use Rattle.cmc_model.specs.Replies.{is_accepted, key_of_call, settled, stored}
use Rattle.cmc_model.specs.Histories.{Setting, moment, state, objects, accepted}
use Rattle.cmc_model.specs.Writes.{writes}
use Rattle.cmc_model.proofs.Accepting.{accepted_found}
use Rattle.cmc_rules.specs.declared.progress.OpenPass.{OpenPass}
use Rattle.cmc_rules.specs.Approver.{approval, judged_status}
use Rattle.cmc_rules.specs.Desks.{desk}
use Rattle.cmc_rules.specs.Issuer.{HasRequestForm}
use Rattle.cmc_rules.specs.IssuerAnswers.{answered}
use Rattle.cmc_rules.specs.Legality.{IsLegal}
use Rattle.cmc_rules.specs.Passes.{open_pass}
use Rattle.cmc_rules.specs.Rights.{ChangesAnswer, MayChange, OfRequests}
use Rattle.cmc_rules.specs.UserSteps.{Follows}
use Rattle.cmc_rules.proofs.Sighted.{AreKnown}
use Rattle.cmc_rules.proofs.Sights.{seen_request}
use Rattle.cmc_safety.specs.Formed.{IsFormed}
use Rattle.cmc_safety.specs.MayAct.{MayAct}
use Rattle.cmc_safety.proofs.Carried.{EachVersion, newest, no_version, one_more, seen_has, where_accepted}
use Rattle.cmc_safety.proofs.Course.{AreSound, HasCome, of_open}
use Rattle.cmc_safety.proofs.InProgress.{IsPlayed, played_below}
use Rattle.cmc_safety.proofs.MayAct.{may_act_pass}
use Rattle.cmc_load_laws.specs.Loads.{IsLoad}
use Rattle.cmc_load_laws.specs.Measure.{restated_request}
use Rattle.cmc_load_laws.proofs.AnsweredRequests.{IsAnswered, IsAnsweredObject, answered_approved, answered_issued, answered_made}
use Rattle.cmc_load_laws.proofs.AppliedStores.{stores_certificate}
use Rattle.cmc_load_laws.proofs.ApprovedCalls.{approving_call}
use Rattle.cmc_load_laws.proofs.AskedActs.{AskedByAct, HoldsOfQuestion, IsOfAct, asked_act}
use Rattle.cmc_load_laws.proofs.CurrentHistories.{run_below, shorter}
use Rattle.cmc_load_laws.proofs.CurrentRequests.{is_new_request}
use Rattle.cmc_load_laws.proofs.GoodRequests.{IsGoodObject}
use Rattle.cmc_load_laws.proofs.GoodVersions.{each_good, good_seen, who_restates}
use Rattle.cmc_load_laws.proofs.IssuedAnswers.{usual_answer}
use Rattle.cmc_load_laws.proofs.LoadScripts.{apply_is_called}
use Rattle.cmc_load_laws.proofs.OneNextKey.{delete_founded}
use Rattle.cmc_load_laws.proofs.PassRights.{IsAcceptedBy, accepted_by, call_as, next_as}
use Rattle.cmc_load_laws.proofs.RequestWrites.{is_restated_request}
use Rattle.cmc_load_laws.proofs.RoleWrites.{WasRequest, was_request}
use Rattle.cmc_load_laws.proofs.SignedRequests.{IsManagersCall, managers_call}
use Rattle.cmc_load_laws.proofs.UsualVersions.{apply_settled}

pub answered_seen : (ws : _) (seen : Views) (r : CertificateRequest) → EachVersion IsAnsweredObject ws → AreKnown ws seen → seen.request ≡ Some r → IsAnswered r
answered_seen ws seen r each known sees = seen_has IsAnsweredObject ws seen (Request r) each known (seen_request seen r sees)

-- ---- what a pass stores

module _ (s : Setting) (h : List Entry) (n : ℕ) (call : Call) (reply : Reply) (load : IsLoad s) (o : IsPlayed s h) (good : EachVersion IsGoodObject (writes s h)) (each : EachVersion IsAnsweredObject (writes s h)) (a : IsAcceptedBy s h n call reply)
    (may : MayAct a.caller.pass.seen a.caller.pass.since (desk s h a.caller.pass.role a.caller.pass.seen)) where
  abbrev pub p : OpenPass
  p = a.caller.pass

  abbrev pub old : Option Object
  old = object_at (objects s h) (key_of_call (settled call reply))

  abbrev pub new : Option Object
  new = stored (accepted s h + 1) (moment s h) (objects s h) (settled call reply)

  asked_as : (role : Role) → p.role ≡ role → HoldsOfQuestion p.stage (IsOfAct s role p.seen p.since)
  asked_as role is = subst (λ (x : Role). HoldsOfQuestion p.stage (IsOfAct s x p.seen p.since)) is (of_open (AskedByAct s) (open_pass s h n) p a.caller.opened (asked_act s h n o.caused))

  come_as : (role : Role) → p.role ≡ role → HasCome h n role p.seen p.since p.stage
  come_as role is = subst (λ (x : Role). HasCome h n x p.seen p.since p.stage) is a.caller.done

  made : (c : Certificate) (r : CertificateRequest) → old ≡ None → new ≡ Some (Request r) → IsManagersCall p.seen c call → IsAnswered r
  made c r none is (inl (inl w)) = absurd (delete_founded (objects s h) call reply _ _ w.is a.founded none)
  made c r none is (inl (inr w)) = absurd (delete_founded (objects s h) call reply _ _ w.is a.founded none)
  made c r none is (inr w) =
      let q = is_new_request s h call reply c w.has.key _ a.ok a.founded w.is in
      let same : Some (Request q.made) ≡ Some (Request r) = sym q.is ∙ is in
      let one : q.made ≡ r = cc same in
      subst IsAnswered one (answered_made q.made q.status)

  by_manager : (r : CertificateRequest) → p.role ≡ RequestManager → old ≡ None → new ≡ Some (Request r) → IsAnswered r
  by_manager r is none there =
      let by = managers_call s h n p.seen p.since (desk s h p.role p.seen) p.stage call (asked_as RequestManager is) (come_as RequestManager is) (next_as s h n call reply a RequestManager is) (call_as s h n call reply a RequestManager is) in
      made by.certificate r none there by.so

  by_approver : (r : CertificateRequest) → p.role ≡ Approver → new ≡ Some (Request r) → IsAnswered r
  by_approver r is there =
      let w = approving_call s h n p.seen p.since (desk s h p.role p.seen) p.stage call load.refuse load.policies (λ q sees. good_seen (writes s h) p.seen q good a.caller.saw.known sees) (asked_as Approver is) (come_as Approver is)
      (next_as s h n call reply a Approver is) (call_as s h n call reply a Approver is)
      in
      let q : CertificateRequest = w.request in
      let restated = is_restated_request s h p.seen call reply q (judged_status (approval p.since) q.status) a.legal a.caller.saw.known w.sees a.founded w.is in
      let same : Some (Request (restated_request (accepted s h + 1) (judged_status (approval p.since) q.status) q)) ≡ Some (Request r) = sym restated.is ∙ there in
      let one : restated_request (accepted s h + 1) (judged_status (approval p.since) q.status) q ≡ r = cc same in
      subst IsAnswered one (answered_approved (accepted s h + 1) p.since q (answered_seen (writes s h) p.seen q each a.caller.saw.known w.sees))

  by_issuer : (r : CertificateRequest) → p.role ≡ Issuer → new ≡ Some (Request r) → IsAnswered r
  by_issuer r is there =
      let w = usual_answer s h n p.seen p.since (desk s h p.role p.seen) p.stage call load.material (λ q sees. good_seen (writes s h) p.seen q good a.caller.saw.known sees) (asked_as Issuer is) (come_as Issuer is)
      (next_as s h n call reply a Issuer is) (call_as s h n call reply a Issuer is)
      in
      let q : CertificateRequest = w.request in
      let form : is_request_form q ≡ true = subst HasRequestForm w.sees may.form in
      let restated = is_restated_request s h p.seen call reply q (answered q.status (Issued w.certificate w.ca) p.since) a.legal a.caller.saw.known w.sees a.founded w.is in
      let same : Some (Request (restated_request (accepted s h + 1) (answered q.status (Issued w.certificate w.ca) p.since) q)) ≡ Some (Request r) = sym restated.is ∙ there in
      let one : restated_request (accepted s h + 1) (answered q.status (Issued w.certificate w.ca) p.since) q ≡ r = cc same in
      subst IsAnswered one (inr (answered_issued (accepted s h + 1) w.number p.since w.certificate w.ca q w.approved may.time form w.signs))

  of_before : (q r : CertificateRequest) → new ≡ Some (Request r) → (p.role ≡ Approver) ⊎ ((p.role ≡ Issuer) × OfRequests ChangesAnswer (Request q) (Request r)) → IsAnswered r
  of_before q r there (inl is) = by_approver r is there
  of_before q r there (inr is) = by_issuer r is.0 there

  of_request : (r : CertificateRequest) → new ≡ Some (Request r) → MayChange p.role old (Some (Request r)) → ((p.role ≡ RequestManager) × (old ≡ None)) ⊎ WasRequest old r → IsAnswered r
  of_request r there rights (inl first) = by_manager r first.0 first.1 there
  of_request r there rights (inr w) = of_before w.before r there (who_restates p.role w.before r (subst (λ (x : Option Object). MayChange p.role x (Some (Request r))) w.was rights))

  of_new : (x : Option Object) → new ≡ x → IfSome x IsAnsweredObject
  of_new None is = tt
  of_new (Some (Cert d)) is = tt
  of_new (Some (Secret k)) is = tt
  of_new (Some (Request r)) is = let rights = subst (λ (x : Option Object). MayChange p.role old x) is a.write.rights in of_request r is rights (was_request p.role old r rights)

  pub answered_stored : IfSome new IsAnsweredObject
  answered_stored = of_new new refl

-- ---- histories

pub each_answered : AreSound → (s : Setting) (h : List Entry) → IsFormed s → IsLoad s → length h ≤ s.events → IsPlayed s h → EachVersion IsAnsweredObject (writes s h)
unfolding IsLegal Follows
each_answered sound s [] formed load short o = no_version IsAnsweredObject
each_answered sound s (Called User call reply ∷ h) formed load short o =
    let below = played_below s (Called User call reply) h o in
    where_accepted (EachVersion IsAnsweredObject) (is_accepted reply) (newest s h call reply) (writes s h)
    (λ ok before.
    let d = stores_certificate s h (accepted s h + 1) (moment s h) (settled call reply) below.legal (apply_settled s call reply (apply_is_called s h call load.steps o.follows.0)) (accepted_found s.faults (state s h) call reply o.legal.0.0 ok) in
    one_more IsAnsweredObject (newest s h call reply) (writes s h) (subst (λ (x : Option Object). IfSome x IsAnsweredObject) (sym d.1) tt) before)
    (each_answered sound s h formed load (shorter (Called User call reply) h s.events short) below)
each_answered sound s (Called (Pass n) call reply ∷ h) formed load short o =
    let below = played_below s (Called (Pass n) call reply) h o in
    let less = shorter (Called (Pass n) call reply) h s.events short in
    where_accepted (EachVersion IsAnsweredObject) (is_accepted reply) (newest s h call reply) (writes s h)
    (λ ok before.
    let a = accepted_by sound s h n call reply o ok in
    let may = may_act_pass sound s h n a.caller.pass formed (run_below s h n call reply o less) a.caller.opened in
    one_more IsAnsweredObject (newest s h call reply) (writes s h) (answered_stored s h n call reply load below (each_good sound s h load below) before a may) before)
    (each_answered sound s h formed load less below)
each_answered sound s (other ∷ h) formed load short o = each_answered sound s h formed load (shorter other h s.events short) (played_below s other h o)
