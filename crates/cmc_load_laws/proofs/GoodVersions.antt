-- In a run of a load each version of a request is readable and not denied.
use Rattle.std.proofs.Common.{◌≡◌, ◌⊎◌, ◌+◌, ℕ, List, Option, Some, None, refl, sym, subst, ◌∙◌, inl, inr}
use Rattle.std.specs.Prelude.{IfSome}
use Rattle.cmc_objects.specs.declared.certificate.Certificate.{Certificate}
use Rattle.cmc_objects.specs.declared.request.CertificateRequest.{CertificateRequest}
use Rattle.cmc_objects.specs.declared.object.Object.{Object}
use Rattle.cmc_objects.specs.declared.object.Object.TheVariants.{Cert, Request, Secret}
use Rattle.cmc_objects.specs.declared.call.Call.{Call}
use Rattle.cmc_objects.specs.declared.call.Reply.{Reply}
use Rattle.cmc_objects.specs.declared.entry.Entry.{Entry}
use Rattle.cmc_objects.specs.declared.role.Role.{Role}
use Rattle.cmc_objects.specs.declared.role.Role.TheVariants.{Trigger, KeyManager, RequestManager, Approver, Issuer, Issuing, Readiness, Revision}
use Rattle.cmc_pass.specs.declared.pass.Views.{Views}
use Rattle.cmc_model.specs.Objects.{object_at}
use Rattle.cmc_model.specs.Replies.{key_of_call, settled, stored}
use Rattle.cmc_model.specs.Histories.{Setting, moment, state, objects, accepted}
use Rattle.cmc_model.specs.Writes.{writes}
use Rattle.cmc_model.proofs.Accepting.{accepted_found}
use Rattle.cmc_rules.specs.declared.progress.OpenPass.{OpenPass}
use Rattle.cmc_rules.specs.Desks.{desk}
use Rattle.cmc_rules.specs.Passes.{open_pass}
use Rattle.cmc_rules.specs.Rights.{ChangesAnswer, MayChange, OfRequests}
use Rattle.cmc_rules.specs.Approver.{approval, judged_status}
use Rattle.cmc_rules.proofs.Sighted.{AreKnown}
use Rattle.cmc_rules.proofs.Sights.{seen_certificate, seen_request}
use Rattle.cmc_safety.proofs.Carried.{EachVersion, newest, no_version, one_more, seen_has, standing_has}
use Rattle.cmc_safety.proofs.Course.{AreSound, HasCome, of_open}
use Rattle.cmc_safety.proofs.InProgress.{IsPlayed, played_below}
use Rattle.cmc_load_laws.specs.Loads.{IsLoad, IsUsual}
use Rattle.cmc_load_laws.specs.Measure.{restated_request}
use Rattle.cmc_load_laws.proofs.AppliedStores.{stores_certificate}
use Rattle.cmc_load_laws.proofs.ApprovedCalls.{approving_call}
use Rattle.cmc_load_laws.proofs.AskedActs.{AskedByAct, HoldsOfQuestion, IsOfAct, asked_act}
use Rattle.cmc_load_laws.proofs.CurrentRequests.{is_new_request}
use Rattle.cmc_load_laws.proofs.GoodRequests.{IsGoodObject, IsGoodRequest, good_answered, good_approved, good_made}
use Rattle.cmc_load_laws.proofs.LoadScripts.{apply_is_called}
use Rattle.cmc_load_laws.proofs.OneNextKey.{delete_founded}
use Rattle.cmc_load_laws.proofs.PassRights.{IsAcceptedBy, accepted_by, call_as, next_as}
use Rattle.cmc_load_laws.proofs.PlayedWrites.{carried_on}
use Rattle.cmc_load_laws.proofs.RequestWrites.{is_restated_request}
use Rattle.cmc_load_laws.proofs.RoleWrites.{WasRequest, was_request}
use Rattle.cmc_load_laws.proofs.SignedRequests.{IsManagersCall, managers_call}
use Rattle.cmc_load_laws.proofs.UsualVersions.{IsOfLoadObject, apply_settled, each_like_applied, usual_like}

-- a request that was there is approved or answered
pub who_restates : (role : Role) (q r : CertificateRequest) → MayChange role (Some (Request q)) (Some (Request r)) → (role ≡ Approver) ⊎ ((role ≡ Issuer) × OfRequests ChangesAnswer (Request q) (Request r))
who_restates Approver q r is = inl refl
who_restates Issuer q r is = inr (refl, is)
who_restates Trigger q r is = absurd is
who_restates KeyManager q r (inl is) = absurd is
who_restates KeyManager q r (inr (inl is)) = absurd is
who_restates KeyManager q r (inr (inr is)) = absurd is
who_restates RequestManager q r (inl is) = absurd is
who_restates RequestManager q r (inr is) = absurd is
who_restates Issuing q r (inl is) = absurd is
who_restates Issuing q r (inr (inl is)) = absurd is.0
who_restates Issuing q r (inr (inr is)) = absurd is
who_restates Readiness q r is = absurd is
who_restates Revision q r is = absurd is

-- what is seen of a Certificate is usual, and of a request good
pub usual_seen : (s : Setting) (ws : _) (seen : Views) (c : Certificate) → IsLoad s → EachVersion (IsOfLoadObject s) ws → AreKnown ws seen → seen.certificate ≡ Some c → IsUsual c
usual_seen s ws seen c load each known sees = usual_like s c load (seen_has (IsOfLoadObject s) ws seen (Cert c) each known (seen_certificate seen c sees))

pub good_seen : (ws : _) (seen : Views) (r : CertificateRequest) → EachVersion IsGoodObject ws → AreKnown ws seen → seen.request ≡ Some r → IsGoodRequest r
good_seen ws seen r each known sees = seen_has IsGoodObject ws seen (Request r) each known (seen_request seen r sees)

-- ---- what a pass stores

module _ (s : Setting) (h : List Entry) (n : ℕ) (call : Call) (reply : Reply) (load : IsLoad s) (o : IsPlayed s h) (like : EachVersion (IsOfLoadObject s) (writes s h)) (each : EachVersion IsGoodObject (writes s h)) (a : IsAcceptedBy s h n call reply) where
  abbrev p : OpenPass
  p = a.caller.pass

  abbrev old : Option Object
  old = object_at (objects s h) (key_of_call (settled call reply))

  abbrev new : Option Object
  new = stored (accepted s h + 1) (moment s h) (objects s h) (settled call reply)

  asked_as : (role : Role) → p.role ≡ role → HoldsOfQuestion p.stage (IsOfAct s role p.seen p.since)
  asked_as role is = subst (λ (x : Role). HoldsOfQuestion p.stage (IsOfAct s x p.seen p.since)) is (of_open (AskedByAct s) (open_pass s h n) p a.caller.opened (asked_act s h n o.caused))

  come_as : (role : Role) → p.role ≡ role → HasCome h n role p.seen p.since p.stage
  come_as role is = subst (λ (x : Role). HasCome h n x p.seen p.since p.stage) is a.caller.done

  made_good : (c : Certificate) (r : CertificateRequest) → p.seen.certificate ≡ Some c → old ≡ None → new ≡ Some (Request r) → IsManagersCall p.seen c call → IsGoodRequest r
  made_good c r sees none is (inl (inl w)) = absurd (delete_founded (objects s h) call reply _ _ w.is a.founded none)
  made_good c r sees none is (inl (inr w)) = absurd (delete_founded (objects s h) call reply _ _ w.is a.founded none)
  made_good c r sees none is (inr w) =
      let q = is_new_request s h call reply c w.has.key _ a.ok a.founded w.is in
      let same : Some (Request q.made) ≡ Some (Request r) = sym q.is ∙ is in
      let one : q.made ≡ r = cc same in
      subst IsGoodRequest one (good_made p.seen c call q.made (usual_seen s (writes s h) p.seen c load like a.caller.saw.known sees) w q.spec q.status)

  by_manager : (r : CertificateRequest) → p.role ≡ RequestManager → old ≡ None → new ≡ Some (Request r) → IsGoodRequest r
  by_manager r is none there =
      let by = managers_call s h n p.seen p.since (desk s h p.role p.seen) p.stage call (asked_as RequestManager is) (come_as RequestManager is) (next_as s h n call reply a RequestManager is) (call_as s h n call reply a RequestManager is) in
      made_good by.certificate r by.sees none there by.so

  by_approver : (r : CertificateRequest) → p.role ≡ Approver → new ≡ Some (Request r) → IsGoodRequest r
  by_approver r is there =
      let w = approving_call s h n p.seen p.since (desk s h p.role p.seen) p.stage call load.refuse load.policies (λ q sees. good_seen (writes s h) p.seen q each a.caller.saw.known sees) (asked_as Approver is) (come_as Approver is)
      (next_as s h n call reply a Approver is) (call_as s h n call reply a Approver is)
      in
      let q : CertificateRequest = w.request in
      let restated = is_restated_request s h p.seen call reply q (judged_status (approval p.since) q.status) a.legal a.caller.saw.known w.sees a.founded w.is in
      let same : Some (Request (restated_request (accepted s h + 1) (judged_status (approval p.since) q.status) q)) ≡ Some (Request r) = sym restated.is ∙ there in
      let one : restated_request (accepted s h + 1) (judged_status (approval p.since) q.status) q ≡ r = cc same in
      subst IsGoodRequest one (good_approved p.since q _ refl refl (good_seen (writes s h) p.seen q each a.caller.saw.known w.sees))

  of_before : (q r : CertificateRequest) → old ≡ Some (Request q) → IsGoodRequest q → new ≡ Some (Request r) → (p.role ≡ Approver) ⊎ ((p.role ≡ Issuer) × OfRequests ChangesAnswer (Request q) (Request r)) → IsGoodRequest r
  of_before q r was good there (inl is) = by_approver r is there
  of_before q r was good there (inr is) = good_answered q r is.1.1 is.1.2 good

  of_request : (r : CertificateRequest) → new ≡ Some (Request r) → MayChange p.role old (Some (Request r)) → ((p.role ≡ RequestManager) × (old ≡ None)) ⊎ WasRequest old r → IsGoodRequest r
  of_request r there rights (inl made) = by_manager r made.0 made.1 there
  of_request r there rights (inr w) =
      of_before w.before r w.was (subst (λ (x : Option Object). IfSome x IsGoodObject) w.was (standing_has IsGoodObject s h (key_of_call (settled call reply)) each)) there
      (who_restates p.role w.before r (subst (λ (x : Option Object). MayChange p.role x (Some (Request r))) w.was rights))

  of_new : (x : Option Object) → new ≡ x → IfSome x IsGoodObject
  of_new None is = tt
  of_new (Some (Cert d)) is = tt
  of_new (Some (Secret k)) is = tt
  of_new (Some (Request r)) is =
      let rights = subst (λ (x : Option Object). MayChange p.role old x) is a.write.rights in
      of_request r is rights (was_request p.role old r rights)

  pub good_stored : IfSome new IsGoodObject
  good_stored = of_new new refl

-- ---- histories

pub each_good : AreSound → (s : Setting) (h : List Entry) → IsLoad s → IsPlayed s h → EachVersion IsGoodObject (writes s h)
each_good sound s h load o =
    carried_on (EachVersion IsGoodObject) s
    (record {
      none = no_version IsGoodObject;
      user = λ h call reply o right owes ok each.
          let d = stores_certificate s h (accepted s h + 1) (moment s h) (settled call reply) o.legal (apply_settled s call reply (apply_is_called s h call load.steps owes)) (accepted_found s.faults (state s h) call reply right ok) in
          one_more IsGoodObject (newest s h call reply) (writes s h) (subst (λ (x : Option Object). IfSome x IsGoodObject) (sym d.1) tt) each;
      pass = λ h m call reply o ok each.
          let below = played_below s _ h o in
          one_more IsGoodObject (newest s h call reply) (writes s h) (good_stored s h m call reply load below (each_like_applied sound s h load.steps below) each (accepted_by sound s h m call reply o ok)) each;
    })
    h o
