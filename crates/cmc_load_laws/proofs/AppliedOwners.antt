-- The Certificate that a user's call of a load leaves, and that owns a request, was there with its status.
use Rattle.std.proofs.Common.{◌≡◌, ◌+◌, ◌==◌, ◌&&◌, ℕ, ℤ, List, ◌∷◌, Bool, true, false, Option, Some, None, sym, ap, ◌∙◌, inr}
use Rattle.std.specs.List.{list_any}
use Rattle.std.specs.Prelude.{if◌then◌else◌}
use Rattle.std.specs.Str.{bytes_eq}
use Rattle.cmc_meta.specs.declared.conditions.ConditionKind.TheVariants as kinds
use Rattle.cmc_meta.specs.declared.key.Key.{Key}
use Rattle.cmc_meta.specs.declared.object_meta.ObjectMeta.{ObjectMeta}
use Rattle.cmc_objects.specs.declared.certificate.Certificate.{Certificate}
use Rattle.cmc_objects.specs.declared.certificate.CertStatus.{CertStatus}
use Rattle.cmc_objects.specs.declared.request.CertificateRequest.{CertificateRequest}
use Rattle.cmc_objects.specs.declared.object.Object.{Object}
use Rattle.cmc_objects.specs.declared.object.Object.TheVariants.{Cert, Request, Secret}
use Rattle.cmc_objects.specs.declared.call.Call.{Call}
use Rattle.cmc_objects.specs.declared.call.Call.TheVariants.{Create, Update, UpdateStatus, Delete, Get}
use Rattle.cmc_objects.specs.declared.call.Reply.{Reply}
use Rattle.cmc_objects.specs.declared.entry.Entry.{Entry}
use Rattle.cmc_objects.specs.declared.entry.Entry.TheVariants.{Call as Called}
use Rattle.cmc_objects.specs.declared.entry.Who.TheVariants.{User}
use Rattle.cmc_objects.specs.Objects.{key_of, numbered}
use Rattle.cmc_objects.specs.Requests.{is_stated}
use Rattle.cmc_model.specs.declared.write.Write.{Write}
use Rattle.cmc_model.specs.Acceptance.{IsFounded}
use Rattle.cmc_model.specs.Objects.{Objects, object_at}
use Rattle.cmc_model.specs.Replies.{from_old, is_accepted, key_of_call, settled, stored}
use Rattle.cmc_model.specs.Stored.{revised, updated}
use Rattle.cmc_model.specs.Histories.{Setting, moment, state, objects, accepted}
use Rattle.cmc_model.specs.Versions.{IsVersion}
use Rattle.cmc_model.specs.Writes.{writes}
use Rattle.cmc_model.proofs.Accepting.{accepted_found}
use Rattle.cmc_rules.specs.Legality.{IsLegal}
use Rattle.cmc_rules.specs.Trigger.{is_issuing}
use Rattle.cmc_rules.specs.UserSteps.{Follows}
use Rattle.cmc_rules.specs.Views.{is_owned}
use Rattle.cmc_rules.proofs.Versions.{stands_is_version, uid_has_one_key}
use Rattle.cmc_safety.proofs.Carried.{newest}
use Rattle.cmc_safety.proofs.Course.{AreSound}
use Rattle.cmc_safety.proofs.InProgress.{IsPlayed, played_below}
use Rattle.cmc_load_laws.specs.Loads.{IsLoad}
use Rattle.cmc_load_laws.proofs.Belonging.{certificate_of}
use Rattle.cmc_load_laws.proofs.LoadHistories.{after_accepted, put_there}
use Rattle.cmc_load_laws.proofs.LoadScripts.{IsApplyCall, apply_is_called}
use Rattle.cmc_load_laws.proofs.LoadStores.{at_key}
use Rattle.cmc_load_laws.proofs.LoadVersions.{each_is_of, is_standing}
use Rattle.cmc_load_laws.proofs.OwnersAlike.{one_owner}
use Rattle.cmc_load_laws.proofs.UsualVersions.{apply_settled}

-- the status stays where a Certificate is applied again
status_by : (v : ℕ) (a x c : Certificate) → revised v (Cert a) (Cert x) ≡ Cert c → c.status ≡ a.status
unfolding numbered updated
status_by v a x c is = sym (ap status_in is) where
  status_in : Object → CertStatus
  status_in (Cert d) = d.status
  status_in (Request r) = a.status
  status_in (Secret k) = a.status

some_object : (x y : Object) → Some x ≡ Some y → x ≡ y
some_object x y is = cc is

applied_status : (s : Setting) (m : Objects) (v : ℕ) (now : ℤ) (call : Call) (a c : Certificate) → IsApplyCall s call → IsFounded m call → object_at m (key_of_call call) ≡ Some (Cert a) → stored v now m call ≡ Some (Cert c) → c.status ≡ a.status
unfolding IsFounded
applied_status s m v now (Create (Cert x) false) a c applies on was is = absurd (let e : None ≡ Some (Cert a) = sym on.0 ∙ was in cc e)
applied_status s m v now (Update (Cert x) version) a c applies on was is =
    status_by v a x c (some_object (revised v (Cert a) (Cert x)) (Cert c) (sym (ap (from_old (λ (o : Object). revised v o (Cert x))) was) ∙ is))
applied_status s m v now (Create (Cert x) true) a c applies on was is = absurd applies
applied_status s m v now (Create (Request r) b) a c applies on was is = absurd applies
applied_status s m v now (Create (Secret k) b) a c applies on was is = absurd applies
applied_status s m v now (Update (Request r) version) a c applies on was is = absurd applies
applied_status s m v now (Update (Secret k) version) a c applies on was is = absurd applies
applied_status s m v now (UpdateStatus object version) a c applies on was is = absurd applies
applied_status s m v now (Delete key version) a c applies on was is = absurd applies
applied_status s m v now (Get key) a c applies on was is = absurd applies

-- the Certificate under the key of the call was there, and owned the request
pub record IsOwner (s : Setting) (h : List Entry) (call : Call) (reply : Reply) (c : Certificate) (r : CertificateRequest) : Type 0 where
  pub before : Certificate
  pub was : object_at (objects s h) (key_of_call (settled call reply)) ≡ Some (Cert before)
  pub owned : is_owned before r.meta ≡ true
  pub revision : c.status.revision ≡ before.status.revision
  pub issuing : is_issuing c ≡ is_issuing before

pub owned_same : (c d : Certificate) (m : ObjectMeta) → c.meta.namespace ≡ d.meta.namespace → c.meta.uid ≡ d.meta.uid → is_owned c m ≡ is_owned d m
owned_same c d m namespace uid i = bytes_eq m.namespace (namespace i) && list_any (λ owner. owner.uid == uid i) m.owners

still_version : (b : Bool) (w : Write) (ws : List Write) (key : Key) (o : Object) → IsVersion key o ws → IsVersion key o (if b then w ∷ ws else ws)
still_version true w ws key o is = inr is
still_version false w ws key o is = is

pub owner_stood : AreSound → (s : Setting) (h : List Entry) (call : Call) (reply : Reply) → IsLoad s → IsPlayed s (Called User call reply ∷ h) → is_accepted reply ≡ true → (kq : Key) (c : Certificate) (r : CertificateRequest)
    → stored (accepted s h + 1) (moment s h) (objects s h) (settled call reply) ≡ Some (Cert c) → object_at (objects s h) kq ≡ Some (Request r) → is_owned c r.meta ≡ true → IsOwner s h call reply c r
unfolding IsLegal Follows
owner_stood sound s h call reply load o ok kq c r is there owned =
    let e : Entry = Called User call reply in
    let m : Objects = objects s h in
    let key : Key = key_of_call (settled call reply) in
    let new : Option Object = stored (accepted s h + 1) (moment s h) m (settled call reply) in
    let below = played_below s e h o in
    let each = each_is_of sound s h load.free below in
    let made = at_key s h kq (Request r) each there in
    let own = is_standing sound s h load.free below each made.certificate made.known in
    let d : Certificate = own.present in
    let place : Key = key_of (Cert made.certificate) in
    let stands : object_at m place ≡ Some (Cert d) = certificate_of (object_at m place) d own.at in
    let one = one_owner c made.certificate r.meta made.namespace made.owners owned in
    let uid : d.meta.uid ≡ c.meta.uid = sym own.same.uid ∙ sym one.uid in
    let namespace : d.meta.namespace ≡ c.meta.namespace = sym own.same.namespace ∙ sym one.namespace in
    let later : object_at (objects s (e ∷ h)) key ≡ Some (Cert c) = ap (λ (x : Objects). object_at x key) (after_accepted s h User call reply ok) ∙ put_there m key new ∙ is in
    let before : IsVersion place (Cert d) (writes s (e ∷ h)) = still_version (is_accepted reply) (newest s h call reply) (writes s h) place (Cert d) (stands_is_version s h place (Cert d) stands) in
    let same : place ≡ key = uid_has_one_key s (e ∷ h) place key (Cert d) (Cert c) o.legal before (stands_is_version s (e ∷ h) key (Cert c) later) uid in
    let was : object_at m key ≡ Some (Cert d) = ap (object_at m) (sym same) ∙ stands in
    let status = applied_status s m (accepted s h + 1) (moment s h) (settled call reply) d c (apply_settled s call reply (apply_is_called s h call load.steps o.follows.0)) (accepted_found s.faults (state s h) call reply o.legal.0.0 ok) was is in
    record {
      before = d;
      was = was;
      owned = owned_same d c r.meta namespace uid ∙ owned;
      revision = ap (λ (x : CertStatus). x.revision) status;
      issuing = ap (λ (x : CertStatus). is_stated kinds.Issuing x.conditions) status;
    }
