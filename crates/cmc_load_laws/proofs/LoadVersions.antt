-- In a run of a load each version of an object belongs to a Certificate that exists.
use Rattle.std.proofs.Common.{◌≡◌, ◌⊎◌, ◌+◌, ℕ, List, Option, Some, None, refl, sym, subst, ◌∙◌, inl, inr}
use Rattle.std.specs.Prelude.{IfSome, option_and_then}
use Rattle.cmc_objects.specs.declared.certificate.Certificate.{Certificate}
use Rattle.cmc_objects.specs.declared.request.CertificateRequest.{CertificateRequest}
use Rattle.cmc_objects.specs.declared.secret.Secret.{Secret as SecretObject}
use Rattle.cmc_objects.specs.declared.object.Object.{Object}
use Rattle.cmc_objects.specs.declared.object.Object.TheVariants.{Cert, Request, Secret}
use Rattle.cmc_objects.specs.declared.call.Call.{Call}
use Rattle.cmc_objects.specs.declared.call.Reply.{Reply}
use Rattle.cmc_objects.specs.declared.entry.Entry.{Entry}
use Rattle.cmc_objects.specs.declared.role.Role.TheVariants.{KeyManager, RequestManager, Issuing}
use Rattle.cmc_objects.specs.Objects.{key_of}
use Rattle.cmc_model.specs.Objects.{Objects, object_at}
use Rattle.cmc_model.specs.Replies.{key_of_call, settled, stored}
use Rattle.cmc_model.specs.Histories.{Setting, moment, state, objects, accepted}
use Rattle.cmc_model.specs.Versions.{HasVersion}
use Rattle.cmc_model.specs.Writes.{writes}
use Rattle.cmc_model.proofs.Accepting.{accepted_found}
use Rattle.cmc_model.proofs.Writes.{writes_leave}
use Rattle.cmc_rules.specs.Desks.{desk}
use Rattle.cmc_rules.specs.Rights.{MayChange}
use Rattle.cmc_rules.specs.Views.{certificate_in}
use Rattle.cmc_rules.proofs.Versions.{stands_is_version, version_keyed}
use Rattle.cmc_safety.proofs.Carried.{newest}
use Rattle.cmc_safety.proofs.Course.{AreSound}
use Rattle.cmc_safety.proofs.InProgress.{IsPlayed}
use Rattle.cmc_load_laws.specs.Loads.{HasFreeCertificates}
use Rattle.cmc_load_laws.specs.LoadRuns.{IsStanding}
use Rattle.cmc_load_laws.proofs.BelongingVersions.{EachIsOf, IsAsApplied, IsCertificateIn, IsOf, certificate_kept, more_of, of_making, of_target, of_user, request_kept}
use Rattle.cmc_load_laws.proofs.PassCalls.{IsAccepted, making_key, making_request, writing_target}
use Rattle.cmc_load_laws.proofs.PassRights.{IsAcceptedBy, accepted_by, call_as, next_as}
use Rattle.cmc_load_laws.proofs.PlayedWrites.{carried_on}
use Rattle.cmc_load_laws.proofs.RoleWrites.{WasRequest, was_certificate, was_request, who_writes_secret}
use Rattle.cmc_load_laws.proofs.ScriptCalls.{script_call}
use Rattle.cmc_load_laws.proofs.StandingCertificates.{have_stayed, user_call}

-- ---- what a pass stores

module _ (s : Setting) (h : List Entry) (m : ℕ) (call : Call) (reply : Reply) (each : EachIsOf s (writes s h)) (a : IsAcceptedBy s h m call reply) where
  accepted_as : (old new : Option Object) → object_at (objects s h) (key_of_call (settled call reply)) ≡ old → stored (accepted s h + 1) (moment s h) (objects s h) (settled call reply) ≡ new
      → IsAccepted s h a.caller.pass.seen call reply old new
  accepted_as old new was is = record { legal = a.legal; known = a.caller.saw.known; ok = a.ok; founded = a.founded; was = was; is = is }

  rights_as : (old new : Option Object) → object_at (objects s h) (key_of_call (settled call reply)) ≡ old → stored (accepted s h + 1) (moment s h) (objects s h) (settled call reply) ≡ new → MayChange a.caller.pass.role old new
  rights_as old new was is =
      subst (λ (x : Option Object). MayChange a.caller.pass.role old x) is
      (subst (λ (x : Option Object). MayChange a.caller.pass.role x (stored (accepted s h + 1) (moment s h) (objects s h) (settled call reply))) was a.write.rights)

  stood : (o : Object) (old : Option Object) → object_at (objects s h) (key_of_call (settled call reply)) ≡ old → old ≡ Some o → IsOf s (writes s h) o
  stood o old was there = each (key_of_call (settled call reply)) o (stands_is_version s h (key_of_call (settled call reply)) o (was ∙ there))

  of_certificate : (old : Option Object) (d : Certificate) → object_at (objects s h) (key_of_call (settled call reply)) ≡ old → stored (accepted s h + 1) (moment s h) (objects s h) (settled call reply) ≡ Some (Cert d)
      → IsOf s (writes s h) (Cert d)
  of_certificate old d was is =
      let w = was_certificate a.caller.pass.role old d (rights_as old (Some (Cert d)) was is) in
      certificate_kept s w.before d w.later (stood (Cert w.before) old was w.was)

  of_request_by : (old : Option Object) (r : CertificateRequest) → object_at (objects s h) (key_of_call (settled call reply)) ≡ old → stored (accepted s h + 1) (moment s h) (objects s h) (settled call reply) ≡ Some (Request r)
      → ((a.caller.pass.role ≡ RequestManager) × (old ≡ None)) ⊎ WasRequest old r → IsOf s (writes s h) (Request r)
  of_request_by old r was is (inl made) =
      let as_none = accepted_as None (Some (Request r)) (was ∙ made.1) is in
      subst (λ (x : Option Object). IfSome x (IsOf s (writes s h))) is
      (of_making s h a.caller.pass.seen call reply (Some (Request r)) a.right as_none
      (making_request s h a.caller.pass.seen a.caller.pass.since (desk s h a.caller.pass.role a.caller.pass.seen) a.caller.pass.stage call reply r as_none (next_as s h m call reply a RequestManager made.0) (call_as s h m call reply a RequestManager made.0)))
  of_request_by old r was is (inr w) = request_kept (writes s h) w.before.meta r.meta w.kept (stood (Request w.before) old was w.was)

  of_secret_by : (old : Option Object) (k : SecretObject) → object_at (objects s h) (key_of_call (settled call reply)) ≡ old → stored (accepted s h + 1) (moment s h) (objects s h) (settled call reply) ≡ Some (Secret k)
      → ((a.caller.pass.role ≡ KeyManager) × (old ≡ None)) ⊎ (a.caller.pass.role ≡ Issuing) → IsOf s (writes s h) (Secret k)
  of_secret_by old k was is (inl made) =
      subst (λ (x : Option Object). IfSome x (IsOf s (writes s h))) is
      (of_making s h a.caller.pass.seen call reply (Some (Secret k)) a.right (accepted_as None (Some (Secret k)) (was ∙ made.1) is)
      (making_key a.caller.pass.seen a.caller.pass.since (desk s h a.caller.pass.role a.caller.pass.seen) a.caller.pass.stage call (next_as s h m call reply a KeyManager made.0) (call_as s h m call reply a KeyManager made.0)))
  of_secret_by old k was is (inr issuing) =
      let as_is = accepted_as old (Some (Secret k)) was is in
      subst (λ (x : Option Object). IfSome x (IsOf s (writes s h))) is
      (of_target s h a.caller.pass.seen call reply old (Some (Secret k)) each as_is
      (writing_target s h a.caller.pass.seen a.caller.pass.since (desk s h a.caller.pass.role a.caller.pass.seen) a.caller.pass.stage call reply old k as_is (next_as s h m call reply a Issuing issuing) (call_as s h m call reply a Issuing issuing)))

  of_stored : (old new : Option Object) → object_at (objects s h) (key_of_call (settled call reply)) ≡ old → stored (accepted s h + 1) (moment s h) (objects s h) (settled call reply) ≡ new → IfSome new (IsOf s (writes s h))
  of_stored old None was is = tt
  of_stored old (Some (Cert d)) was is = of_certificate old d was is
  of_stored old (Some (Request r)) was is = of_request_by old r was is (was_request a.caller.pass.role old r (rights_as old (Some (Request r)) was is))
  of_stored old (Some (Secret k)) was is = of_secret_by old k was is (who_writes_secret a.caller.pass.role old k (rights_as old (Some (Secret k)) was is))

  pub of_pass : IfSome (stored (accepted s h + 1) (moment s h) (objects s h) (settled call reply)) (IsOf s (writes s h))
  of_pass = of_stored (object_at (objects s h) (key_of_call (settled call reply))) (stored (accepted s h + 1) (moment s h) (objects s h) (settled call reply)) refl refl

-- ---- histories

pub each_is_of : AreSound → (s : Setting) (h : List Entry) → HasFreeCertificates s → IsPlayed s h → EachIsOf s (writes s h)
each_is_of sound s h load o =
    carried_on (EachIsOf s) s
    (record {
      none = λ key o has. absurd has;
      user = λ h call reply o right owes ok each.
          more_of s (newest s h call reply) (writes s h)
          (of_user s h (accepted s h + 1) (moment s h) (settled call reply) load o.legal each (user_call s h call reply (script_call s h call owes)) (accepted_found s.faults (state s h) call reply right ok)) each;
      pass = λ h m call reply o ok each. more_of s (newest s h call reply) (writes s h) (of_pass s h m call reply each (accepted_by sound s h m call reply o ok)) each;
    })
    h o

-- ---- the Certificate that exists

pub is_standing : AreSound → (s : Setting) (h : List Entry) → HasFreeCertificates s → IsPlayed s h → EachIsOf s (writes s h) → (c : Certificate) → IsCertificateIn (writes s h) c → IsStanding (objects s h) c
is_standing sound s h load o each c known =
    let there = have_stayed sound s h load o (key_of (Cert c)) c known in
    let d : Certificate = there.0 in
    let at : object_at (objects s h) (key_of (Cert c)) ≡ Some (Cert d) = subst (λ (m : Objects). object_at m (key_of (Cert c)) ≡ Some (Cert d)) (writes_leave s h) there.1 in
    let has : HasVersion s h (key_of (Cert c)) (Cert d) = stands_is_version s h (key_of (Cert c)) (Cert d) at in
    let key : key_of (Cert d) ≡ key_of (Cert c) = version_keyed s h (key_of (Cert c)) (Cert d) o.legal has in
    let before : IsAsApplied s c = each (key_of (Cert c)) (Cert c) known in
    let after : IsAsApplied s d = each (key_of (Cert c)) (Cert d) has in
    let one = load.one_secret before.applied after.applied before.applies after.applies (before.key ∙ sym key ∙ sym after.key) in
    record {
      present = d;
      at = λ i. option_and_then certificate_in (at i);
      same = record { namespace = λ i. (sym key i).namespace; uid = sym there.2; secret_name = before.secret ∙ one ∙ sym after.secret };
    }
