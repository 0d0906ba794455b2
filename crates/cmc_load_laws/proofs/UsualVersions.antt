-- In a run of a load each Certificate is usual: it has the specification and the annotations of one that was applied.
use Rattle.std.proofs.Common.{◌≡◌, ◌≤◌, ◌+◌, ℕ, ℤ, List, true, false, Option, Some, None, refl, sym, ap, subst, ◌∙◌, inl, inr}
use Rattle.std.specs.Prelude.{IfSome, codes}
use Rattle.cmc_meta.specs.declared.object_meta.ObjectMeta.{ObjectMeta}
use Rattle.cmc_objects.specs.declared.certificate.CertSpec.{CertSpec}
use Rattle.cmc_objects.specs.declared.certificate.CertStatus.{CertStatus}
use Rattle.cmc_objects.specs.declared.certificate.Certificate.{Certificate}
use Rattle.cmc_objects.specs.declared.object.Object.{Object}
use Rattle.cmc_objects.specs.declared.object.Object.TheVariants.{Cert, Request, Secret}
use Rattle.cmc_objects.specs.declared.call.Call.{Call}
use Rattle.cmc_objects.specs.declared.call.Call.TheVariants.{Create, Update, UpdateStatus, Delete, Get}
use Rattle.cmc_objects.specs.declared.call.Reply.{Reply}
use Rattle.cmc_objects.specs.declared.entry.Entry.{Entry}
use Rattle.cmc_objects.specs.declared.role.Role.{Role}
use Rattle.cmc_objects.specs.declared.role.Role.TheVariants.{Trigger, KeyManager, RequestManager, Approver, Issuer, Issuing, Readiness, Revision}
use Rattle.cmc_objects.specs.Defaults.{key_algorithm, key_rotation}
use Rattle.cmc_objects.specs.Objects.{key_of, numbered}
use Rattle.cmc_match.specs.Marks.{has_text}
use Rattle.cmc_model.specs.Objects.{object_at}
use Rattle.cmc_model.specs.Stored.{created, revised, updated}
use Rattle.cmc_model.specs.Acceptance.{IsFounded}
use Rattle.cmc_model.specs.Replies.{settled, stored, key_of_call}
use Rattle.cmc_model.specs.Histories.{Setting, moment, state, objects, accepted}
use Rattle.cmc_model.specs.Writes.{writes}
use Rattle.cmc_model.proofs.Accepting.{accepted_found}
use Rattle.cmc_rules.specs.Rights.{ChangesIssuance, ChangesIssuing, ChangesNextKey, ChangesReadiness, MayChange, OfCertificates}
use Rattle.cmc_rules.proofs.Versions.{stands_is_version}
use Rattle.cmc_safety.proofs.Carried.{EachVersion, newest, no_version, one_more, standing_has}
use Rattle.cmc_safety.proofs.Course.{AreSound}
use Rattle.cmc_safety.proofs.InProgress.{IsPlayed}
use Rattle.cmc_load_laws.specs.Loads.{Applies, are_load_steps, IsLoad, IsUsual, octets_of_names}
use Rattle.cmc_load_laws.proofs.LoadScripts.{apply_is_called, IsApplyCall}
use Rattle.cmc_load_laws.proofs.PassRights.{accepted_by}
use Rattle.cmc_load_laws.proofs.PlayedWrites.{carried_on}
use Rattle.cmc_load_laws.proofs.RoleWrites.{was_certificate}

-- the specification and the annotations are those of one that was applied
pub record IsLikeApplied (s : Setting) (c : Certificate) : Type 0 where
  pub applied : Certificate
  pub applies : Applies s (Cert applied)
  pub spec : c.spec ≡ applied.spec
  pub annotations : c.meta.annotations ≡ applied.meta.annotations

abbrev pub IsOfLoadObject : Setting → Object → Type 0
IsOfLoadObject s (Cert c) = IsLikeApplied s c
IsOfLoadObject s (Request r) = Unit {0}
IsOfLoadObject s (Secret k) = Unit {0}

like : (s : Setting) (c d : Certificate) → d.spec ≡ c.spec → d.meta.annotations ≡ c.meta.annotations → IsLikeApplied s c → IsLikeApplied s d
like s c d spec annotations is = record { applied = is.applied; applies = is.applies; spec = spec ∙ is.spec; annotations = annotations ∙ is.annotations }

-- ---- what a user's call stores

of_created : (s : Setting) (v : ℕ) (now : ℤ) (c : Certificate) → Applies s (Cert c) → IsOfLoadObject s (created v now (Cert c))
unfolding created
of_created s v now c applies = record { applied = c; applies = applies; spec = refl; annotations = refl }

of_updated : (s : Setting) (v : ℕ) (old : Object) (c : Certificate) → Applies s (Cert c) → IsOfLoadObject s old → IsOfLoadObject s (revised v old (Cert c))
unfolding numbered updated
of_updated s v (Cert a) c applies is = record { applied = c; applies = applies; spec = refl; annotations = refl }
of_updated s v (Request r) c applies is = tt
of_updated s v (Secret k) c applies is = tt

pub of_applying : (s : Setting) (h : List Entry) (v : ℕ) (now : ℤ) (call : Call) → IsApplyCall s call → IsFounded (objects s h) call → EachVersion (IsOfLoadObject s) (writes s h) → IfSome (stored v now (objects s h) call) (IsOfLoadObject s)
unfolding IsFounded
of_applying s h v now (Create (Cert c) false) applies on each = of_created s v now c applies
of_applying s h v now (Update (Cert c) named) applies on each = rw on.1 (of_updated s v on.0 c applies (each (key_of (Cert c)) on.0 (stands_is_version s h (key_of (Cert c)) on.0 on.1)))
of_applying s h v now (Create (Cert c) true) applies on each = absurd applies
of_applying s h v now (Create (Request r) b) applies on each = absurd applies
of_applying s h v now (Create (Secret k) b) applies on each = absurd applies
of_applying s h v now (Update (Request r) named) applies on each = absurd applies
of_applying s h v now (Update (Secret k) named) applies on each = absurd applies
of_applying s h v now (UpdateStatus object named) applies on each = absurd applies
of_applying s h v now (Delete key named) applies on each = absurd applies
of_applying s h v now (Get key) applies on each = absurd applies

settled_apply : (s : Setting) (call : Call) (reply : Reply) → IsApplyCall s call → settled call reply ≡ call
unfolding settled
settled_apply s (Create (Cert c) false) reply is = refl
settled_apply s (Update (Cert c) named) reply is = refl
settled_apply s (Create (Cert c) true) reply is = absurd is
settled_apply s (Create (Request r) b) reply is = absurd is
settled_apply s (Create (Secret k) b) reply is = absurd is
settled_apply s (Update (Request r) named) reply is = refl
settled_apply s (Update (Secret k) named) reply is = refl
settled_apply s (UpdateStatus object named) reply is = refl
settled_apply s (Delete key named) reply is = refl
settled_apply s (Get key) reply is = refl

pub apply_settled : (s : Setting) (call : Call) (reply : Reply) → IsApplyCall s call → IsApplyCall s (settled call reply)
apply_settled s call reply is = subst (IsApplyCall s) (sym (settled_apply s call reply is)) is

-- ---- what a pass stores

kept_by : (P : CertStatus → CertStatus → Type 0) (s : Setting) (c d : Certificate) → OfCertificates P (Cert c) (Cert d) → IsLikeApplied s c → IsLikeApplied s d
kept_by P s c d is like_it = like s c d is.1 (ap (λ (m : ObjectMeta). m.annotations) is.0) like_it

kept_changes : (role : Role) (s : Setting) (c d : Certificate) → MayChange role (Some (Cert c)) (Some (Cert d)) → IsLikeApplied s c → IsLikeApplied s d
kept_changes Trigger s c d is like_it = kept_by ChangesIssuing s c d is like_it
kept_changes KeyManager s c d (inl is) like_it = absurd is
kept_changes KeyManager s c d (inr (inl is)) like_it = absurd is
kept_changes KeyManager s c d (inr (inr is)) like_it = kept_by ChangesNextKey s c d is like_it
kept_changes RequestManager s c d (inl is) like_it = absurd is
kept_changes RequestManager s c d (inr is) like_it = absurd is
kept_changes Approver s c d is like_it = absurd is
kept_changes Issuer s c d is like_it = absurd is
kept_changes Issuing s c d (inl is) like_it = absurd is
kept_changes Issuing s c d (inr (inl is)) like_it = absurd is.0
kept_changes Issuing s c d (inr (inr is)) like_it = kept_by ChangesIssuance s c d is like_it
kept_changes Readiness s c d is like_it = kept_by ChangesReadiness s c d is like_it
kept_changes Revision s c d is like_it = absurd is

kept_over : (role : Role) (s : Setting) (old new : Option Object) → MayChange role old new → IfSome old (IsOfLoadObject s) → IfSome new (IsOfLoadObject s)
kept_over role s old None may was = tt
kept_over role s old (Some (Request r)) may was = tt
kept_over role s old (Some (Secret k)) may was = tt
kept_over role s old (Some (Cert d)) may was =
    let w = was_certificate role old d may in
    kept_changes role s w.before d (subst (λ (o : Option Object). MayChange role o (Some (Cert d))) w.was may) (subst (λ (o : Option Object). IfSome o (IsOfLoadObject s)) w.was was)

-- ---- histories

pub each_like_applied : AreSound → (s : Setting) (h : List Entry) → are_load_steps s.script ≡ true → IsPlayed s h → EachVersion (IsOfLoadObject s) (writes s h)
each_like_applied sound s h are o =
    carried_on (EachVersion (IsOfLoadObject s)) s
    (record {
      none = no_version (IsOfLoadObject s);
      user = λ h call reply o right owes ok each.
          one_more (IsOfLoadObject s) (newest s h call reply) (writes s h)
          (of_applying s h (accepted s h + 1) (moment s h) (settled call reply) (apply_settled s call reply (apply_is_called s h call are owes)) (accepted_found s.faults (state s h) call reply right ok) each) each;
      pass = λ h m call reply o ok each.
          let a = accepted_by sound s h m call reply o ok in
          one_more (IsOfLoadObject s) (newest s h call reply) (writes s h)
          (kept_over a.caller.pass.role s (object_at (objects s h) (key_of_call (settled call reply))) (newest s h call reply).object a.write.rights (standing_has (IsOfLoadObject s) s h (key_of_call (settled call reply)) each)) each;
    })
    h o

-- ---- so each is usual

pub usual_like : (s : Setting) (c : Certificate) → IsLoad s → IsLikeApplied s c → IsUsual c
usual_like s c load is =
    let u = load.usual is.applied is.applies in
    record {
      rotates = ap (λ (x : CertSpec). key_rotation x.key) is.spec ∙ u.rotates;
      curve = ap (λ (x : CertSpec). key_algorithm x.key) is.spec ∙ u.curve;
      no_stand_in = ap (λ (x : List (List ℕ × List ℕ)). has_text x (codes "cert-manager.io/issue-temporary-certificate") (codes "true")) is.annotations ∙ u.no_stand_in;
      addresses = ap (λ (x : CertSpec). x.ip_addresses) is.spec ∙ u.addresses;
      names = subst (λ (x : CertSpec). octets_of_names x ≤ 1000000) (sym is.spec) u.names;
    }
