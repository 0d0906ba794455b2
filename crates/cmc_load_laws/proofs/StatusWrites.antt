-- In a run of a load an accepted write of a Certificate's status leaves room for the revisions of its requests, unless an issuance fails.
use Rattle.std.proofs.Common.{◌≡◌, ◌⊎◌, ◌+◌, ◌≤◌, ℕ, List, Bool, true, false, Option, Some, refl, sym, ap, subst, ◌∙◌, inl, inr}
use Rattle.std.specs.Prelude.{if◌then◌else◌}
use Rattle.cmc_meta.specs.declared.key.Key.{Key}
use Rattle.cmc_meta.specs.declared.key.Kind.TheVariants as kinds
use Rattle.cmc_objects.specs.declared.certificate.Certificate.{Certificate}
use Rattle.cmc_objects.specs.declared.secret.Secret.{Secret as SecretObject}
use Rattle.cmc_objects.specs.declared.object.Object.{Object}
use Rattle.cmc_objects.specs.declared.object.Object.TheVariants.{Cert, Request, Secret}
use Rattle.cmc_objects.specs.declared.call.Call.{Call}
use Rattle.cmc_objects.specs.declared.call.Call.TheVariants.{Create, Update, UpdateStatus, Delete, Get}
use Rattle.cmc_objects.specs.declared.call.Reply.{Reply}
use Rattle.cmc_objects.specs.declared.call.Reply.TheVariants as replies
use Rattle.cmc_objects.specs.declared.entry.Entry.{Entry}
use Rattle.cmc_objects.specs.declared.role.Role.TheVariants.{Trigger, Issuing}
use Rattle.cmc_objects.specs.Objects.{key_of}
use Rattle.cmc_model.specs.Generated.{named}
use Rattle.cmc_model.specs.Objects.{object_at}
use Rattle.cmc_model.specs.Replies.{key_of_call, settled, stored, under_reply}
use Rattle.cmc_model.specs.Histories.{Setting, moment, objects, accepted}
use Rattle.cmc_rules.specs.declared.progress.OpenPass.{OpenPass}
use Rattle.cmc_rules.specs.declared.progress.Stage.{Stage}
use Rattle.cmc_rules.specs.declared.progress.Stage.TheVariants.{Fresh, Asked, Given, Read, Saved, Wrote, Refused, Barred}
use Rattle.cmc_rules.specs.Acts.{act, call_after}
use Rattle.cmc_rules.specs.Causes.{IsNextCall}
use Rattle.cmc_rules.specs.Desks.{desk}
use Rattle.cmc_rules.specs.Passes.{writes_temporary}
use Rattle.cmc_rules.specs.Revisions.{KeepsRevision, RaisesRevision}
use Rattle.cmc_rules.specs.Rights.{MayChange}
use Rattle.cmc_rules.specs.Safety.{IsSecretWrite}
use Rattle.cmc_rules.specs.SeenObjects.{OnSeen}
use Rattle.cmc_rules.specs.Sound.{IsRaiseOf}
use Rattle.cmc_rules.specs.Trigger.{is_issuing}
use Rattle.cmc_rules.proofs.Sighted.{as_seen}
use Rattle.cmc_rules.proofs.Versions.{stands_is_version, version_keyed}
use Rattle.cmc_run_laws.specs.Issuances.{certificate_restated}
use Rattle.cmc_safety.proofs.NextCalls.{IsCallAt}
use Rattle.cmc_load_laws.proofs.CertificateWrites.{is_restated}
use Rattle.cmc_load_laws.proofs.CurrentStatuses.{first_trigger}
use Rattle.cmc_load_laws.proofs.FirstCalls.{trigger_write}
use Rattle.cmc_load_laws.proofs.PassRights.{IsAcceptedBy, call_as, next_as}
use Rattle.cmc_load_laws.proofs.RevisionTops.{raised_top, top, top_alike, triggered_top, who_ends}

-- ---- what writes a Secret is under the key of one

secret_named : (k : SecretObject) (generate : Bool) (reply : Reply) → (key_of (if generate then under_reply (Secret k) reply else Secret k)).kind ≡ kinds.Secret
unfolding named
secret_named k false reply = refl
secret_named k true (replies.Ok version name) = refl
secret_named k true other = refl

secret_saved : (call : Call) (reply : Reply) → IsSecretWrite call → (key_of_call (settled call reply)).kind ≡ kinds.Secret
unfolding settled
secret_saved (Create (Secret k) generate) reply is = secret_named k generate reply
secret_saved (Update (Secret k) version) reply is = refl
secret_saved (Create (Cert c) generate) reply is = absurd is
secret_saved (Create (Request r) generate) reply is = absurd is
secret_saved (Update (Cert c) version) reply is = absurd is
secret_saved (Update (Request r) version) reply is = absurd is
secret_saved (UpdateStatus object version) reply is = absurd is
secret_saved (Delete key version) reply is = absurd is
secret_saved (Get key) reply is = absurd is

stand_in_saved : (call : Call) (reply : Reply) → writes_temporary call ≡ true → (key_of_call (settled call reply)).kind ≡ kinds.Secret
unfolding settled
stand_in_saved (Create (Secret k) generate) reply is = secret_named k generate reply
stand_in_saved (Update (Secret k) version) reply is = refl
stand_in_saved (Create (Cert c) generate) reply is = absurd (cc is)
stand_in_saved (Create (Request r) generate) reply is = absurd (cc is)
stand_in_saved (Update (Cert c) version) reply is = absurd (cc is)
stand_in_saved (Update (Request r) version) reply is = absurd (cc is)
stand_in_saved (UpdateStatus object version) reply is = absurd (cc is)
stand_in_saved (Delete key version) reply is = absurd (cc is)
stand_in_saved (Get key) reply is = absurd (cc is)

-- no issuance fails: issuing writes no status before it has written a Secret
abbrev pub NeverFails : Setting → List Entry → Type 0
NeverFails s h = (n : ℕ) (call : Call) (reply : Reply) (a : IsAcceptedBy s h n call reply) → a.caller.pass.role ≡ Issuing → a.caller.pass.stage ≡ Fresh → ⊥

module _ (s : Setting) (h : List Entry) (n : ℕ) (call : Call) (reply : Reply) (a : IsAcceptedBy s h n call reply) where
  abbrev pub p : OpenPass
  p = a.caller.pass

  abbrev pub old : Option Object
  old = object_at (objects s h) (key_of_call (settled call reply))

  abbrev pub new : Option Object
  new = stored (accepted s h + 1) (moment s h) (objects s h) (settled call reply)

  no_secret : (d : Certificate) → old ≡ Some (Cert d) → (key_of_call (settled call reply)).kind ≡ kinds.Secret → ⊥
  no_secret d was is =
      let own : key_of (Cert d) ≡ key_of_call (settled call reply) = version_keyed s h (key_of_call (settled call reply)) (Cert d) a.legal (stands_is_version s h (key_of_call (settled call reply)) (Cert d) was) in
      let kind : kinds.Certificate ≡ kinds.Secret = ap (λ (k : Key). k.kind) own ∙ is in
      cc kind

  -- the trigger asks for the issuance of the Certificate that it sees
  by_trigger : (d c : Certificate) → old ≡ Some (Cert d) → new ≡ Some (Cert c) → p.role ≡ Trigger → top d ≤ top c
  by_trigger d c was is trigger =
      let w = trigger_write p.since p.seen call (first_trigger s h n call reply a trigger) in
      let q = is_restated s h p.seen call reply w.certificate w.status a.legal a.caller.saw.known w.sees a.founded w.is in
      let before : Some (Cert w.certificate) ≡ Some (Cert d) = sym q.was ∙ ap (object_at (objects s h)) (sym q.key) ∙ was in
      let after : Some (Cert (certificate_restated (accepted s h + 1) w.status w.certificate)) ≡ Some (Cert c) = sym q.is ∙ is in
      let one : w.certificate ≡ d = cc before in
      let two : certificate_restated (accepted s h + 1) w.status w.certificate ≡ c = cc after in
      subst (λ (x : Certificate). top d ≤ top x) two
      (subst (λ (x : Certificate). top x ≤ top (certificate_restated (accepted s h + 1) w.status w.certificate)) one
      (subst (λ (st : _). top w.certificate ≤ top (certificate_restated (accepted s h + 1) st w.certificate)) (sym w.so.1) (triggered_top (accepted s h + 1) p.since w.so.0 w.certificate)))

  raises : (c0 : Certificate) → OnSeen (IsRaiseOf c0 p.since) p.seen call → RaisesRevision old new
  raises c0 on = (as_seen (IsRaiseOf c0 p.since) s h p.seen call reply a.legal a.caller.saw.known a.ok a.founded on).raises

  by_issuing : NeverFails s h → (d c : Certificate) → old ≡ Some (Cert d) → new ≡ Some (Cert c) → p.role ≡ Issuing → (stage : Stage) → p.stage ≡ stage
      → IsNextCall stage (act Issuing p.seen p.since (desk s h p.role p.seen)) (call_after Issuing p.seen p.since) call → IsCallAt stage Issuing p.seen p.since call → top d ≤ top c
  unfolding call_after
  by_issuing never d c was is issuing Fresh come next at = absurd (never n call reply a issuing come)
  by_issuing never d c was is issuing (Asked order) come next at = absurd next
  by_issuing never d c was is issuing (Given order value) come next at = absurd (cc next)
  by_issuing never d c was is issuing Read come next (inl at) = absurd (no_secret d was (secret_saved call reply (subst IsSecretWrite (sym at.planned) at.issues.is_secret)))
  by_issuing never d c was is issuing Read come next (inr at) = absurd (no_secret d was (stand_in_saved call reply (ap writes_temporary at.planned ∙ at.stands_in.is_marked)))
  by_issuing never d c was is issuing Saved come next at =
      let on : OnSeen (IsRaiseOf at.issues.certificate p.since) p.seen call = subst (OnSeen (IsRaiseOf at.issues.certificate p.since) p.seen) (sym at.planned) at.issues.status in
      raised_top c d (subst (λ (x : Option Object). RaisesRevision x (Some (Cert c))) was (subst (RaisesRevision old) is (raises at.issues.certificate on)))
  by_issuing never d c was is issuing Wrote come next at = absurd next
  by_issuing never d c was is issuing (Refused entry obstacle) come next at = absurd next
  by_issuing never d c was is issuing Barred come next at = absurd next

  by_others : (d c : Certificate) → (is_issuing c ≡ is_issuing d) → KeepsRevision (Some (Cert d)) (Some (Cert c)) ⊎ RaisesRevision (Some (Cert d)) (Some (Cert c)) → top d ≤ top c
  by_others d c issuing (inl keeps) = top_alike c d keeps issuing
  by_others d c issuing (inr rises) = raised_top c d rises

  pub status_top : NeverFails s h → (d c : Certificate) → old ≡ Some (Cert d) → new ≡ Some (Cert c) → top d ≤ top c
  status_top never d c was is = by (who_ends p.role d c rights) where
    rights : MayChange p.role (Some (Cert d)) (Some (Cert c))
    rights = subst (λ (x : Option Object). MayChange p.role x (Some (Cert c))) was (subst (MayChange p.role old) is a.write.rights)

    revision : KeepsRevision (Some (Cert d)) (Some (Cert c)) ⊎ RaisesRevision (Some (Cert d)) (Some (Cert c))
    revision =
        subst (λ (x : Option Object). KeepsRevision x (Some (Cert c)) ⊎ RaisesRevision x (Some (Cert c))) was
        (subst (λ (x : Option Object). KeepsRevision old x ⊎ RaisesRevision old x) is a.write.revision)

    by : (p.role ≡ Trigger) ⊎ ((p.role ≡ Issuing) ⊎ (is_issuing c ≡ is_issuing d)) → top d ≤ top c
    by (inl trigger) = by_trigger d c was is trigger
    by (inr (inl issuing)) = by_issuing never d c was is issuing p.stage refl (next_as s h n call reply a Issuing issuing) (call_as s h n call reply a Issuing issuing)
    by (inr (inr same)) = by_others d c same revision
