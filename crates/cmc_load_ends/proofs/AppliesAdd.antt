-- What an accepted apply of a played history is like.
use Rattle.std.proofs.Common.{◌≡◌, ◌∷◌, ◌+◌, ℕ, List, Bool, true, false, Option, Some, None, refl, sym, ap, subst, ◌∙◌}
use Rattle.std.specs.BTreeMap.{is_at}
use Rattle.std.specs.Prelude.{option_and_then}
use Rattle.cmc_meta.specs.declared.key.Key.{Key}
use Rattle.cmc_meta.specs.Keys.{key_cmp}
use Rattle.cmc_objects.specs.declared.certificate.Certificate.{Certificate}
use Rattle.cmc_objects.specs.declared.object.Object.{Object}
use Rattle.cmc_objects.specs.declared.object.Object.TheVariants.{Cert}
use Rattle.cmc_objects.specs.declared.call.Call.{Call}
use Rattle.cmc_objects.specs.declared.call.Reply.{Reply}
use Rattle.cmc_objects.specs.declared.entry.Entry.{Entry}
use Rattle.cmc_objects.specs.declared.entry.Entry.TheVariants.{Call as Called}
use Rattle.cmc_objects.specs.declared.entry.Who.TheVariants.{User}
use Rattle.cmc_objects.specs.Objects.{key_of}
use Rattle.cmc_model.specs.Acceptance.{IsFounded}
use Rattle.cmc_model.specs.Histories.{Setting, accepted, moment, objects, state}
use Rattle.cmc_model.specs.Objects.{Objects, object_at}
use Rattle.cmc_model.specs.Replies.{IsReply, is_accepted, key_of_call, put_at, settled, stored}
use Rattle.cmc_model.specs.Versions.{HasVersion, IsVersion}
use Rattle.cmc_model.specs.Writes.{writes}
use Rattle.cmc_model.proofs.Accepting.{accepted_found}
use Rattle.cmc_rules.specs.UserSteps.{apply_call}
use Rattle.cmc_rules.specs.Views.{certificate_at, certificate_in}
use Rattle.cmc_rules.proofs.Versions.{stands_is_version, uid_has_one_key, version_keyed}
use Rattle.cmc_moves.proofs.Sounds.{each_sound}
use Rattle.cmc_safety.proofs.Carried.{newest}
use Rattle.cmc_safety.proofs.InProgress.{IsPlayed, played_below}
use Rattle.cmc_load_laws.specs.Frame.{IsSameOwner}
use Rattle.cmc_load_laws.specs.Loads.{HasFreeCertificates}
use Rattle.cmc_load_laws.specs.LoadRuns.{IsStanding}
use Rattle.cmc_load_laws.proofs.BelongingVersions.{EachIsOf, IsCertificateIn, IsOf}
use Rattle.cmc_load_laws.proofs.Elsewhere.{elsewhere_at}
use Rattle.cmc_load_laws.proofs.LoadHistories.{after_accepted, known_after, parted_at, put_there}
use Rattle.cmc_load_laws.proofs.LoadStores.{at_key}
use Rattle.cmc_load_laws.proofs.LoadVersions.{each_is_of, is_standing}
use Rattle.cmc_load_laws.proofs.Totals.{one_key}
use Rattle.cmc_load_ends.proofs.AppliedCertificates.{LeavesCertificate, applied_leaves}
use Rattle.cmc_load_ends.proofs.OthersSame.{LeavesOthers, user_leaves}
use Rattle.cmc_load_ends.proofs.OwnsNothing.{IsNewUid}
use Rattle.cmc_load_ends.proofs.PlainEntries.{IsApply, writes_certificate}
use Rattle.cmc_load_ends.proofs.UserAdds.{IsApplyIn}

own_key : (c : Certificate) (version : Option ℕ) (old : Option Object) (reply : Reply) → key_of_call (settled (apply_call (Cert c) version old) reply) ≡ key_of (Cert c)
unfolding settled
own_key c (Some version) old reply = refl
own_key c None None reply = refl
own_key c None (Some old) reply = refl

module _ (s : Setting) (h : List Entry) (call : Call) (reply : Reply) (free : HasFreeCertificates s) (o : IsPlayed s (Called User call reply ∷ h)) (ok : is_accepted reply ≡ true) (right : IsReply s.faults (state s h) call reply)
    (apply : IsApply s h call) where
  abbrev e : Entry
  e = Called User call reply

  abbrev m : Objects
  m = objects s h

  abbrev own : Key
  own = key_of_call (settled call reply)

  abbrev new : Option Object
  new = stored (accepted s h + 1) (moment s h) m (settled call reply)

  below : IsPlayed s h
  below = played_below s e h o

  each : EachIsOf s (writes s h)
  each = each_is_of each_sound s h free below

  each_after : EachIsOf s (writes s (e ∷ h))
  each_after = each_is_of each_sound s (e ∷ h) free o

  abbrev LeavesBy : Call → Type 0
  LeavesBy x = LeavesCertificate (object_at m (key_of_call (settled x reply))) (stored (accepted s h + 1) (moment s h) m (settled x reply))

  leaves : LeavesBy call
  leaves =
      let c : Certificate = apply.certificate in
      let old : Option Object = object_at m (key_of (Cert c)) in
      let founded : IsFounded m (settled (apply_call (Cert c) apply.version old) reply) = subst (λ (x : Call). IsFounded m (settled x reply)) apply.is (accepted_found s.faults (state s h) call reply right ok) in
      let left = applied_leaves (accepted s h + 1) (moment s h) c apply.version m old reply (parted_at each_sound s h free below) refl founded in
      let key : old ≡ object_at m (key_of_call (settled (apply_call (Cert c) apply.version old) reply)) = ap (object_at m) (sym (own_key c apply.version old reply)) in
      subst LeavesBy (sym apply.is) (subst (λ (x : Option Object). LeavesCertificate x (stored (accepted s h + 1) (moment s h) m (settled (apply_call (Cert c) apply.version old) reply))) key left)

  after_is : objects s (e ∷ h) ≡ put_at m own new
  after_is = after_accepted s h User call reply ok

  there : object_at (objects s (e ∷ h)) own ≡ Some (Cert leaves.after)
  there = ap (λ (x : Objects). object_at x own) after_is ∙ put_there m own new ∙ leaves.is

  version : HasVersion s (e ∷ h) own (Cert leaves.after)
  version = stands_is_version s (e ∷ h) own (Cert leaves.after) there

  later : (c : Certificate) → IsCertificateIn (writes s h) c → IsCertificateIn (writes s (e ∷ h)) c
  later c known = known_after (is_accepted reply) (newest s h call reply) (writes s h) c known

  same : (c : Certificate) → object_at m own ≡ Some (Cert c) → IsSameOwner c leaves.after
  same c at =
      let has = stands_is_version s h own (Cert c) at in
      let key : key_of (Cert c) ≡ own = version_keyed s h own (Cert c) below.legal has in
      let known : IsCertificateIn (writes s h) c = subst (λ (k : Key). IsVersion k (Cert c) (writes s h)) (sym key) has in
      let standing : IsStanding (objects s (e ∷ h)) c = is_standing each_sound s (e ∷ h) free o each_after c (later c known) in
      let some : Some standing.present ≡ Some leaves.after = sym standing.at ∙ ap (certificate_at (objects s (e ∷ h))) key ∙ ap (option_and_then certificate_in) there in
      let one : standing.present ≡ leaves.after = cc some in
      subst (IsSameOwner c) one standing.same

  fresh : object_at m own ≡ None → IsNewUid (writes s h) leaves.after.meta.uid
  fresh none c known uid =
      let key : key_of (Cert c) ≡ own = uid_has_one_key s (e ∷ h) (key_of (Cert c)) own (Cert c) (Cert leaves.after) o.legal (later c known) version uid in
      let standing : IsStanding m c = is_standing each_sound s h free below each c known in
      let empty : certificate_at m own ≡ None = ap (option_and_then certificate_in) none in
      let some : None ≡ Some standing.present = sym empty ∙ sym (ap (certificate_at m) key) ∙ standing.at in
      cc some

  written_by : (b : Bool) (key : Key) (x : Object) → is_at (key_cmp key) own ≡ b → object_at (put_at m own new) key ≡ Some x → IsOf s (writes s h) x
  written_by false key x off at = at_key s h key x each (sym (elsewhere_at m own new key off) ∙ at)
  written_by true key x on at =
      let here : object_at (put_at m own new) own ≡ Some x = ap (object_at (put_at m own new)) (sym (one_key key own on)) ∙ at in
      let some : Some (Cert leaves.after) ≡ Some x = sym leaves.is ∙ sym (put_there m own new) ∙ here in
      let one : Cert leaves.after ≡ x = cc some in
      subst (IsOf s (writes s h)) one (each_after own (Cert leaves.after) version)

  pub apply_in : IsApplyIn s (writes s h) m own new
  apply_in = record {
    kind = writes_certificate s h call reply apply;
    leaves = leaves;
    others = subst (LeavesOthers own m) after_is (user_leaves s h call reply ok (parted_at each_sound s h free below) (parted_at each_sound s (e ∷ h) free o) apply);
    same = same;
    fresh = fresh;
    written = λ key x at. written_by (is_at (key_cmp key) own) key x refl at;
  }
