-- Roles write at least as often as there are requests that the Certificates of a load own.
use Rattle.std.proofs.Common.{◌≡◌, ◌≤◌, ◌+◌, ◌∷◌, ℕ, List, length, true, Option, Some, None, sym, ap, subst, ◌∙◌, arith, length-append}
use Rattle.std.specs.List.{cons_option}
use Rattle.std.specs.Prelude.{option_and_then}
use Rattle.cmc_meta.specs.declared.key.Key.{Key}
use Rattle.cmc_objects.specs.declared.certificate.Certificate.{Certificate}
use Rattle.cmc_objects.specs.declared.object.Object.{Object}
use Rattle.cmc_objects.specs.declared.object.Object.TheVariants.{Cert}
use Rattle.cmc_objects.specs.declared.call.Call.{Call}
use Rattle.cmc_objects.specs.declared.call.Reply.{Reply}
use Rattle.cmc_objects.specs.declared.entry.Entry.{Entry}
use Rattle.cmc_objects.specs.declared.entry.Entry.TheVariants.{Call as Called}
use Rattle.cmc_objects.specs.declared.entry.Who.TheVariants.{Pass}
use Rattle.cmc_objects.specs.Objects.{key_of}
use Rattle.cmc_model.specs.Histories.{Setting, accepted, moment, objects}
use Rattle.cmc_model.specs.Objects.{Objects, object_at}
use Rattle.cmc_model.specs.Replies.{is_accepted, key_of_call, put_at, settled, stored}
use Rattle.cmc_model.specs.Versions.{IsVersion}
use Rattle.cmc_model.specs.Writes.{writes}
use Rattle.cmc_pass.specs.declared.pass.Views.{Views}
use Rattle.cmc_rules.specs.Views.{certificate_at, owned_in}
use Rattle.cmc_rules.proofs.Versions.{stands_is_version, version_keyed}
use Rattle.cmc_moves.proofs.Sounds.{each_sound}
use Rattle.cmc_safety.proofs.Carried.{newest}
use Rattle.cmc_safety.proofs.InProgress.{IsPlayed, played_below}
use Rattle.cmc_load_laws.specs.Frame.{IsOneChange, IsSameOwner, seen_of}
use Rattle.cmc_load_laws.specs.Loads.{HasFreeCertificates}
use Rattle.cmc_load_laws.specs.LoadRuns.{IsForOneCertificate, IsStanding}
use Rattle.cmc_load_laws.proofs.Belonging.{certificate_of}
use Rattle.cmc_load_laws.proofs.BelongingVersions.{IsCertificateIn}
use Rattle.cmc_load_laws.proofs.LoadHistories.{after_accepted, known_after, parted_at}
use Rattle.cmc_load_laws.proofs.LoadVersions.{each_is_of, is_standing}
use Rattle.cmc_load_laws.proofs.OneWrite.{one_write}
use Rattle.cmc_load_ends.specs.LoadWrites.{owned_requests}
use Rattle.cmc_load_ends.proofs.AppliedKeys.{AreAllKeys, IsOfCertificate}
use Rattle.cmc_load_ends.proofs.KeyTotals.{total_rises}
use Rattle.cmc_load_ends.proofs.OthersSame.{role_leaves}

longer_by : {A : Type 0} (new old : Option A) (rest : List A) → length (cons_option new rest) ≤ length (cons_option old rest) + 1
longer_by None None rest = omega arith
longer_by None (Some y) rest = omega arith
longer_by (Some x) None rest = omega arith
longer_by (Some x) (Some y) rest = omega arith

one_longer : {A : Type 0} (old new : Option A) (before after : List A) → IsOneChange old new before after → length after ≤ length before + 1
one_longer old new before after one =
    let was = ap length one.was in
    let is = ap length one.is in
    let first = length-append one.first (cons_option old one.rest) in
    let then_so = length-append one.first (cons_option new one.rest) in
    let low = longer_by new old one.rest in
    omega (arith, was, is, first, then_so, low)

module _ (s : Setting) (h : List Entry) (n : ℕ) (call : Call) (reply : Reply) (free : HasFreeCertificates s) (o : IsPlayed s (Called (Pass n) call reply ∷ h)) (ok : is_accepted reply ≡ true)
    (one : IsForOneCertificate s h (Called (Pass n) call reply) call reply) where
  abbrev e : Entry
  e = Called (Pass n) call reply

  abbrev under : Key
  under = key_of_call (settled call reply)

  abbrev new : Option Object
  new = stored (accepted s h + 1) (moment s h) (objects s h) (settled call reply)

  same : IsSameOwner one.write.before one.write.after
  same =
      let c : Certificate = one.write.before in
      let below : IsPlayed s h = played_below s e h o in
      let at : object_at (objects s h) one.own ≡ Some (Cert c) = certificate_of (object_at (objects s h) one.own) c one.write.was in
      let has = stands_is_version s h one.own (Cert c) at in
      let key : key_of (Cert c) ≡ one.own = version_keyed s h one.own (Cert c) below.legal has in
      let known : IsCertificateIn (writes s h) c = subst (λ (k : Key). IsVersion k (Cert c) (writes s h)) (sym key) has in
      let standing : IsStanding (objects s (e ∷ h)) c = is_standing each_sound s (e ∷ h) free o (each_is_of each_sound s (e ∷ h) free o) c (known_after (is_accepted reply) (newest s h call reply) (writes s h) c known) in
      let some : Some standing.present ≡ Some one.write.after = sym standing.at ∙ ap (certificate_at (objects s (e ∷ h))) key ∙ one.write.is in
      let is : standing.present ≡ one.write.after = cc some in
      subst (IsSameOwner c) is standing.same

  own_rises : length (seen_of (objects s (e ∷ h)) one.own).requests ≤ length (seen_of (objects s h) one.own).requests + 1
  own_rises =
      let there : objects s (e ∷ h) ≡ put_at (objects s h) under new = after_accepted s h (Pass n) call reply ok in
      let is : certificate_at (put_at (objects s h) under new) one.own ≡ Some one.write.after = subst (λ (m : Objects). certificate_at m one.own ≡ Some one.write.after) there one.write.is in
      let change = one_write (objects s h) one.own under new one.write.before one.write.after one.write.was is same in
      subst (λ (m : Objects). length (seen_of m one.own).requests ≤ length (seen_of (objects s h) one.own).requests + 1) (sym there)
      (one_longer (option_and_then (owned_in one.write.before) (object_at (objects s h) under)) (option_and_then (owned_in one.write.before) new) (seen_of (objects s h) one.own).requests
      (seen_of (put_at (objects s h) under new) one.own).requests change.requests)

  -- a write of a role brings one at most
  pub role_owns : (keys : List Key) → AreAllKeys (objects s h) keys → owned_requests keys (objects s (e ∷ h)) ≤ owned_requests keys (objects s h) + 1
  role_owns keys all =
      total_rises IsOfCertificate (λ key. length (seen_of (objects s h) key).requests) (λ key. length (seen_of (objects s (e ∷ h)) key).requests) one.own 1 keys all.of_certificates all.distinct
      (λ key kind off. ap (λ (v : Views). length v.requests) (role_leaves s h n call reply ok (parted_at each_sound s (e ∷ h) free o) one key kind off)) own_rises
