-- An apply raises the measure of all Certificates of a load by 14 at most.
use Rattle.std.proofs.Common.{◌≡◌, ◌∷◌, ◌+◌, ◌≤◌, ℕ, ℤ, List, [], length, Bool, true, false, Option, Some, None, refl, sym, ap, subst, ◌∙◌, arith}
use Rattle.std.specs.BTreeMap.{is_at}
use Rattle.std.specs.List.{list_any}
use Rattle.std.specs.Prelude.{◌||◌, option_and_then, if◌then◌else◌}
use Rattle.cmc_meta.specs.declared.key.Key.{Key}
use Rattle.cmc_meta.specs.declared.key.Kind.TheVariants as kinds
use Rattle.cmc_meta.specs.Keys.{key_cmp}
use Rattle.cmc_objects.specs.declared.certificate.Certificate.{Certificate}
use Rattle.cmc_objects.specs.declared.object.Object.{Object}
use Rattle.cmc_objects.specs.declared.object.Object.TheVariants.{Cert, Request, Secret}
use Rattle.cmc_objects.specs.Objects.{no_cert_status}
use Rattle.cmc_model.specs.declared.write.Write.{Write}
use Rattle.cmc_model.specs.Histories.{Setting}
use Rattle.cmc_model.specs.Objects.{Objects, object_at}
use Rattle.cmc_model.specs.Replies.{put_at}
use Rattle.cmc_pass.specs.declared.pass.Desk.{Desk}
use Rattle.cmc_pass.specs.declared.pass.Views.{Views}
use Rattle.cmc_rules.specs.Views.{certificate_at, certificate_in, next_in, owned_in}
use Rattle.cmc_run_laws.specs.Lengths.{Each}
use Rattle.cmc_run_laws.specs.Issuances.{with_certificate}
use Rattle.cmc_load_laws.specs.Frame.{IsSameOwner, key_of_target, seen_of}
use Rattle.cmc_load_laws.specs.Measure.{measure}
use Rattle.cmc_load_laws.specs.Totals.{HasCertificate, total, total_measure}
use Rattle.cmc_load_laws.proofs.Belonging.{itself}
use Rattle.cmc_load_laws.proofs.Elsewhere.{parts_of, seen_is}
use Rattle.cmc_load_laws.proofs.LoadHistories.{put_there}
use Rattle.cmc_load_laws.proofs.OneWrite.{one_write, only_certificate}
use Rattle.cmc_load_laws.proofs.Totals.{one_key}
use Rattle.cmc_load_ends.specs.LoadWrites.{owned_requests, keys_with}
use Rattle.cmc_load_ends.proofs.AppliedCertificates.{HasStatusFrom, LeavesCertificate}
use Rattle.cmc_load_ends.proofs.AppliedKeys.{AreAllKeys, IsOfCertificate}
use Rattle.cmc_load_ends.proofs.KeyTotals.{total_rises, total_same}
use Rattle.cmc_load_ends.proofs.OthersSame.{LeavesOthers}
use Rattle.cmc_load_ends.proofs.OwnsNothing.{AreOfWritten, IsNewUid, owns_no_key, owns_no_request}
use Rattle.cmc_load_ends.proofs.PartsRise.{measure_applied, measure_first}

-- ---- of the Certificate itself

no_target : (b : Bool) (c : Certificate) (own : Key) → own.kind ≡ kinds.Certificate → is_at (key_cmp (key_of_target c)) own ≡ b → b ≡ false
no_target true c own kind is = absurd (let k : kinds.Secret ≡ kinds.Certificate = ap (λ (q : Key). q.kind) (one_key (key_of_target c) own is) ∙ kind in cc k)
no_target false c own kind is = refl

left_at : (m : Objects) (own : Key) (new : Option Object) (d : Certificate) → new ≡ Some (Cert d) → certificate_at (put_at m own new) own ≡ Some d
left_at m own new d is = ap (option_and_then certificate_in) (put_there m own new ∙ is)

-- another version of it is seen, and nothing else is new
again_sees : (m : Objects) (own : Key) (new : Option Object) (c d : Certificate) → own.kind ≡ kinds.Certificate → object_at m own ≡ Some (Cert c) → new ≡ Some (Cert d) → IsSameOwner c d → seen_of (put_at m own new) own ≡ with_certificate d (seen_of m own)
again_sees m own new c d kind at is same =
    let was : certificate_at m own ≡ Some c = ap (option_and_then certificate_in) at in
    let has = one_write m own own new c d was (left_at m own new d is) same in
    only_certificate own c own (object_at m own) new (seen_of m own) (seen_of (put_at m own new) own) has d (itself own) (no_target (is_at (key_cmp (key_of_target c)) own) c own kind refl)
    (subst (λ (o : Option Object). (option_and_then (next_in c) o ≡ None) × (option_and_then (owned_in c) o ≡ None)) (sym at) (refl, refl)) is

again_adds : (desk : Desk) (now : ℤ) (m : Objects) (own : Key) (new : Option Object) (c d : Certificate) → own.kind ≡ kinds.Certificate → object_at m own ≡ Some (Cert c) → new ≡ Some (Cert d) → d.status ≡ c.status → IsSameOwner c d
    → measure desk 0 now (seen_of (put_at m own new) own) ≤ measure desk 0 now (seen_of m own) + 14
again_adds desk now m own new c d kind at is status same =
    let was : certificate_at m own ≡ Some c = ap (option_and_then certificate_in) at in
    let after = again_sees m own new c d kind at is same in
    measure_applied desk 0 now (seen_of m own) (seen_of (put_at m own new) own) c d (ap (λ (v : Views). v.certificate) (seen_is m own) ∙ was) (ap (λ (v : Views). v.certificate) after) status
    (ap (λ (v : Views). v.next) after) (ap (λ (v : Views). v.requests) after)

first_adds : (s : Setting) (ws : List Write) (desk : Desk) (now : ℤ) (m : Objects) (own : Key) (new : Option Object) (d : Certificate) → new ≡ Some (Cert d) → d.status ≡ no_cert_status → IsNewUid ws d.meta.uid → AreOfWritten s ws (put_at m own new)
    → measure desk 0 now (seen_of (put_at m own new) own) ≤ 14
first_adds s ws desk now m own new d is status fresh of =
    let n : Objects = put_at m own new in
    let same : seen_of n own ≡ parts_of n (Some d) = seen_is n own ∙ ap (parts_of n) (left_at m own new d is) in
    subst (λ (v : Views). measure desk 0 now v ≤ 14) (sym same) (measure_first desk now (parts_of n (Some d)) d refl status (owns_no_key s ws n d fresh of) (owns_no_request s ws n d fresh of))

-- ---- of all

-- What is so of an apply: it leaves a Certificate, which is another version of the one that was there, or owns nothing.
pub record IsApplyIn (s : Setting) (ws : List Write) (m : Objects) (own : Key) (new : Option Object) : Type 0 where
  pub kind : own.kind ≡ kinds.Certificate
  pub leaves : LeavesCertificate (object_at m own) new
  pub others : LeavesOthers own m (put_at m own new)
  pub same : (c : Certificate) → object_at m own ≡ Some (Cert c) → IsSameOwner c leaves.after
  pub fresh : object_at m own ≡ None → IsNewUid ws leaves.after.meta.uid
  pub written : AreOfWritten s ws (put_at m own new)

module _ (s : Setting) (ws : List Write) (desk : Desk) (now : ℤ) (m : Objects) (own : Key) (new : Option Object) (a : IsApplyIn s ws m own new) where
  abbrev before : Key → ℕ
  before key = measure desk 0 now (seen_of m key)

  abbrev after : Key → ℕ
  after key = measure desk 0 now (seen_of (put_at m own new) key)

  same_elsewhere : (key : Key) → IsOfCertificate key → is_at (key_cmp own) key ≡ false → after key ≡ before key
  same_elsewhere key kind off = ap (measure desk 0 now) (a.others key kind off)

  own_by : (o : Option Object) → object_at m own ≡ o → HasStatusFrom o a.leaves.after → HasCertificate m own → after own ≤ before own + 14
  own_by None at status (c, there) = absurd (let none : certificate_at m own ≡ None = ap (option_and_then certificate_in) at in cc (none, there))
  own_by (Some (Cert c)) at status has = again_adds desk now m own new c a.leaves.after a.kind at a.leaves.is status (a.same c at)
  own_by (Some (Request r)) at status has = absurd status
  own_by (Some (Secret k)) at status has = absurd status

  new_by : (o : Option Object) → object_at m own ≡ o → HasStatusFrom o a.leaves.after → (HasCertificate m own → ⊥) → after own ≤ 14
  new_by None at status none = first_adds s ws desk now m own new a.leaves.after a.leaves.is status (a.fresh at) a.written
  new_by (Some (Cert c)) at status none = absurd (none (c, ap (option_and_then certificate_in) at))
  new_by (Some (Request r)) at status none = absurd status
  new_by (Some (Secret k)) at status none = absurd status

  -- what it owns stays, or is nothing
  owned_by : (o : Option Object) → object_at m own ≡ o → HasStatusFrom o a.leaves.after → HasCertificate m own → length (seen_of (put_at m own new) own).requests ≤ length (seen_of m own).requests
  owned_by None at status (c, there) = absurd (let none : certificate_at m own ≡ None = ap (option_and_then certificate_in) at in cc (none, there))
  owned_by (Some (Cert c)) at status has = omega (arith, ap (λ (v : Views). length v.requests) (again_sees m own new c a.leaves.after a.kind at a.leaves.is (a.same c at)))
  owned_by (Some (Request r)) at status has = absurd status
  owned_by (Some (Secret k)) at status has = absurd status

  none_owned_by : (o : Option Object) → object_at m own ≡ o → HasStatusFrom o a.leaves.after → (HasCertificate m own → ⊥) → length (seen_of (put_at m own new) own).requests ≡ 0
  none_owned_by None at status none =
      ap (λ (v : Views). length v.requests) (seen_is (put_at m own new) own ∙ ap (parts_of (put_at m own new)) (left_at m own new a.leaves.after a.leaves.is))
      ∙ ap length (owns_no_request s ws (put_at m own new) a.leaves.after (a.fresh at) a.written)
  none_owned_by (Some (Cert c)) at status none = absurd (none (c, ap (option_and_then certificate_in) at))
  none_owned_by (Some (Request r)) at status none = absurd status
  none_owned_by (Some (Secret k)) at status none = absurd status

  has_own : (keys : List Key) → Each (HasCertificate m) keys → list_any (is_at (key_cmp own)) keys ≡ true → HasCertificate m own
  has_own [] each among = absurd (cc among)
  has_own (key ∷ keys) each among = by (is_at (key_cmp own) key) refl among (has_own keys each.1) where
    by : (b : Bool) → is_at (key_cmp own) key ≡ b → (b || list_any (is_at (key_cmp own)) keys) ≡ true → (list_any (is_at (key_cmp own)) keys ≡ true → HasCertificate m own) → HasCertificate m own
    by true is among rest = subst (HasCertificate m) (sym (one_key own key is)) each.0
    by false is among rest = rest among

  by_key : (b : Bool) (keys : List Key) → list_any (is_at (key_cmp own)) keys ≡ b → AreAllKeys m keys → total after (if b then keys else own ∷ keys) ≤ total before keys + 14
  by_key true keys is all = total_rises IsOfCertificate before after own 14 keys all.of_certificates all.distinct same_elsewhere (own_by (object_at m own) refl a.leaves.status (has_own keys all.each is))
  by_key false keys is all =
      let first = new_by (object_at m own) refl a.leaves.status (λ has. let on = all.all own has in cc (on, is)) in
      let rest = total_same IsOfCertificate before after own keys all.of_certificates is same_elsewhere in
      omega (arith, first, rest)

  owned_same : (key : Key) → IsOfCertificate key → is_at (key_cmp own) key ≡ false → length (seen_of (put_at m own new) key).requests ≡ length (seen_of m key).requests
  owned_same key kind off = ap (λ (v : Views). length v.requests) (a.others key kind off)

  owned_by_key : (b : Bool) (keys : List Key) → list_any (is_at (key_cmp own)) keys ≡ b → AreAllKeys m keys → owned_requests (if b then keys else own ∷ keys) (put_at m own new) ≤ owned_requests keys m
  owned_by_key true keys is all =
      let low = owned_by (object_at m own) refl a.leaves.status (has_own keys all.each is) in
      let rises = total_rises IsOfCertificate (λ key. length (seen_of m key).requests) (λ key. length (seen_of (put_at m own new) key).requests) own 0 keys all.of_certificates all.distinct owned_same (omega (arith, low)) in
      omega (arith, rises)
  owned_by_key false keys is all =
      let none = none_owned_by (object_at m own) refl a.leaves.status (λ has. let on = all.all own has in cc (on, is)) in
      let rest = total_same IsOfCertificate (λ key. length (seen_of m key).requests) (λ key. length (seen_of (put_at m own new) key).requests) own keys all.of_certificates is owned_same in
      omega (arith, none, rest)

  pub user_owns : (keys : List Key) → AreAllKeys m keys → owned_requests (keys_with own keys) (put_at m own new) ≤ owned_requests keys m
  user_owns keys all = owned_by_key (list_any (is_at (key_cmp own)) keys) keys refl all

  pub user_adds : (keys : List Key) → AreAllKeys m keys → total_measure desk 0 now (keys_with own keys) (put_at m own new) ≤ total_measure desk 0 now keys m + 14
  user_adds keys all = by_key (list_any (is_at (key_cmp own)) keys) keys refl all
