-- Where the measure of the Certificate that a write is for falls, the write lowers that of all.
use Rattle.std.proofs.Common.{◌≡◌, ◌≢◌, ◌+◌, ◌<◌, ℕ, ℤ, List, true, Option, Some, None, refl, sym, ap, subst, ◌∙◌, inl, inr}
use Rattle.std.specs.BTreeMap.{is_at}
use Rattle.std.specs.List.{list_any}
use Rattle.std.specs.Prelude.{option_and_then}
use Rattle.cmc_meta.specs.declared.key.Key.{Key}
use Rattle.cmc_meta.specs.Keys.{key_cmp}
use Rattle.cmc_objects.specs.declared.certificate.Certificate.{Certificate}
use Rattle.cmc_objects.specs.declared.certificate.CertStatus.{CertStatus}
use Rattle.cmc_objects.specs.declared.object.Object.{Object}
use Rattle.cmc_objects.specs.declared.object.Object.TheVariants.{Cert}
use Rattle.cmc_objects.specs.declared.call.Call.{Call}
use Rattle.cmc_objects.specs.declared.call.Reply.{Reply}
use Rattle.cmc_objects.specs.declared.entry.Entry.{Entry}
use Rattle.cmc_objects.specs.declared.entry.Entry.TheVariants.{Call as Called}
use Rattle.cmc_objects.specs.declared.entry.Who.TheVariants.{Pass}
use Rattle.cmc_objects.specs.declared.role.Role.TheVariants.{Issuing}
use Rattle.cmc_objects.specs.Objects.{key_of}
use Rattle.cmc_pass.specs.declared.pass.Desk.{Desk}
use Rattle.cmc_pass.specs.declared.pass.Views.{Views}
use Rattle.cmc_model.specs.Objects.{Objects, object_at}
use Rattle.cmc_model.specs.Replies.{is_accepted, key_of_call, put_at, settled, stored}
use Rattle.cmc_model.specs.Histories.{Setting, moment, objects, accepted}
use Rattle.cmc_rules.specs.Views.{certificate_in}
use Rattle.cmc_run_laws.specs.Issuances.{certificate_restated, with_certificate}
use Rattle.cmc_run_laws.specs.Lengths.{Each}
use Rattle.cmc_load_laws.specs.Belonging.{IsOfOrNone}
use Rattle.cmc_load_laws.specs.Frame.{seen_of}
use Rattle.cmc_load_laws.specs.LoadRuns.{LowersMeasure}
use Rattle.cmc_load_laws.specs.Measure.{measure}
use Rattle.cmc_load_laws.specs.Totals.{HasCertificate, total_measure}
use Rattle.cmc_load_laws.proofs.Belonging.{of_own, one_certificate}
use Rattle.cmc_load_laws.proofs.CertificateWrites.{IsRestated, seen_after, seen_with}
use Rattle.cmc_load_laws.proofs.LoadHistories.{IsForOneIn, after_accepted, falls_by, others_by}

-- ---- one write

-- what a write makes of the measures, in the words of the stores before and after it
pub record LowersOver (s : Setting) (now : ℤ) (m n : Objects) : Type 0 where
  pub own : Key
  pub exists : HasCertificate m own
  pub lowers : (desk : Desk) (due : ℕ) → desk.rules ≡ s.rules → measure desk due now (seen_of n own) < measure desk due now (seen_of m own)
  pub leaves : (desk : Desk) (due : ℕ) (other : Key) → HasCertificate m other → other ≢ own → measure desk due now (seen_of n other) ≡ measure desk due now (seen_of m other)
  pub all : (desk : Desk) (due : ℕ) (keys : List Key) → desk.rules ≡ s.rules → Each (HasCertificate m) keys → list_any (is_at (key_cmp own)) keys ≡ true → total_measure desk due now keys n < total_measure desk due now keys m

pub lowers_over : (s : Setting) (now : ℤ) (m : Objects) (key : Key) (new : Option Object) (one : IsForOneIn m key new) (own : Key) → HasCertificate m own → one.own ≡ own
    → ((desk : Desk) (due : ℕ) → desk.rules ≡ s.rules → measure desk due now (seen_of (put_at m key new) own) < measure desk due now (seen_of m own)) → LowersOver s now m (put_at m key new)
lowers_over s now m key new one own exists same falls = record {
  own = own;
  exists = exists;
  lowers = falls;
  leaves = λ desk due other has off. ap (measure desk due now) (others_by m key new one Issuing other has (λ is. off (is ∙ same)));
  all = λ desk due keys rules are among.
      falls_by m key new one desk due now keys are (subst (λ (k : Key). list_any (is_at (key_cmp k)) keys ≡ true) (sym same) among)
      (subst (λ (k : Key). measure desk due now (seen_of (put_at m key new) k) < measure desk due now (seen_of m k)) (sym same) (falls desk due rules));
}

pub lowers_measure : (s : Setting) (h : List Entry) (n : ℕ) (call : Call) (reply : Reply) → is_accepted reply ≡ true
    → LowersOver s (moment s h) (objects s h) (put_at (objects s h) (key_of_call (settled call reply)) (stored (accepted s h + 1) (moment s h) (objects s h) (settled call reply)))
    → LowersMeasure s h (Called (Pass n) call reply)
lowers_measure s h n call reply ok over =
    let is = subst (LowersOver s (moment s h) (objects s h)) (sym (after_accepted s h (Pass n) call reply ok)) over in
    record { own = is.own; exists = is.exists; lowers = is.lowers; leaves = is.leaves; all = is.all }

-- ---- the write of a Certificate's status

-- what is written under a Certificate's own key is for it
own_is : (m : Objects) (key : Key) (new : Option Object) (one : IsForOneIn m key new) (c : Certificate) → object_at m key ≡ Some (Cert c) → one.own ≡ key
own_is m key new one c was = by one.write.finds where
  by : IsOfOrNone one.own one.write.before key (object_at m key) → one.own ≡ key
  by (inl none) = absurd (let e : None ≡ Some (Cert c) = sym none ∙ was in cc e)
  by (inr on) = one_certificate m one.parted one.own key key one.write.before c one.write.was (ap (option_and_then certificate_in) was) on (of_own key c (object_at m key))

status_falls : (s : Setting) (now : ℤ) (m : Objects) (c d : Certificate) → object_at m (key_of (Cert c)) ≡ Some (Cert c) → seen_of (put_at m (key_of (Cert c)) (Some (Cert d))) (key_of (Cert c)) ≡ with_certificate d (seen_of m (key_of (Cert c)))
    → IsForOneIn m (key_of (Cert c)) (Some (Cert d))
    → ((desk : Desk) (due : ℕ) → desk.rules ≡ s.rules → measure desk due now (with_certificate d (seen_of m (key_of (Cert c)))) < measure desk due now (with_certificate c (seen_of m (key_of (Cert c)))))
    → LowersOver s now m (put_at m (key_of (Cert c)) (Some (Cert d)))
status_falls s now m c d was after one falls =
    let own : Key = key_of (Cert c) in
    lowers_over s now m own (Some (Cert d)) one own (c, ap (option_and_then certificate_in) was) (own_is m own (Some (Cert d)) one c was)
    (λ desk due rules.
    subst (λ (v : Views). measure desk due now v < measure desk due now (seen_of m own)) (sym after)
    (subst (λ (v : Views). measure desk due now (with_certificate d (seen_of m own)) < measure desk due now v) (sym (seen_with m c was)) (falls desk due rules)))

pub status_lowers : (s : Setting) (h : List Entry) (n : ℕ) (call : Call) (reply : Reply) (c : Certificate) (status : CertStatus) → is_accepted reply ≡ true → IsRestated s h call reply c status
    → IsForOneIn (objects s h) (key_of_call (settled call reply)) (stored (accepted s h + 1) (moment s h) (objects s h) (settled call reply))
    → ((desk : Desk) (due : ℕ) → desk.rules ≡ s.rules
    → measure desk due (moment s h) (with_certificate (certificate_restated (accepted s h + 1) status c) (seen_of (objects s h) (key_of (Cert c))))
    < measure desk due (moment s h) (with_certificate c (seen_of (objects s h) (key_of (Cert c)))))
    → LowersMeasure s h (Called (Pass n) call reply)
status_lowers s h n call reply c status ok r one falls =
    let m : Objects = objects s h in
    let d : Certificate = certificate_restated (accepted s h + 1) status c in
    let new : Option Object = stored (accepted s h + 1) (moment s h) m (settled call reply) in
    let here = subst (λ (x : Option Object). IsForOneIn m (key_of (Cert c)) x) r.is (subst (λ (k : Key). IsForOneIn m k new) r.key one) in
    let over = status_falls s (moment s h) m c d r.was (seen_after m c d r.was (record { namespace = refl; uid = refl; secret_name = refl })) here falls in
    lowers_measure s h n call reply ok
    (subst (λ (k : Key). LowersOver s (moment s h) m (put_at m k new)) (sym r.key) (subst (λ (x : Option Object). LowersOver s (moment s h) m (put_at m (key_of (Cert c)) x)) (sym r.is) over))
