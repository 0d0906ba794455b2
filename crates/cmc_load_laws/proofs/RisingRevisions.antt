-- In a run of a load the revision of a Certificate never falls.
use Rattle.std.proofs.Common.{◌≡◌, ◌⊎◌, ◌≤◌, ℕ, List, ◌∷◌, Bool, true, false, Option, Some, refl, sym, ap, subst, ◌∙◌, inl, inr, arith}
use Rattle.std.specs.BTreeMap.{is_at}
use Rattle.std.specs.Prelude.{unwrap_or}
use Rattle.cmc_meta.specs.declared.key.Key.{Key}
use Rattle.cmc_meta.specs.Keys.{key_cmp}
use Rattle.cmc_objects.specs.declared.certificate.Certificate.{Certificate}
use Rattle.cmc_objects.specs.declared.object.Object.{Object}
use Rattle.cmc_objects.specs.declared.object.Object.TheVariants.{Cert}
use Rattle.cmc_objects.specs.declared.entry.Entry.{Entry}
use Rattle.cmc_model.specs.declared.write.Write.{Write}
use Rattle.cmc_model.specs.Objects.{Objects, object_at}
use Rattle.cmc_model.specs.Replies.{key_of_call, settled}
use Rattle.cmc_model.specs.Histories.{Setting, objects}
use Rattle.cmc_model.specs.Versions.{IsVersion}
use Rattle.cmc_model.specs.Writes.{contents, writes}
use Rattle.cmc_model.proofs.Writes.{writes_leave}
use Rattle.cmc_rules.specs.Revisions.{KeepsRevision, RaisesRevision, revision}
use Rattle.cmc_safety.proofs.Carried.{newest}
use Rattle.cmc_safety.proofs.Course.{AreSound}
use Rattle.cmc_safety.proofs.InProgress.{IsPlayed, played_below}
use Rattle.cmc_safety.proofs.Users.{users_keep}
use Rattle.cmc_load_laws.specs.Loads.{HasFreeCertificates}
use Rattle.cmc_load_laws.proofs.Belonging.{itself}
use Rattle.cmc_load_laws.proofs.PassRights.{accepted_by}
use Rattle.cmc_load_laws.proofs.PlayedWrites.{carried_on}
use Rattle.cmc_load_laws.proofs.StandingCertificates.{HaveStayed, have_stayed, put_is}
use Rattle.cmc_load_laws.proofs.Totals.{one_key}

-- what stands has at least the revision of each version of its key
abbrev pub HaveRisen : List Write → Type 0
HaveRisen ws = (key : Key) (d c : Certificate) → IsVersion key (Cert d) ws → object_at (contents ws) key ≡ Some (Cert c) → revision d ≤ revision c

abbrev Rises : Option Object → Option Object → Type 0
Rises old new = KeepsRevision old new ⊎ RaisesRevision old new

rises_to : (old new : Option Object) (a c : Certificate) → old ≡ Some (Cert a) → new ≡ Some (Cert c) → Rises old new → revision a ≤ revision c
rises_to old new a c was is rises = by (subst (λ (x : Option Object). Rises x (Some (Cert c))) was (subst (λ (x : Option Object). Rises old x) is rises)) where
  by : Rises (Some (Cert a)) (Some (Cert c)) → revision a ≤ revision c
  by (inl keeps) = omega (arith, ap (λ (o : Option ℕ). unwrap_or o 0) keeps)
  by (inr raises) = omega (arith, ap (λ (o : Option ℕ). unwrap_or o 0) raises)

one_certificate : (o : Option Object) (c d : Certificate) → o ≡ Some (Cert c) → o ≡ Some (Cert d) → revision c ≤ revision d
one_certificate o c d is there =
    let same : Some (Cert c) ≡ Some (Cert d) = sym is ∙ there in
    let one : c ≡ d = cc same in
    omega (arith, ap revision one)

-- the write is under this key
here : (w : Write) (ws : List Write) (key : Key) (d c : Certificate) → w.key ≡ key → Rises (object_at (contents ws) w.key) w.object → HaveStayed ws → HaveRisen ws → w.object ≡ Some (Cert c) → IsVersion key (Cert d) (w ∷ ws) → revision d ≤ revision c
here w ws key d c same rises stayed risen is (inl now) = one_certificate w.object d c now.1 is
here w ws key d c same rises stayed risen is (inr before) =
    let there = stayed key d before in
    let was : object_at (contents ws) w.key ≡ Some (Cert there.0) = ap (object_at (contents ws)) same ∙ there.1 in
    omega (arith, risen key d there.0 before there.1, rises_to (object_at (contents ws) w.key) w.object there.0 c was is rises)

-- and elsewhere
there : (w : Write) (ws : List Write) (key : Key) (d c : Certificate) → (w.key ≡ key → ⊥) → HaveRisen ws → object_at (contents ws) key ≡ Some (Cert c) → IsVersion key (Cert d) (w ∷ ws) → revision d ≤ revision c
there w ws key d c apart risen is (inl now) = absurd (apart now.0)
there w ws key d c apart risen is (inr before) = risen key d c before is

risen_by : (b : Bool) (w : Write) (ws : List Write) (key : Key) (d c : Certificate) → is_at (key_cmp key) w.key ≡ b → Rises (object_at (contents ws) w.key) w.object → HaveStayed ws → HaveRisen ws → object_at (contents (w ∷ ws)) key ≡ Some (Cert c)
    → IsVersion key (Cert d) (w ∷ ws) → revision d ≤ revision c
risen_by true w ws key d c on rises stayed risen is has = here w ws key d c (sym (one_key key w.key on)) rises stayed risen (sym (put_is w ws key true on) ∙ is) has
risen_by false w ws key d c off rises stayed risen is has = there w ws key d c (λ same. differs same) risen (sym (put_is w ws key false off) ∙ is) has where
  differs : w.key ≡ key → ⊥
  differs same = let on : is_at (key_cmp key) w.key ≡ true = subst (λ (k : Key). is_at (key_cmp key) k ≡ true) (sym same) (itself key) in cc (off, on)

more_risen : (w : Write) (ws : List Write) → Rises (object_at (contents ws) w.key) w.object → HaveStayed ws → HaveRisen ws → HaveRisen (w ∷ ws)
more_risen w ws rises stayed risen key d c has is = risen_by (is_at (key_cmp key) w.key) w ws key d c refl rises stayed risen is has

over_contents : (s : Setting) (h : List Entry) (key : Key) (new : Option Object) → Rises (object_at (objects s h) key) new → Rises (object_at (contents (writes s h)) key) new
over_contents s h key new rises = subst (λ (m : Objects). Rises (object_at m key) new) (sym (writes_leave s h)) rises

pub have_risen : AreSound → (s : Setting) (h : List Entry) → HasFreeCertificates s → IsPlayed s h → HaveRisen (writes s h)
have_risen sound s h load o =
    carried_on HaveRisen s
    (record {
      none = λ key d c has is. absurd has;
      user = λ h call reply o right owes ok risen.
          more_risen (newest s h call reply) (writes s h) (over_contents s h (key_of_call (settled call reply)) (newest s h call reply).object (inl (users_keep s h call reply o.legal owes right ok))) (have_stayed sound s h load o) risen;
      pass = λ h m call reply o ok risen.
          let below = played_below s _ h o in
          more_risen (newest s h call reply) (writes s h) (over_contents s h (key_of_call (settled call reply)) (newest s h call reply).object (accepted_by sound s h m call reply o ok).write.revision) (have_stayed sound s h load below) risen;
    })
    h o
