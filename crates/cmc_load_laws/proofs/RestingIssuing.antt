-- At rest a load has no issuance under way whose request is issued.
use Rattle.std.proofs.Common.{◌≡◌, ◌⊎◌, ◌+◌, ◌&&◌, ◌==◌, ℕ, ℤ, List, [], ◌∷◌, length, Bool, true, false, not, Option, Some, None, refl, sym, ap, subst, ◌∙◌, inl, inr, arith}
use Rattle.std.proofs.lemmas.Bool.{and_from, eqb-true}
use Rattle.std.specs.Prelude.{IfSome, codes, option_and_then, unwrap_or, if◌then◌else◌}
use Rattle.cmc_meta.specs.declared.conditions.ConditionKind.TheVariants.{Ready}
use Rattle.cmc_meta.specs.declared.key.Key.{Key}
use Rattle.cmc_meta.specs.ConditionLists.{condition_at}
use Rattle.cmc_meta.specs.PairLists.{text_by_key}
use Rattle.cmc_objects.specs.declared.certificate.Certificate.{Certificate}
use Rattle.cmc_objects.specs.declared.key_spec.Rotation.{Rotation}
use Rattle.cmc_objects.specs.declared.key_spec.Rotation.TheVariants.{Always}
use Rattle.cmc_objects.specs.declared.request.CertificateRequest.{CertificateRequest}
use Rattle.cmc_objects.specs.declared.secret.Secret.{Secret as SecretObject}
use Rattle.cmc_objects.specs.declared.object.Object.{Object}
use Rattle.cmc_objects.specs.declared.object.Object.TheVariants.{Cert, Request, Secret}
use Rattle.cmc_objects.specs.declared.entry.Entry.{Entry}
use Rattle.cmc_objects.specs.declared.role.Role.TheVariants.{Issuing, KeyManager, RequestManager}
use Rattle.cmc_objects.specs.Defaults.{key_rotation}
use Rattle.cmc_objects.specs.Requests.{is_approved, is_denied}
use Rattle.cmc_match.specs.Marks.{is_next_key, is_text}
use Rattle.cmc_pass.specs.declared.pass.Act.{Act}
use Rattle.cmc_pass.specs.declared.pass.Act.TheVariants.{Nothing, Issue}
use Rattle.cmc_pass.specs.declared.pass.IssuePlan.{IssuePlan}
use Rattle.cmc_pass.specs.declared.pass.Desk.{Desk}
use Rattle.cmc_model.specs.Objects.{Objects, object_at}
use Rattle.cmc_model.specs.Histories.{Setting, moment, objects}
use Rattle.cmc_model.specs.Writes.{writes}
use Rattle.cmc_rules.specs.Desks.{desk}
use Rattle.cmc_rules.specs.Issuance.{fails_now, failure, is_certified, is_granted, is_kept_for_keys, issue_plan, refusal, says_issued, while_waiting, with_wanted}
use Rattle.cmc_rules.specs.KeyManager.{ask_key, rotated, target_key, while_idle, while_issuing}
use Rattle.cmc_rules.specs.Legality.{IsLegal}
use Rattle.cmc_rules.specs.NextKeys.{named_key}
use Rattle.cmc_rules.specs.NextRequests.{is_refused}
use Rattle.cmc_rules.specs.RequestManager as managing
use Rattle.cmc_rules.specs.Trigger.{is_issuing}
use Rattle.cmc_rules.specs.Views.{certificate_at, certificate_in, is_owned, is_text_true, next_of, present_views, requests_of, secret_in, target_at}
use Rattle.cmc_safety.proofs.Carried.{EachVersion, standing_has}
use Rattle.cmc_waits.proofs.EachWait.{IsStill, issuing_rests, keys_rest, requests_rest, where_wanted}
use Rattle.cmc_waits.proofs.NextApart.{next_apart}
use Rattle.cmc_waits.proofs.Stuck.{HasNextKey, HasNextRequest, has_key, has_request}
use Rattle.cmc_load_laws.specs.Belonging.{IsParted}
use Rattle.cmc_load_laws.specs.Frame.{key_of_target}
use Rattle.cmc_load_laws.specs.Loads.{IsUsual}
use Rattle.cmc_load_laws.proofs.AnsweredRequests.{IsAnswered, IsAnsweredObject, issued_if, not_refused}
use Rattle.cmc_load_laws.proofs.BelongingVersions.{EachIsOf, OfSecret}
use Rattle.cmc_load_laws.proofs.FreshRequests.{IsReadyFor}
use Rattle.cmc_load_laws.proofs.GoodRequests.{IsGoodObject, IsGoodRequest}
use Rattle.cmc_load_laws.proofs.LoadStores.{at_key}
use Rattle.cmc_load_laws.proofs.OwnedAmong.{only_is, owned_among}

-- what is granted is written, unless the Secret of that name holds a next key
granted_kept : (refused granted certified kept : Bool) (moment : ℤ) (reason : List ℕ) (c : Certificate) (plan : IssuePlan) (x y : Act) → refused ≡ false → granted ≡ true
    → (if refused then x else (if granted then (if certified then (if kept then Nothing else Issue plan) else failure moment reason c) else y)) ≡ Nothing → kept ≡ true
unfolding failure
granted_kept true granted certified kept moment reason c plan x y one two is = absurd (cc one)
granted_kept false false certified kept moment reason c plan x y one two is = absurd (cc two)
granted_kept false true true true moment reason c plan x y one two is = refl
granted_kept false true true false moment reason c plan x y one two is = absurd (cc is)
granted_kept false true false kept moment reason c plan x y one two is = absurd (cc is)

-- ---- there is a next key

asks_key : (c : Certificate) (d : Desk) (file : Option (List ℕ)) → key_rotation c.spec.key ≡ Always → rotated c d file (key_rotation c.spec.key) ≡ Nothing → ⊥
unfolding ask_key
asks_key c d file rotates idle = absurd (let e : rotated c d file Always ≡ Nothing = subst (λ (r : Rotation). rotated c d file r ≡ Nothing) rotates idle in cc e)

some_key : (c : Certificate) (d : Desk) (target : Option SecretObject) (next : List SecretObject) → key_rotation c.spec.key ≡ Always → ((k j : SecretObject) (ks : List SecretObject) → next ≡ k ∷ j ∷ ks → k.meta.name ≡ j.meta.name → ⊥)
    → while_issuing c d target next ≡ Nothing → HasNextKey c next
some_key c d target [] rotates apart idle = absurd (asks_key c d (target_key target) rotates idle)
some_key c d target (k ∷ ks) rotates apart idle = by (has_key c d target (k ∷ ks) apart idle) where
  by : ((length (k ∷ ks) == 0) ≡ true) ⊎ HasNextKey c (k ∷ ks) → HasNextKey c (k ∷ ks)
  by (inl empty) = absurd (omega (arith, eqb-true (length (k ∷ ks)) 0 empty))
  by (inr has) = has

-- ---- the target is no next key

label_is : (o : Option (List ℕ)) → is_text o (codes "true") ≡ is_text_true o
label_is None = refl
label_is (Some text) = refl

kept_object : (o : Option Object) → is_kept_for_keys (option_and_then secret_in o) ≡ true → (k : SecretObject) × (o ≡ Some (Secret k)) × (is_next_key k ≡ true)
kept_object None is = absurd (cc is)
kept_object (Some (Cert c)) is = absurd (cc is)
kept_object (Some (Request r)) is = absurd (cc is)
kept_object (Some (Secret k)) is = (k, refl, is)

module _ (s : Setting) (h : List Entry) (legal : IsLegal s h) (still : IsStill s h) (usual : (key : Key) (c : Certificate) → object_at (objects s h) key ≡ Some (Cert c) → IsUsual c) (good : EachVersion IsGoodObject (writes s h))
    (answered : EachVersion IsAnsweredObject (writes s h)) (parted : IsParted (objects s h)) (each : EachIsOf s (writes s h)) where
  abbrev pub m : Objects
  m = objects s h

  has_next_key : (key : Key) (c : Certificate) → object_at m key ≡ Some (Cert c) → is_issuing c ≡ true → HasNextKey c (next_of m c)
  has_next_key key c at on =
      let seen : certificate_at m key ≡ Some c = ap (option_and_then certificate_in) at in
      let d : Desk = desk s h KeyManager (present_views s h KeyManager key) in
      let idle : while_issuing c d (target_at m c) (next_of m c) ≡ Nothing =
      subst (λ (b : Bool). (if b then while_issuing c d (target_at m c) (next_of m c) else while_idle c (next_of m c)) ≡ Nothing) on (keys_rest s h key c seen (still KeyManager key (Cert c) at)) in
      some_key c d (target_at m c) (next_of m c) (usual key c at).rotates (λ k j ks. next_apart s h c k j ks legal) idle

  has_next_request : (key : Key) (c : Certificate) → object_at m key ≡ Some (Cert c) → is_issuing c ≡ true → (k : HasNextKey c (next_of m c)) → HasNextRequest c k.file (requests_of m c)
  has_next_request key c at on k =
      let seen : certificate_at m key ≡ Some c = ap (option_and_then certificate_in) at in
      let asks : managing.with_key c (requests_of m c) (named_key c.status.next_key (next_of m c)) ≡ Nothing =
      subst (λ (b : Bool). (if b then managing.with_key c (requests_of m c) (named_key c.status.next_key (next_of m c)) else Nothing) ≡ Nothing) on (requests_rest s h key c seen (still RequestManager key (Cert c) at)) in
      has_request c (next_of m c) (requests_of m c) k asks

  no_label : (k : SecretObject) → k.meta.owners ≡ [] → is_next_key k ≡ true → OfSecret (writes s h) k.meta → ⊥
  no_label k none is (inl made) = absurd (omega (arith, ap length (sym none ∙ made.1.owners)))
  no_label k none is (inr target) =
      let e : true ≡ false = sym is ∙ label_is (text_by_key k.meta.labels (codes "cert-manager.io/next-private-key")) ∙ target.0 in
      cc e

  not_kept : (key : Key) (c : Certificate) → object_at m key ≡ Some (Cert c) → is_kept_for_keys (target_at m c) ≡ true → ⊥
  not_kept key c at is =
      let k = kept_object (object_at m (key_of_target c)) is in
      no_label k.0 (parted.targets key c (Secret k.0) at k.1) k.2 (at_key s h (key_of_target c) (Secret k.0) each k.1)

  kept_by : (c : Certificate) (file : List ℕ) (r : CertificateRequest) → IsGoodRequest r → IsAnswered r → says_issued (condition_at r.status.conditions Ready) ≡ true → with_wanted (moment s h) c file (target_at m c) r ≡ Nothing
      → is_kept_for_keys (target_at m c) ≡ true
  kept_by c file r is_good is_answered says idle =
      let i = issued_if r is_answered says in
      let granted : is_granted r ≡ true =
      and_from (says_issued (condition_at r.status.conditions Ready)) (is_approved r && not (is_denied r)) says (and_from (is_approved r) (not (is_denied r)) i.approved (ap not is_good.undenied)) in
      granted_kept (is_refused r) (is_granted r) (is_certified file r.status.certificate) (is_kept_for_keys (target_at m c)) (moment s h) (codes "InvalidCertificate") c (issue_plan (moment s h) c file r (target_at m c))
      (if fails_now c r r.status.failure then failure (moment s h) (refusal r) c else Nothing) (while_waiting (moment s h) c file (target_at m c) r) (not_refused r is_answered) granted idle

  pub none_issued : (kc kq : Key) (c : Certificate) (r : CertificateRequest) → object_at m kc ≡ Some (Cert c) → object_at m kq ≡ Some (Request r) → is_owned c r.meta ≡ true → IsReadyFor c r → ⊥
  none_issued kc kq c r at there owned ready =
      let seen : certificate_at m kc ≡ Some c = ap (option_and_then certificate_in) at in
      let k = has_next_key kc c at ready.issuing in
      let q = has_next_request kc c at ready.issuing k in
      let same : r ≡ q.request = only_is (unwrap_or c.status.revision 0 + 1) (requests_of m c) q.request r q.next (owned_among m c kq r there owned) ready.next in
      let idle : with_wanted (moment s h) c k.file (target_at m c) q.request ≡ Nothing =
      where_wanted (moment s h) c (next_of m c) (target_at m c) (requests_of m c) ready.issuing k q (issuing_rests s h kc c seen (still Issuing kc (Cert c) at)) in
      not_kept kc c at
      (kept_by c k.file r (subst (λ (x : Option Object). IfSome x IsGoodObject) there (standing_has IsGoodObject s h kq good)) (subst (λ (x : Option Object). IfSome x IsAnsweredObject) there (standing_has IsAnsweredObject s h kq answered)) ready.says
      (subst (λ (x : CertificateRequest). with_wanted (moment s h) c k.file (target_at m c) x ≡ Nothing) (sym same) idle))
