-- In a store of a load each object is of one Certificate, and so a write for one changes nothing in what is seen of another.
use Rattle.std.proofs.Common.{◌≡◌, ◌≤◌, ◌==◌, ◌⊎◌, inl, inr, ℕ, Bool, true, false, cond, List, [], ◌∷◌, length, Option, Some, None, refl, sym, ap, subst, ◌∙◌, arith}
use Rattle.std.proofs.lemmas.Bool.{eq-eqb, eqb-true, or_cases}
use Rattle.std.specs.BTreeMap.{is_at}
use Rattle.std.specs.Cmp.{tied_itself}
use Rattle.std.specs.Ordering.{is_eq}
use Rattle.std.specs.Prelude.{◌||◌, option_and_then}
use Rattle.cmc_meta.specs.declared.key.Key.{Key}
use Rattle.cmc_meta.specs.declared.key.Kind.{Kind}
use Rattle.cmc_meta.specs.declared.key.Kind.TheVariants as kinds
use Rattle.cmc_meta.specs.declared.owners.OwnerRef.{OwnerRef}
use Rattle.cmc_meta.specs.Keys.{key_cmp}
use Rattle.cmc_meta.proofs.KeyOrder.{key_cmp-total}
use Rattle.cmc_objects.specs.declared.certificate.Certificate.{Certificate}
use Rattle.cmc_objects.specs.declared.object.Object.{Object}
use Rattle.cmc_objects.specs.declared.object.Object.TheVariants.{Cert, Request, Secret}
use Rattle.cmc_objects.specs.Objects.{meta_of}
use Rattle.cmc_model.specs.Objects.{Objects, object_at}
use Rattle.cmc_model.specs.Replies.{put_at}
use Rattle.cmc_model.proofs.Versions.{object_at-put}
use Rattle.cmc_informer.specs.Caches.{has_uid, is_owned_by, names}
use Rattle.cmc_rules.specs.Views.{certificate_at, certificate_in}
use Rattle.cmc_load_laws.specs.Frame.{is_of, key_of_target, IsElsewhere}
use Rattle.cmc_load_laws.specs.Belonging.{HasFewOwners, IsOfOrNone, IsParted, IsWriteFor}
use Rattle.cmc_load_laws.proofs.Elsewhere.{elsewhere_at}
use Rattle.cmc_load_laws.proofs.Totals.{one_key}

-- ---- keys

pub itself : (k : Key) → is_at (key_cmp k) k ≡ true
itself k = ap is_eq (tied_itself key_cmp-total k)

pub certificate_of : (o : Option Object) (c : Certificate) → option_and_then certificate_in o ≡ Some c → o ≡ Some (Cert c)
certificate_of None c is = absurd (cc is)
certificate_of (Some (Cert x)) c is = ap (λ (y : Certificate). Some (Cert y)) (let same : x ≡ c = cc is in same)
certificate_of (Some (Request r)) c is = absurd (cc is)
certificate_of (Some (Secret s)) c is = absurd (cc is)

-- a key of a Certificate is none of a Secret
no_secret : (k : Kind) → kinds.Certificate ≡ k → kinds.Secret ≡ k → ⊥
no_secret kinds.Certificate one other = cc other
no_secret kinds.CertificateRequest one other = cc one
no_secret kinds.Secret one other = cc one

-- ---- owners

both_name : (a b : ℕ) (owners : List OwnerRef) → length owners ≤ 1 → names a owners ≡ true → names b owners ≡ true → a ≡ b
both_name a b [] few one other = absurd (cc one)
both_name a b (o ∷ []) few one other = sym (eqb-true o.uid a (first (o.uid == a) one)) ∙ eqb-true o.uid b (first (o.uid == b) other) where
  first : (x : Bool) → (x || false) ≡ true → x ≡ true
  first true is = refl
  first false is = absurd (cc is)
both_name a b (o ∷ p ∷ os) few one other = absurd (omega (arith, few))

pub none_named : (uid : ℕ) (owners : List OwnerRef) → owners ≡ [] → names uid owners ≡ true → ⊥
none_named uid owners none is = let off : names uid owners ≡ false = ap (names uid) none in cc (off, is)

few : (o : Object) → HasFewOwners o → length (meta_of o).owners ≤ 1
few (Cert c) is = omega (arith, ap length is)
few (Request r) is = is
few (Secret s) is = is

its_uid : (m : Objects) (k : Key) (c : Certificate) → object_at m k ≡ Some (Cert c) → has_uid c.meta.uid (object_at m k) ≡ true
its_uid m k c is = ap (has_uid c.meta.uid) is ∙ eq-eqb c.meta.uid c.meta.uid refl

-- ---- each object is of one Certificate

module _ (m : Objects) (parted : IsParted m) where
  own_and_target : (j key k : Key) (c d : Certificate) → object_at m j ≡ Some (Cert c) → j ≡ key → key_of_target d ≡ key → ⊥
  own_and_target j key k c d at same target = no_secret key.kind (ap (λ (q : Key). q.kind) (parted.keyed j (Cert c) at ∙ same)) (ap (λ (q : Key). q.kind) target)

  own_and_owned : (j key : Key) (c d : Certificate) → object_at m j ≡ Some (Cert c) → j ≡ key → is_owned_by d.meta.uid (object_at m key) ≡ true → ⊥
  own_and_owned j key c d at same owned =
      none_named d.meta.uid c.meta.owners (parted.owners j (Cert c) at) (sym (ap (is_owned_by d.meta.uid) (ap (object_at m) (sym same) ∙ at)) ∙ owned)

  target_and_owned : (j key : Key) (c d : Certificate) (o : Option Object) → object_at m j ≡ Some (Cert c) → key_of_target c ≡ key → object_at m key ≡ o → is_owned_by d.meta.uid o ≡ true → ⊥
  target_and_owned j key c d None at target is owned = cc owned
  target_and_owned j key c d (Some o) at target is owned = none_named d.meta.uid (meta_of o).owners (parted.targets j c o at (ap (object_at m) target ∙ is)) owned

  both_own : (j k key : Key) (c d : Certificate) (o : Option Object) → object_at m j ≡ Some (Cert c) → object_at m k ≡ Some (Cert d) → object_at m key ≡ o
      → is_owned_by c.meta.uid o ≡ true → is_owned_by d.meta.uid o ≡ true → j ≡ k
  both_own j k key c d None at_j at_k is one other = absurd (cc one)
  both_own j k key c d (Some o) at_j at_k is one other =
      let same : c.meta.uid ≡ d.meta.uid = both_name c.meta.uid d.meta.uid (meta_of o).owners (few o (parted.owners key o is)) one other in
      parted.uids d.meta.uid j k (subst (λ (u : ℕ). has_uid u (object_at m j) ≡ true) same (its_uid m j c at_j)) (its_uid m k d at_k)

  both_target : (j k key : Key) (c d : Certificate) → object_at m j ≡ Some (Cert c) → object_at m k ≡ Some (Cert d) → key_of_target c ≡ key → key_of_target d ≡ key → j ≡ k
  both_target j k key c d at_j at_k one other =
      let same : key_of_target c ≡ key_of_target d = one ∙ sym other in
      parted.secrets j k c d at_j at_k (ap (λ (q : Key). q.namespace) same) (ap (λ (q : Key). q.name) same)

  one_by : (j k key : Key) (c d : Certificate) → object_at m j ≡ Some (Cert c) → object_at m k ≡ Some (Cert d)
      → (j ≡ key) ⊎ ((key_of_target c ≡ key) ⊎ (is_owned_by c.meta.uid (object_at m key) ≡ true)) → (k ≡ key) ⊎ ((key_of_target d ≡ key) ⊎ (is_owned_by d.meta.uid (object_at m key) ≡ true)) → j ≡ k
  one_by j k key c d at_j at_k (inl own) (inl other) = own ∙ sym other
  one_by j k key c d at_j at_k (inl own) (inr (inl target)) = absurd (own_and_target j key k c d at_j own target)
  one_by j k key c d at_j at_k (inl own) (inr (inr owned)) = absurd (own_and_owned j key c d at_j own owned)
  one_by j k key c d at_j at_k (inr (inl target)) (inl other) = absurd (own_and_target k key j d c at_k other target)
  one_by j k key c d at_j at_k (inr (inl target)) (inr (inl other)) = both_target j k key c d at_j at_k target other
  one_by j k key c d at_j at_k (inr (inl target)) (inr (inr owned)) = absurd (target_and_owned j key c d (object_at m key) at_j target refl owned)
  one_by j k key c d at_j at_k (inr (inr owned)) (inl other) = absurd (own_and_owned k key d c at_k other owned)
  one_by j k key c d at_j at_k (inr (inr owned)) (inr (inl target)) = absurd (target_and_owned k key d c (object_at m key) at_k target refl owned)
  one_by j k key c d at_j at_k (inr (inr one)) (inr (inr other)) = both_own j k key c d (object_at m key) at_j at_k refl one other

pub ways : (own : Key) (c : Certificate) (key : Key) (o : Option Object) → is_of own c key o ≡ true → (own ≡ key) ⊎ ((key_of_target c ≡ key) ⊎ (is_owned_by c.meta.uid o ≡ true))
ways own c key o is = elim (or_cases (is_at (key_cmp own) key) (is_at (key_cmp (key_of_target c)) key || is_owned_by c.meta.uid o) is) [
  | inl here ↦ inl (one_key own key here)
  | inr more ↦ inr (elim (or_cases (is_at (key_cmp (key_of_target c)) key) (is_owned_by c.meta.uid o) more) [ inl target ↦ inl (one_key (key_of_target c) key target) | inr owned ↦ inr owned ])
]

pub one_certificate : (m : Objects) → IsParted m → (j k key : Key) (c d : Certificate) → certificate_at m j ≡ Some c → certificate_at m k ≡ Some d
    → is_of j c key (object_at m key) ≡ true → is_of k d key (object_at m key) ≡ true → j ≡ k
one_certificate m parted j k key c d at_j at_k one other =
    one_by m parted j k key c d (certificate_of (object_at m j) c at_j) (certificate_of (object_at m k) d at_k) (ways j c key (object_at m key) one) (ways k d key (object_at m key) other)

-- ---- a write for one

pub not_true : (b : Bool) → (b ≡ true → ⊥) → b ≡ false
not_true true off = absurd (off refl)
not_true false off = refl

-- what is of the Certificate by its key is so whatever is there
by_key : (own : Key) (c : Certificate) (key : Key) (o : Option Object) → is_of own c key None ≡ true → is_of own c key o ≡ true
by_key own c key o is = by (is_at (key_cmp own) key) (is_at (key_cmp (key_of_target c)) key) (is_owned_by c.meta.uid o) is where
  by : (a b x : Bool) → (a || (b || false)) ≡ true → (a || (b || x)) ≡ true
  by true b x is = refl
  by false true x is = refl
  by false false x is = absurd (cc is)

pub of_own : (own : Key) (c : Certificate) (o : Option Object) → is_of own c own o ≡ true
of_own own c o = ap (λ (b : Bool). b || (is_at (key_cmp (key_of_target c)) own || is_owned_by c.meta.uid o)) (itself own)

module _ (own key other : Key) (m : Objects) (new : Option Object) (parted : IsParted m) (later : IsParted (put_at m key new)) (write : IsWriteFor own key m new (put_at m key new))
    (d : Certificate) (at : certificate_at m other ≡ Some d) (off : is_at (key_cmp other) own ≡ false) where
  two : own ≡ other → ⊥
  two same = let on : is_at (key_cmp other) own ≡ true = subst (λ (k : Key). is_at (key_cmp other) k ≡ true) (sym same) (itself other) in cc (on, off)

  -- what was there was not of the other
  before_by : (o : Option Object) → object_at m key ≡ o → IsOfOrNone own write.before key o → is_of other d key o ≡ true → o ≡ None
  before_by o is (inl none) on = none
  before_by o is (inr own_one) on =
      absurd (two (one_certificate m parted own other key write.before d write.was at (subst (λ (x : Option Object). is_of own write.before key x ≡ true) (sym is) own_one) (subst (λ (x : Option Object). is_of other d key x ≡ true) (sym is) on)))

  nothing_at_other : (o : Option Object) → object_at m key ≡ o → o ≡ None → other ≡ key → ⊥
  nothing_at_other o is none same =
      let empty : certificate_at m other ≡ None = ap (λ (k : Key). option_and_then certificate_in (object_at m k)) same ∙ ap (option_and_then certificate_in) (is ∙ none) in cc (empty, at)

  apart : is_at (key_cmp other) key ≡ false
  apart = not_true (is_at (key_cmp other) key) (λ on.
      let same : other ≡ key = one_key other key on in
      nothing_at_other (object_at m key) refl (before_by (object_at m key) refl write.finds (subst (λ (k : Key). is_of other d k (object_at m key) ≡ true) same (of_own other d (object_at m key)))) same)

  stays : certificate_at (put_at m key new) other ≡ Some d
  stays = ap (option_and_then certificate_in) (elsewhere_at m key new other apart) ∙ at

  here : object_at (put_at m key new) key ≡ new
  here = object_at-put m key new key ∙ ap (λ (b : Bool). cond b new (object_at m key)) (itself key)

  -- what is left is not of the other either
  left_by : IsOfOrNone own write.after key new → is_of other d key new ≡ true → new ≡ None
  left_by (inl none) on = none
  left_by (inr own_one) on =
      absurd (two (one_certificate (put_at m key new) later own other key write.after d write.is stays (subst (λ (x : Option Object). is_of own write.after key x ≡ true) (sym here) own_one) (subst (λ (x : Option Object). is_of other d key x ≡ true) (sym here) on)))

  unfound : is_of other d key (object_at m key) ≡ false
  unfound = not_true (is_of other d key (object_at m key)) (λ on.
      let none = before_by (object_at m key) refl write.finds on in
      let by_its_key : is_of other d key None ≡ true = subst (λ (x : Option Object). is_of other d key x ≡ true) none on in
      write.writes none (left_by write.leaves (by_key other d key new by_its_key)))

  unleft : is_of other d key new ≡ false
  unleft = not_true (is_of other d key new) (λ on.
      let none = left_by write.leaves on in
      let by_its_key : is_of other d key None ≡ true = subst (λ (x : Option Object). is_of other d key x ≡ true) none on in
      let found : is_of other d key (object_at m key) ≡ true = by_key other d key (object_at m key) by_its_key in cc (found, unfound))

-- in stores of a load a write for one Certificate is of no other
pub is_elsewhere : (own key other : Key) (m : Objects) (new : Option Object) → IsParted m → IsParted (put_at m key new) → IsWriteFor own key m new (put_at m key new) → (d : Certificate) → certificate_at m other ≡ Some d
    → is_at (key_cmp other) own ≡ false → IsElsewhere m key new other
is_elsewhere own key other m new parted later write d at off = record {
  apart = apart own key other m new parted later write d at off;
  before = λ c is. unfound own key other m new parted later write c is off;
  after = λ c is. unleft own key other m new parted later write c is off;
}
