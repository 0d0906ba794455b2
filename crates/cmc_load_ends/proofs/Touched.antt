-- On which keys a write of a load may give a role something new to see.
use Rattle.std.proofs.Common.{◌≡◌, ◌≢◌, ◌⊎◌, ℕ, List, [], ◌∷◌, Bool, true, false, Option, Some, None, refl, sym, ap, subst, ◌∙◌, inl, inr}
use Rattle.std.proofs.lemmas.Bool.{or_right}
use Rattle.std.specs.BTreeMap.{is_at}
use Rattle.std.specs.List.{list_any}
use Rattle.std.specs.Prelude.{◌&&◌, ◌||◌, option_and_then, if◌then◌else◌}
use Rattle.cmc_meta.specs.declared.key.Key.{Key}
use Rattle.cmc_meta.specs.declared.key.Kind.TheVariants as kinds
use Rattle.cmc_meta.specs.Keys.{key_cmp, key_eq}
use Rattle.cmc_objects.specs.declared.certificate.Certificate.{Certificate}
use Rattle.cmc_objects.specs.declared.object.Object.{Object}
use Rattle.cmc_objects.specs.declared.object.Object.TheVariants.{Cert, Request, Secret}
use Rattle.cmc_objects.specs.declared.role.Role.{Role}
use Rattle.cmc_objects.specs.declared.role.Role.TheVariants.{Trigger, KeyManager, RequestManager, Approver, Issuer, Issuing, Readiness, Revision}
use Rattle.cmc_objects.specs.Informers.{kind_of_work, works_on_requests}
use Rattle.cmc_pass.specs.declared.pass.Views.{Views}
use Rattle.cmc_informer.specs.Caches.{is_owned_by}
use Rattle.cmc_model.specs.Histories.{role_eq}
use Rattle.cmc_model.specs.Objects.{Objects, object_at}
use Rattle.cmc_model.specs.Replies.{put_at}
use Rattle.cmc_kernel.proofs.SameKeys.{key_eq-refl, same_key}
use Rattle.cmc_rules.specs.Views.{certificate_at, certificate_in, views_in}
use Rattle.cmc_load_laws.specs.Belonging.{IsOfOrNone, IsParted, IsWriteFor}
use Rattle.cmc_load_laws.specs.Frame.{all_of, is_of, key_of_target, part_for, seen_of}
use Rattle.cmc_load_laws.specs.Totals.{HasCertificate}
use Rattle.cmc_load_laws.proofs.Belonging.{none_named, ways}
use Rattle.cmc_load_laws.proofs.Elsewhere.{others_see_same, parts_of, request_seen, role_sees, seen_is}
use Rattle.cmc_load_laws.proofs.Totals.{one_key}

-- a key on which a role may have something new to see
pub record Place : Type 0 where
  pub role : Role
  pub key : Key

abbrev pub place : Role → Key → Place
place role key = record { role = role; key = key }

abbrev pub is_place : Role → Key → Place → Bool
is_place role key p = role_eq p.role role && key_eq p.key key

abbrev pub is_among : Role → Key → List Place → Bool
is_among role key ps = list_any (is_place role key) ps

-- a write of a Certificate: six roles work on it
abbrev pub with_certificate : Key → List Place → List Place
with_certificate own ps = place Trigger own ∷ place KeyManager own ∷ place RequestManager own ∷ place Issuing own ∷ place Readiness own ∷ place Revision own ∷ ps

-- a write under the key, for the Certificate under its own: two more work on the key, if it is of a request
abbrev pub touched : Key → Key → List Place → List Place
touched own key ps = with_certificate own (place Approver key ∷ place Issuer key ∷ ps)

one_more : (role r : Role) (key k : Key) (ps : List Place) → is_among role key ps ≡ true → is_among role key (place r k ∷ ps) ≡ true
one_more role r key k ps there = or_right (is_place role key (place r k)) (is_among role key ps) there

pub among_certificates : (role : Role) (key own : Key) (ps : List Place) → is_among role key ps ≡ true → is_among role key (with_certificate own ps) ≡ true
among_certificates role key own ps is =
    let revision : List Place = place Revision own ∷ ps in
    let readiness : List Place = place Readiness own ∷ revision in
    let issuing : List Place = place Issuing own ∷ readiness in
    let requests : List Place = place RequestManager own ∷ issuing in
    let keys : List Place = place KeyManager own ∷ requests in
    one_more role Trigger key own keys
    (one_more role KeyManager key own requests
    (one_more role RequestManager key own issuing (one_more role Issuing key own readiness (one_more role Readiness key own revision (one_more role Revision key own ps is)))))

pub still_among : (role : Role) (key own under : Key) (ps : List Place) → is_among role key ps ≡ true → is_among role key (touched own under ps) ≡ true
still_among role key own under ps is =
    let issuer : List Place = place Issuer under ∷ ps in
    among_certificates role key own (place Approver under ∷ issuer) (one_more role Approver key under issuer (one_more role Issuer key under ps is))

-- ---- which places are touched

on_own : (role : Role) (key own : Key) (ps : List Place) → works_on_requests role ≡ false → key_eq own key ≡ true → is_among role key (with_certificate own ps) ≡ true
on_own Trigger key own ps works is = rw is refl
on_own KeyManager key own ps works is = rw is refl
on_own RequestManager key own ps works is = rw is refl
on_own Approver key own ps works is = absurd (cc works)
on_own Issuer key own ps works is = absurd (cc works)
on_own Issuing key own ps works is = rw is refl
on_own Readiness key own ps works is = rw is refl
on_own Revision key own ps works is = rw is refl

on_written : (role : Role) (key own under : Key) (ps : List Place) → works_on_requests role ≡ true → key_eq under key ≡ true → is_among role key (touched own under ps) ≡ true
on_written Approver key own under ps works is = rw is refl
on_written Issuer key own under ps works is = rw is refl
on_written Trigger key own under ps works is = absurd (cc works)
on_written KeyManager key own under ps works is = absurd (cc works)
on_written RequestManager key own under ps works is = absurd (cc works)
on_written Issuing key own under ps works is = absurd (cc works)
on_written Readiness key own under ps works is = absurd (cc works)
on_written Revision key own under ps works is = absurd (cc works)

-- ---- what is seen of the others

-- the kinds of the keys that a role works on
works_on_certificates : (role : Role) (key : Key) → works_on_requests role ≡ false → key.kind ≡ kind_of_work role → key.kind ≡ kinds.Certificate
works_on_certificates role key works is = is ∙ ap (λ (b : Bool). if b then kinds.CertificateRequest else kinds.Certificate) works

apart_by : (b : Bool) (other key : Key) → is_at (key_cmp other) key ≡ b → key_eq key other ≡ false → is_at (key_cmp other) key ≡ false
apart_by true other key is off = absurd (let same : key_eq key other ≡ true = subst (λ (k : Key). key_eq key k ≡ true) (sym (one_key other key is)) (key_eq-refl key) in cc (same, off))
apart_by false other key is off = is

-- whose keys are not alike are not the same
unlike : (own other : Key) → key_eq own other ≡ false → other ≢ own
unlike own other off same = absurd (let is : key_eq own other ≡ true = subst (λ (k : Key). key_eq own k ≡ true) (sym same) (key_eq-refl own) in cc (is, off))

-- where there is no Certificate before and after nothing is seen
none_seen : (role : Role) (m n : Objects) (key : Key) → works_on_requests role ≡ false → certificate_at m key ≡ None → certificate_at n key ≡ None → views_in role (all_of n) key ≡ views_in role (all_of m) key
none_seen role m n key works was is =
    role_sees role n key works ∙ ap (part_for role) (seen_none n is ∙ sym (seen_none m was)) ∙ sym (role_sees role m key works)
  where
    nothing : Views
    nothing = record { certificate = None; secret = None; next = []; requests = []; request = None }

    seen_none : (o : Objects) → certificate_at o key ≡ None → seen_of o key ≡ nothing
    seen_none o none = seen_is o key ∙ ap (parts_of o) none

-- an object under a key of a Certificate that belongs to a Certificate is that Certificate
its_own : (m : Objects) (own other : Key) (c : Certificate) (o : Option Object) → IsParted m → other.kind ≡ kinds.Certificate → other ≢ own → object_at m other ≡ o → IsOfOrNone own c other o → o ≡ None
its_own m own other c o parted kind off at (inl none) = none
its_own m own other c o parted kind off at (inr is) = by (ways own c other o is) where
  owned : (x : Option Object) → object_at m other ≡ x → is_owned_by c.meta.uid x ≡ true → ⊥
  owned None there on = cc on
  owned (Some (Cert d)) there on = none_named c.meta.uid d.meta.owners (parted.owners other (Cert d) there) on
  owned (Some (Request r)) there on = let key = parted.keyed other (Request r) there in let k : kinds.CertificateRequest ≡ kinds.Certificate = ap (λ (q : Key). q.kind) key ∙ kind in absurd (cc k)
  owned (Some (Secret r)) there on = let key = parted.keyed other (Secret r) there in let k : kinds.Secret ≡ kinds.Certificate = ap (λ (q : Key). q.kind) key ∙ kind in absurd (cc k)

  by : (own ≡ other) ⊎ ((key_of_target c ≡ other) ⊎ (is_owned_by c.meta.uid o ≡ true)) → o ≡ None
  by (inl same) = absurd (off (sym same))
  by (inr (inl target)) = absurd (let k : kinds.Secret ≡ kinds.Certificate = ap (λ (q : Key). q.kind) target ∙ kind in cc k)
  by (inr (inr on)) = absurd (owned o at on)

-- ---- a write for one Certificate

-- a role sees the same on the key, or the place is touched
abbrev pub IsTouchedOr : List Place → Objects → Objects → Role → Key → Type 0
IsTouchedOr ps m n role key = (is_among role key ps ≡ true) ⊎ (views_in role (all_of n) key ≡ views_in role (all_of m) key)

module _ (m n : Objects) (own under : Key) (ps : List Place) (later : IsParted n) (write : IsWriteFor own under m (object_at n under) n)
    (unwritten : (q : Key) → is_at (key_cmp q) under ≡ false → object_at n q ≡ object_at m q)
    (others : (role : Role) (other : Key) → HasCertificate m other → other ≢ own → views_in role (all_of n) other ≡ views_in role (all_of m) other) where
  none_later : (key : Key) (b : Bool) → key.kind ≡ kinds.Certificate → key ≢ own → is_at (key_cmp key) under ≡ b → certificate_at m key ≡ None → certificate_at n key ≡ None
  none_later key false kind off at none = ap (option_and_then certificate_in) (unwritten key at) ∙ none
  none_later key true kind off at none =
      let same : under ≡ key = sym (one_key key under at) in
      ap (option_and_then certificate_in)
      (its_own n own key write.after (object_at n key) later kind off refl (subst (λ (k : Key). IsOfOrNone own write.after k (object_at n k)) same write.leaves))

  of_certificates : (role : Role) (key : Key) (x : Option Certificate) → certificate_at m key ≡ x → works_on_requests role ≡ false → key.kind ≡ kinds.Certificate → key ≢ own
      → views_in role (all_of n) key ≡ views_in role (all_of m) key
  of_certificates role key (Some c) at works kind off = others role key (c, at) off
  of_certificates role key None at works kind off = none_seen role m n key works at (none_later key (is_at (key_cmp key) under) kind off refl at)

  by_own : (b : Bool) (role : Role) (key : Key) → works_on_requests role ≡ false → key.kind ≡ kind_of_work role → key_eq own key ≡ b → IsTouchedOr (touched own under ps) m n role key
  by_own true role key works kind is = inl (on_own role key own (place Approver under ∷ place Issuer under ∷ ps) works is)
  by_own false role key works kind is = inr (of_certificates role key (certificate_at m key) refl works (works_on_certificates role key works kind) (unlike own key is))

  by_under : (b : Bool) (role : Role) (key : Key) → works_on_requests role ≡ true → key_eq under key ≡ b → IsTouchedOr (touched own under ps) m n role key
  by_under true role key works is = inl (on_written role key own under ps works is)
  by_under false role key works is = inr (request_seen role n m key works (unwritten key (apart_by (is_at (key_cmp key) under) key under refl is)))

  by_work : (b : Bool) (role : Role) (key : Key) → works_on_requests role ≡ b → key.kind ≡ kind_of_work role → IsTouchedOr (touched own under ps) m n role key
  by_work true role key works kind = by_under (key_eq under key) role key works refl
  by_work false role key works kind = by_own (key_eq own key) role key works kind refl

  pub touched_or : (role : Role) (key : Key) → key.kind ≡ kind_of_work role → IsTouchedOr (touched own under ps) m n role key
  touched_or role key kind = by_work (works_on_requests role) role key refl kind

-- ---- a write of a Certificate

-- what is under a key of a Certificate is owned by none
owned_by_none : (m : Objects) (key : Key) (uid : ℕ) (o : Option Object) → IsParted m → key.kind ≡ kinds.Certificate → object_at m key ≡ o → is_owned_by uid o ≡ false
owned_by_none m key uid None parted kind at = refl
owned_by_none m key uid (Some (Cert d)) parted kind at = by (is_owned_by uid (Some (Cert d))) refl where
  by : (b : Bool) → is_owned_by uid (Some (Cert d)) ≡ b → is_owned_by uid (Some (Cert d)) ≡ false
  by true on = absurd (none_named uid d.meta.owners (parted.owners key (Cert d) at) on)
  by false off = off
owned_by_none m key uid (Some (Request r)) parted kind at = absurd (let k : kinds.CertificateRequest ≡ kinds.Certificate = ap (λ (q : Key). q.kind) (parted.keyed key (Request r) at) ∙ kind in cc k)
owned_by_none m key uid (Some (Secret r)) parted kind at = absurd (let k : kinds.Secret ≡ kinds.Certificate = ap (λ (q : Key). q.kind) (parted.keyed key (Secret r) at) ∙ kind in cc k)

of_no_other : (m : Objects) (key other : Key) (c : Certificate) → IsParted m → key.kind ≡ kinds.Certificate → is_at (key_cmp other) key ≡ false → is_of other c key (object_at m key) ≡ false
of_no_other m key other c parted kind off =
    all_false (is_at (key_cmp other) key) (is_at (key_cmp (key_of_target c)) key) (is_owned_by c.meta.uid (object_at m key)) off (by (is_at (key_cmp (key_of_target c)) key) refl)
    (owned_by_none m key c.meta.uid (object_at m key) parted kind refl)
  where
    by : (b : Bool) → is_at (key_cmp (key_of_target c)) key ≡ b → is_at (key_cmp (key_of_target c)) key ≡ false
    by true on = absurd (let k : kinds.Secret ≡ kinds.Certificate = ap (λ (q : Key). q.kind) (one_key (key_of_target c) key on) ∙ kind in cc k)
    by false is = is

    all_false : (a b x : Bool) → a ≡ false → b ≡ false → x ≡ false → (a || (b || x)) ≡ false
    all_false a b x one two three = rw (one, two, three) refl

-- a role that works on requests works on no key of a Certificate
no_request : (role : Role) (key other : Key) → key.kind ≡ kinds.Certificate → works_on_requests role ≡ true → other.kind ≡ kind_of_work role → key_eq key other ≡ true → ⊥
no_request role key other kind works work same =
    let requests : other.kind ≡ kinds.CertificateRequest = work ∙ ap (λ (b : Bool). if b then kinds.CertificateRequest else kinds.Certificate) works in
    let one : kinds.Certificate ≡ kinds.CertificateRequest = sym kind ∙ ap (λ (k : Key). k.kind) (same_key key other same) ∙ requests in
    cc one

pub applied_or : (m : Objects) (key : Key) (new : Option Object) (ps : List Place) → IsParted m → IsParted (put_at m key new) → object_at (put_at m key new) key ≡ new → key.kind ≡ kinds.Certificate → (role : Role) (other : Key)
    → other.kind ≡ kind_of_work role → IsTouchedOr (with_certificate key ps) m (put_at m key new) role other
applied_or m key new ps parted later put kind role other work = by (key_eq key other) (works_on_requests role) refl refl where
  by : (b w : Bool) → key_eq key other ≡ b → works_on_requests role ≡ w → IsTouchedOr (with_certificate key ps) m (put_at m key new) role other
  by true true is works = absurd (no_request role key other kind works work is)
  by true false is works = inl (on_own role other key ps works is)
  by false w is works =
      let off = apart_by (is_at (key_cmp other) key) other key refl is in
      inr (others_see_same role m key new other (record {
        apart = off;
        before = λ c at. of_no_other m key other c parted kind off;
        after = λ c at. subst (λ (o : Option Object). is_of other c key o ≡ false) put (of_no_other (put_at m key new) key other c later kind off);
      }))
