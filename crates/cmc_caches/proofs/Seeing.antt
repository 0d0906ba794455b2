-- Of which keys a role sees the same, by what writes touched.
use Rattle.std.proofs.Common.{◌≡◌, inl, inr, ℕ, Bool, true, false, List, [], Option, Some, None, refl, sym, ap, ◌∙◌, subst}
use Rattle.std.proofs.lemmas.Bool.{and_from, eq-eqb}
use Rattle.std.proofs.lemmas.Slice.Eq.{bytes_eq-Decides}
use Rattle.std.specs.Prelude.{◌&&◌, option_and_then, if◌then◌else◌}
use Rattle.std.specs.Str.{bytes_eq}
use Rattle.cmc_meta.specs.declared.key.Key.{Key}
use Rattle.cmc_meta.specs.declared.key.Kind.TheVariants as kinds
use Rattle.cmc_objects.specs.declared.certificate.Certificate.{Certificate}
use Rattle.cmc_objects.specs.declared.object.Object.{Object}
use Rattle.cmc_objects.specs.declared.object.Object.TheVariants.{Cert, Request, Secret}
use Rattle.cmc_objects.specs.declared.role.Role.{Role}
use Rattle.cmc_model.specs.Objects.{Objects, object_at}
use Rattle.cmc_objects.specs.Informers.{works_on_requests, looks_at_secret, looks_at_next, looks_at_requests}
use Rattle.cmc_rules.specs.Views.{Caches, certificate_in, certificate_at, request_in, request_at, secret_in, target_at, next_in, owned_in, next_of, requests_of, has_next_label, of_certificate, views_of, views_in}
use Rattle.cmc_informer.specs.Caches.{has_uid, is_owned_by, is_targeting}
use Rattle.cmc_caches.proofs.Picking.{picked_alike}
use Rattle.cmc_caches.specs.Affected.{AreListedBySecret, AreListedByUid, AreSameBut, AreSameButOf, IsForeign, SeesSame, SeesSameNext, SeesSameRequests, SeesSameTarget, is_among, is_uid_among}

-- ---- what a Certificate owns stays, where nothing that differs was or is its own

not_next : (c : Certificate) (o : Option Object) → is_owned_by c.meta.uid o ≡ false → option_and_then (next_in c) o ≡ None
not_next c None off = refl
not_next c (Some (Cert other)) off = refl
not_next c (Some (Request r)) off = refl
not_next c (Some (Secret s)) off = rw off (none (has_next_label s.meta) (bytes_eq s.meta.namespace c.meta.namespace)) where
  none : (l m : Bool) → (if l && (m && false) then Some s else None) ≡ None
  none true true = refl
  none true false = refl
  none false m = refl

not_owned : (c : Certificate) (o : Option Object) → is_owned_by c.meta.uid o ≡ false → option_and_then (owned_in c) o ≡ None
not_owned c None off = refl
not_owned c (Some (Cert other)) off = refl
not_owned c (Some (Request r)) off = rw off (none (bytes_eq r.meta.namespace c.meta.namespace)) where
  none : (m : Bool) → (if m && false then Some r else None) ≡ None
  none true = refl
  none false = refl
not_owned c (Some (Secret s)) off = refl

next_alike : (c : Certificate) (m n : Objects) (q : Key) → IsForeign c.meta.uid m n q → option_and_then (next_in c) (object_at m q) ≡ option_and_then (next_in c) (object_at n q)
next_alike c m n q (inl same) = ap (option_and_then (next_in c)) same
next_alike c m n q (inr off) = not_next c (object_at m q) off.0 ∙ sym (not_next c (object_at n q) off.1)

owned_alike : (c : Certificate) (m n : Objects) (q : Key) → IsForeign c.meta.uid m n q → option_and_then (owned_in c) (object_at m q) ≡ option_and_then (owned_in c) (object_at n q)
owned_alike c m n q (inl same) = ap (option_and_then (owned_in c)) same
owned_alike c m n q (inr off) = not_owned c (object_at m q) off.0 ∙ sym (not_owned c (object_at n q) off.1)

-- ---- the parts, of Certificates that are not listed

unlisted : (b on : Bool) → (b ≡ true → on ≡ true) → on ≡ false → b ≡ false
unlisted true on gives off = absurd (cc (gives refl, off))
unlisted false on gives off = refl

has_its_uid : (o : Option Object) (c : Certificate) → option_and_then certificate_in o ≡ Some c → has_uid c.meta.uid o ≡ true
has_its_uid None c is = absurd (cc is)
has_its_uid (Some (Cert x)) c is = let same : x ≡ c = cc is in subst (λ (y : Certificate). has_uid y.meta.uid (Some (Cert x)) ≡ true) same (eq-eqb x.meta.uid x.meta.uid refl)
has_its_uid (Some (Request r)) c is = absurd (cc is)
has_its_uid (Some (Secret s)) c is = absurd (cc is)

names_its_secret : (o : Option Object) (c : Certificate) → option_and_then certificate_in o ≡ Some c → is_targeting c.meta.namespace c.spec.secret_name o ≡ true
names_its_secret None c is = absurd (cc is)
names_its_secret (Some (Cert x)) c is =
    let same : x ≡ c = cc is in
    subst (λ (y : Certificate). is_targeting y.meta.namespace y.spec.secret_name (Some (Cert x)) ≡ true) same
    (and_from (bytes_eq x.meta.namespace x.meta.namespace) (bytes_eq x.spec.secret_name x.spec.secret_name) ((bytes_eq-Decides x.meta.namespace x.meta.namespace).1 refl) ((bytes_eq-Decides x.spec.secret_name x.spec.secret_name).1 refl))
names_its_secret (Some (Request r)) c is = absurd (cc is)
names_its_secret (Some (Secret s)) c is = absurd (cc is)

module _ (role : Role) (certificates m n : Objects) (keys : List Key) where
  foreign_to : (uids : List ℕ) → AreSameButOf uids m n → AreListedByUid certificates uids keys → (key : Key) (c : Certificate) → certificate_at certificates key ≡ Some c → is_among keys key ≡ false
      → (q : Key) → IsForeign c.meta.uid m n q
  foreign_to uids so listed key c at off =
      so c.meta.uid (unlisted (is_uid_among uids c.meta.uid) (is_among keys key) (λ on. listed c.meta.uid on key (has_its_uid (object_at certificates key) c at)) off)

  pub sees_next : (uids : List ℕ) → AreSameButOf uids m n → AreListedByUid certificates uids keys → SeesSameNext role certificates keys m n
  sees_next uids so listed key c at off looks = picked_alike (next_in c) m n (λ q. next_alike c m n q (foreign_to uids so listed key c at off q))

  pub sees_requests : (uids : List ℕ) → AreSameButOf uids m n → AreListedByUid certificates uids keys → SeesSameRequests role certificates keys m n
  sees_requests uids so listed key c at off looks = picked_alike (owned_in c) m n (λ q. owned_alike c m n q (foreign_to uids so listed key c at off q))

  pub sees_target : (written : List Key) → AreSameBut written m n → AreListedBySecret certificates written keys → SeesSameTarget role certificates keys m n
  sees_target written so listed key c at off looks =
      let target : Key = record { kind = kinds.Secret; namespace = c.meta.namespace; name = c.spec.secret_name } in
      ap (option_and_then secret_in) (so target (unlisted (is_among written target) (is_among keys key) (λ on. listed target on key (names_its_secret (object_at certificates key) c at)) off))

-- ---- what is seen

if_true : {A : Type 0} (b : Bool) (x y e : A) → (b ≡ true → x ≡ y) → (if b then x else e) ≡ (if b then y else e)
if_true true x y e same = same refl
if_true false x y e same = refl

if_false : {A : Type 0} (b : Bool) (x y e : A) → (b ≡ false → x ≡ y) → (if b then e else x) ≡ (if b then e else y)
if_false true x y e same = refl
if_false false x y e same = same refl

given : (b : Bool) (o : Option Certificate) (c : Certificate) → (if b then None else o) ≡ Some c → (b ≡ false) × (o ≡ Some c)
given true o c is = absurd (cc is)
given false o c is = (refl, is)

target_part : (looks : Bool) (o : Option Certificate) (m n : Objects) → ((c : Certificate) → o ≡ Some c → looks ≡ true → target_at m c ≡ target_at n c)
    → (if looks then option_and_then (target_at m) o else None) ≡ (if looks then option_and_then (target_at n) o else None)
target_part looks None m n same = refl
target_part looks (Some c) m n same = if_true looks (target_at m c) (target_at n c) None (same c refl)

list_part : {A : Type 0} (looks : Bool) (f g : Certificate → List A) (o : Option Certificate) → ((c : Certificate) → o ≡ Some c → looks ≡ true → f c ≡ g c)
    → (if looks then of_certificate f o else []) ≡ (if looks then of_certificate g o else [])
list_part looks f g None same = refl
list_part looks f g (Some c) same = if_true looks (f c) (g c) [] (same c refl)

-- a key of which each part that the role looks at is the same
views_alike : (role : Role) (old new : Caches) (key : Key)
    → (works_on_requests role ≡ false → certificate_at old.certificates key ≡ certificate_at new.certificates key)
    → (works_on_requests role ≡ true → request_at old.requests key ≡ request_at new.requests key)
    → ((c : Certificate) → works_on_requests role ≡ false → certificate_at old.certificates key ≡ Some c → looks_at_secret role ≡ true → target_at old.secrets c ≡ target_at new.secrets c)
    → ((c : Certificate) → works_on_requests role ≡ false → certificate_at old.certificates key ≡ Some c → looks_at_next role ≡ true → next_of old.secrets c ≡ next_of new.secrets c)
    → ((c : Certificate) → works_on_requests role ≡ false → certificate_at old.certificates key ≡ Some c → looks_at_requests role ≡ true → requests_of old.requests c ≡ requests_of new.requests c)
    → views_in role old key ≡ views_in role new key
unfolding views_in views_of
views_alike role old new key same_certificate same_request same_target same_next same_requests =
    let works : Bool = works_on_requests role in
    let o : Option Certificate = if works then None else certificate_at old.certificates key in
    let p : Option Certificate = if works then None else certificate_at new.certificates key in
    let certificate : o ≡ p = if_false works (certificate_at old.certificates key) (certificate_at new.certificates key) None same_certificate in
    let request = if_true works (request_at old.requests key) (request_at new.requests key) None same_request in
    let at : (c : Certificate) → o ≡ Some c → (works ≡ false) × (certificate_at old.certificates key ≡ Some c) = given works (certificate_at old.certificates key) in
    let secret = target_part (looks_at_secret role) o old.secrets new.secrets (λ c is. same_target c (at c is).0 (at c is).1)
    ∙ ap (λ (x : Option Certificate). if looks_at_secret role then option_and_then (target_at new.secrets) x else None) certificate in
    let next = list_part (looks_at_next role) (next_of old.secrets) (next_of new.secrets) o (λ c is. same_next c (at c is).0 (at c is).1)
    ∙ ap (λ (x : Option Certificate). if looks_at_next role then of_certificate (next_of new.secrets) x else []) certificate in
    let requests = list_part (looks_at_requests role) (requests_of old.requests) (requests_of new.requests) o (λ c is. same_requests c (at c is).0 (at c is).1)
    ∙ ap (λ (x : Option Certificate). if looks_at_requests role then of_certificate (requests_of new.requests) x else []) certificate in
    λ i. record { certificate = certificate i; secret = secret i; next = next i; requests = requests i; request = request i }

module _ (role : Role) where
  -- a role on keys of CertificateRequests is told of Certificates
  pub sees_no_certificates : (m n requests secrets : Objects) (keys : List Key) → works_on_requests role ≡ true
      → SeesSame role keys (record { certificates = m; requests = requests; secrets = secrets }) (record { certificates = n; requests = requests; secrets = secrets })
  sees_no_certificates m n requests secrets keys works key off =
      views_alike role (record { certificates = m; requests = requests; secrets = secrets }) (record { certificates = n; requests = requests; secrets = secrets }) key
      (λ other. absurd (cc (works, other))) (λ _. refl) (λ c _ at looks. refl) (λ c _ at looks. refl) (λ c _ at looks. refl)

  -- any other
  pub sees_certificates : (m n requests secrets : Objects) (keys : List Key) → AreSameBut keys m n
      → SeesSame role keys (record { certificates = m; requests = requests; secrets = secrets }) (record { certificates = n; requests = requests; secrets = secrets })
  sees_certificates m n requests secrets keys so key off =
      views_alike role (record { certificates = m; requests = requests; secrets = secrets }) (record { certificates = n; requests = requests; secrets = secrets }) key
      (λ _. ap (option_and_then certificate_in) (so key off)) (λ _. refl) (λ c _ at looks. refl) (λ c _ at looks. refl) (λ c _ at looks. refl)

  pub sees_worked : (certificates m n secrets : Objects) (keys : List Key) → works_on_requests role ≡ true → AreSameBut keys m n
      → SeesSame role keys (record { certificates = certificates; requests = m; secrets = secrets }) (record { certificates = certificates; requests = n; secrets = secrets })
  sees_worked certificates m n secrets keys works so key off =
      views_alike role (record { certificates = certificates; requests = m; secrets = secrets }) (record { certificates = certificates; requests = n; secrets = secrets }) key
      (λ other. absurd (cc (works, other))) (λ _. ap (option_and_then request_in) (so key off)) (λ c _ at looks. refl) (λ c _ at looks. refl) (λ c other at looks. absurd (cc (works, other)))

  pub sees_owned : (certificates m n secrets : Objects) (keys : List Key) → works_on_requests role ≡ false → SeesSameRequests role certificates keys m n
      → SeesSame role keys (record { certificates = certificates; requests = m; secrets = secrets }) (record { certificates = certificates; requests = n; secrets = secrets })
  sees_owned certificates m n secrets keys works so key off =
      views_alike role (record { certificates = certificates; requests = m; secrets = secrets }) (record { certificates = certificates; requests = n; secrets = secrets }) key
      (λ _. refl) (λ other. absurd (cc (works, other))) (λ c _ at looks. refl) (λ c _ at looks. refl) (λ c _ at looks. so key c at off looks)

  pub sees_secrets : (certificates requests m n : Objects) (first keys : List Key) → SeesSameNext role certificates first m n
      → ((k : Key) → is_among first k ≡ true → is_among keys k ≡ true) → SeesSameTarget role certificates keys m n
      → SeesSame role keys (record { certificates = certificates; requests = requests; secrets = m }) (record { certificates = certificates; requests = requests; secrets = n })
  sees_secrets certificates requests m n first keys next keeps target key off =
      views_alike role (record { certificates = certificates; requests = requests; secrets = m }) (record { certificates = certificates; requests = requests; secrets = n }) key
      (λ _. refl) (λ _. refl) (λ c _ at looks. target key c at off looks) (λ c _ at looks. next key c at (unlisted (is_among first key) (is_among keys key) (keeps key) off) looks) (λ c _ at looks. refl)
