-- What a role sees where it sees all that there is to see.
use Rattle.std.proofs.Common.{◌≡◌, ◌&&◌, List, [], ◌∷◌, Option, Some, None, Bool, true, false, refl, sym, ap, subst, ◌∙◌, inl, inr, option_and_then, filter_map}
use Rattle.std.specs.FinMap as map
use Rattle.std.specs.Prelude.{if◌then◌else◌}
use Rattle.cmc_meta.specs.declared.key.Key.{Key}
use Rattle.cmc_meta.specs.declared.key.Kind.TheVariants as kinds
use Rattle.cmc_objects.specs.declared.certificate.Certificate.{Certificate}
use Rattle.cmc_objects.specs.declared.request.CertificateRequest.{CertificateRequest}
use Rattle.cmc_objects.specs.declared.secret.Secret.{Secret as SecretObject}
use Rattle.cmc_objects.specs.declared.object.Object.{Object}
use Rattle.cmc_objects.specs.declared.object.Object.TheVariants.{Cert, Request, Secret}
use Rattle.cmc_objects.specs.declared.role.Role.{Role}
use Rattle.cmc_objects.specs.declared.entry.Entry.{Entry}
use Rattle.cmc_objects.specs.Objects.{key_of}
use Rattle.cmc_objects.specs.Informers.{works_on_requests, looks_at_secret, looks_at_next, looks_at_requests}
use Rattle.cmc_pass.specs.declared.pass.Views.{Views}
use Rattle.cmc_model.specs.Objects.{Objects, object_at}
use Rattle.cmc_model.specs.Histories.{Setting, objects}
use Rattle.cmc_rules.specs.Legality.{IsLegal}
use Rattle.cmc_rules.specs.SeenObjects.{IsAmong, IsPart, IsPartOf, IsSeen}
use Rattle.cmc_rules.specs.Views.{Caches, certificate_in, request_in, secret_in, certificate_at, request_at, target_at, is_owned, has_next_label, next_in, owned_in, next_of, requests_of, of_certificate, views_of, views_in, present_views}
use Rattle.cmc_rules.proofs.Sighted.{picked, stands_among}
use Rattle.cmc_rules.proofs.Versions.{stands_is_version, version_keyed}

-- the object stands under some key
abbrev IsThere : Objects → Object → Type 0
IsThere m o = (key : Key) × (object_at m key ≡ Some o)

certificate_there : (x : Option Object) (o : Object) → IsPart Cert (option_and_then certificate_in x) o → x ≡ Some o
certificate_there None o is = absurd is
certificate_there (Some (Cert c)) o is = ap Some (sym is)
certificate_there (Some (Request r)) o is = absurd is
certificate_there (Some (Secret k)) o is = absurd is

request_there : (x : Option Object) (o : Object) → IsPart Request (option_and_then request_in x) o → x ≡ Some o
request_there None o is = absurd is
request_there (Some (Cert c)) o is = absurd is
request_there (Some (Request r)) o is = ap Some (sym is)
request_there (Some (Secret k)) o is = absurd is

secret_there : (x : Option Object) (o : Object) → IsPart Secret (option_and_then secret_in x) o → x ≡ Some o
secret_there None o is = absurd is
secret_there (Some (Cert c)) o is = absurd is
secret_there (Some (Request r)) o is = absurd is
secret_there (Some (Secret k)) o is = ap Some (sym is)

next_there : (c : Certificate) (o : Object) (k : SecretObject) → next_in c o ≡ Some k → o ≡ Secret k
next_there c (Cert d) k is = absurd (cc is)
next_there c (Request r) k is = absurd (cc is)
next_there c (Secret j) k is = by (has_next_label j.meta && is_owned c j.meta) is where
  by : (b : Bool) → (if b then Some j else None) ≡ Some k → Secret j ≡ Secret k
  by true is = cc is
  by false is = absurd (cc is)

owned_there : (c : Certificate) (o : Object) (r : CertificateRequest) → owned_in c o ≡ Some r → o ≡ Request r
owned_there c (Cert d) r is = absurd (cc is)
owned_there c (Secret j) r is = absurd (cc is)
owned_there c (Request q) r is = by (is_owned c q.meta) is where
  by : (b : Bool) → (if b then Some q else None) ≡ Some r → Request q ≡ Request r
  by true is = cc is
  by false is = absurd (cc is)

part_among : {A : Type 0} (kind : A → Object) (xs : List A) (o : Object) → IsPartOf kind xs o → (a : A) × IsAmong a xs × (o ≡ kind a)
part_among kind [] o is = absurd is
part_among kind (x ∷ xs) o (inl is) = (x, inl refl, is)
part_among kind (x ∷ xs) o (inr is) = let later = part_among kind xs o is in (later.0, inr later.1, later.2)

-- each of the objects is so
abbrev pub AreSo : (Object → Type 0) → Objects → Type 0
AreSo P m = (key : Key) (o : Object) → object_at m key ≡ Some o → P o

among_so : {A : Type 0} (P : Object → Type 0) (m : Objects) (kind : A → Object) (f : Object → Option A) (o : Object) → AreSo P m
    → ((x : Object) (a : A) → f x ≡ Some a → x ≡ kind a) → IsPartOf kind (filter_map (λ (e : Key × Object). f e.1) (map.entries m)) o → P o
among_so P m kind f o all there is =
    let part = part_among kind (filter_map (λ (e : Key × Object). f e.1) (map.entries m)) o is in
    let p = picked (λ (e : Key × Object). f e.1) (map.entries m) part.0 part.1 in
    subst P (sym part.2) (all p.0.0 (kind part.0) (stands_among m p.0 p.1 ∙ ap Some (there p.0.1 part.0 p.2)))

on_certificate : (P : Object → Type 0) (m : Objects) (key : Key) (none : Bool) (o : Object) → AreSo P m → IsPart Cert (if none then None else certificate_at m key) o → P o
on_certificate P m key true o all is = absurd is
on_certificate P m key false o all is = all key o (certificate_there (object_at m key) o is)

on_request : (P : Object → Type 0) (m : Objects) (key : Key) (some : Bool) (o : Object) → AreSo P m → IsPart Request (if some then request_at m key else None) o → P o
on_request P m key true o all is = all key o (request_there (object_at m key) o is)
on_request P m key false o all is = absurd is

on_target : (P : Object → Type 0) (m : Objects) (looks : Bool) (c : Option Certificate) (o : Object) → AreSo P m → IsPart Secret (if looks then option_and_then (target_at m) c else None) o → P o
on_target P m false c o all is = absurd is
on_target P m true None o all is = absurd is
on_target P m true (Some c) o all is =
    let key : Key = record { kind = kinds.Secret; namespace = c.meta.namespace; name = c.spec.secret_name } in
    all key o (secret_there (object_at m key) o is)

on_next : (P : Object → Type 0) (m : Objects) (looks : Bool) (c : Option Certificate) (o : Object) → AreSo P m → IsPartOf Secret (if looks then of_certificate (next_of m) c else []) o → P o
on_next P m false c o all is = absurd is
on_next P m true None o all is = absurd is
on_next P m true (Some c) o all is = among_so P m Secret (next_in c) o all (next_there c) is

on_owned : (P : Object → Type 0) (m : Objects) (looks : Bool) (c : Option Certificate) (o : Object) → AreSo P m → IsPartOf Request (if looks then of_certificate (requests_of m) c else []) o → P o
on_owned P m false c o all is = absurd is
on_owned P m true None o all is = absurd is
on_owned P m true (Some c) o all is = among_so P m Request (owned_in c) o all (owned_there c) is

-- what is so of each object that a role may look at is so of each that it sees
pub seen_so : (P : Object → Type 0) (role : Role) (c : Caches) (key : Key) (o : Object) → AreSo P c.certificates → AreSo P c.requests → AreSo P c.secrets → IsSeen (views_in role c key) o → P o
unfolding views_in views_of
seen_so P role c key o certificates requests secrets (inl is) = on_certificate P c.certificates key (works_on_requests role) o certificates is
seen_so P role c key o certificates requests secrets (inr (inl is)) =
    on_target P c.secrets (looks_at_secret role) (if works_on_requests role then None else certificate_at c.certificates key) o secrets is
seen_so P role c key o certificates requests secrets (inr (inr (inl is))) = on_request P c.requests key (works_on_requests role) o requests is
seen_so P role c key o certificates requests secrets (inr (inr (inr (inl is)))) =
    on_next P c.secrets (looks_at_next role) (if works_on_requests role then None else certificate_at c.certificates key) o secrets is
seen_so P role c key o certificates requests secrets (inr (inr (inr (inr is)))) =
    on_owned P c.requests (looks_at_requests role) (if works_on_requests role then None else certificate_at c.certificates key) o requests is

-- what stands, stands under its own key
pub under_own : (s : Setting) (h : List Entry) (key : Key) (o : Object) → IsLegal s h → object_at (objects s h) key ≡ Some o → key_of o ≡ key
under_own s h key o legal is = version_keyed s h key o legal (stands_is_version s h key o is)

-- each object that is seen stands under its key
abbrev pub StandsSeen : Setting → List Entry → Views → Type 0
StandsSeen s h seen = (o : Object) → IsSeen seen o → object_at (objects s h) (key_of o) ≡ Some o

pub stands_seen : (s : Setting) (h : List Entry) (role : Role) (key : Key) (seen : Views) → IsLegal s h → seen ≡ present_views s h role key → StandsSeen s h seen
stands_seen s h role key seen legal same o is =
    let m = objects s h in
    let all : AreSo (IsThere m) m = λ k p at. (k, at) in
    let there = seen_so (IsThere m) role (record { certificates = m; requests = m; secrets = m }) key o all all all (subst (λ (v : Views). IsSeen v o) same is) in
    ap (object_at (objects s h)) (under_own s h there.0 o legal there.1) ∙ there.1

-- ---- the Secret that a Certificate names

abbrev pub target_key : Certificate → Key
target_key c = record { kind = kinds.Secret; namespace = c.meta.namespace; name = c.spec.secret_name }

not_secret : (x : Option Object) (key : Key) → key.kind ≡ kinds.Secret → ((o : Object) → x ≡ Some o → key_of o ≡ key) → option_and_then secret_in x ≡ None → x ≡ None
not_secret None key is own none = refl
not_secret (Some (Cert c)) key is own none = absurd (cc (ap (λ (k : Key). k.kind) (own (Cert c) refl), is))
not_secret (Some (Request r)) key is own none = absurd (cc (ap (λ (k : Key). k.kind) (own (Request r) refl), is))
not_secret (Some (Secret k)) key is own none = absurd (cc none)

seen_secret : (role : Role) (c : Caches) (key : Key) → looks_at_secret role ≡ true → (views_in role c key).secret ≡ option_and_then (target_at c.secrets) (views_in role c key).certificate
unfolding views_in views_of
seen_secret role c key looks =
    ap (λ (b : Bool). if b then option_and_then (target_at c.secrets) (if works_on_requests role then None else certificate_at c.certificates key) else None) looks

-- where no target is seen none is there
pub none_there : (role : Role) (m : Caches) (key : Key) (seen : Views) (c : Certificate) → ((o : Object) → object_at m.secrets (target_key c) ≡ Some o → key_of o ≡ target_key c) → looks_at_secret role ≡ true
    → seen ≡ views_in role m key → seen.certificate ≡ Some c → seen.secret ≡ None → object_at m.secrets (target_key c) ≡ None
none_there role m key seen c own looks same sees none =
    let of_it : option_and_then (target_at m.secrets) (Some c) ≡ None =
    subst (λ (x : Option Certificate). option_and_then (target_at m.secrets) x ≡ None) sees
    (subst (λ (v : Views). option_and_then (target_at m.secrets) v.certificate ≡ None) (sym same) (sym (seen_secret role m key looks) ∙ sym (ap (λ (v : Views). v.secret) same) ∙ none)) in
    not_secret (object_at m.secrets (target_key c)) (target_key c) refl own of_it

-- and where all is seen that there is to see none stands
pub no_target : (s : Setting) (h : List Entry) (role : Role) (key : Key) (seen : Views) (c : Certificate) → IsLegal s h → looks_at_secret role ≡ true → seen ≡ present_views s h role key
    → seen.certificate ≡ Some c → seen.secret ≡ None → object_at (objects s h) (target_key c) ≡ None
no_target s h role key seen c legal looks same sees none =
    let m : Caches = record { certificates = objects s h; requests = objects s h; secrets = objects s h } in
    none_there role m key seen c (λ o is. under_own s h (target_key c) o legal is) looks same sees none
