-- A role that was told of all writes of the kinds that it looks at sees what there is to see.
use Rattle.std.proofs.Common.{◌≡◌, ℕ, ◌≤◌, length, arith, List, [], Option, Some, None, Bool, true, false, cond, refl, sym, ap, ◌∙◌, filter_map, option_and_then}
use Rattle.std.proofs.lemmas.Bool.{or_left, or_right}
use Rattle.std.specs.Prelude.{if◌then◌else◌}
use Rattle.std.specs.FinMap as map
use Rattle.std.specs.FinMap.{get-entries}
use Rattle.cmc_meta.specs.declared.key.Key.{Key}
use Rattle.cmc_meta.specs.declared.key.Kind.{Kind}
use Rattle.cmc_meta.specs.declared.key.Kind.TheVariants as kinds
use Rattle.cmc_objects.specs.declared.certificate.Certificate.{Certificate}
use Rattle.cmc_objects.specs.declared.object.Object.{Object}
use Rattle.cmc_objects.specs.declared.object.Object.TheVariants.{Cert, Request, Secret}
use Rattle.cmc_objects.specs.declared.role.Role.{Role}
use Rattle.cmc_objects.specs.declared.entry.Entry.{Entry}
use Rattle.cmc_objects.specs.Objects.{kind_of}
use Rattle.cmc_model.specs.declared.write.Write.{Write}
use Rattle.cmc_model.specs.Objects.{Objects, object_at}
use Rattle.cmc_model.specs.Histories.{Setting, objects}
use Rattle.cmc_model.specs.Writes.{writes, contents, kind_eq, last_of_kind, objects_of}
use Rattle.cmc_objects.specs.Informers.{works_on_requests, looks_at_secret, looks_at_next, looks_at_requests, has_informer}
use Rattle.cmc_rules.specs.Positions.{position}
use Rattle.cmc_rules.specs.Views.{certificate_in, request_in, secret_in, next_in, owned_in, certificate_at, request_at, target_at, next_of, requests_of, of_certificate, views_of, views_in, views, present_views}
use Rattle.cmc_rules.specs.Legality.{IsLegal}
use Rattle.cmc_model.proofs.Versions.{standing}
use Rattle.cmc_rules.proofs.Versions.{version_keyed}
use Rattle.cmc_model.proofs.Writes.{writes_leave}
use Rattle.cmc_caches.specs.Told.{caches_at}
use Rattle.cmc_kernel.proofs.OneKind.{last_low, of_kind-oldest, object_at-of_kind, entries-of_kind, filter_map-where}

-- ---- what only objects of one kind have

abbrev pub IsOfOnly : {A : Type 0} → Kind → (Object → Option A) → Type 0
IsOfOnly kind f = (o : Object) → kind_eq (kind_of o) kind ≡ false → f o ≡ None

of_certificates : IsOfOnly kinds.Certificate certificate_in
of_certificates (Cert c) other = absurd (cc)
of_certificates (Request r) other = refl
of_certificates (Secret o) other = refl

of_requests : IsOfOnly kinds.CertificateRequest request_in
of_requests (Cert c) other = refl
of_requests (Request r) other = absurd (cc)
of_requests (Secret o) other = refl

of_secrets : IsOfOnly kinds.Secret secret_in
of_secrets (Cert c) other = refl
of_secrets (Request r) other = refl
of_secrets (Secret o) other = absurd (cc)

next_of_secrets : (c : Certificate) → IsOfOnly kinds.Secret (next_in c)
next_of_secrets c (Cert other) off = refl
next_of_secrets c (Request r) off = refl
next_of_secrets c (Secret o) off = absurd (cc)

owned_of_requests : (c : Certificate) → IsOfOnly kinds.CertificateRequest (owned_in c)
owned_of_requests c (Cert other) off = refl
owned_of_requests c (Request r) off = absurd (cc)
owned_of_requests c (Secret o) off = refl

-- an object stands under its own key, so one under a key of another kind has no such part
no_part : {A : Type 0} (s : Setting) (h : List Entry) (kind : Kind) (f : Object → Option A) → IsLegal s h → IsOfOnly kind f
    → (q : Key) (o : Object) → object_at (contents (writes s h)) q ≡ Some o → kind_eq q.kind kind ≡ false → f o ≡ None
no_part s h kind f legal only q o is off =
    only o (ap (λ (k : Key). kind_eq k.kind kind) (version_keyed s h q o legal (standing (writes s h) q o is)) ∙ off)

-- ---- one object, and all

part_at : {A : Type 0} (k : Bool) (f : Object → Option A) (x : Option Object) → ((o : Object) → x ≡ Some o → k ≡ false → f o ≡ None)
    → option_and_then f (cond k x None) ≡ option_and_then f x
part_at true f x none = refl
part_at false f None none = refl
part_at false f (Some o) none = sym (none o refl refl)

seen_at : {A : Type 0} (s : Setting) (h : List Entry) (kind : Kind) (p : ℕ) (f : Object → Option A) (q : Key) → IsLegal s h → IsOfOnly kind f
    → last_of_kind kind (writes s h) ≤ p → option_and_then f (object_at (objects_of kind s h p) q) ≡ option_and_then f (object_at (objects s h) q)
seen_at s h kind p f q legal only le =
    ap (λ (ws : List Write). option_and_then f (object_at (contents ws) q)) (of_kind-oldest kind p (writes s h) le)
    ∙ ap (option_and_then f) (object_at-of_kind kind (writes s h) q)
    ∙ part_at (kind_eq q.kind kind) f (object_at (contents (writes s h)) q) (λ o. no_part s h kind f legal only q o)
    ∙ ap (λ (m : Objects). option_and_then f (object_at m q)) (writes_leave s h)

seen_all : {A : Type 0} (s : Setting) (h : List Entry) (kind : Kind) (p : ℕ) (f : Object → Option A) → IsLegal s h → IsOfOnly kind f
    → last_of_kind kind (writes s h) ≤ p → filter_map (λ e. f e.1) (map.entries (objects_of kind s h p)) ≡ filter_map (λ e. f e.1) (map.entries (objects s h))
seen_all s h kind p f legal only le =
    ap (λ (ws : List Write). filter_map (λ e. f e.1) (map.entries (contents ws))) (of_kind-oldest kind p (writes s h) le)
    ∙ ap (filter_map (λ e. f e.1)) (entries-of_kind kind (writes s h))
    ∙ filter_map-where (λ k. kind_eq k.kind kind) f (map.entries (contents (writes s h))) (map.entries_sorted (contents (writes s h)))
    (λ q o is. no_part s h kind f legal only q o (get-entries (contents (writes s h)) q ∙ is))
    ∙ ap (λ (m : Objects). filter_map (λ e. f e.1) (map.entries m)) (writes_leave s h)

-- ---- what a role sees

on_yes : {A : Type 0} (b : Bool) (x y z : A) → (b ≡ true → x ≡ y) → (if b then x else z) ≡ (if b then y else z)
on_yes true x y z same = same refl
on_yes false x y z same = refl

on_no : {A : Type 0} (b : Bool) (x y z : A) → (b ≡ false → x ≡ y) → (if b then z else x) ≡ (if b then z else y)
on_no true x y z same = refl
on_no false x y z same = same refl

target_same : (a b : Objects) (c : Option Certificate) → ((q : Key) → option_and_then secret_in (object_at a q) ≡ option_and_then secret_in (object_at b q))
    → option_and_then (target_at a) c ≡ option_and_then (target_at b) c
target_same a b None same = refl
target_same a b (Some c) same = same (record { kind = kinds.Secret; namespace = c.meta.namespace; name = c.spec.secret_name })

each_same : {A : Type 0} (f g : Certificate → List A) (c : Option Certificate) → ((x : Certificate) → f x ≡ g x) → of_certificate f c ≡ of_certificate g c
each_same f g None same = refl
each_same f g (Some c) same = same c

-- the role was told of the last write of each kind that it looks at
abbrev pub IsToldOfAll : Setting → List Entry → Role → Type 0
IsToldOfAll s h role = (kind : Kind) → has_informer role kind ≡ true → last_of_kind kind (writes s h) ≤ position h role kind

-- what is seen at positions that leave no write of these kinds out
pub views_up_to : (s : Setting) (h : List Entry) (role : Role) (key : Key) (at : Kind → ℕ) → IsLegal s h → ((kind : Kind) → has_informer role kind ≡ true → last_of_kind kind (writes s h) ≤ at kind)
    → views_in role (record { certificates = objects_of kinds.Certificate s h (at kinds.Certificate); requests = objects_of kinds.CertificateRequest s h (at kinds.CertificateRequest); secrets = objects_of kinds.Secret s h (at kinds.Secret) }) key
    ≡ present_views s h role key
unfolding views_in views_of
views_up_to s h role key at legal told =
    let certificates : Objects = objects_of kinds.Certificate s h (at kinds.Certificate) in
    let requests : Objects = objects_of kinds.CertificateRequest s h (at kinds.CertificateRequest) in
    let secrets : Objects = objects_of kinds.Secret s h (at kinds.Secret) in
    let present : Objects = objects s h in
    let certificate : (if works_on_requests role then None else certificate_at certificates key) ≡ (if works_on_requests role then None else certificate_at present key) =
    on_no (works_on_requests role) _ _ _ (λ b. seen_at s h kinds.Certificate _ certificate_in key legal of_certificates (told kinds.Certificate (ap (λ r. if r then false else true) b))) in
    let request : (if works_on_requests role then request_at requests key else None) ≡ (if works_on_requests role then request_at present key else None) =
    on_yes (works_on_requests role) _ _ _ (λ b. seen_at s h kinds.CertificateRequest _ request_in key legal of_requests (told kinds.CertificateRequest (or_left _ _ b))) in
    let seen : Option Certificate = if works_on_requests role then None else certificate_at certificates key in
    let stands : Option Certificate = if works_on_requests role then None else certificate_at present key in
    let secret : (if looks_at_secret role then option_and_then (target_at secrets) seen else None) ≡ (if looks_at_secret role then option_and_then (target_at present) stands else None) =
    ap (λ (c : Option Certificate). if looks_at_secret role then option_and_then (target_at secrets) c else None) certificate
    ∙ on_yes (looks_at_secret role) _ _ _ (λ b. target_same secrets present stands (λ q. seen_at s h kinds.Secret _ secret_in q legal of_secrets (told kinds.Secret (or_left _ _ b)))) in
    let next : (if looks_at_next role then of_certificate (next_of secrets) seen else []) ≡ (if looks_at_next role then of_certificate (next_of present) stands else []) =
    ap (λ (c : Option Certificate). if looks_at_next role then of_certificate (next_of secrets) c else []) certificate
    ∙ on_yes (looks_at_next role) _ _ _ (λ b. each_same (next_of secrets) (next_of present) stands (λ c. seen_all s h kinds.Secret _ (next_in c) legal (next_of_secrets c) (told kinds.Secret (or_right _ _ b)))) in
    let owned : (if looks_at_requests role then of_certificate (requests_of requests) seen else []) ≡ (if looks_at_requests role then of_certificate (requests_of present) stands else []) =
    ap (λ (c : Option Certificate). if looks_at_requests role then of_certificate (requests_of requests) c else []) certificate
    ∙ on_yes (looks_at_requests role) _ _ _ (λ b. each_same (requests_of requests) (requests_of present) stands (λ c. seen_all s h kinds.CertificateRequest _ (owned_in c) legal (owned_of_requests c) (told kinds.CertificateRequest (or_right _ _ b)))) in
    λ i. record { certificate = certificate i; secret = secret i; next = next i; requests = owned i; request = request i }

pub views_newest : (s : Setting) (h : List Entry) (role : Role) (key : Key) → IsLegal s h → IsToldOfAll s h role → views s h role key ≡ present_views s h role key
views_newest s h role key legal told = views_up_to s h role key (position h role) legal told

-- and after all writes
pub views_of_all : (s : Setting) (h : List Entry) (role : Role) (key : Key) (n : ℕ) → n ≡ length (writes s h) → IsLegal s h
    → views_in role (caches_at (writes s h) (record { certificates = n; requests = n; secrets = n })) key ≡ present_views s h role key
views_of_all s h role key n all legal = views_up_to s h role key (λ kind. n) legal (λ kind informed. let low = last_low kind (writes s h) in omega (arith, low, all))
