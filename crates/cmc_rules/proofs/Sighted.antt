-- What passes saw are versions, and what an accepted call was made for stood under its key.
use Rattle.std.proofs.Common.{◌≡◌, ◌==◌, ◌⊎◌, ◌&&◌, ℕ, ◌+◌, List, [], ◌∷◌, Option, Some, None, Bool, true, false, cond, T, refl, sym, ap, subst, ◌∙◌, inl, inr, arith, filter_map, option_and_then, Ordering, Less, Equal, Greater}
use Rattle.std.specs.Prelude.{if◌then◌else◌, IfSome}
use Rattle.std.specs.List.{cons_option}
use Rattle.std.specs.FinMap as map
use Rattle.std.specs.FinMap.{get-entries}
use Rattle.std.specs.FinMap.Entries.{find, is_sorted, below_all}
use Rattle.std.specs.Ordering.{is_lt, is_eq, ordering_reverse, eq_by_cmp}
use Rattle.std.proofs.lemmas.Cmp.{eq_by_cmp_equiv}
use Rattle.cmc_meta.specs.declared.key.Key.{Key}
use Rattle.cmc_meta.specs.declared.key.Kind.TheVariants as kinds
use Rattle.cmc_meta.specs.Keys.{key_cmp}
use Rattle.cmc_objects.specs.declared.certificate.Certificate.{Certificate}
use Rattle.cmc_objects.specs.declared.request.CertificateRequest.{CertificateRequest}
use Rattle.cmc_objects.specs.declared.secret.Secret.{Secret as SecretObject}
use Rattle.cmc_objects.specs.declared.object.Object.{Object}
use Rattle.cmc_objects.specs.declared.object.Object.TheVariants.{Cert, Request, Secret}
use Rattle.cmc_objects.specs.declared.call.Call.{Call}
use Rattle.cmc_objects.specs.declared.call.Call.TheVariants.{Create, Update, UpdateStatus, Delete, Get}
use Rattle.cmc_objects.specs.declared.role.Role.{Role}
use Rattle.cmc_objects.specs.declared.entry.Entry.{Entry}
use Rattle.cmc_objects.specs.declared.entry.Entry.TheVariants.{Call as Called, Begin, Ask, Made, Signed, Answered, Judged, End, Stop}
use Rattle.cmc_objects.specs.Objects.{key_of, version_of}
use Rattle.cmc_pass.specs.declared.pass.Views.{Views}
use Rattle.cmc_pass.specs.declared.value.Value.TheVariants as values
use Rattle.cmc_model.specs.declared.write.Write.{Write}
use Rattle.cmc_rules.specs.declared.progress.OpenPass.{OpenPass}
use Rattle.cmc_model.specs.Objects.{Objects, object_at}
use Rattle.cmc_model.specs.Stored.{revised, restated}
use Rattle.cmc_objects.specs.declared.call.Reply.{Reply}
use Rattle.cmc_objects.specs.declared.call.Reply.TheVariants.{Ok, Unchanged, Found, Conflict, NotFound, AlreadyExists, Invalid, Unavailable}
use Rattle.cmc_model.specs.Generated.{named}
use Rattle.cmc_model.specs.Replies.{is_accepted, under_reply, settled}
use Rattle.cmc_model.proofs.Writing.{IsCallOf}
use Rattle.cmc_model.specs.Acceptance.{IsFounded}
use Rattle.cmc_model.specs.Histories.{Setting, moment, state, objects, accepted}
use Rattle.cmc_model.specs.Writes.{writes, write_of}
use Rattle.cmc_objects.specs.Informers.{works_on_requests, looks_at_secret, looks_at_next, looks_at_requests}
use Rattle.cmc_rules.specs.Views.{Caches, caches, certificate_in, request_in, secret_in, certificate_at, request_at, target_at, is_owned, has_next_label, next_in, owned_in, next_of, requests_of, of_certificate, views_of, views_in, views}
use Rattle.cmc_rules.specs.Passes.{open_pass, called, new_pass, stage_after}
use Rattle.cmc_rules.specs.Legality.{IsLegal}
use Rattle.cmc_model.specs.Versions.{IsVersion, HasVersion}
use Rattle.cmc_rules.specs.SeenObjects.{IsAmong, IsPart, IsPartOf, IsSeen, ForNone, OnSeen}
use Rattle.cmc_meta.proofs.KeyOrder.{key_cmp-total}
use Rattle.cmc_model.proofs.Versions.{IsLawful, lawful_object, versions_low}
use Rattle.cmc_rules.proofs.Versions.{lawful, stands_is_version}
use Rattle.cmc_rules.proofs.Seen.{seen_is_version}
use Rattle.cmc_rules.proofs.Carrying.{over_call, over_ask, over_given, over_begin, over_end, over_stop}

-- ---- one object for a version

one_object : (ws : List Write) (j k : Key) (o p : Object) → IsLawful ws → IsVersion j o ws → IsVersion k p ws → version_of o ≡ version_of p → o ≡ p
one_object [] j k o p law a b same = absurd a
one_object (w ∷ ws) j k o p law (inl a) (inl b) same = let some : Some o ≡ Some p = sym a.1 ∙ b.1 in cc some
one_object (w ∷ ws) j k o p law (inl a) (inr b) same = absurd (omega (arith, (lawful_object w ws o law a.1).0, versions_low ws k p law.1 b, same))
one_object (w ∷ ws) j k o p law (inr a) (inl b) same = absurd (omega (arith, (lawful_object w ws p law b.1).0, versions_low ws j o law.1 a, same))
one_object (w ∷ ws) j k o p law (inr a) (inr b) same = one_object ws j k o p law.1 a b same

-- no two objects have one version, under one key or under two
pub version_has_one_object : (s : Setting) (h : List Entry) (j k : Key) (o p : Object) → IsLegal s h → HasVersion s h j o → HasVersion s h k p
    → version_of o ≡ version_of p → o ≡ p
version_has_one_object s h j k o p legal a b same = one_object (writes s h) j k o p (lawful s h legal) a b same

-- ---- what is seen is known

-- some write stored it
abbrev pub IsStored : List Write → Object → Type 0
IsStored ws o = (key : Key) × IsVersion key o ws

abbrev pub AreKnown : List Write → Views → Type 0
AreKnown ws seen = (o : Object) → IsSeen seen o → IsStored ws o

known_more : (b : Bool) (w : Write) (ws : List Write) (seen : Views) → AreKnown ws seen → AreKnown (if b then w ∷ ws else ws) seen
known_more true w ws seen known o is = let there = known o is in (there.0, inr there.1)
known_more false w ws seen known o is = known o is

-- an entry of a map stands in it
above : (x : Key) (es : List (Key × Object)) (e : Key × Object) → T (below_all key_cmp x es) → IsAmong e es → T (is_lt (key_cmp x e.0))
above x [] e low is = absurd is
above x (d ∷ es) e low (inl is) = subst (λ (f : Key × Object). T (is_lt (key_cmp x f.0))) is (left (is_lt (key_cmp x d.0)) (below_all key_cmp x es) low) where
  left : (a b : Bool) → T (a && b) → T a
  left true b h = tt
  left false b h = h
above x (d ∷ es) e low (inr is) = above x es e (right (is_lt (key_cmp x d.0)) (below_all key_cmp x es) low) is where
  right : (a b : Bool) → T (a && b) → T b
  right true b h = h
  right false b h = absurd h

both_of : (a b : Bool) → T (a && b) → T a × T b
both_of true b h = (tt, h)
both_of false b h = absurd h

apart : (r q : Ordering) → q ≡ ordering_reverse r → T (is_lt r) → is_eq q ≡ false
apart Less q e h = ap is_eq e
apart Equal q e h = absurd h
apart Greater q e h = absurd h

found_among : (es : List (Key × Object)) (e : Key × Object) → T (is_sorted key_cmp es) → IsAmong e es → find key_cmp e.0 es ≡ Some e.1
found_among [] e sorted is = absurd is
found_among (d ∷ es) e sorted (inl is) =
    let tie : eq_by_cmp key_cmp d.0 d.0 ≡ true = (eq_by_cmp_equiv key_cmp-total).refl d.0 in
    subst (λ (f : Key × Object). cond (eq_by_cmp key_cmp f.0 d.0) (Some d.1) (find key_cmp f.0 es) ≡ Some f.1) is (ap (λ (b : Bool). cond b (Some d.1) (find key_cmp d.0 es)) tie)
found_among (d ∷ es) e sorted (inr is) =
    let parts = both_of (below_all key_cmp d.0 es) (is_sorted key_cmp es) sorted in
    let off : eq_by_cmp key_cmp e.0 d.0 ≡ false = apart (key_cmp d.0 e.0) (key_cmp e.0 d.0) (key_cmp-total.antisymm e.0 d.0) (above d.0 es e parts.0 is) in
    ap (λ (b : Bool). cond b (Some d.1) (find key_cmp e.0 es)) off ∙ found_among es e parts.1 is

pub stands_among : (m : Objects) (e : Key × Object) → IsAmong e (map.entries m) → object_at m e.0 ≡ Some e.1
stands_among m e is = get-entries m e.0 ∙ found_among (map.entries m) e (map.entries_sorted m) is

-- what a filter keeps comes from an item
picked_by : {B : Type 0} (r : Option B) (rest : List B) (y : B) → IsAmong y (cons_option r rest) → (r ≡ Some y) ⊎ IsAmong y rest
picked_by None rest y is = inr is
picked_by (Some x) rest y (inl is) = inl (ap Some is)
picked_by (Some x) rest y (inr is) = inr is

abbrev pub IsPicked : {A B : Type 0} → (A → Option B) → List A → B → Type 0
IsPicked {A} f xs y = (x : A) × IsAmong x xs × (f x ≡ Some y)

picked_more : {A B : Type 0} (f : A → Option B) (x : A) (xs : List A) (y : B) → IsPicked f xs y → IsPicked f (x ∷ xs) y
picked_more f x xs y p = (p.0, inr p.1, p.2)

picked_from : {A B : Type 0} (f : A → Option B) (x : A) (xs : List A) (y : B) → (IsAmong y (filter_map f xs) → IsPicked f xs y)
    → (f x ≡ Some y) ⊎ IsAmong y (filter_map f xs) → IsPicked f (x ∷ xs) y
picked_from f x xs y below (inl here) = (x, inl refl, here)
picked_from f x xs y below (inr there) = picked_more f x xs y (below there)

pub picked : {A B : Type 0} (f : A → Option B) (xs : List A) (y : B) → IsAmong y (filter_map f xs) → IsPicked f xs y
picked f [] y is = absurd is
picked f (x ∷ xs) y is = picked_from f x xs y (picked f xs y) (picked_by (f x) (filter_map f xs) y is)

-- ---- the parts of views

part_among : {A : Type 0} (kind : A → Object) (xs : List A) (o : Object) → IsPartOf kind xs o → (a : A) × IsAmong a xs × (o ≡ kind a)
part_among kind [] o is = absurd is
part_among kind (x ∷ xs) o (inl is) = (x, inl refl, is)
part_among kind (x ∷ xs) o (inr is) = let later = part_among kind xs o is in (later.0, inr later.1, later.2)

cert_there : (x : Option Object) (o : Object) → IsPart Cert (option_and_then certificate_in x) o → x ≡ Some o
cert_there None o is = absurd is
cert_there (Some (Cert c)) o is = ap Some (sym is)
cert_there (Some (Request r)) o is = absurd is
cert_there (Some (Secret k)) o is = absurd is

request_there : (x : Option Object) (o : Object) → IsPart Request (option_and_then request_in x) o → x ≡ Some o
request_there None o is = absurd is
request_there (Some (Cert c)) o is = absurd is
request_there (Some (Request r)) o is = ap Some (sym is)
request_there (Some (Secret k)) o is = absurd is

secret_there : (x : Option Object) (o : Object) → IsPart Secret (option_and_then secret_in x) o → x ≡ Some o
secret_there None o is = absurd is
secret_there (Some (Cert c)) o is = absurd is
secret_there (Some (Request r)) o is = absurd is
secret_there (Some (Secret k)) o is = ap Some (sym is)

next_there : (c : Certificate) (o : Object) (k : SecretObject) → next_in c o ≡ Some k → o ≡ Secret k
next_there c (Cert d) k is = absurd (cc is)
next_there c (Request r) k is = absurd (cc is)
next_there c (Secret j) k is = by (has_next_label j.meta && is_owned c j.meta) is where
  by : (b : Bool) → (if b then Some j else None) ≡ Some k → Secret j ≡ Secret k
  by true is = cc is
  by false is = absurd (cc is)

owned_there : (c : Certificate) (o : Object) (r : CertificateRequest) → owned_in c o ≡ Some r → o ≡ Request r
owned_there c (Cert d) r is = absurd (cc is)
owned_there c (Secret j) r is = absurd (cc is)
owned_there c (Request q) r is = by (is_owned c q.meta) is where
  by : (b : Bool) → (if b then Some q else None) ≡ Some r → Request q ≡ Request r
  by true is = cc is
  by false is = absurd (cc is)

-- every object under a key of this cache is known
abbrev IsKnownCache : List Write → Objects → Type 0
IsKnownCache ws m = (key : Key) (o : Object) → object_at m key ≡ Some o → IsStored ws o

pub record AreKnownCaches (ws : List Write) (c : Caches) : Type 0 where
  pub certificates : IsKnownCache ws c.certificates
  pub requests : IsKnownCache ws c.requests
  pub secrets : IsKnownCache ws c.secrets

known_cert : (ws : List Write) (m : Objects) (key : Key) (none : Bool) (o : Object) → IsKnownCache ws m → IsPart Cert (if none then None else certificate_at m key) o → IsStored ws o
known_cert ws m key true o known is = absurd is
known_cert ws m key false o known is = known key o (cert_there (object_at m key) o is)

known_request : (ws : List Write) (m : Objects) (key : Key) (some : Bool) (o : Object) → IsKnownCache ws m → IsPart Request (if some then request_at m key else None) o → IsStored ws o
known_request ws m key true o known is = known key o (request_there (object_at m key) o is)
known_request ws m key false o known is = absurd is

known_target : (ws : List Write) (m : Objects) (looks : Bool) (c : Option Certificate) (o : Object) → IsKnownCache ws m → IsPart Secret (if looks then option_and_then (target_at m) c else None) o → IsStored ws o
known_target ws m false c o known is = absurd is
known_target ws m true None o known is = absurd is
known_target ws m true (Some c) o known is =
    let key : Key = record { kind = kinds.Secret; namespace = c.meta.namespace; name = c.spec.secret_name } in
    known key o (secret_there (object_at m key) o is)

known_among : {A : Type 0} (ws : List Write) (m : Objects) (kind : A → Object) (f : Object → Option A) (o : Object) → IsKnownCache ws m
    → ((x : Object) (a : A) → f x ≡ Some a → x ≡ kind a) → IsPartOf kind (filter_map (λ (e : Key × Object). f e.1) (map.entries m)) o → IsStored ws o
known_among ws m kind f o known there is =
    let part = part_among kind (filter_map (λ (e : Key × Object). f e.1) (map.entries m)) o is in
    let p = picked (λ (e : Key × Object). f e.1) (map.entries m) part.0 part.1 in
    subst (IsStored ws) (sym part.2) (known p.0.0 (kind part.0) (stands_among m p.0 p.1 ∙ ap Some (there p.0.1 part.0 p.2)))

known_next : (ws : List Write) (m : Objects) (looks : Bool) (c : Option Certificate) (o : Object) → IsKnownCache ws m → IsPartOf Secret (if looks then of_certificate (next_of m) c else []) o → IsStored ws o
known_next ws m false c o known is = absurd is
known_next ws m true None o known is = absurd is
known_next ws m true (Some c) o known is = known_among ws m Secret (next_in c) o known (next_there c) is

known_owned : (ws : List Write) (m : Objects) (looks : Bool) (c : Option Certificate) (o : Object) → IsKnownCache ws m → IsPartOf Request (if looks then of_certificate (requests_of m) c else []) o → IsStored ws o
known_owned ws m false c o known is = absurd is
known_owned ws m true None o known is = absurd is
known_owned ws m true (Some c) o known is = known_among ws m Request (owned_in c) o known (owned_there c) is

known_views : (ws : List Write) (role : Role) (c : Caches) (key : Key) → AreKnownCaches ws c → AreKnown ws (views_in role c key)
unfolding views_in views_of
known_views ws role c key known o (inl is) = known_cert ws c.certificates key (works_on_requests role) o known.certificates is
known_views ws role c key known o (inr (inl is)) =
    known_target ws c.secrets (looks_at_secret role) (if works_on_requests role then None else certificate_at c.certificates key) o known.secrets is
known_views ws role c key known o (inr (inr (inl is))) = known_request ws c.requests key (works_on_requests role) o known.requests is
known_views ws role c key known o (inr (inr (inr (inl is)))) =
    known_next ws c.secrets (looks_at_next role) (if works_on_requests role then None else certificate_at c.certificates key) o known.secrets is
known_views ws role c key known o (inr (inr (inr (inr is)))) =
    known_owned ws c.requests (looks_at_requests role) (if works_on_requests role then None else certificate_at c.certificates key) o known.requests is

-- all that a role sees was stored by a write
pub views_known : (s : Setting) (h : List Entry) (role : Role) (key : Key) → AreKnown (writes s h) (views s h role key)
views_known s h role key = known_views (writes s h) role (caches s h role) key (record {
  certificates = λ k o is. (k, seen_is_version s h role kinds.Certificate k o is);
  requests = λ k o is. (k, seen_is_version s h role kinds.CertificateRequest k o is);
  secrets = λ k o is. (k, seen_is_version s h role kinds.Secret k o is);
})

-- ---- what open passes saw

abbrev pub SawKnown : List Write → OpenPass → Type 0
SawKnown ws p = AreKnown ws p.seen

saw_more : (b : Bool) (w : Write) (ws : List Write) (p : Option OpenPass) → IfSome p (SawKnown ws) → IfSome p (SawKnown (if b then w ∷ ws else ws))
saw_more b w ws None known = tt
saw_more b w ws (Some p) known = known_more b w ws p.seen known

pub saw_known : (s : Setting) (h : List Entry) (n : ℕ) → IfSome (open_pass s h n) (SawKnown (writes s h))
saw_known s [] n = tt
saw_known s (Called who call reply ∷ h) n =
    saw_more (is_accepted reply) (write_of (moment s h) (state s h) (settled call reply)) (writes s h) (called n who (stage_after s h call reply) (open_pass s h n))
    (over_call (SawKnown (writes s h)) n who (stage_after s h call reply) (open_pass s h n) (λ p known. known) (saw_known s h n))
saw_known s (Begin pass role key at now ∷ h) n =
    over_begin (SawKnown (writes s h)) (n == pass) (new_pass role key (views s h role key) now) (open_pass s h n) (views_known s h role key) (saw_known s h n)
saw_known s (Ask pass order ∷ h) n = over_ask (SawKnown (writes s h)) n pass order (open_pass s h n) (λ p known. known) (saw_known s h n)
saw_known s (Made pass key ∷ h) n = over_given (SawKnown (writes s h)) n pass (values.Made key) (open_pass s h n) (λ p known. known) (saw_known s h n)
saw_known s (Signed pass signature ∷ h) n = over_given (SawKnown (writes s h)) n pass (values.Signed signature) (open_pass s h n) (λ p known. known) (saw_known s h n)
saw_known s (Answered pass answer ∷ h) n = over_given (SawKnown (writes s h)) n pass (values.Answered answer) (open_pass s h n) (λ p known. known) (saw_known s h n)
saw_known s (Judged pass approved ∷ h) n = over_given (SawKnown (writes s h)) n pass (values.Judged approved) (open_pass s h n) (λ p known. known) (saw_known s h n)
saw_known s (End pass cause ∷ h) n = over_end (SawKnown (writes s h)) (n == pass) (open_pass s h n) (saw_known s h n)
saw_known s (Stop role ∷ h) n = over_stop (SawKnown (writes s h)) role (open_pass s h n) (saw_known s h n)
saw_known s (other ∷ h) n = saw_known s h n

-- ---- what an accepted call was made for

-- the object that was seen is the one that stands
pub stands_as_seen : (s : Setting) (h : List Entry) (seen : Views) (key : Key) (named : ℕ) (old stood : Object) → IsLegal s h → AreKnown (writes s h) seen → IsSeen seen old → version_of old ≡ named
    → object_at (objects s h) key ≡ Some stood → version_of stood ≡ named → old ≡ stood
stands_as_seen s h seen key named old stood legal known is version there same =
    let stored = known old is in
    version_has_one_object s h stored.0 key old stood legal stored.1 (stands_is_version s h key stood there) (version ∙ sym same)

under_any : (P : Option Object → Option Object → Type 0) (object : Object) (reply : Reply) → is_accepted reply ≡ true → ((name : List ℕ) → ForNone P (named name object)) → ForNone P (under_reply object reply)
under_any P object (Ok version name) ok on = on name
under_any P object (Unchanged version) ok on = absurd (cc ok)
under_any P object (Found other) ok on = absurd (cc ok)
under_any P object (Conflict named have) ok on = absurd (cc ok)
under_any P object (NotFound at) ok on = absurd (cc ok)
under_any P object (AlreadyExists have) ok on = absurd (cc ok)
under_any P object (Invalid rule) ok on = absurd (cc ok)
under_any P object (Unavailable number) ok on = absurd (cc ok)

-- one lemma for the writes of all roles: what P holds of what was seen and what the call leaves, it holds of what stands and what is stored
pub as_seen : (P : Option Object → Option Object → Type 0) (s : Setting) (h : List Entry) (seen : Views) (call : Call) (reply : Reply) → IsLegal s h → AreKnown (writes s h) seen
    → is_accepted reply ≡ true → IsFounded (objects s h) (settled call reply) → OnSeen P seen call → IsCallOf P s h (settled call reply)
unfolding OnSeen IsFounded settled
as_seen P s h seen (Create object false) reply legal known ok is on = rw is.0 (on.makes (accepted s h + 1) (moment s h))
as_seen P s h seen (Create object true) reply legal known ok is on = rw is.0 ((under_any P object reply ok on).makes (accepted s h + 1) (moment s h))
as_seen P s h seen (Update object named) reply legal known ok is on =
    let same = stands_as_seen s h seen (key_of object) named on.old is.0 legal known on.sees on.version is.1 is.2.version in
    rw is.1 (subst (λ (o : Object). P (Some o) (Some (revised (accepted s h + 1) o object))) same (on.changes (accepted s h + 1)))
as_seen P s h seen (UpdateStatus object named) reply legal known ok is on =
    let same = stands_as_seen s h seen (key_of object) named on.old is.0 legal known on.sees on.version is.1 is.2.version in
    rw is.1 (subst (λ (o : Object). P (Some o) (Some (restated (accepted s h + 1) o object))) same (on.changes (accepted s h + 1)))
as_seen P s h seen (Delete key None) reply legal known ok is on = absurd on
as_seen P s h seen (Delete key (Some named)) reply legal known ok is on =
    let same = stands_as_seen s h seen key named on.old is.0 legal known on.sees on.version is.1 is.2 in
    rw is.1 (subst (λ (o : Object). P (Some o) None) same (on.changes (accepted s h + 1)))
as_seen P s h seen (Get key) reply legal known ok is on = absurd on
