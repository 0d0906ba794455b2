-- To which Certificate each version of an object belongs.
use Rattle.std.proofs.Common.{◌≡◌, ◌⊎◌, ◌+◌, ◌==◌, ℕ, ℤ, List, [], ◌∷◌, Option, Some, None, Bool, true, false, refl, sym, ap, subst, ◌∙◌, inl, inr}
use Rattle.std.specs.Prelude.{IfSome, codes}
use Rattle.std.specs.List.{list_any}
use Rattle.cmc_meta.specs.declared.key.Key.{Key}
use Rattle.cmc_meta.specs.declared.key.Kind.TheVariants as kinds
use Rattle.cmc_meta.specs.declared.object_meta.ObjectMeta.{ObjectMeta}
use Rattle.cmc_meta.specs.PairLists.{text_by_key}
use Rattle.cmc_objects.specs.declared.certificate.Certificate.{Certificate}
use Rattle.cmc_objects.specs.declared.request.CertificateRequest.{CertificateRequest}
use Rattle.cmc_objects.specs.declared.secret.Secret.{Secret as SecretObject}
use Rattle.cmc_objects.specs.declared.object.Object.{Object}
use Rattle.cmc_objects.specs.declared.object.Object.TheVariants.{Cert, Request, Secret}
use Rattle.cmc_objects.specs.declared.call.Call.{Call}
use Rattle.cmc_objects.specs.declared.call.Call.TheVariants.{Create, Update, UpdateStatus, Delete, Get}
use Rattle.cmc_objects.specs.declared.call.Reply.{Reply}
use Rattle.cmc_objects.specs.declared.entry.Entry.{Entry}
use Rattle.cmc_objects.specs.Objects.{key_of, name_of, numbered, numbered_meta}
use Rattle.cmc_pass.specs.declared.pass.Views.{Views}
use Rattle.cmc_model.specs.declared.write.Write.{Write}
use Rattle.cmc_model.specs.Objects.{object_at}
use Rattle.cmc_model.specs.Generated.{named, renamed, generated_name, free_from, free_named, has_number}
use Rattle.cmc_model.specs.Stored.{created, updated, with_status, revised, new_meta}
use Rattle.cmc_model.specs.Acceptance.{IsFounded}
use Rattle.cmc_model.specs.Replies.{IsReply, is_accepted, settled, stored, under_reply}
use Rattle.cmc_model.specs.Histories.{Setting, moment, state, objects, accepted}
use Rattle.cmc_model.specs.Versions.{IsVersion}
use Rattle.cmc_model.specs.Writes.{writes}
use Rattle.cmc_model.proofs.Accepting.{served_by}
use Rattle.cmc_model.proofs.Settling.{made_as}
use Rattle.cmc_rules.specs.Issuance.{new_target, old_target, secret_call}
use Rattle.cmc_rules.specs.Legality.{IsLegal}
use Rattle.cmc_rules.specs.Owners.{owned_meta, owner_of}
use Rattle.cmc_rules.specs.Rights.{KeepsMeta}
use Rattle.cmc_rules.specs.Views.{has_next_label, is_text_true}
use Rattle.cmc_rules.proofs.Sighted.{AreKnown, stands_as_seen}
use Rattle.cmc_rules.proofs.Sights.{seen_certificate, seen_secret}
use Rattle.cmc_rules.proofs.Versions.{stands_is_version, version_keyed}
use Rattle.cmc_load_laws.proofs.TargetWrites.{IsTargetWrite}
use Rattle.cmc_load_laws.specs.Loads.{Applies, IsFreeCertificate, HasFreeCertificates}
use Rattle.cmc_load_laws.proofs.MadeCalls.{IsMakingCall, IsOwnedMeta}
use Rattle.cmc_load_laws.proofs.PassCalls.{IsAccepted}
use Rattle.cmc_load_laws.proofs.RolesKeep.{IsLater}
use Rattle.cmc_load_laws.proofs.ScriptCalls.{IsScriptCall}

-- ---- belonging

-- the Certificate is a version of its key
abbrev pub IsCertificateIn : List Write → Certificate → Type 0
IsCertificateIn ws c = IsVersion (key_of (Cert c)) (Cert c) ws

-- made for a Certificate, which alone owns it, under a name that is generated
pub record IsMadeFor (ws : List Write) (m : ObjectMeta) : Type 0 where
  pub certificate : Certificate
  pub known : IsCertificateIn ws certificate
  pub namespace : m.namespace ≡ certificate.meta.namespace
  pub owners : m.owners ≡ owner_of certificate ∷ []
  pub number : ℕ
  pub name : m.name ≡ generated_name certificate.meta.name number

-- the Secret that a Certificate names, which nobody owns
pub record IsTargetOf (ws : List Write) (m : ObjectMeta) : Type 0 where
  pub certificate : Certificate
  pub known : IsCertificateIn ws certificate
  pub namespace : m.namespace ≡ certificate.meta.namespace
  pub name : m.name ≡ certificate.spec.secret_name
  pub owners : m.owners ≡ []

-- a Certificate names the Secret that one of its key names that was applied, and nobody owns it
pub record IsAsApplied (s : Setting) (c : Certificate) : Type 0 where
  pub applied : Certificate
  pub applies : Applies s (Cert applied)
  pub key : key_of (Cert applied) ≡ key_of (Cert c)
  pub secret : c.spec.secret_name ≡ applied.spec.secret_name
  pub owners : c.meta.owners ≡ []

-- a Secret is a next key by its label, or else a target
abbrev pub OfSecret : List Write → ObjectMeta → Type 0
OfSecret ws m = ((has_next_label m ≡ true) × IsMadeFor ws m) ⊎ ((has_next_label m ≡ false) × IsTargetOf ws m)

abbrev pub IsOf : Setting → List Write → Object → Type 0
IsOf s ws (Cert c) = IsAsApplied s c
IsOf s ws (Request r) = IsMadeFor ws r.meta
IsOf s ws (Secret k) = OfSecret ws k.meta

abbrev pub EachIsOf : Setting → List Write → Type 0
EachIsOf s ws = (key : Key) (o : Object) → IsVersion key o ws → IsOf s ws o

-- ---- over one write more

made_wider : (w : Write) (ws : List Write) (m : ObjectMeta) → IsMadeFor ws m → IsMadeFor (w ∷ ws) m
made_wider w ws m is = record { certificate = is.certificate; known = inr is.known; namespace = is.namespace; owners = is.owners; number = is.number; name = is.name }

target_wider : (w : Write) (ws : List Write) (m : ObjectMeta) → IsTargetOf ws m → IsTargetOf (w ∷ ws) m
target_wider w ws m is = record { certificate = is.certificate; known = inr is.known; namespace = is.namespace; name = is.name; owners = is.owners }

secret_wider : (w : Write) (ws : List Write) (m : ObjectMeta) → OfSecret ws m → OfSecret (w ∷ ws) m
secret_wider w ws m (inl is) = inl (is.0, made_wider w ws m is.1)
secret_wider w ws m (inr is) = inr (is.0, target_wider w ws m is.1)

wider : (s : Setting) (w : Write) (ws : List Write) (o : Object) → IsOf s ws o → IsOf s (w ∷ ws) o
wider s w ws (Cert c) is = is
wider s w ws (Request r) is = made_wider w ws r.meta is
wider s w ws (Secret k) is = secret_wider w ws k.meta is

pub more_of : (s : Setting) (w : Write) (ws : List Write) → IfSome w.object (IsOf s ws) → EachIsOf s ws → EachIsOf s (w ∷ ws)
more_of s w ws new each key o (inl here) = wider s w ws o (subst (λ (x : Option Object). IfSome x (IsOf s ws)) here.1 new)
more_of s w ws new each key o (inr there) = wider s w ws o (each key o there)

-- ---- metadata that says the same

record IsSameMeta (m n : ObjectMeta) : Type 0 where
  namespace : n.namespace ≡ m.namespace
  name : n.name ≡ m.name
  labels : n.labels ≡ m.labels
  owners : n.owners ≡ m.owners

made_same : (ws : List Write) (m n : ObjectMeta) → IsSameMeta m n → IsMadeFor ws m → IsMadeFor ws n
made_same ws m n same is = record {
  certificate = is.certificate;
  known = is.known;
  namespace = same.namespace ∙ is.namespace;
  owners = same.owners ∙ is.owners;
  number = is.number;
  name = same.name ∙ is.name;
}

target_same : (ws : List Write) (m n : ObjectMeta) → IsSameMeta m n → IsTargetOf ws m → IsTargetOf ws n
target_same ws m n same is =
    record { certificate = is.certificate; known = is.known; namespace = same.namespace ∙ is.namespace; name = same.name ∙ is.name; owners = same.owners ∙ is.owners }

label_same : (m n : ObjectMeta) → IsSameMeta m n → has_next_label n ≡ has_next_label m
label_same m n same = ap (λ (l : List (List ℕ × List ℕ)). is_text_true (text_by_key l (codes "cert-manager.io/next-private-key"))) same.labels

secret_same : (ws : List Write) (m n : ObjectMeta) → IsSameMeta m n → OfSecret ws m → OfSecret ws n
secret_same ws m n same (inl is) = inl (label_same m n same ∙ is.0, made_same ws m n same is.1)
secret_same ws m n same (inr is) = inr (label_same m n same ∙ is.0, target_same ws m n same is.1)

kept_meta : (m n : ObjectMeta) → KeepsMeta m n → IsSameMeta m n
kept_meta m n is = record {
  namespace = ap (λ (x : ObjectMeta). x.namespace) is;
  name = ap (λ (x : ObjectMeta). x.name) is;
  labels = ap (λ (x : ObjectMeta). x.labels) is;
  owners = ap (λ (x : ObjectMeta). x.owners) is;
}

pub request_kept : (ws : List Write) (m n : ObjectMeta) → KeepsMeta m n → IsMadeFor ws m → IsMadeFor ws n
request_kept ws m n kept is = made_same ws m n (kept_meta m n kept) is

pub certificate_kept : (s : Setting) (c d : Certificate) → IsLater c (Some (Cert d)) → IsAsApplied s c → IsAsApplied s d
certificate_kept s c d later is =
    let some : Some (Cert later.later) ≡ Some (Cert d) = sym later.is in
    let e : later.later ≡ d = cc some in
    let key : key_of (Cert c) ≡ key_of (Cert later.later) = λ i. record { kind = kinds.Certificate; namespace = later.same.namespace i; name = sym later.name i } in
    subst (IsAsApplied s) e
    (record { applied = is.applied; applies = is.applies; key = is.key ∙ key; secret = sym later.same.secret_name ∙ is.secret; owners = later.owners ∙ is.owners })

-- ---- what a user's call stores

of_applied : (s : Setting) (ws : List Write) (v : ℕ) (now : ℤ) (object : Object) → Applies s object → IsFreeCertificate object → IsOf s ws (created v now object)
unfolding created
of_applied s ws v now (Cert c) applies free = record { applied = c; applies = applies; key = refl; secret = refl; owners = free }
of_applied s ws v now (Request r) applies free = absurd free
of_applied s ws v now (Secret k) applies free = absurd free

of_updated : (s : Setting) (ws : List Write) (v : ℕ) (old object : Object) → Applies s object → IsFreeCertificate object → key_of old ≡ key_of object → IsOf s ws (revised v old object)
unfolding numbered updated
of_updated s ws v (Cert a) (Cert c) applies free same = record { applied = c; applies = applies; key = sym same; secret = refl; owners = free }
of_updated s ws v (Request r) (Cert c) applies free same = absurd (cc (ap (λ (k : Key). k.kind) same))
of_updated s ws v (Secret k) (Cert c) applies free same = absurd (cc (ap (λ (k : Key). k.kind) same))
of_updated s ws v old (Request r) applies free same = absurd free
of_updated s ws v old (Secret k) applies free same = absurd free

numbered_same : (v g : ℕ) (m : ObjectMeta) → IsSameMeta m (numbered_meta v g m)
numbered_same v g m = record { namespace = refl; name = refl; labels = refl; owners = refl }

numbered_of : (s : Setting) (ws : List Write) (v g : ℕ) (o : Object) → IsOf s ws o → IsOf s ws (numbered v g o)
unfolding numbered
numbered_of s ws v g (Cert c) is = record { applied = is.applied; applies = is.applies; key = is.key; secret = is.secret; owners = is.owners }
numbered_of s ws v g (Request r) is = made_same ws r.meta (numbered_meta v g r.meta) (numbered_same v g r.meta) is
numbered_of s ws v g (Secret k) is = secret_same ws k.meta (numbered_meta v g k.meta) (numbered_same v g k.meta) is

of_status : (s : Setting) (ws : List Write) (old object : Object) → IsOf s ws old → IsOf s ws (with_status old object)
unfolding with_status
of_status s ws (Cert c) (Cert d) is = record { applied = is.applied; applies = is.applies; key = is.key; secret = is.secret; owners = is.owners }
of_status s ws (Request r) (Request q) is = is
of_status s ws old other is = is

pub of_user : (s : Setting) (h : List Entry) (v : ℕ) (now : ℤ) (call : Call) → HasFreeCertificates s → IsLegal s h → EachIsOf s (writes s h) → IsScriptCall s call → IsFounded (objects s h) call
    → IfSome (stored v now (objects s h) call) (IsOf s (writes s h))
unfolding IsFounded
of_user s h v now (Create object false) load legal each script on = of_applied s (writes s h) v now object script (load.certificates object script)
of_user s h v now (Create object true) load legal each script on = absurd script
of_user s h v now (Update object named) load legal each script on =
    rw on.1 (of_updated s (writes s h) v on.0 object script (load.certificates object script) (version_keyed s h (key_of object) on.0 legal (stands_is_version s h (key_of object) on.0 on.1)))
of_user s h v now (UpdateStatus object named) load legal each script on =
    rw on.1 (numbered_of s (writes s h) v _ (with_status on.0 object) (of_status s (writes s h) on.0 object (each (key_of object) on.0 (stands_is_version s h (key_of object) on.0 on.1))))
of_user s h v now (Delete key named) load legal each script on = tt
of_user s h v now (Get key) load legal each script on = absurd on

-- ---- what key manager and request manager make

certificate_known : (s : Setting) (h : List Entry) (seen : Views) (c : Certificate) → IsLegal s h → AreKnown (writes s h) seen → seen.certificate ≡ Some c → IsCertificateIn (writes s h) c
certificate_known s h seen c legal known sees =
    let there = known (Cert c) (seen_certificate seen c sees) in
    subst (λ (k : Key). IsVersion k (Cert c) (writes s h)) (sym (version_keyed s h there.0 (Cert c) legal there.1)) there.1

made_for : (ws : List Write) (v : ℕ) (now : ℤ) (g : ℕ) (c : Certificate) (labels annotations : List (List ℕ × List ℕ)) (i : ℕ) → IsCertificateIn ws c
    → IsMadeFor ws (new_meta v now g (renamed (generated_name (owned_meta c labels annotations).name i) (owned_meta c labels annotations)))
unfolding owned_meta
made_for ws v now g c labels annotations i known = record { certificate = c; known = known; namespace = refl; owners = refl; number = i; name = refl }

made_new : (s : Setting) (h : List Entry) (seen : Views) (m : ObjectMeta) (v : ℕ) (now : ℤ) (g i : ℕ) → IsLegal s h → AreKnown (writes s h) seen → IsOwnedMeta seen m
    → IsMadeFor (writes s h) (new_meta v now g (renamed (generated_name m.name i) m))
made_new s h seen m v now g i legal known own =
    subst (λ (x : ObjectMeta). IsMadeFor (writes s h) (new_meta v now g (renamed (generated_name x.name i) x))) (sym own.is)
    (made_for (writes s h) v now g own.certificate own.labels own.annotations i (certificate_known s h seen own.certificate legal known own.sees))

of_key : (s : Setting) (h : List Entry) (seen : Views) (k : SecretObject) (v : ℕ) (now : ℤ) (i : ℕ) → IsLegal s h → AreKnown (writes s h) seen → IsOwnedMeta seen k.meta × (has_next_label k.meta ≡ true)
    → IsOf s (writes s h) (created v now (named (generated_name (name_of (Secret k)) i) (Secret k)))
unfolding created named
of_key s h seen k v now i legal known own = inl (own.1, made_new s h seen k.meta v now 0 i legal known own.0)

of_request : (s : Setting) (h : List Entry) (seen : Views) (r : CertificateRequest) (v : ℕ) (now : ℤ) (i : ℕ) → IsLegal s h → AreKnown (writes s h) seen → IsOwnedMeta seen r.meta
    → IsOf s (writes s h) (created v now (named (generated_name (name_of (Request r)) i) (Request r)))
unfolding created named
of_request s h seen r v now i legal known own = made_new s h seen r.meta v now 1 i legal known own

abbrev number_of : Setting → List Entry → Object → ℕ
number_of s h o = free_from (accepted s h + 1) (has_number (objects s h) o) (accepted s h + 1)

under_name : (s : Setting) (h : List Entry) (o : Object) (reply : Reply) → IsReply s.faults (state s h) (Create o true) reply → is_accepted reply ≡ true
    → under_reply o reply ≡ named (generated_name (name_of o) (number_of s h o)) o
unfolding free_named
under_name s h o reply right ok =
    made_as (accepted s h) (objects s h) o true reply (served_by (list_any (λ (n : ℕ). n == (state s h).calls + 1) s.faults) (state s h) (Create o true) reply right ok) ok

none_some : {X : Type 0} (x : Option Object) (o : Object) → x ≡ None → x ≡ Some o → X
none_some x o none some = absurd (let e : None ≡ Some o = sym none ∙ some in cc e)

pub of_making : (s : Setting) (h : List Entry) (seen : Views) (call : Call) (reply : Reply) (new : Option Object) → IsReply s.faults (state s h) call reply → IsAccepted s h seen call reply None new → IsMakingCall seen call
    → IfSome (stored (accepted s h + 1) (moment s h) (objects s h) (settled call reply)) (IsOf s (writes s h))
unfolding settled IsFounded
of_making s h seen (Create (Secret k) true) reply new right a makes =
    subst (λ (o : Object). IsOf s (writes s h) (created (accepted s h + 1) (moment s h) o)) (sym (under_name s h (Secret k) reply right a.ok))
    (of_key s h seen k (accepted s h + 1) (moment s h) (number_of s h (Secret k)) a.legal a.known makes)
of_making s h seen (Create (Request r) true) reply new right a makes =
    subst (λ (o : Object). IsOf s (writes s h) (created (accepted s h + 1) (moment s h) o)) (sym (under_name s h (Request r) reply right a.ok))
    (of_request s h seen r (accepted s h + 1) (moment s h) (number_of s h (Request r)) a.legal a.known makes)
of_making s h seen (Create (Cert c) true) reply new right a makes = absurd makes
of_making s h seen (Create (Cert c) false) reply new right a makes = absurd makes
of_making s h seen (Create (Request r) false) reply new right a makes = absurd makes
of_making s h seen (Create (Secret k) false) reply new right a makes = absurd makes
of_making s h seen (Update object named) reply new right a makes = none_some (object_at (objects s h) (key_of object)) a.founded.0 a.was a.founded.1
of_making s h seen (UpdateStatus object named) reply new right a makes = none_some (object_at (objects s h) (key_of object)) a.founded.0 a.was a.founded.1
of_making s h seen (Delete key named) reply new right a makes = tt
of_making s h seen (Get key) reply new right a makes = absurd a.founded

-- ---- what issuing writes

of_new_target : (s : Setting) (h : List Entry) (v : ℕ) (now : ℤ) (stand_in : Bool) (c : Certificate) (key signed ca : List ℕ) → IsCertificateIn (writes s h) c
    → IsOf s (writes s h) (created v now (Secret (new_target stand_in c key signed ca)))
unfolding created new_target
of_new_target s h v now stand_in c key signed ca known = inr (refl, record { certificate = c; known = known; namespace = refl; name = refl; owners = refl })

of_old_target : (s : Setting) (h : List Entry) (v : ℕ) (stand_in : Bool) (c : Certificate) (key signed ca : List ℕ) (k : SecretObject) → IsOf s (writes s h) (Secret k)
    → IsOf s (writes s h) (revised v (Secret k) (Secret (old_target stand_in c key signed ca k)))
unfolding numbered updated old_target
of_old_target s h v stand_in c key signed ca k is = secret_same (writes s h) k.meta _ (record { namespace = refl; name = refl; labels = refl; owners = refl }) is

of_target_by : (s : Setting) (h : List Entry) (seen : Views) (reply : Reply) (stand_in : Bool) (c : Certificate) (key signed ca : List ℕ) (target : Option SecretObject) → IsLegal s h → AreKnown (writes s h) seen
    → EachIsOf s (writes s h) → seen.certificate ≡ Some c → seen.secret ≡ target → IsFounded (objects s h) (settled (secret_call stand_in c key signed ca target) reply)
    → IfSome (stored (accepted s h + 1) (moment s h) (objects s h) (settled (secret_call stand_in c key signed ca target) reply)) (IsOf s (writes s h))
unfolding settled secret_call IsFounded
of_target_by s h seen reply stand_in c key signed ca None legal known each sees target on =
    of_new_target s h (accepted s h + 1) (moment s h) stand_in c key signed ca (certificate_known s h seen c legal known sees)
of_target_by s h seen reply stand_in c key signed ca (Some k) legal known each sees target on =
    let place : Key = key_of (Secret (old_target stand_in c key signed ca k)) in
    let same : Secret k ≡ on.0 = stands_as_seen s h seen place k.meta.version (Secret k) on.0 legal known (seen_secret seen k target) refl on.1 on.2.version in
    let there : object_at (objects s h) place ≡ Some (Secret k) = on.1 ∙ ap Some (sym same) in
    rw there (of_old_target s h (accepted s h + 1) stand_in c key signed ca k (each place (Secret k) (stands_is_version s h place (Secret k) there)))

pub of_target : (s : Setting) (h : List Entry) (seen : Views) (call : Call) (reply : Reply) (old new : Option Object) → EachIsOf s (writes s h) → IsAccepted s h seen call reply old new → IsTargetWrite seen call
    → IfSome (stored (accepted s h + 1) (moment s h) (objects s h) (settled call reply)) (IsOf s (writes s h))
of_target s h seen call reply old new each a w =
    subst (λ (x : Call). IfSome (stored (accepted s h + 1) (moment s h) (objects s h) (settled x reply)) (IsOf s (writes s h))) (sym w.is)
    (of_target_by s h seen reply w.stand_in w.certificate w.key w.signed w.ca seen.secret a.legal a.known each w.sees refl (subst (λ (x : Call). IsFounded (objects s h) (settled x reply)) w.is a.founded))
