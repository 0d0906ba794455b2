-- What a role sees is well seen: parts stand under their names, with their labels and owners, and as the store admits them.
use Rattle.std.proofs.Common.{◌≡◌, ◌==◌, ◌&&◌, ℕ, List, [], ◌∷◌, Option, Some, None, Bool, true, false, refl, ap, subst, ◌∙◌, option_and_then}
use Rattle.std.specs.Prelude.{if◌then◌else◌, IfSome}
use Rattle.std.specs.FinMap as map
use Rattle.std.proofs.lemmas.Bool.{and_parts}
use Rattle.cmc_meta.specs.declared.key.Key.{Key}
use Rattle.cmc_meta.specs.declared.key.Kind.TheVariants as kinds
use Rattle.cmc_objects.specs.declared.certificate.Certificate.{Certificate}
use Rattle.cmc_objects.specs.declared.request.CertificateRequest.{CertificateRequest}
use Rattle.cmc_objects.specs.declared.secret.Secret.{Secret as SecretObject}
use Rattle.cmc_objects.specs.declared.object.Object.{Object}
use Rattle.cmc_objects.specs.declared.object.Object.TheVariants.{Cert, Request, Secret}
use Rattle.cmc_objects.specs.declared.role.Role.{Role}
use Rattle.cmc_objects.specs.declared.entry.Entry.{Entry}
use Rattle.cmc_objects.specs.declared.entry.Entry.TheVariants.{Call as Called, Begin, Ask, Made, Signed, Answered, Judged, End, Stop}
use Rattle.cmc_objects.specs.Objects.{key_of}
use Rattle.cmc_pass.specs.declared.pass.Views.{Views}
use Rattle.cmc_pass.specs.declared.value.Value.TheVariants as values
use Rattle.cmc_model.specs.declared.write.Write.{Write}
use Rattle.cmc_model.specs.Objects.{Objects, object_at}
use Rattle.cmc_model.specs.Histories.{Setting}
use Rattle.cmc_model.specs.Writes.{writes}
use Rattle.cmc_rules.specs.declared.progress.OpenPass.{OpenPass}
use Rattle.cmc_rules.specs.Admitted.{MeetsRules}
use Rattle.cmc_objects.specs.Informers.{works_on_requests, looks_at_secret, looks_at_next, looks_at_requests}
use Rattle.cmc_rules.specs.Views.{Caches, caches, secret_in, certificate_at, target_at, is_owned, has_next_label, next_in, owned_in, next_of, requests_of, of_certificate, views_of, views_in, views}
use Rattle.cmc_rules.specs.Passes.{open_pass, new_pass, stage_after}
use Rattle.cmc_rules.specs.Legality.{IsLegal}
use Rattle.cmc_rules.specs.SeenObjects.{IsAmong, IsSeen, IsWellSeen}
use Rattle.cmc_rules.proofs.Admitted.{versions_meet}
use Rattle.cmc_rules.proofs.Carrying.{over_call, over_ask, over_given, over_begin, over_end, over_stop}
use Rattle.cmc_rules.proofs.Seen.{seen_is_version}
use Rattle.cmc_rules.proofs.Sighted.{AreKnown, SawKnown, picked, saw_known, views_known}
use Rattle.cmc_rules.proofs.Versions.{version_keyed}

-- a part of a Certificate is one of the Certificate that there is
pub record IsPartOfOne {A : Type 0} (f : Certificate → List A) (x : Option Certificate) (y : A) : Type 0 where
  pub certificate : Certificate
  pub there : x ≡ Some certificate
  pub among : IsAmong y (f certificate)

part_of : {A : Type 0} (f : Certificate → List A) (looks : Bool) (x : Option Certificate) (y : A) → IsAmong y (if looks then of_certificate f x else []) → IsPartOfOne f x y
part_of f false x y among = absurd among
part_of f true None y among = absurd among
part_of f true (Some c) y among = record { certificate = c; there = refl; among = among }

-- and so of this one
has_of : {A : Type 0} (f : Certificate → List A) (looks : Bool) (x : Option Certificate) (c : Certificate) (y : A) → x ≡ Some c → IsAmong y (if looks then of_certificate f x else []) → IsAmong y (f c)
has_of f false x c y is among = absurd among
has_of f true None c y is among = absurd (cc is)
has_of f true (Some d) c y is among = subst (λ (e : Certificate). IsAmong y (f e)) (let one : d ≡ c = cc is in one) among

next_fits : (c : Certificate) (o : Object) (k : SecretObject) → next_in c o ≡ Some k → (has_next_label k.meta ≡ true) × (is_owned c k.meta ≡ true)
next_fits c (Cert d) k is = absurd (cc is)
next_fits c (Request r) k is = absurd (cc is)
next_fits c (Secret j) k is = by (has_next_label j.meta && is_owned c j.meta) refl is where
  by : (b : Bool) → (has_next_label j.meta && is_owned c j.meta) ≡ b → (if b then Some j else None) ≡ Some k → (has_next_label k.meta ≡ true) × (is_owned c k.meta ≡ true)
  by true e is = let one : j ≡ k = cc is in let parts = and_parts (has_next_label j.meta) (is_owned c j.meta) e in subst (λ (i : SecretObject). (has_next_label i.meta ≡ true) × (is_owned c i.meta ≡ true)) one (parts.0, parts.1)
  by false e is = absurd (cc is)

owned_fits : (c : Certificate) (o : Object) (r : CertificateRequest) → owned_in c o ≡ Some r → is_owned c r.meta ≡ true
owned_fits c (Cert d) r is = absurd (cc is)
owned_fits c (Secret j) r is = absurd (cc is)
owned_fits c (Request q) r is = by (is_owned c q.meta) refl is where
  by : (b : Bool) → is_owned c q.meta ≡ b → (if b then Some q else None) ≡ Some r → is_owned c r.meta ≡ true
  by true e is = let one : q ≡ r = cc is in subst (λ (i : CertificateRequest). is_owned c i.meta ≡ true) one e
  by false e is = absurd (cc is)

secret_is : (x : Option Object) (k : SecretObject) → option_and_then secret_in x ≡ Some k → x ≡ Some (Secret k)
secret_is None k is = absurd (cc is)
secret_is (Some (Cert c)) k is = absurd (cc is)
secret_is (Some (Request r)) k is = absurd (cc is)
secret_is (Some (Secret j)) k is = let one : j ≡ k = cc is in ap (λ (i : SecretObject). Some (Secret i)) one

-- an object of this cache stands under its own key
abbrev IsKeyedCache : Objects → Type 0
IsKeyedCache m = (key : Key) (o : Object) → object_at m key ≡ Some o → key_of o ≡ key

target_is : (m : Objects) (looks : Bool) (x : Option Certificate) (c : Certificate) (k : SecretObject) → IsKeyedCache m → x ≡ Some c → (if looks then option_and_then (target_at m) x else None) ≡ Some k
    → (k.meta.namespace ≡ c.meta.namespace) × (k.meta.name ≡ c.spec.secret_name)
target_is m false x c k keyed is sees = absurd (cc sees)
target_is m true None c k keyed is sees = absurd (cc is)
target_is m true (Some d) c k keyed is sees =
    let one : d ≡ c = cc is in
    let key : Key = record { kind = kinds.Secret; namespace = d.meta.namespace; name = d.spec.secret_name } in
    let own : key_of (Secret k) ≡ key = keyed key (Secret k) (secret_is (object_at m key) k sees) in
    (ap (λ (q : Key). q.namespace) own ∙ ap (λ (e : Certificate). e.meta.namespace) one, ap (λ (q : Key). q.name) own ∙ ap (λ (e : Certificate). e.spec.secret_name) one)

well_in : (role : Role) (c : Caches) (key : Key) → IsKeyedCache c.secrets → ((o : Object) → IsSeen (views_in role c key) o → MeetsRules o) → IsWellSeen (views_in role c key)
unfolding views_in views_of
well_in role c key keyed meets =
    let shown : Option Certificate = if works_on_requests role then None else certificate_at c.certificates key in
    record {
      target_namespace = λ d k is sees. (target_is c.secrets (looks_at_secret role) shown d k keyed is sees).0;
      target_name = λ d k is sees. (target_is c.secrets (looks_at_secret role) shown d k keyed is sees).1;
      labelled = λ k among.
          let one = part_of (next_of c.secrets) (looks_at_next role) shown k among in
          let p = picked (λ (e : Key × Object). next_in one.certificate e.1) (map.entries c.secrets) k one.among in
          (next_fits one.certificate p.0.1 k p.2).0;
      key_owned = λ d k is among.
          let p = picked (λ (e : Key × Object). next_in d e.1) (map.entries c.secrets) k (has_of (next_of c.secrets) (looks_at_next role) shown d k is among) in
          (next_fits d p.0.1 k p.2).1;
      request_owned = λ d r is among.
          let p = picked (λ (e : Key × Object). owned_in d e.1) (map.entries c.requests) r (has_of (requests_of c.requests) (looks_at_requests role) shown d r is among) in
          owned_fits d p.0.1 r p.2;
      admitted = meets;
    }

-- what some write stored is as the store admits it
known_meets : (s : Setting) (h : List Entry) (seen : Views) → IsLegal s h → AreKnown (writes s h) seen → (o : Object) → IsSeen seen o → MeetsRules o
known_meets s h seen legal known o is = let there = known o is in versions_meet s h legal there.0 o there.1

pub views_well : (s : Setting) (h : List Entry) (role : Role) (key : Key) → IsLegal s h → IsWellSeen (views s h role key)
views_well s h role key legal =
    well_in role (caches s h role) key (λ k o is. version_keyed s h k o legal (seen_is_version s h role kinds.Secret k o is))
    (known_meets s h (views s h role key) legal (views_known s h role key))

-- ---- what open passes saw

abbrev pub SawWell : OpenPass → Type 0
SawWell p = IsWellSeen p.seen

pub saw_well : (s : Setting) (h : List Entry) (n : ℕ) → IsLegal s h → IfSome (open_pass s h n) SawWell
unfolding IsLegal
saw_well s [] n legal = tt
saw_well s (Called who call reply ∷ h) n legal = over_call SawWell n who (stage_after s h call reply) (open_pass s h n) (λ p well. well) (saw_well s h n legal.1)
saw_well s (Begin pass role key at now ∷ h) n legal =
    over_begin SawWell (n == pass) (new_pass role key (views s h role key) now) (open_pass s h n) (views_well s h role key legal.1) (saw_well s h n legal.1)
saw_well s (Ask pass order ∷ h) n legal = over_ask SawWell n pass order (open_pass s h n) (λ p well. well) (saw_well s h n legal.1)
saw_well s (Made pass key ∷ h) n legal = over_given SawWell n pass (values.Made key) (open_pass s h n) (λ p well. well) (saw_well s h n legal.1)
saw_well s (Signed pass signature ∷ h) n legal = over_given SawWell n pass (values.Signed signature) (open_pass s h n) (λ p well. well) (saw_well s h n legal.1)
saw_well s (Answered pass answer ∷ h) n legal = over_given SawWell n pass (values.Answered answer) (open_pass s h n) (λ p well. well) (saw_well s h n legal.1)
saw_well s (Judged pass approved ∷ h) n legal = over_given SawWell n pass (values.Judged approved) (open_pass s h n) (λ p well. well) (saw_well s h n legal.1)
saw_well s (End pass cause ∷ h) n legal = over_end SawWell (n == pass) (open_pass s h n) (saw_well s h n legal.1)
saw_well s (Stop role ∷ h) n legal = over_stop SawWell role (open_pass s h n) (saw_well s h n legal.1)
saw_well s (other ∷ h) n legal = saw_well s h n legal.1

-- all that is known of what an open pass saw
pub record SawAll (ws : List Write) (p : OpenPass) : Type 0 where
  pub known : SawKnown ws p
  pub well : SawWell p

saw_both : (ws : List Write) (p : Option OpenPass) → IfSome p (SawKnown ws) → IfSome p SawWell → IfSome p (SawAll ws)
saw_both ws None known well = tt
saw_both ws (Some p) known well = record { known = known; well = well }

pub saw_all : (s : Setting) (h : List Entry) (n : ℕ) → IsLegal s h → IfSome (open_pass s h n) (SawAll (writes s h))
saw_all s h n legal = saw_both (writes s h) (open_pass s h n) (saw_known s h n) (saw_well s h n legal)
