-- What a call is made for: nothing, or an object that was seen, at its version.
use Rattle.std.specs.Prelude.{◌≡◌, ◌⊎◌, ℕ, ℤ, Bool, true, false, List, [], ◌∷◌, Option, Some, None}
use Rattle.cmc_meta.specs.declared.key.Key.{Key}
use Rattle.cmc_objects.specs.declared.certificate.Certificate.{Certificate}
use Rattle.cmc_objects.specs.declared.request.CertificateRequest.{CertificateRequest}
use Rattle.cmc_objects.specs.declared.secret.Secret.{Secret as SecretObject}
use Rattle.cmc_objects.specs.declared.object.Object.{Object}
use Rattle.cmc_objects.specs.declared.object.Object.TheVariants.{Cert, Request, Secret}
use Rattle.cmc_objects.specs.declared.call.Call.{Call}
use Rattle.cmc_objects.specs.declared.call.Call.TheVariants.{Create, Update, UpdateStatus, Delete, Get}
use Rattle.cmc_objects.specs.Objects.{key_of, version_of}
use Rattle.cmc_pass.specs.declared.pass.Views.{Views}
use Rattle.cmc_model.specs.Stored.{created, revised, restated}
use Rattle.cmc_model.specs.Admission.{refusing_rule}
use Rattle.cmc_model.specs.Generated.{named}
use Rattle.cmc_rules.specs.Admitted.{MeetsRules}
use Rattle.cmc_rules.specs.Views.{is_owned, has_next_label}

-- the item stands in the list
abbrev pub IsAmong : {A : Type 0} → A → List A → Type 0
IsAmong a [] = ⊥
IsAmong a (x ∷ xs) = (x ≡ a) ⊎ IsAmong a xs

-- the object is this part of the views, where there is one
abbrev pub IsPart : {A : Type 0} → (A → Object) → Option A → Object → Type 0
IsPart kind None o = ⊥
IsPart kind (Some a) o = o ≡ kind a

-- the object is one of these
abbrev pub IsPartOf : {A : Type 0} → (A → Object) → List A → Object → Type 0
IsPartOf kind [] o = ⊥
IsPartOf kind (a ∷ rest) o = (o ≡ kind a) ⊎ IsPartOf kind rest o

-- the object is a part of the views
abbrev pub IsSeen : Views → Object → Type 0
IsSeen seen o =
    IsPart Cert seen.certificate o
    ⊎ (IsPart Secret seen.secret o
    ⊎ (IsPart Request seen.request o ⊎ (IsPartOf Secret seen.next o ⊎ IsPartOf Request seen.requests o)))

-- the write under the key and at the version of a seen object: P holds of it and of what it leaves, and no rule refuses it
pub record ForSeen (P : Option Object → Option Object → Type 0) (seen : Views) (under : Key) (named : ℕ) (leaves : ℕ → Object → Option Object) (rule : Object → Bool → Option ℕ) : Type 0 where
  pub old : Object
  pub sees : IsSeen seen old
  pub key : key_of old ≡ under
  pub version : version_of old ≡ named
  pub changes : (next : ℕ) → P (Some old) (leaves next old)
  pub passes : (taken : Bool) → rule old taken ≡ None

-- the create of an object: P holds of what it leaves, at each version and moment, and no rule refuses it
pub record ForNone (P : Option Object → Option Object → Type 0) (object : Object) : Type 0 where
  pub makes : (next : ℕ) (now : ℤ) → P None (Some (created next now object))
  pub passes : (taken : Bool) → refusing_rule None object false taken ≡ None

-- P holds of what the call was made for and of what it leaves, and no rule refuses it where it finds what was seen; of a create
-- with a generated name this is so whatever name it gets
unfoldable pub OnSeen : (Option Object → Option Object → Type 0) → Views → Call → Type 0
OnSeen P seen (Create object false) = ForNone P object
OnSeen P seen (Create object true) = (name : List ℕ) → ForNone P (named name object)
OnSeen P seen (Update object named) = ForSeen P seen (key_of object) named (λ next old. Some (revised next old object)) (λ old taken. refusing_rule (Some old) object false taken)
OnSeen P seen (UpdateStatus object named) = ForSeen P seen (key_of object) named (λ next old. Some (restated next old object)) (λ old taken. refusing_rule (Some old) object true taken)
OnSeen P seen (Delete key None) = ⊥
OnSeen P seen (Delete key (Some named)) = ForSeen P seen key named (λ next old. None) (λ old taken. None)
OnSeen P seen (Get key) = ⊥

-- ---- what holds of all that a role sees of a key

-- The target stands under the name that the Certificate gives it; the next keys are labelled and owned, and the requests are owned;
-- and each object is as the store admits objects.
pub record IsWellSeen (seen : Views) : Type 0 where
  pub target_namespace : (c : Certificate) (k : SecretObject) → seen.certificate ≡ Some c → seen.secret ≡ Some k → k.meta.namespace ≡ c.meta.namespace
  pub target_name : (c : Certificate) (k : SecretObject) → seen.certificate ≡ Some c → seen.secret ≡ Some k → k.meta.name ≡ c.spec.secret_name
  pub labelled : (k : SecretObject) → IsAmong k seen.next → has_next_label k.meta ≡ true
  pub key_owned : (c : Certificate) (k : SecretObject) → seen.certificate ≡ Some c → IsAmong k seen.next → is_owned c k.meta ≡ true
  pub request_owned : (c : Certificate) (r : CertificateRequest) → seen.certificate ≡ Some c → IsAmong r seen.requests → is_owned c r.meta ≡ true
  pub admitted : (o : Object) → IsSeen seen o → MeetsRules o
