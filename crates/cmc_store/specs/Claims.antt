-- Which Certificate has which Secret: a finite map from the Secret's key to the Certificate's name.
use Rattle.std.specs.Prelude.{◌≡◌, ℕ, Bool, false, not, List, Option, Some, None}
use Rattle.std.specs.FinMap as finite
use Rattle.std.specs.Str.{bytes_eq}
use Rattle.cmc_meta.specs.declared.key.Key.{Key}
use Rattle.cmc_meta.specs.declared.key.Kind.TheVariants as kinds
use Rattle.cmc_meta.specs.Keys.{key_cmp}
use Rattle.cmc_objects.specs.declared.object.Object.{Object}
use Rattle.cmc_objects.specs.declared.object.Object.TheVariants.{Cert, Request, Secret}
use Rattle.cmc_objects.specs.Objects.{key_of, name_of}
use Rattle.cmc_model.specs.Admission.{is_taken}
use Rattle.cmc_model.specs.Objects.{Objects, object_at}

abbrev pub Claims : Type 0
Claims = finite.FinMap key_cmp (List ℕ)

abbrev pub no_claims : Claims
no_claims = finite.empty

-- the name of the Certificate that has the Secret
abbrev pub claim_at : Claims → Key → Option (List ℕ)
claim_at claims secret = finite.get claims secret

-- with the Certificate's claim on the Secret, where it names one
abbrev pub claimed : Claims → Option Key → List ℕ → Claims
claimed claims None name = claims
claimed claims (Some secret) name = finite.insert claims secret name

-- without the claim on the Secret
abbrev pub released : Claims → Option Key → Claims
released claims None = claims
released claims (Some secret) = finite.remove claims secret

-- the Secret that an object names: only a Certificate does
abbrev pub secret_of : Object → Option Key
secret_of (Cert c) = Some (record { kind = kinds.Secret; namespace = c.meta.namespace; name = c.spec.secret_name })
secret_of (Request r) = None
secret_of (Secret s) = None

abbrev pub secret_named_in : Option Object → Option Key
secret_named_in None = None
secret_named_in (Some o) = secret_of o

-- the key of the Certificate of this name that may have the Secret
abbrev pub claimant : Key → List ℕ → Key
claimant secret name = record { kind = kinds.Certificate; namespace = secret.namespace; name = name }

-- another one than that of this name has it
abbrev pub is_of_another : List ℕ → Option (List ℕ) → Bool
is_of_another name None = false
is_of_another name (Some other) = not (bytes_eq other name)

-- objects stand under their own keys, and the claims are exactly what their Certificates name: so no two name one Secret
pub record IsIndex (objects : Objects) (claims : Claims) : Type 0 where
  pub keyed : (key : Key) (o : Object) → object_at objects key ≡ Some o → key_of o ≡ key
  pub named : (secret : Key) (name : List ℕ) → claim_at claims secret ≡ Some name → secret_named_in (object_at objects (claimant secret name)) ≡ Some secret
  pub held : (key secret : Key) (o : Object) → object_at objects key ≡ Some o → secret_of o ≡ Some secret → claim_at claims secret ≡ Some (name_of o)

-- what exists under the key has that key, and no other Certificate has the Secret that it names
abbrev pub IsUnderItsKey : Objects → Key → Option Object → Type 0
IsUnderItsKey objects key None = Unit {0}
IsUnderItsKey objects key (Some o) = (key_of o ≡ key) × (is_taken objects o ≡ false)
