-- Loads: users apply Certificates, and delete none.
use Rattle.std.specs.Prelude.{◌≡◌, ◌≢◌, ◌≤◌, ◌+◌, ◌&&◌, ℕ, Bool, true, false, List, [], ◌∷◌, length, Option, Some}
use Rattle.cmc_meta.specs.declared.key.Key.{Key}
use Rattle.cmc_meta.specs.declared.key.Kind.TheVariants as kinds
use Rattle.cmc_objects.specs.declared.certificate.Certificate.{Certificate}
use Rattle.cmc_objects.specs.declared.object.Object.{Object}
use Rattle.cmc_objects.specs.declared.object.Object.TheVariants.{Cert}
use Rattle.cmc_objects.specs.declared.certificate.CertSpec.{CertSpec}
use Rattle.cmc_objects.specs.declared.key_spec.Algorithm.TheVariants.{Ecdsa}
use Rattle.cmc_objects.specs.declared.key_spec.Rotation.TheVariants.{Always}
use Rattle.cmc_objects.specs.declared.entry.Step.{Step}
use Rattle.cmc_objects.specs.declared.entry.Step.TheVariants.{Apply, Delete, Tick, Settle}
use Rattle.cmc_objects.specs.Defaults.{key_algorithm, key_rotation}
use Rattle.cmc_objects.specs.Objects.{key_of}
use Rattle.cmc_match.specs.Marks.{asks_for_temporary}
use Rattle.cmc_model.specs.Generated.{generated_name}
use Rattle.cmc_objects.specs.declared.role.Role.{Role}
use Rattle.cmc_model.specs.Histories.{Setting, runs}
use Rattle.cmc_rules.specs.Scripts.{step_at}

-- a step of the script applies the object
abbrev pub Applies : Setting → Object → Type 0
Applies s object = (number : ℕ) × (version : Option ℕ) × (step_at s.script number ≡ Some (Apply object version))

-- a step of it deletes what is under the key
abbrev pub Deletes : Setting → Key → Type 0
Deletes s key = (number : ℕ) × (version : Option ℕ) × (step_at s.script number ≡ Some (Delete key version))

-- a Certificate that has no owner
abbrev pub IsFreeCertificate : Object → Type 0
IsFreeCertificate (Cert c) = c.meta.owners ≡ []
IsFreeCertificate other = ⊥

-- Nothing is applied but Certificates without owners, and no Certificate is deleted. One that is applied again names the same Secret, and
-- none names a Secret by a name that may be generated for what a Certificate owns.
pub record HasFreeCertificates (s : Setting) : Type 0 where
  pub certificates : (object : Object) → Applies s object → IsFreeCertificate object
  pub kept : (key : Key) → Deletes s key → key.kind ≢ kinds.Certificate
  pub one_secret : (c d : Certificate) → Applies s (Cert c) → Applies s (Cert d) → key_of (Cert c) ≡ key_of (Cert d) → c.spec.secret_name ≡ d.spec.secret_name
  pub apart : (c d : Certificate) (number : ℕ) → Applies s (Cert c) → Applies s (Cert d) → c.spec.secret_name ≢ generated_name d.meta.name number

-- ---- loads whose course is known

-- a step of a load applies a Certificate, lets time go by, or waits until all is at rest
abbrev pub is_load_step : Step → Bool
is_load_step (Apply (Cert c) version) = true
is_load_step (Tick seconds) = true
is_load_step Settle = true
is_load_step other = false

abbrev pub are_load_steps : List Step → Bool
are_load_steps [] = true
are_load_steps (step ∷ script) = is_load_step step && are_load_steps script

-- the octets of the texts, with 16 more for each
abbrev pub octets_of_texts : List (List ℕ) → ℕ
octets_of_texts [] = 0
octets_of_texts (text ∷ texts) = 16 + (length text + octets_of_texts texts)

abbrev pub octets_of_names : CertSpec → ℕ
octets_of_names spec = length spec.common_name + (octets_of_texts spec.dns_names + (octets_of_texts spec.uris + octets_of_texts spec.emails))

-- The Certificate asks for a new ECDSA key at each issuance, for no temporary certificate, for no addresses, and for names that are short together.
pub record IsUsual (c : Certificate) : Type 0 where
  pub rotates : key_rotation c.spec.key ≡ Always
  pub curve : key_algorithm c.spec.key ≡ Ecdsa
  pub no_stand_in : asks_for_temporary c ≡ false
  pub addresses : c.spec.ip_addresses ≡ []
  pub names : octets_of_names c.spec ≤ 1000000

-- Usual Certificates are applied, time goes by, and all comes to rest. No call fails, each question has the usual answer, and the approver
-- refuses nothing.
pub record IsLoad (s : Setting) : Type 0 where
  pub free : HasFreeCertificates s
  pub steps : are_load_steps s.script ≡ true
  pub usual : (c : Certificate) → Applies s (Cert c) → IsUsual c
  pub faults : s.faults ≡ []
  pub material : s.material ≡ []
  pub refuse : s.rules.refuse ≡ []
  pub policies : s.rules.policies ≡ []

-- all roles run from the beginning on
abbrev pub HasAllRoles : Setting → Type 0
HasAllRoles s = (role : Role) → runs s [] role ≡ true
