-- What a write leaves of the version, the uid and the key of an object.
use Rattle.std.proofs.Common.{◌≡◌, ℕ, ℤ, refl, ◌∙◌}
use Rattle.cmc_objects.specs.declared.object.Object.{Object}
use Rattle.cmc_objects.specs.declared.object.Object.TheVariants.{Cert, Request, Secret}
use Rattle.cmc_objects.specs.Objects.{meta_of, key_of, version_of, numbered}
use Rattle.cmc_model.specs.Stored.{created, updated, with_status, generation_after, revised, restated}
use Rattle.cmc_model.specs.Versions.{uid_of}

pub version_of-created : (v : ℕ) (now : ℤ) (o : Object) → version_of (created v now o) ≡ v
unfolding created
version_of-created v now (Cert c) = refl
version_of-created v now (Request r) = refl
version_of-created v now (Secret s) = refl

pub uid_of-created : (v : ℕ) (now : ℤ) (o : Object) → uid_of (created v now o) ≡ v
unfolding created
uid_of-created v now (Cert c) = refl
uid_of-created v now (Request r) = refl
uid_of-created v now (Secret s) = refl

pub key_of-created : (v : ℕ) (now : ℤ) (o : Object) → key_of (created v now o) ≡ key_of o
unfolding created
key_of-created v now (Cert c) = refl
key_of-created v now (Request r) = refl
key_of-created v now (Secret s) = refl

version_of-numbered : (v g : ℕ) (o : Object) → version_of (numbered v g o) ≡ v
unfolding numbered
version_of-numbered v g (Cert c) = refl
version_of-numbered v g (Request r) = refl
version_of-numbered v g (Secret s) = refl

uid_of-numbered : (v g : ℕ) (o : Object) → uid_of (numbered v g o) ≡ uid_of o
unfolding numbered
uid_of-numbered v g (Cert c) = refl
uid_of-numbered v g (Request r) = refl
uid_of-numbered v g (Secret s) = refl

key_of-numbered : (v g : ℕ) (o : Object) → key_of (numbered v g o) ≡ key_of o
unfolding numbered
key_of-numbered v g (Cert c) = refl
key_of-numbered v g (Request r) = refl
key_of-numbered v g (Secret s) = refl

uid_of-updated : (old new : Object) → uid_of (updated old new) ≡ uid_of old
unfolding updated
uid_of-updated (Cert a) (Cert b) = refl
uid_of-updated (Cert a) (Request b) = refl
uid_of-updated (Cert a) (Secret b) = refl
uid_of-updated (Request a) (Cert b) = refl
uid_of-updated (Request a) (Request b) = refl
uid_of-updated (Request a) (Secret b) = refl
uid_of-updated (Secret a) (Cert b) = refl
uid_of-updated (Secret a) (Request b) = refl
uid_of-updated (Secret a) (Secret b) = refl

key_of-updated : (old new : Object) → key_of (updated old new) ≡ key_of old
unfolding updated
key_of-updated (Cert a) (Cert b) = refl
key_of-updated (Cert a) (Request b) = refl
key_of-updated (Cert a) (Secret b) = refl
key_of-updated (Request a) (Cert b) = refl
key_of-updated (Request a) (Request b) = refl
key_of-updated (Request a) (Secret b) = refl
key_of-updated (Secret a) (Cert b) = refl
key_of-updated (Secret a) (Request b) = refl
key_of-updated (Secret a) (Secret b) = refl

uid_of-with_status : (old new : Object) → uid_of (with_status old new) ≡ uid_of old
unfolding with_status
uid_of-with_status (Cert a) (Cert b) = refl
uid_of-with_status (Cert a) (Request b) = refl
uid_of-with_status (Cert a) (Secret b) = refl
uid_of-with_status (Request a) (Cert b) = refl
uid_of-with_status (Request a) (Request b) = refl
uid_of-with_status (Request a) (Secret b) = refl
uid_of-with_status (Secret a) (Cert b) = refl
uid_of-with_status (Secret a) (Request b) = refl
uid_of-with_status (Secret a) (Secret b) = refl

key_of-with_status : (old new : Object) → key_of (with_status old new) ≡ key_of old
unfolding with_status
key_of-with_status (Cert a) (Cert b) = refl
key_of-with_status (Cert a) (Request b) = refl
key_of-with_status (Cert a) (Secret b) = refl
key_of-with_status (Request a) (Cert b) = refl
key_of-with_status (Request a) (Request b) = refl
key_of-with_status (Request a) (Secret b) = refl
key_of-with_status (Secret a) (Cert b) = refl
key_of-with_status (Secret a) (Request b) = refl
key_of-with_status (Secret a) (Secret b) = refl

-- an update and a status update number the object anew, and keep its uid and its key
pub version_of-revised : (v : ℕ) (old new : Object) → version_of (revised v old new) ≡ v
version_of-revised v old new = version_of-numbered v (generation_after old (updated old new)) (updated old new)

pub uid_of-revised : (v : ℕ) (old new : Object) → uid_of (revised v old new) ≡ uid_of old
uid_of-revised v old new = uid_of-numbered v (generation_after old (updated old new)) (updated old new) ∙ uid_of-updated old new

pub key_of-revised : (v : ℕ) (old new : Object) → key_of (revised v old new) ≡ key_of old
key_of-revised v old new = key_of-numbered v (generation_after old (updated old new)) (updated old new) ∙ key_of-updated old new

pub version_of-restated : (v : ℕ) (old new : Object) → version_of (restated v old new) ≡ v
version_of-restated v old new = version_of-numbered v (meta_of old).generation (with_status old new)

pub uid_of-restated : (v : ℕ) (old new : Object) → uid_of (restated v old new) ≡ uid_of old
uid_of-restated v old new = uid_of-numbered v (meta_of old).generation (with_status old new) ∙ uid_of-with_status old new

pub key_of-restated : (v : ℕ) (old new : Object) → key_of (restated v old new) ≡ key_of old
key_of-restated v old new = key_of-numbered v (meta_of old).generation (with_status old new) ∙ key_of-with_status old new
