-- What a change makes of the object that exists.
use Rattle.std.specs.Prelude.{◌≡◌, ◌≢◌, ℕ, Option, Some, None}
use Rattle.cmc_objects.specs.declared.object.Object.{Object}
use Rattle.cmc_model.specs.Stored.{updated, with_status, revised, restated}

-- nothing new, or what the update stores
abbrev pub IsRevision : ℕ → Object → Object → Option Object → Type 0
IsRevision version old object None = updated old object ≡ old
IsRevision version old object (Some new) = (updated old object ≢ old) × (new ≡ revised version old object)

-- nothing new, or what the status update stores
abbrev pub IsRestatement : ℕ → Object → Object → Option Object → Type 0
IsRestatement version old object None = with_status old object ≡ old
IsRestatement version old object (Some new) = (with_status old object ≢ old) × (new ≡ restated version old object)
