-- The version for which a key waits.
use Rattle.std.specs.Prelude.{◌≡◌, ℕ, nat_lt, Option, Some, None, if◌then◌else◌}
use Rattle.cmc_meta.specs.declared.key.Kind.{Kind}
use Rattle.cmc_meta.specs.declared.key.Kind.TheVariants.{Certificate, CertificateRequest, Secret}
use Rattle.cmc_objects.specs.declared.entry.Positions.{Positions}
use Rattle.cmc_queue.specs.declared.row.Parked.{Parked}
use Rattle.cmc_pass.specs.declared.pass.Views.{Views}
use Rattle.cmc_rules.specs.declared.progress.Obstacle.TheVariants.{Newer}
use Rattle.cmc_rules.specs.declared.progress.Ending.{Ending}
use Rattle.cmc_rules.specs.declared.progress.Ending.TheVariants.{Refused, Wrote}
use Rattle.cmc_rules.specs.declared.progress.LastPass.{LastPass}
use Rattle.cmc_rules.specs.declared.progress.Past.{Past}
use Rattle.cmc_rules.specs.Positions.{position_of}

-- this version of the kind, where the role is not yet told of it
abbrev pub ahead : Kind → ℕ → Positions → Option Parked → Option Parked
ahead kind version at rest = if nat_lt (position_of kind at) version then Some (record { kind = kind; version = version }) else rest

-- the first of the role's own writes on the key of which it is not yet told
abbrev pub own_ahead : Positions → Positions → Option Parked
own_ahead own at = ahead Certificate own.certificates at (ahead CertificateRequest own.requests at (ahead Secret own.secrets at None))

-- the write that refused a pass, where the role is not yet told of it
abbrev pub obstacle_ahead : Ending → Positions → Option Parked
obstacle_ahead (Refused (Newer kind version)) at = ahead kind version at None
obstacle_ahead other at = None

-- for which version a key waits after a pass that ended so
abbrev pub waits_for : Ending → Positions → Positions → Option Parked
waits_for Wrote own at = own_ahead own at
waits_for other own at = obstacle_ahead other at

-- a pass that sees what the last one saw waits for what refused that one
abbrev pub IsRefusedUntil : Option LastPass → Views → Positions → Option Parked → Type 0
IsRefusedUntil None seen at parked = parked ≡ None
IsRefusedUntil (Some last) seen at parked = (last.seen ≡ seen → parked ≡ obstacle_ahead last.ending at) × ((last.seen ≡ seen → ⊥) → parked ≡ None)

abbrev pub OrElse : Option Parked → Type 0 → Option Parked → Type 0
OrElse None rest parked = rest
OrElse (Some first) rest parked = parked ≡ Some first

-- the key waits for the first own write that is ahead, and else for what refused the last pass
abbrev pub IsParkedUntil : Past → Views → Positions → Option Parked → Type 0
IsParkedUntil p seen at parked = OrElse (own_ahead p.own at) (IsRefusedUntil p.last seen at parked) parked
