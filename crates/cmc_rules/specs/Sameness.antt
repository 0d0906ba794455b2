-- A Begin that would do the same again.
use Rattle.std.specs.Prelude.{◌≡◌, ℕ, ℤ, ◌<◌, nat_lt, Option, Some, None, if◌then◌else◌}
use Rattle.cmc_objects.specs.declared.entry.Positions.{Positions}
use Rattle.cmc_pass.specs.declared.pass.Views.{Views}
use Rattle.cmc_rules.specs.declared.progress.Obstacle.{Obstacle}
use Rattle.cmc_rules.specs.declared.progress.Obstacle.TheVariants.{Failure, Newer}
use Rattle.cmc_rules.specs.declared.progress.Ending.{Ending}
use Rattle.cmc_rules.specs.declared.progress.Ending.TheVariants as endings
use Rattle.cmc_rules.specs.declared.progress.LastPass.{LastPass}
use Rattle.cmc_rules.specs.declared.progress.Past.{Past}
use Rattle.cmc_rules.specs.Positions.{position_of}

abbrev pub IsStillBehind : Obstacle → Positions → Type 0
IsStillBehind Failure at = ⊥
IsStillBehind (Newer kind version) at = position_of kind at < version

-- a pass with nothing to do would find the same at the same moment, and one that was refused as long as its role is not told why
abbrev pub EndsAlike : Ending → ℤ → ℤ → Positions → Type 0
EndsAlike endings.Open since now at = ⊥
EndsAlike endings.Nothing since now at = since ≡ now
EndsAlike endings.Wrote since now at = ⊥
EndsAlike (endings.Refused obstacle) since now at = IsStillBehind obstacle at

abbrev pub IsSame : Option LastPass → Views → ℤ → Positions → Type 0
IsSame None seen now at = ⊥
IsSame (Some last) seen now at = (last.seen ≡ seen) × EndsAlike last.ending last.since now at

-- the one number where it is above the other, and else what follows
abbrev pub if_above : ℕ → ℕ → Option ℕ → Option ℕ
if_above own at rest = if nat_lt at own then Some own else rest

-- the first of the own writes that is above the position of its kind
unfoldable pub own_above : Positions → Positions → Option ℕ
own_above own at = if_above own.certificates at.certificates (if_above own.requests at.requests (if_above own.secrets at.secrets None))

-- The role has been told of its own writes, and the pass would not be that before again.
pub record IsDue (past : Past) (seen : Views) (now : ℤ) (at : Positions) : Type 0 where
  pub told : own_above past.own at ≡ None
  pub other : IsSame past.last seen now at → ⊥
