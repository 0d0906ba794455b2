-- Where passes come from.
use Rattle.std.specs.Prelude.{ℕ, ◌==◌, List, [], ◌∷◌, length, Option, Some, None, if◌then◌else◌}
use Rattle.cmc_objects.specs.declared.entry.Entry.{Entry}
use Rattle.cmc_objects.specs.declared.entry.Entry.TheVariants.{Begin}
use Rattle.cmc_rules.specs.declared.progress.Origin.{Origin}
use Rattle.cmc_model.specs.Histories.{Setting, incarnation}

abbrev pub origins_with : Setting → List Entry → List Origin → Entry → List Origin
origins_with s h os (Begin pass role key at now) = record { role = role; incarnation = incarnation s h role } ∷ os
origins_with s h os other = os

-- the role of each pass that was begun, and how many times that role had begun itself; the newest pass first
abbrev pub origins : Setting → List Entry → List Origin
origins s [] = []
origins s (e ∷ h) = origins_with s h (origins s h) e

-- how many passes were begun
abbrev pub begun : Setting → List Entry → ℕ
begun s h = length (origins s h)

-- the origin of the pass of this number: passes are numbered from 1 as they begin
unfoldable pub origin_at : ℕ → List Origin → Option Origin
origin_at n [] = None
origin_at n (o ∷ os) = if length (o ∷ os) == n then Some o else origin_at n os
