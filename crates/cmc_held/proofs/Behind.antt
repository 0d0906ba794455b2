-- Where a role stands, as it is shown.
use Rattle.std.proofs.Common.{ℕ, ℤ}
use Rattle.std.specs.Prelude.{if◌then◌else◌}
