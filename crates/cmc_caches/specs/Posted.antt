-- What contracts see of all roles: the accepted writes, and how many of them each role was told of.
use Rattle.std.specs.Prelude.{◌≡◌, ℕ, ◌≤◌, List, [], ◌∷◌, slice_index_or}
use Rattle.cmc_meta.specs.declared.key.Kind.{Kind}
use Rattle.cmc_objects.specs.declared.entry.Positions.{Positions}
use Rattle.cmc_objects.specs.declared.role.Role.{Role}
use Rattle.cmc_objects.specs.Roles.{role_rank}
use Rattle.cmc_model.specs.declared.write.Write.{Write}
use Rattle.cmc_rules.specs.Positions.{position_of}
use Rattle.cmc_rules.specs.Views.{Caches}
use Rattle.cmc_caches.specs.Told.{caches_at}

pub record Posted : Type 0 where
  -- the accepted writes, the newest first
  pub writes : List Write
  -- for how many more there is room already
  pub spare : ℕ
  -- of each role, in the order of roles, how many of them it was told of, of each kind
  pub told : List Positions

abbrev pub untold : Positions
untold = record { certificates = 0; requests = 0; secrets = 0 }

unfoldable pub told_of : List Positions → Role → Positions
told_of rows role = slice_index_or rows (role_rank role) untold

-- the objects that the role was told of
abbrev pub caches_of : Posted → Role → Caches
caches_of posted role = caches_at posted.writes (told_of posted.told role)

-- no role was told of more than so many
abbrev pub AreWithin : ℕ → List Positions → Type 0
AreWithin n rows = (place : ℕ) (kind : Kind) → position_of kind (slice_index_or rows place untold) ≤ n

-- no role was told of anything
abbrev pub AreUntold : List Positions → Type 0
AreUntold [] = Unit {0}
AreUntold (r ∷ rs) = (r ≡ untold) × AreUntold rs
