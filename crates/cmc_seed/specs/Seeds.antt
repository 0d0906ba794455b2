-- What hashers begin with.
use Rattle.std.specs.Prelude.{ℕ}
use Rattle.std.specs.List.{fold}
use Rattle.std.specs.Hash as fed
use Rattle.std.specs.Hash.FoldHasher as folding
use Rattle.std.specs.declared.hash.FoldHasher.{FoldHasher}
use Rattle.cmc_seed.specs.declared.seed.HashSeed.{HashSeed}

-- the hasher that each hasher is a copy of
abbrev pub initial_hasher : HashSeed → FoldHasher
initial_hasher s = s.initial

-- the seed that was fed nothing
unfoldable pub fixed_seed : HashSeed
fixed_seed = record { initial = folding.initial }

-- the seed that was fed the number
unfoldable pub seed_of : ℕ → HashSeed
seed_of n = record { initial = fold folding.write folding.initial (fed.u64 n) }
