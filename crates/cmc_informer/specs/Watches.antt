-- What contracts see of a watch.
use Rattle.std.specs.Prelude.{ℕ, ◌-◌, ◌&&◌, Bool, List, length, nat_lt}
use Rattle.cmc_meta.specs.declared.key.Key.{Key}
use Rattle.cmc_meta.specs.declared.key.Kind.{Kind}
use Rattle.cmc_model.specs.declared.write.Write.{Write}
use Rattle.cmc_model.specs.Writes.{kind_eq, last_under, oldest}

pub record Watched : Type 0 where
  -- the accepted writes, the newest first
  pub writes : List Write
  -- how many of the newest writes can still be delivered
  pub window : ℕ
  -- for how many writes there is room already
  pub spare : ℕ

-- the version after which all writes can still be delivered
abbrev pub start_of : Watched → ℕ
start_of watch = length watch.writes - watch.window

-- whether the key is one of the kind, and a write above the one version and up to the other named it
abbrev pub is_changed : Kind → ℕ → ℕ → List Write → Key → Bool
is_changed kind from to writes key = kind_eq key.kind kind && nat_lt from (last_under key (oldest to writes))
