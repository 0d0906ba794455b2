-- What contracts see of the changes that a range of writes leaves to be made.
use Rattle.std.specs.Prelude.{Bool, List, [], ◌∷◌, ◌++◌, ◌&&◌, not, Option, Some, None, if◌then◌else◌}
use Rattle.std.specs.List.{list_any}
use Rattle.std.specs.Borrow.{Bor}
use Rattle.cmc_meta.specs.declared.key.Key.{Key}
use Rattle.cmc_meta.specs.declared.key.Kind.{Kind}
use Rattle.cmc_meta.specs.Keys.{key_eq}
use Rattle.cmc_model.specs.declared.write.Write.{Write}
use Rattle.cmc_model.specs.Writes.{is_known, kind_eq}
use Rattle.cmc_informer.specs.declared.latest.Change.{Change}

-- the first key, where there is one, and the others
abbrev pub with_first : Option (Bor Key) → List (Bor Key) → List (Bor Key)
with_first None others = others
with_first (Some first) others = first ∷ others

-- whether the key is one of those that were seen
abbrev pub has_seen : List (Bor Key) → Key → Bool
has_seen keys key = list_any (λ seen. key_eq key seen.now) keys

-- the changes as writes
abbrev pub writes_of : List Change → List Write
writes_of [] = []
writes_of (c ∷ cs) = record { key = c.key.now; object = c.object } ∷ writes_of cs

-- the last writes of the kind, and an older one, which counts where it is of the kind and none of them is under its key
abbrev pub with_older : Kind → Write → List Write → List Write
with_older kind w ws = if kind_eq w.key.kind kind && not (is_known w.key ws) then ws ++ w ∷ [] else ws
