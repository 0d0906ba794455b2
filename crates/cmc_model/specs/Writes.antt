-- The accepted writes, and what the first of them leave.
use Rattle.std.specs.Prelude.{ℕ, ℤ, ◌+◌, ◌==◌, Bool, List, [], ◌∷◌, length, nat_le, Option, Some, None, filter, if◌then◌else◌}
use Rattle.std.specs.List.{list_any}
use Rattle.cmc_meta.specs.declared.key.Key.{Key}
use Rattle.cmc_meta.specs.declared.key.Kind.{Kind}
use Rattle.cmc_meta.specs.Keys.{kind_rank, key_eq}
use Rattle.cmc_objects.specs.declared.call.Call.{Call}
use Rattle.cmc_objects.specs.declared.entry.Entry.{Entry}
use Rattle.cmc_objects.specs.declared.entry.Entry.TheVariants.{Call as Called}
use Rattle.cmc_model.specs.declared.write.Write.{Write}
use Rattle.cmc_model.specs.Objects.{Objects, no_objects}
use Rattle.cmc_model.specs.Replies.{State, is_accepted, key_of_call, settled, stored, put_at}
use Rattle.cmc_model.specs.Histories.{Setting, moment, state}

-- what a call writes that is accepted now, under the name that it has
abbrev pub write_of : ℤ → State → Call → Write
write_of now state call = record { key = key_of_call call; object = stored (state.accepted + 1) now state.objects call }

abbrev pub writes_with : ℤ → State → List Write → Entry → List Write
writes_with moment state ws (Called who call reply) = if is_accepted reply then write_of moment state (settled call reply) ∷ ws else ws
writes_with moment state ws other = ws

-- the accepted writes, the newest first: the version of a write is its place, counted from the oldest
abbrev pub writes : Setting → List Entry → List Write
writes s [] = []
writes s (e ∷ h) = writes_with (moment s h) (state s h) (writes s h) e

-- what the writes leave: of each key the last one stands
unfoldable pub contents : List Write → Objects
contents [] = no_objects
contents (w ∷ ws) = put_at (contents ws) w.key w.object

-- the first p of the writes
unfoldable pub oldest : ℕ → List Write → List Write
oldest p [] = []
oldest p (w ∷ ws) = if nat_le (length (w ∷ ws)) p then w ∷ ws else oldest p ws

abbrev pub kind_eq : Kind → Kind → Bool
kind_eq a b = kind_rank a == kind_rank b

-- the writes of objects of the kind
abbrev pub of_kind : Kind → List Write → List Write
of_kind kind ws = filter (λ w. kind_eq w.key.kind kind) ws

-- the objects after the first p accepted writes, and those of one kind among them
abbrev pub objects_at : Setting → List Entry → ℕ → Objects
objects_at s h p = contents (oldest p (writes s h))

abbrev pub objects_of : Kind → Setting → List Entry → ℕ → Objects
objects_of kind s h p = contents (of_kind kind (oldest p (writes s h)))

-- the accepted write of this version
unfoldable pub write_at : ℕ → List Write → Option Write
write_at p [] = None
write_at p (w ∷ ws) = if length (w ∷ ws) == p then Some w else write_at p ws

-- the version of the last write of the kind, and of the last write under the key; 0 where there is none
unfoldable pub last_of_kind : Kind → List Write → ℕ
last_of_kind kind [] = 0
last_of_kind kind (w ∷ ws) = if kind_eq w.key.kind kind then length (w ∷ ws) else last_of_kind kind ws

unfoldable pub last_under : Key → List Write → ℕ
last_under key [] = 0
last_under key (w ∷ ws) = if key_eq w.key key then length (w ∷ ws) else last_under key ws

-- whether an accepted write named the key
abbrev pub is_known : Key → List Write → Bool
is_known key ws = list_any (λ w. key_eq w.key key) ws
