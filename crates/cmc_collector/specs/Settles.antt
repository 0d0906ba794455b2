-- Settling: the caches are told of all, and whatever is due is examined, until nothing is left.
use Rattle.std.specs.Prelude.{◌≡◌, ◌⊎◌, ℕ, ℤ, ◌≤◌, Bool, true, false, List, [], ◌∷◌, length, Option, Some, None, if◌then◌else◌, nat_lt}
use Rattle.std.specs.declared.cmp.Ordering.TheVariants.{Less}
use Rattle.cmc_meta.specs.declared.key.Key.{Key}
use Rattle.cmc_meta.specs.declared.key.Kind.{Kind}
use Rattle.cmc_meta.specs.declared.key.Kind.TheVariants.{Certificate, CertificateRequest, Secret}
use Rattle.cmc_meta.specs.Keys.{key_cmp}
use Rattle.cmc_model.specs.Histories.{Setting}
use Rattle.cmc_collector.specs.declared.entry.Moment.{Moment}
use Rattle.cmc_collect_moves.specs.declared.moves.CollectMove.{CollectMove}
use Rattle.cmc_collect_moves.specs.declared.moves.CollectMove.TheVariants.{User, Deliver, Examine}
use Rattle.cmc_collect_moves.specs.declared.moves.Collected.{Collected}
use Rattle.cmc_collect_moves.specs.declared.moves.Collected.TheVariants.{Done, NotNow, Spent}
use Rattle.cmc_collector.specs.CachePositions.{position}
use Rattle.cmc_collector.specs.Examinations.{is_to_examine}
use Rattle.cmc_collector.specs.declared.entry.CollectEntry.{CollectEntry}
use Rattle.cmc_collector.specs.Moves.{IsEntry, newest, with_entry}
use Rattle.cmc_collector.specs.Replays.{Collecting, on, setting}

-- the cache of the kind was not told of the kind's newest write
abbrev pub is_behind : Kind → Setting → List Moment → Bool
is_behind kind s ms = nat_lt (position kind ms) (newest kind s ms)

-- the first kind, in the order of kinds, that is behind
abbrev pub first_kind_behind : Setting → List Moment → Option Kind
first_kind_behind s ms =
    if is_behind Certificate s ms then Some Certificate
    else (if is_behind CertificateRequest s ms then Some CertificateRequest else (if is_behind Secret s ms then Some Secret else None))

-- the least key that the test holds of; none where there is none
abbrev pub FindsLeast : (Key → Bool) → Option Key → Type 0
FindsLeast test None = (key : Key) → test key ≡ false
FindsLeast test (Some key) = (test key ≡ true) × ((other : Key) → key_cmp other key ≡ Less → test other ≡ false)

-- the least key under which something is due; none where nothing is
abbrev pub FindsDue : Option Key → Setting → List Moment → Type 0
FindsDue found s ms = FindsLeast (is_to_examine s ms) found

-- the next move of settling: while a kind is behind it is told of its newest write, and then the least key is examined
abbrev pub IsSettlingMove : CollectMove → Setting → List Moment → Type 0
IsSettlingMove (User call) s ms = ⊥
IsSettlingMove (Deliver kind to) s ms = (first_kind_behind s ms ≡ Some kind) × (to ≡ newest kind s ms)
IsSettlingMove (Examine key) s ms = (first_kind_behind s ms ≡ None) × FindsDue (Some key) s ms

-- all kinds are current, and nothing is due
abbrev pub IsSettled : Setting → List Moment → Type 0
IsSettled s ms = (first_kind_behind s ms ≡ None) × FindsDue None s ms

-- the later moments are the earlier ones and entries of settling at this moment
abbrev pub Settles : ℤ → Setting → List Moment → List Moment → Type 0
Settles now s before [] = before ≡ []
Settles now s before (m ∷ ms) =
    (before ≡ m ∷ ms) ⊎ (Settles now s before ms × (m.now ≡ now) × ((move : CollectMove) × IsSettlingMove move s ms × IsEntry move m.entry s ms))

-- settling ends with nothing left to do, or where no further entry fits
abbrev pub EndsAs : Setting → List Moment → Collected → Type 0
EndsAs s ms Done = IsSettled s ms
EndsAs s ms (NotNow why) = ⊥
EndsAs s ms (Spent entries) = (entries ≡ length ms) × (s.events ≤ length ms) × (IsSettled s ms → ⊥)

-- one move of settling is made, or settling ends and leaves all as it was
abbrev pub IsTurned : ℤ → Collecting → Option Collected → Collecting → Type 0
IsTurned now old None new = (move : CollectMove) × on (IsSettlingMove move) old × ((e : CollectEntry) × on (IsEntry move e) old × (new ≡ with_entry now e old))
IsTurned now old (Some end) new = (new ≡ old) × on EndsAs old end

-- after some turns the entries are those of the beginning and as many of settling, at least
pub record IsSettling (now : ℤ) (old new : Collecting) (turns : ℕ) : Type 0 where
  pub same : new ≡ record old { moments = new.moments }
  pub settles : Settles now (setting old) old.moments new.moments
  pub count : turns ≤ length new.moments
