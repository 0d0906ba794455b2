-- The moves of a collection, when each is refused, and which entry it makes.
use Rattle.std.specs.Prelude.{◌≡◌, ℕ, ℤ, ◌-◌, ◌&&◌, Bool, false, List, [], ◌∷◌, length, Option, Some, None, MatchOption, if◌then◌else◌, nat_le, nat_lt}
use Rattle.cmc_meta.specs.declared.key.Key.{Key}
use Rattle.cmc_meta.specs.declared.key.Kind.{Kind}
use Rattle.cmc_meta.specs.declared.owners.OwnerRef.{OwnerRef}
use Rattle.cmc_objects.specs.declared.call.Call.{Call}
use Rattle.cmc_objects.specs.declared.call.Call.TheVariants as calls
use Rattle.cmc_objects.specs.declared.call.Reply.{Reply}
use Rattle.cmc_objects.specs.Objects.{version_of}
use Rattle.cmc_model.specs.declared.write.Write.{Write}
use Rattle.cmc_model.specs.Replies.{IsReply}
use Rattle.cmc_model.specs.Histories.{Setting, accepted, state}
use Rattle.cmc_model.specs.Writes.{kind_eq, last_of_kind, write_at, writes}
use Rattle.cmc_collector.specs.declared.entry.CollectEntry.{CollectEntry}
use Rattle.cmc_collector.specs.declared.entry.CollectEntry.TheVariants as entries
use Rattle.cmc_collector.specs.declared.entry.Moment.{Moment}
use Rattle.cmc_collector.specs.declared.examination.Examination.{Examination}
use Rattle.cmc_collect_moves.specs.declared.moves.CollectMove.{CollectMove}
use Rattle.cmc_collect_moves.specs.declared.moves.CollectMove.TheVariants.{User, Deliver, Examine}
use Rattle.cmc_collect_moves.specs.declared.moves.CollectLack.{CollectLack}
use Rattle.cmc_collect_moves.specs.declared.moves.CollectLack.TheVariants.{Current, NotAWrite, NoOrphan}
use Rattle.cmc_collect_moves.specs.declared.moves.Collected.{Collected}
use Rattle.cmc_collect_moves.specs.declared.moves.Collected.TheVariants.{Done, NotNow, Spent}
use Rattle.cmc_collector.specs.CachePositions.{position}
use Rattle.cmc_collector.specs.Examinations.{current, is_to_examine, next_owner}
use Rattle.cmc_collector.specs.Replays.{Collecting, on, owner_key, played}

-- the version of the last accepted write of the kind, 0 where there is none
abbrev pub newest : Kind → Setting → List Moment → ℕ
newest kind s ms = last_of_kind kind (writes s (played ms))

abbrev pub is_of_kind : Kind → Option Write → Bool
is_of_kind kind None = false
is_of_kind kind (Some w) = kind_eq w.key.kind kind

-- this is the version of an accepted write of the kind above the position
abbrev pub is_watch_event : Kind → ℕ → Setting → List Moment → Bool
is_watch_event kind to s ms = nat_lt (position kind ms) to && is_of_kind kind (write_at to (writes s (played ms)))

-- ---- refusals

abbrev pub lack_of_delivery : Kind → ℕ → Setting → List Moment → Option CollectLack
lack_of_delivery kind to s ms =
    if nat_le (newest kind s ms) (position kind ms) then Some (Current (position kind ms)) else (if is_watch_event kind to s ms then None else Some (NotAWrite to))

-- why the move is not possible now
abbrev pub lack : CollectMove → Setting → List Moment → Option CollectLack
lack (User call) s ms = None
lack (Deliver kind to) s ms = lack_of_delivery kind to s ms
lack (Examine key) s ms = if is_to_examine s ms key then None else Some NoOrphan

abbrev pub answer_of : Option CollectLack → ℕ → ℕ → Collected
answer_of (Some why) entries events = NotNow why
answer_of None entries events = if nat_lt entries events then Done else Spent entries

-- a move is made where it is possible now, and one more entry fits
abbrev pub answer : CollectMove → Setting → List Moment → Collected
answer move s ms = answer_of (lack move s ms) (length ms) s.events

-- ---- entries

-- the call is answered as the store answers it
abbrev pub IsStoreReply : Call → Reply → Setting → List Moment → Type 0
IsStoreReply call reply s ms = IsReply s.faults (state s (played ms)) call reply

-- the caches are told up to the write; from below the window they list what the newest accepted write left
abbrev pub delivery_entry : Kind → ℕ → Setting → List Moment → CollectEntry
delivery_entry kind to s ms = if nat_lt (position kind ms) (accepted s (played ms) - s.window) then entries.List kind (accepted s (played ms)) else entries.Deliver kind to

abbrev pub IsDelete : Key → Examination → CollectEntry → Setting → List Moment → Type 0
IsDelete key x e s ms = (reply : Reply) × IsStoreReply (calls.Delete key (Some (version_of x.object))) reply s ms × (e ≡ entries.Delete key (version_of x.object) reply)

abbrev pub IsOwnerLook : Key → OwnerRef → CollectEntry → Setting → List Moment → Type 0
IsOwnerLook key owner e s ms = (reply : Reply) × IsStoreReply (calls.Get (owner_key key.namespace owner)) reply s ms × (e ≡ entries.Look key owner reply)

-- the next owner is looked for; after the last one the object is deleted at the version at which it was seen
abbrev pub IsExamineOf : Key → CollectEntry → Setting → List Moment → Examination → Type 0
IsExamineOf key e s ms x = MatchOption (next_owner x) (IsDelete key x e s ms) (λ owner. IsOwnerLook key owner e s ms)

-- the move makes this entry
abbrev pub IsEntry : CollectMove → CollectEntry → Setting → List Moment → Type 0
IsEntry (User call) e s ms = (reply : Reply) × IsStoreReply call reply s ms × (e ≡ entries.User call reply)
IsEntry (Deliver kind to) e s ms = e ≡ delivery_entry kind to s ms
IsEntry (Examine key) e s ms = MatchOption (current s ms key) ⊥ (IsExamineOf key e s ms)

abbrev pub with_entry : ℤ → CollectEntry → Collecting → Collecting
with_entry now e c = record c { moments = record { now = now; entry = e } ∷ c.moments }

-- what a move leaves: one more entry where it is made, and all as it was where not
abbrev pub LeavesCollected : ℤ → CollectMove → Collecting → Collected → Collecting → Type 0
LeavesCollected now move old Done new = (e : CollectEntry) × on (IsEntry move e) old × (new ≡ with_entry now e old)
LeavesCollected now move old (NotNow why) new = new ≡ old
LeavesCollected now move old (Spent entries) new = new ≡ old

-- each entry was made by a move that was possible
abbrev pub IsCollected : Setting → List Moment → Type 0
IsCollected s [] = Unit {0}
IsCollected s (m ∷ ms) = ((move : CollectMove) × (lack move s ms ≡ None) × IsEntry move m.entry s ms) × IsCollected s ms
