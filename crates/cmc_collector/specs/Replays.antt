-- The calls of a collection, read as a history of calls.
use Rattle.std.specs.Prelude.{ℕ, ℤ, pos, List, [], ◌∷◌, Some}
use Rattle.cmc_objects.specs.declared.call.Call.{Call}
use Rattle.cmc_objects.specs.declared.call.Call.TheVariants as calls
use Rattle.cmc_objects.specs.declared.call.Reply.{Reply}
use Rattle.cmc_objects.specs.declared.entry.Who.TheVariants.{User as ByUser}
use Rattle.cmc_objects.specs.declared.entry.Entry.{Entry}
use Rattle.cmc_objects.specs.declared.entry.Entry.TheVariants.{Call as Called, Tick}
use Rattle.cmc_model.specs.Histories.{Setting, accepted, objects, state}
use Rattle.cmc_model.specs.Objects.{Objects}
use Rattle.cmc_model.specs.Replies.{State}
pub use Rattle.cmc_collect_moves.specs.OwnerKeys.{owner_key}
use Rattle.cmc_collector.specs.declared.entry.CollectEntry.{CollectEntry}
use Rattle.cmc_collector.specs.declared.entry.CollectEntry.TheVariants.{User, Look, Delete}
use Rattle.cmc_collector.specs.declared.entry.Moment.{Moment}

-- what contracts see of a collection
pub record Collecting : Type 0 where
  -- over how many accepted writes a watch reaches back
  pub window : ℕ
  -- the numbers of the store calls that fail
  pub faults : List ℕ
  -- the most entries
  pub events : ℕ
  -- the entries with their moments, the newest first
  pub moments : List Moment

-- a run with no controllers and no script
abbrev pub setting : Collecting → Setting
setting c = record {
  now = pos 0;
  faults = c.faults;
  script = [];
  roles = [];
  window = c.window;
  events = c.events;
  material = [];
  rules = record { issuers = []; refuse = []; policies = [] };
}

-- a word over a setting and moments, said of a collection
abbrev pub on {ℓ} : {A : Type ℓ} → (Setting → List Moment → A) → Collecting → A
on word c = word (setting c) c.moments

-- a call at its moment
abbrev pub with_call_at : ℤ → Call → Reply → List Entry → List Entry
with_call_at now call reply h = Called ByUser call reply ∷ Tick now ∷ h

-- a look is a Get of the owner, a delete names the version; what the caches are told calls nothing
abbrev pub played_with : ℤ → CollectEntry → List Entry → List Entry
played_with now (User call reply) h = with_call_at now call reply h
played_with now (Look key owner reply) h = with_call_at now (calls.Get (owner_key key.namespace owner)) reply h
played_with now (Delete key version reply) h = with_call_at now (calls.Delete key (Some version)) reply h
played_with now other h = h

abbrev pub played : List Moment → List Entry
played [] = []
played (m ∷ ms) = played_with m.now m.entry (played ms)

-- what the store has come to, and the objects that stand in it
abbrev pub store_state : Setting → List Moment → State
store_state s ms = state s (played ms)

abbrev pub stored_objects : Setting → List Moment → Objects
stored_objects s ms = objects s (played ms)

-- how many writes were accepted, each of which may have given out its number as a uid
abbrev pub given_uids : Setting → List Moment → ℕ
given_uids s ms = accepted s (played ms)
