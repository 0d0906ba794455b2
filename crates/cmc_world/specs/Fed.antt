-- What a world keeps of its work queues, and what is known before a move of what the move does to them.
use Rattle.std.specs.Prelude.{◌≡◌, ◌↔◌, ◌≤◌, ℕ, ℤ, ◌+◌, Bool, true, false, ◌&&◌, List, [], ◌∷◌, Option, Some, None, is_none, int_le, nat_le, if◌then◌else◌}
use Rattle.std.specs.List.{list_any}
use Rattle.cmc_meta.specs.declared.key.Key.{Key}
use Rattle.cmc_meta.specs.declared.key.Kind.{Kind}
use Rattle.cmc_meta.specs.Keys.{key_eq}
use Rattle.cmc_objects.specs.declared.entry.Entry.{Entry}
use Rattle.cmc_objects.specs.declared.object.Object.{Object}
use Rattle.cmc_objects.specs.declared.role.Role.{Role}
use Rattle.cmc_objects.specs.Informers.{has_informer, kind_of_work}
use Rattle.cmc_queue.specs.Queues.{has_room, row_of, ChangesRow, ChangesRows, Work}
use Rattle.cmc_queue.specs.declared.row.Found.TheVariants as found
use Rattle.cmc_queue.specs.Rows.{no_row, ticked}
use Rattle.cmc_model.specs.declared.write.Write.{Write}
use Rattle.cmc_model.specs.Histories.{Setting, accepted, moment}
use Rattle.cmc_model.specs.Writes.{is_known, kind_eq, writes}
use Rattle.cmc_rules.specs.declared.effect.Effect.{Effect}
use Rattle.cmc_rules.specs.declared.effect.Effect.TheVariants as effects
use Rattle.cmc_rules.specs.Legality.{IsOpen}
use Rattle.cmc_rules.specs.declared.progress.Ending.{Ending}
use Rattle.cmc_rules.specs.declared.progress.Ending.TheVariants as endings
use Rattle.cmc_rules.specs.Memory.{ending_of, past}
use Rattle.cmc_rules.specs.Passes.{is_pass_of, open_pass}
use Rattle.cmc_rules.specs.Positions.{position, positions}
use Rattle.cmc_rules.specs.Views.{views}
use Rattle.cmc_caches.specs.Affected.{is_among}
use Rattle.cmc_moves.specs.Answers.{AnswersDelivery, delivered, next_effect}
use Rattle.cmc_moves.specs.declared.moves.Move.{Move}
use Rattle.cmc_moves.specs.declared.moves.Move.TheVariants as moves
use Rattle.cmc_moves.specs.declared.moves.Stepped.TheVariants.{Done}
use Rattle.cmc_waking.specs.Feeds.{closed, started}
use Rattle.cmc_waking.specs.Parked.{waits_for}
use Rattle.cmc_waking.specs.Queues.{queue_in, row_at, HasPlaceFor, KeepsOthers}
use Rattle.cmc_waking.specs.WakeUps.{AreTended}
use Rattle.cmc_world.specs.declared.fed_passes.Closing.{Closing}
use Rattle.cmc_world.specs.declared.fed_scripts.Ahead.{Ahead}
use Rattle.cmc_world.specs.declared.fed_scripts.Ahead.TheVariants.{Same, Tick, Stop, Start}

-- the queue of each role is tended as the history says
unfoldable pub IsFed : Setting → List Entry → List Work → Type 0
IsFed s h queues = (role : Role) → AreTended s h role (λ key. row_at queues role key)

-- up to where a delivery tells the role, which is not refused: it is told so far, or lists all that was accepted
pub record IsDeliveredTo (s : Setting) (h : List Entry) (role : Role) (kind : Kind) (to upto : ℕ) : Type 0 where
  pub informed : has_informer role kind ≡ true
  pub above : position h role kind ≤ upto
  pub within : upto ≤ accepted s h
  pub told : nat_le (accepted s h) (position h role kind + s.window) ≡ true → upto ≡ to
  pub listed : nat_le (accepted s h) (position h role kind + s.window) ≡ false → upto ≡ accepted s h

-- none exactly where it is known that the delivery is refused
abbrev pub IsReach : Setting → List Entry → Role → Kind → ℕ → Option ℕ → Type 0
IsReach s h role kind to None = AnswersDelivery s h role kind to Done → ⊥
IsReach s h role kind to (Some upto) = IsDeliveredTo s h role kind to upto

-- once the delivery is made the role sees of each other key what it saw
pub record AreAffected (s : Setting) (h : List Entry) (role : Role) (kind : Kind) (to : ℕ) (keys : List Key) : Type 0 where
  pub work : (key : Key) → is_among keys key ≡ true → key.kind ≡ kind_of_work role
  pub same : (key : Key) → is_among keys key ≡ false → views s (delivered s h role kind to ∷ h) role key ≡ views s h role key

-- ---- a pass that goes on

-- the move is one by which the pass goes on
abbrev pub IsGoing : ℕ → Move → Type 0
IsGoing pass (moves.Next n named) = n ≡ pass
IsGoing pass (moves.Give n named given) = n ≡ pass
IsGoing pass (moves.Decide n named d) = n ≡ pass
IsGoing pass other = ⊥

-- the move is one by which some pass goes on
abbrev pub IsOfSomePass : Move → Type 0
IsOfSomePass step = (pass : ℕ) × IsGoing pass step

-- the role's own write is what the pass ended with
abbrev pub IsWrote : Ending → Type 0
IsWrote endings.Wrote = Unit {0}
IsWrote other = ⊥

-- how the open pass would end
pub record IsClosingOf (s : Setting) (h : List Entry) (pass : ℕ) (c : Closing) : Type 0 where
  pub mine : is_pass_of c.role c.key (open_pass s h pass) ≡ true
  pub ending : c.ending ≡ ending_of (open_pass s h pass)
  pub own : IsWrote c.ending → c.own ≡ (past s h c.role c.key).own
  pub at : c.at ≡ positions h c.role

abbrev pub IsClosingIfOpen : Setting → List Entry → ℕ → Option Closing → Type 0
IsClosingIfOpen s h pass None = open_pass s h pass ≡ None
IsClosingIfOpen s h pass (Some c) = IsClosingOf s h pass c

-- there is room for the key, and for the version that it waits for then
pub record HasRoomsFor (c : Closing) (queues : List Work) : Type 0 where
  pub row : has_room (queue_in queues c.role) c.key ≡ true
  pub place : HasPlaceFor (waits_for c.ending c.own c.at) c.key (queue_in queues c.role)

-- its key has a row
abbrev pub HasRow : Option Closing → List Work → Type 0
HasRow None queues = Unit {0}
HasRow (Some c) queues = has_room (queue_in queues c.role) c.key ≡ true

abbrev pub HasRoomsToEnd : Option Closing → List Work → Type 0
HasRoomsToEnd None queues = Unit {0}
HasRoomsToEnd (Some c) queues = HasRoomsFor c queues

-- while the pass is open the queues are right, and where it has ended they are once its key's row is closed
pub record IsToCloseBy (s : Setting) (h : List Entry) (pass : ℕ) (c : Closing) (queues : List Work) : Type 0 where
  pub stays : IsOpen (open_pass s h pass) → IsFed s h queues
  pub ends : open_pass s h pass ≡ None → (new : List Work) → ChangesRow (closed c.ending c.own c.at) c.key (queue_in queues c.role) (queue_in new c.role) → KeepsOthers c.role queues new → IsFed s h new

abbrev pub IsToClose : Setting → List Entry → ℕ → Option Closing → List Work → Type 0
IsToClose s h pass None queues = IsFed s h queues
IsToClose s h pass (Some c) queues = IsToCloseBy s h pass c queues

-- ---- a step of the script

-- these are the keys of the role's work that the writes named
pub record AreKnownOf (role : Role) (ws : List Write) (keys : List Key) : Type 0 where
  pub work : (key : Key) → is_among keys key ≡ true → key.kind ≡ kind_of_work role
  pub all : (key : Key) → key.kind ≡ kind_of_work role → is_known key ws ≡ true → is_among keys key ≡ true

abbrev pub AreKnownKeys : Setting → List Entry → Role → List Key → Type 0
AreKnownKeys s h role keys = AreKnownOf role (writes s h) keys

-- one of the writes deletes what was under the key
abbrev pub is_deleted : Key → List Write → Bool
is_deleted key ws = list_any (λ w. key_eq w.key key && is_none w.object) ws

-- these are keys of the role's work, and among them each under which one of the writes deletes an object
pub record AreDeletedOf (role : Role) (ws : List Write) (keys : List Key) : Type 0 where
  pub work : (key : Key) → is_among keys key ≡ true → key.kind ≡ kind_of_work role
  pub all : (key : Key) → key.kind ≡ kind_of_work role → is_deleted key ws ≡ true → is_among keys key ≡ true

-- the keys of the role's work among those of these objects
abbrev pub work_among : Role → List (Key × Object) → List Key
work_among role [] = []
work_among role (e ∷ es) = if kind_eq e.0.kind (kind_of_work role) then e.0 ∷ work_among role es else work_among role es

-- what the step brings about changes no queue
abbrev pub IsOfStore : Option Effect → Type 0
IsOfStore None = Unit {0}
IsOfStore (Some (effects.Call call)) = Unit {0}
IsOfStore (Some (effects.Tick now)) = ⊥
IsOfStore (Some (effects.Stop role)) = ⊥
IsOfStore (Some (effects.Start role at)) = ⊥

-- each key of the role's work that a write named is ready in the queue
abbrev pub IsStarting : Setting → List Entry → Role → Work → Type 0
IsStarting s h role queue = (keys : List Key) × AreKnownKeys s h role keys × ((key : Key) → row_of queue key ≡ started (is_among keys key))

-- what the next step of the script does to the queues
abbrev pub IsAhead : Setting → List Entry → Ahead → Type 0
IsAhead s h Same = IsOfStore (next_effect s h)
IsAhead s h Tick = (now : ℤ) × (next_effect s h ≡ Some (effects.Tick now)) × (int_le (moment s h) now ≡ true)
IsAhead s h (Stop role) = next_effect s h ≡ Some (effects.Stop role)
IsAhead s h (Start role queue) = (at : ℕ) × (next_effect s h ≡ Some (effects.Start role at)) × IsStarting s h role queue

-- once this is done the queues are right
abbrev pub IsToTurn : Setting → List Entry → Ahead → List Work → Type 0
IsToTurn s h Same queues = IsFed s h queues
IsToTurn s h Tick queues = (new : List Work) → ((role : Role) → ChangesRows (ticked (moment s h)) (queue_in queues role) (queue_in new role)) → IsFed s h new
IsToTurn s h (Stop role) queues = (new : List Work) → ((key : Key) → row_at new role key ≡ no_row) → KeepsOthers role queues new → IsFed s h new
IsToTurn s h (Start role queue) queues = (new : List Work) → queue_in new role ≡ queue → KeepsOthers role queues new → IsFed s h new
