-- The same of the parts as the code has them.
use Rattle.std.proofs.Common.{◌≡◌, ℕ, ℤ, ◌≤◌, ◌<◌, ◌-◌, List, [], ◌∷◌, length, Bool, true, false, Option, Some, None, refl, sym, ap, subst, ◌∙◌, arith}
use Rattle.std.specs.Prelude.{if◌then◌else◌, nat_lt}
use Rattle.cmc_meta.specs.declared.key.Key.{Key}
use Rattle.cmc_meta.specs.declared.key.Kind.{Kind}
use Rattle.cmc_meta.specs.declared.owners.OwnerRef.{OwnerRef}
use Rattle.cmc_meta.specs.Keys.{key_eq}
use Rattle.cmc_objects.specs.declared.call.Call.{Call}
use Rattle.cmc_objects.specs.declared.call.Call.TheVariants as calls
use Rattle.cmc_objects.specs.declared.call.Reply.{Reply}
use Rattle.cmc_objects.specs.Objects.{version_of}
use Rattle.cmc_model.specs.Replies.{State, IsReply}
use Rattle.cmc_model.specs.Histories.{Setting, state}
use Rattle.cmc_collector.specs.declared.entry.CollectEntry.{CollectEntry}
use Rattle.cmc_collector.specs.declared.entry.CollectEntry.TheVariants as entries
use Rattle.cmc_collector.specs.declared.entry.Moment.{Moment}
use Rattle.cmc_collector.specs.declared.examination.Examination.{Examination}
use Rattle.cmc_collector.specs.Caches.{AreCachesAt, Informers, Moves, informer_object}
use Rattle.cmc_collector.specs.CachePositions.{has_any_owner, position}
use Rattle.cmc_collector.specs.Examinations.{current, examined_after, next_owner}
use Rattle.cmc_collector.specs.Kept.{IsCollectorOf}
use Rattle.cmc_collector.specs.Moves.{IsStoreReply, lack_of_delivery, delivery_entry, with_entry}
use Rattle.cmc_collector.specs.Replays.{Collecting, given_uids, on, owner_key, played, setting}
use Rattle.cmc_collector.specs.Rows.{AreCovered, Rowed, has_examine_row, examination_under}
use Rattle.cmc_collector.specs.Watched.{Served, after_call}
use Rattle.std.proofs.lemmas.Bool.{and_parts}
use Rattle.std.proofs.lemmas.Bool.Decides.{nat_tests}
use Rattle.std.specs.BTreeMap.{is_at}
use Rattle.std.specs.List.{list_any}
use Rattle.cmc_meta.specs.Keys.{key_cmp}
use Rattle.cmc_model.specs.Writes.{write_at, writes}
use Rattle.cmc_informer.specs.Indexes.{AreKeys}
use Rattle.cmc_informer.specs.Watches.{is_changed}
use Rattle.cmc_collector.specs.Caches.{position_in, position_after}
use Rattle.cmc_collector.specs.Moves.{is_of_kind}
use Rattle.cmc_collector.proofs.Keeping.{called_kept, deleted_kept, delivered_kept, looked_kept, still_covered}
use Rattle.cmc_collector.proofs.Promise.{is_told_news, news_within}
use Rattle.std.specs.Prelude.{is_some}
use Rattle.cmc_model.specs.declared.write.Write.{Write}
use Rattle.cmc_informer.specs.Watches.{Watched, start_of}
use Rattle.cmc_collector.specs.CachePositions.{is_orphan_in}
use Rattle.cmc_collector.specs.Examinations.{current_of, is_to_examine}
use Rattle.cmc_collector.specs.Settles.{FindsDue, FindsLeast}
use Rattle.cmc_collector.proofs.Firsts.{due_has_row, due_test}
use Rattle.cmc_collector.proofs.Reading.{count_is, current_is, due_is, held_covered}

-- what contracts see of a collection of these parts
abbrev pub seen : Served → ℕ → List Moment → Collecting
seen server events ms = record { window = server.window; faults = server.faults; events = events; moments = ms }

pub answered : (events : ℕ) (server : Served) (i : Informers) (rows : Rowed) (ms : List Moment) (call : Call) (reply : Reply) → IsCollectorOf (seen server events ms) server i rows
    → IsReply server.faults server.state call reply → on (IsStoreReply call reply) (seen server events ms)
answered events server i rows ms call reply kept right = subst (λ (st : State). IsReply server.faults st call reply) kept.state_is right

-- the parts after the change are these
put : (events : ℕ) (was new : Served) (i : Informers) (rows : Rowed) (ms more : List Moment) → new ≡ was → more ≡ ms → IsCollectorOf (seen was events ms) was i rows → IsCollectorOf (seen new events more) new i rows
put events was new i rows ms more is are kept =
    subst (λ (ns : List Moment). IsCollectorOf (seen new events ns) new i rows) (sym are) (subst (λ (n : Served). IsCollectorOf (seen n events ms) n i rows) (sym is) kept)

pub called_seen : (events : ℕ) (server new : Served) (i : Informers) (rows : Rowed) (ms more : List Moment) (now : ℤ) (call : Call) (reply : Reply) → IsCollectorOf (seen server events ms) server i rows
    → IsReply server.faults server.state call reply → new ≡ after_call now call reply server → more ≡ record { now = now; entry = entries.User call reply } ∷ ms → length ms < events
    → IsCollectorOf (seen new events more) new i rows
called_seen events server new i rows ms more now call reply kept right is are room =
    put events (after_call now call reply server) new i rows (record { now = now; entry = entries.User call reply } ∷ ms) more is are
    (called_kept (seen server events ms) server i rows now call reply kept (answered events server i rows ms call reply kept right) room)

pub looked_seen : (events : ℕ) (server new : Served) (i : Informers) (rows next : Rowed) (ms more : List Moment) (now : ℤ) (key : Key) (x : Examination) (owner : OwnerRef) (reply : Reply) → IsCollectorOf (seen server events ms) server i rows
    → on current (seen server events ms) key ≡ Some x → next_owner x ≡ Some owner
    → IsReply server.faults server.state (calls.Get (owner_key key.namespace owner)) reply → new ≡ after_call now (calls.Get (owner_key key.namespace owner)) reply server
    → more ≡ record { now = now; entry = entries.Look key owner reply } ∷ ms → length ms < events
    → ((k : Key) → examination_under next k ≡ (if key_eq key k then examined_after owner reply x else examination_under rows k)) → ((k : Key) → has_examine_row next k ≡ has_examine_row rows k)
    → IsCollectorOf (seen new events more) new i next
looked_seen events server new i rows next ms more now key x owner reply kept going at right is are room changed same =
    put events (after_call now (calls.Get (owner_key key.namespace owner)) reply server) new i next (record { now = now; entry = entries.Look key owner reply } ∷ ms) more is are
    (looked_kept (seen server events ms) server i rows next now key x owner reply kept going at (answered events server i rows ms (calls.Get (owner_key key.namespace owner)) reply kept right) room changed same)

pub deleted_seen : (events : ℕ) (server new : Served) (i : Informers) (rows next : Rowed) (ms more : List Moment) (now : ℤ) (key : Key) (x : Examination) (reply : Reply) → IsCollectorOf (seen server events ms) server i rows
    → on current (seen server events ms) key ≡ Some x → next_owner x ≡ None
    → IsReply server.faults server.state (calls.Delete key (Some (version_of x.object))) reply → new ≡ after_call now (calls.Delete key (Some (version_of x.object))) reply server
    → more ≡ record { now = now; entry = entries.Delete key (version_of x.object) reply } ∷ ms → length ms < events
    → ((k : Key) → examination_under next k ≡ (if key_eq key k then None else examination_under rows k)) → ((k : Key) → has_examine_row next k ≡ has_examine_row rows k)
    → IsCollectorOf (seen new events more) new i next
deleted_seen events server new i rows next ms more now key x reply kept going at right is are room changed same =
    put events (after_call now (calls.Delete key (Some (version_of x.object))) reply server) new i next (record { now = now; entry = entries.Delete key (version_of x.object) reply } ∷ ms) more is are
    (deleted_kept (seen server events ms) server i rows next now key x reply kept going at (answered events server i rows ms (calls.Delete key (Some (version_of x.object))) reply kept right) room changed same)

-- ---- the store's calls are fewer than the entries

more_calls : (s : Setting) (m : Moment) (ms : List Moment) → (state s (played ms)).calls ≤ length ms → (state s (played (m ∷ ms))).calls ≤ length (m ∷ ms)
more_calls s m ms low = by m.entry where
  by : (e : CollectEntry) → (state s (played (record { now = m.now; entry = e } ∷ ms))).calls ≤ length (m ∷ ms)
  by (entries.User call reply) = omega (arith, low)
  by (entries.Deliver kind to) = omega (arith, low)
  by (entries.List kind to) = omega (arith, low)
  by (entries.Look key owner reply) = omega (arith, low)
  by (entries.Delete key version reply) = omega (arith, low)

pub calls_low : (s : Setting) (ms : List Moment) → (state s (played ms)).calls ≤ length ms
calls_low s [] = omega arith
calls_low s (m ∷ ms) = more_calls s m ms (calls_low s ms)

pub calls_fit : (events : ℕ) (server : Served) (i : Informers) (rows : Rowed) (ms : List Moment) → IsCollectorOf (seen server events ms) server i rows → server.state.calls ≤ length ms
calls_fit events server i rows ms kept = subst (λ (st : State). st.calls ≤ length ms) (sym kept.state_is) (calls_low (setting (seen server events ms)) ms)

-- ---- deliveries

ahead_by : (below : Bool) (p to n : ℕ) → p < to → to ≤ n → p ≤ (if below then n else to)
ahead_by true p to n low within = omega (arith, low, within)
ahead_by false p to n low within = omega (arith, low)

-- what may be told lies above the position and within the writes
pub may_tell : (c : Collecting) (kind : Kind) (to : ℕ) → on (lack_of_delivery kind to) c ≡ None → (position kind c.moments < to) × (to ≤ on given_uids c)
may_tell c kind to may =
    let news = is_told_news (setting c) c.moments kind to may in
    let parts = and_parts (nat_lt (position kind c.moments) to) (is_of_kind kind (write_at to (writes (setting c) (played c.moments)))) news in
    let above : position kind c.moments < to = grind (arith, nat_tests) in
    (above, news_within (setting c) c.moments kind to news)

start_is : (events : ℕ) (server : Served) (i : Informers) (rows : Rowed) (ms : List Moment) (watch : Watched) → IsCollectorOf (seen server events ms) server i rows → watch.writes ≡ server.writes → watch.window ≡ server.window
    → start_of watch ≡ on given_uids (seen server events ms) - server.window
start_is events server i rows ms watch kept writes_are window_is =
    ap (λ (ws : List Write). length ws - watch.window) writes_are ∙ ap (λ (n : ℕ). length server.writes - n) window_is ∙ ap (λ (n : ℕ). n - server.window) (count_is (seen server events ms) server i rows kept)

-- where the informer comes to, in the words of the moments
place_is : (events : ℕ) (server : Served) (i : Informers) (rows : Rowed) (ms : List Moment) (watch : Watched) (kind : Kind) (to : ℕ) → IsCollectorOf (seen server events ms) server i rows → watch.writes ≡ server.writes
    → watch.window ≡ server.window
    → position_after (position_in kind i) to watch ≡ (if nat_lt (position kind ms) (on given_uids (seen server events ms) - server.window) then on given_uids (seen server events ms) else to)
place_is events server i rows ms watch kind to kept writes_are window_is =
    ap (λ (n : ℕ). if nat_lt (position_in kind i) n then length watch.writes else to) (start_is events server i rows ms watch kept writes_are window_is)
    ∙ ap (λ (n : ℕ). if nat_lt (position_in kind i) (on given_uids (seen server events ms) - server.window) then n else to) (ap (λ (ws : List Write). length ws) writes_are ∙ count_is (seen server events ms) server i rows kept)
    ∙ ap (λ (n : ℕ). if nat_lt n (on given_uids (seen server events ms) - server.window) then on given_uids (seen server events ms) else to) (kept.position_is kind)

pub delivered_seen : (events : ℕ) (server : Served) (i new : Informers) (rows next : Rowed) (watch : Watched) (ms more : List Moment) (now : ℤ) (kind : Kind) (to : ℕ) (e : CollectEntry)
    → IsCollectorOf (seen server events ms) server i rows → on (lack_of_delivery kind to) (seen server events ms) ≡ None → e ≡ on (delivery_entry kind to) (seen server events ms)
    → more ≡ record { now = now; entry = e } ∷ ms → length ms < events → watch.writes ≡ server.writes → watch.window ≡ server.window
    → AreCachesAt new watch.writes → Moves kind (position_after (position_in kind i) to watch) i new
    → ((k : Key) → examination_under next k ≡ examination_under rows k) → AreCovered new next
    → IsCollectorOf (seen server events more) server new next
delivered_seen events server i new rows next watch ms more now kind to e kept may entry are room writes_are window_is after moves same covered =
    let c : Collecting = seen server events ms in
    subst (λ (ns : List Moment). IsCollectorOf (seen server events ns) server new next) (sym are)
    (delivered_kept c server i new rows next now kind to (position_after (position_in kind i) to watch) e kept may entry (place_is events server i rows ms watch kind to kept writes_are window_is) room
    (subst (λ (ws : List Write). AreCachesAt new ws) writes_are after) moves same covered)

-- with rows for what changed, and rows given up where nothing with owners is held, each object with owners has its row
pub told_covered : (i new : Informers) (rows made next : Rowed) (watch : Watched) (kind : Kind) (to from at : ℕ) (keys : List Key)
    → AreCachesAt i watch.writes → AreCachesAt new watch.writes → position_in kind i < to → to ≤ length watch.writes → from ≡ position_in kind i → at ≡ position_after from to watch
    → Moves kind (position_after (position_in kind i) to watch) i new → AreKeys keys (λ k. is_changed kind from at watch.writes k) → AreCovered i rows
    → ((k : Key) → list_any (is_at (key_cmp k)) keys ≡ true → has_examine_row made k ≡ true) → ((k : Key) → has_examine_row rows k ≡ true → has_examine_row made k ≡ true)
    → ((k : Key) → has_any_owner (informer_object new k) ≡ true → has_examine_row made k ≡ true → has_examine_row next k ≡ true)
    → AreCovered new next
told_covered i new rows made next watch kind to from at keys told after above within start place moves changed old roomy keeps stays k owned =
    let place_is : at ≡ position_after (position_in kind i) to watch = place ∙ ap (λ (n : ℕ). position_after n to watch) start in
    let ahead : position_in kind i ≤ at =
    subst (λ (n : ℕ). position_in kind i ≤ n) (sym place_is) (ahead_by (nat_lt (position_in kind i) (start_of watch)) (position_in kind i) to (length watch.writes) above within) in
    stays k owned
    (still_covered i new watch.writes kind at rows made keys told after ahead (subst (λ (n : ℕ). Moves kind n i new) (sym place_is) moves)
    (subst (λ (n : ℕ). AreKeys keys (λ k. is_changed kind n at watch.writes k)) start changed) old keeps roomy k owned)

-- ---- what is due

pub found_due : (events : ℕ) (server : Served) (i : Informers) (rows es : Rowed) (ms : List Moment) (n : ℕ) (v : Collecting) (key : Option Key) → IsCollectorOf (seen server events ms) server i rows
    → es ≡ rows → n ≡ server.state.accepted → seen server events ms ≡ v → FindsLeast (due_test es (informer_object i) n) key → on (FindsDue key) v
found_due events server i rows es ms n v key kept same count view finds =
    let mine : FindsLeast (due_test rows (informer_object i) server.state.accepted) key =
    subst (λ (m : ℕ). FindsLeast (due_test rows (informer_object i) m) key) count (subst (λ (r : Rowed). FindsLeast (due_test r (informer_object i) n) key) same finds) in
    subst (λ (c : Collecting). on (FindsDue key) c) view (subst (λ (t : Key → Bool). FindsLeast t key) (due_is (seen server events ms) server i rows kept) mine)

pub found_current : (events : ℕ) (server : Served) (i : Informers) (rows : Rowed) (ms : List Moment) (n : ℕ) (v : Collecting) (key : Key) (row x : Option Examination) → IsCollectorOf (seen server events ms) server i rows
    → row ≡ examination_under rows key → n ≡ server.state.accepted → seen server events ms ≡ v → x ≡ current_of row (is_orphan_in (informer_object i) n key.namespace (informer_object i key)) (informer_object i key) → x ≡ on current v key
found_current events server i rows ms n v key row x kept same count view is =
    is
    ∙ ap (λ (r : Option Examination). current_of r (is_orphan_in (informer_object i) n key.namespace (informer_object i key)) (informer_object i key)) same
    ∙ ap (λ (m : ℕ). current_of (examination_under rows key) (is_orphan_in (informer_object i) m key.namespace (informer_object i key)) (informer_object i key)) count
    ∙ current_is (seen server events ms) server i rows key kept
    ∙ ap (λ (c : Collecting). on current c key) view

pub found_is_due : (events : ℕ) (server : Served) (i : Informers) (rows : Rowed) (ms : List Moment) (n : ℕ) (v : Collecting) (key : Key) (row : Option Examination) (due : Bool) → IsCollectorOf (seen server events ms) server i rows
    → row ≡ examination_under rows key → n ≡ server.state.accepted → seen server events ms ≡ v → due ≡ is_some (current_of row (is_orphan_in (informer_object i) n key.namespace (informer_object i key)) (informer_object i key)) → due ≡ on is_to_examine v key
found_is_due events server i rows ms n v key row due kept same count view is = is ∙ ap is_some (found_current events server i rows ms n v key row _ kept same count view refl)

-- the key of an examination that goes on or begins has a row
pub current_row : (events : ℕ) (server : Served) (i : Informers) (rows : Rowed) (ms : List Moment) (key : Key) (x : Examination) → IsCollectorOf (seen server events ms) server i rows → on current (seen server events ms) key ≡ Some x
    → has_examine_row rows key ≡ true
current_row events server i rows ms key x kept is =
    due_has_row rows (informer_object i) server.state.accepted (held_covered (seen server events ms) server i rows kept) key
    (ap (λ (t : Key → Bool). t key) (due_is (seen server events ms) server i rows kept) ∙ ap is_some is)

-- ---- what a cache is told

pub tells_list : (events : ℕ) (server : Served) (i : Informers) (rows : Rowed) (ms : List Moment) (watch : Watched) (v : Collecting) (position start : ℕ) → IsCollectorOf (seen server events ms) server i rows
    → watch.writes ≡ server.writes → watch.window ≡ server.window → start ≡ start_of watch → seen server events ms ≡ v → position < start → nat_lt position (on given_uids v - v.window) ≡ true
tells_list events server i rows ms watch v position start kept writes_are window_is from view below =
    let is : start ≡ on given_uids (seen server events ms) - server.window = from ∙ start_is events server i rows ms watch kept writes_are window_is in
    let low : position < on given_uids (seen server events ms) - server.window = subst (λ (n : ℕ). position < n) is below in
    subst (λ (c : Collecting). nat_lt position (on given_uids c - c.window) ≡ true) view (grind (arith, nat_tests))

pub tells_on : (events : ℕ) (server : Served) (i : Informers) (rows : Rowed) (ms : List Moment) (watch : Watched) (v : Collecting) (position start : ℕ) → IsCollectorOf (seen server events ms) server i rows
    → watch.writes ≡ server.writes → watch.window ≡ server.window → start ≡ start_of watch → seen server events ms ≡ v → start ≤ position → nat_lt position (on given_uids v - v.window) ≡ false
tells_on events server i rows ms watch v position start kept writes_are window_is from view above =
    let is : start ≡ on given_uids (seen server events ms) - server.window = from ∙ start_is events server i rows ms watch kept writes_are window_is in
    let high : on given_uids (seen server events ms) - server.window ≤ position = subst (λ (n : ℕ). n ≤ position) is above in
    subst (λ (c : Collecting). nat_lt position (on given_uids c - c.window) ≡ false) view (grind (arith, nat_tests))

pub accepted_is : (events : ℕ) (server : Served) (i : Informers) (rows : Rowed) (ms : List Moment) (watch : Watched) (v : Collecting) (n : ℕ) → IsCollectorOf (seen server events ms) server i rows
    → watch.writes ≡ server.writes → n ≡ length watch.writes → seen server events ms ≡ v → n ≡ on given_uids v
accepted_is events server i rows ms watch v n kept writes_are count view =
    count ∙ ap (λ (ws : List Write). length ws) writes_are ∙ count_is (seen server events ms) server i rows kept ∙ ap (λ (c : Collecting). on given_uids c) view

pub then_is : {A : Type 0} (b : Bool) (a x y : A) → b ≡ true → a ≡ x → a ≡ (if b then x else y)
then_is true a x y on_it is = is
then_is false a x y on_it is = absurd (cc on_it)

pub else_is : {A : Type 0} (b : Bool) (a x y : A) → b ≡ false → a ≡ y → a ≡ (if b then x else y)
else_is true a x y off is = absurd (cc off)
else_is false a x y off is = is

-- what contracts see after an entry
pub grown : (events : ℕ) (server new : Served) (ms more : List Moment) (v : Collecting) (now : ℤ) (call : Call) (reply : Reply) (e : CollectEntry) → new ≡ after_call now call reply server
    → more ≡ record { now = now; entry = e } ∷ ms → seen server events ms ≡ v → seen new events more ≡ with_entry now e v
grown events server new ms more v now call reply e is are view =
    ap (λ (s : Served). seen s events more) is ∙ ap (λ (ns : List Moment). seen (after_call now call reply server) events ns) are ∙ ap (with_entry now e) view

pub room_in : (events : ℕ) (server : Served) (ms : List Moment) (v : Collecting) → seen server events ms ≡ v → length v.moments < v.events → length ms < events
room_in events server ms v view room = subst (λ (c : Collecting). length c.moments < c.events) (sym view) room

-- a delete at a version that is the one that was seen
pub deleted_at : (events : ℕ) (server new : Served) (i : Informers) (rows next : Rowed) (ms more : List Moment) (now : ℤ) (key : Key) (x : Examination) (n : ℕ) (reply : Reply) → n ≡ version_of x.object → IsCollectorOf (seen server events ms) server i rows
    → on current (seen server events ms) key ≡ Some x → next_owner x ≡ None
    → IsReply server.faults server.state (calls.Delete key (Some n)) reply → new ≡ after_call now (calls.Delete key (Some n)) reply server
    → more ≡ record { now = now; entry = entries.Delete key n reply } ∷ ms → length ms < events
    → ((k : Key) → examination_under next k ≡ (if key_eq key k then None else examination_under rows k)) → ((k : Key) → has_examine_row next k ≡ has_examine_row rows k)
    → IsCollectorOf (seen new events more) new i next
deleted_at events server new i rows next ms more now key x n reply version kept going at right is are room changed same =
    deleted_seen events server new i rows next ms more now key x reply kept going at (subst (λ (v : ℕ). IsReply server.faults server.state (calls.Delete key (Some v)) reply) version right)
    (is ∙ ap (λ (v : ℕ). after_call now (calls.Delete key (Some v)) reply server) version) (are ∙ ap (λ (v : ℕ). record { now = now; entry = entries.Delete key v reply } ∷ ms) version) room changed same

pub going_in : (events : ℕ) (server : Served) (ms : List Moment) (v : Collecting) (key : Key) (x : Examination) → seen server events ms ≡ v → on current v key ≡ Some x → on current (seen server events ms) key ≡ Some x
going_in events server ms v key x view going = subst (λ (c : Collecting). on current c key ≡ Some x) (sym view) going
