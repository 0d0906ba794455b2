-- What the parts of a collection tell, in the words of its moments.
use Rattle.std.proofs.Common.{◌≡◌, ℕ, List, [], length, Bool, true, Option, None, refl, sym, ap, subst, ◌∙◌, arith}
use Rattle.std.specs.Prelude.{is_some}
use Rattle.std.specs.FinMap.{get-empty}
use Rattle.cmc_meta.specs.declared.key.Key.{Key}
use Rattle.cmc_meta.specs.declared.key.Kind.{Kind}
use Rattle.cmc_meta.specs.Keys.{key_cmp}
use Rattle.cmc_objects.specs.declared.object.Object.{Object}
use Rattle.cmc_model.specs.declared.write.Write.{Write}
use Rattle.cmc_model.specs.Objects.{object_at}
use Rattle.cmc_model.specs.Replies.{State, empty_store}
use Rattle.cmc_model.specs.Writes.{contents, last_of_kind, of_kind, oldest}
use Rattle.cmc_model.proofs.Writes.{writes_count}
use Rattle.cmc_collector.specs.declared.entry.Moment.{Moment}
use Rattle.cmc_collector.specs.Caches.{AreCachesAt, Informers, informer_object, position_in}
use Rattle.cmc_collector.specs.CachePositions.{is_orphan_in, has_any_owner}
use Rattle.cmc_collector.specs.Examinations.{current, current_of, is_to_examine}
use Rattle.cmc_collector.specs.Kept.{IsCollectorOf}
use Rattle.cmc_collector.specs.Moves.{newest}
use Rattle.cmc_collector.specs.Replays.{Collecting, given_uids, on, played, setting}
use Rattle.cmc_collector.specs.Rows.{Rowed, has_examine_row, examination_under}
use Rattle.cmc_collector.specs.Watched.{Served}
use Rattle.cmc_collector.proofs.Keeping.{held_cached}

-- whether the key is due, by the parts
abbrev pub due_in : Served → Informers → Rowed → Key → Bool
due_in server i rows key = is_some (current_of (examination_under rows key) (is_orphan_in (informer_object i) server.state.accepted key.namespace (informer_object i key)) (informer_object i key))

pub given_is : (c : Collecting) (server : Served) (i : Informers) (rows : Rowed) → IsCollectorOf c server i rows → server.state.accepted ≡ on given_uids c
given_is c server i rows kept = ap (λ (st : State). st.accepted) kept.state_is

pub due_is : (c : Collecting) (server : Served) (i : Informers) (rows : Rowed) → IsCollectorOf c server i rows → due_in server i rows ≡ on is_to_examine c
due_is c server i rows kept = λ j k. is_some (current_of (kept.row_is k j) (is_orphan_in (λ q. held_cached c server i rows q kept j) (given_is c server i rows kept j) k.namespace (held_cached c server i rows k kept j)) (held_cached c server i rows k kept j))

pub current_is : (c : Collecting) (server : Served) (i : Informers) (rows : Rowed) (k : Key) → IsCollectorOf c server i rows
    → current_of (examination_under rows k) (is_orphan_in (informer_object i) server.state.accepted k.namespace (informer_object i k)) (informer_object i k) ≡ on current c k
current_is c server i rows k kept = λ j. current_of (kept.row_is k j) (is_orphan_in (λ q. held_cached c server i rows q kept j) (given_is c server i rows kept j) k.namespace (held_cached c server i rows k kept j)) (held_cached c server i rows k kept j)

-- each object with owners that a cache holds has its row
pub held_covered : (c : Collecting) (server : Served) (i : Informers) (rows : Rowed) → IsCollectorOf c server i rows → (k : Key) → has_any_owner (informer_object i k) ≡ true → has_examine_row rows k ≡ true
held_covered c server i rows kept k owned = kept.covered k (sym (ap has_any_owner (held_cached c server i rows k kept)) ∙ owned)

pub newest_is : (kind : Kind) (c : Collecting) (server : Served) (i : Informers) (rows : Rowed) → IsCollectorOf c server i rows → last_of_kind kind server.writes ≡ on (newest kind) c
newest_is kind c server i rows kept = ap (last_of_kind kind) kept.writes_are

pub count_is : (c : Collecting) (server : Served) (i : Informers) (rows : Rowed) → IsCollectorOf c server i rows → length server.writes ≡ on given_uids c
count_is c server i rows kept = ap (λ (ws : List Write). length ws) kept.writes_are ∙ writes_count (setting c) (played c.moments)

-- ---- the beginning

none_held : (key : Key) → object_at (contents (of_kind key.kind (oldest 0 []))) key ≡ None
unfolding contents oldest
none_held key = get-empty key_cmp key

none_owned : (found : Option Object) → found ≡ None → has_any_owner found ≡ true → ⊥
none_owned found none owned = let off = ap has_any_owner none in cc (off, owned)

pub new_kept : (window events : ℕ) (faults : List ℕ) (server : Served) (i : Informers) (rows : Rowed) (ms : List Moment) → server ≡ record { faults = faults; window = window; state = empty_store; writes = [] }
    → AreCachesAt i [] → ((kind : Kind) → position_in kind i ≡ 0) → ((k : Key) → examination_under rows k ≡ None) → ms ≡ []
    → IsCollectorOf (record { window = server.window; faults = server.faults; events = events; moments = ms }) server i rows
new_kept window events faults server i rows ms is told at none start =
    subst (λ (ns : List Moment). IsCollectorOf (record { window = server.window; faults = server.faults; events = events; moments = ns }) server i rows) (sym start)
    (subst (λ (s : Served). IsCollectorOf (record { window = s.window; faults = s.faults; events = events; moments = [] }) s i rows) (sym is) (record {
      state_is = refl;
      writes_are = refl;
      told = told;
      position_is = at;
      row_is = none;
      covered = λ key owned. absurd (none_owned _ (none_held key) owned);
      collected = tt;
      fits = omega arith;
    }))
