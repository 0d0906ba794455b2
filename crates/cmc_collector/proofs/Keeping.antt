-- What a collection keeps of its parts, as it makes its moves.
use Rattle.std.proofs.Common.{◌≡◌, ℕ, ℤ, ◌≤◌, ◌<◌, ◌-◌, List, ◌∷◌, length, Bool, true, false, Option, Some, None, refl, sym, ap, subst, ◌∙◌, arith}
use Rattle.std.proofs.lemmas.Bool.Decides.{nat_tests}
use Rattle.std.specs.Prelude.{MatchOption, if◌then◌else◌, ◌&&◌, nat_lt, is_some}
use Rattle.std.specs.BTreeMap.{is_at}
use Rattle.std.specs.List.{list_any}
use Rattle.cmc_meta.specs.declared.key.Key.{Key}
use Rattle.cmc_meta.specs.declared.key.Kind.{Kind}
use Rattle.cmc_meta.specs.declared.key.Kind.TheVariants.{Certificate, CertificateRequest, Secret}
use Rattle.cmc_meta.specs.declared.owners.OwnerRef.{OwnerRef}
use Rattle.cmc_meta.specs.Keys.{key_cmp, key_eq}
use Rattle.cmc_objects.specs.declared.call.Call.{Call}
use Rattle.cmc_objects.specs.declared.call.Call.TheVariants as calls
use Rattle.cmc_objects.specs.declared.call.Reply.{Reply}
use Rattle.cmc_objects.specs.declared.entry.Who.TheVariants.{User as ByUser}
use Rattle.cmc_objects.specs.declared.entry.Entry.{Entry}
use Rattle.cmc_objects.specs.declared.entry.Entry.TheVariants.{Call as Called, Tick}
use Rattle.cmc_objects.specs.Objects.{version_of}
use Rattle.cmc_model.specs.declared.write.Write.{Write}
use Rattle.cmc_model.specs.Objects.{Objects, object_at}
use Rattle.cmc_model.specs.Replies.{State, is_accepted, settled, state_after}
use Rattle.cmc_model.specs.Histories.{Setting, accepted, state}
use Rattle.cmc_model.specs.Writes.{contents, kind_eq, last_under, objects_of, of_kind, oldest, write_of, writes}
use Rattle.cmc_model.proofs.Writes.{objects_of-older, oldest-older}
use Rattle.cmc_informer.specs.Indexes.{AreKeys}
use Rattle.cmc_informer.specs.Informers.{Informed}
use Rattle.cmc_informer.specs.Watches.{is_changed}
use Rattle.cmc_informer.proofs.OneMark.{equal_key}
use Rattle.cmc_collector.specs.declared.entry.CollectEntry.{CollectEntry}
use Rattle.cmc_collector.specs.declared.entry.CollectEntry.TheVariants as entries
use Rattle.cmc_collector.specs.declared.entry.Moment.{Moment}
use Rattle.cmc_collector.specs.declared.examination.Examination.{Examination}
use Rattle.cmc_collect_moves.specs.declared.moves.CollectMove.TheVariants.{User, Deliver, Examine}
use Rattle.cmc_collect_moves.specs.declared.moves.CollectLack.TheVariants.{NoOrphan}
use Rattle.cmc_collector.specs.Caches.{AreCachesAt, Informers, IsInformerOf, Moves, informer_object, informer_of, position_in}
use Rattle.cmc_collector.specs.CachePositions.{cached_object, has_any_owner, position}
use Rattle.cmc_collector.specs.Examinations.{current, examination, is_to_examine, examined_after, looked_from, next_owner}
use Rattle.cmc_collector.specs.Kept.{IsCollectorOf}
use Rattle.cmc_collector.specs.Moves.{IsStoreReply, IsCollected, IsDelete, IsEntry, IsExamineOf, IsOwnerLook, lack_of_delivery, delivery_entry, with_entry}
use Rattle.cmc_collector.specs.Replays.{Collecting, with_call_at, on, owner_key, played, setting}
use Rattle.cmc_collector.specs.Rows.{Rowed, has_examine_row, examination_under}
use Rattle.cmc_collector.specs.Watched.{Served, after_call}
use Rattle.cmc_collector.proofs.Promise.{laws}
use Rattle.cmc_collector.proofs.Unchanged.{kind_same, kind_self, unchanged}

-- ---- the caches as the moments say them

pub told_of : (kind : Kind) (i : Informers) (ws : List Write) → AreCachesAt i ws → IsInformerOf kind (informer_of kind i) ws
told_of Certificate i ws told = told.certificates
told_of CertificateRequest i ws told = told.requests
told_of Secret i ws told = told.secrets

-- an informer holds what the writes of its kind up to its position left
pub held_at : (i : Informers) (ws : List Write) (key : Key) → AreCachesAt i ws → informer_object i key ≡ object_at (contents (of_kind key.kind (oldest (position_in key.kind i) ws))) key
held_at i ws key told =
    let one = told_of key.kind i ws told in
    ap (λ (m : Objects). object_at m key) one.told ∙ ap (λ (k : Kind). object_at (contents (of_kind k (oldest (position_in key.kind i) ws))) key) one.kind_is

pub now_held : (i : Informers) (old ws : List Write) (key : Key) (p : ℕ) → AreCachesAt i old → old ≡ ws → position_in key.kind i ≡ p → informer_object i key ≡ object_at (contents (of_kind key.kind (oldest p ws))) key
now_held i old ws key p told same at =
    held_at i old key told
    ∙ ap (λ (l : List Write). object_at (contents (of_kind key.kind (oldest (position_in key.kind i) l))) key) same
    ∙ ap (λ (n : ℕ). object_at (contents (of_kind key.kind (oldest n ws))) key) at

pub held_cached : (c : Collecting) (server : Served) (i : Informers) (rows : Rowed) (key : Key) → IsCollectorOf c server i rows → informer_object i key ≡ on cached_object c key
held_cached c server i rows key kept = now_held i server.writes (writes (setting c) (played c.moments)) key (position key.kind c.moments) kept.told kept.writes_are (kept.position_is key.kind)

-- ---- one call more

one_told : (b : Bool) (kind : Kind) (informer : Informed) (w : Write) (ws : List Write) → IsInformerOf kind informer ws → IsInformerOf kind informer (if b then w ∷ ws else ws)
one_told true kind informer w ws is = record {
  kind_is = is.kind_is;
  within = let low = is.within in omega (arith, low);
  told = is.told ∙ ap (λ (l : List Write). contents (of_kind informer.kind l)) (sym (oldest-older informer.position w ws is.within));
}
one_told false kind informer w ws is = is

call_told : (b : Bool) (i : Informers) (w : Write) (ws : List Write) → AreCachesAt i ws → AreCachesAt i (if b then w ∷ ws else ws)
call_told b i w ws told = record {
  certificates = one_told b Certificate i.certificates w ws told.certificates;
  requests = one_told b CertificateRequest i.requests w ws told.requests;
  secrets = one_told b Secret i.secrets w ws told.secrets;
}

-- what each call leaves
record CallParts (c : Collecting) (server : Served) (i : Informers) (now : ℤ) (call : Call) (reply : Reply) : Type 0 where
  pub state_is : (after_call now call reply server).state ≡ state (setting c) (with_call_at now call reply (played c.moments))
  pub writes_are : (after_call now call reply server).writes ≡ writes (setting c) (with_call_at now call reply (played c.moments))
  pub told : AreCachesAt i (after_call now call reply server).writes
  pub cached_is : (key : Key) → object_at (objects_of key.kind (setting c) (with_call_at now call reply (played c.moments)) (position key.kind c.moments)) key ≡ on cached_object c key

call_parts : (c : Collecting) (server : Served) (i : Informers) (rows : Rowed) (now : ℤ) (call : Call) (reply : Reply) → IsCollectorOf c server i rows → CallParts c server i now call reply
call_parts c server i rows now call reply kept =
    let s : Setting = setting c in
    let h : List Entry = played c.moments in
    let all = laws s c.moments kept.collected in
    record {
      state_is = ap (λ (st : State). state_after now st call reply) kept.state_is;
      writes_are = λ j. if is_accepted reply then write_of now (kept.state_is j) (settled call reply) ∷ kept.writes_are j else kept.writes_are j;
      told = call_told (is_accepted reply) i (write_of now server.state (settled call reply)) server.writes kept.told;
      cached_is = λ key. ap (λ (m : Objects). object_at m key) (objects_of-older key.kind s (Called ByUser call reply) (Tick now ∷ h) (position key.kind c.moments) (all.low key.kind));
    }

pub called_kept : (c : Collecting) (server : Served) (i : Informers) (rows : Rowed) (now : ℤ) (call : Call) (reply : Reply) → IsCollectorOf c server i rows → on (IsStoreReply call reply) c → length c.moments < c.events
    → IsCollectorOf (with_entry now (entries.User call reply) c) (after_call now call reply server) i rows
called_kept c server i rows now call reply kept answer room =
    let parts = call_parts c server i rows now call reply kept in
    record {
      state_is = parts.state_is;
      writes_are = parts.writes_are;
      told = parts.told;
      position_is = kept.position_is;
      row_is = kept.row_is;
      covered = λ key owned. kept.covered key (sym (ap has_any_owner (parts.cached_is key)) ∙ owned);
      collected = ((User call, refl, (reply, answer, refl)), kept.collected);
      fits = omega (arith, room);
    }

-- ---- looks and deletes

row_looked : (b : Bool) (s : Setting) (ms : List Moment) (key k : Key) (owner : OwnerRef) (reply : Reply) (x : Examination) (was is : Option Examination) → key_eq key k ≡ b → current s ms key ≡ Some x
    → was ≡ examination s ms k → is ≡ (if b then examined_after owner reply x else was) → is ≡ (if b then looked_from owner reply (current s ms k) else examination s ms k)
row_looked true s ms key k owner reply x was is same going old new =
    new ∙ ap (looked_from owner reply) (sym going) ∙ ap (λ (q : Key). looked_from owner reply (current s ms q)) (equal_key key k same)
row_looked false s ms key k owner reply x was is same going old new = new ∙ old

row_deleted : (b : Bool) (was is old : Option Examination) → was ≡ old → is ≡ (if b then None else was) → is ≡ (if b then None else old)
row_deleted true was is old same new = new
row_deleted false was is old same new = new ∙ same

not_lacking : {L : Type 0} (due : Bool) (why : L) → due ≡ true → (if due then None else Some why) ≡ None
not_lacking true why is = refl
not_lacking false why is = absurd (cc is)

-- Examine makes this entry, with this examination
examines : (s : Setting) (ms : List Moment) (key : Key) (x : Examination) (e : CollectEntry) → current s ms key ≡ Some x → IsExamineOf key e s ms x → IsEntry (Examine key) e s ms
examines s ms key x e is of = subst (λ (c : Option Examination). MatchOption c ⊥ (IsExamineOf key e s ms)) (sym is) of

looks : (s : Setting) (ms : List Moment) (key : Key) (x : Examination) (owner : OwnerRef) (reply : Reply) → next_owner x ≡ Some owner → IsStoreReply (calls.Get (owner_key key.namespace owner)) reply s ms
    → IsExamineOf key (entries.Look key owner reply) s ms x
looks s ms key x owner reply at answer =
    subst (λ (o : Option OwnerRef). MatchOption o (IsDelete key x (entries.Look key owner reply) s ms) (λ o. IsOwnerLook key o (entries.Look key owner reply) s ms)) (sym at) (reply, answer, refl)

deletes : (s : Setting) (ms : List Moment) (key : Key) (x : Examination) (reply : Reply) → next_owner x ≡ None → IsStoreReply (calls.Delete key (Some (version_of x.object))) reply s ms
    → IsExamineOf key (entries.Delete key (version_of x.object) reply) s ms x
deletes s ms key x reply at answer =
    subst (λ (o : Option OwnerRef). MatchOption o (IsDelete key x (entries.Delete key (version_of x.object) reply) s ms) (λ o. IsOwnerLook key o (entries.Delete key (version_of x.object) reply) s ms)) (sym at) (reply, answer, refl)

pub look_entry : (s : Setting) (ms : List Moment) (key : Key) (x : Examination) (owner : OwnerRef) (reply : Reply) → current s ms key ≡ Some x → next_owner x ≡ Some owner
    → IsStoreReply (calls.Get (owner_key key.namespace owner)) reply s ms → IsEntry (Examine key) (entries.Look key owner reply) s ms
look_entry s ms key x owner reply is at answer = examines s ms key x (entries.Look key owner reply) is (looks s ms key x owner reply at answer)

pub delete_entry : (s : Setting) (ms : List Moment) (key : Key) (x : Examination) (reply : Reply) → current s ms key ≡ Some x → next_owner x ≡ None
    → IsStoreReply (calls.Delete key (Some (version_of x.object))) reply s ms → IsEntry (Examine key) (entries.Delete key (version_of x.object) reply) s ms
delete_entry s ms key x reply is at answer = examines s ms key x (entries.Delete key (version_of x.object) reply) is (deletes s ms key x reply at answer)

pub looked_kept : (c : Collecting) (server : Served) (i : Informers) (rows new : Rowed) (now : ℤ) (key : Key) (x : Examination) (owner : OwnerRef) (reply : Reply) → IsCollectorOf c server i rows
    → on current c key ≡ Some x → next_owner x ≡ Some owner → on (IsStoreReply (calls.Get (owner_key key.namespace owner)) reply) c → length c.moments < c.events
    → ((k : Key) → examination_under new k ≡ (if key_eq key k then examined_after owner reply x else examination_under rows k)) → ((k : Key) → has_examine_row new k ≡ has_examine_row rows k)
    → IsCollectorOf (with_entry now (entries.Look key owner reply) c) (after_call now (calls.Get (owner_key key.namespace owner)) reply server) i new
looked_kept c server i rows new now key x owner reply kept is at answer room changed same =
    let parts = call_parts c server i rows now (calls.Get (owner_key key.namespace owner)) reply kept in
    record {
      state_is = parts.state_is;
      writes_are = parts.writes_are;
      told = parts.told;
      position_is = kept.position_is;
      row_is = λ k. row_looked (key_eq key k) (setting c) c.moments key k owner reply x (examination_under rows k) (examination_under new k) refl is (kept.row_is k) (changed k);
      covered = λ k owned. same k ∙ kept.covered k (sym (ap has_any_owner (parts.cached_is k)) ∙ owned);
      collected = ((Examine key, not_lacking (on is_to_examine c key) NoOrphan (ap is_some is), look_entry (setting c) c.moments key x owner reply is at answer), kept.collected);
      fits = omega (arith, room);
    }

pub deleted_kept : (c : Collecting) (server : Served) (i : Informers) (rows new : Rowed) (now : ℤ) (key : Key) (x : Examination) (reply : Reply) → IsCollectorOf c server i rows
    → on current c key ≡ Some x → next_owner x ≡ None → on (IsStoreReply (calls.Delete key (Some (version_of x.object))) reply) c → length c.moments < c.events
    → ((k : Key) → examination_under new k ≡ (if key_eq key k then None else examination_under rows k)) → ((k : Key) → has_examine_row new k ≡ has_examine_row rows k)
    → IsCollectorOf (with_entry now (entries.Delete key (version_of x.object) reply) c) (after_call now (calls.Delete key (Some (version_of x.object))) reply server) i new
deleted_kept c server i rows new now key x reply kept is at answer room changed same =
    let parts = call_parts c server i rows now (calls.Delete key (Some (version_of x.object))) reply kept in
    record {
      state_is = parts.state_is;
      writes_are = parts.writes_are;
      told = parts.told;
      position_is = kept.position_is;
      row_is = λ k. row_deleted (key_eq key k) (examination_under rows k) (examination_under new k) (on examination c k) (kept.row_is k) (changed k);
      covered = λ k owned. same k ∙ kept.covered k (sym (ap has_any_owner (parts.cached_is k)) ∙ owned);
      collected = ((Examine key, not_lacking (on is_to_examine c key) NoOrphan (ap is_some is), delete_entry (setting c) c.moments key x reply is at answer), kept.collected);
      fits = omega (arith, room);
    }

-- ---- deliveries

-- how many writes were accepted
abbrev given : Collecting → ℕ
given c = accepted (setting c) (played c.moments)

abbrev entry_of : Bool → Kind → ℕ → ℕ → CollectEntry
entry_of true kind n to = entries.List kind n
entry_of false kind n to = entries.Deliver kind to

entry_is : (below : Bool) (kind : Kind) (n to : ℕ) → (if below then entries.List kind n else entries.Deliver kind to) ≡ entry_of below kind n to
entry_is true kind n to = refl
entry_is false kind n to = refl

-- where the informers are after a delivery or a list, in the words of the moments
parts_told : (below : Bool) (c : Collecting) (server : Served) (i new : Informers) (rows more : Rowed) (now : ℤ) (kind : Kind) (to : ℕ) → IsCollectorOf c server i rows
    → on IsCollected (with_entry now (entry_of below kind (given c) to) c) → length c.moments < c.events
    → AreCachesAt new server.writes → Moves kind (if below then given c else to) i new → ((k : Key) → examination_under more k ≡ examination_under rows k)
    → ((k : Key) → has_any_owner (informer_object new k) ≡ true → has_examine_row more k ≡ true)
    → IsCollectorOf (with_entry now (entry_of below kind (given c) to) c) server new more
parts_told true c server i new rows more now kind to kept collected room told moves same covered =
    let at : (k : Kind) → position_in k new ≡ (if kind_eq kind k then given c else position k c.moments) = λ k. moves k ∙ ap (λ p. if kind_eq kind k then given c else p) (kept.position_is k) in
    record {
      state_is = kept.state_is;
      writes_are = kept.writes_are;
      told = told;
      position_is = at;
      row_is = λ k. same k ∙ kept.row_is k;
      covered = λ k owned. covered k (ap has_any_owner (now_held new server.writes (writes (setting c) (played c.moments)) k _ told kept.writes_are (at k.kind)) ∙ owned);
      collected = collected;
      fits = omega (arith, room);
    }
parts_told false c server i new rows more now kind to kept collected room told moves same covered =
    let at : (k : Kind) → position_in k new ≡ (if kind_eq kind k then to else position k c.moments) = λ k. moves k ∙ ap (λ p. if kind_eq kind k then to else p) (kept.position_is k) in
    record {
      state_is = kept.state_is;
      writes_are = kept.writes_are;
      told = told;
      position_is = at;
      row_is = λ k. same k ∙ kept.row_is k;
      covered = λ k owned. covered k (ap has_any_owner (now_held new server.writes (writes (setting c) (played c.moments)) k _ told kept.writes_are (at k.kind)) ∙ owned);
      collected = collected;
      fits = omega (arith, room);
    }

pub delivered_kept : (c : Collecting) (server : Served) (i new : Informers) (rows more : Rowed) (now : ℤ) (kind : Kind) (to at : ℕ) (e : CollectEntry) → IsCollectorOf c server i rows
    → on (lack_of_delivery kind to) c ≡ None → e ≡ on (delivery_entry kind to) c → at ≡ (if nat_lt (position kind c.moments) (given c - c.window) then given c else to) → length c.moments < c.events
    → AreCachesAt new server.writes → Moves kind at i new → ((k : Key) → examination_under more k ≡ examination_under rows k)
    → ((k : Key) → has_any_owner (informer_object new k) ≡ true → has_examine_row more k ≡ true)
    → IsCollectorOf (with_entry now e c) server new more
delivered_kept c server i new rows more now kind to at e kept may entry place room are_told moves same covered =
    let below : Bool = nat_lt (position kind c.moments) (given c - c.window) in
    let is : e ≡ entry_of below kind (given c) to = entry ∙ entry_is below kind (given c) to in
    let collected : on IsCollected (with_entry now e c) = ((Deliver kind to, may, entry), kept.collected) in
    subst (λ (f : CollectEntry). IsCollectorOf (with_entry now f c) server new more) (sym is)
    (parts_told below c server i new rows more now kind to kept (subst (λ (f : CollectEntry). on IsCollected (with_entry now f c)) is collected) room are_told
    (subst (λ (n : ℕ). Moves kind n i new) place moves) same covered)

-- ---- rows for what was told

quiet_by : (b : Bool) (from n : ℕ) → b ≡ true → (b && nat_lt from n) ≡ false → n ≤ from
quiet_by true from n same off = grind (arith, nat_tests)
quiet_by false from n same off = absurd (cc same)

still_held : (b : Bool) (i new : Informers) (ws : List Write) (kind : Kind) (to : ℕ) (key : Key) → kind_eq kind key.kind ≡ b → AreCachesAt i ws → AreCachesAt new ws → position_in kind i ≤ to
    → Moves kind to i new → is_changed kind (position_in kind i) to ws key ≡ false → informer_object new key ≡ informer_object i key
still_held true i new ws kind to key same told after ahead moves off =
    let one : kind ≡ key.kind = kind_same kind key.kind same in
    let own : kind_eq key.kind kind ≡ true = ap (λ (k : Kind). kind_eq k kind) (sym one) ∙ kind_self kind in
    let at : position_in key.kind new ≡ to = moves key.kind ∙ ap (λ b. if b then to else position_in key.kind i) same in
    let was : position_in key.kind i ≡ position_in kind i = ap (λ (k : Kind). position_in k i) (sym one) in
    held_at new ws key after
    ∙ ap (λ (n : ℕ). object_at (contents (of_kind key.kind (oldest n ws))) key) at
    ∙ unchanged (position_in kind i) to key ws ahead (quiet_by (kind_eq key.kind kind) (position_in kind i) (last_under key (oldest to ws)) own off)
    ∙ sym (ap (λ (n : ℕ). object_at (contents (of_kind key.kind (oldest n ws))) key) was)
    ∙ sym (held_at i ws key told)
still_held false i new ws kind to key same told after ahead moves off =
    held_at new ws key after
    ∙ ap (λ (n : ℕ). object_at (contents (of_kind key.kind (oldest n ws))) key) (moves key.kind ∙ ap (λ b. if b then to else position_in key.kind i) same)
    ∙ sym (held_at i ws key told)

covered_by : (b : Bool) (i new : Informers) (ws : List Write) (kind : Kind) (to : ℕ) (rows more : Rowed) (keys : List Key) (key : Key) → list_any (is_at (key_cmp key)) keys ≡ b
    → AreCachesAt i ws → AreCachesAt new ws → position_in kind i ≤ to → Moves kind to i new → b ≡ is_changed kind (position_in kind i) to ws key
    → (has_any_owner (informer_object i key) ≡ true → has_examine_row rows key ≡ true) → (has_examine_row rows key ≡ true → has_examine_row more key ≡ true)
    → (list_any (is_at (key_cmp key)) keys ≡ true → has_examine_row more key ≡ true) → has_any_owner (informer_object new key) ≡ true → has_examine_row more key ≡ true
covered_by true i new ws kind to rows more keys key among told after ahead moves exact old keeps room owned = room among
covered_by false i new ws kind to rows more keys key among told after ahead moves exact old keeps room owned =
    keeps (old (sym (ap has_any_owner (still_held (kind_eq kind key.kind) i new ws kind to key refl told after ahead moves (sym exact))) ∙ owned))

-- with a row for each key that was named since, no object that is told is without one
pub still_covered : (i new : Informers) (ws : List Write) (kind : Kind) (to : ℕ) (rows more : Rowed) (keys : List Key) → AreCachesAt i ws → AreCachesAt new ws → position_in kind i ≤ to → Moves kind to i new
    → AreKeys keys (λ k. is_changed kind (position_in kind i) to ws k)
    → ((k : Key) → has_any_owner (informer_object i k) ≡ true → has_examine_row rows k ≡ true) → ((k : Key) → has_examine_row rows k ≡ true → has_examine_row more k ≡ true)
    → ((k : Key) → list_any (is_at (key_cmp k)) keys ≡ true → has_examine_row more k ≡ true) → (k : Key) → has_any_owner (informer_object new k) ≡ true → has_examine_row more k ≡ true
still_covered i new ws kind to rows more keys told after ahead moves are old keeps room k owned =
    covered_by (list_any (is_at (key_cmp k)) keys) i new ws kind to rows more keys k refl told after ahead moves (are.exact k) (old k) (keeps k) (room k) owned
