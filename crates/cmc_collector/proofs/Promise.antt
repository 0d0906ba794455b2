-- What every collection keeps, whatever moves it makes.
use Rattle.std.proofs.Common.{◌≡◌, ◌==◌, ℕ, ℤ, ◌≤◌, ◌+◌, ◌-◌, List, [], ◌∷◌, length, Bool, true, false, Option, Some, None, refl, sym, ap, subst, ◌∙◌, arith}
use Rattle.std.proofs.lemmas.Bool.{and_parts, or_parts}
use Rattle.std.proofs.lemmas.Bool.Decides.{nat_tests}
use Rattle.std.specs.Prelude.{if◌then◌else◌, ◌≢◌, ◌||◌, not, MatchBool, MatchOption, nat_le, nat_lt, slice_get, zero, suc}
use Rattle.std.specs.List.{list_any}
use Rattle.cmc_meta.specs.declared.key.Key.{Key}
use Rattle.cmc_meta.specs.declared.key.Kind.{Kind}
use Rattle.cmc_meta.specs.declared.owners.OwnerRef.{OwnerRef}
use Rattle.cmc_meta.specs.Keys.{key_eq}
use Rattle.cmc_objects.specs.declared.object.Object.{Object}
use Rattle.cmc_objects.specs.declared.call.Call.{Call}
use Rattle.cmc_objects.specs.declared.call.Call.TheVariants as calls
use Rattle.cmc_objects.specs.declared.call.Reply.{Reply}
use Rattle.cmc_objects.specs.declared.call.Reply.TheVariants.{Unavailable}
use Rattle.cmc_objects.specs.declared.entry.Who.TheVariants.{User as ByUser}
use Rattle.cmc_objects.specs.declared.entry.Entry.{Entry}
use Rattle.cmc_objects.specs.declared.entry.Entry.TheVariants.{Call as Called, Tick}
use Rattle.cmc_objects.specs.Objects.{version_of}
use Rattle.cmc_model.specs.declared.write.Write.{Write}
use Rattle.cmc_model.specs.Objects.{object_at}
use Rattle.cmc_model.specs.Replies.{State, IsGot}
use Rattle.cmc_model.specs.Histories.{Setting, state, objects, accepted}
use Rattle.cmc_model.specs.Verdicts.{IsAnswered}
use Rattle.cmc_model.specs.Versions.{uid_of}
use Rattle.cmc_model.specs.Writes.{kind_eq, of_kind, oldest, write_at, writes}
use Rattle.cmc_model.proofs.Versions.{standing, version_of_kind, version_of_oldest}
use Rattle.cmc_model.proofs.Writes.{writes_count}
use Rattle.cmc_informer.specs.Caches.{has_uid}
use Rattle.cmc_informer.proofs.OneMark.{equal_key}
use Rattle.cmc_collector.specs.declared.entry.CollectEntry.{CollectEntry}
use Rattle.cmc_collector.specs.declared.entry.CollectEntry.TheVariants as entries
use Rattle.cmc_collector.specs.declared.entry.Moment.{Moment}
use Rattle.cmc_collector.specs.declared.examination.Examination.{Examination}
use Rattle.cmc_collect_moves.specs.declared.moves.CollectMove.{CollectMove}
use Rattle.cmc_collect_moves.specs.declared.moves.CollectMove.TheVariants.{User, Deliver, Examine}
use Rattle.cmc_collect_moves.specs.declared.moves.CollectLack.{CollectLack}
use Rattle.cmc_collect_moves.specs.declared.moves.CollectLack.TheVariants.{Current, NotAWrite}
use Rattle.cmc_collector.specs.CachePositions.{are_gone, cached_object, has_owners, is_gone, is_orphan, is_orphan_in, position}
use Rattle.cmc_collector.specs.Examinations.{IsExamined, current, current_of, examination, finds_owner, is_unavailable, examined_after, looked_from, next_owner}
use Rattle.cmc_collector.specs.Moves.{IsStoreReply, IsCollected, IsDelete, IsEntry, IsExamineOf, IsOwnerLook, is_watch_event, is_of_kind, lack, lack_of_delivery, newest}
use Rattle.cmc_collector.specs.Owners.{AreGood, CollectsWell, owners_of}
use Rattle.cmc_collector.specs.Replays.{with_call_at, owner_key, played}
use Rattle.cmc_collector.proofs.Examined.{counts_on, examined_on, good_delete, looked_on}

pub record Laws (s : Setting) (ms : List Moment) : Type 0 where
  pub answered : IsAnswered s (played ms)
  pub good : AreGood s ms
  pub examined : (key : Key) (x : Examination) → examination s ms key ≡ Some x → IsExamined s (played ms) key x
  -- no cache is ahead of the writes
  pub low : (kind : Kind) → position kind ms ≤ accepted s (played ms)

-- ---- one call more

call_examined : (s : Setting) (ms : List Moment) (now : ℤ) (call : Call) (reply : Reply) (key : Key) (x : Examination) → IsAnswered s (played ms) → IsStoreReply call reply s ms
    → IsExamined s (played ms) key x → IsExamined s (with_call_at now call reply (played ms)) key x
call_examined s ms now call reply key x right answer is =
    examined_on s (Called ByUser call reply) (Tick now ∷ played ms) key x (answer, right) (examined_on s (Tick now) (played ms) key x right is)

call_low : (s : Setting) (ms : List Moment) (now : ℤ) (call : Call) (reply : Reply) (n : ℕ) → n ≤ accepted s (played ms) → n ≤ accepted s (with_call_at now call reply (played ms))
call_low s ms now call reply n low = let more = counts_on s (Called ByUser call reply) (Tick now ∷ played ms) in omega (arith, low, more)

-- ---- deliveries

some_is : (c : Option CollectLack) (why : CollectLack) → c ≡ None → c ≡ Some why → ⊥
some_is c why none some = cc (none, some)

news_by : (current news : Bool) (why other : CollectLack) → (if current then Some why else (if news then None else Some other)) ≡ None → news ≡ true
news_by true news why other none = absurd (cc none)
news_by false true why other none = refl
news_by false false why other none = absurd (cc none)

-- what is told is a write above the position
pub is_told_news : (s : Setting) (ms : List Moment) (kind : Kind) (to : ℕ) → lack_of_delivery kind to s ms ≡ None → is_watch_event kind to s ms ≡ true
is_told_news s ms kind to none = news_by (nat_le (newest kind s ms) (position kind ms)) (is_watch_event kind to s ms) (Current (position kind ms)) (NotAWrite to) none

found_low : (b : Bool) (kind : Kind) (to : ℕ) (w : Write) (ws : List Write) → (length (w ∷ ws) == to) ≡ b → (is_of_kind kind (write_at to ws) ≡ true → to ≤ length ws)
    → is_of_kind kind (if b then Some w else write_at to ws) ≡ true → to ≤ length (w ∷ ws)
found_low true kind to w ws at below is = grind (arith, nat_tests)
found_low false kind to w ws at below is = let low = below is in omega (arith, low)

write_low : (kind : Kind) (to : ℕ) (ws : List Write) → is_of_kind kind (write_at to ws) ≡ true → to ≤ length ws
unfolding write_at
write_low kind to [] is = absurd (cc is)
write_low kind to (w ∷ ws) is = found_low (length (w ∷ ws) == to) kind to w ws refl (write_low kind to ws) is

pub news_within : (s : Setting) (ms : List Moment) (kind : Kind) (to : ℕ) → is_watch_event kind to s ms ≡ true → to ≤ accepted s (played ms)
news_within s ms kind to news =
    let parts = and_parts (nat_lt (position kind ms) to) (is_of_kind kind (write_at to (writes s (played ms)))) news in
    let low = write_low kind to (writes s (played ms)) parts.1 in
    let count = writes_count s (played ms) in
    omega (arith, low, count)

told_low : (b : Bool) (to n position : ℕ) → to ≤ n → position ≤ n → (if b then to else position) ≤ n
told_low true to n position a b = a
told_low false to n position a b = b

delivered : (below : Bool) (s : Setting) (ms : List Moment) (now : ℤ) (kind : Kind) (to : ℕ) → to ≤ accepted s (played ms) → Laws s ms
    → Laws s (record { now = now; entry = if below then entries.List kind (accepted s (played ms)) else entries.Deliver kind to } ∷ ms)
delivered true s ms now kind to within laws = record {
  answered = laws.answered;
  good = (tt, laws.good);
  examined = laws.examined;
  low = λ k. told_low (kind_eq kind k) (accepted s (played ms)) (accepted s (played ms)) (position k ms) (omega arith) (laws.low k);
}
delivered false s ms now kind to within laws = record {
  answered = laws.answered;
  good = (tt, laws.good);
  examined = laws.examined;
  low = λ k. told_low (kind_eq kind k) to (accepted s (played ms)) (position k ms) within (laws.low k);
}

-- ---- examinations

same_owner : (p o : OwnerRef) → Some p ≡ Some o → p ≡ o
same_owner p o e = cc e

each_given : (found : Key → Option Object) (given : ℕ) (namespace : List ℕ) (os : List OwnerRef) → are_gone found given namespace os ≡ true
    → (n : ℕ) (o : OwnerRef) → slice_get os n ≡ Some o → o.uid ≤ given
each_given found given namespace [] gone n o at = absurd (cc at)
each_given found given namespace (p ∷ os) gone zero o at =
    let parts = and_parts (is_gone given p.uid (found (owner_key namespace p))) (are_gone found given namespace os) gone in
    let here = and_parts (nat_le p.uid given) (not (has_uid p.uid (found (owner_key namespace p)))) parts.0 in
    let low : p.uid ≤ given = grind (arith, nat_tests) in
    subst (λ (q : OwnerRef). q.uid ≤ given) (same_owner p o at) low
each_given found given namespace (p ∷ os) gone (suc n) o at =
    let parts = and_parts (is_gone given p.uid (found (owner_key namespace p))) (are_gone found given namespace os) gone in
    each_given found given namespace os parts.1 n o at

some_owners : (os : List OwnerRef) → has_owners os ≡ true → os ≢ []
some_owners [] has none = absurd (cc has)
some_owners (o ∷ os) has none = cc none

-- an examination that begins with an orphan
begun : (s : Setting) (ms : List Moment) (key : Key) (o : Object) → cached_object s ms key ≡ Some o → is_orphan_in (cached_object s ms) (accepted s (played ms)) key.namespace (Some o) ≡ true
    → IsExamined s (played ms) key (record { object = o; next = 0 })
begun s ms key o held orphan =
    let parts = and_parts (has_owners (owners_of o)) (are_gone (cached_object s ms) (accepted s (played ms)) key.namespace (owners_of o)) orphan in
    let ws = writes s (played ms) in
    let p = position key.kind ms in
    record {
      was = version_of_oldest p key o ws (version_of_kind key.kind key o (oldest p ws) (standing (of_kind key.kind (oldest p ws)) key o held));
      owned = some_owners (owners_of o) parts.0;
      given = each_given (cached_object s ms) (accepted s (played ms)) key.namespace (owners_of o) parts.1;
      dead = tt;
    }

current_by : (x : Option Examination) (orphan : Bool) (held : Option Object) (s : Setting) (ms : List Moment) (key : Key) (y : Examination)
    → ((z : Examination) → x ≡ Some z → IsExamined s (played ms) key z) → cached_object s ms key ≡ held → is_orphan_in (cached_object s ms) (accepted s (played ms)) key.namespace held ≡ orphan
    → current_of x orphan held ≡ Some y → IsExamined s (played ms) key y
current_by (Some z) orphan held s ms key y going at is some = subst (λ (w : Examination). IsExamined s (played ms) key w) (cc some) (going z refl)
current_by None false held s ms key y going at is some = absurd (cc some)
current_by None true None s ms key y going at is some = absurd (cc some)
current_by None true (Some o) s ms key y going at is some = subst (λ (w : Examination). IsExamined s (played ms) key w) (cc some) (begun s ms key o at is)

pub current_examined : (s : Setting) (ms : List Moment) (key : Key) (x : Examination) → Laws s ms → current s ms key ≡ Some x → IsExamined s (played ms) key x
current_examined s ms key x laws is = current_by (examination s ms key) (is_orphan s ms key) (cached_object s ms key) s ms key x (laws.examined key) refl refl is

-- ---- looks

same_some : (q p : Object) → Some q ≡ Some p → q ≡ p
same_some q p e = cc e

got_none : (n : ℕ) (old : Option Object) (o : OwnerRef) (reply : Reply) → IsGot n old reply → finds_owner o reply ≡ false → (p : Object) → old ≡ Some p → uid_of p ≡ o.uid → ⊥
got_none n None o reply got off p is same = cc is
got_none n (Some q) o reply got off p is same =
    let here : (uid_of q == o.uid) ≡ false = sym (ap (finds_owner o) got) ∙ off in
    let one : uid_of q ≡ o.uid = ap uid_of (same_some q p is) ∙ same in
    absurd (grind (arith, nat_tests))

got_by : (fails : Bool) (st : State) (key : Key) (o : OwnerRef) (reply : Reply) → MatchBool fails (reply ≡ Unavailable (st.calls + 1)) (IsGot st.accepted (object_at st.objects key) reply)
    → finds_owner o reply ≡ false → is_unavailable reply ≡ false → (p : Object) → object_at st.objects key ≡ Some p → uid_of p ≡ o.uid → ⊥
got_by true st key o reply right off available p is same = absurd (let u = ap is_unavailable right in cc (u, available))
got_by false st key o reply right off available p is same = got_none st.accepted (object_at st.objects key) o reply right off p is same

-- a look that is answered and does not find the owner: no object has its key and its uid
not_there : (s : Setting) (ms : List Moment) (namespace : List ℕ) (o : OwnerRef) (reply : Reply) → IsStoreReply (calls.Get (owner_key namespace o)) reply s ms → (finds_owner o reply || is_unavailable reply) ≡ false
    → (p : Object) → object_at (objects s (played ms)) (owner_key namespace o) ≡ Some p → uid_of p ≡ o.uid → ⊥
not_there s ms namespace o reply answer off =
    let parts = or_parts (finds_owner o reply) (is_unavailable reply) off in
    got_by (list_any (λ n. n == (state s (played ms)).calls + 1) s.faults) (state s (played ms)) (owner_key namespace o) o reply answer parts.0 parts.1

-- what is found of the next examination, under the key and under any other
looked_by : (b : Bool) (s : Setting) (ms : List Moment) (h : List Entry) (key k : Key) (o : OwnerRef) (reply : Reply) (x y : Examination) → key_eq key k ≡ b → current s ms key ≡ Some x
    → (examined_after o reply x ≡ Some y → IsExamined s h key y) → (examination s ms k ≡ Some y → IsExamined s h k y)
    → (if b then looked_from o reply (current s ms k) else examination s ms k) ≡ Some y → IsExamined s h k y
looked_by true s ms h key k o reply x y same is new old some =
    let one : key ≡ k = equal_key key k same in
    subst (λ (q : Key). IsExamined s h q y) one (new (sym (ap (looked_from o reply) is) ∙ ap (λ (q : Key). looked_from o reply (current s ms q)) one ∙ some))
looked_by false s ms h key k o reply x y same is new old some = old some

look_goes : (ends : Bool) (s : Setting) (h : List Entry) (key : Key) (x y : Examination) → (ends ≡ false → IsExamined s h key (record x { next = x.next + 1 }))
    → (if ends then None else Some (record x { next = x.next + 1 })) ≡ Some y → IsExamined s h key y
look_goes true s h key x y going some = absurd (cc some)
look_goes false s h key x y going some = subst (λ (w : Examination). IsExamined s h key w) (cc some) (going refl)

looked_laws : (s : Setting) (ms : List Moment) (now : ℤ) (key : Key) (x : Examination) (o : OwnerRef) (reply : Reply) → Laws s ms → current s ms key ≡ Some x → next_owner x ≡ Some o
    → IsStoreReply (calls.Get (owner_key key.namespace o)) reply s ms → Laws s (record { now = now; entry = entries.Look key o reply } ∷ ms)
looked_laws s ms now key x o reply laws is at answer =
    let get : Call = calls.Get (owner_key key.namespace o) in
    let h : List Entry = with_call_at now get reply (played ms) in
    let going = λ (ends : (finds_owner o reply || is_unavailable reply) ≡ false).
    call_examined s ms now get reply key (record x { next = x.next + 1 }) laws.answered answer
    (looked_on s (played ms) key x o (current_examined s ms key x laws is) at (not_there s ms key.namespace o reply answer ends)) in
    record {
      answered = (answer, laws.answered);
      good = (tt, laws.good);
      examined = λ k y some.
          looked_by (key_eq key k) s ms h key k o reply x y refl is (look_goes (finds_owner o reply || is_unavailable reply) s h key x y going)
          (λ old. call_examined s ms now get reply k y laws.answered answer (laws.examined k y old)) some;
      low = λ k. call_low s ms now get reply (position k ms) (laws.low k);
    }

-- ---- deletes

deleted_by : (b : Bool) (s : Setting) (ms : List Moment) (h : List Entry) (k : Key) (y : Examination) → (examination s ms k ≡ Some y → IsExamined s h k y)
    → (if b then None else examination s ms k) ≡ Some y → IsExamined s h k y
deleted_by true s ms h k y old some = absurd (cc some)
deleted_by false s ms h k y old some = old some

deleted_laws : (s : Setting) (ms : List Moment) (now : ℤ) (key : Key) (x : Examination) (reply : Reply) → Laws s ms → current s ms key ≡ Some x → next_owner x ≡ None
    → IsStoreReply (calls.Delete key (Some (version_of x.object))) reply s ms → Laws s (record { now = now; entry = entries.Delete key (version_of x.object) reply } ∷ ms)
deleted_laws s ms now key x reply laws is none answer =
    let delete : Call = calls.Delete key (Some (version_of x.object)) in
    let h : List Entry = with_call_at now delete reply (played ms) in
    record {
      answered = (answer, laws.answered);
      good = (good_delete s (played ms) key x reply laws.answered (current_examined s ms key x laws is) none answer, laws.good);
      examined = λ k y some. deleted_by (key_eq key k) s ms h k y (λ old. call_examined s ms now delete reply k y laws.answered answer (laws.examined k y old)) some;
      low = λ k. call_low s ms now delete reply (position k ms) (laws.low k);
    }

called_laws : (s : Setting) (ms : List Moment) (now : ℤ) (call : Call) (reply : Reply) → Laws s ms → IsStoreReply call reply s ms → Laws s (record { now = now; entry = entries.User call reply } ∷ ms)
called_laws s ms now call reply laws answer =
    let h : List Entry = with_call_at now call reply (played ms) in
    record {
      answered = (answer, laws.answered);
      good = (tt, laws.good);
      examined = λ k y old. call_examined s ms now call reply k y laws.answered answer (laws.examined k y old);
      low = λ k. call_low s ms now call reply (position k ms) (laws.low k);
    }

-- ---- every move

examined_by : (owner : Option OwnerRef) (s : Setting) (ms : List Moment) (now : ℤ) (key : Key) (e : CollectEntry) (x : Examination) → next_owner x ≡ owner → Laws s ms → current s ms key ≡ Some x
    → MatchOption owner (IsDelete key x e s ms) (λ o. IsOwnerLook key o e s ms) → Laws s (record { now = now; entry = e } ∷ ms)
examined_by None s ms now key e x at laws is (reply, answer, made) =
    subst (λ (f : CollectEntry). Laws s (record { now = now; entry = f } ∷ ms)) (sym made) (deleted_laws s ms now key x reply laws is at answer)
examined_by (Some o) s ms now key e x at laws is (reply, answer, made) =
    subst (λ (f : CollectEntry). Laws s (record { now = now; entry = f } ∷ ms)) (sym made) (looked_laws s ms now key x o reply laws is at answer)

examine_by : (c : Option Examination) (s : Setting) (ms : List Moment) (now : ℤ) (key : Key) (e : CollectEntry) → current s ms key ≡ c → Laws s ms
    → MatchOption c ⊥ (IsExamineOf key e s ms) → Laws s (record { now = now; entry = e } ∷ ms)
examine_by None s ms now key e is laws made = absurd made
examine_by (Some x) s ms now key e is laws made = examined_by (next_owner x) s ms now key e x refl laws is made

by_move : (move : CollectMove) (s : Setting) (ms : List Moment) (now : ℤ) (e : CollectEntry) → lack move s ms ≡ None → IsEntry move e s ms → Laws s ms → Laws s (record { now = now; entry = e } ∷ ms)
by_move (User call) s ms now e none (reply, answer, made) laws =
    subst (λ (f : CollectEntry). Laws s (record { now = now; entry = f } ∷ ms)) (sym made) (called_laws s ms now call reply laws answer)
by_move (Deliver kind to) s ms now e none made laws =
    subst (λ (f : CollectEntry). Laws s (record { now = now; entry = f } ∷ ms)) (sym made)
    (delivered (nat_lt (position kind ms) (accepted s (played ms) - s.window)) s ms now kind to (news_within s ms kind to (is_told_news s ms kind to none)) laws)
by_move (Examine key) s ms now e none made laws = examine_by (current s ms key) s ms now key e refl laws made

pub laws : (s : Setting) (ms : List Moment) → IsCollected s ms → Laws s ms
laws s [] collected = record { answered = tt; good = tt; examined = λ key x some. absurd (cc some); low = λ kind. omega arith }
laws s (m ∷ ms) collected = by_move collected.0.0 s ms m.now m.entry collected.0.1 collected.0.2 (laws s ms collected.1)

-- the promise
pub collects_well : (s : Setting) (ms : List Moment) → IsCollected s ms → CollectsWell s ms
collects_well s ms collected = let all = laws s ms collected in record { answered = all.answered; good = all.good }
