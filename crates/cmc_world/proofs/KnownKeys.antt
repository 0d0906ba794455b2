-- The keys that writes named, and what steps of the script do to queues.
use Rattle.std.proofs.Common.{◌≡◌, ◌⊎◌, inl, inr, ◌+◌, ◌&&◌, ℕ, ℤ, pos, ◌+ℤ◌, ◌-◌, List, [], ◌∷◌, ◌++◌, Option, Some, None, Bool, true, false, cond, refl, sym, ap, subst, ◌∙◌, arith, option_and_then, int_le}
use Rattle.std.proofs.lemmas.Bool.{and_parts}
use Rattle.std.proofs.lemmas.Int.{ints}
use Rattle.std.proofs.lemmas.List.Folds.{list_any-append}
use Rattle.std.specs.Prelude.{◌||◌, is_none, reverse, if◌then◌else◌}
use Rattle.std.specs.FinMap as map
use Rattle.std.specs.FinMap.{get-entries}
use Rattle.std.specs.FinMap.Entries.{find}
use Rattle.std.specs.Ordering.{eq_by_cmp}
use Rattle.std.specs.BTreeMap.{is_at}
use Rattle.cmc_meta.specs.declared.key.Key.{Key}
use Rattle.cmc_meta.specs.declared.key.Kind.{Kind}
use Rattle.cmc_meta.specs.Keys.{key_cmp, key_eq}
use Rattle.cmc_objects.specs.declared.call.Call.{Call}
use Rattle.cmc_objects.specs.declared.entry.Entry.{Entry}
use Rattle.cmc_objects.specs.declared.entry.Step.{Step}
use Rattle.cmc_objects.specs.declared.entry.Step.TheVariants as steps
use Rattle.cmc_objects.specs.declared.object.Object.{Object}
use Rattle.cmc_objects.specs.declared.role.Role.{Role}
use Rattle.cmc_objects.specs.Informers.{kind_of_work}
use Rattle.cmc_queue.specs.Queues.{Work}
use Rattle.cmc_held.proofs.Numbered.{list_any-reverse}
use Rattle.cmc_model.specs.declared.write.Write.{Write}
use Rattle.cmc_model.specs.Histories.{Setting, accepted, moment, objects}
use Rattle.cmc_model.specs.Objects.{Objects, object_at}
use Rattle.cmc_model.specs.Replies.{put_at}
use Rattle.cmc_model.specs.Writes.{contents, is_known, kind_eq, writes}
use Rattle.cmc_model.proofs.Versions.{object_at-put}
use Rattle.cmc_model.proofs.Writes.{writes_leave}
use Rattle.cmc_rules.specs.declared.effect.Effect.{Effect}
use Rattle.cmc_rules.specs.UserSteps.{call_of, call_or, effect_of}
use Rattle.cmc_rules.specs.Scripts.{scripted, step_at}
use Rattle.cmc_caches.specs.Affected.{is_among}
use Rattle.cmc_moves.specs.Answers.{next_effect}
use Rattle.cmc_kernel.proofs.SameKeys.{same_key, same_kind}
use Rattle.cmc_world.specs.Fed.{AreDeletedOf, AreKnownKeys, IsAhead, IsOfStore, IsStarting, is_deleted, work_among}
use Rattle.cmc_world.specs.declared.fed_scripts.Ahead.TheVariants as ahead
use Rattle.cmc_world.proofs.Keys.{turned_test}
use Rattle.cmc_world.proofs.Looking.{kind_itself}

-- ---- keys of writes

or_swap : (a b c : Bool) → (a || (b || c)) ≡ (b || (a || c))
or_swap true true c = refl
or_swap true false c = refl
or_swap false b c = refl

-- whether the write deletes what was under the key
abbrev deletes : Key → Write → Bool
deletes k w = key_eq w.key k && is_none w.object

deleted_push : (k : Key) (ws : List Write) (w : Write) → is_deleted k (ws ++ w ∷ []) ≡ (deletes k w || is_deleted k ws)
deleted_push k [] w = refl
deleted_push k (v ∷ ws) w = ap (λ b. deletes k v || b) (deleted_push k ws w) ∙ or_swap (deletes k v) (deletes k w) (is_deleted k ws)

or_last : (b : Bool) → (b || false) ≡ b
or_last true = refl
or_last false = refl

-- one key more
among_push : (k : Key) (keys : List Key) (key : Key) → is_among (keys ++ key ∷ []) k ≡ (is_among keys k || key_eq key k)
among_push k keys key = list_any-append (is_at (key_cmp k)) keys (key ∷ []) ∙ ap (λ b. is_among keys k || b) (or_last (is_at (key_cmp k) key) ∙ turned_test k key)

or_on : (a b : Bool) → (a ≡ true) ⊎ (b ≡ true) → (a || b) ≡ true
or_on true b some = refl
or_on false b (inl bad) = absurd (cc bad)
or_on false b (inr on) = on

or_either : (a b : Bool) → (a || b) ≡ true → (a ≡ true) ⊎ (b ≡ true)
or_either true b on = inl refl
or_either false b on = inr on

deleted_pushed : (role : Role) (ws more : List Write) (w : Write) (keys new : List Key) → more ≡ ws ++ w ∷ [] → w.key.kind ≡ kind_of_work role → new ≡ keys ++ w.key ∷ [] → AreDeletedOf role ws keys → AreDeletedOf role more new
deleted_pushed role ws more w keys new is work pushed gone = record {
  work = λ k some. work_of k (or_either (is_among keys k) (key_eq w.key k) (sym (ap (λ (ks : List Key). is_among ks k) pushed ∙ among_push k keys w.key) ∙ some));
  all = λ k kind named. ap (λ (ks : List Key). is_among ks k) pushed ∙ among_push k keys w.key
      ∙ or_on (is_among keys k) (key_eq w.key k) (all_of k kind (or_either (deletes k w) (is_deleted k ws) (sym (ap (is_deleted k) is ∙ deleted_push k ws w) ∙ named)));
}
  where
    work_of : (k : Key) → (is_among keys k ≡ true) ⊎ (key_eq w.key k ≡ true) → k.kind ≡ kind_of_work role
    work_of k (inl some) = gone.work k some
    work_of k (inr same) = ap (λ (q : Key). q.kind) (sym (same_key w.key k same)) ∙ work

    all_of : (k : Key) → k.kind ≡ kind_of_work role → (deletes k w ≡ true) ⊎ (is_deleted k ws ≡ true) → (is_among keys k ≡ true) ⊎ (key_eq w.key k ≡ true)
    all_of k kind (inl here) = inr (and_parts (key_eq w.key k) (is_none w.object) here).0
    all_of k kind (inr named) = inl (gone.all k kind named)

none_is : (x : Option Object) → is_none x ≡ true → x ≡ None
none_is None is = refl
none_is (Some o) is = absurd (cc is)

-- a write of another kind, or one that deletes nothing
deleted_passed : (role : Role) (ws more : List Write) (w : Write) (keys : List Key) → more ≡ ws ++ w ∷ [] → (w.key.kind ≡ kind_of_work role → w.object ≡ None → ⊥) → AreDeletedOf role ws keys → AreDeletedOf role more keys
deleted_passed role ws more w keys is other gone = record {
  work = gone.work;
  all = λ k kind named. all_of k kind (or_either (deletes k w) (is_deleted k ws) (sym (ap (is_deleted k) is ∙ deleted_push k ws w) ∙ named));
}
  where
    all_of : (k : Key) → k.kind ≡ kind_of_work role → (deletes k w ≡ true) ⊎ (is_deleted k ws ≡ true) → is_among keys k ≡ true
    all_of k kind (inl here) =
        let both = and_parts (key_eq w.key k) (is_none w.object) here in
        absurd (other (ap (λ (q : Key). q.kind) (same_key w.key k both.0) ∙ kind) (none_is w.object both.1))
    all_of k kind (inr named) = gone.all k kind named

apart_kind : (role : Role) (kind : Kind) → kind_eq kind (kind_of_work role) ≡ false → kind ≡ kind_of_work role → ⊥
apart_kind role kind test same = let on = kind_itself (kind_of_work role) in let off = subst (λ (k : Kind). kind_eq k (kind_of_work role) ≡ false) same test in cc (on, off)

step_by : (b c : Bool) (role : Role) (ws more : List Write) (w : Write) (keys new : List Key) → kind_eq w.key.kind (kind_of_work role) ≡ b → is_none w.object ≡ c → more ≡ ws ++ w ∷ []
    → (w.key.kind ≡ kind_of_work role → w.object ≡ None → new ≡ keys ++ w.key ∷ []) → ((w.key.kind ≡ kind_of_work role → w.object ≡ None → ⊥) → new ≡ keys) → AreDeletedOf role ws keys → AreDeletedOf role more new
step_by true true role ws more w keys new test none is here other gone =
    let work = same_kind w.key.kind (kind_of_work role) test in deleted_pushed role ws more w keys new is work (here work (none_is w.object none)) gone
step_by true false role ws more w keys new test none is here other gone =
    let some : w.key.kind ≡ kind_of_work role → w.object ≡ None → ⊥ = λ same left. cc (none, left) in
    subst (AreDeletedOf role more) (sym (other some)) (deleted_passed role ws more w keys is some gone)
step_by false c role ws more w keys new test none is here other gone =
    let apart : w.key.kind ≡ kind_of_work role → w.object ≡ None → ⊥ = λ same left. apart_kind role w.key.kind test same in
    subst (AreDeletedOf role more) (sym (other apart)) (deleted_passed role ws more w keys is apart gone)

-- one write more
pub deleted_step : (role : Role) (ws more : List Write) (w : Write) (keys new : List Key) → more ≡ ws ++ w ∷ [] → (w.key.kind ≡ kind_of_work role → w.object ≡ None → new ≡ keys ++ w.key ∷ [])
    → ((w.key.kind ≡ kind_of_work role → w.object ≡ None → ⊥) → new ≡ keys) → AreDeletedOf role ws keys → AreDeletedOf role more new
deleted_step role ws more w keys new is here other gone = step_by (kind_eq w.key.kind (kind_of_work role)) (is_none w.object) role ws more w keys new refl refl is here other gone

-- ---- keys of objects

-- the keys of the role's work are so
among_work : (role : Role) (es : List (Key × Object)) (k : Key) → is_among (work_among role es) k ≡ true → k.kind ≡ kind_of_work role
among_work role [] k some = absurd (cc some)
among_work role (e ∷ es) k some = by (kind_eq e.0.kind (kind_of_work role)) refl (among_work role es k) some where
  there : kind_eq e.0.kind (kind_of_work role) ≡ true → (is_among (work_among role es) k ≡ true → k.kind ≡ kind_of_work role) → (is_at (key_cmp k) e.0 ≡ true) ⊎ (is_among (work_among role es) k ≡ true) → k.kind ≡ kind_of_work role
  there test below (inl same) = ap (λ (q : Key). q.kind) (sym (same_key e.0 k (sym (turned_test k e.0) ∙ same))) ∙ same_kind e.0.kind (kind_of_work role) test
  there test below (inr later) = below later

  by : (b : Bool) → kind_eq e.0.kind (kind_of_work role) ≡ b → (is_among (work_among role es) k ≡ true → k.kind ≡ kind_of_work role)
      → is_among (if b then e.0 ∷ work_among role es else work_among role es) k ≡ true → k.kind ≡ kind_of_work role
  by true test below is = there test below (or_either (is_at (key_cmp k) e.0) (is_among (work_among role es) k) is)
  by false test below is = below is

-- where an object is found under a key of the role's work, that is among them
found_work : (role : Role) (es : List (Key × Object)) (k : Key) (o : Object) → k.kind ≡ kind_of_work role → find key_cmp k es ≡ Some o → is_among (work_among role es) k ≡ true
found_work role [] k o kind is = absurd (cc is)
found_work role (e ∷ es) k o kind is = by (eq_by_cmp key_cmp k e.0) refl (kind_eq e.0.kind (kind_of_work role)) refl (found_work role es k o kind) is where
  by : (a : Bool) → eq_by_cmp key_cmp k e.0 ≡ a → (b : Bool) → kind_eq e.0.kind (kind_of_work role) ≡ b → (find key_cmp k es ≡ Some o → is_among (work_among role es) k ≡ true)
      → cond a (Some e.1) (find key_cmp k es) ≡ Some o → is_among (if b then e.0 ∷ work_among role es else work_among role es) k ≡ true
  by true tied true test below found = or_on (is_at (key_cmp k) e.0) (is_among (work_among role es) k) (inl tied)
  by true tied false test below found =
      absurd (apart_kind role e.0.kind test (ap (λ (q : Key). q.kind) (same_key e.0 k (sym (turned_test k e.0) ∙ tied)) ∙ kind))
  by false tied true test below found = or_on (is_at (key_cmp k) e.0) (is_among (work_among role es) k) (inr (below found))
  by false tied false test below found = below found

both_on : (a b : Bool) → a ≡ true → b ≡ true → (a && b) ≡ true
both_on true b one two = two
both_on false b one two = absurd (cc one)

or_false : (a b : Bool) → a ≡ false → (a || b) ≡ true → b ≡ true
or_false true b off is = absurd (cc off)
or_false false b off is = is

-- what a write named exists, or was deleted
named_by : (b : Bool) (k : Key) (w : Write) (ws : List Write) (x : Option Object) → eq_by_cmp key_cmp k w.key ≡ b → w.object ≡ x
    → (is_known k ws ≡ true → ((o : Object) × (object_at (contents ws) k ≡ Some o)) ⊎ (is_deleted k ws ≡ true)) → (key_eq w.key k || is_known k ws) ≡ true
    → ((o : Object) × (cond b w.object (object_at (contents ws) k) ≡ Some o)) ⊎ ((deletes k w || is_deleted k ws) ≡ true)
named_by true k w ws (Some o) tied is below named = inl (o, is)
named_by true k w ws None tied is below named =
    inr (or_on (deletes k w) (is_deleted k ws) (inl (both_on (key_eq w.key k) (is_none w.object) (sym (turned_test k w.key) ∙ tied) (ap is_none is))))
named_by false k w ws x tied is below named = later (below (or_false (key_eq w.key k) (is_known k ws) (sym (turned_test k w.key) ∙ tied) named)) where
  later : ((o : Object) × (object_at (contents ws) k ≡ Some o)) ⊎ (is_deleted k ws ≡ true) → ((o : Object) × (object_at (contents ws) k ≡ Some o)) ⊎ ((deletes k w || is_deleted k ws) ≡ true)
  later (inl there) = inl there
  later (inr gone) = inr (or_on (deletes k w) (is_deleted k ws) (inr gone))

known_stands : (k : Key) (ws : List Write) → is_known k ws ≡ true → ((o : Object) × (object_at (contents ws) k ≡ Some o)) ⊎ (is_deleted k ws ≡ true)
unfolding contents
known_stands k [] named = absurd (cc named)
known_stands k (w ∷ ws) named = at (named_by (eq_by_cmp key_cmp k w.key) k w ws w.object refl refl (known_stands k ws) named) where
  at : ((o : Object) × (cond (eq_by_cmp key_cmp k w.key) w.object (object_at (contents ws) k) ≡ Some o)) ⊎ ((deletes k w || is_deleted k ws) ≡ true)
      → ((o : Object) × (object_at (put_at (contents ws) w.key w.object) k ≡ Some o)) ⊎ ((deletes k w || is_deleted k ws) ≡ true)
  at (inl there) = inl (there.0, object_at-put (contents ws) w.key w.object k ∙ there.1)
  at (inr gone) = inr gone

-- those that were deleted and those that exist are all that were named
pub known_both : (s : Setting) (h : List Entry) (role : Role) (items ws : List Write) (es : List (Key × Object)) (gone keys : List Key) → reverse items ≡ ws → ws ≡ writes s h
    → map.entries (objects s h) ≡ es → AreDeletedOf role items gone → keys ≡ gone ++ work_among role es → AreKnownKeys s h role keys
known_both s h role items ws es gone keys turned is there deleted all = record {
  work = λ k some. work_of k (or_either (is_among gone k) (is_among (work_among role es) k) (sym (among k) ∙ some));
  all = λ k kind named. among k ∙ or_on (is_among gone k) (is_among (work_among role es) k) (all_of k kind (known_stands k (writes s h) named));
}
  where
    among : (k : Key) → is_among keys k ≡ (is_among gone k || is_among (work_among role es) k)
    among k = ap (λ (ks : List Key). is_among ks k) all ∙ list_any-append (is_at (key_cmp k)) gone (work_among role es)

    work_of : (k : Key) → (is_among gone k ≡ true) ⊎ (is_among (work_among role es) k ≡ true) → k.kind ≡ kind_of_work role
    work_of k (inl some) = deleted.work k some
    work_of k (inr some) = among_work role es k some

    all_of : (k : Key) → k.kind ≡ kind_of_work role → ((o : Object) × (object_at (contents (writes s h)) k ≡ Some o)) ⊎ (is_deleted k (writes s h) ≡ true)
        → (is_among gone k ≡ true) ⊎ (is_among (work_among role es) k ≡ true)
    all_of k kind (inl stands) =
        let found = sym (get-entries (objects s h) k) ∙ sym (ap (λ (m : Objects). object_at m k) (writes_leave s h)) ∙ stands.1 in
        inr (found_work role es k stands.0 kind (subst (λ (l : List (Key × Object)). find key_cmp k l ≡ Some stands.0) there found))
    all_of k kind (inr left) =
        inl (deleted.all k kind (sym (list_any-reverse (λ w. key_eq w.key k && is_none w.object) items) ∙ ap (is_deleted k) (turned ∙ is) ∙ left))

-- ---- steps

later : (now : ℤ) (seconds : ℕ) → int_le now (now +ℤ pos seconds) ≡ true
later now seconds = grind (arith, ints)

effect_is : (s : Setting) (h : List Entry) (step : Step) → step_at s.script (scripted h + 1) ≡ Some step → next_effect s h ≡ effect_of s h step
effect_is s h step is = ap (option_and_then (effect_of s h)) is

pub ahead_tick : (s : Setting) (h : List Entry) (seconds : ℕ) → step_at s.script (scripted h + 1) ≡ Some (steps.Tick seconds) → IsAhead s h ahead.Tick
unfolding call_of
ahead_tick s h seconds is = (moment s h +ℤ pos seconds, effect_is s h (steps.Tick seconds) is, later (moment s h) seconds)

pub ahead_stop : (s : Setting) (h : List Entry) (role : Role) → step_at s.script (scripted h + 1) ≡ Some (steps.Stop role) → IsAhead s h (ahead.Stop role)
unfolding call_of
ahead_stop s h role is = effect_is s h (steps.Stop role) is

pub ahead_start : (s : Setting) (h : List Entry) (role : Role) (behind : ℕ) (queue : Work) → step_at s.script (scripted h + 1) ≡ Some (steps.Start role behind) → IsStarting s h role queue → IsAhead s h (ahead.Start role queue)
unfolding call_of
ahead_start s h role behind queue is starting = (accepted s h - behind, effect_is s h (steps.Start role behind) is, starting)

by_call : (c : Option Call) (besides : Option Effect) → IsOfStore besides → IsOfStore (call_or c besides)
by_call None besides rest = rest
by_call (Some call) besides rest = tt

-- what a step does that neither lets time pass nor stops nor starts a role
abbrev pub IsOfObjects : Step → Type 0
IsOfObjects (steps.Tick seconds) = ⊥
IsOfObjects (steps.Stop role) = ⊥
IsOfObjects (steps.Start role behind) = ⊥
IsOfObjects other = Unit {0}
