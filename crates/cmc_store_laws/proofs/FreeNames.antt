-- One of the names that are tried is free.
use Rattle.std.proofs.Common.{◌≡◌, ℕ, zero, suc, ◌+◌, ◌^◌, ◌<◌, ◌≤◌, Bool, true, false, List, [], ◌∷◌, length, Option, Some, None, refl, sym, ap, subst, ◌∙◌, arith}
use Rattle.std.specs.Prelude.{if◌then◌else◌, is_some, MatchBool, ◌==◌}
use Rattle.std.specs.List.{list_any}
use Rattle.std.specs.Ordering.{is_eq}
use Rattle.std.specs.declared.cmp.Ordering.{Ordering}
use Rattle.std.specs.declared.cmp.Ordering.TheVariants.{Less, Equal, Greater}
use Rattle.cmc_meta.specs.declared.key.Key.{Key}
use Rattle.cmc_meta.specs.Keys.{key_cmp}
use Rattle.cmc_objects.specs.Objects.{key_of, name_of}
use Rattle.cmc_objects.specs.declared.call.Reply.{Reply}
use Rattle.cmc_objects.specs.declared.call.Reply.TheVariants.{Ok, Unavailable}
use Rattle.cmc_objects.specs.declared.entry.Entry.{Entry}
use Rattle.cmc_objects.specs.declared.object.Object.{Object}
use Rattle.cmc_objects.specs.declared.object.Object.TheVariants.{Cert, Request, Secret}
use Rattle.cmc_model.specs.declared.write.Write.{Write}
use Rattle.cmc_model.specs.Admission.{is_taken, refusing_rule}
use Rattle.cmc_model.specs.Generated.{named, key_named, has_number, generated_name, free_from, free_named}
use Rattle.cmc_model.specs.Histories.{Setting, state, objects, accepted}
use Rattle.cmc_model.specs.Objects.{Objects, object_at}
use Rattle.cmc_model.specs.Replies.{IsCreated, IsCreatedIn, IsAdmitted}
use Rattle.cmc_model.specs.Writes.{writes, contents}
use Rattle.cmc_meta.proofs.KeyOrder.{key_cmp-IsAntisymmetric}
use Rattle.cmc_model.proofs.Writes.{writes_count, writes_leave}
use Rattle.cmc_store_laws.specs.Names.{AreNamesFree, IsFresh}
use Rattle.cmc_store_laws.proofs.Keys.{same, IsNone, AreDistinct, AllStand, few_stand}
use Rattle.cmc_store_laws.proofs.Suffixes.{most, same_name}

-- ---- the keys of numbers in a row

abbrev key_at : Object → ℕ → Key
key_at object n = key_named (generated_name (name_of object) n) object

abbrev keys_from : Object → ℕ → ℕ → List Key
keys_from object zero n = []
keys_from object (suc room) n = key_at object n ∷ keys_from object room (n + 1)

tied : (o : Ordering) → is_eq o ≡ true → o ≡ Equal
tied Less h = cc
tied Equal h = refl
tied Greater h = cc

name_at : Key → List ℕ
name_at k = k.name

other_key : (object : Object) (a b : ℕ) → a < most → b < most → b < a → same (key_at object a) (key_at object b) ≡ false
unfolding name_at
other_key object a b small_a small_b less = by_test (same (key_at object a) (key_at object b)) refl
  where
    by_test : (t : Bool) → same (key_at object a) (key_at object b) ≡ t → t ≡ false
    by_test false e = refl
    by_test true e =
        let keys : key_at object a ≡ key_at object b = key_cmp-IsAntisymmetric (key_at object a) (key_at object b) (tied (key_cmp (key_at object a) (key_at object b)) e) in
        let number : a ≡ b = same_name (name_of object) a b small_a small_b (ap name_at keys) in
        absurd (omega arith)

later_keys : (object : Object) (room n m : ℕ) → n < m → m + room ≤ most → IsNone (key_at object n) (keys_from object room m)
later_keys object zero n m less fits = tt
later_keys object (suc room) n m less fits = (other_key object m n (omega arith) (omega arith) less, later_keys object room n (m + 1) (omega arith) (omega arith))

distinct_keys : (object : Object) (room n : ℕ) → n + room ≤ most → AreDistinct (keys_from object room n)
distinct_keys object zero n fits = tt
distinct_keys object (suc room) n fits = (later_keys object room n (n + 1) (omega arith) (omega arith), distinct_keys object room (n + 1) (omega arith))

count : (object : Object) (room n : ℕ) → length (keys_from object room n) ≡ room
count object zero n = refl
count object (suc room) n = omega (arith, count object room (n + 1))

-- ---- the search

abbrev AllTaken : (ℕ → Bool) → ℕ → ℕ → Type 0
AllTaken taken zero n = Unit {0}
AllTaken taken (suc room) n = (taken n ≡ true) × AllTaken taken room (n + 1)

-- where the number that is found is taken, all that were tried are
all_taken : (room : ℕ) (taken : ℕ → Bool) (n : ℕ) → taken (free_from room taken n) ≡ true → AllTaken taken room n
all_taken zero taken n h = tt
all_taken (suc room) taken n h = by_test (taken n) refl h (all_taken room taken (n + 1))
  where
    by_test : (b : Bool) → taken n ≡ b → taken (if b then free_from room taken (n + 1) else n) ≡ true → (taken (free_from room taken (n + 1)) ≡ true → AllTaken taken room (n + 1)) → (taken n ≡ true) × AllTaken taken room (n + 1)
    by_test true e at rest = (e, rest at)
    by_test false e at rest = absurd (let off : false ≡ true = sym e ∙ at in cc)

all_stand : (ws : List Write) (object : Object) (room n : ℕ) → AllTaken (has_number (contents ws) object) room n → AllStand ws (keys_from object room n)
all_stand ws object zero n all = tt
all_stand ws object (suc room) n all = (all.0, all_stand ws object room (n + 1) all.1)

found_free : (ws : List Write) (object : Object) → length ws < 2 ^ 64
    → has_number (contents ws) object (free_from (length ws + 1) (has_number (contents ws) object) (length ws + 1)) ≡ false
found_free ws object small = by_test (has_number (contents ws) object (free_from (length ws + 1) (has_number (contents ws) object) (length ws + 1))) refl
  where
    by_test : (b : Bool) → has_number (contents ws) object (free_from (length ws + 1) (has_number (contents ws) object) (length ws + 1)) ≡ b → b ≡ false
    by_test false e = refl
    by_test true e =
        let keys = keys_from object (length ws + 1) (length ws + 1) in
        let most_stand = few_stand ws keys (distinct_keys object (length ws + 1) (length ws + 1) (omega arith)) (all_stand ws object (length ws + 1) (length ws + 1) (all_taken (length ws + 1) (has_number (contents ws) object) (length ws + 1) e)) in
        absurd (omega (arith, most_stand, count object (length ws + 1) (length ws + 1)))

-- ---- what the create comes to

key_of_named : (name : List ℕ) (object : Object) → key_of (named name object) ≡ key_named name object
unfolding named
key_of_named name (Cert c) = refl
key_of_named name (Request r) = refl
key_of_named name (Secret k) = refl

name_of_named : (name : List ℕ) (object : Object) → name_of (named name object) ≡ name
unfolding named
name_of_named name (Cert c) = refl
name_of_named name (Request r) = refl
name_of_named name (Secret k) = refl

none_of : (o : Option Object) → is_some o ≡ false → o ≡ None
none_of None h = refl
none_of (Some x) h = cc

-- the reply to a create under a name that is free
fresh_reply : (accepted : ℕ) (stored : Objects) (object made : Object) (name : List ℕ) (taken : Bool) (old : Option Object) (reply : Reply) → object_at stored (key_named name object) ≡ None → name_of made ≡ name → old ≡ None
    → IsCreated accepted taken made old reply → IsFresh stored object reply
fresh_reply accepted stored object made name taken (Some old) reply free is none right = absurd (cc none)
fresh_reply accepted stored object made name taken None reply free is none right = by_rule (refusing_rule None made false taken) right
  where
    by_rule : (rule : Option ℕ) → IsAdmitted rule (reply ≡ Ok (accepted + 1) (name_of made)) reply → IsFresh stored object reply
    by_rule None said = subst (IsFresh stored object) (sym said) (subst (λ (n : List ℕ). object_at stored (key_named n object) ≡ None) (sym is) free)
    by_rule (Some rule) said = subst (IsFresh stored object) (sym said) tt

created_fresh : (accepted : ℕ) (stored : Objects) (object : Object) (reply : Reply)
    → has_number stored object (free_from (accepted + 1) (has_number stored object) (accepted + 1)) ≡ false → IsCreatedIn accepted stored (free_named (accepted + 1) stored object) reply → IsFresh stored object reply
unfolding free_named
created_fresh accepted stored object reply free right =
    let name = generated_name (name_of object) (free_from (accepted + 1) (has_number stored object) (accepted + 1)) in
    let made = named name object in
    let none : object_at stored (key_named name object) ≡ None = none_of (object_at stored (key_named name object)) free in
    fresh_reply accepted stored object made name (is_taken stored made) (object_at stored (key_of made)) reply none (name_of_named name object) (ap (object_at stored) (key_of_named name object) ∙ none) right

by_fault : (fault : Bool) (number : ℕ) (stored : Objects) (object : Object) (reply : Reply) (Served : Type 0) → (Served → IsFresh stored object reply) → MatchBool fault (reply ≡ Unavailable number) Served → IsFresh stored object reply
by_fault true number stored object reply Served fresh right = subst (IsFresh stored object) (sym right) tt
by_fault false number stored object reply Served fresh right = fresh right

free_in : (s : Setting) (h : List Entry) (object : Object) → accepted s h < 2 ^ 64
    → has_number (objects s h) object (free_from (accepted s h + 1) (has_number (objects s h) object) (accepted s h + 1)) ≡ false
free_in s h object small =
    let few : length (writes s h) < 2 ^ 64 = omega (arith, writes_count s h) in
    let found = found_free (writes s h) object few in
    subst (λ (stored : Objects). has_number stored object (free_from (accepted s h + 1) (has_number stored object) (accepted s h + 1)) ≡ false) (writes_leave s h)
    (subst (λ (n : ℕ). has_number (contents (writes s h)) object (free_from (n + 1) (has_number (contents (writes s h)) object) (n + 1)) ≡ false) (writes_count s h) found)

pub names_free : (s : Setting) (h : List Entry) → AreNamesFree s h
names_free s h small object reply right =
    by_fault (list_any (λ n. n == (state s h).calls + 1) s.faults) ((state s h).calls + 1) (objects s h) object reply (IsCreatedIn (accepted s h) (objects s h) (free_named (accepted s h + 1) (objects s h) object) reply)
    (created_fresh (accepted s h) (objects s h) object reply (free_in s h object small)) right
