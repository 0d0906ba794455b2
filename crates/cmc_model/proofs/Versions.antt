-- Versions count up, a uid is the version of a create, and no uid stands under two keys.
use Rattle.std.proofs.Common.{◌≡◌, ◌==◌, ◌⊎◌, ℕ, ℤ, ◌+◌, ◌≤◌, List, [], ◌∷◌, length, Option, Some, None, Bool, true, false, cond, refl, sym, ap, subst, ◌∙◌, inl, inr, arith, Ordering, Less, Equal, Greater}
use Rattle.std.specs.Prelude.{if◌then◌else◌, MatchBool, nat_le}
use Rattle.std.specs.List.{list_any}
use Rattle.std.specs.Ordering.{is_eq, eq_by_cmp}
use Rattle.std.specs.FinMap.{get-empty, get-insert, get-remove}
use Rattle.cmc_meta.specs.declared.key.Key.{Key}
use Rattle.cmc_meta.specs.declared.key.Kind.{Kind}
use Rattle.cmc_meta.specs.Keys.{key_cmp}
use Rattle.cmc_objects.specs.declared.object.Object.{Object}
use Rattle.cmc_objects.specs.declared.call.Call.{Call}
use Rattle.cmc_objects.specs.declared.call.Call.TheVariants.{Create, Update, UpdateStatus, Delete, Get}
use Rattle.cmc_objects.specs.declared.call.Reply.{Reply}
use Rattle.cmc_objects.specs.declared.call.Reply.TheVariants.{Unavailable}
use Rattle.cmc_objects.specs.Objects.{key_of, version_of}
use Rattle.cmc_model.specs.declared.write.Write.{Write}
use Rattle.cmc_model.specs.Objects.{Objects, no_objects, object_at}
use Rattle.cmc_model.specs.Stored.{revised, restated}
use Rattle.cmc_model.specs.Replies.{State, IsReply, IsServed, IsGot, is_accepted, key_of_call, from_old, settled, stored, put_at}
use Rattle.cmc_model.specs.Writes.{write_of, contents, kind_eq, of_kind, oldest}
use Rattle.cmc_model.specs.Versions.{uid_of, IsVersion}
use Rattle.cmc_model.proofs.Settling.{settled_served}
use Rattle.cmc_meta.proofs.KeyOrder.{key_cmp-total, key_cmp-IsAntisymmetric}
use Rattle.cmc_model.proofs.Stored.{version_of-created, uid_of-created, key_of-created, version_of-revised, uid_of-revised, key_of-revised, version_of-restated, uid_of-restated, key_of-restated}

-- ---- what a legal write is

-- an object as the write of this version leaves it: a new one of that uid, or one that has uid and key of the one that stood there
abbrev pub IsNew : ℕ → Key → Object → Type 0
IsNew n key o = (uid_of o ≡ n) × (key_of o ≡ key)

abbrev pub IsHeir : Object → Option Object → Type 0
IsHeir o None = ⊥
IsHeir o (Some old) = (uid_of o ≡ uid_of old) × (key_of o ≡ key_of old)

abbrev pub IsLawfulObject : ℕ → Key → Option Object → Option Object → Type 0
IsLawfulObject n key old None = Unit {0}
IsLawfulObject n key old (Some o) = (version_of o ≡ n) × (IsNew n key o ⊎ IsHeir o old)

abbrev pub IsLawful : List Write → Type 0
IsLawful [] = Unit {0}
IsLawful (w ∷ ws) = IsLawfulObject (length (w ∷ ws)) w.key (object_at (contents ws) w.key) w.object × IsLawful ws

lawful_update : (v : ℕ) (key : Key) (object : Object) (old : Option Object) → IsLawfulObject v key old (from_old (λ o. revised v o object) old)
lawful_update v key object None = tt
lawful_update v key object (Some old) = (version_of-revised v old object, inr (uid_of-revised v old object, key_of-revised v old object))

lawful_status : (v : ℕ) (key : Key) (object : Object) (old : Option Object) → IsLawfulObject v key old (from_old (λ o. restated v o object) old)
lawful_status v key object None = tt
lawful_status v key object (Some old) = (version_of-restated v old object, inr (uid_of-restated v old object, key_of-restated v old object))

lawful_get : (n : ℕ) (key : Key) (old : Option Object) (reply : Reply) → IsGot n old reply → is_accepted reply ≡ true → IsLawfulObject (n + 1) key old old
lawful_get n key None reply right ok = tt
lawful_get n key (Some old) reply right ok = absurd (let e = ap is_accepted right in cc (e, ok))

lawful_call : (n : ℕ) (now : ℤ) (m : Objects) (call : Call) (reply : Reply) → IsServed n m call reply → is_accepted reply ≡ true
    → IsLawfulObject (n + 1) (key_of_call call) (object_at m (key_of_call call)) (stored (n + 1) now m call)
lawful_call n now m (Create object generate) reply right ok = (version_of-created (n + 1) now object, inl (uid_of-created (n + 1) now object, key_of-created (n + 1) now object))
lawful_call n now m (Update object named) reply right ok = lawful_update (n + 1) (key_of object) object (object_at m (key_of object))
lawful_call n now m (UpdateStatus object named) reply right ok = lawful_status (n + 1) (key_of object) object (object_at m (key_of object))
lawful_call n now m (Delete key named) reply right ok = tt
lawful_call n now m (Get key) reply right ok = lawful_get n key (object_at m key) reply right ok

lawful_write : (now : ℤ) (st : State) (call : Call) (ws : List Write) → length ws ≡ st.accepted → contents ws ≡ st.objects
    → IsLawfulObject (st.accepted + 1) (key_of_call call) (object_at st.objects (key_of_call call)) (stored (st.accepted + 1) now st.objects call)
    → IsLawfulObject (length (write_of now st call ∷ ws)) (key_of_call call) (object_at (contents ws) (key_of_call call)) (stored (st.accepted + 1) now st.objects call)
lawful_write now st call ws count leaves right =
    let n : st.accepted + 1 ≡ length (write_of now st call ∷ ws) = omega (arith, count) in
    let there = subst (λ (v : ℕ). IsLawfulObject v (key_of_call call) (object_at st.objects (key_of_call call)) (stored (st.accepted + 1) now st.objects call)) n right in
    subst (λ (m : Objects). IsLawfulObject (length (write_of now st call ∷ ws)) (key_of_call call) (object_at m (key_of_call call)) (stored (st.accepted + 1) now st.objects call)) (sym leaves) there

pub lawful_called : (faults : List ℕ) (now : ℤ) (st : State) (call : Call) (reply : Reply) (ws : List Write) (b : Bool) → is_accepted reply ≡ b
    → length ws ≡ st.accepted → contents ws ≡ st.objects → IsReply faults st call reply → IsLawful ws → IsLawful (if b then write_of now st (settled call reply) ∷ ws else ws)
lawful_called faults now st call reply ws false e count leaves right lawful = lawful
lawful_called faults now st call reply ws true e count leaves right lawful =
    let served : IsServed st.accepted st.objects call reply =
    elim (list_any (λ n. n == st.calls + 1) faults) as (λ f. MatchBool f (reply ≡ Unavailable (st.calls + 1)) (IsServed st.accepted st.objects call reply) → IsServed st.accepted st.objects call reply) [
      | true ↦ λ r. absurd (let k = ap is_accepted r in cc (k, e))
      | false ↦ λ r. r
    ] right in
    (lawful_write now st (settled call reply) ws count leaves (lawful_call st.accepted now st.objects (settled call reply) reply (settled_served st.accepted st.objects call reply served e) e), lawful)

-- ---- what stands is a version

pub object_at-put : (m : Objects) (k : Key) (o : Option Object) (q : Key) → object_at (put_at m k o) q ≡ cond (eq_by_cmp key_cmp q k) o (object_at m q)
object_at-put m k (Some o) q = get-insert key_cmp-total m k o q
object_at-put m k None q = get-remove key_cmp-total m k q

tied : (r : Ordering) → is_eq r ≡ true → r ≡ Equal
tied Less e = absurd (cc)
tied Equal e = refl
tied Greater e = absurd (cc)

found : (q k : Key) → eq_by_cmp key_cmp q k ≡ true → q ≡ k
found q k e = key_cmp-IsAntisymmetric q k (tied (key_cmp q k) e)

standing_in : (w : Write) (ws : List Write) (key : Key) (o : Object) (b : Bool) → eq_by_cmp key_cmp key w.key ≡ b → (object_at (contents ws) key ≡ Some o → IsVersion key o ws)
    → cond b w.object (object_at (contents ws) key) ≡ Some o → IsVersion key o (w ∷ ws)
standing_in w ws key o true e below is = inl (sym (found key w.key e), is)
standing_in w ws key o false e below is = inr (below is)

pub standing : (ws : List Write) (key : Key) (o : Object) → object_at (contents ws) key ≡ Some o → IsVersion key o ws
unfolding contents
standing [] key o is = absurd (let none : object_at no_objects key ≡ None = get-empty key_cmp key in cc (none, is))
standing (w ∷ ws) key o is =
    standing_in w ws key o (eq_by_cmp key_cmp key w.key) refl (λ e. standing ws key o e) (sym (object_at-put (contents ws) w.key w.object key) ∙ is)

-- ---- laws of versions

-- where an object came from: it is new, or it has uid and key of an older version under its key
abbrev IsBorn : Write → List Write → Object → Type 0
IsBorn w ws o = IsNew (length (w ∷ ws)) w.key o ⊎ ((old : Object) × IsVersion w.key old ws × (uid_of o ≡ uid_of old) × (key_of o ≡ key_of old))

heir : (w : Write) (ws : List Write) (o : Object) (old : Option Object) → object_at (contents ws) w.key ≡ old → IsHeir o old → IsBorn w ws o
heir w ws o None e is = absurd is
heir w ws o (Some old) e is = inr (old, standing ws w.key old e, is.0, is.1)

born_by : (w : Write) (ws : List Write) (o : Object) → IsNew (length (w ∷ ws)) w.key o ⊎ IsHeir o (object_at (contents ws) w.key) → IsBorn w ws o
born_by w ws o (inl new) = inl new
born_by w ws o (inr is) = heir w ws o (object_at (contents ws) w.key) refl is

pub lawful_object : (w : Write) (ws : List Write) (o : Object) → IsLawful (w ∷ ws) → w.object ≡ Some o → IsLawfulObject (length (w ∷ ws)) w.key (object_at (contents ws) w.key) (Some o)
lawful_object w ws o law is = subst (λ (x : Option Object). IsLawfulObject (length (w ∷ ws)) w.key (object_at (contents ws) w.key) x) is law.0

born : (w : Write) (ws : List Write) (o : Object) → IsLawful (w ∷ ws) → w.object ≡ Some o → IsBorn w ws o
born w ws o law is = born_by w ws o (lawful_object w ws o law is).1

pub versions_low : (ws : List Write) (key : Key) (o : Object) → IsLawful ws → IsVersion key o ws → version_of o ≤ length ws
versions_low [] key o law has = absurd has
versions_low (w ∷ ws) key o law (inl is) = omega (arith, (lawful_object w ws o law is.1).0)
versions_low (w ∷ ws) key o law (inr has) = omega (arith, versions_low ws key o law.1 has)

keyed_by : (w : Write) (ws : List Write) (o : Object) → ((old : Object) → IsVersion w.key old ws → key_of old ≡ w.key) → IsBorn w ws o → key_of o ≡ w.key
keyed_by w ws o below (inl new) = new.1
keyed_by w ws o below (inr older) = older.3 ∙ below older.0 older.1

pub keyed : (ws : List Write) (key : Key) (o : Object) → IsLawful ws → IsVersion key o ws → key_of o ≡ key
keyed [] key o law has = absurd has
keyed (w ∷ ws) key o law (inl is) = keyed_by w ws o (λ old has. keyed ws w.key old law.1 has) (born w ws o law is.1) ∙ is.0
keyed (w ∷ ws) key o law (inr has) = keyed ws key o law.1 has

uids_by : (w : Write) (ws : List Write) (o : Object) → ((old : Object) → IsVersion w.key old ws → uid_of old ≤ length ws) → IsBorn w ws o → uid_of o ≤ length (w ∷ ws)
uids_by w ws o below (inl new) = omega (arith, new.0)
uids_by w ws o below (inr older) = omega (arith, older.2, below older.0 older.1)

pub uids_low : (ws : List Write) (key : Key) (o : Object) → IsLawful ws → IsVersion key o ws → uid_of o ≤ length ws
uids_low [] key o law has = absurd has
uids_low (w ∷ ws) key o law (inl is) = uids_by w ws o (λ old has. uids_low ws w.key old law.1 has) (born w ws o law is.1)
uids_low (w ∷ ws) key o law (inr has) = omega (arith, uids_low ws key o law.1 has)

-- a newer version has a new uid, or the key of an older one of its uid
one_key_by : (w : Write) (ws : List Write) (o : Object) (key : Key) (p : Object) → uid_of p ≤ length ws
    → ((old : Object) → IsVersion w.key old ws → uid_of old ≡ uid_of p → w.key ≡ key) → IsBorn w ws o → uid_of o ≡ uid_of p → w.key ≡ key
one_key_by w ws o key p low below (inl new) same = absurd (omega (arith, low, new.0, same))
one_key_by w ws o key p low below (inr older) same = below older.0 older.1 (sym older.2 ∙ same)

pub one_key : (ws : List Write) (j k : Key) (o p : Object) → IsLawful ws → IsVersion j o ws → IsVersion k p ws → uid_of o ≡ uid_of p → j ≡ k
one_key [] j k o p law a b same = absurd a
one_key (w ∷ ws) j k o p law (inl a) (inl b) same = sym a.0 ∙ b.0
one_key (w ∷ ws) j k o p law (inl a) (inr b) same =
    sym a.0 ∙ one_key_by w ws o k p (uids_low ws k p law.1 b) (λ old has e. one_key ws w.key k old p law.1 has b e) (born w ws o law a.1) same
one_key (w ∷ ws) j k o p law (inr a) (inl b) same =
    sym (sym b.0 ∙ one_key_by w ws p j o (uids_low ws j o law.1 a) (λ old has e. one_key ws w.key j old o law.1 has a e) (born w ws p law b.1) (sym same))
one_key (w ∷ ws) j k o p law (inr a) (inr b) same = one_key ws j k o p law.1 a b same

-- ---- what some first writes of a kind leave is a version of a write

in_kind : (b : Bool) (key : Key) (o : Object) (w : Write) (some ws : List Write) → (IsVersion key o some → IsVersion key o ws) → IsVersion key o (cond b (w ∷ some) some) → IsVersion key o (w ∷ ws)
in_kind true key o w some ws below (inl here) = inl here
in_kind true key o w some ws below (inr there) = inr (below there)
in_kind false key o w some ws below there = inr (below there)

pub version_of_kind : (kind : Kind) (key : Key) (o : Object) (ws : List Write) → IsVersion key o (of_kind kind ws) → IsVersion key o ws
version_of_kind kind key o [] has = has
version_of_kind kind key o (w ∷ ws) has = in_kind (kind_eq w.key.kind kind) key o w (of_kind kind ws) ws (λ there. version_of_kind kind key o ws there) has

in_oldest : (b : Bool) (key : Key) (o : Object) (w : Write) (some ws : List Write) → (IsVersion key o some → IsVersion key o ws) → IsVersion key o (if b then w ∷ ws else some) → IsVersion key o (w ∷ ws)
in_oldest true key o w some ws below has = has
in_oldest false key o w some ws below has = inr (below has)

pub version_of_oldest : (p : ℕ) (key : Key) (o : Object) (ws : List Write) → IsVersion key o (oldest p ws) → IsVersion key o ws
unfolding oldest
version_of_oldest p key o [] has = has
version_of_oldest p key o (w ∷ ws) has = in_oldest (nat_le (length (w ∷ ws)) p) key o w (oldest p ws) ws (λ there. version_of_oldest p key o ws there) has
