-- The entries of a `BTreeMap` with keys of objects, seen as a finite map.
use Rattle.std.proofs.Common.{◌≡◌, ◌≢◌, ◌⊎◌, Bool, true, false, List, [], ◌∷◌, Option, Some, None, cond, refl, sym, ap, subst, ◌∙◌, inl, inr, T, Ordering, Less, Equal, Greater}
use Rattle.std.specs.Cmp.{eq_by_cmp_equiv}
use Rattle.std.specs.FinMap as map
use Rattle.std.specs.FinMap.{FinMap, get-from_entries, get-insert, get-remove, get-from_sorted, entries-from_sorted, same_map, find, is_sorted}
use Rattle.std.specs.FinMap.Entries.{below_all}
use Rattle.std.specs.List.{AllByRecursion, list_any}
use Rattle.std.specs.List.Sorted.{IsStrictlySortedBy}
use Rattle.std.specs.Map.{lookup, keys_of}
use Rattle.std.specs.Ordering.{is_eq, is_lt, eq_by_cmp}
use Rattle.std.specs.Prelude.{◌&&◌, ◌||◌}
use Rattle.std.specs.BTreeMap.{is_at}
use Rattle.cmc_meta.specs.declared.key.Key.{Key}
use Rattle.cmc_meta.specs.Keys.{key_cmp}
use Rattle.cmc_meta.proofs.KeyOrder.{key_cmp-total, key_cmp-IsAntisymmetric}

find-lookup : {X : Type 0} (q : Key) (es : List (Key × X)) → find key_cmp q es ≡ lookup (is_at (key_cmp q)) es
find-lookup q [] = refl
find-lookup q (e ∷ es) = ap (cond (is_at (key_cmp q) e.0) (Some e.1)) (find-lookup q es)

pub get-lookup : {X : Type 0} (es : List (Key × X)) (q : Key) → map.get {R = key_cmp} (map.from_entries es) q ≡ lookup (is_at (key_cmp q)) es
get-lookup es q = get-from_entries key_cmp-total es q ∙ find-lookup q es

pub from_entries-updated : {X : Type 0} (old new : List (Key × X)) (k : Key) (v : X)
    → ((q : Key) → lookup (is_at (key_cmp q)) new ≡ cond (is_at (key_cmp k) q) (Some v) (lookup (is_at (key_cmp q)) old))
    → map.from_entries {R = key_cmp} new ≡ map.insert (map.from_entries old) k v
from_entries-updated old new k v each = same_map key_cmp-total key_cmp-IsAntisymmetric _ _ (λ q.
    get-lookup new q ∙ each q ∙ ap (cond (is_at (key_cmp k) q) (Some v)) (sym (get-lookup old q))
    ∙ ap (λ b. cond b (Some v) (map.get {R = key_cmp} (map.from_entries old) q)) ((eq_by_cmp_equiv key_cmp-total).symm k q)
    ∙ sym (get-insert key_cmp-total (map.from_entries old) k v q))

pub from_entries-removed : {X : Type 0} (old new : List (Key × X)) (k : Key)
    → ((q : Key) → lookup (is_at (key_cmp q)) new ≡ cond (is_at (key_cmp k) q) None (lookup (is_at (key_cmp q)) old))
    → map.from_entries {R = key_cmp} new ≡ map.remove (map.from_entries old) k
from_entries-removed old new k each = same_map key_cmp-total key_cmp-IsAntisymmetric _ _ (λ q.
    get-lookup new q ∙ each q ∙ ap (cond (is_at (key_cmp k) q) None) (sym (get-lookup old q))
    ∙ ap (λ b. cond b None (map.get {R = key_cmp} (map.from_entries old) q)) ((eq_by_cmp_equiv key_cmp-total).symm k q)
    ∙ sym (get-remove key_cmp-total (map.from_entries old) k q))

both : (a b : Bool) → T a → T b → T (a && b)
both true b p q = q
both false b p q = absurd p

-- an ascending list of keys is a sorted one
below_each : {X : Type 0} (k : Key) (es : List (Key × X)) → AllByRecursion (λ y. key_cmp k y ≡ Less) (keys_of es) → T (below_all key_cmp k es)
below_each k [] h = tt
below_each k (e ∷ es) h = let rest = below_each k es h.1 in rw h.0 rest

sorted : {X : Type 0} (es : List (Key × X)) → IsStrictlySortedBy key_cmp (keys_of es) → T (is_sorted key_cmp es)
unfolding IsStrictlySortedBy
sorted [] h = tt
sorted (e ∷ es) h = both _ _ (below_each e.0 es h.0) (sorted es h.1)

-- the entries of a map that is made of ascending entries are those
pub entries-from_entries : {X : Type 0} (es : List (Key × X)) → IsStrictlySortedBy key_cmp (keys_of es) → map.entries (map.from_entries {R = key_cmp} es) ≡ es
entries-from_entries es h =
    let in_order = sorted es h in
    ap map.entries (same_map key_cmp-total key_cmp-IsAntisymmetric (map.from_entries es) (map.from_sorted es) (λ q. get-from_entries key_cmp-total es q ∙ sym (get-from_sorted key_cmp es q in_order)))
    ∙ entries-from_sorted key_cmp es in_order

-- ---- what a change of a map leaves, key by key

tied : (r : Ordering) → is_eq r ≡ true → r ≡ Equal
tied Less e = absurd (cc)
tied Equal e = refl
tied Greater e = absurd (cc)

one_key : (q k : Key) (b : Bool) → eq_by_cmp key_cmp q k ≡ b → (q ≡ k) ⊎ (q ≢ k)
one_key q k true e = inl (key_cmp-IsAntisymmetric q k (tied (key_cmp q k) e))
one_key q k false e =
    inr (λ same. let tie : eq_by_cmp key_cmp q q ≡ true = (eq_by_cmp_equiv key_cmp-total).refl q in
    let off : eq_by_cmp key_cmp q q ≡ false = subst (λ (x : Key). eq_by_cmp key_cmp q x ≡ false) (sym same) e in absurd (cc (tie, off)))

-- two keys are one or two
pub is_one_key : (q k : Key) → (q ≡ k) ⊎ (q ≢ k)
is_one_key q k = one_key q k (eq_by_cmp key_cmp q k) refl

differs : (q k : Key) (b : Bool) → eq_by_cmp key_cmp q k ≡ b → q ≢ k → b ≡ false
differs q k true e other = absurd (other (key_cmp-IsAntisymmetric q k (tied (key_cmp q k) e)))
differs q k false e other = refl

pub get-insert-here : {X : Type 0} (m : FinMap key_cmp X) (k : Key) (v : X) → map.get (map.insert m k v) k ≡ Some v
get-insert-here m k v = get-insert key_cmp-total m k v k ∙ ap (λ b. cond b (Some v) (map.get m k)) ((eq_by_cmp_equiv key_cmp-total).refl k)

pub get-insert-other : {X : Type 0} (m : FinMap key_cmp X) (k : Key) (v : X) (q : Key) → q ≢ k → map.get (map.insert m k v) q ≡ map.get m q
get-insert-other m k v q other = get-insert key_cmp-total m k v q ∙ ap (λ b. cond b (Some v) (map.get m q)) (differs q k (eq_by_cmp key_cmp q k) refl other)

pub get-remove-here : {X : Type 0} (m : FinMap key_cmp X) (k : Key) → map.get (map.remove m k) k ≡ None
get-remove-here m k = get-remove key_cmp-total m k k ∙ ap (λ b. cond b None (map.get m k)) ((eq_by_cmp_equiv key_cmp-total).refl k)

pub get-remove-other : {X : Type 0} (m : FinMap key_cmp X) (k q : Key) → q ≢ k → map.get (map.remove m k) q ≡ map.get m q
get-remove-other m k q other = get-remove key_cmp-total m k q ∙ ap (λ b. cond b None (map.get m q)) (differs q k (eq_by_cmp key_cmp q k) refl other)

-- ---- tests on the values of a map

none_first : {X : Type 0} (r : Ordering) (below : Bool) (v : X) (rest : Option X) → (T below → rest ≡ None) → T (is_lt r && below) → cond (is_eq r) (Some v) rest ≡ None
none_first Less below v rest later t = later t
none_first Equal below v rest later t = absurd t
none_first Greater below v rest later t = absurd t

none_below : {X : Type 0} (k : Key) (es : List (Key × X)) → T (below_all key_cmp k es) → find key_cmp k es ≡ None
none_below k [] h = refl
none_below k (e ∷ es) h = none_first (key_cmp k e.0) (below_all key_cmp k es) e.1 (find key_cmp k es) (λ t. none_below k es t) h

parts : (a b : Bool) → T (a && b) → T a × T b
parts true b t = (tt, t)
parts false b t = absurd t

behind : {X : Type 0} (k j : Key) (v x : X) (es : List (Key × X)) (b : Bool) → eq_by_cmp key_cmp k j ≡ b → T (below_all key_cmp j es) → find key_cmp k es ≡ Some x → cond b (Some v) (find key_cmp k es) ≡ Some x
behind k j v x es false e below is = is
behind k j v x es true e below is =
    let same : k ≡ j = key_cmp-IsAntisymmetric k j (tied (key_cmp k j) e) in
    absurd (let none : find key_cmp k es ≡ None = subst (λ (q : Key). find key_cmp q es ≡ None) (sym same) (none_below j es below) in cc (none, is))

neither : (a b : Bool) → a ≡ false → b ≡ false → (a || b) ≡ false
neither true b one other = absurd (cc one)
neither false b one other = other

-- where no value passes the test, no entry does
no_entry : {X : Type 0} (p : X → Bool) (es : List (Key × X)) → T (is_sorted key_cmp es) → ((k : Key) (x : X) → find key_cmp k es ≡ Some x → p x ≡ false) → list_any (λ e. p e.1) es ≡ false
no_entry p [] in_order each = refl
no_entry p (e ∷ es) in_order each =
    let order = parts (below_all key_cmp e.0 es) (is_sorted key_cmp es) in_order in
    neither (p e.1) (list_any (λ e. p e.1) es) (each e.0 e.1 (ap (λ b. cond b (Some e.1) (find key_cmp e.0 es)) ((eq_by_cmp_equiv key_cmp-total).refl e.0)))
    (no_entry p es order.1 (λ k x is. each k x (behind k e.0 e.1 x es (eq_by_cmp key_cmp k e.0) refl order.0 is)))

pub none_passes : {X : Type 0} (p : X → Bool) (m : FinMap key_cmp X) → ((k : Key) (x : X) → map.get m k ≡ Some x → p x ≡ false) → list_any (λ e. p e.1) (map.entries m) ≡ false
none_passes p m each = no_entry p (map.entries m) (map.entries_sorted m) (λ k x is. each k x (map.get-entries m k ∙ is))

or_here : (a b : Bool) → a ≡ true → (a || b) ≡ true
or_here true b is = refl
or_here false b is = absurd (cc is)

or_true : (a b : Bool) → b ≡ true → (a || b) ≡ true
or_true true b is = refl
or_true false b is = is

passes_by : {X : Type 0} (p : X → Bool) (v x : X) (rest : Bool) (found : Option X) (b : Bool) → (found ≡ Some x → rest ≡ true) → cond b (Some v) found ≡ Some x → p x ≡ true → (p v || rest) ≡ true
passes_by p v x rest found true later is passes = let same : v ≡ x = cc is in or_here (p v) rest (ap p same ∙ passes)
passes_by p v x rest found false later is passes = or_true (p v) rest (later is)

-- where a value passes it, an entry does
an_entry : {X : Type 0} (p : X → Bool) (es : List (Key × X)) (k : Key) (x : X) → find key_cmp k es ≡ Some x → p x ≡ true → list_any (λ e. p e.1) es ≡ true
an_entry p [] k x is passes = absurd (cc is)
an_entry p (e ∷ es) k x is passes =
    passes_by p e.1 x (list_any (λ e. p e.1) es) (find key_cmp k es) (eq_by_cmp key_cmp k e.0) (λ there. an_entry p es k x there passes) is passes

pub one_passes : {X : Type 0} (p : X → Bool) (m : FinMap key_cmp X) (k : Key) (x : X) → map.get m k ≡ Some x → p x ≡ true → list_any (λ e. p e.1) (map.entries m) ≡ true
one_passes p m k x is passes = an_entry p (map.entries m) k x (sym (map.get-entries m k) ∙ is) passes
