-- The mark of one key changes, and of no other.
use Rattle.std.proofs.Common.{◌≡◌, Option, Some, None, Bool, true, false, cond, refl, sym, ap, ◌∙◌, subst, rules, List, [], ◌∷◌, Less, Equal}
use Rattle.std.specs.BTreeMap.{BTreeMap, WritesThrough, get_by, is_at}
use Rattle.std.specs.Cmp.{Equal-is, eq_by_cmp_equiv}
use Rattle.std.specs.Cmp.Rules.{comparing}
use Rattle.std.specs.List.{list_any, AllByRecursion}
use Rattle.std.specs.List.Sorted.{IsStrictlySortedBy}
use Rattle.std.specs.Map.{lookup, keys_of}
use Rattle.std.specs.Ordering.{is_eq}
use Rattle.std.specs.Prelude.{IsSome, if◌then◌else◌, is_some, ◌||◌}
use Rattle.cmc_meta.specs.declared.key.Key.{Key}
use Rattle.cmc_meta.specs.Keys.{key_cmp, key_eq}
use Rattle.cmc_meta.proofs.KeyOrder.{key_cmp-total, key_cmp-IsAntisymmetric}
use Rattle.cmc_informer.specs.Indexes.{Marked, is_marked_key, mark_in, has_place, on_keys, AreKeys}

-- keys that tie in the order are those that the test finds equal
pub key_tie : (a b : Key) → is_eq (key_cmp a b) ≡ key_eq a b
key_tie a b = search (comparing, rules)

pub same_key : (a b : Key) → is_eq (key_cmp a b) ≡ true → a ≡ b
same_key a b h = key_cmp-IsAntisymmetric a b ((Equal-is (key_cmp a b)).0 h)

pub equal_key : (a b : Key) → key_eq a b ≡ true → a ≡ b
equal_key a b h = same_key a b (key_tie a b ∙ h)

moved : (b : Bool) (on : Option Bool) (es new : Marked) (key k : Key) → is_eq (key_cmp key k) ≡ b
    → lookup (is_at (key_cmp k)) new ≡ cond b on (lookup (is_at (key_cmp k)) es) → mark_in new k ≡ (if b then is_marked_key on else mark_in es k)
unfolding mark_in
moved true on es new key k e at = ap is_marked_key at
moved false on es new key k e at = ap is_marked_key at

-- a map that is changed at the key alone
pub mark_changed : (on : Option Bool) (es new : Marked) (key : Key) → ((q : Key) → lookup (is_at (key_cmp q)) new ≡ cond (is_eq (key_cmp key q)) on (lookup (is_at (key_cmp q)) es))
    → (k : Key) → mark_in new k ≡ (if key_eq key k then is_marked_key on else mark_in es k)
mark_changed on es new key each k =
    subst (λ b. mark_in new k ≡ (if b then is_marked_key on else mark_in es k)) (key_tie key k) (moved (is_eq (key_cmp key k)) on es new key k refl (each k))

-- a map that is written through
pub mark_written : (m n : BTreeMap Key Bool) (key : Key) (old on : Bool) → get_by (key_cmp key) m ≡ Some old → WritesThrough key_cmp (key_cmp key) m on n
    → (k : Key) → mark_in n.entries k ≡ (if key_eq key k then on else mark_in m.entries k)
mark_written m n key old on found through =
    let some : IsSome (get_by (key_cmp key) m) = rw found refl in
    mark_changed (Some on) m.entries n.entries key (λ q. (through.3 some).0 q)

kept : (o : Option Bool) → is_some o ≡ true → o ≡ None → ⊥
kept None h none = absurd (cc)
kept (Some on) h none = absurd (cc)

pub place_is_kept : (es : Marked) (key : Key) → has_place es key ≡ true → lookup (is_at (key_cmp key)) es ≡ None → ⊥
unfolding has_place
place_is_kept es key has none = kept _ has none

none_from_test : (o : Option Bool) → is_some o ≡ false → o ≡ None
none_from_test None h = refl
none_from_test (Some on) h = absurd (cc)

off_before : (b : Bool) (es : Marked) (key k : Key) → is_eq (key_cmp key k) ≡ b → lookup (is_at (key_cmp key)) es ≡ None → (if b then false else mark_in es k) ≡ mark_in es k
unfolding mark_in
off_before true es key k e none = sym (ap is_marked_key (ap (λ q. lookup (is_at (key_cmp q)) es) (sym (same_key key k e)) ∙ none))
off_before false es key k e none = refl

-- a map to which the key is added, not counting
pub mark_added : (es new : Marked) (key copy : Key) → is_some (lookup (is_at (key_cmp key)) es) ≡ false → copy ≡ key
    → ((q : Key) → lookup (is_at (key_cmp q)) new ≡ cond (is_eq (key_cmp copy q)) (Some false) (lookup (is_at (key_cmp q)) es)) → (k : Key) → mark_in new k ≡ mark_in es k
mark_added es new key copy absent same each k =
    let none : lookup (is_at (key_cmp copy)) es ≡ None = ap (λ q. lookup (is_at (key_cmp q)) es) same ∙ none_from_test _ absent in
    mark_changed (Some false) es new copy each k
    ∙ subst (λ b. (if b then false else mark_in es k) ≡ mark_in es k) (key_tie copy k) (off_before (is_eq (key_cmp copy k)) es copy k refl none)

-- ---- the keys that count

above_on : (b : Bool) (x k : Key) (rest : List Key) → key_cmp x k ≡ Less → AllByRecursion (λ y. key_cmp x y ≡ Less) rest → AllByRecursion (λ y. key_cmp x y ≡ Less) (if b then k ∷ rest else rest)
above_on true x k rest low all = (low, all)
above_on false x k rest low all = all

above : (x : Key) (es : Marked) → AllByRecursion (λ y. key_cmp x y ≡ Less) (keys_of es) → AllByRecursion (λ y. key_cmp x y ≡ Less) (on_keys es)
above x [] all = tt
above x (e ∷ es) all = above_on e.1 x e.0 (on_keys es) all.0 (above x es all.1)

sorted_on : (b : Bool) (k : Key) (rest : List Key) → AllByRecursion (λ y. key_cmp k y ≡ Less) rest → IsStrictlySortedBy key_cmp rest → IsStrictlySortedBy key_cmp (if b then k ∷ rest else rest)
unfolding IsStrictlySortedBy
sorted_on true k rest low sorted = (low, sorted)
sorted_on false k rest low sorted = sorted

sorted_keys : (es : Marked) → IsStrictlySortedBy key_cmp (keys_of es) → IsStrictlySortedBy key_cmp (on_keys es)
unfolding IsStrictlySortedBy
sorted_keys [] h = tt
sorted_keys (e ∷ es) h = sorted_on e.1 e.0 (on_keys es) (above e.0 es h.0) (sorted_keys es h.1)

none_on : (x q : Key) (ks : List Key) → key_cmp x q ≡ Equal → AllByRecursion (λ y. key_cmp x y ≡ Less) ks → list_any (is_at (key_cmp q)) ks ≡ false
none_on x q [] tie all = refl
none_on x q (k ∷ ks) tie all =
    let lower : key_cmp q k ≡ Less = sym (key_cmp-total.congr x q k tie) ∙ all.0 in
    ap (λ r. is_eq r || list_any (is_at (key_cmp q)) ks) lower ∙ none_on x q ks tie all.1

among : (tied on : Bool) (q k : Key) (rest : List Key) (below : Option Bool) → is_eq (key_cmp q k) ≡ tied → (tied ≡ true → list_any (is_at (key_cmp q)) rest ≡ false) → list_any (is_at (key_cmp q)) rest ≡ is_marked_key below
    → list_any (is_at (key_cmp q)) (if on then k ∷ rest else rest) ≡ is_marked_key (cond tied (Some on) below)
among true true q k rest below e none is = ap (λ b. b || list_any (is_at (key_cmp q)) rest) e
among true false q k rest below e none is = none refl
among false true q k rest below e none is = ap (λ b. b || list_any (is_at (key_cmp q)) rest) e ∙ is
among false false q k rest below e none is = is

tied_back : (q k : Key) → is_eq (key_cmp q k) ≡ true → key_cmp k q ≡ Equal
tied_back q k e = let same = same_key q k e in subst (λ (x : Key). key_cmp x q ≡ Equal) same (subst (λ (x : Key). key_cmp q x ≡ Equal) (sym same) ((Equal-is (key_cmp q k)).0 e))

exact : (q : Key) (es : Marked) → IsStrictlySortedBy key_cmp (keys_of es) → list_any (is_at (key_cmp q)) (on_keys es) ≡ is_marked_key (lookup (is_at (key_cmp q)) es)
unfolding IsStrictlySortedBy
exact q [] h = refl
exact q (e ∷ es) h = among (is_eq (key_cmp q e.0)) e.1 q e.0 (on_keys es) (lookup (is_at (key_cmp q)) es) refl (λ tie. none_on e.0 q (on_keys es) (tied_back q e.0 tie) (above e.0 es h.0)) (exact q es h.1)

-- the keys that count are those, in order
pub keys_are : (es : Marked) → IsStrictlySortedBy key_cmp (keys_of es) → AreKeys (on_keys es) (λ k. mark_in es k)
unfolding mark_in
keys_are es sorted = record { ordered = sorted_keys es sorted; exact = λ q. exact q es sorted }

no_keys_sorted : IsStrictlySortedBy key_cmp []
unfolding IsStrictlySortedBy
no_keys_sorted = tt

-- where nothing is kept no key stands
pub no_keys : (P : Key → Bool) → ((k : Key) → P k ≡ false) → AreKeys [] P
no_keys P none = record { ordered = no_keys_sorted; exact = λ k. sym (none k) }

stays : (b : Bool) (es new : Marked) (key k : Key) (on : Bool) → is_eq (key_cmp key k) ≡ b
    → lookup (is_at (key_cmp k)) new ≡ cond b (Some on) (lookup (is_at (key_cmp k)) es) → has_place es k ≡ true → has_place new k ≡ true
unfolding has_place
stays true es new key k on e at has = ap is_some at
stays false es new key k on e at has = ap is_some at ∙ has

-- a map that is written through keeps its places
pub places_stay : (m n : BTreeMap Key Bool) (key : Key) (old on : Bool) → get_by (key_cmp key) m ≡ Some old → WritesThrough key_cmp (key_cmp key) m on n
    → (k : Key) → has_place m.entries k ≡ true → has_place n.entries k ≡ true
places_stay m n key old on found through k has =
    let some : IsSome (get_by (key_cmp key) m) = rw found refl in
    stays (is_eq (key_cmp key k)) m.entries n.entries key k on refl ((through.3 some).0 k) has

-- a map without the key
mark_absent : (es : Marked) (key : Key) → lookup (is_at (key_cmp key)) es ≡ None → (k : Key) → mark_in es k ≡ (if key_eq key k then false else mark_in es k)
mark_absent es key none k = sym (subst (λ b. (if b then false else mark_in es k) ≡ mark_in es k) (key_tie key k) (off_before (is_eq (key_cmp key k)) es key k refl none))

-- where a key has no place, it is not said to count
pub mark_missing : (es : Marked) (key : Key) (on : Bool) → (on ≡ true → has_place es key ≡ true) → lookup (is_at (key_cmp key)) es ≡ None → (k : Key) → mark_in es k ≡ (if key_eq key k then on else mark_in es k)
mark_missing es key true has none = absurd (place_is_kept es key (has refl) none)
mark_missing es key false has none = mark_absent es key none

pub key_eq_self : (k : Key) → key_eq k k ≡ true
key_eq_self k = sym (key_tie k k) ∙ (eq_by_cmp_equiv key_cmp-total).refl k

or_first : (a b : Bool) → a ≡ true → (a || b) ≡ true
or_first true b e = refl
or_first false b e = absurd (cc e)

-- the first of the keys that count does
pub first_counts : (es : Marked) (k : Key) (rest : List Key) → IsStrictlySortedBy key_cmp (keys_of es) → on_keys es ≡ k ∷ rest → mark_in es k ≡ true
first_counts es k rest sorted is =
    sym ((keys_are es sorted).exact k) ∙ ap (list_any (is_at (key_cmp k))) is ∙ or_first (is_eq (key_cmp k k)) (list_any (is_at (key_cmp k)) rest) (key_tie k k ∙ key_eq_self k)

pub none_counts : (es : Marked) → IsStrictlySortedBy key_cmp (keys_of es) → on_keys es ≡ [] → (k : Key) → mark_in es k ≡ false
none_counts es sorted none k = sym ((keys_are es sorted).exact k) ∙ ap (list_any (is_at (key_cmp k))) none

-- where those that came before do not count, the first of what is left is the first that counts
pub first_left : (es left rest : Marked) (k : Key) (on : Bool) → IsStrictlySortedBy key_cmp (keys_of es) → on_keys left ≡ on_keys es → left ≡ (k, on) ∷ rest → on ≡ true → mark_in es k ≡ true
first_left es left rest k on sorted skipped is counts =
    first_counts es k (on_keys rest) sorted (sym skipped ∙ ap on_keys is ∙ ap (λ (b : Bool). if b then k ∷ on_keys rest else on_keys rest) counts)

pub none_left : (es left : Marked) → IsStrictlySortedBy key_cmp (keys_of es) → on_keys left ≡ on_keys es → left ≡ [] → (k : Key) → mark_in es k ≡ false
none_left es left sorted skipped is = none_counts es sorted (sym skipped ∙ ap on_keys is)
