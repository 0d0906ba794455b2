-- The writes of one kind leave the objects that all writes leave under keys of the kind.
use Rattle.std.proofs.Common.{◌≡◌, ℕ, ◌≤◌, List, [], ◌∷◌, length, Option, Some, None, Bool, true, false, cond, ◌&&◌, T, refl, sym, ap, ◌∙◌, arith, Ordering, Less, Equal, Greater, is_eq, is_lt, filter_map}
use Rattle.std.proofs.lemmas.Bool.Decides.{nat_tests}
use Rattle.std.specs.Prelude.{if◌then◌else◌, nat_le}
use Rattle.std.specs.Cmp.{Equal-is, tied_itself}
use Rattle.std.specs.FinMap as map
use Rattle.std.specs.FinMap.{get-empty, get-entries, get-from_sorted, entries-from_sorted, same_map, find, is_sorted}
use Rattle.std.specs.FinMap.Entries.{where_key, below_all, is_sorted-where_key, find-where_key}
use Rattle.std.specs.List.{cons_option}
use Rattle.std.specs.Ordering.{eq_by_cmp}
use Rattle.cmc_meta.specs.declared.key.Key.{Key}
use Rattle.cmc_meta.specs.declared.key.Kind.{Kind}
use Rattle.cmc_meta.specs.Keys.{key_cmp}
use Rattle.cmc_objects.specs.declared.object.Object.{Object}
use Rattle.cmc_model.specs.declared.write.Write.{Write}
use Rattle.cmc_model.specs.Objects.{no_objects, object_at}
use Rattle.cmc_model.specs.Writes.{contents, oldest, of_kind, kind_eq, last_of_kind}
use Rattle.cmc_meta.proofs.KeyOrder.{key_cmp-total, key_cmp-IsAntisymmetric}
use Rattle.cmc_model.proofs.Versions.{object_at-put}

-- ---- the last write of a kind

last_by : (c : Bool) (kind : Kind) (w : Write) (ws : List Write) → last_of_kind kind ws ≤ length ws → (if c then length (w ∷ ws) else last_of_kind kind ws) ≤ length (w ∷ ws)
last_by true kind w ws le = omega arith
last_by false kind w ws le = omega (arith, le)

-- it is one of the writes
pub last_low : (kind : Kind) (ws : List Write) → last_of_kind kind ws ≤ length ws
unfolding last_of_kind
last_low kind [] = omega arith
last_low kind (w ∷ ws) = last_by (kind_eq w.key.kind kind) kind w ws (last_low kind ws)

none_above : (b c : Bool) (kind : Kind) (p : ℕ) (w : Write) (ws : List Write) → nat_le (length (w ∷ ws)) p ≡ b → kind_eq w.key.kind kind ≡ c
    → (last_of_kind kind ws ≤ p → of_kind kind (oldest p ws) ≡ of_kind kind ws) → (if c then length (w ∷ ws) else last_of_kind kind ws) ≤ p
    → of_kind kind (if b then w ∷ ws else oldest p ws) ≡ cond c (w ∷ of_kind kind ws) (of_kind kind ws)
none_above true c kind p w ws reached is below le = ap (λ k. cond k (w ∷ of_kind kind ws) (of_kind kind ws)) is
none_above false true kind p w ws reached is below le = absurd (grind (arith, nat_tests))
none_above false false kind p w ws reached is below le = below le

-- the first writes have all of the kind, up to its last one
pub of_kind-oldest : (kind : Kind) (p : ℕ) (ws : List Write) → last_of_kind kind ws ≤ p → of_kind kind (oldest p ws) ≡ of_kind kind ws
unfolding oldest last_of_kind
of_kind-oldest kind p [] le = refl
of_kind-oldest kind p (w ∷ ws) le = none_above (nat_le (length (w ∷ ws)) p) (kind_eq w.key.kind kind) kind p w ws refl refl (of_kind-oldest kind p ws) le

-- ---- under one key

-- c: the write is one of the kind; t: it names the key; k: the key is one of the kind
merged : {A : Type 0} (c t k : Bool) (x y z : Option A) → (t ≡ true → k ≡ c) → z ≡ cond k y None → cond c (cond t x z) z ≡ cond k (cond t x y) None
merged true true k x y z same is = sym (ap (λ b. cond b x None) (same refl))
merged true false k x y z same is = is
merged false true k x y z same is = is ∙ ap (λ b. cond b y None) (same refl) ∙ sym (ap (λ b. cond b x None) (same refl))
merged false false k x y z same is = is

only : {A : Type 0} (b : Bool) (x : Option A) → x ≡ None → x ≡ cond b x None
only true x none = refl
only false x none = none

pub same_at : (q k : Key) → eq_by_cmp key_cmp q k ≡ true → q ≡ k
same_at q k e = key_cmp-IsAntisymmetric q k ((Equal-is (key_cmp q k)).0 e)

put_if : (c : Bool) (us : List Write) (w : Write) (q : Key)
    → object_at (contents (cond c (w ∷ us) us)) q ≡ cond c (cond (eq_by_cmp key_cmp q w.key) w.object (object_at (contents us) q)) (object_at (contents us) q)
unfolding contents
put_if true us w q = object_at-put (contents us) w.key w.object q
put_if false us w q = refl

pub object_at-of_kind : (kind : Kind) (ws : List Write) (q : Key) → object_at (contents (of_kind kind ws)) q ≡ cond (kind_eq q.kind kind) (object_at (contents ws) q) None
unfolding contents
object_at-of_kind kind [] q = only (kind_eq q.kind kind) (object_at no_objects q) (get-empty key_cmp q)
object_at-of_kind kind (w ∷ ws) q =
    put_if (kind_eq w.key.kind kind) (of_kind kind ws) w q
    ∙ merged (kind_eq w.key.kind kind) (eq_by_cmp key_cmp q w.key) (kind_eq q.kind kind) w.object (object_at (contents ws) q) (object_at (contents (of_kind kind ws)) q)
    (λ e. ap (λ (k : Key). kind_eq k.kind kind) (same_at q w.key e)) (object_at-of_kind kind ws q)
    ∙ ap (λ o. cond (kind_eq q.kind kind) o None) (sym (object_at-put (contents ws) w.key w.object q))

-- ---- as lists

-- the entries are those with keys of the kind
pub entries-of_kind : (kind : Kind) (ws : List Write)
    → map.entries (contents (of_kind kind ws)) ≡ where_key key_cmp (λ k. kind_eq k.kind kind) (map.entries (contents ws))
entries-of_kind kind ws =
    let p : Key → Bool = λ k. kind_eq k.kind kind in
    let es : List (Key × Object) = map.entries (contents ws) in
    let sorted = is_sorted-where_key key_cmp p es (map.entries_sorted (contents ws)) in
    ap map.entries (same_map key_cmp-total key_cmp-IsAntisymmetric (contents (of_kind kind ws)) (map.from_sorted (where_key key_cmp p es)) (λ q.
    object_at-of_kind kind ws q ∙ ap (λ o. cond (p q) o None) (get-entries (contents ws) q)
    ∙ sym (find-where_key key_cmp p q (λ x e. ap p (sym (key_cmp-IsAntisymmetric q x e))) es)
    ∙ sym (get-from_sorted key_cmp (where_key key_cmp p es) q sorted)))
    ∙ entries-from_sorted key_cmp (where_key key_cmp p es) sorted

first : (a b : Bool) → T (a && b) → T a
first true b p = tt
first false b p = p

second : (a b : Bool) → T (a && b) → T b
second true b p = p
second false b p = absurd p

less : (r : Ordering) → T (is_lt r) → r ≡ Less
less Less p = refl
less Equal p = absurd p
less Greater p = absurd p

find_below : (q : Key) (es : List (Key × Object)) → T (below_all key_cmp q es) → find key_cmp q es ≡ None
find_below q [] h = refl
find_below q (e ∷ es) h = ap (λ r. cond (is_eq r) (Some e.1) (find key_cmp q es)) (less (key_cmp q e.0) (first _ _ h)) ∙ find_below q es (second _ _ h)

find_later : (t : Bool) (q : Key) (e : Key × Object) (es : List (Key × Object)) (o : Object) → eq_by_cmp key_cmp q e.0 ≡ t → T (below_all key_cmp e.0 es)
    → find key_cmp q es ≡ Some o → cond t (Some e.1) (find key_cmp q es) ≡ Some o
find_later true q e es o tied below is =
    let none : find key_cmp q es ≡ None = ap (λ k. find key_cmp k es) (same_at q e.0 tied) ∙ find_below e.0 es below in
    absurd (cc (none, is))
find_later false q e es o tied below is = is

kept : {B : Type 0} (b : Bool) (p : Key → Bool) (f : Object → Option B) (e : Key × Object) (es : List (Key × Object)) → p e.0 ≡ b → (p e.0 ≡ false → f e.1 ≡ None)
    → filter_map (λ e. f e.1) (where_key key_cmp p es) ≡ filter_map (λ e. f e.1) es
    → filter_map (λ e. f e.1) (cond b (e ∷ where_key key_cmp p es) (where_key key_cmp p es)) ≡ cons_option (f e.1) (filter_map (λ e. f e.1) es)
kept true p f e es is none rest = ap (cons_option (f e.1)) rest
kept false p f e es is none rest = rest ∙ sym (ap (λ o. cons_option o (filter_map (λ e. f e.1) es)) (none is))

-- of what entries of other keys have none, the entries of such keys have all
pub filter_map-where : {B : Type 0} (p : Key → Bool) (f : Object → Option B) (es : List (Key × Object)) → T (is_sorted key_cmp es)
    → ((q : Key) (o : Object) → find key_cmp q es ≡ Some o → p q ≡ false → f o ≡ None)
    → filter_map (λ e. f e.1) (where_key key_cmp p es) ≡ filter_map (λ e. f e.1) es
filter_map-where p f [] sorted none = refl
filter_map-where p f (e ∷ es) sorted none =
    let here : find key_cmp e.0 (e ∷ es) ≡ Some e.1 = ap (λ r. cond (is_eq r) (Some e.1) (find key_cmp e.0 es)) (tied_itself key_cmp-total e.0) in
    kept (p e.0) p f e es refl (none e.0 e.1 here)
    (filter_map-where p f es (second _ _ sorted) (λ q o is. none q o (find_later (eq_by_cmp key_cmp q e.0) q e es o refl (first _ _ sorted) is)))
