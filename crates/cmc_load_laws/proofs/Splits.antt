-- What is picked of all objects, where one of them is put in, taken out or replaced.
use Rattle.std.proofs.Common.{◌≡◌, Bool, true, false, cond, List, [], ◌∷◌, ◌++◌, Option, Some, None, refl, sym, ap, ◌∙◌, Ordering, Less, Equal, Greater}
use Rattle.std.specs.Cmp.{eq_by_cmp_equiv}
use Rattle.std.specs.FinMap as maps
use Rattle.std.specs.FinMap.{entries-insert, find, get-empty, get-entries, get-insert, get-remove, get_tied, put, same_map}
use Rattle.std.specs.FinMap.Entries.{by_order}
use Rattle.std.specs.List.{cons_option}
use Rattle.std.specs.Ordering.{eq_by_cmp, is_eq}
use Rattle.std.specs.Prelude.{filter_map, option_and_then}
use Rattle.cmc_meta.specs.declared.key.Key.{Key}
use Rattle.cmc_meta.specs.Keys.{key_cmp}
use Rattle.cmc_meta.proofs.KeyOrder.{key_cmp-total, key_cmp-IsAntisymmetric}
use Rattle.cmc_objects.specs.declared.object.Object.{Object}
use Rattle.cmc_model.specs.Objects.{Objects, no_objects, object_at}
use Rattle.cmc_model.specs.Replies.{put_at}
use Rattle.cmc_model.proofs.Versions.{object_at-put}
use Rattle.cmc_load_laws.specs.Frame.{IsOneChange}

-- ---- in the list of entries

abbrev pub picked : {X : Type 0} → (Object → Option X) → List (Key × Object) → List X
picked f es = filter_map (λ e. f e.1) es

-- where the key has none, there is a place for it
record IsPlace {X : Type 0} (f : Object → Option X) (k : Key) (es : List (Key × Object)) : Type 0 where
  first : List X
  rest : List X
  whole : picked f es ≡ first ++ rest
  full : (v : Object) → picked f (put key_cmp k v es) ≡ first ++ cons_option (f v) rest

cons_more : {X : Type 0} (o : Option X) (xs ys zs : List X) → xs ≡ ys ++ zs → cons_option o xs ≡ cons_option o ys ++ zs
cons_more None xs ys zs is = is
cons_more (Some x) xs ys zs is = ap (λ l. x ∷ l) is

place_by : {X : Type 0} (f : Object → Option X) (o : Ordering) (k : Key) (e : Key × Object) (es : List (Key × Object)) → key_cmp k e.0 ≡ o → is_eq o ≡ false → IsPlace f k es → IsPlace f k (e ∷ es)
place_by f Less k e es is off below =
    record { first = []; rest = picked f (e ∷ es); whole = refl; full = λ v. ap (λ (o : Ordering). picked f (by_order o ((k, v) ∷ e ∷ es) ((e.0, v) ∷ es) (e ∷ put key_cmp k v es))) is }
place_by f Equal k e es is off below = absurd (cc off)
place_by f Greater k e es is off below =
    record {
      first = cons_option (f e.1) below.first;
      rest = below.rest;
      whole = cons_more (f e.1) (picked f es) below.first below.rest below.whole;
      full = λ v. ap (λ (o : Ordering). picked f (by_order o ((k, v) ∷ e ∷ es) ((e.0, v) ∷ es) (e ∷ put key_cmp k v es))) is
          ∙ cons_more (f e.1) (picked f (put key_cmp k v es)) below.first (cons_option (f v) below.rest) (below.full v);
    }

not_found : {X : Type 0} (b : Bool) (x : X) (o : Option X) → cond b (Some x) o ≡ None → (b ≡ false) × (o ≡ None)
not_found true x o is = absurd (cc is)
not_found false x o is = (refl, is)

place : {X : Type 0} (f : Object → Option X) (k : Key) (es : List (Key × Object)) → find key_cmp k es ≡ None → IsPlace f k es
place f k [] none = record { first = []; rest = []; whole = refl; full = λ v. refl }
place f k (e ∷ es) none =
    let parts = not_found (eq_by_cmp key_cmp k e.0) e.1 (find key_cmp k es) none in
    place_by f (key_cmp k e.0) k e es refl parts.0 (place f k es parts.1)

-- ---- in the objects

-- what is under the key is put there again
kept_by : (b : Bool) (q k : Key) (m : Objects) (o : Option Object) → eq_by_cmp key_cmp q k ≡ b → object_at m k ≡ o → cond b o (object_at m q) ≡ object_at m q
kept_by true q k m o is there = sym there ∙ get_tied key_cmp-total m q k (tied (key_cmp q k) is) where
  tied : (r : Ordering) → is_eq r ≡ true → r ≡ Equal
  tied Less e = absurd (cc e)
  tied Equal e = refl
  tied Greater e = absurd (cc e)
kept_by false q k m o is there = refl

pub put_again : (m : Objects) (k : Key) (o : Option Object) → object_at m k ≡ o → put_at m k o ≡ m
put_again m k o there = same_map key_cmp-total key_cmp-IsAntisymmetric (put_at m k o) m (λ q. object_at-put m k o q ∙ kept_by (eq_by_cmp key_cmp q k) q k m o refl there)

twice : {X : Type 0} (b : Bool) (x y : Option X) → cond b x (cond b None y) ≡ cond b x y
twice true x y = refl
twice false x y = refl

put_over : (m : Objects) (k : Key) (v : Object) → maps.insert (maps.remove m k) k v ≡ maps.insert m k v
put_over m k v = same_map key_cmp-total key_cmp-IsAntisymmetric (maps.insert (maps.remove m k) k v) (maps.insert m k v) (λ q.
    get-insert key_cmp-total (maps.remove m k) k v q ∙ ap (cond (eq_by_cmp key_cmp q k) (Some v)) (get-remove key_cmp-total m k q) ∙ twice (eq_by_cmp key_cmp q k) (Some v) (object_at m q)
    ∙ sym (get-insert key_cmp-total m k v q))

-- the place of the key in what is picked, whatever is there
pub record HasPlace {X : Type 0} (f : Object → Option X) (m : Objects) (k : Key) : Type 0 where
  pub first : List X
  pub rest : List X
  pub full : (o : Option Object) → picked f (maps.entries (put_at m k o)) ≡ first ++ cons_option (option_and_then f o) rest

removed : (m : Objects) (k : Key) → find key_cmp k (maps.entries (maps.remove m k)) ≡ None
removed m k = sym (get-entries (maps.remove m k) k) ∙ get-remove key_cmp-total m k k ∙ ap (λ (b : Bool). cond b None (object_at m k)) ((eq_by_cmp_equiv key_cmp-total).refl k)

full_by : {X : Type 0} (f : Object → Option X) (m : Objects) (k : Key) (at : IsPlace f k (maps.entries (maps.remove m k))) (o : Option Object)
    → picked f (maps.entries (put_at m k o)) ≡ at.first ++ cons_option (option_and_then f o) at.rest
full_by f m k at None = at.whole
full_by f m k at (Some v) = ap (λ (n : Objects). picked f (maps.entries n)) (sym (put_over m k v)) ∙ ap (picked f) (entries-insert key_cmp-total (maps.remove m k) k v) ∙ at.full v

pub place_of : {X : Type 0} (f : Object → Option X) (m : Objects) (k : Key) → HasPlace f m k
place_of f m k =
    let at = place f k (maps.entries (maps.remove m k)) (removed m k) in
    record { first = at.first; rest = at.rest; full = full_by f m k at }

-- what is picked before and after differs in what is picked under the key
pub one_change : {X : Type 0} (f : Object → Option X) (m : Objects) (k : Key) (o : Option Object)
    → IsOneChange (option_and_then f (object_at m k)) (option_and_then f o) (picked f (maps.entries m)) (picked f (maps.entries (put_at m k o)))
one_change f m k o =
    let at = place_of f m k in
    record {
      first = at.first;
      rest = at.rest;
      was = ap (λ (n : Objects). picked f (maps.entries n)) (sym (put_again m k (object_at m k) refl)) ∙ at.full (object_at m k);
      is = at.full o;
    }

-- of no objects none is picked
no_entries : (es : List (Key × Object)) → ((q : Key) → find key_cmp q es ≡ None) → es ≡ []
no_entries [] none = refl
no_entries (e ∷ es) none =
    absurd (let some : Some e.1 ≡ None = sym (ap (λ (b : Bool). cond b (Some e.1) (find key_cmp e.0 es)) ((eq_by_cmp_equiv key_cmp-total).refl e.0)) ∙ none e.0 in cc some)

pub none_picked : {X : Type 0} (f : Object → Option X) → picked f (maps.entries no_objects) ≡ []
none_picked f = ap (picked f) (no_entries (maps.entries no_objects) (λ q. sym (get-entries no_objects q) ∙ get-empty key_cmp q))
