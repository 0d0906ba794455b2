-- Maps that are printed are read again: their names stand in order.
use Rattle.std.proofs.Common.{◌≡◌, ℕ, List, [], ◌∷◌, ◌++◌, Ok, refl, ap, sym, ◌∙◌, append_assoc}
use Rattle.std.specs.declared.cmp.Ordering.{Ordering}
use Rattle.std.specs.declared.cmp.Ordering.TheVariants.{Less, Equal, Greater}
use Rattle.std.specs.Ordering.{nat_cmp, match_ordering, ordering_reverse}
use Rattle.std.specs.Cmp.Lexicographic.{slice_cmp}
use Rattle.std.specs.List.{AllByRecursion}
use Rattle.std.specs.List.Sorted.{IsStrictlySortedBy}
use Rattle.std.specs.Map.{keys_of}
use Rattle.std.proofs.lemmas.Cmp.{nat_list_cmp_total}
use Rattle.serde_json.specs.Data.{Data, Members, no_members, member, put}
use Rattle.cmc_meta.specs.PairLists.{with_text}
use Rattle.cmc_cursor.specs.Members.{Read, ◌>>=◌, under}
use Rattle.cmc_print.specs.Puts.{put_all}
use Rattle.cmc_codec.specs.Laws.{IsBelow, IsOrdered}

abbrev Entries : Type 0
Entries = List (List ℕ × List ℕ)

reversed : (j k : List ℕ) (o : Ordering) → slice_cmp nat_cmp k j ≡ o → slice_cmp nat_cmp j k ≡ ordering_reverse o
reversed j k o h = nat_list_cmp_total.antisymm j k ∙ ap ordering_reverse h

below_next : (k j : List ℕ) (es : Entries) → slice_cmp nat_cmp k j ≡ Less → IsBelow j es → IsBelow k es
below_next k j [] h below = tt
below_next k j (e ∷ es) h below = (nat_list_cmp_total.trans k j e.0 h below.0, below_next k j es h below.1)

below_placed : (o : Ordering) (k j v : List ℕ) (e : List ℕ × List ℕ) (es rest : Entries) → slice_cmp nat_cmp k j ≡ Less → IsBelow k (e ∷ es) → IsBelow k rest
    → IsBelow k (match_ordering o ((j, v) ∷ e ∷ es) ((e.0, v) ∷ es) (e ∷ rest))
below_placed Less k j v e es rest h below later = (h, below)
below_placed Equal k j v e es rest h below later = below
below_placed Greater k j v e es rest h below later = (below.0, later)

below_with : (k j v : List ℕ) (es : Entries) → slice_cmp nat_cmp k j ≡ Less → IsBelow k es → IsBelow k (with_text es j v)
below_with k j v [] h below = (h, tt)
below_with k j v (e ∷ es) h below = below_placed (slice_cmp nat_cmp j e.0) k j v e es (with_text es j v) h below (below_with k j v es h below.1)

ordered_placed : (o : Ordering) (k v : List ℕ) (e : List ℕ × List ℕ) (es rest : Entries) → slice_cmp nat_cmp k e.0 ≡ o → IsOrdered (e ∷ es)
    → (slice_cmp nat_cmp e.0 k ≡ Less → IsBelow e.0 rest) → IsOrdered rest → IsOrdered (match_ordering o ((k, v) ∷ e ∷ es) ((e.0, v) ∷ es) (e ∷ rest))
ordered_placed Less k v e es rest h ordered below later = ((h, below_next k e.0 es h ordered.0), ordered)
ordered_placed Equal k v e es rest h ordered below later = ordered
ordered_placed Greater k v e es rest h ordered below later = (below (reversed e.0 k Greater h), later)

pub ordered_with : (k v : List ℕ) (es : Entries) → IsOrdered es → IsOrdered (with_text es k v)
ordered_with k v [] ordered = (tt, tt)
ordered_with k v (e ∷ es) ordered = ordered_placed (slice_cmp nat_cmp k e.0) k v e es (with_text es k v) refl ordered (λ h. below_with e.0 k v es h ordered.0) (ordered_with k v es ordered.1)

-- ---- each value is read again

abbrev pub AreAgain : (List ℕ → Type 0) → Entries → Type 0
AreAgain P [] = Unit {0}
AreAgain P (e ∷ es) = P e.1 × AreAgain P es

again_placed : (P : List ℕ → Type 0) (o : Ordering) (k v : List ℕ) (e : List ℕ × List ℕ) (es rest : Entries) → P v → AreAgain P (e ∷ es) → AreAgain P rest
    → AreAgain P (match_ordering o ((k, v) ∷ e ∷ es) ((e.0, v) ∷ es) (e ∷ rest))
again_placed P Less k v e es rest one all later = (one, all)
again_placed P Equal k v e es rest one all later = (one, all.1)
again_placed P Greater k v e es rest one all later = (all.0, later)

pub again_with : (P : List ℕ → Type 0) (k v : List ℕ) (es : Entries) → P v → AreAgain P es → AreAgain P (with_text es k v)
again_with P k v [] one all = (one, tt)
again_with P k v (e ∷ es) one all = again_placed P (slice_cmp nat_cmp k e.0) k v e es (with_text es k v) one all (again_with P k v es one all.1)

-- ---- printing and reading in order

abbrev IsAfter : List ℕ → Entries → Type 0
IsAfter k [] = Unit {0}
IsAfter k (e ∷ es) = (slice_cmp nat_cmp k e.0 ≡ Greater) × IsAfter k es

abbrev AreAfter : Entries → Entries → Type 0
AreAfter [] front = Unit {0}
AreAfter (e ∷ es) front = IsAfter e.0 front × AreAfter es front

abbrev listed : (List ℕ → Data) → Entries → Members
listed tree [] = no_members
listed tree (e ∷ es) = member e.0 (tree e.1) (listed tree es)

put_last : (tree : List ℕ → Data) (k v : List ℕ) (front : Entries) → IsAfter k front → put k (tree v) (listed tree front) ≡ listed tree (front ++ (k, v) ∷ [])
put_last tree k v [] h = refl
put_last tree k v (e ∷ es) h = rw (h.0) (ap (λ ms. member e.0 (tree e.1) ms) (put_last tree k v es h.1))

with_last : (k v : List ℕ) (front : Entries) → IsAfter k front → with_text front k v ≡ front ++ (k, v) ∷ []
with_last k v [] h = refl
with_last k v (e ∷ es) h = rw (h.0) (ap (λ ms. e ∷ ms) (with_last k v es h.1))

after_last : (j k v : List ℕ) (front : Entries) → IsAfter j front → slice_cmp nat_cmp j k ≡ Greater → IsAfter j (front ++ (k, v) ∷ [])
after_last j k v [] h last = (last, tt)
after_last j k v (e ∷ es) h last = (h.0, after_last j k v es h.1 last)

all_after_last : (k v : List ℕ) (front es : Entries) → AreAfter es front → IsBelow k es → AreAfter es (front ++ (k, v) ∷ [])
all_after_last k v front [] after below = tt
all_after_last k v front (e ∷ es) after below = (after_last e.0 k v front after.0 (reversed e.0 k Less below.0), all_after_last k v front es after.1 below.1)

put_all_after : (tree : List ℕ → Data) (es front : Entries) → IsOrdered es → AreAfter es front → put_all tree es (listed tree front) ≡ listed tree (front ++ es)
put_all_after tree [] front ordered after = ap (listed tree) (sym (append_nil front))
  where
    append_nil : (xs : Entries) → xs ++ [] ≡ xs
    append_nil [] = refl
    append_nil (x ∷ xs) = ap (λ ys. x ∷ ys) (append_nil xs)
put_all_after tree (e ∷ es) front ordered after =
    ap (put_all tree es) (put_last tree e.0 e.1 front after.0)
    ∙ (put_all_after tree es (front ++ e ∷ []) ordered.1 (all_after_last e.0 e.1 front es after.1 ordered.0)
    ∙ ap (listed tree) (append_assoc front (e ∷ []) es))

none_before : (es : Entries) → AreAfter es []
none_before [] = tt
none_before (e ∷ es) = (tt, none_before es)

pub all_put : (tree : List ℕ → Data) (es : Entries) → IsOrdered es → put_all tree es no_members ≡ listed tree es
all_put tree es ordered = put_all_after tree es [] ordered (none_before es)

-- the values of the members put under their names, as each is read
abbrev pub entries_with : (Data → Read (List ℕ)) → Entries → Members → Read Entries
entries_with read es no_members = Ok es
entries_with read es (member name d ms) = under name (read d) >>= (λ v. entries_with read (with_text es name v) ms)

read_after : (read : Data → Read (List ℕ)) (tree : List ℕ → Data) (es front : Entries) → IsOrdered es → AreAfter es front → AreAgain (λ v. read (tree v) ≡ Ok v) es
    → entries_with read front (listed tree es) ≡ Ok (front ++ es)
read_after read tree [] front ordered after again = ap (λ (xs : Entries). ok xs) (sym (append_nil front))
  where
    ok : Entries → Read Entries
    ok xs = Ok xs

    append_nil : (xs : Entries) → xs ++ [] ≡ xs
    append_nil [] = refl
    append_nil (x ∷ xs) = ap (λ ys. x ∷ ys) (append_nil xs)
read_after read tree (e ∷ es) front ordered after again =
    rw (again.0, with_last e.0 e.1 front after.0)
    (read_after read tree es (front ++ e ∷ []) ordered.1 (all_after_last e.0 e.1 front es after.1 ordered.0) again.1
    ∙ ap (λ (xs : Entries). ok xs) (append_assoc front (e ∷ []) es))
  where
    ok : Entries → Read Entries
    ok xs = Ok xs

pub all_read : (read : Data → Read (List ℕ)) (tree : List ℕ → Data) (es : Entries) → IsOrdered es → AreAgain (λ v. read (tree v) ≡ Ok v) es
    → entries_with read [] (put_all tree es no_members) ≡ Ok es
all_read read tree es ordered again = ap (entries_with read []) (all_put tree es ordered) ∙ read_after read tree es [] ordered (none_before es) again

-- the names of a sorted map stand in order
all_below : (k : List ℕ) (es : Entries) → AllByRecursion (λ y. slice_cmp nat_cmp k y ≡ Less) (keys_of es) → IsBelow k es
all_below k [] h = tt
all_below k (e ∷ es) h = (h.0, all_below k es h.1)

pub in_order : (es : Entries) → IsStrictlySortedBy (slice_cmp nat_cmp) (keys_of es) → IsOrdered es
unfolding IsStrictlySortedBy
in_order [] h = tt
in_order (e ∷ es) h = (all_below e.0 es h.0, in_order es h.1)
