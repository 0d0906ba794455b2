-- The rows of all Certificates: members stand in the order of their names, entries in that of their keys.
use Rattle.std.proofs.Common.{◌≡◌, ℕ, List, [], ◌∷◌, Ok, Err, Option, Some, None, refl, ap, sym, subst, ◌∙◌, codes, rules}
use Rattle.std.specs.List.{AllByRecursion}
use Rattle.std.specs.Cmp.{IsTotalOrder}
use Rattle.std.specs.Cmp.Rules.{comparing}
use Rattle.std.specs.FinMap.{nat_cmp-IsAntisymmetric, slice_cmp-IsAntisymmetric}
use Rattle.std.specs.Cmp.Lexicographic.{slice_cmp}
use Rattle.std.specs.Ordering.{nat_cmp, match_ordering, ordering_reverse}
use Rattle.std.specs.BTreeMap.{insert_entry}
use Rattle.std.specs.declared.cmp.Ordering.{Ordering}
use Rattle.std.specs.declared.cmp.Ordering.TheVariants.{Less, Equal, Greater}
use Rattle.serde_json.specs.Data.{Data, null, boolean, number, string, array, object, Members, no_members, member, put}
use Rattle.cmc_meta.specs.Keys.{key_cmp}
use Rattle.cmc_meta.specs.declared.key.Key.{Key}
use Rattle.cmc_objects.specs.Materials.{with_rows_of}
use Rattle.cmc_objects.specs.declared.rows.Rows.{Rows}
use Rattle.cmc_cursor.specs.Members.{Read, ◌>>=◌, under}
use Rattle.cmc_cursor.proofs.Always.{Always, so, failed, after, below, further}
use Rattle.cmc_print.specs.Words.{name_text}
use Rattle.cmc_material.specs.Keys.{key_of_kind}
use Rattle.cmc_material.specs.MaterialRows.{rows_at, certificate_rows_at, material_with, material_at}
use Rattle.cmc_meta.specs.declared.key.Kind.TheVariants.{Certificate}
use Rattle.cmc_scenario_print.specs.RowTrees.{rows_tree, put_entries, material_tree}
use Rattle.cmc_material.specs.Lists.{member_or}
use Rattle.cmc_codec.proofs.Slots.{some_list}
use Rattle.cmc_scenario_laws.specs.Rows.{AreInOrder, HasEntryBytes}
use Rattle.cmc_scenario_laws.proofs.Members.{list_given}
use Rattle.cmc_scenario_laws.proofs.KeysAgain.{certificate_text_so}
use Rattle.cmc_scenario_laws.proofs.RowsAgain.{AreRowsAgain, rows_so}

-- ---- two entries that are put at their places: the order does not matter

abbrev Entries : Type 0 → Type 0 → Type 0
Entries K V = List (K × V)

above : {K : Type 0} (R : K → K → Ordering) → IsTotalOrder R → (k j : K) → R k j ≡ Less → R j k ≡ Greater
above R total k j h = total.antisymm j k ∙ ap ordering_reverse h

swap_less : {K V : Type 0} (R : K → K → Ordering) → IsTotalOrder R → (k j : K) (v w : V) → R k j ≡ Less → (es : Entries K V)
    → insert_entry R (insert_entry R es j w) k v ≡ insert_entry R (insert_entry R es k v) j w
swap_less R total k j v w h [] = rw (h, above R total k j h) refl
swap_less {K = K} {V = V} R total k j v w h (e ∷ es) = by_place (R k e.0) (R j e.0) refl refl (swap_less R total k j v w h es)
  where
    behind : (a : Ordering) → R k e.0 ≡ a → (a ≡ Less → ⊥) → R j e.0 ≡ Greater
    behind Less ha not_less = absurd (not_less refl)
    behind Equal ha not_less = above R total e.0 j (sym (total.congr k e.0 j ha) ∙ h)
    behind Greater ha not_less = above R total e.0 j (total.trans e.0 k j (total.antisymm e.0 k ∙ ap ordering_reverse ha) h)

    by_place : (a b : Ordering) → R k e.0 ≡ a → R j e.0 ≡ b → insert_entry R (insert_entry R es j w) k v ≡ insert_entry R (insert_entry R es k v) j w → insert_entry R (insert_entry R (e ∷ es) j w) k v ≡ insert_entry R (insert_entry R (e ∷ es) k v) j w
    by_place Less Less ha hb rest = rw (hb, ha, h, above R total k j h, hb) refl
    by_place Less Equal ha hb rest = rw (hb, ha, above R total k j h, hb) refl
    by_place Less Greater ha hb rest = rw (hb, ha, above R total k j h, hb) refl
    by_place Equal b ha hb rest = rw (behind Equal ha (λ e. cc), ha, behind Equal ha (λ e. cc)) refl
    by_place Greater b ha hb rest = rw (behind Greater ha (λ e. cc), ha, behind Greater ha (λ e. cc)) (ap (λ fs. e ∷ fs) rest)

abbrev Differ : Ordering → Type 0
Differ Less = Unit {0}
Differ Equal = ⊥
Differ Greater = Unit {0}

swap : {K V : Type 0} (R : K → K → Ordering) → IsTotalOrder R → (k j : K) (v w : V) → Differ (R k j) → (es : Entries K V)
    → insert_entry R (insert_entry R es j w) k v ≡ insert_entry R (insert_entry R es k v) j w
swap {K = K} {V = V} R total k j v w differ es = by_order (R k j) refl differ
  where
    by_order : (o : Ordering) → R k j ≡ o → Differ o → insert_entry R (insert_entry R es j w) k v ≡ insert_entry R (insert_entry R es k v) j w
    by_order Less h d = swap_less R total k j v w h es
    by_order Greater h d = sym (swap_less R total j k w v (total.antisymm j k ∙ ap ordering_reverse h) es)
    by_order Equal h d = absurd d

-- ---- entries that were read

abbrev IsKey : Key → Type 0
IsKey key = key_of_kind Certificate (name_text key) ≡ Ok key

abbrev IsEntry : Key × Rows → Type 0
IsEntry entry = IsKey entry.0 × AreRowsAgain entry.1

abbrev pub AreEntries : List (Key × Rows) → Type 0
AreEntries = AllByRecursion IsEntry

entry_so : (name : List ℕ) (d : Data) → Always IsEntry (certificate_rows_at name d)
unfolding certificate_rows_at
entry_so name d =
    after IsKey IsEntry (key_of_kind Certificate name) _ (certificate_text_so Certificate name)
    (λ certificate is. after AreRowsAgain IsEntry (rows_at d) _ (rows_so d) (λ rows again. so (is, again)))

either_way : {A : Type 0} (P : A → Type 0) (o : Ordering) (a b c : A) → P a → P b → P c → P (match_ordering o a b c)
either_way P Less a b c x y z = x
either_way P Equal a b c x y z = y
either_way P Greater a b c x y z = z

entry_put : (es : List (Key × Rows)) (key : Key) (rows : Rows) → IsEntry (key, rows) → AreEntries es → AreEntries (insert_entry key_cmp es key rows)
entry_put [] key rows is all = (is, tt)
entry_put (e ∷ es) key rows is all =
    either_way AreEntries (key_cmp key e.0) ((key, rows) ∷ e ∷ es) ((e.0, rows) ∷ es) (e ∷ insert_entry key_cmp es key rows) (is, all) ((all.0.0, is.1), all.1) (all.0, entry_put es key rows is all.1)

entries_so : (es : List (Key × Rows)) (ms : Members) → AreEntries es → Always AreEntries (material_with es ms)
entries_so es no_members all = so all
entries_so es (member name d ms) all =
    after IsEntry AreEntries (under name (certificate_rows_at name d)) _ (below IsEntry name (certificate_rows_at name d) (entry_so name d))
    (λ entry is. entries_so (insert_entry key_cmp es entry.0 entry.1) ms (entry_put es entry.0 entry.1 is all))

-- ---- one member more

total : IsTotalOrder key_cmp
total = search (comparing, rules)

abbrev AreOther : List ℕ → Key → Members → Type 0
AreOther n key no_members = Unit {0}
AreOther n key (member m d ms) = Differ (slice_cmp nat_cmp n m) × (((e : Key × Rows) → certificate_rows_at m d ≡ Ok e → Differ (key_cmp key e.0)) × AreOther n key ms)

with_member : (n : List ℕ) (d : Data) (key : Key) (rows : Rows) → under n (certificate_rows_at n d) ≡ Ok (key, rows) → (ms : Members) (es : List (Key × Rows)) → AreOther n key ms
    → material_with es (put n d ms) ≡ material_with (with_rows_of es key rows) ms
with_member n d key rows read no_members es other = rw read refl
with_member n d key rows read (member l v ms) es other = by_order (slice_cmp nat_cmp n l) other.0 (λ fs. with_member n d key rows read ms fs other.1.1)
  where
    behind : (r : Read (Key × Rows)) → certificate_rows_at l v ≡ r → ((fs : List (Key × Rows)) → material_with fs (put n d ms) ≡ material_with (with_rows_of fs key rows) ms) → under l r >>= (λ x. material_with (with_rows_of es x.0 x.1) (put n d ms)) ≡ under l r >>= (λ x. material_with (with_rows_of (with_rows_of es key rows) x.0 x.1) ms)
    behind (Ok x) h rest =
        rest (with_rows_of es x.0 x.1)
        ∙ ap (λ fs. material_with fs ms) (swap key_cmp total key x.0 rows x.1 (other.1.0 x h) es)
    behind (Err path) h rest = refl

    by_order : (o : Ordering) → Differ o → ((fs : List (Key × Rows)) → material_with fs (put n d ms) ≡ material_with (with_rows_of fs key rows) ms) → material_with es (match_ordering o (member n d (member l v ms)) (member l d ms) (member l v (put n d ms))) ≡ material_with (with_rows_of es key rows) (member l v ms)
    by_order Less differ rest = rw read refl
    by_order Equal differ rest = absurd differ
    by_order Greater differ rest = behind (certificate_rows_at l v) refl rest

other_put : (n : List ℕ) (key : Key) (l : List ℕ) (v : Data) → Differ (slice_cmp nat_cmp n l) → ((e : Key × Rows) → certificate_rows_at l v ≡ Ok e → Differ (key_cmp key e.0)) → (ms : Members) → AreOther n key ms → AreOther n key (put l v ms)
other_put n key l v name keys no_members other = (name, (keys, tt))
other_put n key l v name keys (member m d ms) other = by_order (slice_cmp nat_cmp l m) refl (other_put n key l v name keys ms other.1.1)
  where
    by_order : (o : Ordering) → slice_cmp nat_cmp l m ≡ o → AreOther n key (put l v ms) → AreOther n key (match_ordering o (member l v (member m d ms)) (member m v ms) (member m d (put l v ms)))
    by_order Less h later = (name, (keys, other))
    by_order Equal h later = (other.0, (subst (λ (t : List ℕ). (e : Key × Rows) → certificate_rows_at t v ≡ Ok e → Differ (key_cmp key e.0)) (slice_cmp-IsAntisymmetric nat_cmp-IsAntisymmetric l m h) keys, other.1.1))
    by_order Greater h later = (other.0, (other.1.0, later))

-- ---- all members

abbrev AreWritten : List (Key × Rows) → Type 0
AreWritten es = AllByRecursion (λ (e : Key × Rows). certificate_rows_at (name_text e.0) (rows_tree e.1) ≡ Ok e × IsKey e.0) es

abbrev AreOthers : List (Key × Rows) → Members → Type 0
AreOthers es ms = AllByRecursion (λ (e : Key × Rows). AreOther (name_text e.0) e.0 ms) es

abbrev ok_key : Key → Read Key
ok_key k = Ok k

abbrev ok_entry : Key × Rows → Read (Key × Rows)
ok_entry e = Ok e

same_key : (a b : Key) → IsKey a → IsKey b → name_text a ≡ name_text b → a ≡ b
same_key a b is_a is_b names = same_Ok (sym is_a ∙ (ap (key_of_kind Certificate) names ∙ is_b))
  where
    got : Read Key → Key
    got (Ok x) = x
    got (Err path) = a

    same_Ok : ok_key a ≡ ok_key b → a ≡ b
    same_Ok h = ap got h

own : (key : Key) → key_cmp key key ≡ Less → ⊥
own key h = less_greater (sym h ∙ above key_cmp total key key h)
  where
    less_greater : Less ≡ Greater → ⊥
    less_greater e = cc

differ_less : (o : Ordering) → o ≡ Less → Differ (ordering_reverse o)
differ_less Less h = tt
differ_less Equal h = cc
differ_less Greater h = cc

-- the names of two keys differ where the keys do
names_differ : (a b : Key) → IsKey a → IsKey b → key_cmp a b ≡ Less → Differ (slice_cmp nat_cmp (name_text b) (name_text a))
names_differ a b is_a is_b less = by_order (slice_cmp nat_cmp (name_text b) (name_text a)) refl
  where
    by_order : (o : Ordering) → slice_cmp nat_cmp (name_text b) (name_text a) ≡ o → Differ o
    by_order Less h = tt
    by_order Equal h = own b (subst (λ (k : Key). key_cmp k b ≡ Less) (sym (same_key b a is_b is_a (slice_cmp-IsAntisymmetric nat_cmp-IsAntisymmetric (name_text b) (name_text a) h))) less)
    by_order Greater h = tt

same_entry : (e x : Key × Rows) → ok_entry e ≡ ok_entry x → e ≡ x
same_entry e x h = ap got h
  where
    got : Read (Key × Rows) → Key × Rows
    got (Ok y) = y
    got (Err path) = e

others_put : (e : Key × Rows) → certificate_rows_at (name_text e.0) (rows_tree e.1) ≡ Ok e → IsKey e.0 → (es : List (Key × Rows)) (ms : Members) → AllByRecursion (λ (f : Key × Rows). key_cmp e.0 f.0 ≡ Less) es → AreWritten es → AreOthers es ms
    → AreOthers es (put (name_text e.0) (rows_tree e.1) ms)
others_put e read is [] ms less written others = tt
others_put e read is (f ∷ es) ms less written others = (
  other_put (name_text f.0) f.0 (name_text e.0) (rows_tree e.1) (names_differ e.0 f.0 is written.0.1 less.0)
      (λ x h. subst (λ (y : Key × Rows). Differ (key_cmp f.0 y.0)) (same_entry e x (sym read ∙ h)) (subst Differ (sym (total.antisymm f.0 e.0)) (differ_less (key_cmp e.0 f.0) less.0))) ms others.0,
  others_put e read is es ms less.1 written.1 others.1,
)

abbrev all_put : List (Key × Rows) → List (Key × Rows) → List (Key × Rows)
all_put [] es = es
all_put (f ∷ fs) es = with_rows_of (all_put fs es) f.0 f.1

with_members : (fs : List (Key × Rows)) → AreInOrder fs → AreWritten fs → (ms : Members) (es : List (Key × Rows)) → AreOthers fs ms → material_with es (put_entries fs ms) ≡ material_with (all_put fs es) ms
with_members [] order written ms es others = refl
with_members (f ∷ fs) order written ms es others =
    with_members fs order.1 written.1 (put (name_text f.0) (rows_tree f.1) ms) es (others_put f written.0.0 written.0.1 fs ms order.0 written.1 others.1)
    ∙ with_member (name_text f.0) (rows_tree f.1) f.0 f.1 (rw written.0.0 refl) ms (all_put fs es) others.0

put_front : (e : Key × Rows) (es : List (Key × Rows)) → AllByRecursion (λ (f : Key × Rows). key_cmp e.0 f.0 ≡ Less) es → with_rows_of es e.0 e.1 ≡ e ∷ es
put_front e [] less = refl
put_front e (f ∷ es) less = rw (less.0) refl

all_put_in_order : (es : List (Key × Rows)) → AreInOrder es → all_put es [] ≡ es
all_put_in_order [] order = refl
all_put_in_order (e ∷ es) order = ap (λ fs. with_rows_of fs e.0 e.1) (all_put_in_order es order.1) ∙ put_front e es order.0

nothing_there : (es : List (Key × Rows)) → AreOthers es no_members
nothing_there [] = tt
nothing_there (e ∷ es) = (tt, nothing_there es)

entry_again : (f : Key × Rows) → IsKey f.0 → rows_at (rows_tree f.1) ≡ Ok f.1 → certificate_rows_at (name_text f.0) (rows_tree f.1) ≡ Ok f
unfolding certificate_rows_at
entry_again f is again = rw (is, again) refl

written : (es : List (Key × Rows)) → AreEntries es → AllByRecursion HasEntryBytes es → AreWritten es
written [] all bytes = tt
written (e ∷ es) all bytes = ((entry_again e all.0.0 (all.0.1 bytes.0), all.0.0), written es all.1 bytes.1)

abbrev as_ok : List (Key × Rows) → Read (List (Key × Rows))
as_ok es = Ok es

pub material_again : (es : List (Key × Rows)) → AreInOrder es → AreEntries es → AllByRecursion HasEntryBytes es → material_at (material_tree es) ≡ Ok es
material_again es order all bytes = with_members es order (written es all bytes) no_members [] (nothing_there es) ∙ ap as_ok (all_put_in_order es order)

abbrev pub IsMaterialAgain : List (Key × Rows) → Type 0
IsMaterialAgain es = AreInOrder es → AllByRecursion HasEntryBytes es → member_or [] (codes "material") material_at (some_list material_tree es) ≡ Ok es

pub material_listed : (d : Data) → Always AreEntries (material_at d)
material_listed (object ms) = entries_so [] ms tt
material_listed null = failed []
material_listed (boolean b) = failed []
material_listed (number n) = failed []
material_listed (string s) = failed []
material_listed (array ds) = failed []

pub material_so : (given : Option Data) → Always IsMaterialAgain (member_or [] (codes "material") material_at given)
material_so None = so (λ order bytes. refl)
material_so (Some d) = below IsMaterialAgain (codes "material") (material_at d) (further AreEntries IsMaterialAgain (material_at d)
    (λ es all order bytes. list_given material_at material_tree (codes "material") es (material_again es order all bytes)) (material_listed d))
