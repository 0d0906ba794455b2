-- Metadata that are read are printed as metadata that are read again.
use Rattle.std.proofs.Common.{◌≡◌, ℕ, ◌+◌, List, [], ◌∷◌, Bool, true, false, Option, Some, None, Ok, Err, refl, ap, ◌∙◌, map, drop}
use Rattle.std.specs.Prelude.{codes, decimal, IfSome, option_and_then}
use Rattle.serde_json.specs.Data.{Data, null, boolean, number, string, array, object, Items, no_items, item, Members, no_members, member}
use Rattle.serde_json.specs.View.{items_of}
use Rattle.cmc_meta.specs.Names.{is_label}
use Rattle.cmc_meta.specs.PairLists.{with_text}
use Rattle.cmc_meta.specs.declared.key.Kind.{Kind}
use Rattle.cmc_meta.specs.declared.key.Kind.TheVariants.{Certificate, CertificateRequest, Secret}
use Rattle.cmc_meta.specs.declared.owners.OwnerRef.{OwnerRef}
use Rattle.cmc_meta.specs.declared.object_meta.ObjectMeta.{ObjectMeta}
use Rattle.cmc_cursor.specs.Members.{Read, ◌>>=◌, under, Field, fields_at, fields_of}
use Rattle.cmc_cursor.specs.Readers.{text_at, bytes_at, name_at, flag_at, decimal_at, pairs_with, pairs_at, parts_with, parts_at, dropped_at, text_member}
use Rattle.cmc_print.specs.Puts.{base64_text, map_tree, put_all}
use Rattle.cmc_print.specs.Printed.{owner_tree, owners_tree, meta_members, meta_tree}
use Rattle.cmc_print.specs.Words.{uid_text}
use Rattle.cmc_codec.specs.Given.{given_or}
use Rattle.cmc_codec.specs.MetadataForm.{sought_member, sought_or, sought_needed, uid_in, owner_kind, owner_uid, kept_owner, owner_in, owner_at, with_owner, owners_from, owners_at, unstored_meta, labelled_in, placed_in, head_at}
use Rattle.cmc_codec.specs.declared.metadata_in.Head.{Head}
use Rattle.cmc_codec.specs.declared.metadata_in.Labelled.{Labelled}
use Rattle.cmc_codec.specs.declared.metadata_in.Placed.{Placed}
use Rattle.cmc_codec.specs.Laws.{IsOrdered}
use Rattle.cmc_codec.proofs.Slots.{slots, start, bind, is_next, put_is, some_list, put_list_is, list_given, sought_is}
use Rattle.cmc_codec.proofs.Entries.{ordered_with, AreAgain, entries_with, all_read}
use Rattle.cmc_cursor.proofs.Always.{Always, so, failed, next, after, below}
use Rattle.cmc_codec.proofs.ValuesAgain.{name_again, sought_or_so, sought_needed_so}
use Rattle.cmc_codec.proofs.DecimalsAgain.{uid_again}

abbrev pub Entries : Type 0
Entries = List (List ℕ × List ℕ)

-- ---- maps

same_next : {A B : Type 0} (r : Read A) (f g : A → Read B) → ((x : A) → f x ≡ g x) → r >>= f ≡ r >>= g
same_next (Ok x) f g same = same x
same_next (Err path) f g same = refl

as_pairs : (es : Entries) (ms : Members) → pairs_with es ms ≡ entries_with text_at es ms
as_pairs es no_members = refl
as_pairs es (member name d ms) = same_next (under name (text_at d)) _ _ (λ t. as_pairs (with_text es name t) ms)

as_parts : (es : Entries) (ms : Members) → parts_with es ms ≡ entries_with bytes_at es ms
as_parts es no_members = refl
as_parts es (member name d ms) = same_next (under name (bytes_at d)) _ _ (λ t. as_parts (with_text es name t) ms)

texts_again : (es : Entries) → AreAgain (λ v. text_at (string v) ≡ Ok v) es
texts_again [] = tt
texts_again (e ∷ es) = (refl, texts_again es)

pub pairs_again : (es : Entries) → IsOrdered es → pairs_at (map_tree string es) ≡ Ok es
pairs_again es ordered = as_pairs [] (put_all string es no_members) ∙ all_read text_at string es ordered (texts_again es)

pub parts_again : (es : Entries) → IsOrdered es → AreAgain (λ v. bytes_at (base64_text v) ≡ Ok v) es → parts_at (map_tree base64_text es) ≡ Ok es
parts_again es ordered again = as_parts [] (put_all base64_text es no_members) ∙ all_read bytes_at base64_text es ordered again

pairs_ordered : (es : Entries) (ms : Members) → IsOrdered es → Always IsOrdered (pairs_with es ms)
pairs_ordered es no_members ordered = so ordered
pairs_ordered es (member name d ms) ordered = next IsOrdered (under name (text_at d)) _ (λ t. pairs_ordered (with_text es name t) ms (ordered_with name t es ordered))

pub pairs_in_order : (d : Data) → Always IsOrdered (pairs_at d)
pairs_in_order (object ms) = pairs_ordered [] ms tt
pairs_in_order null = failed []
pairs_in_order (boolean b) = failed []
pairs_in_order (number n) = failed []
pairs_in_order (string s) = failed []
pairs_in_order (array ds) = failed []

parts_ordered : (es : Entries) (ms : Members) → IsOrdered es → Always IsOrdered (parts_with es ms)
parts_ordered es no_members ordered = so ordered
parts_ordered es (member name d ms) ordered = next IsOrdered (under name (bytes_at d)) _ (λ t. parts_ordered (with_text es name t) ms (ordered_with name t es ordered))

pub parts_in_order : (d : Data) → Always IsOrdered (parts_at d)
parts_in_order (object ms) = parts_ordered [] ms tt
parts_in_order null = failed []
parts_in_order (boolean b) = failed []
parts_in_order (number n) = failed []
parts_in_order (string s) = failed []
parts_in_order (array ds) = failed []

-- ---- owner references

pub owner_printed : (kind : Kind) (name : List ℕ) (uid : ℕ) (controller : Bool) → name_at (string name) ≡ Ok name → uid_in (uid_text uid) ≡ Some uid
    → owner_at (owner_tree (record { kind = kind; name = name; uid = uid; controller = controller })) ≡ Ok (Some (record { kind = kind; name = name; uid = uid; controller = controller }))
unfolding owner_at owner_tree kept_owner
owner_printed Certificate name uid true n u = rw (u, n) refl
owner_printed Certificate name uid false n u = rw (u, n) refl
owner_printed CertificateRequest name uid true n u = rw (u, n) refl
owner_printed CertificateRequest name uid false n u = rw (u, n) refl
owner_printed Secret name uid true n u = rw (u, n) refl
owner_printed Secret name uid false n u = rw (u, n) refl

owner_whole : (o : OwnerRef) → name_at (string o.name) ≡ Ok o.name → uid_in (uid_text o.uid) ≡ Some o.uid → owner_at (owner_tree o) ≡ Ok (Some o)
owner_whole o n u = owner_printed o.kind o.name o.uid o.controller n u

abbrev IsOwner : Option OwnerRef → Type 0
IsOwner found = IfSome found (λ o. owner_at (owner_tree o) ≡ Ok (Some o))

kept_so : (kind : Kind) (uid : ℕ) (fs : List Field) → uid_in (uid_text uid) ≡ Some uid → Always (λ o. owner_at (owner_tree o) ≡ Ok (Some o)) (kept_owner kind uid fs)
unfolding kept_owner
kept_so kind uid fs u =
    next _ (sought_or false flag_at (codes "controller") fs) _ (λ controller. after _ (λ o. owner_at (owner_tree o) ≡ Ok (Some o)) (sought_needed name_at (codes "name") controller.1) _ (sought_needed_so (λ t. name_at (string t) ≡ Ok t) name_at (codes "name") controller.1 name_again)
    (λ name is_name. next _ (dropped_at name.1) _ (λ end. so (owner_whole _ is_name u))))

owner_in_so : (kind : Option Kind) (uid : Option ℕ) (fs : List Field) → IfSome uid (λ n. uid_in (uid_text n) ≡ Some n) → Always IsOwner (owner_in kind uid fs)
owner_in_so None uid fs u = next IsOwner (dropped_at fs) _ (λ _. so tt)
owner_in_so (Some kind) None fs u = next IsOwner (dropped_at fs) _ (λ _. so tt)
owner_in_so (Some kind) (Some uid) fs u = after _ IsOwner (kept_owner kind uid fs) _ (kept_so kind uid fs u) (λ o is. so is)

uid_found : (t : Option (List ℕ)) (uid : Option ℕ) → option_and_then uid_in t ≡ uid → IfSome uid (λ n. uid_in (uid_text n) ≡ Some n)
uid_found t None h = tt
uid_found (Some t) (Some n) h = uid_again t n h
uid_found None (Some n) h = cc

owner_so : (d : Data) → Always IsOwner (owner_at d)
unfolding owner_at
owner_so d = next IsOwner (fields_at d) _ (λ fs. owner_in_so (owner_kind d) (owner_uid d) fs (uid_found (text_member (codes "uid") d) (owner_uid d) refl))

-- the places of the references that are kept count from any number on
abbrev AreOwners : List OwnerRef → Type 0
AreOwners os = (n : ℕ) → owners_from n (items_of (map owner_tree os)) ≡ Ok os

with_one : (found : Option OwnerRef) (os : List OwnerRef) → IsOwner found → AreOwners os → AreOwners (with_owner found os)
with_one None os is are = are
with_one (Some o) os is are = λ n. rw (is, are (n + 1)) refl

owners_from_so : (n : ℕ) (ds : Items) → Always AreOwners (owners_from n ds)
owners_from_so n no_items = so (λ _. refl)
owners_from_so n (item d ds) =
    after IsOwner AreOwners (under (decimal n) (owner_at d)) (λ found. owners_from (n + 1) ds >>= (λ os. Ok (with_owner found os))) (below IsOwner (decimal n) (owner_at d) (owner_so d))
    (λ found is. after AreOwners AreOwners (owners_from (n + 1) ds) (λ os. Ok (with_owner found os)) (owners_from_so (n + 1) ds) (λ os are. so (with_one found os is are)))

abbrev pub AreListed : List OwnerRef → Type 0
AreListed os = owners_at (owners_tree os) ≡ Ok os

owners_so : (d : Data) → Always AreListed (owners_at d)
owners_so (array ds) = record { each = λ os e. (owners_from_so 0 ds).each os e 0 }
owners_so null = failed []
owners_so (boolean b) = failed []
owners_so (number n) = failed []
owners_so (string s) = failed []
owners_so (object ms) = failed []

-- ---- metadata

-- what is printed of metadata is of their form
pub record IsMeta (m : ObjectMeta) : Type 0 where
  pub name : name_at (string m.name) ≡ Ok m.name
  pub namespace : name_at (string m.namespace) ≡ Ok m.namespace
  pub labels : IsOrdered m.labels
  pub annotations : IsOrdered m.annotations
  pub owners : AreListed m.owners
  pub new : unstored_meta m.namespace m.name m.labels m.annotations m.owners ≡ m

abbrev pub meta_places : Option Data → Option Data → Option Data → Option Data → Option Data → List (List ℕ × Option Data)
meta_places annotations labels name namespace owners = (codes "annotations", annotations) ∷ (codes "labels", labels) ∷ (codes "name", name) ∷ (codes "namespace", namespace) ∷ (codes "ownerReferences", owners) ∷ []

abbrev pub places_of : ObjectMeta → List (List ℕ × Option Data)
places_of m = meta_places (some_list (map_tree string) m.annotations) (some_list (map_tree string) m.labels) (Some (string m.name)) (Some (string m.namespace)) (some_list owners_tree m.owners)

pub meta_printed : (m : ObjectMeta) → meta_tree m ≡ object (slots (places_of m))
unfolding meta_tree meta_members
meta_printed m =
    let name = put_is (codes "name") (string m.name) (start {ss = meta_places None None None None None} refl) refl in
    let namespace = put_is (codes "namespace") (string m.namespace) name refl in
    let labels = put_list_is (map_tree string) (codes "labels") m.labels namespace refl in
    let annotations = put_list_is (map_tree string) (codes "annotations") m.annotations labels refl in
    let owners = put_list_is owners_tree (codes "ownerReferences") m.owners annotations refl in
    ap object owners.same

sought_or_is : {A : Type 0} (absent : A) (read : Data → Read A) (n : List ℕ) (o : Option Data) (back : List (List ℕ × Option Data)) (x : A)
    → is_next n back ≡ true → given_or absent read n o ≡ Ok x → sought_or absent read n (fields_of (slots ((n, o) ∷ back))) ≡ Ok (x, fields_of (slots back))
sought_or_is absent read n o back x h e = rw (sought_is n o back h, e) refl

sought_needed_is : {A : Type 0} (read : Data → Read A) (n : List ℕ) (d : Data) (back : List (List ℕ × Option Data)) (x : A)
    → is_next n back ≡ true → read d ≡ Ok x → sought_needed read n (fields_of (slots ((n, Some d) ∷ back))) ≡ Ok (x, fields_of (slots back))
sought_needed_is read n d back x h e = rw (sought_is n (Some d) back h, e) refl

labelled_again : (m : ObjectMeta) → IsMeta m → labelled_in (fields_of (slots (places_of m))) ≡ Ok (record { annotations = m.annotations; labels = m.labels; name = m.name }, fields_of (slots (drop 3 (places_of m))))
unfolding labelled_in
labelled_again m is =
    let ps = places_of m in
    (bind _ _ _ _ (sought_or_is [] pairs_at (codes "annotations") (some_list (map_tree string) m.annotations) (drop 1 ps) m.annotations refl (list_given pairs_at (map_tree string) (codes "annotations") m.annotations (pairs_again m.annotations is.annotations)))
    (bind _ _ _ _ (sought_or_is [] pairs_at (codes "labels") (some_list (map_tree string) m.labels) (drop 2 ps) m.labels refl (list_given pairs_at (map_tree string) (codes "labels") m.labels (pairs_again m.labels is.labels)))
    (bind _ _ _ _ (sought_needed_is name_at (codes "name") (string m.name) (drop 3 ps) m.name refl is.name) refl)))

placed_again : (m : ObjectMeta) → IsMeta m → placed_in (fields_of (slots (drop 3 (places_of m)))) ≡ Ok (record { namespace = m.namespace; owners = m.owners; version = None }, [])
unfolding placed_in
placed_again m is =
    let ps = places_of m in
    (bind _ _ _ _ (sought_or_is (codes "default") name_at (codes "namespace") (Some (string m.namespace)) (drop 4 ps) m.namespace refl (values_below (codes "namespace") is.namespace))
    (bind _ _ _ _ (sought_or_is [] owners_at (codes "ownerReferences") (some_list owners_tree m.owners) [] m.owners refl (list_given owners_at owners_tree (codes "ownerReferences") m.owners is.owners)) refl))
  where
    values_below : {x : List ℕ} {r : Read (List ℕ)} (n : List ℕ) → r ≡ Ok x → under n r ≡ Ok x
    values_below n e = rw e refl

abbrev bare_head : ObjectMeta → Head
bare_head m = record { meta = m; version = None }

pub head_again : (m : ObjectMeta) → IsMeta m → head_at (meta_tree m) ≡ Ok (record { meta = m; version = None })
unfolding head_at
head_again m is =
    rw (meta_printed m)
    (bind _ _ _ _ (labelled_again m is)
    (bind _ _ _ _ (placed_again m is) (ap (λ (k : ObjectMeta). ok (bare_head k)) is.new)))
  where
    ok : Head → Read Head
    ok h = Ok h

abbrev IsLabelled : Labelled × List Field → Type 0
IsLabelled p = (IsOrdered p.0.annotations × IsOrdered p.0.labels) × (name_at (string p.0.name) ≡ Ok p.0.name)

labelled_so : (fs : List Field) → Always IsLabelled (labelled_in fs)
unfolding labelled_in
labelled_so fs =
    after _ IsLabelled (sought_or [] pairs_at (codes "annotations") fs) _ (sought_or_so IsOrdered [] pairs_at (codes "annotations") fs tt pairs_in_order)
    (λ annotations a. after _ IsLabelled (sought_or [] pairs_at (codes "labels") annotations.1) _ (sought_or_so IsOrdered [] pairs_at (codes "labels") annotations.1 tt pairs_in_order)
    (λ labels l. after _ IsLabelled (sought_needed name_at (codes "name") labels.1) _ (sought_needed_so (λ t. name_at (string t) ≡ Ok t) name_at (codes "name") labels.1 name_again)
    (λ name n. so ((a, l), n))))

abbrev IsPlaced : Placed × List Field → Type 0
IsPlaced p = (name_at (string p.0.namespace) ≡ Ok p.0.namespace) × AreListed p.0.owners

pub default_is : name_at (string (codes "default")) ≡ Ok (codes "default")
unfolding is_label
default_is = refl

placed_so : (fs : List Field) → Always IsPlaced (placed_in fs)
unfolding placed_in
placed_so fs =
    after _ IsPlaced (sought_or (codes "default") name_at (codes "namespace") fs) _ (sought_or_so (λ t. name_at (string t) ≡ Ok t) (codes "default") name_at (codes "namespace") fs default_is name_again)
    (λ namespace n. after _ IsPlaced (sought_or [] owners_at (codes "ownerReferences") namespace.1) _ (sought_or_so AreListed [] owners_at (codes "ownerReferences") namespace.1 refl owners_so)
    (λ owners o. next IsPlaced (sought_member decimal_at (codes "resourceVersion") owners.1) _ (λ version. so (n, o))))

pub head_so : (d : Data) → Always (λ h. IsMeta h.meta) (head_at d)
unfolding head_at
head_so d =
    next (λ (h : Head). IsMeta h.meta) (fields_at d) _ (λ fs. after _ (λ (h : Head). IsMeta h.meta) (labelled_in fs) _ (labelled_so fs)
    (λ labelled l. after _ (λ (h : Head). IsMeta h.meta) (placed_in labelled.1) _ (placed_so labelled.1)
    (λ placed p. next _ (dropped_at placed.1) _ (λ end. so (record { name = l.1; namespace = p.0; labels = l.0.1; annotations = l.0.0; owners = p.1; new = refl })))))
