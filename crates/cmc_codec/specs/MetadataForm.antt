-- The form of the metadata of an object that is read. Members that are not named here are dropped.
use Rattle.std.specs.Prelude.{ℕ, pos, List, [], ◌∷◌, ◌+◌, codes, decimal, false, if◌then◌else◌, drop, nat_eq, Ok, Err, Some, None, option_and_then}
use Rattle.std.specs.declared.option.Option.{Option}
use Rattle.std.specs.List.{starts_with}
use Rattle.std.specs.Str.{bytes_eq}
use Rattle.serde_json.specs.Data.{Data, null, boolean, number, string, array, object, Items, no_items, item}
use Rattle.cmc_meta.specs.Decimals.{number_in}
use Rattle.cmc_meta.specs.declared.key.Kind.{Kind}
use Rattle.cmc_meta.specs.declared.key.Kind.TheVariants.{Certificate, CertificateRequest, Secret}
use Rattle.cmc_meta.specs.declared.owners.OwnerRef.{OwnerRef}
use Rattle.cmc_meta.specs.declared.object_meta.ObjectMeta.{ObjectMeta}
use Rattle.cmc_cursor.specs.Members.{Read, ◌>>=◌, under, Field, fields_at, must_exist}
use Rattle.cmc_cursor.specs.Readers.{name_at, decimal_at, flag_at, pairs_at, text_member, sought_at, dropped_at}
use Rattle.cmc_codec.specs.Given.{given_at, given_or}
use Rattle.cmc_codec.specs.declared.metadata_in.Labelled.{Labelled}
use Rattle.cmc_codec.specs.declared.metadata_in.Placed.{Placed}
use Rattle.cmc_codec.specs.declared.metadata_in.Head.{Head}

-- ---- members among others that are dropped

-- The member of that name read in this way, where it stands, and the members after it.
abbrev pub sought_member : {A : Type 0} → (Data → Read A) → List ℕ → List Field → Read (Option A × List Field)
sought_member read name fs = sought_at name fs >>= (λ p. given_at read name p.0 >>= (λ x. Ok (x, p.1)))

abbrev pub sought_or : {A : Type 0} → A → (Data → Read A) → List ℕ → List Field → Read (A × List Field)
sought_or absent read name fs = sought_at name fs >>= (λ p. given_or absent read name p.0 >>= (λ x. Ok (x, p.1)))

abbrev pub sought_needed : {A : Type 0} → (Data → Read A) → List ℕ → List Field → Read (A × List Field)
sought_needed read name fs = sought_at name fs >>= must_exist name >>= (λ p. under name (read p.0) >>= (λ x. Ok (x, p.1)))

-- ---- owner references

abbrev pub kind_named : List ℕ → Option Kind
kind_named t = if bytes_eq t (codes "Certificate") then Some Certificate
    else (if bytes_eq t (codes "CertificateRequest") then Some CertificateRequest
    else (if bytes_eq t (codes "Secret") then Some Secret else None))

-- A uid is written `uid-` and its number in decimal.
abbrev pub uid_in : List ℕ → Option ℕ
uid_in t = if starts_with nat_eq t (codes "uid-") then number_in (drop 4 t) else None

abbrev pub owner_kind : Data → Option Kind
owner_kind d = option_and_then kind_named (text_member (codes "kind") d)

abbrev pub owner_uid : Data → Option ℕ
owner_uid d = option_and_then uid_in (text_member (codes "uid") d)

-- A reference to an owner of a known kind by a known uid.
unfoldable pub kept_owner : Kind → ℕ → List Field → Read OwnerRef
kept_owner kind uid fs = do
  controller ← sought_or false flag_at (codes "controller") fs
  name ← sought_needed name_at (codes "name") controller.1
  end ← dropped_at name.1
  Ok (record { kind = kind; name = name.0; uid = uid; controller = controller.0 })

-- A reference to any other owner is dropped.
abbrev pub owner_in : Option Kind → Option ℕ → List Field → Read (Option OwnerRef)
owner_in None uid fs = dropped_at fs >>= (λ _. Ok None)
owner_in (Some kind) None fs = dropped_at fs >>= (λ _. Ok None)
owner_in (Some kind) (Some uid) fs = kept_owner kind uid fs >>= (λ owner. Ok (Some owner))

unfoldable pub owner_at : Data → Read (Option OwnerRef)
owner_at d = fields_at d >>= owner_in (owner_kind d) (owner_uid d)

abbrev pub with_owner : Option OwnerRef → List OwnerRef → List OwnerRef
with_owner None owners = owners
with_owner (Some owner) owners = owner ∷ owners

-- The references of a list whose first item is at place n.
abbrev pub owners_from : ℕ → Items → Read (List OwnerRef)
owners_from n no_items = Ok []
owners_from n (item d ds) = under (decimal n) (owner_at d) >>= (λ owner. owners_from (n + 1) ds >>= (λ owners. Ok (with_owner owner owners)))

abbrev pub owners_at : Data → Read (List OwnerRef)
owners_at (array ds) = owners_from 0 ds
owners_at null = Err []
owners_at (boolean b) = Err []
owners_at (number n) = Err []
owners_at (string s) = Err []
owners_at (object ms) = Err []

-- ---- metadata

-- Metadata that no store has touched.
abbrev pub unstored_meta : List ℕ → List ℕ → List (List ℕ × List ℕ) → List (List ℕ × List ℕ) → List OwnerRef → ObjectMeta
unstored_meta namespace name labels annotations owners = record {
  namespace = namespace;
  name = name;
  uid = 0;
  version = 0;
  generation = 0;
  created = pos 0;
  labels = labels;
  annotations = annotations;
  owners = owners;
}

unfoldable pub labelled_in : List Field → Read (Labelled × List Field)
labelled_in fs = do
  annotations ← sought_or [] pairs_at (codes "annotations") fs
  labels ← sought_or [] pairs_at (codes "labels") annotations.1
  name ← sought_needed name_at (codes "name") labels.1
  Ok (record { annotations = annotations.0; labels = labels.0; name = name.0 }, name.1)

-- Without a namespace the object is in the default one.
unfoldable pub placed_in : List Field → Read (Placed × List Field)
placed_in fs = do
  namespace ← sought_or (codes "default") name_at (codes "namespace") fs
  owners ← sought_or [] owners_at (codes "ownerReferences") namespace.1
  version ← sought_member decimal_at (codes "resourceVersion") owners.1
  Ok (record { namespace = namespace.0; owners = owners.0; version = version.0 }, version.1)

abbrev pub head_of : Labelled → Placed → Head
head_of labelled placed = record {
  meta = unstored_meta placed.namespace labelled.name labelled.labels labelled.annotations placed.owners;
  version = placed.version;
}

-- The metadata, and the resource version that they name.
unfoldable pub head_at : Data → Read Head
head_at d = do
  fs ← fields_at d
  labelled ← labelled_in fs
  placed ← placed_in labelled.1
  end ← dropped_at placed.1
  Ok (head_of labelled.0 placed.0)
