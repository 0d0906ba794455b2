-- What printing and reading make of each other.
use Rattle.std.specs.Prelude.{◌≡◌, ℕ, ◌<◌, ◌^◌, List, [], ◌∷◌, Ok, Option, IfSome}
use Rattle.std.specs.declared.cmp.Ordering.TheVariants.{Less}
use Rattle.std.specs.Ordering.{nat_cmp}
use Rattle.std.specs.Cmp.Lexicographic.{slice_cmp}
use Rattle.base64.specs.GeneralPurpose.{IsBytes}
use Rattle.serde_json.specs.Data.{Data}
use Rattle.cmc_meta.specs.declared.owners.OwnerRef.{OwnerRef}
use Rattle.cmc_meta.specs.declared.object_meta.ObjectMeta.{ObjectMeta}
use Rattle.cmc_objects.specs.Objects.{no_cert_status, no_request_status}
use Rattle.cmc_objects.specs.declared.object.Object.{Object}
use Rattle.cmc_objects.specs.declared.object.Object.TheVariants.{Cert, Request, Secret}
use Rattle.cmc_print.specs.Printed.{object_tree}
use Rattle.cmc_codec.specs.MetadataForm.{unstored_meta}
use Rattle.cmc_codec.specs.ObjectForm.{object_read_at}

-- ---- the laws

-- Where the object was read of some value, what is printed of it is read as the same object.
abbrev pub IsReadAgain : Object → Type 0
IsReadAgain object = (d : Data) → object_read_at d ≡ Ok object → object_read_at (object_tree object) ≡ Ok object

-- The metadata without what the store owns.
abbrev pub bare_meta : ObjectMeta → ObjectMeta
bare_meta m = unstored_meta m.namespace m.name m.labels m.annotations m.owners

-- The object without its status and without what the store owns.
abbrev pub bare : Object → Object
bare (Cert c) = Cert (record { meta = bare_meta c.meta; spec = c.spec; status = no_cert_status })
bare (Request r) = Request (record { meta = bare_meta r.meta; spec = r.spec; status = no_request_status })
bare (Secret s) = Secret (record { meta = bare_meta s.meta; kind_text = s.kind_text; parts = s.parts })

-- What is read of the print of an object, if it is read, is the object without its status and without what the store owns.
abbrev pub GivesBack : Object → Type 0
GivesBack object = (given : Object) → object_read_at (object_tree object) ≡ Ok given → given ≡ bare object

-- ---- what is so of each object

-- Each value of the map is so.
abbrev pub EachValue : (List ℕ → Type 0) → List (List ℕ × List ℕ) → Type 0
EachValue P [] = Unit {0}
EachValue P (e ∷ es) = P e.1 × EachValue P es

-- The octets of an object are bytes.
abbrev pub HasBytes : Object → Type 0
HasBytes (Cert c) = Unit {0}
HasBytes (Request r) = IsBytes r.spec.request
HasBytes (Secret s) = EachValue IsBytes s.parts

-- The name comes before each of the map.
abbrev pub IsBelow : List ℕ → List (List ℕ × List ℕ) → Type 0
IsBelow k [] = Unit {0}
IsBelow k (e ∷ es) = (slice_cmp nat_cmp k e.0 ≡ Less) × IsBelow k es

-- The names of a map stand in byte order, each once.
abbrev pub IsOrdered : List (List ℕ × List ℕ) → Type 0
IsOrdered [] = Unit {0}
IsOrdered (e ∷ es) = IsBelow e.0 es × IsOrdered es

-- Each uid is below 2^64.
abbrev pub HaveUids : List OwnerRef → Type 0
HaveUids [] = Unit {0}
HaveUids (o ∷ os) = (o.uid < 2 ^ 64) × HaveUids os

-- A number of seconds is below 2^64.
abbrev pub FitsSeconds : Option ℕ → Type 0
FitsSeconds duration = IfSome duration (λ seconds. seconds < 2 ^ 64)

abbrev pub HasDurations : Object → Type 0
HasDurations (Cert c) = FitsSeconds c.spec.duration × FitsSeconds c.spec.renew_before
HasDurations (Request r) = FitsSeconds r.spec.duration
HasDurations (Secret s) = Unit {0}

pub record IsMetadata (m : ObjectMeta) : Type 0 where
  pub labels : IsOrdered m.labels
  pub annotations : IsOrdered m.annotations
  pub owners : HaveUids m.owners

abbrev pub HasOrder : Object → Type 0
HasOrder (Cert c) = Unit {0}
HasOrder (Request r) = Unit {0}
HasOrder (Secret s) = IsOrdered s.parts
