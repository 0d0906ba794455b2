-- The revision of a Certificate: which one is in progress, and how writes change it.
use Rattle.std.specs.Prelude.{◌≡◌, ◌==◌, ◌+◌, ℕ, List, [], ◌∷◌, Option, Some, None, unwrap_or, if◌then◌else◌}
use Rattle.cmc_objects.specs.declared.certificate.Certificate.{Certificate}
use Rattle.cmc_objects.specs.declared.object.Object.{Object}
use Rattle.cmc_objects.specs.declared.object.Object.TheVariants.{Cert, Request, Secret}
use Rattle.cmc_model.specs.declared.write.Write.{Write}
use Rattle.cmc_model.specs.Versions.{uid_of}

-- the revision that the status of a Certificate says, if it says one, and 0 where it says none
abbrev pub stated_revision : Object → Option ℕ
stated_revision (Cert c) = c.status.revision
stated_revision (Request r) = None
stated_revision (Secret k) = None

abbrev pub revision : Certificate → ℕ
revision c = unwrap_or c.status.revision 0

abbrev pub stated_in : Option Object → Option ℕ
stated_in None = None
stated_in (Some o) = stated_revision o

-- of two versions the newer one, if it has the uid
abbrev pub newer_of : ℕ → Option Object → Option Object → Option Object
newer_of uid None older = older
newer_of uid (Some o) older = if uid_of o == uid then Some o else older

-- the last version of the uid: a delete leaves it
unfoldable pub last_version : ℕ → List Write → Option Object
last_version uid [] = None
last_version uid (w ∷ ws) = newer_of uid w.object (last_version uid ws)

-- the revision in the last version of the uid
abbrev pub revision_of_uid : ℕ → List Write → ℕ
revision_of_uid uid ws = unwrap_or (stated_in (last_version uid ws)) 0

-- what stands keeps the revision that it states, and a new object states none
abbrev pub KeepsRevision : Option Object → Option Object → Type 0
KeepsRevision old None = Unit {0}
KeepsRevision old (Some new) = stated_revision new ≡ stated_in old

-- the revision rises by one
abbrev pub RaisesRevision : Option Object → Option Object → Type 0
RaisesRevision old None = ⊥
RaisesRevision old (Some new) = stated_revision new ≡ Some (unwrap_or (stated_in old) 0 + 1)
