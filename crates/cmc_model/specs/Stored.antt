-- What a create, an update and a status update store (Kubernetes API conventions).
use Rattle.std.specs.Prelude.{ℕ, ℤ, ◌+◌, ◌-◌, ◌^◌, min, if◌then◌else◌}
use Rattle.cmc_meta.specs.declared.object_meta.ObjectMeta.{ObjectMeta}
use Rattle.cmc_objects.specs.declared.object.Object.{Object}
use Rattle.cmc_objects.specs.declared.object.Object.TheVariants.{Cert, Request, Secret}
use Rattle.cmc_objects.specs.Objects.{meta_of, numbered, no_cert_status, no_request_status}
use Rattle.cmc_model.specs.Specs.{keeps_spec}

-- the metadata of a new object: its uid is its first version
abbrev pub new_meta : ℕ → ℤ → ℕ → ObjectMeta → ObjectMeta
new_meta version now generation m = record m { uid = version; version = version; generation = generation; created = now }

-- a create gives the object its identity and an empty status
unfoldable pub created : ℕ → ℤ → Object → Object
created version now (Cert c) = Cert (record { meta = new_meta version now 1 c.meta; spec = c.spec; status = no_cert_status })
created version now (Request r) = Request (record { meta = new_meta version now 1 r.meta; spec = r.spec; status = no_request_status })
created version now (Secret s) = Secret (record { meta = new_meta version now 0 s.meta; kind_text = s.kind_text; parts = s.parts })

-- the old metadata with the labels, annotations and owners of the call
abbrev pub merged_meta : ObjectMeta → ObjectMeta → ObjectMeta
merged_meta old m = record old { labels = m.labels; annotations = m.annotations; owners = m.owners }

-- the object after an update, under its old version and generation: status, uid, moment of creation and a Secret's type stay
unfoldable pub updated : Object → Object → Object
updated (Cert old) (Cert c) = Cert (record { meta = merged_meta old.meta c.meta; spec = c.spec; status = old.status })
updated (Request old) (Request r) = Request (record { meta = merged_meta old.meta r.meta; spec = r.spec; status = old.status })
updated (Secret old) (Secret s) = Secret (record { meta = merged_meta old.meta s.meta; kind_text = old.kind_text; parts = s.parts })
updated old other = old

-- the object after a status update, under its old version: all but the status stays, and a Secret has none
unfoldable pub with_status : Object → Object → Object
with_status (Cert old) (Cert c) = Cert (record old { status = c.status })
with_status (Request old) (Request r) = Request (record old { status = r.status })
with_status old other = old

-- the generation of the object after an update: it rises by one where the spec changes, up to the greatest u64
unfoldable pub generation_after : Object → Object → ℕ
generation_after old new = if keeps_spec old new then (meta_of old).generation else min ((meta_of old).generation + 1) (2 ^ 64 - 1)

-- what an accepted update stores as this version, and what an accepted status update stores
abbrev pub revised : ℕ → Object → Object → Object
revised version old object = numbered version (generation_after old (updated old object)) (updated old object)

abbrev pub restated : ℕ → Object → Object → Object
restated version old object = numbered version (meta_of old).generation (with_status old object)
