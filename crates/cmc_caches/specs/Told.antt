-- What contracts see of what the roles were told of.
use Rattle.std.specs.Prelude.{List}
use Rattle.cmc_meta.specs.declared.key.Kind.{Kind}
use Rattle.cmc_meta.specs.declared.key.Kind.TheVariants.{Certificate, CertificateRequest, Secret}
use Rattle.cmc_objects.specs.declared.entry.Positions.{Positions}
use Rattle.cmc_model.specs.declared.write.Write.{Write}
use Rattle.cmc_model.specs.Objects.{Objects}
use Rattle.cmc_model.specs.Writes.{contents, oldest, of_kind}
use Rattle.cmc_rules.specs.Views.{Caches}

-- the objects of the kind
abbrev pub cache_of : Kind → Caches → Objects
cache_of Certificate c = c.certificates
cache_of CertificateRequest c = c.requests
cache_of Secret c = c.secrets

-- the same, with these objects of the kind
abbrev pub with_cached : Kind → Objects → Caches → Caches
with_cached Certificate objects c = record c { certificates = objects }
with_cached CertificateRequest objects c = record c { requests = objects }
with_cached Secret objects c = record c { secrets = objects }

-- of each kind, what the first accepted writes up to its position leave
abbrev pub caches_at : List Write → Positions → Caches
caches_at ws at = record {
  certificates = contents (of_kind Certificate (oldest at.certificates ws));
  requests = contents (of_kind CertificateRequest (oldest at.requests ws));
  secrets = contents (of_kind Secret (oldest at.secrets ws));
}
