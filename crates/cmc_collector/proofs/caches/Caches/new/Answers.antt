use Rattle.cmc_meta.specs.declared.key.Kind.TheVariants.{Certificate, CertificateRequest, Secret}
use Rattle.cmc_collector.proofs.Looping.{begins_at, untold}
use Rattle.cmc_collector.proofs.caches.Caches.new.Goals as goal

pub returns-clause-told : goal.returns-clause-told
returns-clause-told c = record {
  certificates = untold Certificate c.seeded.result c.seeded.ensures;
  requests = untold CertificateRequest c.seeded-2.result c.seeded-2.ensures;
  secrets = untold Secret c.seeded-3.result c.seeded-3.ensures;
}

pub returns-clause-position : goal.returns-clause-position
returns-clause-position c = begins_at c.seeded.result c.seeded-2.result c.seeded-3.result c.seeded.ensures c.seeded-2.ensures c.seeded-3.ensures
