use Rattle.cmc_meta.specs.declared.key.Key.{Key}
use Rattle.cmc_model.specs.Objects.{object_at}
use Rattle.cmc_informer.specs.Caches.{is_targeting}
use Rattle.cmc_caches.specs.Board.{shown_by}
use Rattle.cmc_caches.proofs.Gathering.{listed_next}
use Rattle.cmc_caches.proofs.Naming.{adds_on}
use Rattle.cmc_caches.proofs.listed.add_targeting_all.Goals as goal

pub loop-key-preserved : goal.loop-key-preserved
loop-key-preserved c = record {
  listed = listed_next (λ (k : Key). is_targeting c.args.secret.now.namespace c.args.secret.now.name (object_at (shown_by c.args.certificates.now) k)) c.args.more.now c.loop-key.key-index c.key-item.result c.loop-key.keys.items
      c.add_targeting.new.keys.items c.loop-key-test.true c.key-item.is c.in_ok-add_targeting.ensures.keeps c.in_ok-add_targeting.ensures.listed c.loop-key.invariant.listed;
  keeps = λ k among. c.in_ok-add_targeting.ensures.keeps k (c.loop-key.invariant.keeps k among);
  adds = adds_on (shown_by c.args.certificates.now) c.args.keys.now.items c.loop-key.keys.items c.add_targeting.new.keys.items c.loop-key.invariant.adds c.in_ok-add_targeting.ensures.adds;
}
