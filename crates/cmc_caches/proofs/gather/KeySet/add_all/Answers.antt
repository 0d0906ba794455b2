use Rattle.cmc_caches.proofs.Joins.{adds_keeps, all_next}
use Rattle.cmc_caches.proofs.gather.KeySet.add_all.Goals as goal

pub loop-key-preserved : goal.loop-key-preserved
loop-key-preserved c = record {
  added = all_next c.args.keys.now c.loop-key.key-index c.key-item.result c.loop-key.self c.add.new.self c.loop-key-test.true c.key-item.is c.in_ok-add.ensures c.loop-key.invariant.added;
  keeps = λ k had. adds_keeps c.key-item.result c.loop-key.self c.add.new.self c.in_ok-add.ensures k (c.loop-key.invariant.keeps k had);
}
