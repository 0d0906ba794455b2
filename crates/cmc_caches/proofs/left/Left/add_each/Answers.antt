use Rattle.std.specs.Prelude.{◌==◌}
use Rattle.cmc_caches.specs.Left.{numbers_under}
use Rattle.cmc_caches.proofs.Topped.{noted_next, topped_more, topped_same}
use Rattle.cmc_caches.proofs.left.Left.add_each.Goals as goal

pub loop-owner-init : goal.loop-owner-init
loop-owner-init c = record {
  kept = λ u. topped_same c.args.number (numbers_under c.args.self.now u);
  noted = λ u no. absurd (cc no);
}

pub loop-owner-preserved : goal.loop-owner-preserved
loop-owner-preserved c = record {
  kept = λ u. topped_more c.args.number (u == c.owner-item.result.uid) (numbers_under c.args.self.now u) (numbers_under c.loop-owner.self u) (numbers_under c.add.new.self u) (c.in_ok-add.ensures.ok u) (c.loop-owner.invariant.kept u);
  noted = λ u. noted_next c.args.owners.now c.loop-owner.owner-index u c.args.number c.owner-item.result (numbers_under c.loop-owner.self u) (numbers_under c.add.new.self u) c.loop-owner-test.true c.owner-item.is (c.in_ok-add.ensures.ok u)
      (c.loop-owner.invariant.noted u);
}
