use Rattle.cmc_caches.specs.Affected.{KeepsKeys, is_among}
use Rattle.cmc_caches.specs.Left.{AreFalling}
use Rattle.cmc_caches.proofs.Walks.{AreWalked, older}
use Rattle.cmc_caches.proofs.gather.KeySet.add_since.Given as goal

abbrev pub invariant-loop-newer : goal.invariant-loop-newer
invariant-loop-newer l = record {
  walked : AreWalked l.position l.numbers l.log.writes l.newer (is_among l.self);
  falls : AreFalling (older l.numbers l.newer);
  keeps : KeepsKeys l.initial.self l.self;
}
