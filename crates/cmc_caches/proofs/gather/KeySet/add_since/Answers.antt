use Rattle.std.proofs.Common.{arith, refl}
use Rattle.cmc_caches.specs.Affected.{is_among}
use Rattle.cmc_caches.proofs.Walks.{all_above}
use Rattle.cmc_caches.proofs.gather.KeySet.add_since.Goals as goal

pub returns-then-number-position-clause-added : goal.returns-then-number-position-clause-added
returns-then-number-position-clause-added c =
    all_above c.args.position c.args.numbers.now c.args.log.now.writes c.loop-newer.newer _ 0 (is_among c.loop-newer.self) (omega (arith, c.loop-newer-test.true)) refl (omega (arith, c.if-number-position.true)) c.loop-newer.invariant.falls
    c.loop-newer.invariant.walked
