use Rattle.std.proofs.Common.{arith, refl}
use Rattle.std.proofs.lemmas.Bool.Decides.{nat_tests}
use Rattle.cmc_caches.proofs.Walks.{left_before, left_here, left_none}
use Rattle.cmc_caches.proofs.walk.last_until.Goals as goal

pub returns-then-number-position : goal.returns-then-number-position
returns-then-number-position c =
    left_here c.args.position c.args.numbers.now c.loop-newer.newer 0 _ (omega (arith, c.loop-newer-test.true)) c.loop-newer.invariant refl (grind (arith, nat_tests, c.if-number-position.true))

pub loop-newer-preserved : goal.loop-newer-preserved
loop-newer-preserved c =
    left_before c.args.position c.args.numbers.now c.loop-newer.newer 0 _ (omega (arith, c.loop-newer-test.true)) c.loop-newer.invariant refl (grind (arith, nat_tests, c.if-number-position.false))

pub returns : goal.returns
returns c = left_none c.args.position c.args.numbers.now c.loop-newer.newer (omega (arith, c.loop-newer-test.false)) c.loop-newer.invariant
