use Rattle.std.proofs.Common.{refl, arith}
use Rattle.cmc_held.proofs.Backwards.{under_here, under_before, under_none, under_older}
use Rattle.cmc_held.proofs.log.last_above.Goals as goal

pub returns-then-version-after-clause-none : goal.returns-then-version-after-clause-none
returns-then-version-after-clause-none c = λ none.
    let low = under_older c.args.key.now c.args.writes.now c.loop-newer.newer c.loop-newer.invariant in
    omega (arith, low, c.if-version-after.true)

pub returns-then-eq-clause-last : goal.returns-then-eq-clause-last
returns-then-eq-clause-last c = λ some.
    under_here c.args.key.now c.args.writes.now _ c.loop-newer.newer c.index-writes-version.result refl (omega (arith, c.loop-newer-test.true)) c.loop-newer.invariant
    (grind (arith, c.index-writes-version.is, c.eq.ensures, c.if-eq.true))

pub loop-newer-preserved : goal.loop-newer-preserved
loop-newer-preserved c =
    under_before c.args.key.now c.args.writes.now _ c.loop-newer.newer c.index-writes-version.result refl (omega (arith, c.loop-newer-test.true)) c.loop-newer.invariant
    (grind (arith, c.index-writes-version.is, c.eq.ensures, c.if-eq.false))

pub returns-clause-none : goal.returns-clause-none
returns-clause-none c = λ none.
    let zero = under_none c.args.key.now c.args.writes.now c.loop-newer.newer (omega (arith, c.loop-newer-test.false)) c.loop-newer.invariant in
    omega (arith, zero)
