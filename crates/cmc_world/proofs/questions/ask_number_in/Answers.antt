use Rattle.std.proofs.Common.{refl, arith}
use Rattle.cmc_world.proofs.Asked.{asks_here, asks_before, asks_nowhere}
use Rattle.cmc_world.proofs.questions.ask_number_in.Goals as goal

pub returns-then-is_question : goal.returns-then-is_question
returns-then-is_question c =
    asks_here c.args.pass c.args.entries.now _ c.loop-newer.newer c.index-entries-number.result refl (omega (arith, c.loop-newer-test.true)) c.loop-newer.invariant
    (grind (arith, c.index-entries-number.is, c.is_question.ensures, c.if-is_question.true))

pub loop-newer-preserved : goal.loop-newer-preserved
loop-newer-preserved c =
    asks_before c.args.pass c.args.entries.now _ c.loop-newer.newer c.index-entries-number.result refl (omega (arith, c.loop-newer-test.true)) c.loop-newer.invariant
    (grind (arith, c.index-entries-number.is, c.is_question.ensures, c.if-is_question.false))

pub returns : goal.returns
returns c = asks_nowhere c.args.pass c.args.entries.now c.loop-newer.newer (omega (arith, c.loop-newer-test.false)) c.loop-newer.invariant
