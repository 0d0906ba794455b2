use Rattle.std.proofs.Common.{refl, arith}
use Rattle.cmc_collector.proofs.Turned.{turned_end}
use Rattle.cmc_collector.proofs.Turning.{settles_self}
use Rattle.cmc_collector.proofs.collection.Collection.settle.Goals as goal

pub loop-turn-init : goal.loop-turn-init
loop-turn-init c = record { same = refl; settles = settles_self _ _ _; count = omega arith }

pub returns-in-Some-clause-none_left : goal.returns-in-Some-clause-none_left
returns-in-Some-clause-none_left c = turned_end _ c.loop-turn.self c.turn.new.self c.in_ok-end.field-0 c.in-Some.end c.in-Some.is c.in_ok-end.ensures.ok
