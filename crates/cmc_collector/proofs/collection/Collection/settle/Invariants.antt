use Rattle.cmc_collector.specs.Settles.{IsSettling}
use Rattle.cmc_collector.proofs.collection.Collection.settle.Given as goal

abbrev pub invariant-loop-turn : goal.invariant-loop-turn
invariant-loop-turn l = IsSettling l.fn.now l.fn.self l.self l._turn
