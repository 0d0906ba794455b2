use Rattle.cmc_world.proofs.Asked.{IsLeft}
use Rattle.cmc_world.proofs.questions.ask_number_in.Given as goal

abbrev pub invariant-loop-newer : goal.invariant-loop-newer
invariant-loop-newer l = IsLeft l.pass l.entries l.newer
