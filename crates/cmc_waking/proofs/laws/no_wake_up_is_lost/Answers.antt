use Rattle.cmc_moves.proofs.Sounds.{each_sound}
use Rattle.cmc_waking.proofs.Promise.{loses_none, searched}
use Rattle.cmc_waking.proofs.laws.no_wake_up_is_lost.Goals as goal

pub returns-clause-wakes : goal.returns-clause-wakes
returns-clause-wakes c = loses_none

pub returns-clause-finds : goal.returns-clause-finds
returns-clause-finds c = λ s h role key row up is. searched s h role key row (each_sound role) up is
