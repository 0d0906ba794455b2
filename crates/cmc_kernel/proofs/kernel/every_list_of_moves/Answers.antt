use Rattle.cmc_kernel.proofs.Leading.{keeps, grows}
use Rattle.cmc_kernel.proofs.kernel.every_list_of_moves.Goals as goal

pub returns-clause-keeps : goal.returns-clause-keeps
returns-clause-keeps c = keeps

pub returns-clause-grows : goal.returns-clause-grows
returns-clause-grows c = grows
