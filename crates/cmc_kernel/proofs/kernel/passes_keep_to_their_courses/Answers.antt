use Rattle.cmc_safety.proofs.Courses.{have_courses}
use Rattle.cmc_safety.proofs.PlansDone.{plans_done}
use Rattle.cmc_safety.proofs.Repeating.{due_exactly}
use Rattle.cmc_moves.proofs.Sounds.{each_sound}
use Rattle.cmc_kernel.proofs.kernel.passes_keep_to_their_courses.Goals as goal

pub returns-clause-courses : goal.returns-clause-courses
returns-clause-courses c = λ s h run. have_courses each_sound s h run.legal run.caused

pub returns-clause-plans : goal.returns-clause-plans
returns-clause-plans c = λ s h run. plans_done each_sound s h run.legal run.caused

pub returns-clause-due : goal.returns-clause-due
returns-clause-due c = λ s h run. due_exactly s h run.legal run.caused
