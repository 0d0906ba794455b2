use Rattle.cmc_kernel.specs.Kept.{setting_of}
use Rattle.cmc_world.proofs.Determined.{is_run}
use Rattle.cmc_world.proofs.FreeRows.{none_free}
use Rattle.cmc_world.proofs.laws.plain_histories_have_no_free_question.Goals as goal

pub returns : goal.returns
returns c = λ u h bound plain. let run = is_run (setting_of u) h plain in none_free (setting_of u) h bound.material run.legal run.caused
