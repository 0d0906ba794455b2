use Rattle.cmc_kernel.proofs.Elsewhere.{none_held}
use Rattle.cmc_kernel.proofs.Newest.{views_newest}
use Rattle.cmc_waits.proofs.Finishing.{told}
use Rattle.cmc_run_laws.proofs.calm.plain_begins_see_all.Goals as goal

pub returns : goal.returns
returns c = λ s h role key run chosen none.
    views_newest s h role key run.legal (λ kind informed. told s h chosen.2 role kind chosen.3.fits.may.running informed (none_held s h role none kind))
