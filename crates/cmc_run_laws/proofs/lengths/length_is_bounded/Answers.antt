use Rattle.cmc_run_laws.proofs.FewPasses.{few_passes}
use Rattle.cmc_run_laws.proofs.PassEntries.{short_passes}
use Rattle.cmc_run_laws.proofs.Tellings.{told_seldom}
use Rattle.cmc_run_laws.proofs.ShortRuns.{bounded_length}
use Rattle.cmc_run_laws.proofs.lengths.length_is_bounded.Goals as goal

pub returns-clause-passes : goal.returns-clause-passes
returns-clause-passes c = λ s whole formed run. few_passes whole (c.no_pass_begins_for_nothing.ensures.count s whole formed run)

pub returns-clause-entries : goal.returns-clause-entries
returns-clause-entries c = λ s whole run. short_passes s whole run.legal (c.passes_keep_to_their_courses.ensures.courses s whole run)

pub returns-clause-told : goal.returns-clause-told
returns-clause-told c = λ s whole run. told_seldom s whole run.legal

pub returns-clause-bounded : goal.returns-clause-bounded
returns-clause-bounded c = λ s whole formed run.
    bounded_length s whole run (few_passes whole (c.no_pass_begins_for_nothing.ensures.count s whole formed run))
    (short_passes s whole run.legal (c.passes_keep_to_their_courses.ensures.courses s whole run)) (told_seldom s whole run.legal)
