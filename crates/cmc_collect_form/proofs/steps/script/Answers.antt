use Rattle.std.proofs.Common.{rules}
use Rattle.std.specs.Int.{w64}
use Rattle.std.proofs.lemmas.Int.{to_z-of_z}
use Rattle.cmc_collect_form.specs.Steps.{AreInTime}
use Rattle.cmc_collect_form.proofs.OneMore.{under_name}
use Rattle.cmc_collect_form.proofs.steps.script.Goals as goal

pub returns-in-Some-clause-in_time : goal.returns-in-Some-clause-in_time
returns-in-Some-clause-in_time c =
    under_name (AreInTime c.args.now) _ c.listed.result c.at.result c.at.ensures (rw (to_z-of_z w64 c.args.now (search rules)) at c.listed.ensures.in_time)
