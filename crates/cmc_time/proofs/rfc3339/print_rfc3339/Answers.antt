use Rattle.std.proofs.Common.{arith, ◌∙◌, to_z-of_z}
use Rattle.std.proofs.lemmas.Grind.{common_steps}
use Rattle.cmc_time.proofs.Rfc3339Laws.{rfc3339_is}
use Rattle.cmc_time.proofs.rfc3339.print_rfc3339.Goals as goal

pub returns-clause-text : goal.returns-clause-text
returns-clause-text c =
    let m = c.moment_at-m in
    rw (rfc3339_is m.result c.args.at m.ensures.is_real (m.ensures.lies_at ∙ to_z-of_z c.ranges.at)) (grind (arith, common_steps))
