use Rattle.std.proofs.Common.{◌∙◌}
use Rattle.cmc_collect_run.proofs.PrintLaws.{deleted_reverse}
use Rattle.cmc_collect_run.proofs.text.deleted.Goals as goal

pub returns : goal.returns
returns c = c.deletions.ensures ∙ deleted_reverse c.args.moments.now
