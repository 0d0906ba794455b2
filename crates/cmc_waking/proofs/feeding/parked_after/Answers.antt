use Rattle.std.proofs.Common.{sym, ◌∙◌}
use Rattle.cmc_waking.proofs.Feeds.{waits_other}
use Rattle.cmc_waking.proofs.feeding.parked_after.Goals as goal

pub returns-in_default : goal.returns-in_default
returns-in_default c = c.obstacle_ahead.ensures ∙ sym (waits_other c.args.ending c.args.own c.args.at c.in_default.not-Wrote)
