use Rattle.std.proofs.Common.{subst}
use Rattle.std.specs.List.{AllByRecursion}
use Rattle.std.proofs.lemmas.List.{take_rest}
use Rattle.cmc_scenario_laws.specs.Rows.{HasReplyBytes}
use Rattle.cmc_scenario_laws.proofs.OneMoreOf.{one_more}
use Rattle.cmc_scenario_laws.proofs.laws.+replies_have_bytes.Goals as goal

pub returns-in-len1-up : goal.returns-in-len1-up
returns-in-len1-up t c = one_more HasReplyBytes _ _ c.in-len1-up.len_at_least c.first-item.is c.reply_has_bytes.ensures (subst (AllByRecursion HasReplyBytes) (take_rest c.args.rows.now 1) c.replies_have_bytes.ensures)
