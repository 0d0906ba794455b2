use Rattle.std.proofs.Common.{sym}
use Rattle.cmc_match.proofs.NameLaws.{same_in_order}
use Rattle.cmc_match.proofs.names.has_same_names.Goals as goal

pub returns-then-are_in_order : goal.returns-then-are_in_order
returns-then-are_in_order c = sym (same_in_order c.args.alternative.now c.args.tag c.args.texts.now (c.are_in_order.ensures c.if-are_in_order.true))
