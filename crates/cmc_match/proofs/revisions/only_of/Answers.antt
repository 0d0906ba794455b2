use Rattle.std.proofs.Common.{sym, ◌∙◌}
use Rattle.cmc_match.proofs.OnlyLaws.{only_first}
use Rattle.cmc_match.proofs.revisions.only_of.Goals as goal

pub returns-then-has_more : goal.returns-then-has_more
returns-then-has_more c = only_first c.args.revision c.args.requests.now _ _ (sym c.if-has_more.true ∙ c.requests_for-has_more.ensures.more) c.requests_for-has_more.ensures.first

pub returns-else-has_more : goal.returns-else-has_more
returns-else-has_more c = only_first c.args.revision c.args.requests.now _ _ (sym c.if-has_more.false ∙ c.requests_for-has_more.ensures.more) c.requests_for-has_more.ensures.first
