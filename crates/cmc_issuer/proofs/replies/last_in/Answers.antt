use Rattle.std.proofs.Common.{ap, ◌∙◌}
use Rattle.std.specs.Prelude.{unwrap_or}
use Rattle.cmc_rules.specs.Orders.{default_row}
use Rattle.cmc_issuer.proofs.Rows.{last_is}
use Rattle.cmc_issuer.proofs.replies.last_in.Goals as goal

pub returns : goal.returns
returns c = ap (λ o. unwrap_or o default_row) c.last.ensures.value ∙ last_is default_row c.args.rows.now
