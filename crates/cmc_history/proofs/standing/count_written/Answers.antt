use Rattle.std.proofs.Common.{rules, ◌∙◌}
use Rattle.std.proofs.lemmas.Iterator.{YieldsList-from_slice}
use Rattle.std.proofs.lemmas.Iterator.Consumers.{YieldsList-from_filter, count_from_yields_List}
use Rattle.std.proofs.lemmas.List.Sums.{length-filter}
use Rattle.cmc_history.specs.Replays.{is_written}
use Rattle.cmc_history.proofs.standing.count_written.Goals as goal

pub returns : goal.returns
returns c =
    count_from_yields_List _ _ c.count.ensures.ran (YieldsList-from_filter _ (λ e. is_written e) (YieldsList-from_slice c.args.entries.now cc) c.filter.ensures.closure (λ x r q k. search rules))
    ∙ length-filter (λ e. is_written e) c.args.entries.now
