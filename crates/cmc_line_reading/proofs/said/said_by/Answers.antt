use Rattle.std.proofs.Common.{List, ℕ, Option, sym, subst, ◌∙◌}
use Rattle.std.specs.Prelude.{MatchOption}
use Rattle.cmc_line_reading.specs.Histories.{IsSummary, IsSummaryOf}
use Rattle.cmc_line_reading.proofs.Summaries.{no_entry}
use Rattle.cmc_line_reading.proofs.said.said_by.Goals as goal

pub returns-in-None : goal.returns-in-None
returns-in-None c = (
  no_entry _ _ _ c.requires (sym c.is_summary.ensures ∙ c.if-is_summary.true),
  subst (λ (o : Option (List ℕ)). MatchOption o (IsSummary c.args.text.now → ⊥) (IsSummaryOf c.args.text.now)) c.in-None.is c.in_ok-counts.ensures,
)
