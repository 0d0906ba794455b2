use Rattle.std.proofs.Common.{drop}
use Rattle.serde_json.specs.View.{items_view}
use Rattle.cmc_summary_form.specs.SummaryForm.{all_waits}
use Rattle.cmc_summary_form.proofs.OneMore.{AreReadSoFar}
use Rattle.cmc_summary_form.proofs.waits.waits_of.Given as goal

abbrev pub invariant-loop-place : goal.invariant-loop-place
invariant-loop-place l = AreReadSoFar l.waits l.place (drop l.place l.items) (all_waits (items_view l.items))
