use Rattle.std.proofs.Common.{drop}
use Rattle.serde_json.specs.View.{items_view}
use Rattle.cmc_collect_form.specs.Steps.{steps_from}
use Rattle.cmc_collect_form.proofs.OneMore.{IsReadSoFar}
use Rattle.cmc_collect_form.proofs.steps.steps_of.Given as goal

abbrev pub invariant-loop-place : goal.invariant-loop-place
invariant-loop-place l = IsReadSoFar l.now l.steps l.moment l.place (drop l.place l.items) (steps_from 0 l.now (items_view l.items))
