use Rattle.std.proofs.Common.{drop}
use Rattle.serde_json.specs.View.{items_view}
use Rattle.cmc_status_form.specs.ConditionForm.{conditions_from}
use Rattle.cmc_status_form.proofs.OneMore.{AreReadSoFar}
use Rattle.cmc_status_form.proofs.conditions.conditions_of.Given as goal

abbrev pub invariant-loop-place : goal.invariant-loop-place
invariant-loop-place l = AreReadSoFar l.conditions l.least l.place (drop l.place l.items) (conditions_from 0 0 (items_view l.items))
