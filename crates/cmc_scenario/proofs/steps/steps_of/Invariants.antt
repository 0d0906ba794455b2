use Rattle.std.proofs.Common.{drop}
use Rattle.serde_json.specs.View.{items_view}
use Rattle.cmc_setup.specs.Stages.{first_stage}
use Rattle.cmc_scenario.specs.Scripts.{steps_from}
use Rattle.cmc_scenario.proofs.OneMore.{IsReadSoFar}
use Rattle.cmc_scenario.proofs.steps.steps_of.Given as goal

abbrev pub invariant-loop-place : goal.invariant-loop-place
invariant-loop-place l = IsReadSoFar l.steps l.stage l.place (drop l.place l.items) (steps_from 0 (first_stage l.roles l.now) (items_view l.items))
