use Rattle.std.proofs.Common.{◌≡◌, [], drop}
use Rattle.serde_json.specs.View.{items_view}
use Rattle.cmc_scenario.specs.Roles.{roles_with}
use Rattle.cmc_scenario.proofs.roles.roles_of.Given as goal

abbrev pub invariant-loop-place : goal.invariant-loop-place
invariant-loop-place l = roles_with l.place l.roles (items_view (drop l.place l.items)) ≡ roles_with 0 [] (items_view l.items)
