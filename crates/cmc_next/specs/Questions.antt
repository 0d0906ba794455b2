-- The question of a controller.
use Rattle.std.specs.Prelude.{◌≡◌}
use Rattle.cmc_objects.specs.declared.orders.Order.{Order}
use Rattle.cmc_pass.specs.declared.pass.Desk.{Desk}
use Rattle.cmc_pass.specs.declared.pass.Act.{Act}
use Rattle.cmc_pass.specs.declared.pass.Act.TheVariants.{Ask}

-- the controller whose act hangs so on its desk asks this by some desk: what is on the desk when the value comes may differ from
-- what was on it at the question
abbrev pub IsQuestionOf : (Desk → Act) → Order → Type 0
IsQuestionOf act order = (desk : Desk) × (act desk ≡ Ask order)
