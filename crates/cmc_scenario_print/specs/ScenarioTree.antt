-- A scenario as JSON: what is absent, empty or the default is left out.
use Rattle.std.specs.Prelude.{ℕ, List, ◌==◌, codes, map}
use Rattle.serde_json.specs.Data.{Data, string, array, object, Members, no_members}
use Rattle.serde_json.specs.View.{items_of}
use Rattle.cmc_objects.specs.declared.role.Role.{Role}
use Rattle.cmc_setup.specs.Setups.{Setup}
use Rattle.cmc_print.specs.Trees.{natural}
use Rattle.cmc_print.specs.Puts.{put_list, put_object}
use Rattle.cmc_print.specs.Printed.{moment_tree}
use Rattle.cmc_print.specs.Words.{role_name}
use Rattle.cmc_scenario_print.specs.Defaults.{put_unless, usual_events, usual_window, is_usual_moment, is_every_role}
use Rattle.cmc_scenario_print.specs.PolicyTrees.{approver_members}
use Rattle.cmc_scenario_print.specs.RowTrees.{material_tree}
use Rattle.cmc_scenario_print.specs.StepTrees.{script_tree}

abbrev pub numbers_tree : List ℕ → Data
numbers_tree numbers = array (items_of (map natural numbers))

abbrev pub role_tree : Role → Data
role_tree role = string (role_name role)

abbrev pub roles_tree : List Role → Data
roles_tree roles = array (items_of (map role_tree roles))

-- What answers questions, and what calls on the store meet.
unfoldable pub put_world : Setup → Members → Members
put_world s ms =
    put_list material_tree (codes "material") s.material
    (put_list numbers_tree (codes "faults") s.faults
    (put_unless (s.events == usual_events) natural (codes "events") s.events
    (put_object (codes "approver") (approver_members s.approver) ms)))

-- How the run begins, and what happens in it.
unfoldable pub put_run : Setup → Members → Members
put_run s ms =
    put_unless (s.window == usual_window) natural (codes "window") s.window
    (put_list script_tree (codes "script") s.script
    (put_unless (is_every_role s.roles) roles_tree (codes "roles") s.roles
    (put_unless (is_usual_moment s.moment) moment_tree (codes "now") s.moment ms)))

unfoldable pub scenario_tree : Setup → Data
scenario_tree s = object (put_run s (put_world s no_members))
