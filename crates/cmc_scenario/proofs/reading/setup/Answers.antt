use Rattle.std.proofs.Common.{rules, refl, codes}
use Rattle.cmc_cursor.specs.Seen.{shown_option}
use Rattle.std.specs.Int.{w64}
use Rattle.std.proofs.lemmas.Int.{to_z-of_z}
use Rattle.cmc_scenario.proofs.SetupForms.{of_world, of_beginning, of_script, of_size, is_setup}
use Rattle.cmc_scenario.proofs.reading.setup.Goals as goal

pub put_together-requires : goal.put_together-requires
put_together-requires c =
    is_setup c.in_ok-world.world _ c.in_ok-script.script c.in_ok-window.window ((of_world _).each _ c.in_ok-world.ensures) ((of_beginning _).each _ c.in_ok-beginning.ensures)
    ((of_script _ _).each _ (simp (to_z-of_z w64 c.in_ok-beginning.beginning.moment (search rules), c.as_slice.ensures.value) at c.in_ok-script.ensures)) ((of_size 1000 (codes "window") (shown_option c.in_ok-given-2.given) refl).each _ c.in_ok-window.ensures)
