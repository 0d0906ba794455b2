use Rattle.std.proofs.Common.{rules, ◌∙◌}
use Rattle.std.specs.Int.{w64}
use Rattle.std.proofs.lemmas.Int.{to_z-of_z}
use Rattle.cmc_collect_form.proofs.OneMore.{at_first, one_more, all_read, all_in_time}
use Rattle.cmc_collect_form.proofs.steps.steps_of.Goals as goal

pub loop-place-preserved : goal.loop-place-preserved
loop-place-preserved c = rw (c.in_ok-push-in-Ok.ensures.ok) (one_more _ _ _ _ _ _ _ _ _ c.loop-place-test.true c.index-items-place.is c.in-Ok.ensures.step c.in-Ok.ensures.next.0 (to_z-of_z w64 c.in-Ok.next (search rules) ∙ c.in-Ok.ensures.next.1) c.loop-place.invariant)
