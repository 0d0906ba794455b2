use Rattle.cmc_caches.proofs.ToldRows.{all_untold, untold_within}
use Rattle.cmc_caches.proofs.caches.Caches.seeded.Goals as goal

pub invariant_of-result : goal.invariant_of-result
invariant_of-result c = (c.in_ok-rows.ensures.count, untold_within c.new-board.result.known c.in_ok-rows.rows.items c.in_ok-rows.ensures.none)

pub returns-clause-told : goal.returns-clause-told
returns-clause-told c r = all_untold c.in_ok-rows.rows.items r c.in_ok-rows.ensures.none
