use Rattle.cmc_queue.proofs.FirstRows.{spot_above}
use Rattle.cmc_queue.proofs.spots.shifted.Goals as goal

pub returns-then-at-spot : goal.returns-then-at-spot
returns-then-at-spot c = let h = c.requires.had in spot_above _ h.0 _ h.1 c.args.at h.2 c.requires.nothing c.args.spot h.3 c.if-at-spot.true
