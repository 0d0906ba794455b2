use Rattle.std.proofs.Common.{ap, subst, sym, true, ◌∙◌, ◌≡◌}
use Rattle.cmc_queue.specs.Queues.{has_room_for, Work}
use Rattle.cmc_queue.specs.Rows.{parked_for}
use Rattle.cmc_queue.proofs.Waits.{found_by_parking}
use Rattle.cmc_queue.proofs.queue.Queue.park.Goals as goal

pub invariant_of-self : goal.invariant_of-self
invariant_of-self c =
    let same = c.parked_for.ensures ∙ ap (parked_for c.args.kind c.args.version) c.in-Some.ensures.row in
    found_by_parking _ c.write.new.self c.args.key.now c.parked_for.result c.args.kind c.args.version c.self.invariant
    (subst (λ (q : Work). has_room_for q c.args.kind c.args.version c.args.key.now ≡ true) (sym c.self.view_is) c.requires.place)
    (ap (λ r. r.parked) same) (ap (λ r. r.timed) same) (c.write.ensures.rows c.args.key.now c.in-Some.ensures.at)
