use Rattle.std.proofs.Common.{◌∙◌, sym, subst, Option, Some}
use Rattle.std.specs.Prelude.{OnOk}
use Rattle.cmc_world.specs.declared.fed_passes.Closing.{Closing}
use Rattle.cmc_world.specs.Fed.{HasRoomsToEnd, HasRow}
use Rattle.cmc_world.proofs.Feeding.{rooms_made}
use Rattle.cmc_world.proofs.fed_passes.room_to_end.Goals as goal

pub returns-in-Some-parked_after-clause-made : goal.returns-in-Some-parked_after-clause-made
returns-in-Some-parked_after-clause-made c =
    let closing = c.in-Some.closing in
    let row = subst (λ (o : Option Closing). HasRow o c.args.queues.now) c.in-Some.is c.requires in
    subst (λ (o : Option Closing). OnOk c.place_for.result (HasRoomsToEnd o c.place_for.new.self)) (sym c.in-Some.is)
    (rooms_made c.place_for.result closing (Some c.in-Some-parked_after.parked) c.args.queues.now c.place_for.new.self (sym c.in-Some-parked_after.is ∙ c.parked_after.ensures) row (c.place_for.ensures.room closing.role) c.place_for.ensures.place)
