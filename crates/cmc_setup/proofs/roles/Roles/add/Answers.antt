use Rattle.std.proofs.Common.{sym}
use Rattle.cmc_setup.proofs.Orders.{in_order_put}
use Rattle.cmc_setup.proofs.roles.Roles.add.Goals as goal

pub invariant_of-self : goal.invariant_of-self
invariant_of-self c =
    rw (c.in_ok-insert.ensures.items, c.place_of-place.ensures.value, c.as_slice-then-not-contains.ensures.value)
    (in_order_put c.self.inside.items.items c.args.role (rw c.as_slice.ensures.value at (sym c.if-not-contains.ensures)) c.self.invariant)
