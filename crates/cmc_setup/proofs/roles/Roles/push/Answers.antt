use Rattle.cmc_setup.proofs.Orders.{in_order_with}
use Rattle.cmc_setup.proofs.roles.Roles.push.Goals as goal

pub invariant_of-self-2 : goal.invariant_of-self-2
invariant_of-self-2 c = rw c.in_ok-push.ensures.items (in_order_with c.self.inside.items.items _ (rw c.self.view_is c.requires) c.self.invariant)
