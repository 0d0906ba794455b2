use Rattle.std.proofs.Common.{ℕ, subst, sym}
use Rattle.cmc_caches.specs.Posted.{AreWithin}
use Rattle.cmc_caches.proofs.caches.Caches.push.Goals as goal

pub invariant_of-self : goal.invariant_of-self
invariant_of-self c = (c.self.invariant.0, subst (λ (n : ℕ). AreWithin n c.self.inside.rows.items) (sym c.push.ensures.known) c.self.invariant.1)
