use Rattle.std.proofs.Common.{ap, length, refl, subst, sym}
use Rattle.cmc_caches.specs.Posted.{AreUntold}
use Rattle.cmc_caches.proofs.caches.untold_rows.Goals as goal

pub returns-clause-count : goal.returns-clause-count
returns-clause-count c = ap length c.in_ok-rows.ensures.items

pub returns-clause-none : goal.returns-clause-none
returns-clause-none c = subst AreUntold (sym c.in_ok-rows.ensures.items) (refl, (refl, (refl, (refl, (refl, (refl, (refl, (refl, tt))))))))
