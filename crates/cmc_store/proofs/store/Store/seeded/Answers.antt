use Rattle.std.proofs.Common.{sym, subst, arith}
use Rattle.cmc_store.specs.Permanence.{HaveOneVerdict}
use Rattle.cmc_store.proofs.Permanent.{none_has}
use Rattle.cmc_store.proofs.store.Store.seeded.Goals as goal

pub invariant_of-result : goal.invariant_of-result
invariant_of-result c = record { few = omega arith; one = subst HaveOneVerdict (sym c.new.ensures) none_has }
