use Rattle.std.proofs.Common.{sym, ◌∙◌}
use Rattle.cmc_held.proofs.OpenOnes.{none_on, on_from_test}
use Rattle.cmc_held.proofs.passes.Passes.is_on.Goals as goal

pub returns-clause-some : goal.returns-clause-some
returns-clause-some c = rw (← c.self.view_is) (on_from_test _ _ _ c.self.inside.map c.has_pass_of.ensures.ordered c.has_pass_of.ensures.test)

pub returns-clause-none : goal.returns-clause-none
returns-clause-none c = rw (← c.self.view_is) (λ is. none_on _ _ _ (sym c.has_pass_of.ensures.test ∙ is))
