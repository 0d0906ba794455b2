use Rattle.std.proofs.Common.{arith, sym, ◌∙◌}
use Rattle.std.specs.Cmp.{ranked}
use Rattle.cmc_meta.proofs.Leading.{named_lower, named_higher, named_same}
use Rattle.cmc_meta.proofs.name.Name.compare.Goals as goal

pub returns-in-Less : goal.returns-in-Less
returns-in-Less c = grind (arith, c.self.view_is, c.other.view_is, named_lower c.self.inside.first c.other.inside.first _ _ c.self.invariant c.other.invariant (ranked c.self.inside.first c.other.inside.first _ (sym c.in-Less.is ∙ c.cmp.ensures)))

pub returns-in-Greater : goal.returns-in-Greater
returns-in-Greater c = grind (arith, c.self.view_is, c.other.view_is, named_higher c.self.inside.first c.other.inside.first _ _ c.self.invariant c.other.invariant (ranked c.self.inside.first c.other.inside.first _ (sym c.in-Greater.is ∙ c.cmp.ensures)))

pub returns-in-Equal : goal.returns-in-Equal
returns-in-Equal c = grind (arith, c.self.view_is, c.other.view_is, named_same c.self.inside.first c.other.inside.first _ _ c.self.invariant c.other.invariant (ranked c.self.inside.first c.other.inside.first _ (sym c.in-Equal.is ∙ c.cmp.ensures)), c.is_short_as.ensures, c.if-is_short_as.true)
