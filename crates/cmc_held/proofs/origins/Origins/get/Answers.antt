use Rattle.std.proofs.Common.{◌<◌, sym, ap, ◌∙◌, arith}
use Rattle.std.specs.Prelude.{◌-◌, slice_get}
use Rattle.cmc_held.proofs.ByNumber.{no_origin_at_zero, origin_by_place}
use Rattle.cmc_held.proofs.origins.Origins.get.Goals as goal

pub returns-then-number-eq0 : goal.returns-then-number-eq0
returns-then-number-eq0 c = rw c.if-number-eq0.true (sym (no_origin_at_zero _))

pub returns : goal.returns
returns c =
    let above : 0 < c.args.number = omega arith in
    rw (← c.self.view_is) (c.origin_in.ensures ∙ ap (λ l. slice_get l (c.args.number - 1)) c.deref.ensures.value ∙ sym (origin_by_place c.self.inside.items.items c.args.number above))
