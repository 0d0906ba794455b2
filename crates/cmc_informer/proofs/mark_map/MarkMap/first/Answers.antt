use Rattle.std.proofs.Common.{ap, sym, ◌∙◌}
use Rattle.cmc_informer.specs.Indexes.{on_keys}
use Rattle.cmc_informer.proofs.OneMark.{first_left, none_left}
use Rattle.cmc_informer.proofs.mark_map.MarkMap.first.Goals as goal

pub returns-then-on : goal.returns-then-on
returns-then-on c =
    rw (← c.self.view_is) (first_left c.self.inside.map.entries _ _ c.in-Some.key.now c.in-Some.on.now c.iter-key-items.ensures.ordered (c.loop-key.invariant ∙ ap on_keys (sym c.self.view_is)) c.in-Some.ensures.steps c.if-on.true)

pub returns : goal.returns
returns c = rw (← c.self.view_is) (none_left c.self.inside.map.entries _ c.iter-key-items.ensures.ordered (c.loop-key.invariant ∙ ap on_keys (sym c.self.view_is)) c.in-None.ensures.steps.0)
