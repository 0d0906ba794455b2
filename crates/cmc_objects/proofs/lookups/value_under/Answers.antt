use Rattle.std.proofs.Common.{sym, ◌∙◌}
use Rattle.cmc_objects.proofs.LookupLaws.{found_here, found_later}
use Rattle.cmc_objects.proofs.lookups.value_under.Goals as goal

pub returns-then-is_named : goal.returns-then-is_named
returns-then-is_named g c =
    found_here c.args.key.now c.in-Some.name.now c.in-Some.value.now c.loop-name.name-iterator c.next.new.self _ (sym c.is_named.ensures ∙ c.if-is_named.true) c.in-Some.ensures.steps c.loop-name.invariant

pub loop-name-preserved : goal.loop-name-preserved
loop-name-preserved g c =
    found_later c.args.key.now c.in-Some.name.now c.in-Some.value.now c.loop-name.name-iterator c.next.new.self _ (sym c.is_named.ensures ∙ c.if-is_named.false) c.in-Some.ensures.steps c.loop-name.invariant
