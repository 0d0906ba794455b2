use Rattle.std.proofs.Common.{◌∙◌, sym}
use Rattle.cmc_collector.specs.Caches.{informer_object}
use Rattle.cmc_collector.proofs.Looping.{gone_off, gone_on}
use Rattle.cmc_collector.proofs.orphans.are_gone.Goals as goal

pub loop-owner-preserved : goal.loop-owner-preserved
loop-owner-preserved c =
    gone_on (informer_object c.args.caches.now) c.args.given c.args.namespace.now c.args.owners.now c.loop-owner.owner-index c.owner-item.result c.loop-owner-test.true c.owner-item.is c.loop-owner.invariant (sym c.in_ok-is_gone.ensures ∙ c.if-not-branch.false)

pub returns-then-not-branch : goal.returns-then-not-branch
returns-then-not-branch c =
    sym (gone_off (informer_object c.args.caches.now) c.args.given c.args.namespace.now c.args.owners.now c.loop-owner.owner-index c.owner-item.result c.loop-owner-test.true c.owner-item.is c.loop-owner.invariant (sym c.in_ok-is_gone.ensures ∙ c.if-not-branch.true))
