use Rattle.cmc_audit_state.proofs.Adding.{kept_more, named_more}
use Rattle.cmc_audit_state.proofs.owned.add_under.Goals as goal

pub loop-owner-preserved : goal.loop-owner-preserved
loop-owner-preserved c = record {
  added = λ u. named_more c.loop-owner.owned c.add.new.self c.args.owners.now c.loop-owner.owner-index c.owner-item.result c.args.key.now u c.loop-owner-test.true c.owner-item.is c.in_ok-add.ensures (c.loop-owner.invariant.added u);
  keeps = λ u k was. kept_more c.loop-owner.owned c.add.new.self c.owner-item.result.uid u c.args.key.now k c.in_ok-add.ensures (c.loop-owner.invariant.keeps u k was);
}
