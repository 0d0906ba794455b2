use Rattle.cmc_collector.proofs.Reading.{new_kept}
use Rattle.cmc_collector.proofs.collection.Collection.seeded.Goals as goal

pub invariant_of-result : goal.invariant_of-result
invariant_of-result c = new_kept c.args.window c.args.events c.args.faults c.new.result c.new-2.result c.new-3.result c.new-4.result.moments c.new.ensures c.new-2.ensures.told c.new-2.ensures.position c.new-3.ensures c.new-4.ensures
