use Rattle.std.proofs.lemmas.Result.{IfOk-weaker}
use Rattle.cmc_collector.proofs.Seeing.{found_is_due}
use Rattle.cmc_collector.proofs.collection.Collection.is_due.Goals as goal

pub returns : goal.returns
returns c =
    IfOk-weaker c.is_due.result _ _
    (λ due is. found_is_due c.self.inside.events c.self.inside.server c.self.inside.caches c.self.inside.rows c.self.inside.entries.moments c.accepted.result c.args.self.now c.args.key.now _ due c.self.invariant c.get.ensures c.accepted.ensures.state c.self.view_is is) c.is_due.ensures
