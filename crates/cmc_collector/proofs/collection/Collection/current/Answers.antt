use Rattle.std.proofs.lemmas.Result.{IfOk-weaker}
use Rattle.cmc_collector.proofs.Seeing.{found_current}
use Rattle.cmc_collector.proofs.collection.Collection.current.Goals as goal

pub returns : goal.returns
returns c =
    IfOk-weaker c.current.result _ _
    (λ x is. found_current c.self.inside.events c.self.inside.server c.self.inside.caches c.self.inside.rows c.self.inside.entries.moments c.accepted.result c.args.self.now c.args.key.now _ x c.self.invariant c.get.ensures c.accepted.ensures.state c.self.view_is is) c.current.ensures
