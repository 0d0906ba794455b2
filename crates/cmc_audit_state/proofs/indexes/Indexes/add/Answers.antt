use Rattle.std.proofs.lemmas.Result.{IfOk-weaker}
use Rattle.cmc_audit_state.proofs.Indexing.{indexed_more}
use Rattle.cmc_audit_state.proofs.indexes.Indexes.add.Goals as goal

pub returns : goal.returns
returns c =
    IfOk-weaker c.deny.result _ _
    (λ done denied ws is count. indexed_more ws c.args.write.now c.args.version c.args.self.now _ c.in_ok-add.ensures c.in_ok-own.ensures.added c.in_ok-own.ensures.keeps c.in_ok-revise.ensures denied count is)
    c.deny.ensures
