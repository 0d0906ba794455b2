use Rattle.cmc_audit_ledger.proofs.Taking.{taken_in}
use Rattle.cmc_audit_ledger.proofs.ledger.Ledger.take_in.Goals as goal

pub returns-clause-follows : goal.returns-clause-follows
returns-clause-follows c = λ s h before served has is.
    taken_in s h before c.args.self.now c.add.new.journal c.note.new.passes c.args.who c.args.call.now c.args.reply.now c.args.key c.args.object c.reads-reads.result c.saves.result
    served has c.reads-reads.ensures c.in_ok-add.ensures c.note.ensures.begun c.saves.ensures c.note.ensures.rows is
