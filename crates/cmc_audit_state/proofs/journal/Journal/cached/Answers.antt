use Rattle.std.proofs.Common.{◌∙◌}
use Rattle.cmc_audit_state.proofs.Latest.{cached_here, cached_elsewhere}
use Rattle.cmc_audit_state.proofs.journal.Journal.cached.Goals as goal

pub returns-then-same : goal.returns-then-same
returns-then-same c = c.latest.ensures ∙ cached_here c.args.kind c.args.up_to c.args.self.now c.args.key.now (c.same.ensures.0 c.if-same.true)

pub returns-else-same : goal.returns-else-same
returns-else-same c = cached_elsewhere c.args.kind c.args.up_to c.args.self.now c.args.key.now (λ same. absurd (let on = c.same.ensures.1 same in let off = c.if-same.false in cc (on, off)))
