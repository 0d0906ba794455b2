use Rattle.cmc_audit_steps.proofs.Going.{goes_on}
use Rattle.cmc_audit_steps.proofs.Places.{plain_start}
use Rattle.cmc_audit_steps.proofs.placed.started.Goals as goal

pub returns : goal.returns
returns c = goes_on _ _ c.args.ledger.now c.start.new.self (plain_start c.args.role c.args.at) (λ s h is. tt) c.start.ensures.follows
