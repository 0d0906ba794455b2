use Rattle.cmc_audit_steps.proofs.Going.{goes_on}
use Rattle.cmc_audit_steps.proofs.Places.{plain_stop}
use Rattle.cmc_audit_steps.proofs.placed.stopped.Goals as goal

pub returns : goal.returns
returns c = goes_on _ _ c.args.ledger.now c.stop.new.self (plain_stop c.args.role) (λ s h is. tt) c.stop.ensures.follows
