use Rattle.std.proofs.Common.{◌≡◌, take, reverse}
use Rattle.cmc_audit_ledger.specs.Ledgers.{setting_of}
use Rattle.cmc_audit_steps.specs.Steps.{AreKept}
use Rattle.cmc_audit.proofs.auditing.take_in.Given as goal

abbrev pub invariant-loop-line : goal.invariant-loop-line
invariant-loop-line l = (l.entry ≡ l.line-index) × AreKept (setting_of l.printed.scenario) (reverse (take l.line-index l.printed.entries)) l.ledger
