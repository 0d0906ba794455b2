-- One entry more.
use Rattle.std.specs.Prelude.{◌+◌}
use Rattle.cmc_audit_ledger.specs.declared.ledger.Ledger.{Ledger}

abbrev pub entry_counted : Ledger → Ledger
entry_counted l = record l { entries = l.entries + 1 }
