-- Histories whose printed lines are audited, and what of an entry no line says otherwise.
use Rattle.std.specs.Prelude.{◌≡◌, ℕ, List, length, map, All}
use Rattle.cmc_objects.specs.declared.entry.Entry.{Entry}
use Rattle.cmc_objects.specs.declared.entry.Entry.TheVariants.{Call as Called}
use Rattle.cmc_model.specs.Histories.{Setting, objects}
use Rattle.cmc_lines.specs.Shown.{line_of_entry}
use Rattle.cmc_audit_clauses.specs.declared.clause.Verdict.{Verdict}
use Rattle.cmc_audit_clauses.specs.declared.clause.Verdict.TheVariants.{Yes}
use Rattle.cmc_audit_calls.specs.CallsOfLines.{HasCallNames}
use Rattle.cmc_audit.specs.Verdicts.{IsVerdict, counted}

-- the key that the entry deletes or gets, if it does, has a namespace and a name
abbrev pub NamesItsKey : Entry → Type 0
NamesItsKey (Called who call reply) = HasCallNames call
NamesItsKey other = Unit {0}

-- each entry does so
abbrev pub NameTheirKeys : List Entry → Type 0
NameTheirKeys h = All NamesItsKey h

-- Every verdict on the lines that the history shows, with the right counts after them, is yes, with their number.
abbrev pub IsAuditedYes : Setting → List Entry → Type 0
IsAuditedYes s h = (counts : List ℕ) (verdict : Verdict) → counts ≡ counted (objects s h) → IsVerdict s (map line_of_entry h) counts verdict → verdict ≡ Yes (length h)
