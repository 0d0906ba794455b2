-- One line more: what is kept goes on, or a clause fails.
use Rattle.std.specs.Prelude.{◌≡◌, ◌<◌, List, [], ◌∷◌, Option, Some, None}
use Rattle.cmc_objects.specs.declared.call.Call.{Call}
use Rattle.cmc_objects.specs.declared.call.Reply.{Reply}
use Rattle.cmc_objects.specs.declared.entry.Who.{Who}
use Rattle.cmc_objects.specs.declared.entry.Entry.{Entry}
use Rattle.cmc_objects.specs.declared.entry.Entry.TheVariants.{Call as Called}
use Rattle.cmc_model.specs.Histories.{Setting, state}
use Rattle.cmc_model.specs.Replies.{IsReply}
use Rattle.cmc_model.specs.Verdicts.{IsAnswered}
use Rattle.cmc_lines.specs.declared.line.PrintedLine.{PrintedLine}
use Rattle.cmc_lines.specs.declared.line.PrintedReply.{PrintedReply}
use Rattle.cmc_lines.specs.Shown.{line_of_entry, shown_reply}
use Rattle.cmc_audit_ledger.specs.declared.ledger.Ledger.{Ledger}
use Rattle.cmc_audit_ledger.specs.Ledgers.{IsLedgerOf}
use Rattle.cmc_audit_clauses.specs.declared.clause.Clause.{Clause}
use Rattle.cmc_audit_clauses.specs.Clauses.{Holds, rank}
use Rattle.cmc_audit_calls.specs.CallsOfLines.{bare_call}
use Rattle.cmc_audit_steps.specs.Meant.{IsMeant, IsNamedEntry, IsStoresReply}

-- nothing fails at any entry
unfoldable pub IsClean : Setting → List Entry → Type 0
IsClean s [] = Unit {0}
IsClean s (e ∷ h) = ((clause : Clause) → Holds clause s h e) × IsClean s h

-- what is kept is what the history says, in which nothing fails
pub record IsCleanLedger (s : Setting) (h : List Entry) (l : Ledger) : Type 0 where
  pub follows : IsLedgerOf s h l
  pub clean : IsClean s h

-- the lines, the newest first, stand for a history, and what is kept is that of each one that they stand for
pub record AreKept (s : Setting) (lines : List PrintedLine) (l : Ledger) : Type 0 where
  pub some : (h : List Entry) × IsMeant s lines h
  pub all : (h : List Entry) → IsMeant s lines h → IsCleanLedger s h l

-- the clause is the first that fails at the entry, and none where there is none
abbrev pub FindsClause : Setting → List Entry → Entry → Option Clause → Type 0
FindsClause s h e None = (clause : Clause) → Holds clause s h e
FindsClause s h e (Some clause) = ((other : Clause) → rank other < rank clause → Holds other s h e) × (Holds clause s h e → ⊥)

-- This clause is the first that fails at the line after these, whatever history and entry they stand for.
abbrev pub FailsAt : Setting → List PrintedLine → PrintedLine → Clause → Type 0
FailsAt s before line clause = (h : List Entry) (e : Entry) → IsMeant s before h → line_of_entry e ≡ line → IsNamedEntry s h e → FindsClause s h e (Some clause)

-- with the line nothing fails, and what is kept goes on; or this is the clause that fails first
abbrev pub Went : Setting → List PrintedLine → PrintedLine → Ledger → Option Clause → Type 0
Went s lines line new None = AreKept s (line ∷ lines) new
Went s lines line new (Some clause) = FailsAt s lines line clause

abbrev pub Steps : Ledger → PrintedLine → Ledger → Option Clause → Type 0
Steps old line new failed = (s : Setting) (lines : List PrintedLine) → AreKept s lines old → Went s lines line new failed

-- ---- a call

-- nothing fails at a call that shows as this one and its reply, there is a reply, and what is kept goes on
pub record CallsOn (old : Ledger) (call : Call) (who : Who) (printed : PrintedReply) (new : Ledger) : Type 0 where
  pub some : (s : Setting) (h : List Entry) → IsLedgerOf s h old → (r : Reply) × IsReply s.faults (state s h) call r × (shown_reply call r ≡ printed)
  pub on : (s : Setting) (h : List Entry) (q : Call) (r : Reply) → IsLedgerOf s h old → IsAnswered s h → bare_call q ≡ call → IsStoresReply s h q r → shown_reply q r ≡ printed
      → IsLedgerOf s (Called who q r ∷ h) new × FindsClause s h (Called who q r) None

abbrev pub Calls : Ledger → Call → Who → PrintedReply → Ledger → Option Clause → Type 0
Calls old call who printed new None = CallsOn old call who printed new
Calls old call who printed new (Some clause) =
    (s : Setting) (h : List Entry) (q : Call) (r : Reply) → IsLedgerOf s h old → IsAnswered s h → bare_call q ≡ call → IsStoresReply s h q r → shown_reply q r ≡ printed
    → FindsClause s h (Called who q r) (Some clause)
