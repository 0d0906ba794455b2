-- What an audit says of a printed history.
use Rattle.std.specs.Prelude.{◌≡◌, ◌≢◌, ◌⊎◌, ℕ, ◌+◌, List, [], ◌∷◌, ◌++◌, length, count_by, Option, Some, None}
use Rattle.std.specs.FinMap as finite
use Rattle.cmc_objects.specs.declared.entry.Entry.{Entry}
use Rattle.cmc_model.specs.Objects.{Objects}
use Rattle.cmc_model.specs.Histories.{Setting, objects}
use Rattle.cmc_model.specs.Summaries.{is_certificate, is_ready, is_secret}
use Rattle.cmc_lines.specs.declared.line.PrintedLine.{PrintedLine}
use Rattle.cmc_audit_ledger.specs.declared.ledger.Ledger.{Ledger}
use Rattle.cmc_audit_clauses.specs.declared.clause.Clause.{Clause}
use Rattle.cmc_audit_clauses.specs.declared.clause.Clause.TheVariants.{Counts}
use Rattle.cmc_audit_clauses.specs.declared.clause.Verdict.{Verdict}
use Rattle.cmc_audit_clauses.specs.declared.clause.Verdict.TheVariants.{Yes, No}
use Rattle.cmc_audit_steps.specs.Meant.{IsMeant}
use Rattle.cmc_audit_steps.specs.Steps.{AreKept, FailsAt, IsClean}

-- the lines stand for a history, and for no history in which something fails
pub record AreClean (s : Setting) (lines : List PrintedLine) : Type 0 where
  pub some : (h : List Entry) × IsMeant s lines h
  pub clean : (h : List Entry) → IsMeant s lines h → IsClean s h

-- at the line of this number, counted from 1, the clause is the first that fails, and nothing fails before it
pub record FailsFirst (s : Setting) (lines : List PrintedLine) (number : ℕ) (clause : Clause) : Type 0 where
  pub later : List PrintedLine
  pub line : PrintedLine
  pub before : List PrintedLine
  pub parts : lines ≡ later ++ line ∷ before
  pub numbered : number ≡ length before + 1
  pub clean : AreClean s before
  pub fails : FailsAt s before line clause

-- how many Certificates exist, how many of them are Ready, and how many Secrets exist
abbrev pub counted : Objects → List ℕ
counted stored = count_by (λ e. is_certificate e.1) (finite.entries stored) ∷ count_by (λ e. is_ready e.1) (finite.entries stored) ∷ count_by (λ e. is_secret e.1) (finite.entries stored) ∷ []

-- nothing fails at any entry, but the counts are not those of what exists
pub record MissCount (s : Setting) (lines : List PrintedLine) (counts : List ℕ) (number : ℕ) (clause : Clause) : Type 0 where
  pub numbered : number ≡ length lines + 1
  pub last : clause ≡ Counts
  pub clean : AreClean s lines
  pub miss : (h : List Entry) → IsMeant s lines h → counts ≢ counted (objects s h)

-- nothing fails at any of so many entries, and the counts are those of what exists
pub record IsWholeVerdict (s : Setting) (lines : List PrintedLine) (counts : List ℕ) (entries : ℕ) : Type 0 where
  pub all : entries ≡ length lines
  pub clean : AreClean s lines
  pub right : (h : List Entry) → IsMeant s lines h → counts ≡ counted (objects s h)

-- the verdict on the lines, the newest first, with these counts after them
abbrev pub IsVerdict : Setting → List PrintedLine → List ℕ → Verdict → Type 0
IsVerdict s lines counts (Yes entries) = IsWholeVerdict s lines counts entries
IsVerdict s lines counts (No entry clause) = FailsFirst s lines entry clause ⊎ MissCount s lines counts entry clause

-- ---- line by line

-- what the lines, the newest first, come to: what is kept of all of them, or the verdict that one fails
abbrev pub CameTo : Setting → List PrintedLine → Ledger → Option Verdict → Type 0
CameTo s lines l None = AreKept s lines l
CameTo s lines l (Some (No entry clause)) = FailsFirst s lines entry clause
CameTo s lines l (Some (Yes entries)) = ⊥
