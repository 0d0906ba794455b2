-- One line more: what is kept goes on.
use Rattle.std.proofs.Common.{◌≡◌, List, [], ◌∷◌, None, sym, ap, subst, ◌∙◌}
use Rattle.std.specs.Prelude.{map}
use Rattle.cmc_objects.specs.declared.entry.Entry.{Entry}
use Rattle.cmc_objects.specs.declared.entry.Entry.TheVariants.{Call as Called}
use Rattle.cmc_model.specs.Histories.{Setting}
use Rattle.cmc_model.specs.Verdicts.{IsAnswered}
use Rattle.cmc_lines.specs.declared.line.PrintedLine.{PrintedLine}
use Rattle.cmc_lines.specs.Shown.{line_of_entry}
use Rattle.cmc_audit_ledger.specs.declared.ledger.Ledger.{Ledger}
use Rattle.cmc_audit_ledger.specs.Ledgers.{IsLedgerOf}
use Rattle.cmc_audit_clauses.specs.declared.clause.Clause.{Clause}
use Rattle.cmc_audit_clauses.specs.declared.clause.Clause.TheVariants as clauses
use Rattle.cmc_audit_clauses.specs.Clauses.{Holds, IsPlaced}
use Rattle.cmc_audit_steps.specs.Meant.{AreNamedEntries, IsMeant, IsNamedEntry}
use Rattle.cmc_audit_steps.specs.Steps.{AreKept, IsClean, IsCleanLedger, FindsClause}

-- where nothing fails, each call is answered as the store answers it
pub answered : (s : Setting) (h : List Entry) → IsClean s h → IsAnswered s h
unfolding IsClean
answered s [] clean = tt
answered s (Called who q r ∷ h) clean = (clean.0 clauses.Reply, answered s h clean.1)
answered s (other ∷ h) clean = answered s h clean.1

clean_with : (s : Setting) (h : List Entry) (e : Entry) → ((clause : Clause) → Holds clause s h e) → IsClean s h → IsClean s (e ∷ h)
unfolding IsClean
clean_with s h e holds clean = (holds, clean)

named_with : (s : Setting) (h : List Entry) (e : Entry) → IsNamedEntry s h e → AreNamedEntries s h → AreNamedEntries s (e ∷ h)
unfolding AreNamedEntries
named_with s h e is all = (is, all)

named_first : (s : Setting) (h : List Entry) (e : Entry) → AreNamedEntries s (e ∷ h) → IsNamedEntry s h e
unfolding AreNamedEntries
named_first s h e is = is.0

named_rest : (s : Setting) (h : List Entry) (e : Entry) → AreNamedEntries s (e ∷ h) → AreNamedEntries s h
unfolding AreNamedEntries
named_rest s h e is = is.1

first_shown : (e : Entry) (h : List Entry) (line : PrintedLine) (lines : List PrintedLine) → map line_of_entry (e ∷ h) ≡ line ∷ lines → line_of_entry e ≡ line
first_shown e h line lines is = cc is

rest_shown : (e : Entry) (h : List Entry) (line : PrintedLine) (lines : List PrintedLine) → map line_of_entry (e ∷ h) ≡ line ∷ lines → map line_of_entry h ≡ lines
rest_shown e h line lines is = cc is

-- an entry that shows as the line, after each history that the lines before it stand for
abbrev pub Some_shows : Setting → PrintedLine → Ledger → Type 0
Some_shows s line old = (h : List Entry) → IsCleanLedger s h old → (e : Entry) × (line_of_entry e ≡ line) × IsNamedEntry s h e

-- nothing fails at any such entry, and what is kept goes on with it
abbrev pub All_go : Setting → PrintedLine → Ledger → Ledger → Type 0
All_go s line old new = (h : List Entry) (e : Entry) → IsCleanLedger s h old → line_of_entry e ≡ line → IsNamedEntry s h e → IsLedgerOf s (e ∷ h) new × FindsClause s h e None

goes_in : (s : Setting) (lines : List PrintedLine) (line : PrintedLine) (old new : Ledger) → AreKept s lines old → All_go s line old new → (g : List Entry) → IsMeant s (line ∷ lines) g → IsCleanLedger s g new
goes_in s lines line old new kept all [] meant = absurd (let e = meant.shows in cc e)
goes_in s lines line old new kept all (e ∷ h) meant =
    let before = kept.all h (record { shows = rest_shown e h line lines meant.shows; named = named_rest s h e meant.named }) in
    let on = all h e before (first_shown e h line lines meant.shows) (named_first s h e meant.named) in
    record { follows = on.0; clean = clean_with s h e on.1 before.clean }

pub goes : (s : Setting) (lines : List PrintedLine) (line : PrintedLine) (old new : Ledger) → AreKept s lines old → Some_shows s line old → All_go s line old new → AreKept s (line ∷ lines) new
goes s lines line old new kept some all =
    let h : List Entry = kept.some.0 in
    let meant = kept.some.1 in
    let e = some h (kept.all h meant) in
    record {
      some = (e.0 ∷ h, record { shows = ap (λ l. l ∷ map line_of_entry h) e.1 ∙ ap (λ ls. line ∷ ls) meant.shows; named = named_with s h e.0 e.2 meant.named });
      all = goes_in s lines line old new kept all;
    }

-- ---- an entry that the line says whole, and of which only the place is looked at

pub record IsPlain (e : Entry) (line : PrintedLine) : Type 0 where
  pub only : (x : Entry) → line_of_entry x ≡ line → x ≡ e
  pub shows : line_of_entry e ≡ line
  pub named : (s : Setting) (h : List Entry) → IsNamedEntry s h e
  pub rest : (s : Setting) (h : List Entry) → IsPlaced s h e → FindsClause s h e None

pub goes_on : (e : Entry) (line : PrintedLine) (old new : Ledger) → IsPlain e line → ((s : Setting) (h : List Entry) → IsLedgerOf s h old → IsPlaced s h e)
    → ((s : Setting) (h : List Entry) → IsLedgerOf s h old → IsLedgerOf s (e ∷ h) new) → (s : Setting) (lines : List PrintedLine) → AreKept s lines old → AreKept s (line ∷ lines) new
goes_on e line old new plain placed follows s lines kept =
    goes s lines line old new kept (λ h is. (e, plain.shows, plain.named s h))
    (λ h x is shows named.
    let same : e ≡ x = sym (plain.only x shows) in (
      subst (λ y. IsLedgerOf s (y ∷ h) new) same (follows s h is.follows),
      subst (λ y. FindsClause s h y None) same (plain.rest s h (placed s h is.follows)),
    ))
