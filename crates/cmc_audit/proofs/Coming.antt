-- What the lines of a printed history come to.
use Rattle.std.proofs.Common.{◌≡◌, ℕ, ◌+◌, ◌≤◌, List, [], ◌∷◌, ◌++◌, length, reverse, Bool, true, Option, Some, None, refl, sym, ap, subst, ◌∙◌, arith, suc, ◌<◌, take, drop, take-append-drop, get_or}
use Rattle.std.proofs.Math.Seq.{take-suc}
use Rattle.std.proofs.lemmas.List.{length-reverse, length-take-le, reverse-append}
use Rattle.cmc_objects.specs.Requests.{is_run_time}
use Rattle.cmc_objects.specs.declared.entry.Entry.{Entry}
use Rattle.cmc_model.specs.Replies.{State}
use Rattle.cmc_model.specs.Histories.{Setting, objects}
use Rattle.cmc_rules.specs.declared.progress.OpenPass.{OpenPass}
use Rattle.cmc_lines.specs.declared.line.PrintedLine.{PrintedLine}
use Rattle.cmc_audit_state.specs.declared.row.Row.{Row}
use Rattle.cmc_audit_state.specs.declared.row.Version.{Version}
use Rattle.cmc_audit_state.specs.OpenRows.{open_row_at}
use Rattle.cmc_audit_ledger.specs.declared.ledger.Ledger.{Ledger}
use Rattle.cmc_audit_ledger.specs.Ledgers.{IsLedgerOf, IsRowOf}
use Rattle.cmc_model.specs.declared.write.Write.{Write}
use Rattle.cmc_audit_clauses.specs.declared.clause.Clause.{Clause}
use Rattle.cmc_audit_clauses.specs.declared.clause.Clause.TheVariants.{Counts}
use Rattle.cmc_audit_steps.specs.Meant.{AreNamedEntries, IsMeant}
use Rattle.cmc_audit_steps.specs.Steps.{AreKept, FailsAt, IsClean, IsCleanLedger}
use Rattle.cmc_audit.specs.Verdicts.{AreClean, FailsFirst, IsWholeVerdict, MissCount, counted}

-- ---- before any line

none_named : (s : Setting) → AreNamedEntries s []
unfolding AreNamedEntries
none_named s = tt

none_clean : (s : Setting) → IsClean s []
unfolding IsClean
none_clean s = tt

kept_none : (s : Setting) (l : Ledger) → IsLedgerOf s [] l → (h : List Entry) → IsMeant s [] h → IsCleanLedger s h l
kept_none s l is [] meant = record { follows = is; clean = none_clean s }
kept_none s l is (e ∷ h) meant = absurd (let shows = meant.shows in cc shows)

pub kept_first : (s : Setting) (l : Ledger) → IsLedgerOf s [] l → AreKept s [] l
kept_first s l is = record { some = ([], record { shows = refl; named = none_named s }); all = kept_none s l is }

-- ---- what is kept stays in bounds

of_some : (s : Setting) (lines : List PrintedLine) (l : Ledger) (kept : AreKept s lines l) → IsCleanLedger s kept.some.0 l
of_some s lines l kept = kept.all kept.some.0 kept.some.1

pub begun_low : (s : Setting) (lines : List PrintedLine) (l : Ledger) → AreKept s lines l → l.passes.begun ≤ l.entries
begun_low s lines l kept = let is = (of_some s lines l kept).follows in subst (λ (n : ℕ). n ≤ l.entries) (sym is.begun) is.begun_low

pub calls_low : (s : Setting) (lines : List PrintedLine) (l : Ledger) → AreKept s lines l → l.store.state.calls ≤ l.entries
calls_low s lines l kept = let is = (of_some s lines l kept).follows in subst (λ (st : State). st.calls ≤ l.entries) (sym is.state) is.calls_low

row_in_run : (ws : List Write) (found : ℕ → Bool) (saved : Bool) (asked : Option Version) (approved : Version → Bool) (x : Option Row) (o : Option OpenPass) (row : Row)
    → x ≡ Some row → IsRowOf ws found saved asked approved x o → is_run_time row.since ≡ true
row_in_run ws found saved asked approved None o row at is = absurd (cc at)
row_in_run ws found saved asked approved (Some r) None row at is = absurd is
row_in_run ws found saved asked approved (Some r) (Some p) row at is = let same : r ≡ row = cc at in subst (λ (q : Row). is_run_time q.since ≡ true) same is.in_run

pub rows_in_run : (s : Setting) (lines : List PrintedLine) (l : Ledger) → AreKept s lines l → (pass : ℕ) (row : Row) → open_row_at l.passes pass ≡ Some row → is_run_time row.since ≡ true
rows_in_run s lines l kept pass row at = row_in_run _ _ _ _ _ (open_row_at l.passes pass) _ row at ((of_some s lines l kept).follows.rows pass)

-- ---- verdicts

clean_of : (s : Setting) (lines : List PrintedLine) (l : Ledger) → AreKept s lines l → AreClean s lines
clean_of s lines l kept = record { some = kept.some; clean = λ h meant. (kept.all h meant).clean }

pub fails_first : (s : Setting) (later before lines : List PrintedLine) (line : PrintedLine) (l : Ledger) (number : ℕ) (clause : Clause) → lines ≡ later ++ line ∷ before → number ≡ length before + 1
    → AreKept s before l → FailsAt s before line clause → FailsFirst s lines number clause
fails_first s later before lines line l number clause parts numbered kept fails =
    record { later = later; line = line; before = before; parts = parts; numbered = numbered; clean = clean_of s before l kept; fails = fails }

counts_of : (s : Setting) (lines : List PrintedLine) (l : Ledger) → AreKept s lines l → (h : List Entry) → IsMeant s lines h → counted l.store.state.objects ≡ counted (objects s h)
counts_of s lines l kept h meant = ap (λ (st : State). counted st.objects) (kept.all h meant).follows.state

pub whole : (s : Setting) (lines : List PrintedLine) (l : Ledger) (counts : List ℕ) (entries : ℕ) → AreKept s lines l → entries ≡ length lines → counts ≡ counted l.store.state.objects → IsWholeVerdict s lines counts entries
whole s lines l counts entries kept all same = record { all = all; clean = clean_of s lines l kept; right = λ h meant. same ∙ counts_of s lines l kept h meant }

pub missed : (s : Setting) (lines : List PrintedLine) (l : Ledger) (counts : List ℕ) (number : ℕ) → AreKept s lines l → number ≡ length lines + 1 → (counts ≡ counted l.store.state.objects → ⊥) → MissCount s lines counts number Counts
missed s lines l counts number kept numbered other =
    record { numbered = numbered; last = refl; clean = clean_of s lines l kept; miss = λ h meant same. other (same ∙ sym (counts_of s lines l kept h meant)) }

-- ---- one line more

more : (i : ℕ) → i + 1 ≡ suc i
more i = omega arith

pub taken_more : (xs : List PrintedLine) (i : ℕ) (x : PrintedLine) → i < length xs → x ≡ get_or xs i x → reverse (take (i + 1) xs) ≡ x ∷ reverse (take i xs)
taken_more xs i x low at =
    ap (λ k. reverse (take k xs)) (more i) ∙ ap reverse (take-suc xs i x low) ∙ reverse-append (take i xs) (get_or xs i x ∷ []) ∙ ap (λ y. y ∷ reverse (take i xs)) (sym at)

parts_at : (xs : List PrintedLine) (i : ℕ) (x : PrintedLine) → i < length xs → x ≡ get_or xs i x → reverse xs ≡ reverse (drop (i + 1) xs) ++ x ∷ reverse (take i xs)
parts_at xs i x low at =
    ap reverse (sym (take-append-drop (i + 1) xs)) ∙ reverse-append (take (i + 1) xs) (drop (i + 1) xs) ∙ ap (λ l. reverse (drop (i + 1) xs) ++ l) (taken_more xs i x low at)

number_at : (xs : List PrintedLine) (i n : ℕ) → i < length xs → n ≡ i → n + 1 ≡ length (reverse (take i xs)) + 1
number_at xs i n low same = let long : length (reverse (take i xs)) ≡ i = length-reverse (take i xs) ∙ length-take-le i xs (omega (arith, low)) in ap (λ k. k + 1) (same ∙ sym long)

pub fails_at : (s : Setting) (xs : List PrintedLine) (i n : ℕ) (x : PrintedLine) (l : Ledger) (clause : Clause) → i < length xs → x ≡ get_or xs i x → n ≡ i
    → AreKept s (reverse (take i xs)) l → FailsAt s (reverse (take i xs)) x clause → FailsFirst s (reverse xs) (n + 1) clause
fails_at s xs i n x l clause low at same kept fails =
    fails_first s (reverse (drop (i + 1) xs)) (reverse (take i xs)) (reverse xs) x l (n + 1) clause (parts_at xs i x low at) (number_at xs i n low same) kept fails
