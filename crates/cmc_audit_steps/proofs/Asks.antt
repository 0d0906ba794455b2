-- A question that a line shows.
use Rattle.std.proofs.Common.{◌≡◌, ℕ, ◌<◌, List, ◌∷◌, Option, Some, None, refl, sym, ap, subst, ◌∙◌, arith}
use Rattle.std.specs.Prelude.{◌↔◌}
use Rattle.cmc_objects.specs.declared.orders.Order.{Order}
use Rattle.cmc_objects.specs.declared.orders.Order.TheVariants as orders
use Rattle.cmc_objects.specs.declared.entry.Entry.{Entry}
use Rattle.cmc_objects.specs.declared.entry.Entry.TheVariants.{Ask}
use Rattle.cmc_model.specs.declared.write.Write.{Write}
use Rattle.cmc_model.specs.Histories.{Setting}
use Rattle.cmc_model.specs.Verdicts.{IsAnswered}
use Rattle.cmc_model.specs.Writes.{writes}
use Rattle.cmc_rules.specs.declared.progress.OpenPass.{OpenPass}
use Rattle.cmc_rules.specs.Legality.{IsOpen}
use Rattle.cmc_rules.specs.Passes.{open_pass}
use Rattle.cmc_rules.specs.Safety.{AsksWell}
use Rattle.cmc_lines.specs.declared.line.PrintedLine.{PrintedLine}
use Rattle.cmc_lines.specs.declared.line.PrintedLine.TheVariants as lines
use Rattle.cmc_lines.specs.declared.line.PrintedOrder.{PrintedOrder}
use Rattle.cmc_lines.specs.Shown.{line_of_entry, shown_order}
use Rattle.cmc_audit_state.specs.declared.row.Row.{Row}
use Rattle.cmc_audit_state.specs.declared.row.Version.{Version}
use Rattle.cmc_audit_state.specs.Heard.{approved, last_judged, has_found, judged_version, saved}
use Rattle.cmc_audit_state.specs.OpenRows.{open_row_at}
use Rattle.cmc_audit_ledger.specs.declared.ledger.Ledger.{Ledger}
use Rattle.cmc_audit_ledger.specs.Ledgers.{IsLedgerOf, IsRowOf}
use Rattle.cmc_audit_clauses.specs.declared.clause.Clause.{Clause}
use Rattle.cmc_audit_clauses.specs.declared.clause.Clause.TheVariants as clauses
use Rattle.cmc_audit_clauses.specs.Clauses.{Holds, rank}
use Rattle.cmc_audit_steps.proofs.GoodWrites.{pass_asks}
use Rattle.cmc_audit_steps.specs.Failures.{IsOfRequest, MayOrder, asked_version}
use Rattle.cmc_audit_steps.specs.Meant.{IsNamedEntry, IsNamedOrder}
use Rattle.cmc_audit_steps.specs.Steps.{AreKept, FailsAt, IsCleanLedger, FindsClause}
use Rattle.cmc_audit_steps.proofs.Going.{answered, goes}
use Rattle.cmc_audit_steps.proofs.Naming.{named_order}

same_asked : (order : Order) → judged_version order ≡ asked_version (shown_order order)
same_asked (orders.Key o) = refl
same_asked (orders.Csr o) = refl
same_asked (orders.Sign o) = refl
same_asked (orders.Judge o) = refl

-- an entry that shows as a question is one
record IsAsk (e : Entry) (pass : ℕ) (printed : PrintedOrder) : Type 0 where
  order : Order
  is : e ≡ Ask pass order
  shows : shown_order order ≡ printed

is_ask : (pass : ℕ) (printed : PrintedOrder) (e : Entry) → line_of_entry e ≡ lines.Ask pass printed → IsAsk e pass printed
is_ask pass printed (Ask n order) is = let same : n ≡ pass = cc is in record { order = order; is = ap (λ m. Ask m order) same; shows = cc is }
is_ask pass printed other is = absurd (cc is)

-- by what is kept of the pass
row_case : (s : Setting) (h : List Entry) (pass : ℕ) (order : Order) (row : Option Row) (o : Option OpenPass)
    → IsRowOf (writes s h) (λ v. has_found pass v h) (saved pass h) (last_judged pass h) (λ v. approved pass v h) row o → IsOpen o → IsAnswered s h → IsNamedOrder s h order
    → MayOrder (writes s h) row (shown_order order) ↔ AsksWell s (Ask pass order ∷ h) o order
row_case s h pass order row None is live right named = absurd live
row_case s h pass order None (Some p) is live right named = absurd is
row_case s h pass (orders.Key order) (Some row) (Some p) is live right named = (λ may. tt, λ well. tt)
row_case s h pass (orders.Csr order) (Some row) (Some p) is live right named = (λ may. tt, λ well. tt)
row_case s h pass (orders.Judge order) (Some row) (Some p) is live right named = (λ may. tt, λ well. tt)
row_case s h pass (orders.Sign order) (Some row) (Some p) is live right named =
    pass_asks s (Ask pass (orders.Sign order) ∷ h) h pass row p order.request right (λ uid. refl) is named

ask_case : (s : Setting) (h : List Entry) (pass : ℕ) (order : Order) (l : Ledger) → IsLedgerOf s h l → IsOpen (open_pass s h pass) → IsAnswered s h → IsNamedOrder s h order
    → MayOrder l.journal (open_row_at l.passes pass) (shown_order order) ↔ AsksWell s (Ask pass order ∷ h) (open_pass s h pass) order
ask_case s h pass order l is live right named =
    subst (λ (ws : List Write). MayOrder ws (open_row_at l.passes pass) (shown_order order) ↔ AsksWell s (Ask pass order ∷ h) (open_pass s h pass) order) (sym is.writes)
    (row_case s h pass order (open_row_at l.passes pass) (open_pass s h pass) (is.rows pass) live right named)

ask_holds : (s : Setting) (h : List Entry) (pass : ℕ) (order : Order) → IsOpen (open_pass s h pass) → AsksWell s (Ask pass order ∷ h) (open_pass s h pass) order → FindsClause s h (Ask pass order) None
ask_holds s h pass order live well clauses.Place = live
ask_holds s h pass order live well clauses.Reply = tt
ask_holds s h pass order live well clauses.Issue = tt
ask_holds s h pass order live well clauses.Ask = well
ask_holds s h pass order live well clauses.Raise = tt
ask_holds s h pass order live well clauses.Rights = tt
ask_holds s h pass order live well clauses.Approval = tt
ask_holds s h pass order live well clauses.Counts = tt

before_ask : (s : Setting) (h : List Entry) (pass : ℕ) (order : Order) → IsOpen (open_pass s h pass) → (other : Clause) → rank other < 3 → Holds other s h (Ask pass order)
before_ask s h pass order live clauses.Place low = live
before_ask s h pass order live clauses.Reply low = tt
before_ask s h pass order live clauses.Issue low = tt
before_ask s h pass order live clauses.Ask low = absurd (omega (arith, low))
before_ask s h pass order live clauses.Raise low = tt
before_ask s h pass order live clauses.Rights low = tt
before_ask s h pass order live clauses.Approval low = tt
before_ask s h pass order live clauses.Counts low = tt

abbrev Opens : Ledger → ℕ → Type 0
Opens l pass = (s : Setting) (h : List Entry) → IsLedgerOf s h l → IsOpen (open_pass s h pass)

ill : (s : Setting) (h : List Entry) (l : Ledger) (pass : ℕ) (printed : PrintedOrder) (e : Entry) → IsCleanLedger s h l → IsAsk e pass printed → IsNamedEntry s h e → IsOpen (open_pass s h pass)
    → (MayOrder l.journal (open_row_at l.passes pass) printed → ⊥) → FindsClause s h e (Some clauses.Ask)
ill s h l pass printed e kept a named live off =
    subst (λ x. FindsClause s h x (Some clauses.Ask)) (sym a.is) (
      before_ask s h pass a.order live,
      λ well. off (subst (MayOrder l.journal (open_row_at l.passes pass)) a.shows ((ask_case s h pass a.order l kept.follows live (answered s h kept.clean) (subst (IsNamedEntry s h) a.is named)).1 well)),
    )

pub asks_ill : (old : Ledger) (pass : ℕ) (printed : PrintedOrder) → Opens old pass → (MayOrder old.journal (open_row_at old.passes pass) printed → ⊥)
    → (s : Setting) (before : List PrintedLine) → AreKept s before old → FailsAt s before (lines.Ask pass printed) clauses.Ask
asks_ill old pass printed opens off s before kept h e meant shows named =
    let is = kept.all h meant in
    ill s h old pass printed e is (is_ask pass printed e shows) named (opens s h is.follows) off

-- what is kept goes on with each question that shows so
abbrev GoesWith : Ledger → Ledger → ℕ → Option Version → Type 0
GoesWith old new pass version = (s : Setting) (h : List Entry) (order : Order) → judged_version order ≡ version → IsLedgerOf s h old → IsLedgerOf s (Ask pass order ∷ h) new

well : (s : Setting) (h : List Entry) (old new : Ledger) (pass : ℕ) (printed : PrintedOrder) (e : Entry) → IsCleanLedger s h old → IsAsk e pass printed → IsNamedEntry s h e → IsOpen (open_pass s h pass)
    → MayOrder old.journal (open_row_at old.passes pass) printed → GoesWith old new pass (asked_version printed) → IsLedgerOf s (e ∷ h) new × FindsClause s h e None
well s h old new pass printed e kept a named live may with =
    let asks = (ask_case s h pass a.order old kept.follows live (answered s h kept.clean) (subst (IsNamedEntry s h) a.is named)).0 (subst (MayOrder old.journal (open_row_at old.passes pass)) (sym a.shows) may) in
    subst (λ x. IsLedgerOf s (x ∷ h) new × FindsClause s h x None) (sym a.is)
    (with s h a.order (same_asked a.order ∙ ap asked_version a.shows) kept.follows, ask_holds s h pass a.order live asks)

pub asks_on : (old new : Ledger) (pass : ℕ) (printed : PrintedOrder) → IsOfRequest printed → Opens old pass → MayOrder old.journal (open_row_at old.passes pass) printed → GoesWith old new pass (asked_version printed)
    → (s : Setting) (before : List PrintedLine) → AreKept s before old → AreKept s (lines.Ask pass printed ∷ before) new
asks_on old new pass printed of opens may with s before kept =
    goes s before (lines.Ask pass printed) old new kept
    (λ h is. let o = named_order s h printed (answered s h is.clean) of in (Ask pass o.0, ap (lines.Ask pass) o.1, o.2))
    (λ h e is shows named. well s h old new pass printed e is (is_ask pass printed e shows) named (opens s h is.follows) may with)
