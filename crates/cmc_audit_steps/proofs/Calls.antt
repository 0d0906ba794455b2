-- A call that a line shows: what fails first at it.
use Rattle.std.proofs.Common.{◌≡◌, ℕ, ℤ, ◌+◌, ◌<◌, List, ◌∷◌, Bool, true, false, MatchBool, Option, Some, None, refl, sym, ap, subst, ◌∙◌, inl, inr, arith}
use Rattle.std.specs.Prelude.{◌↔◌, if◌then◌else◌, is_some}
use Rattle.cmc_meta.specs.declared.key.Key.{Key}
use Rattle.cmc_meta.specs.declared.key.Kind.{Kind}
use Rattle.cmc_objects.specs.declared.object.Object.{Object}
use Rattle.cmc_objects.specs.declared.object.Object.TheVariants.{Secret}
use Rattle.cmc_objects.specs.declared.secret.Secret.{Secret as SecretObject}
use Rattle.cmc_objects.specs.declared.role.Role.{Role}
use Rattle.cmc_objects.specs.declared.call.Call.{Call}
use Rattle.cmc_objects.specs.declared.call.Call.TheVariants.{Create, Update, UpdateStatus, Delete, Get}
use Rattle.cmc_objects.specs.declared.call.Reply.{Reply}
use Rattle.cmc_objects.specs.declared.entry.Who.{Who}
use Rattle.cmc_objects.specs.declared.entry.Who.TheVariants.{User, Pass}
use Rattle.cmc_objects.specs.declared.entry.Entry.{Entry}
use Rattle.cmc_objects.specs.declared.entry.Entry.TheVariants.{Call as Called}
use Rattle.cmc_model.specs.declared.write.Write.{Write}
use Rattle.cmc_model.specs.Objects.{Objects, object_at}
use Rattle.cmc_model.specs.Replies.{State, IsReply, is_accepted, key_of_call, key_written, object_written, settled, stored}
use Rattle.cmc_model.specs.Histories.{Setting, accepted, moment, objects, state}
use Rattle.cmc_model.specs.Verdicts.{IsAnswered}
use Rattle.cmc_model.specs.Writes.{contents, writes}
use Rattle.cmc_model.proofs.Writes.{writes_leave}
use Rattle.cmc_rules.specs.declared.progress.OpenPass.{OpenPass}
use Rattle.cmc_rules.specs.Legality.{IsCaller, IsOpen}
use Rattle.cmc_rules.specs.Passes.{open_pass}
use Rattle.cmc_rules.specs.Rights.{IsRightful, MayChange}
use Rattle.cmc_rules.specs.Safety.{RaisesWell}
use Rattle.cmc_lines.specs.declared.line.PrintedReply.{PrintedReply}
use Rattle.cmc_lines.specs.Shown.{shown_reply}
use Rattle.cmc_audit_state.specs.declared.row.Row.{Row}
use Rattle.cmc_audit_state.specs.Heard.{approved, last_judged, has_found, saved}
use Rattle.cmc_audit_state.specs.Journaled.{is_denied_uid}
use Rattle.cmc_audit_state.specs.OpenRows.{Opened, open_row_at}
use Rattle.cmc_audit_ledger.specs.declared.ledger.Ledger.{Ledger}
use Rattle.cmc_audit_ledger.specs.CallRows.{IsServedBy}
use Rattle.cmc_audit_ledger.specs.Ledgers.{IsLedgerOf, IsRowOf}
use Rattle.cmc_audit_clauses.specs.declared.clause.Clause.{Clause}
use Rattle.cmc_audit_clauses.specs.declared.clause.Clause.TheVariants as clauses
use Rattle.cmc_audit_clauses.specs.Clauses.{Holds, IsApproval, IsIssue, rank}
use Rattle.cmc_audit_writes.specs.Kept.{IsKeptApproval, IsKeptWrite, KeepsOrRaises, OnBoth, SameRevision, is_status_update}
use Rattle.cmc_audit_steps.proofs.GoodIssues.{DeniesNoMore, KeptRow}
use Rattle.cmc_audit_steps.proofs.GoodWrites.{pass_approves, pass_issues, pass_raises, user_leaves}
use Rattle.cmc_audit_calls.specs.CallsOfLines.{bare_call}
use Rattle.cmc_audit_calls.proofs.Bare.{call_key_same, replied, replied_back, settled_same, stored_same}
use Rattle.cmc_audit_calls.proofs.OneReply.{one_reply}
use Rattle.cmc_audit_steps.specs.Failures.{CallFails, PassFails, RowFails, UserFails, WriteFails}
use Rattle.cmc_audit_steps.specs.Meant.{IsStoresReply}
use Rattle.cmc_audit_steps.specs.Steps.{Calls, CallsOn, FindsClause}
use Rattle.cmc_audit_steps.proofs.SameCall.{follows_bare, reply_same}

-- ---- the reply

-- what the store answers to what is shown of the call is what it answers to the call
right_of : (s : Setting) (h : List Entry) (l : Ledger) (c : Call) (r : Reply) → IsLedgerOf s h l → IsReply l.store.faults l.store.state c r → IsReply s.faults (state s h) c r
right_of s h l c r is right = subst (λ (st : State). IsReply s.faults st c r) is.state (subst (λ (f : List ℕ). IsReply f l.store.state c r) is.faults right)

right_call : (s : Setting) (h : List Entry) (q c : Call) (r : Reply) → bare_call q ≡ c → IsReply s.faults (state s h) c r → IsReply s.faults (state s h) q r
right_call s h q c r bare right = replied_back s.faults (state s h) q r (subst (λ (x : Call). IsReply s.faults (state s h) x r) (sym bare) right)

shown_by : (q c : Call) (r : Reply) → bare_call q ≡ c → shown_reply q r ≡ shown_reply c r
shown_by q c r bare = sym (reply_same q r) ∙ ap (λ (x : Call). shown_reply x r) bare

-- a reply that shows as the right one is it
is_right : (s : Setting) (h : List Entry) (q c : Call) (r right : Reply) (printed : PrintedReply) → bare_call q ≡ c → IsReply s.faults (state s h) c right → shown_reply c right ≡ printed
    → IsStoresReply s h q r → shown_reply q r ≡ printed → r ≡ right
is_right s h q c r right printed bare answers shows stores same = stores right (right_call s h q c right bare answers) (shown_by q c right bare ∙ shows ∙ sym same)

-- and where the right one shows as something else, it is not right
pub is_wrong : (s : Setting) (h : List Entry) (q c : Call) (r right : Reply) (printed : PrintedReply) → bare_call q ≡ c → IsReply s.faults (state s h) c right → (shown_reply c right ≡ printed → ⊥)
    → shown_reply q r ≡ printed → IsReply s.faults (state s h) q r → ⊥
is_wrong s h q c r right printed bare answers other same is =
    let of_c : IsReply s.faults (state s h) c r = subst (λ (x : Call). IsReply s.faults (state s h) x r) bare (replied s.faults (state s h) q r is) in
    other (ap (shown_reply c) (sym (one_reply s.faults (state s h) c r right of_c answers)) ∙ sym (shown_by q c r bare) ∙ same)

-- ---- what comes before

before_reply : (s : Setting) (h : List Entry) (who : Who) (q : Call) (r : Reply) → IsCaller s h who → (other : Clause) → rank other < 1 → Holds other s h (Called who q r)
before_reply s h who q r caller clauses.Place low = caller
before_reply s h who q r caller clauses.Reply low = absurd (omega (arith, low))
before_reply s h who q r caller clauses.Issue low = absurd (omega (arith, low))
before_reply s h who q r caller clauses.Ask low = absurd (omega (arith, low))
before_reply s h who q r caller clauses.Raise low = absurd (omega (arith, low))
before_reply s h who q r caller clauses.Rights low = absurd (omega (arith, low))
before_reply s h who q r caller clauses.Approval low = absurd (omega (arith, low))
before_reply s h who q r caller clauses.Counts low = absurd (omega (arith, low))

-- ---- a call that wrote nothing

if_false : (b : Bool) (A : Type 0) → b ≡ false → MatchBool b A (Unit {0})
if_false true A off = absurd (cc off)
if_false false A off = tt

off_on : (b : Bool) → b ≡ false → b ≡ true → ⊥
off_on b off on = cc (off, on)

nothing : (s : Setting) (h : List Entry) (who : Who) (q : Call) (r : Reply) → IsCaller s h who → IsReply s.faults (state s h) q r → is_accepted r ≡ false → FindsClause s h (Called who q r) None
nothing s h who q r caller right off clauses.Place = caller
nothing s h who q r caller right off clauses.Reply = right
nothing s h who q r caller right off clauses.Issue = λ on. absurd (off_on (is_accepted r) off on)
nothing s h who q r caller right off clauses.Ask = tt
nothing s h who q r caller right off clauses.Raise = λ on. absurd (off_on (is_accepted r) off on)
nothing s h User q r caller right off clauses.Rights = tt
nothing s h (Pass n) q r caller right off clauses.Rights = if_false (is_accepted r) (IsRightful s h (settled q r) (open_pass s h n)) off
nothing s h who q r caller right off clauses.Approval = λ on. absurd (off_on (is_accepted r) off on)
nothing s h who q r caller right off clauses.Counts = tt

-- ---- a user's write

abbrev before_of : Setting → List Entry → Call → Option Object
before_of s h d = object_at (objects s h) (key_of_call d)

abbrev after_of : Setting → List Entry → Call → Option Object
after_of s h d = stored (accepted s h + 1) (moment s h) (objects s h) d

user_holds : (s : Setting) (h : List Entry) (q : Call) (r : Reply) → IsReply s.faults (state s h) q r
    → OnBoth SameRevision (before_of s h (settled q r)) (after_of s h (settled q r)) → FindsClause s h (Called User q r) None
user_holds s h q r right same clauses.Place = tt
user_holds s h q r right same clauses.Reply = right
user_holds s h q r right same clauses.Issue = λ on. tt
user_holds s h q r right same clauses.Ask = tt
user_holds s h q r right same clauses.Raise = λ on. (user_leaves (before_of s h (settled q r)) (after_of s h (settled q r))).0 same
user_holds s h q r right same clauses.Rights = tt
user_holds s h q r right same clauses.Approval = λ on. tt
user_holds s h q r right same clauses.Counts = tt

user_before : (s : Setting) (h : List Entry) (q : Call) (r : Reply) → IsReply s.faults (state s h) q r → (other : Clause) → rank other < 4 → Holds other s h (Called User q r)
user_before s h q r right clauses.Place low = tt
user_before s h q r right clauses.Reply low = right
user_before s h q r right clauses.Issue low = λ on. tt
user_before s h q r right clauses.Ask low = tt
user_before s h q r right clauses.Raise low = absurd (omega (arith, low))
user_before s h q r right clauses.Rights low = tt
user_before s h q r right clauses.Approval low = λ on. tt
user_before s h q r right clauses.Counts low = tt

user_judged : (s : Setting) (h : List Entry) (q : Call) (r : Reply) (failed : Option Clause) → IsReply s.faults (state s h) q r → is_accepted r ≡ true
    → UserFails (before_of s h (settled q r)) (after_of s h (settled q r)) failed → FindsClause s h (Called User q r) failed
user_judged s h q r None right on is = user_holds s h q r right is
user_judged s h q r (Some clauses.Raise) right on is = (user_before s h q r right, λ holds. is ((user_leaves (before_of s h (settled q r)) (after_of s h (settled q r))).1 (holds on)))
user_judged s h q r (Some clauses.Place) right on is = absurd is
user_judged s h q r (Some clauses.Reply) right on is = absurd is
user_judged s h q r (Some clauses.Issue) right on is = absurd is
user_judged s h q r (Some clauses.Ask) right on is = absurd is
user_judged s h q r (Some clauses.Rights) right on is = absurd is
user_judged s h q r (Some clauses.Approval) right on is = absurd is
user_judged s h q r (Some clauses.Counts) right on is = absurd is

-- ---- a write of a pass

-- the clauses of an entry that are looked at, by these tests
record Tested (s : Setting) (h : List Entry) (e : Entry) (I R M A : Type 0) : Type 0 where
  place : Holds clauses.Place s h e
  reply : Holds clauses.Reply s h e
  ask : Holds clauses.Ask s h e
  issue : I ↔ Holds clauses.Issue s h e
  raise : R ↔ Holds clauses.Raise s h e
  rights : M ↔ Holds clauses.Rights s h e
  approval : A ↔ Holds clauses.Approval s h e

all_hold : (s : Setting) (h : List Entry) (e : Entry) (I R M A : Type 0) → Tested s h e I R M A → I → R → M → A → FindsClause s h e None
all_hold s h e I R M A t i r m a clauses.Place = t.place
all_hold s h e I R M A t i r m a clauses.Reply = t.reply
all_hold s h e I R M A t i r m a clauses.Issue = t.issue.0 i
all_hold s h e I R M A t i r m a clauses.Ask = t.ask
all_hold s h e I R M A t i r m a clauses.Raise = t.raise.0 r
all_hold s h e I R M A t i r m a clauses.Rights = t.rights.0 m
all_hold s h e I R M A t i r m a clauses.Approval = t.approval.0 a
all_hold s h e I R M A t i r m a clauses.Counts = tt

before_issue : (s : Setting) (h : List Entry) (e : Entry) (I R M A : Type 0) → Tested s h e I R M A → (other : Clause) → rank other < 2 → Holds other s h e
before_issue s h e I R M A t clauses.Place low = t.place
before_issue s h e I R M A t clauses.Reply low = t.reply
before_issue s h e I R M A t clauses.Issue low = absurd (omega (arith, low))
before_issue s h e I R M A t clauses.Ask low = absurd (omega (arith, low))
before_issue s h e I R M A t clauses.Raise low = absurd (omega (arith, low))
before_issue s h e I R M A t clauses.Rights low = absurd (omega (arith, low))
before_issue s h e I R M A t clauses.Approval low = absurd (omega (arith, low))
before_issue s h e I R M A t clauses.Counts low = tt

before_raise : (s : Setting) (h : List Entry) (e : Entry) (I R M A : Type 0) → Tested s h e I R M A → I → (other : Clause) → rank other < 4 → Holds other s h e
before_raise s h e I R M A t i clauses.Place low = t.place
before_raise s h e I R M A t i clauses.Reply low = t.reply
before_raise s h e I R M A t i clauses.Issue low = t.issue.0 i
before_raise s h e I R M A t i clauses.Ask low = t.ask
before_raise s h e I R M A t i clauses.Raise low = absurd (omega (arith, low))
before_raise s h e I R M A t i clauses.Rights low = absurd (omega (arith, low))
before_raise s h e I R M A t i clauses.Approval low = absurd (omega (arith, low))
before_raise s h e I R M A t i clauses.Counts low = tt

before_rights : (s : Setting) (h : List Entry) (e : Entry) (I R M A : Type 0) → Tested s h e I R M A → I → R → (other : Clause) → rank other < 5 → Holds other s h e
before_rights s h e I R M A t i r clauses.Place low = t.place
before_rights s h e I R M A t i r clauses.Reply low = t.reply
before_rights s h e I R M A t i r clauses.Issue low = t.issue.0 i
before_rights s h e I R M A t i r clauses.Ask low = t.ask
before_rights s h e I R M A t i r clauses.Raise low = t.raise.0 r
before_rights s h e I R M A t i r clauses.Rights low = absurd (omega (arith, low))
before_rights s h e I R M A t i r clauses.Approval low = absurd (omega (arith, low))
before_rights s h e I R M A t i r clauses.Counts low = tt

before_approval : (s : Setting) (h : List Entry) (e : Entry) (I R M A : Type 0) → Tested s h e I R M A → I → R → M → (other : Clause) → rank other < 6 → Holds other s h e
before_approval s h e I R M A t i r m clauses.Place low = t.place
before_approval s h e I R M A t i r m clauses.Reply low = t.reply
before_approval s h e I R M A t i r m clauses.Issue low = t.issue.0 i
before_approval s h e I R M A t i r m clauses.Ask low = t.ask
before_approval s h e I R M A t i r m clauses.Raise low = t.raise.0 r
before_approval s h e I R M A t i r m clauses.Rights low = t.rights.0 m
before_approval s h e I R M A t i r m clauses.Approval low = absurd (omega (arith, low))
before_approval s h e I R M A t i r m clauses.Counts low = tt

-- the tests of a row
abbrev Rows : Setting → List Entry → Entry → List Write → Row → Call → Kind → Option Object → Option Object → Type 0
Rows s h e ws row c kind before after =
    Tested s h e (IsKeptWrite ws row kind after) (OnBoth (KeepsOrRaises row c) before after) (MayChange row.role before after) (OnBoth (IsKeptApproval row) before after)

row_judged : (s : Setting) (h : List Entry) (e : Entry) (ws : List Write) (row : Row) (c : Call) (kind : Kind) (before after : Option Object) (failed : Option Clause)
    → Rows s h e ws row c kind before after → RowFails ws row c kind before after failed → FindsClause s h e failed
row_judged s h e ws row c kind before after None t is = all_hold s h e _ _ _ _ t is.issue is.raise is.rights is.approval
row_judged s h e ws row c kind before after (Some clauses.Issue) t is = (before_issue s h e _ _ _ _ t, λ holds. is (t.issue.1 holds))
row_judged s h e ws row c kind before after (Some clauses.Raise) t is = (before_raise s h e _ _ _ _ t is.0, λ holds. is.1 (t.raise.1 holds))
row_judged s h e ws row c kind before after (Some clauses.Rights) t is = (before_rights s h e _ _ _ _ t is.0 is.1.0, λ holds. is.1.1 (t.rights.1 holds))
row_judged s h e ws row c kind before after (Some clauses.Approval) t is = (before_approval s h e _ _ _ _ t is.0 is.1.0 is.1.1.0, λ holds. is.1.1.1 (t.approval.1 holds))
row_judged s h e ws row c kind before after (Some clauses.Place) t is = absurd is
row_judged s h e ws row c kind before after (Some clauses.Reply) t is = absurd is
row_judged s h e ws row c kind before after (Some clauses.Ask) t is = absurd is
row_judged s h e ws row c kind before after (Some clauses.Counts) t is = absurd is

-- ---- the tests are the rules

-- a write of a Secret denies nothing
denies_not : (b : Bool) (w : Write) (ws : List Write) (k : SecretObject) (uid : ℕ) → w.object ≡ Some (Secret k) → is_denied_uid uid (if b then w ∷ ws else ws) ≡ is_denied_uid uid ws
denies_not true w ws k uid is = ap (λ (o : Option Object). is_denied_uid uid (record { key = w.key; object = o } ∷ ws)) is
denies_not false w ws k uid is = refl

status_kept : (c d : Call) (row : Row) (old new : Object) → is_status_update c ≡ is_status_update d → KeepsOrRaises row c old new → KeepsOrRaises row d old new
status_kept c d row old new same (inl stays) = inl stays
status_kept c d row old new same (inr raise) = inr (record { issuing = raise.issuing; status = sym same ∙ raise.status; by_one = raise.by_one; saved = raise.saved })

both_kept : (c d : Call) (row : Row) (before after : Option Object) → is_status_update c ≡ is_status_update d → OnBoth (KeepsOrRaises row c) before after → OnBoth (KeepsOrRaises row d) before after
both_kept c d row None after same is = tt
both_kept c d row (Some old) None same is = tt
both_kept c d row (Some old) (Some new) same is = status_kept c d row old new same is

status_settled : (q : Call) (r : Reply) → is_status_update (settled q r) ≡ is_status_update (bare_call q)
unfolding settled
status_settled (Create o g) r = refl
status_settled (Update o v) r = refl
status_settled (UpdateStatus o v) r = refl
status_settled (Delete k v) r = refl
status_settled (Get k) r = refl

on_true : (b : Bool) (A : Type 0) → b ≡ true → MatchBool b A (Unit {0}) → A
on_true true A on is = is
on_true false A on is = absurd (cc on)

true_on : (b : Bool) (A : Type 0) → A → MatchBool b A (Unit {0})
true_on true A is = is
true_on false A is = tt

same_pass : (x : Option OpenPass) (p o : OpenPass) → x ≡ Some p → x ≡ Some o → p ≡ o
same_pass x p o is also = cc (is, also)

rows_tested : (s : Setting) (h : List Entry) (n : ℕ) (q : Call) (r : Reply) (row : Row) (p : OpenPass) → IsAnswered s h → IsReply s.faults (state s h) q r → is_accepted r ≡ true
    → IsCaller s h (Pass n) → open_pass s h n ≡ Some p → KeptRow s h n row p
    → Rows s h (Called (Pass n) q r) (writes s h) row (bare_call q) (key_of_call (settled q r)).kind (before_of s h (settled q r)) (after_of s h (settled q r))
rows_tested s h n q r row p answers right on caller at is =
    let d : Call = settled q r in
    let e : Entry = Called (Pass n) q r in
    let before = before_of s h d in
    let after = after_of s h d in
    let denied : (k : SecretObject) → after ≡ Some (Secret k) → DeniesNoMore s (e ∷ h) h = λ k stands uid. denies_not (is_accepted r) _ (writes s h) k uid stands in
    let issues = pass_issues s (e ∷ h) h n row p d before after answers denied is in
    let raises = pass_raises s h n row p d before after is in
    let approves = pass_approves s h n row p d before after is in
    record {
      place = caller;
      reply = right;
      ask = tt;
      issue = (λ kept yes o opened. subst (λ (x : OpenPass). IsIssue s (e ∷ h) h n x d before after) (same_pass (open_pass s h n) p o at opened) (issues.0 kept), λ holds. issues.1 (holds on p at));
      raise = (
        λ kept yes o opened. subst (λ (x : OpenPass). RaisesWell h n x.role d before after) (same_pass (open_pass s h n) p o at opened) (raises.0 (both_kept (bare_call q) d row before after (sym (status_settled q r)) kept)),
        λ holds. both_kept d (bare_call q) row before after (status_settled q r) (raises.1 (holds on p at)),
      );
      rights = (
        λ may. true_on (is_accepted r) (IsRightful s h d (open_pass s h n)) (subst (λ (x : Option OpenPass). IsRightful s h d x) (sym at) (subst (λ (x : Role). MayChange x before after) is.role may)),
        λ holds. subst (λ (x : Role). MayChange x before after) (sym is.role) (subst (λ (x : Option OpenPass). IsRightful s h d x) at (on_true (is_accepted r) (IsRightful s h d (open_pass s h n)) on holds)),
      );
      approval = (λ kept yes o opened. subst (λ (x : OpenPass). IsApproval h n x d before after) (same_pass (open_pass s h n) p o at opened) (approves.0 kept), λ holds. approves.1 (holds on p at));
    }

pass_judged : (s : Setting) (h : List Entry) (n : ℕ) (q : Call) (r : Reply) (x : Option Row) (o : Option OpenPass) (failed : Option Clause) → IsAnswered s h → IsReply s.faults (state s h) q r → is_accepted r ≡ true
    → IsCaller s h (Pass n) → open_pass s h n ≡ o → IsRowOf (writes s h) (λ v. has_found n v h) (saved n h) (last_judged n h) (λ v. approved n v h) x o
    → PassFails (writes s h) x (bare_call q) (key_of_call (settled q r)).kind (before_of s h (settled q r)) (after_of s h (settled q r)) failed → FindsClause s h (Called (Pass n) q r) failed
pass_judged s h n q r x None failed answers right on caller at is fails = absurd (subst (λ (y : Option OpenPass). IsOpen y) at caller)
pass_judged s h n q r None (Some p) failed answers right on caller at is fails = absurd is
pass_judged s h n q r (Some row) (Some p) failed answers right on caller at is fails =
    row_judged s h (Called (Pass n) q r) (writes s h) row (bare_call q) (key_of_call (settled q r)).kind (before_of s h (settled q r)) (after_of s h (settled q r)) failed
    (rows_tested s h n q r row p answers right on caller at is) fails

-- ---- all calls

-- what stood under the key, by the writes
stood : (s : Setting) (h : List Entry) (key : Key) → object_at (contents (writes s h)) key ≡ object_at (objects s h) key
stood s h key = ap (λ (m : Objects). object_at m key) (writes_leave s h)

write_judged : (s : Setting) (h : List Entry) (l : Ledger) (who : Who) (q : Call) (r : Reply) (failed : Option Clause) → IsLedgerOf s h l → IsAnswered s h → IsReply s.faults (state s h) q r → is_accepted r ≡ true → IsCaller s h who
    → WriteFails (writes s h) l.passes who (bare_call q) (key_of_call (settled q r)) (after_of s h (settled q r)) failed → FindsClause s h (Called who q r) failed
write_judged s h l User q r failed is answers right on caller fails =
    user_judged s h q r failed right on (subst (λ (b : Option Object). UserFails b (after_of s h (settled q r)) failed) (stood s h (key_of_call (settled q r))) fails)
write_judged s h l (Pass n) q r failed is answers right on caller fails =
    pass_judged s h n q r (open_row_at l.passes n) (open_pass s h n) failed answers right on caller refl (is.rows n)
    (subst (λ (b : Option Object). PassFails (writes s h) (open_row_at l.passes n) (bare_call q) (key_of_call (settled q r)).kind b (after_of s h (settled q r)) failed) (stood s h (key_of_call (settled q r))) fails)

-- what is written of the call as it is shown is what is written of the call
key_same : (q : Call) (r : Reply) → key_of_call (settled (bare_call q) r) ≡ key_of_call (settled q r)
key_same q r = ap key_of_call (settled_same q r) ∙ call_key_same (settled q r)

after_same : (v : ℕ) (now : ℤ) (m : Objects) (q : Call) (r : Reply) → stored v now m (settled (bare_call q) r) ≡ stored v now m (settled q r)
after_same v now m q r = ap (stored v now m) (settled_same q r) ∙ stored_same v now m (settled q r)

written_judged : (s : Setting) (h : List Entry) (l : Ledger) (who : Who) (q : Call) (r : Reply) (failed : Option Clause) (b : Bool) → IsLedgerOf s h l → IsAnswered s h → IsReply s.faults (state s h) q r → is_accepted r ≡ b → IsCaller s h who
    → CallFails (writes s h) l.passes who (bare_call q) (if b then Some (key_of_call (settled q r)) else None) (if b then after_of s h (settled q r) else None) failed → FindsClause s h (Called who q r) failed
written_judged s h l who q r failed true is answers right on caller fails = write_judged s h l who q r failed is answers right on caller fails
written_judged s h l who q r failed false is answers right off caller fails = subst (FindsClause s h (Called who q r)) (sym fails) (nothing s h who q r caller right off)

abbrev CallFailsOf : List Write → Opened → Who → Call → Reply → ℤ → State → Option Clause → Type 0
CallFailsOf ws passes who c r now st failed = CallFails ws passes who c (key_written c r) (object_written now st c r) failed

by_history : (s : Setting) (h : List Entry) (l : Ledger) (who : Who) (q : Call) (r : Reply) (failed : Option Clause) → IsLedgerOf s h l
    → CallFailsOf l.journal l.passes who (bare_call q) r l.moment l.store.state failed
    → CallFails (writes s h) l.passes who (bare_call q) (if is_accepted r then Some (key_of_call (settled q r)) else None) (if is_accepted r then after_of s h (settled q r) else None) failed
by_history s h l who q r failed is fails =
    let one = subst (λ (ws : List Write). CallFailsOf ws l.passes who (bare_call q) r l.moment l.store.state failed) is.writes fails in
    let two = subst (λ (now : ℤ). CallFailsOf (writes s h) l.passes who (bare_call q) r now l.store.state failed) is.moment one in
    let three = subst (λ (st : State). CallFailsOf (writes s h) l.passes who (bare_call q) r (moment s h) st failed) is.state two in
    let four = subst (λ (k : Key). CallFails (writes s h) l.passes who (bare_call q) (if is_accepted r then Some k else None) (object_written (moment s h) (state s h) (bare_call q) r) failed) (key_same q r) three in
    subst (λ (o : Option Object). CallFails (writes s h) l.passes who (bare_call q) (if is_accepted r then Some (key_of_call (settled q r)) else None) (if is_accepted r then o else None) failed)
    (after_same (accepted s h + 1) (moment s h) (objects s h) q r) four

pub judged : (s : Setting) (h : List Entry) (l : Ledger) (who : Who) (q c : Call) (r right : Reply) (printed : PrintedReply) (failed : Option Clause) → IsLedgerOf s h l → IsAnswered s h → IsCaller s h who
    → bare_call q ≡ c → IsReply l.store.faults l.store.state c right → shown_reply c right ≡ printed → IsStoresReply s h q r → shown_reply q r ≡ printed
    → CallFailsOf l.journal l.passes who c right l.moment l.store.state failed → FindsClause s h (Called who q r) failed
judged s h l who q c r right printed failed is answers caller bare answer shows stores same fails =
    let of_c = right_of s h l c right is answer in
    let one : right ≡ r = sym (is_right s h q c r right printed bare of_c shows stores same) in
    let of_q = right_call s h q c right bare of_c in
    subst (λ (x : Reply). FindsClause s h (Called who q x) failed) one
    (written_judged s h l who q right failed (is_accepted right) is answers of_q refl caller
    (by_history s h l who q right failed is (subst (λ (x : Call). CallFailsOf l.journal l.passes who x right l.moment l.store.state failed) (sym bare) fails)))

-- ---- where the store has answered

-- by what is kept once the store has answered
served_fails : (old now : Ledger) (who : Who) (c : Call) (r : Reply) (key : Option Key) (object : Option Object) (failed : Option Clause) → IsServedBy old now c r key object
    → CallFails now.journal now.passes who c key object failed → CallFailsOf old.journal old.passes who c r old.moment old.store.state failed
served_fails old now who c r key object failed served fails =
    let one = subst (λ (ws : List Write). CallFails ws now.passes who c key object failed) (ap (λ (l : Ledger). l.journal) served.rest) fails in
    let two = subst (λ (ps : Opened). CallFails old.journal ps who c key object failed) (ap (λ (l : Ledger). l.passes) served.rest) one in
    let three = subst (λ (k : Option Key). CallFails old.journal old.passes who c k object failed) served.key_is two in
    subst (λ (o : Option Object). CallFails old.journal old.passes who c (key_written c r) o failed) served.object_is three

abbrev Permits : Ledger → Who → Type 0
Permits l who = (s : Setting) (h : List Entry) → IsLedgerOf s h l → IsCaller s h who

pub misreplied : (old new : Ledger) (who : Who) (c : Call) (right : Reply) (printed : PrintedReply) → Permits old who → IsReply old.store.faults old.store.state c right → (shown_reply c right ≡ printed → ⊥)
    → Calls old c who printed new (Some clauses.Reply)
misreplied old new who c right printed permits answer other s h q r is answers bare stores same =
    (before_reply s h who q r (permits s h is), is_wrong s h q c r right printed bare (right_of s h old c right is answer) other same)

pub called_ill : (old now new : Ledger) (who : Who) (c : Call) (right : Reply) (printed : PrintedReply) (key : Option Key) (object : Option Object) (clause : Clause) → Permits old who
    → IsReply old.store.faults old.store.state c right → shown_reply c right ≡ printed → IsServedBy old now c right key object → CallFails now.journal now.passes who c key object (Some clause)
    → Calls old c who printed new (Some clause)
called_ill old now new who c right printed key object clause permits answer shows served fails s h q r is answers bare stores same =
    judged s h old who q c r right printed (Some clause) is answers (permits s h is) bare answer shows stores same (served_fails old now who c right key object (Some clause) served fails)

pub called_on : (old now new : Ledger) (who : Who) (c : Call) (right : Reply) (printed : PrintedReply) (key : Option Key) (object : Option Object) → Permits old who
    → IsReply old.store.faults old.store.state c right → shown_reply c right ≡ printed → IsServedBy old now c right key object → CallFails now.journal now.passes who c key object None
    → ((s : Setting) (h : List Entry) → IsLedgerOf s h old → IsLedgerOf s (Called who c right ∷ h) new) → CallsOn old c who printed new
called_on old now new who c right printed key object permits answer shows served fails follows = record {
  some = λ s h is. (right, right_of s h old c right is answer, shows);
  on = λ s h q r is answers bare stores same.
      let one : right ≡ r = sym (is_right s h q c r right printed bare (right_of s h old c right is answer) shows stores same) in (
        subst (λ (x : Reply). IsLedgerOf s (Called who q x ∷ h) new) one (follows_bare s h who q c right new bare (follows s h is)),
        judged s h old who q c r right printed None is answers (permits s h is) bare answer shows stores same (served_fails old now who c right key object None served fails),
      );
}

-- ---- by tests of what failed

pub called_some : (old now new : Ledger) (who : Who) (c : Call) (right : Reply) (printed : PrintedReply) (key : Option Key) (object : Option Object) (failed : Option Clause) → is_some failed ≡ true → Permits old who
    → IsReply old.store.faults old.store.state c right → shown_reply c right ≡ printed → IsServedBy old now c right key object → CallFails now.journal now.passes who c key object failed
    → Calls old c who printed new failed
called_some old now new who c right printed key object None some permits answer shows served fails = absurd (cc some)
called_some old now new who c right printed key object (Some clause) some permits answer shows served fails = called_ill old now new who c right printed key object clause permits answer shows served fails

pub none_of : (failed : Option Clause) → is_some failed ≡ false → failed ≡ None
none_of None off = refl
none_of (Some clause) off = absurd (cc off)
