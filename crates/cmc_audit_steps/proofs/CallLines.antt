-- The call that a line shows.
use Rattle.std.proofs.Common.{◌≡◌, ℕ, List, ◌∷◌, Option, Some, None, sym, ap, subst}
use Rattle.cmc_objects.specs.declared.object.Object.{Object}
use Rattle.cmc_objects.specs.declared.call.Call.{Call}
use Rattle.cmc_objects.specs.declared.call.Reply.{Reply}
use Rattle.cmc_objects.specs.declared.entry.Who.{Who}
use Rattle.cmc_objects.specs.declared.entry.Entry.{Entry}
use Rattle.cmc_objects.specs.declared.entry.Entry.TheVariants.{Call as Called}
use Rattle.cmc_model.specs.Histories.{Setting, state}
use Rattle.cmc_report.specs.Trees.{call_key}
use Rattle.cmc_lines.specs.declared.line.CallName.{CallName}
use Rattle.cmc_lines.specs.declared.line.PrintedLine.{PrintedLine}
use Rattle.cmc_lines.specs.declared.line.PrintedLine.TheVariants as lines
use Rattle.cmc_lines.specs.declared.line.PrintedReply.{PrintedReply}
use Rattle.cmc_lines.specs.Shown.{line_of_entry, shown_given, shown_name, shown_reply}
use Rattle.cmc_audit_ledger.specs.declared.ledger.Ledger.{Ledger}
use Rattle.cmc_audit_ledger.specs.Ledgers.{IsLedgerOf}
use Rattle.cmc_audit_clauses.specs.declared.clause.Clause.{Clause}
use Rattle.cmc_audit_calls.specs.CallsOfLines.{HasCallNames, IsRead, Shows, bare_call}
use Rattle.cmc_audit_calls.proofs.OneReply.{one_reply}
use Rattle.cmc_audit_calls.proofs.ReadAgain.{read_again, read_so}
use Rattle.cmc_audit_steps.specs.Meant.{IsNamedEntry, IsStoresReply}
use Rattle.cmc_audit_steps.specs.Steps.{AreKept, Calls, CallsOn, FailsAt, FindsClause, Steps}
use Rattle.cmc_audit_steps.proofs.Going.{answered, goes}

-- what a line says of a call
pub record Parts : Type 0 where
  pub name : CallName
  pub key : List ℕ
  pub object : Option Object
  pub version : Option ℕ

abbrev pub line_of : Parts → PrintedReply → Who → PrintedLine
line_of t printed who = lines.Call t.name t.key t.object t.version printed who

-- an entry that shows as a call is one
record IsCall (e : Entry) (t : Parts) (printed : PrintedReply) (who : Who) : Type 0 where
  call : Call
  reply : Reply
  is : e ≡ Called who call reply
  shows : Shows call t.name t.key t.object t.version
  replied : shown_reply call reply ≡ printed

is_call : (t : Parts) (printed : PrintedReply) (who : Who) (e : Entry) → line_of_entry e ≡ line_of t printed who → IsCall e t printed who
is_call t printed who (Called w q r) is =
    let same : w ≡ who = cc is in
    record {
      call = q;
      reply = r;
      is = ap (λ (x : Who). Called x q r) same;
      shows = record { name_is = cc is; key_is = cc is; object_is = cc is; version_is = cc is };
      replied = cc is;
    }
is_call t printed who other is = absurd (cc is)

-- what is read of the parts is what is read of what the call shows
read_same : (t : Parts) (q : Call) (read : Option Call) → Shows q t.name t.key t.object t.version → HasCallNames q → IsRead t.name t.key t.object t.version read → read ≡ Some (bare_call q)
read_same t q read shows names is =
    let one = subst (λ (n : CallName). IsRead n t.key t.object t.version read) (sym shows.name_is) is in
    let two = subst (λ (k : List ℕ). IsRead (shown_name q) k t.object t.version read) (sym shows.key_is) one in
    let three = subst (λ (o : Option Object). IsRead (shown_name q) (call_key q) o t.version read) (sym shows.object_is) two in
    read_again q read names (subst (λ (v : Option ℕ). IsRead (shown_name q) (call_key q) (shown_given q) v read) (sym shows.version_is) three)

bare_is : (c b : Call) → Some c ≡ Some b → b ≡ c
bare_is c b e = cc e

-- where no call is read, the line stands for no entry
pub none_read : (t : Parts) (printed : PrintedReply) (who : Who) (clause : Clause) (old : Ledger) → IsRead t.name t.key t.object t.version None
    → (s : Setting) (before : List PrintedLine) → AreKept s before old → FailsAt s before (line_of t printed who) clause
none_read t printed who clause old is s before kept h e meant shows named =
    let a = is_call t printed who e shows in
    let named_call : IsNamedEntry s h (Called who a.call a.reply) = subst (IsNamedEntry s h) a.is named in
    absurd (let some = read_same t a.call None a.shows named_call.1 is in cc some)

fails_so : (t : Parts) (printed : PrintedReply) (who : Who) (c : Call) (old new : Ledger) (clause : Clause) → IsRead t.name t.key t.object t.version (Some c) → Calls old c who printed new (Some clause)
    → (s : Setting) (before : List PrintedLine) → AreKept s before old → FailsAt s before (line_of t printed who) clause
fails_so t printed who c old new clause read calls s before kept h e meant shows named =
    let is = kept.all h meant in
    let a = is_call t printed who e shows in
    let named_call : IsNamedEntry s h (Called who a.call a.reply) = subst (IsNamedEntry s h) a.is named in
    let bare = bare_is c (bare_call a.call) (read_same t a.call (Some c) a.shows named_call.1 read) in
    subst (λ x. FindsClause s h x (Some clause)) (sym a.is) (calls s h a.call a.reply is.follows (answered s h is.clean) bare named_call.0 a.replied)

goes_so : (t : Parts) (printed : PrintedReply) (who : Who) (c : Call) (old new : Ledger) → IsRead t.name t.key t.object t.version (Some c) → CallsOn old c who printed new
    → (s : Setting) (before : List PrintedLine) → AreKept s before old → AreKept s (line_of t printed who ∷ before) new
goes_so t printed who c old new read calls s before kept =
    let of = read_so t.name t.key t.object t.version c read in
    goes s before (line_of t printed who) old new kept
    (λ h is.
    let r = calls.some s h is.follows in
    let stores : IsStoresReply s h c r.0 = λ right answers same. one_reply s.faults (state s h) c r.0 right r.1 answers in
    (Called who c r.0, (λ i. lines.Call (of.shows.name_is i) (of.shows.key_is i) (of.shows.object_is i) (of.shows.version_is i) (r.2 i) who), (stores, of.named)))
    (λ h e is shows named.
    let a = is_call t printed who e shows in
    let named_call : IsNamedEntry s h (Called who a.call a.reply) = subst (IsNamedEntry s h) a.is named in
    let bare = bare_is c (bare_call a.call) (read_same t a.call (Some c) a.shows named_call.1 read) in
    subst (λ x. IsLedgerOf s (x ∷ h) new × FindsClause s h x None) (sym a.is) (calls.on s h a.call a.reply is.follows (answered s h is.clean) bare named_call.0 a.replied))

pub steps_so : (t : Parts) (printed : PrintedReply) (who : Who) (c : Call) (old new : Ledger) (failed : Option Clause) → IsRead t.name t.key t.object t.version (Some c) → Calls old c who printed new failed
    → Steps old (line_of t printed who) new failed
steps_so t printed who c old new None read calls = goes_so t printed who c old new read calls
steps_so t printed who c old new (Some clause) read calls = fails_so t printed who c old new clause read calls
