-- An accepted call and a question that are good by what is kept of a history are good by the history.
use Rattle.std.proofs.Common.{◌≡◌, ◌⊎◌, ◌&&◌, ℕ, ◌+◌, List, ◌∷◌, Bool, true, false, MatchBool, Option, Some, None, refl, sym, ap, subst, ◌∙◌, inl, inr, arith}
use Rattle.std.proofs.lemmas.Bool.Decides.{nat_tests}
use Rattle.std.specs.Prelude.{◌↔◌, ◌≢◌, ◌==◌, not, if◌then◌else◌, option_and_then}
use Rattle.std.proofs.lemmas.Bool.{and_parts, and_from}
use Rattle.cmc_meta.specs.declared.key.Key.{Key}
use Rattle.cmc_meta.specs.declared.key.Kind.{Kind}
use Rattle.cmc_meta.specs.declared.key.Kind.TheVariants as kinds
use Rattle.cmc_objects.specs.declared.object.Object.{Object}
use Rattle.cmc_objects.specs.declared.object.Object.TheVariants.{Cert, Request, Secret}
use Rattle.cmc_objects.specs.declared.certificate.Certificate.{Certificate}
use Rattle.cmc_objects.specs.declared.request.CertificateRequest.{CertificateRequest}
use Rattle.cmc_objects.specs.declared.secret.Secret.{Secret as SecretObject}
use Rattle.cmc_objects.specs.declared.role.Role.{Role}
use Rattle.cmc_objects.specs.declared.role.Role.TheVariants as roles
use Rattle.cmc_objects.specs.declared.call.Call.{Call}
use Rattle.cmc_objects.specs.declared.call.Call.TheVariants.{Create, Update, UpdateStatus, Delete, Get}
use Rattle.cmc_objects.specs.declared.entry.Entry.{Entry}
use Rattle.cmc_objects.specs.Objects.{key_of, version_of}
use Rattle.cmc_objects.specs.Requests.{is_approved}
use Rattle.cmc_objects.specs.Informers.{works_on_requests}
use Rattle.cmc_pass.specs.declared.pass.Views.{Views}
use Rattle.cmc_model.specs.declared.write.Write.{Write}
use Rattle.cmc_model.specs.Objects.{Objects, object_at}
use Rattle.cmc_model.specs.Replies.{key_of_call}
use Rattle.cmc_model.specs.Histories.{Setting}
use Rattle.cmc_model.specs.Versions.{HasVersion}
use Rattle.cmc_model.specs.Verdicts.{IsAnswered}
use Rattle.cmc_model.specs.Writes.{writes}
use Rattle.cmc_model.proofs.Versions.{keyed}
use Rattle.cmc_rules.specs.declared.progress.OpenPass.{OpenPass}
use Rattle.cmc_rules.specs.Revisions.{stated_revision, RaisesRevision}
use Rattle.cmc_rules.specs.Safety.{IsGoodAsk, IsGoodIssue, IsGoodRaise, IsStatusUpdate, LeavesRevisions, RaisesWell}
use Rattle.cmc_rules.specs.Views.{Caches, request_at, request_in, views_in, views_of}
use Rattle.cmc_audit_state.specs.declared.row.Row.{Row}
use Rattle.cmc_audit_state.specs.declared.row.Version.{Version}
use Rattle.cmc_audit_state.specs.Heard.{approved, has_yes_on}
use Rattle.cmc_audit_state.specs.Journaled.{cached, is_denied_uid}
use Rattle.cmc_audit_ledger.specs.Ledgers.{IsRow, reached}
use Rattle.cmc_audit_clauses.specs.Clauses.{IsApproval, IsIssue, IsJudgedOn}
use Rattle.cmc_audit_clauses.specs.Written.{Exists}
use Rattle.cmc_audit_writes.specs.IssueClauses.{IsKeptIssue}
use Rattle.cmc_audit_writes.specs.Kept.{IsAskFor, IsKeptApproval, IsKeptAsk, IsKeptRaise, IsKeptWrite, KeepsOrRaises, OnBoth, SameRevision, approves, is_approver, is_issuing_role, is_secret, is_status_update, secret_if_any}
use Rattle.cmc_audit_steps.proofs.Heeding.{approved_judged, judged_approved, never_denied, none_denied, saved_stands, stands_saved}
use Rattle.cmc_audit_steps.proofs.GoodIssues.{DeniesNoMore, KeptRow, cached_version, good_kept, here, kept_good, lawful, there}

-- ---- tests

issuing_so : (r : Role) → is_issuing_role r ≡ true → r ≡ roles.Issuing
issuing_so roles.Issuing is = refl
issuing_so other is = absurd (cc is)

issuing_by : (r : Role) → r ≡ roles.Issuing → is_issuing_role r ≡ true
issuing_by r is = subst (λ (x : Role). is_issuing_role x ≡ true) (sym is) refl

approver_so : (r : Role) → is_approver r ≡ true → r ≡ roles.Approver
approver_so roles.Approver is = refl
approver_so other is = absurd (cc is)

approver_by : (r : Role) → r ≡ roles.Approver → is_approver r ≡ true
approver_by r is = subst (λ (x : Role). is_approver x ≡ true) (sym is) refl

secret_so : (k : Kind) → is_secret k ≡ true → k ≡ kinds.Secret
secret_so kinds.Secret is = refl
secret_so other is = absurd (cc is)

secret_by : (k : Kind) → k ≡ kinds.Secret → is_secret k ≡ true
secret_by k is = subst (λ (x : Kind). is_secret x ≡ true) (sym is) refl

status_so : (c : Call) → is_status_update c ≡ true → IsStatusUpdate c
status_so (UpdateStatus o named) is = tt
status_so other is = absurd (cc is)

status_by : (c : Call) → IsStatusUpdate c → is_status_update c ≡ true
status_by (UpdateStatus o named) is = refl
status_by other is = absurd is

-- ---- where an object stood and one stands

both_by : (P : Object → Object → Type 0) (before after : Option Object) → ((old new : Object) → before ≡ Some old → after ≡ Some new → P old new) → OnBoth P before after
both_by P None after all = tt
both_by P (Some old) None all = tt
both_by P (Some old) (Some new) all = all old new refl refl

both_so : (P : Object → Object → Type 0) (before after : Option Object) → OnBoth P before after → (old new : Object) → before ≡ Some old → after ≡ Some new → P old new
both_so P None after is old new was now = absurd (cc was)
both_so P (Some x) None is old new was now = absurd (cc now)
both_so P (Some x) (Some y) is old new was now = let one : x ≡ old = cc was in let two : y ≡ new = cc now in subst (λ (b : Object). P old b) two (subst (λ (a : Object). P a y) one is)

-- ---- revisions

same_or : (x y : Option ℕ) → (x ≡ y) ⊎ (x ≢ y)
same_or None None = inl refl
same_or None (Some m) = inr (λ e. cc e)
same_or (Some n) None = inr (λ e. cc e)
same_or (Some n) (Some m) = by (n == m) refl where
  by : (b : Bool) → (n == m) ≡ b → (Some n ≡ Some m) ⊎ (Some n ≢ Some m)
  by true is = inl (let e : n ≡ m = grind (arith, nat_tests) in ap Some e)
  by false is = inr (λ e. let same : n ≡ m = cc e in grind (arith, nat_tests, is, same))

pub user_leaves : (before after : Option Object) → OnBoth SameRevision before after ↔ LeavesRevisions before after
user_leaves before after = (both_so SameRevision before after, both_by SameRevision before after)

raise_so : (s : Setting) (h : List Entry) (pass : ℕ) (row : Row) (p : OpenPass) (call : Call) (old new : Object) → KeptRow s h pass row p
    → KeepsOrRaises row call old new → stated_revision new ≢ stated_revision old → IsGoodRaise h pass p.role call old new
raise_so s h pass row p call old new is (inl same) differs = absurd (differs same)
raise_so s h pass row p call old new is (inr raise) differs = record {
  issuing = sym is.role ∙ issuing_so row.role raise.issuing;
  status = status_so call raise.status;
  by_one = raise.by_one;
  saved = saved_stands pass h (sym is.saved_is ∙ raise.saved);
}

kept_raise : (s : Setting) (h : List Entry) (pass : ℕ) (row : Row) (p : OpenPass) (call : Call) (old new : Object) → KeptRow s h pass row p
    → IsGoodRaise h pass p.role call old new → IsKeptRaise row call old new
kept_raise s h pass row p call old new is good = record {
  issuing = issuing_by row.role (is.role ∙ good.issuing);
  status = status_by call good.status;
  by_one = good.by_one;
  saved = is.saved_is ∙ stands_saved pass h good.saved;
}

raise_by : (s : Setting) (h : List Entry) (pass : ℕ) (row : Row) (p : OpenPass) (call : Call) (old new : Object) → KeptRow s h pass row p
    → (stated_revision new ≡ stated_revision old) ⊎ (stated_revision new ≢ stated_revision old) → (stated_revision new ≢ stated_revision old → IsGoodRaise h pass p.role call old new) → KeepsOrRaises row call old new
raise_by s h pass row p call old new is (inl same) all = inl same
raise_by s h pass row p call old new is (inr differs) all = inr (kept_raise s h pass row p call old new is (all differs))

pub pass_raises : (s : Setting) (h : List Entry) (pass : ℕ) (row : Row) (p : OpenPass) (call : Call) (before after : Option Object) → KeptRow s h pass row p
    → OnBoth (KeepsOrRaises row call) before after ↔ RaisesWell h pass p.role call before after
pass_raises s h pass row p call before after is = (
  λ on old new was now. raise_so s h pass row p call old new is (both_so (KeepsOrRaises row call) before after on old new was now),
  λ all. both_by (KeepsOrRaises row call) before after (λ old new was now. raise_by s h pass row p call old new is (same_or (stated_revision new) (stated_revision old)) (all old new was now)),
)

-- ---- approvals

on_true : (b : Bool) (A : Type 0) → MatchBool b A (Unit {0}) → b ≡ true → A
on_true true A is on = is
on_true false A is on = absurd (cc on)

if_true : (b : Bool) (A : Type 0) → (b ≡ true → A) → MatchBool b A (Unit {0})
if_true true A all = all refl
if_true false A all = tt

not_by : (b : Bool) → b ≡ false → not b ≡ true
not_by true e = absurd (cc e)
not_by false e = refl

abbrev version : Object → Version
version o = record { key = key_of o; number = version_of o }

approval_so : (s : Setting) (h : List Entry) (pass : ℕ) (row : Row) (p : OpenPass) (old new : CertificateRequest) → KeptRow s h pass row p → IsKeptApproval row (Request old) (Request new)
    → p.role ≡ roles.Approver → is_approved old ≡ false → is_approved new ≡ true → IsJudgedOn h pass (key_of (Request old)) old.meta.version
approval_so s h pass row p old new is kept role off on =
    let told : has_yes_on row.yeses (version (Request old)) ≡ true =
    on_true (is_approver row.role && approves (Request old) (Request new)) (has_yes_on row.yeses (version (Request old)) ≡ true) kept
    (and_from _ _ (approver_by row.role (is.role ∙ role)) (and_from _ _ (not_by (is_approved old) off) on)) in
    approved_judged pass (key_of (Request old)) old.meta.version h (sym (is.approved_is (version (Request old))) ∙ told)

not_so : (b : Bool) → not b ≡ true → b ≡ false
not_so true e = absurd (cc e)
not_so false e = refl

not_both : (b : Bool) → (b && false) ≡ true → ⊥
not_both true on = cc on
not_both false on = cc on

judged : (s : Setting) (h : List Entry) (pass : ℕ) (row : Row) (p : OpenPass) (old new : Object) → KeptRow s h pass row p → (is_approver row.role && approves old new) ≡ true
    → ((a b : CertificateRequest) → p.role ≡ roles.Approver → old ≡ Request a → new ≡ Request b → is_approved a ≡ false → is_approved b ≡ true → IsJudgedOn h pass (key_of (Request a)) a.meta.version)
    → has_yes_on row.yeses (version old) ≡ true
judged s h pass row p (Request a) (Request b) is on all =
    let parts = and_parts _ _ on in
    let both = and_parts _ _ parts.1 in
    is.approved_is (version (Request a)) ∙ judged_approved pass (key_of (Request a)) a.meta.version h (all a b (sym is.role ∙ approver_so row.role parts.0) refl refl (not_so (is_approved a) both.0) both.1)
judged s h pass row p (Request a) (Cert b) is on all = absurd (not_both (is_approver row.role) on)
judged s h pass row p (Request a) (Secret b) is on all = absurd (not_both (is_approver row.role) on)
judged s h pass row p (Cert a) new is on all = absurd (not_both (is_approver row.role) on)
judged s h pass row p (Secret a) new is on all = absurd (not_both (is_approver row.role) on)

pub pass_approves : (s : Setting) (h : List Entry) (pass : ℕ) (row : Row) (p : OpenPass) (call : Call) (before after : Option Object) → KeptRow s h pass row p
    → OnBoth (IsKeptApproval row) before after ↔ IsApproval h pass p call before after
pass_approves s h pass row p call before after is = (
  λ kept old new role was now off on. approval_so s h pass row p old new is (both_so (IsKeptApproval row) before after kept (Request old) (Request new) was now) role off on,
  λ all. both_by (IsKeptApproval row) before after (λ old new was now.
      if_true (is_approver row.role && approves old new) (has_yes_on row.yeses (version old) ≡ true)
      (λ on. judged s h pass row p old new is on (λ a b role a_is b_is off yes. all a b role (was ∙ ap Some a_is) (now ∙ ap Some b_is) off yes))),
)

-- ---- issues

secret_there : (x : Option Object) (k : SecretObject) → secret_if_any x ≡ Some k → x ≡ Some (Secret k)
secret_there None k e = absurd (cc e)
secret_there (Some (Cert c)) k e = absurd (cc e)
secret_there (Some (Request r)) k e = absurd (cc e)
secret_there (Some (Secret j)) k e = let one : j ≡ k = cc e in ap (λ (y : SecretObject). Some (Secret y)) one

write_so : (s : Setting) (whole h : List Entry) (pass : ℕ) (row : Row) (p : OpenPass) (call : Call) (before after : Option Object) → IsAnswered s h
    → ((k : SecretObject) → after ≡ Some (Secret k) → DeniesNoMore s whole h) → KeptRow s h pass row p → IsKeptWrite (writes s h) row (key_of_call call).kind after → IsIssue s whole h pass p call before after
write_so s whole h pass row p call before after right denied is kept role kind =
    let some = there (secret_if_any after) (IsKeptIssue (writes s h) row)
    (on_true (is_issuing_role row.role && is_secret (key_of_call call).kind) (Exists (secret_if_any after) (IsKeptIssue (writes s h) row)) kept
    (and_from _ _ (issuing_by row.role (is.role ∙ role)) (secret_by (key_of_call call).kind kind))) in
    let stands = secret_there after some.0 some.1 in
    (some.0, stands, kept_good s whole h pass row p some.0 right (denied some.0 stands) is role some.2)

write_by : (s : Setting) (whole h : List Entry) (pass : ℕ) (row : Row) (p : OpenPass) (call : Call) (before after : Option Object) → IsAnswered s h
    → ((k : SecretObject) → after ≡ Some (Secret k) → DeniesNoMore s whole h) → KeptRow s h pass row p → IsIssue s whole h pass p call before after → IsKeptWrite (writes s h) row (key_of_call call).kind after
write_by s whole h pass row p call before after right denied is issue =
    if_true (is_issuing_role row.role && is_secret (key_of_call call).kind) (Exists (secret_if_any after) (IsKeptIssue (writes s h) row))
    (λ on.
    let parts = and_parts _ _ on in
    let role = sym is.role ∙ issuing_so row.role parts.0 in
    let some = issue role (secret_so (key_of_call call).kind parts.1) in
    here (secret_if_any after) (IsKeptIssue (writes s h) row) some.0 (ap secret_if_any some.1) (good_kept s whole h pass row p some.0 right (denied some.0 some.1) is role some.2))

pub pass_issues : (s : Setting) (whole h : List Entry) (pass : ℕ) (row : Row) (p : OpenPass) (call : Call) (before after : Option Object) → IsAnswered s h
    → ((k : SecretObject) → after ≡ Some (Secret k) → DeniesNoMore s whole h) → KeptRow s h pass row p → IsKeptWrite (writes s h) row (key_of_call call).kind after ↔ IsIssue s whole h pass p call before after
pass_issues s whole h pass row p call before after right denied is =
    (write_so s whole h pass row p call before after right denied is, write_by s whole h pass row p call before after right denied is)

-- ---- questions

seen_request : (role : Role) (c : Caches) (key : Key) → (views_in role c key).request ≡ (if works_on_requests role then request_at c.requests key else None)
unfolding views_in views_of
seen_request role c key = refl

request_there : (x : Option Object) (r : CertificateRequest) → option_and_then request_in x ≡ Some r → x ≡ Some (Request r)
request_there None r e = absurd (cc e)
request_there (Some (Cert c)) r e = absurd (cc e)
request_there (Some (Secret k)) r e = absurd (cc e)
request_there (Some (Request q)) r e = let one : q ≡ r = cc e in ap (λ (y : CertificateRequest). Some (Request y)) one

if_works : (b : Bool) (x : Option CertificateRequest) (r : CertificateRequest) → (if b then x else None) ≡ Some r → (b ≡ true) × (x ≡ Some r)
if_works true x r e = (refl, e)
if_works false x r e = absurd (cc e)

works_if : (b : Bool) (x : Option CertificateRequest) → b ≡ true → (if b then x else None) ≡ x
works_if true x on = refl
works_if false x on = absurd (cc on)

-- what the pass saw of the request, by the writes up to its reach
saw_request : (ws : List Write) (f : ℕ → Bool) (s : Bool) (a : Option Version) (y : Version → Bool) (row : Row) (p : OpenPass) → IsRow ws f s a y row p
    → p.seen.request ≡ (if works_on_requests row.role then request_at (cached kinds.CertificateRequest ws row.reach.requests) row.key else None)
saw_request ws f s a y row p is = ap (λ (v : Views). v.request) is.seen ∙ seen_request row.role (reached ws row.reach) row.key

-- the request of a question is the version that is named, where one was written
abbrev pub IsNamed : Setting → List Entry → CertificateRequest → Type 0
IsNamed s h q = (r : CertificateRequest) → HasVersion s h (key_of (Request q)) (Request r) → r.meta.version ≡ q.meta.version → q ≡ r

ask_so : (s : Setting) (whole h : List Entry) (pass : ℕ) (row : Row) (p : OpenPass) (q : CertificateRequest) → IsAnswered s h → DeniesNoMore s whole h → KeptRow s h pass row p → IsNamed s h q
    → IsKeptAsk (writes s h) row (key_of (Request q)) q.meta.version → IsGoodAsk s whole p.seen q
ask_so s whole h pass row p q right denied is named kept =
    let ws : List Write = writes s h in
    let some = there (request_at (cached kinds.CertificateRequest ws row.reach.requests) row.key) (IsAskFor ws q.meta.version) kept.sees in
    let stood = request_there (object_at (cached kinds.CertificateRequest ws row.reach.requests) row.key) some.0 some.1 in
    let has = subst (λ (k : Key). HasVersion s h k (Request some.0)) kept.on (cached_version kinds.CertificateRequest ws row.reach.requests row.key (Request some.0) stood) in
    let same : q ≡ some.0 = named some.0 has some.2.named in
    record {
      sees = saw_request ws _ _ _ _ row p is ∙ works_if (works_on_requests row.role) _ kept.works ∙ some.1 ∙ ap Some (sym same);
      approved = ap is_approved same ∙ some.2.approved;
      never_denied = never_denied s whole q (denied q.meta.uid ∙ ap (λ (x : CertificateRequest). is_denied_uid x.meta.uid ws) same ∙ some.2.never_denied);
    }

ask_by : (s : Setting) (whole h : List Entry) (pass : ℕ) (row : Row) (p : OpenPass) (q : CertificateRequest) → IsAnswered s h → DeniesNoMore s whole h → KeptRow s h pass row p
    → IsGoodAsk s whole p.seen q → IsKeptAsk (writes s h) row (key_of (Request q)) q.meta.version
ask_by s whole h pass row p q right denied is good =
    let ws : List Write = writes s h in
    let parts = if_works (works_on_requests row.role) (request_at (cached kinds.CertificateRequest ws row.reach.requests) row.key) q (sym (saw_request ws _ _ _ _ row p is) ∙ good.sees) in
    let stood = request_there (object_at (cached kinds.CertificateRequest ws row.reach.requests) row.key) q parts.1 in
    record {
      works = parts.0;
      on = sym (keyed ws row.key (Request q) (lawful s h right) (cached_version kinds.CertificateRequest ws row.reach.requests row.key (Request q) stood));
      sees = here (request_at (cached kinds.CertificateRequest ws row.reach.requests) row.key) (IsAskFor ws q.meta.version) q parts.1
          (record { named = refl; approved = good.approved; never_denied = sym (denied q.meta.uid) ∙ none_denied s whole q good.never_denied });
    }

pub pass_asks : (s : Setting) (whole h : List Entry) (pass : ℕ) (row : Row) (p : OpenPass) (q : CertificateRequest) → IsAnswered s h → DeniesNoMore s whole h → KeptRow s h pass row p → IsNamed s h q
    → IsKeptAsk (writes s h) row (key_of (Request q)) q.meta.version ↔ IsGoodAsk s whole p.seen q
pass_asks s whole h pass row p q right denied is named = (ask_so s whole h pass row p q right denied is named, ask_by s whole h pass row p q right denied is)
