-- The parts of a line are read again of their trees.
use Rattle.std.proofs.Common.{◌≡◌, ℕ, ◌<◌, ◌^◌, [], ◌∷◌, true, Ok, refl, lt-ltb}
use Rattle.std.specs.Prelude.{nat_lt}
use Rattle.serde_json.specs.Data.{string}
use Rattle.cmc_meta.specs.declared.key.Kind.{Kind}
use Rattle.cmc_meta.specs.declared.key.Kind.TheVariants.{Certificate, CertificateRequest, Secret}
use Rattle.cmc_objects.specs.declared.object.Object.TheVariants.{Request}
use Rattle.cmc_objects.specs.declared.role.Role.{Role}
use Rattle.cmc_objects.specs.declared.role.Role.TheVariants.{Trigger, KeyManager, RequestManager, Approver, Issuer, Issuing, Readiness, Revision}
use Rattle.cmc_objects.specs.declared.call.Call.{Call}
use Rattle.cmc_objects.specs.declared.call.Call.TheVariants.{Create, Update, UpdateStatus, Delete, Get}
use Rattle.cmc_objects.specs.declared.call.Reply.{Reply}
use Rattle.cmc_objects.specs.declared.call.Reply.TheVariants as replies
use Rattle.cmc_objects.specs.declared.orders.Order.{Order}
use Rattle.cmc_objects.specs.declared.orders.Order.TheVariants as orders
use Rattle.cmc_objects.specs.declared.orders.Signing.{Signing}
use Rattle.cmc_objects.specs.declared.orders.Signing.TheVariants as answers
use Rattle.cmc_objects.specs.declared.entry.Who.{Who}
use Rattle.cmc_objects.specs.declared.entry.Who.TheVariants.{User, Pass}
use Rattle.cmc_objects.specs.declared.entry.Cause.{Cause}
use Rattle.cmc_objects.specs.declared.entry.Cause.TheVariants as causes
use Rattle.cmc_objects.specs.declared.entry.Positions.{Positions}
use Rattle.cmc_objects.specs.Objects.{key_of}
use Rattle.cmc_print.specs.Words.{kind_name, role_name}
use Rattle.cmc_report.specs.Trees.{answer_tree, cause_tree, conflict_tree, issued_tree, positions_tree, who_tree}
use Rattle.cmc_codec.proofs.ObjectsAgain.{bytes_again}
use Rattle.cmc_scenario.specs.Roles.{role_at, kind_at}
use Rattle.cmc_lines.specs.Shown.{shown_reply, shown_order}
use Rattle.cmc_lines.specs.LineTree.{replied_tree, asked_tree}
use Rattle.cmc_entry_form.specs.LineForm.{reply_at, created_in, conflict_at, who_at, order_at, key_order_in, csr_order_in, sign_order_in, judge_order_in, answer_at, issued_in, failed_in, positions_at, cause_at}
use Rattle.cmc_entry_form.specs.Entries.{HasReplyForm, HasOrderForm, HasAnswerForm}
use Rattle.cmc_entry_form.proofs.NamesAgain.{named_again}

-- ---- words

pub role_again : (role : Role) → role_at (string (role_name role)) ≡ Ok role
role_again Trigger = refl
role_again KeyManager = refl
role_again RequestManager = refl
role_again Approver = refl
role_again Issuer = refl
role_again Issuing = refl
role_again Readiness = refl
role_again Revision = refl

pub kind_again : (kind : Kind) → kind_at (string (kind_name kind)) ≡ Ok kind
kind_again Certificate = refl
kind_again CertificateRequest = refl
kind_again Secret = refl

-- ---- replies

small : (n : ℕ) → n < 2 ^ 32 → nat_lt n (2 ^ 32) ≡ true
small n h = lt-ltb n (2 ^ 32) h

pub reply_again : (call : Call) (reply : Reply) → HasReplyForm call reply → reply_at (replied_tree (shown_reply call reply)) ≡ Ok (shown_reply call reply)
unfolding reply_at created_in conflict_at conflict_tree
reply_again (Create o generate) (replies.Ok version name) is = rw is refl
reply_again (Update o v) (replies.Ok version name) is = refl
reply_again (UpdateStatus o v) (replies.Ok version name) is = refl
reply_again (Delete key v) (replies.Ok version name) is = refl
reply_again (Get key) (replies.Ok version name) is = refl
reply_again call (replies.Unchanged version) is = refl
reply_again call (replies.Found o) is = refl
reply_again call (replies.Conflict named have) is = refl
reply_again call (replies.NotFound at) is = refl
reply_again call (replies.AlreadyExists have) is = refl
reply_again call (replies.Invalid rule) is = rw (small rule is) refl
reply_again call (replies.Unavailable n) is = refl

pub who_again : (who : Who) → who_at (who_tree who) ≡ Ok who
unfolding who_at
who_again User = refl
who_again (Pass n) = refl

-- ---- handed-out work and its answers

pub order_again : (order : Order) → HasOrderForm order → order_at (asked_tree (shown_order order)) ≡ Ok (shown_order order)
unfolding order_at key_order_in csr_order_in sign_order_in judge_order_in
order_again (orders.Key o) is = rw (named_again Certificate o.certificate is) refl
order_again (orders.Csr o) is = rw (bytes_again o.key is.0, bytes_again o.body is.1) refl
order_again (orders.Sign o) is = rw (named_again CertificateRequest (key_of (Request o.request)) (refl, is)) refl
order_again (orders.Judge o) is = rw (named_again CertificateRequest (key_of (Request o.request)) (refl, is)) refl

pub answer_again : (answer : Signing) → HasAnswerForm answer → answer_at (answer_tree answer) ≡ Ok answer
unfolding answer_at issued_in failed_in issued_tree
answer_again (answers.Issued certificate []) is = rw (bytes_again certificate is.0) refl
answer_again (answers.Issued certificate (x ∷ xs)) is = rw (bytes_again certificate is.0, bytes_again (x ∷ xs) is.1) refl
answer_again answers.Pending is = refl
answer_again (answers.Failed message) is = refl

-- ---- passes

pub positions_again : (at : Positions) → positions_at (positions_tree at) ≡ Ok at
unfolding positions_at positions_tree
positions_again at = refl

pub cause_again : (cause : Cause) → cause_at (cause_tree cause) ≡ Ok cause
unfolding cause_at
cause_again causes.Wrote = refl
cause_again causes.Nothing = refl
cause_again (causes.Stopper entry) = refl
