-- The line that an entry shows is printed as the entry is.
use Rattle.std.proofs.Common.{◌≡◌, ℕ, Some, None, true, false, refl, ap, ◌∙◌}
use Rattle.std.specs.Prelude.{codes}
use Rattle.serde_json.specs.Data.{Members, string, object, put, no_members}
use Rattle.cmc_print.specs.Trees.{natural}
use Rattle.cmc_print.specs.Puts.{put_option}
use Rattle.cmc_objects.specs.declared.object.Object.{Object}
use Rattle.cmc_objects.specs.declared.object.Object.TheVariants.{Cert, Request, Secret}
use Rattle.cmc_objects.specs.declared.call.Call.{Call}
use Rattle.cmc_objects.specs.declared.call.Call.TheVariants.{Create, Update, UpdateStatus, Delete, Get}
use Rattle.cmc_objects.specs.declared.call.Reply.{Reply}
use Rattle.cmc_objects.specs.declared.call.Reply.TheVariants.{Ok, Unchanged, Found, Conflict, NotFound, AlreadyExists, Invalid, Unavailable}
use Rattle.cmc_objects.specs.declared.orders.Order.{Order}
use Rattle.cmc_objects.specs.declared.orders.Order.TheVariants as orders
use Rattle.cmc_objects.specs.declared.entry.Who.{Who}
use Rattle.cmc_objects.specs.declared.entry.Entry.{Entry}
use Rattle.cmc_objects.specs.declared.entry.Entry.TheVariants.{Script, Call as Called, Deliver, List as Listed, Begin, Ask, Made, Signed, Answered, Judged, End, Stop, Start, Tick}
use Rattle.cmc_print.specs.Printed.{object_tree, head_members, meta_tree, meta_members}
use Rattle.cmc_report.specs.Trees.{reply_tree, conflict_tree, put_written, put_version, call_key, order_tree, key_order_tree, csr_order_tree, sign_order_tree, judge_order_tree, put_call, put_named, put_entry, entry_tree, who_tree, call_name}
use Rattle.cmc_lines.specs.Shown.{line_of_entry, shown_object, shown_reply, shown_order, shown_given, shown_version, shown_name}
use Rattle.cmc_lines.specs.LineTree.{replied_tree, asked_tree, put_call_body, put_call_head, put_given, word_of, put_line, line_tree}

pub object_same : (o : Object) → object_tree (shown_object o) ≡ object_tree o
unfolding object_tree head_members meta_tree meta_members
object_same (Cert c) = refl
object_same (Request r) = refl
object_same (Secret k) = refl

reply_same : (call : Call) (reply : Reply) → replied_tree (shown_reply call reply) ≡ reply_tree call reply
unfolding reply_tree conflict_tree
reply_same (Create o generate) (Ok version name) = refl
reply_same (Update o v) (Ok version name) = refl
reply_same (UpdateStatus o v) (Ok version name) = refl
reply_same (Delete k v) (Ok version name) = refl
reply_same (Get k) (Ok version name) = refl
reply_same call (Unchanged version) = refl
reply_same call (Found o) = refl
reply_same call (Conflict named have) = refl
reply_same call (NotFound at) = refl
reply_same call (AlreadyExists have) = refl
reply_same call (Invalid rule) = refl
reply_same call (Unavailable n) = refl

order_same : (order : Order) → asked_tree (shown_order order) ≡ order_tree order
unfolding key_order_tree csr_order_tree sign_order_tree judge_order_tree
order_same (orders.Key o) = refl
order_same (orders.Csr o) = refl
order_same (orders.Sign o) = refl
order_same (orders.Judge o) = refl

-- ---- whole lines

given_same : (call : Call) (ms : Members) → put_given (shown_given call) ms ≡ put_written call ms
given_same (Create o generate) ms = ap (λ d. put (codes "object") d ms) (object_same o)
given_same (Update o v) ms = ap (λ d. put (codes "object") d ms) (object_same o)
given_same (UpdateStatus o v) ms = ap (λ d. put (codes "object") d ms) (object_same o)
given_same (Delete k v) ms = refl
given_same (Get k) ms = refl

version_same : (call : Call) (ms : Members) → put_option natural (codes "version") (shown_version call) ms ≡ put_version call ms
version_same (Create o generate) ms = refl
version_same (Update o v) ms = refl
version_same (UpdateStatus o v) ms = refl
version_same (Delete k None) ms = refl
version_same (Delete k (Some v)) ms = refl
version_same (Get k) ms = refl

word_same : (call : Call) → word_of (shown_name call) ≡ call_name call
word_same (Create o true) = refl
word_same (Create o false) = refl
word_same (Update o v) = refl
word_same (UpdateStatus o v) = refl
word_same (Delete k v) = refl
word_same (Get k) = refl

call_same : (who : Who) (call : Call) (reply : Reply) (ms : Members) → put_line (line_of_entry (Called who call reply)) ms ≡ put_call (who_tree who) call reply ms
unfolding put_call
call_same who call reply ms =
    let start : Members = put (codes "key") (string (call_key call)) (put (codes "call") (string (call_name call)) (put (codes "is") (string (codes "call")) ms)) in
    let first : put_call_head (shown_name call) (call_key call) ms ≡ start = ap (λ w. put (codes "key") (string (call_key call)) (put (codes "call") (string w) (put (codes "is") (string (codes "call")) ms))) (word_same call) in
    ap (put_call_body (shown_given call) (shown_version call) (shown_reply call reply) who) first
    ∙ ap (λ x. put (codes "who") (who_tree who) (put_option natural (codes "version") (shown_version call) (put (codes "reply") (replied_tree (shown_reply call reply)) x))) (given_same call start)
    ∙ ap (λ d. put (codes "who") (who_tree who) (put_option natural (codes "version") (shown_version call) (put (codes "reply") d (put_written call start)))) (reply_same call reply)
    ∙ ap (λ x. put (codes "who") (who_tree who) x) (version_same call (put (codes "reply") (reply_tree call reply) (put_written call start)))

line_same : (e : Entry) (ms : Members) → put_line (line_of_entry e) ms ≡ put_entry e ms
line_same (Script step) ms = refl
line_same (Called who call reply) ms = call_same who call reply ms
line_same (Deliver role kind to) ms = refl
line_same (Listed role kind to) ms = refl
line_same (Begin pass role key at now) ms = refl
line_same (Ask pass order) ms = ap (λ d. put (codes "order") d (put_named (codes "ask") pass ms)) (order_same order)
line_same (Made pass key) ms = refl
line_same (Signed pass signature) ms = refl
line_same (Answered pass answer) ms = refl
line_same (Judged pass approved) ms = refl
line_same (End pass cause) ms = refl
line_same (Stop role) ms = refl
line_same (Start role at) ms = refl
line_same (Tick now) ms = refl

-- The tree of an entry is that of what it shows.
pub shows_all : (n : ℕ) (e : Entry) → line_tree n (line_of_entry e) ≡ entry_tree n e
unfolding line_tree entry_tree
shows_all n e = ap object (line_same e (put (codes "n") (natural n) no_members))
