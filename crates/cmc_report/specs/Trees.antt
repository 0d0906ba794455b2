-- The entries of a history and the summary as JSON trees.
use Rattle.std.specs.Prelude.{ℕ, ℤ, true, false, List, ◌++◌, map, codes, Some, None}
use Rattle.serde_json.specs.Data.{Data, boolean, string, array, object, Members, no_members, put}
use Rattle.serde_json.specs.View.{items_of}
use Rattle.cmc_meta.specs.declared.key.Key.{Key}
use Rattle.cmc_objects.specs.declared.call.Call.{Call}
use Rattle.cmc_objects.specs.declared.call.Call.TheVariants.{Create, Update, UpdateStatus, Delete, Get}
use Rattle.cmc_objects.specs.declared.call.Reply.{Reply}
use Rattle.cmc_objects.specs.declared.call.Reply.TheVariants.{Ok, Unchanged, Found, Conflict, NotFound, AlreadyExists, Invalid, Unavailable}
use Rattle.cmc_objects.specs.declared.entry.Who.{Who}
use Rattle.cmc_objects.specs.declared.entry.Who.TheVariants.{User, Pass}
use Rattle.cmc_objects.specs.declared.entry.Entry.{Entry}
use Rattle.cmc_objects.specs.declared.entry.Entry.TheVariants.{Script, Call as Called, Deliver, List as Listed, Begin, Ask, Made, Signed, Answered, Judged, End, Stop, Start, Tick}
use Rattle.cmc_objects.specs.declared.entry.Cause.{Cause}
use Rattle.cmc_objects.specs.declared.entry.Cause.TheVariants as causes
use Rattle.cmc_objects.specs.declared.entry.Positions.{Positions}
use Rattle.cmc_objects.specs.declared.role.Role.{Role}
use Rattle.cmc_objects.specs.declared.orders.KeyOrder.{KeyOrder}
use Rattle.cmc_objects.specs.declared.orders.CsrOrder.{CsrOrder}
use Rattle.cmc_objects.specs.declared.orders.JudgeOrder.{JudgeOrder}
use Rattle.cmc_objects.specs.declared.orders.Order.{Order}
use Rattle.cmc_objects.specs.declared.orders.Order.TheVariants as orders
use Rattle.cmc_objects.specs.declared.orders.Signing.{Signing}
use Rattle.cmc_objects.specs.declared.orders.Signing.TheVariants as answers
use Rattle.cmc_objects.specs.Requests.{Signs}
use Rattle.cmc_meta.specs.declared.key.Kind.{Kind}
use Rattle.cmc_meta.specs.declared.object_meta.ObjectMeta.{ObjectMeta}
use Rattle.cmc_objects.specs.Objects.{key_of, name_of, version_of}
use Rattle.cmc_summary.specs.declared.summary.Summary.{Summary}
use Rattle.cmc_summary.specs.declared.summary.Waiting.{Waiting}
use Rattle.cmc_summary.specs.declared.summary.WaitName.{WaitName}
use Rattle.cmc_summary.specs.declared.summary.WaitName.TheVariants as waits
use Rattle.cmc_print.specs.Trees.{natural}
use Rattle.cmc_print.specs.Puts.{put_list, base64_text}
use Rattle.cmc_print.specs.Words.{kind_name, role_name, name_text, key_text}
use Rattle.cmc_print.specs.Printed.{object_tree, moment_tree}

-- An object with one number.
abbrev pub lone : List ℕ → ℕ → Data
lone name n = object (put name (natural n) no_members)

-- ---- replies

-- A create is answered with the name that the object has.
abbrev pub ok_members : Call → ℕ → List ℕ → Members
ok_members (Create o generate) version name = put (codes "name") (string name) (put (codes "ok") (natural version) no_members)
ok_members (Update o v) version name = put (codes "ok") (natural version) no_members
ok_members (UpdateStatus o v) version name = put (codes "ok") (natural version) no_members
ok_members (Delete k v) version name = put (codes "ok") (natural version) no_members
ok_members (Get k) version name = put (codes "ok") (natural version) no_members

unfoldable pub conflict_tree : ℕ → ℕ → Data
conflict_tree named have = object (put (codes "conflict") (object (put (codes "named") (natural named) (put (codes "have") (natural have) no_members))) no_members)

unfoldable pub reply_tree : Call → Reply → Data
reply_tree call (Ok version name) = object (ok_members call version name)
reply_tree call (Unchanged version) = lone (codes "unchanged") version
reply_tree call (Found o) = lone (codes "found") (version_of o)
reply_tree call (Conflict named have) = conflict_tree named have
reply_tree call (NotFound at) = lone (codes "notFound") at
reply_tree call (AlreadyExists have) = lone (codes "alreadyExists") have
reply_tree call (Invalid rule) = lone (codes "invalid") rule
reply_tree call (Unavailable n) = lone (codes "unavailable") n

-- ---- calls

abbrev pub who_tree : Who → Data
who_tree User = string (codes "user")
who_tree (Pass n) = natural n

abbrev pub call_name : Call → List ℕ
call_name (Create o false) = codes "create"
call_name (Create o true) = codes "generate"
call_name (Update o v) = codes "update"
call_name (UpdateStatus o v) = codes "updateStatus"
call_name (Delete k v) = codes "delete"
call_name (Get k) = codes "get"

-- The key of the call's object; where its name is to be generated, the prefix alone.
abbrev pub call_key : Call → List ℕ
call_key (Create o false) = key_text (key_of o)
call_key (Create o true) = name_of o ++ codes "-"
call_key (Update o v) = key_text (key_of o)
call_key (UpdateStatus o v) = key_text (key_of o)
call_key (Delete k v) = key_text k
call_key (Get k) = key_text k

-- The object that is written.
abbrev pub put_written : Call → Members → Members
put_written (Create o generate) ms = put (codes "object") (object_tree o) ms
put_written (Update o v) ms = put (codes "object") (object_tree o) ms
put_written (UpdateStatus o v) ms = put (codes "object") (object_tree o) ms
put_written (Delete k v) ms = ms
put_written (Get k) ms = ms

-- The version that the call names.
abbrev pub put_version : Call → Members → Members
put_version (Create o generate) ms = ms
put_version (Update o v) ms = put (codes "version") (natural v) ms
put_version (UpdateStatus o v) ms = put (codes "version") (natural v) ms
put_version (Delete k None) ms = ms
put_version (Delete k (Some v)) ms = put (codes "version") (natural v) ms
put_version (Get k) ms = ms

-- ---- entries

-- What the entry of a call has beside its number; `who` says by whom it is.
unfoldable pub put_call : Data → Call → Reply → Members → Members
put_call who call reply ms =
    put (codes "who") who
    (put_version call
    (put (codes "reply") (reply_tree call reply)
    (put_written call
    (put (codes "key") (string (call_key call))
    (put (codes "call") (string (call_name call))
    (put (codes "is") (string (codes "call")) ms))))))

-- The entry of a call, with its number.
unfoldable pub call_tree : ℕ → Data → Call → Reply → Data
call_tree n who call reply = object (put_call who call reply (put (codes "n") (natural n) no_members))

-- ---- handed-out work

abbrev pub put_request : ObjectMeta → Members → Members
put_request meta ms = put (codes "version") (natural meta.version) (put (codes "request") (string (meta.namespace ++ (codes "/" ++ meta.name))) ms)

unfoldable pub key_order_tree : KeyOrder → Data
key_order_tree o = object (put (codes "number") (natural o.number) (put (codes "certificate") (string (name_text o.certificate)) (put (codes "is") (string (codes "key")) no_members)))

unfoldable pub csr_order_tree : CsrOrder → Data
csr_order_tree o = object (put (codes "key") (base64_text o.key) (put (codes "body") (base64_text o.body) (put (codes "is") (string (codes "csr")) no_members)))

unfoldable pub sign_order_tree : Signs → Data
sign_order_tree o = object (put_request o.request.meta (put (codes "number") (natural o.number) (put (codes "is") (string (codes "sign")) no_members)))

unfoldable pub judge_order_tree : JudgeOrder → Data
judge_order_tree o = object (put_request o.request.meta (put (codes "is") (string (codes "judge")) no_members))

abbrev pub order_tree : Order → Data
order_tree (orders.Key o) = key_order_tree o
order_tree (orders.Csr o) = csr_order_tree o
order_tree (orders.Sign o) = sign_order_tree o
order_tree (orders.Judge o) = judge_order_tree o

-- An issued certificate is printed also where it is empty, the CA's only where it is not.
unfoldable pub issued_tree : List ℕ → List ℕ → Data
issued_tree certificate ca = object (put_list base64_text (codes "ca") ca (put (codes "certificate") (base64_text certificate) (put (codes "is") (string (codes "issued")) no_members)))

abbrev pub answer_tree : Signing → Data
answer_tree (answers.Issued certificate ca) = issued_tree certificate ca
answer_tree answers.Pending = object (put (codes "is") (string (codes "pending")) no_members)
answer_tree (answers.Failed message) = object (put (codes "message") (string message) (put (codes "is") (string (codes "failed")) no_members))

-- ---- roles and passes

unfoldable pub put_told : Role → Kind → ℕ → Members → Members
put_told role kind to ms = put (codes "to") (natural to) (put (codes "kind") (string (kind_name kind)) (put (codes "role") (string (role_name role)) ms))

unfoldable pub positions_tree : Positions → Data
positions_tree at = object
    (put (codes "Secret") (natural at.secrets)
    (put (codes "CertificateRequest") (natural at.requests)
    (put (codes "Certificate") (natural at.certificates) no_members)))

unfoldable pub put_begin : Role → Key → Positions → ℤ → Members → Members
put_begin role key at now ms =
    put (codes "now") (moment_tree now)
    (put (codes "at") (positions_tree at)
    (put (codes "key") (string (name_text key))
    (put (codes "role") (string (role_name role)) ms)))

abbrev pub cause_tree : Cause → Data
cause_tree causes.Wrote = string (codes "wrote")
cause_tree causes.Nothing = string (codes "nothing")
cause_tree (causes.Stopper entry) = lone (codes "entry") entry

-- An entry of a pass: what it is, and the number of the pass.
abbrev pub put_named : List ℕ → ℕ → Members → Members
put_named word pass ms = put (codes "pass") (natural pass) (put (codes "is") (string word) ms)

-- What an entry of a pass after its beginning has beside its number.
abbrev pub put_pass : Entry → Members → Members
put_pass (Ask pass order) ms = put (codes "order") (order_tree order) (put_named (codes "ask") pass ms)
put_pass (Made pass key) ms = put (codes "key") (base64_text key) (put_named (codes "made") pass ms)
put_pass (Signed pass signature) ms = put (codes "signature") (base64_text signature) (put_named (codes "signed") pass ms)
put_pass (Answered pass answer) ms = put (codes "answer") (answer_tree answer) (put_named (codes "answered") pass ms)
put_pass (Judged pass approved) ms = put (codes "yes") (boolean approved) (put_named (codes "judged") pass ms)
put_pass (End pass cause) ms = put (codes "cause") (cause_tree cause) (put_named (codes "end") pass ms)
put_pass (Script step) ms = ms
put_pass (Called who call reply) ms = ms
put_pass (Deliver role kind to) ms = ms
put_pass (Listed role kind to) ms = ms
put_pass (Begin pass role key at now) ms = ms
put_pass (Stop role) ms = ms
put_pass (Start role at) ms = ms
put_pass (Tick now) ms = ms

-- What an entry has beside its number.
abbrev pub put_entry : Entry → Members → Members
put_entry (Script step) ms = put (codes "step") (natural step) (put (codes "is") (string (codes "script")) ms)
put_entry (Called who call reply) ms = put_call (who_tree who) call reply ms
put_entry (Deliver role kind to) ms = put_told role kind to (put (codes "is") (string (codes "deliver")) ms)
put_entry (Listed role kind to) ms = put_told role kind to (put (codes "is") (string (codes "list")) ms)
put_entry (Begin pass role key at now) ms = put_begin role key at now (put_named (codes "begin") pass ms)
put_entry (Stop role) ms = put (codes "role") (string (role_name role)) (put (codes "is") (string (codes "stop")) ms)
put_entry (Start role at) ms = put (codes "at") (natural at) (put (codes "role") (string (role_name role)) (put (codes "is") (string (codes "start")) ms))
put_entry (Tick now) ms = put (codes "now") (moment_tree now) (put (codes "is") (string (codes "tick")) ms)
put_entry (Ask pass order) ms = put_pass (Ask pass order) ms
put_entry (Made pass key) ms = put_pass (Made pass key) ms
put_entry (Signed pass signature) ms = put_pass (Signed pass signature) ms
put_entry (Answered pass answer) ms = put_pass (Answered pass answer) ms
put_entry (Judged pass approved) ms = put_pass (Judged pass approved) ms
put_entry (End pass cause) ms = put_pass (End pass cause) ms

-- An entry with its number.
unfoldable pub entry_tree : ℕ → Entry → Data
entry_tree n entry = object (put_entry entry (put (codes "n") (natural n) no_members))

-- ---- the scenario and the summary

unfoldable pub scenario_line_tree : Data → Data
scenario_line_tree value = object (put (codes "scenario") value no_members)

abbrev pub wait_name : WaitName → List ℕ
wait_name waits.Stopped = codes "stopped"
wait_name waits.Backoff = codes "backoff"
wait_name waits.Key = codes "key"
wait_name waits.Unapproved = codes "unapproved"
wait_name waits.Name = codes "name"
wait_name waits.Pending = codes "pending"

unfoldable pub waiting_tree : Waiting → Data
waiting_tree w = object (put (codes "wait") (string (wait_name w.wait)) (put (codes "certificate") (string (name_text w.certificate)) no_members))

unfoldable pub counts_tree : Summary → Data
counts_tree s = object
    (put (codes "waiting") (array (items_of (map waiting_tree s.waiting)))
    (put (codes "secrets") (natural s.secrets)
    (put (codes "ready") (natural s.ready)
    (put (codes "certificates") (natural s.certificates) no_members))))

unfoldable pub summary_tree : Summary → Data
summary_tree s = object (put (codes "summary") (counts_tree s) no_members)
