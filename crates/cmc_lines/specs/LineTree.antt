-- A line of a printed history as a JSON tree.
use Rattle.std.specs.Prelude.{ℕ, List, codes, Option, Some, None}
use Rattle.serde_json.specs.Data.{Data, boolean, string, object, Members, no_members, put}
use Rattle.cmc_meta.specs.declared.key.Key.{Key}
use Rattle.cmc_objects.specs.declared.object.Object.{Object}
use Rattle.cmc_objects.specs.declared.entry.Who.{Who}
use Rattle.cmc_print.specs.Trees.{natural}
use Rattle.cmc_print.specs.Puts.{base64_text, put_option}
use Rattle.cmc_print.specs.Printed.{object_tree, moment_tree}
use Rattle.cmc_print.specs.Words.{role_name, name_text}
use Rattle.cmc_report.specs.Trees.{lone, conflict_tree, who_tree, put_told, put_begin, cause_tree, put_named, answer_tree}
use Rattle.cmc_lines.specs.declared.line.CallName.{CallName}
use Rattle.cmc_lines.specs.declared.line.CallName.TheVariants as names
use Rattle.cmc_lines.specs.declared.line.PrintedReply.{PrintedReply}
use Rattle.cmc_lines.specs.declared.line.PrintedReply.TheVariants as printed
use Rattle.cmc_lines.specs.declared.line.PrintedOrder.{PrintedOrder}
use Rattle.cmc_lines.specs.declared.line.PrintedOrder.TheVariants as asked
use Rattle.cmc_lines.specs.declared.line.PrintedLine.{PrintedLine}
use Rattle.cmc_lines.specs.declared.line.PrintedLine.TheVariants as lines

abbrev pub word_of : CallName → List ℕ
word_of names.Create = codes "create"
word_of names.Generate = codes "generate"
word_of names.Update = codes "update"
word_of names.UpdateStatus = codes "updateStatus"
word_of names.Delete = codes "delete"
word_of names.Get = codes "get"

abbrev pub replied_tree : PrintedReply → Data
replied_tree (printed.Created name version) = object (put (codes "name") (string name) (put (codes "ok") (natural version) no_members))
replied_tree (printed.Ok version) = object (put (codes "ok") (natural version) no_members)
replied_tree (printed.Unchanged version) = lone (codes "unchanged") version
replied_tree (printed.Found version) = lone (codes "found") version
replied_tree (printed.Conflict named have) = conflict_tree named have
replied_tree (printed.NotFound at) = lone (codes "notFound") at
replied_tree (printed.AlreadyExists have) = lone (codes "alreadyExists") have
replied_tree (printed.Invalid rule) = lone (codes "invalid") rule
replied_tree (printed.Unavailable n) = lone (codes "unavailable") n

abbrev pub put_given : Option Object → Members → Members
put_given None ms = ms
put_given (Some o) ms = put (codes "object") (object_tree o) ms

abbrev pub put_asked_request : Key → ℕ → Members → Members
put_asked_request request version ms = put (codes "version") (natural version) (put (codes "request") (string (name_text request)) ms)

abbrev pub asked_tree : PrintedOrder → Data
asked_tree (asked.Key certificate number) = object (put (codes "number") (natural number) (put (codes "certificate") (string (name_text certificate)) (put (codes "is") (string (codes "key")) no_members)))
asked_tree (asked.Csr key body) = object (put (codes "key") (base64_text key) (put (codes "body") (base64_text body) (put (codes "is") (string (codes "csr")) no_members)))
asked_tree (asked.Sign number request version) = object (put_asked_request request version (put (codes "number") (natural number) (put (codes "is") (string (codes "sign")) no_members)))
asked_tree (asked.Judge request version) = object (put_asked_request request version (put (codes "is") (string (codes "judge")) no_members))

-- What the line of a call says before its object, and from that on.
abbrev pub put_call_head : CallName → List ℕ → Members → Members
put_call_head call key ms = put (codes "key") (string key) (put (codes "call") (string (word_of call)) (put (codes "is") (string (codes "call")) ms))

abbrev pub put_call_body : Option Object → Option ℕ → PrintedReply → Who → Members → Members
put_call_body given version reply who ms =
    put (codes "who") (who_tree who)
    (put_option natural (codes "version") version
    (put (codes "reply") (replied_tree reply)
    (put_given given ms)))

-- What a line says beside its number.
abbrev pub put_line : PrintedLine → Members → Members
put_line (lines.Script step) ms = put (codes "step") (natural step) (put (codes "is") (string (codes "script")) ms)
put_line (lines.Call call key given version reply who) ms = put_call_body given version reply who (put_call_head call key ms)
put_line (lines.Deliver role kind to) ms = put_told role kind to (put (codes "is") (string (codes "deliver")) ms)
put_line (lines.List role kind to) ms = put_told role kind to (put (codes "is") (string (codes "list")) ms)
put_line (lines.Begin pass role key at now) ms = put_begin role key at now (put_named (codes "begin") pass ms)
put_line (lines.Ask pass order) ms = put (codes "order") (asked_tree order) (put_named (codes "ask") pass ms)
put_line (lines.Made pass key) ms = put (codes "key") (base64_text key) (put_named (codes "made") pass ms)
put_line (lines.Signed pass signature) ms = put (codes "signature") (base64_text signature) (put_named (codes "signed") pass ms)
put_line (lines.Answered pass answer) ms = put (codes "answer") (answer_tree answer) (put_named (codes "answered") pass ms)
put_line (lines.Judged pass approved) ms = put (codes "yes") (boolean approved) (put_named (codes "judged") pass ms)
put_line (lines.End pass cause) ms = put (codes "cause") (cause_tree cause) (put_named (codes "end") pass ms)
put_line (lines.Stop role) ms = put (codes "role") (string (role_name role)) (put (codes "is") (string (codes "stop")) ms)
put_line (lines.Start role at) ms = put (codes "at") (natural at) (put (codes "role") (string (role_name role)) (put (codes "is") (string (codes "start")) ms))
put_line (lines.Tick now) ms = put (codes "now") (moment_tree now) (put (codes "is") (string (codes "tick")) ms)

-- The line of this number.
unfoldable pub line_tree : ℕ → PrintedLine → Data
line_tree n line = object (put_line line (put (codes "n") (natural n) no_members))
