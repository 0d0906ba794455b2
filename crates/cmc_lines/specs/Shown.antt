-- What a line of a printed history shows of an entry: all but the line's number and what is not printed.
use Rattle.std.specs.Prelude.{ℕ, pos, List, true, false, Option, Some, None}
use Rattle.cmc_meta.specs.declared.object_meta.ObjectMeta.{ObjectMeta}
use Rattle.cmc_objects.specs.declared.object.Object.{Object}
use Rattle.cmc_objects.specs.declared.object.Object.TheVariants as objects
use Rattle.cmc_objects.specs.declared.call.Call.{Call}
use Rattle.cmc_objects.specs.declared.call.Call.TheVariants.{Create, Update, UpdateStatus, Delete, Get}
use Rattle.cmc_objects.specs.declared.call.Reply.{Reply}
use Rattle.cmc_objects.specs.declared.call.Reply.TheVariants as replies
use Rattle.cmc_objects.specs.declared.orders.Order.{Order}
use Rattle.cmc_objects.specs.declared.orders.Order.TheVariants as orders
use Rattle.cmc_objects.specs.declared.entry.Entry.{Entry}
use Rattle.cmc_objects.specs.declared.entry.Entry.TheVariants as entries
use Rattle.cmc_objects.specs.Objects.{key_of, version_of}
use Rattle.cmc_report.specs.Trees.{call_key}
use Rattle.cmc_lines.specs.declared.line.CallName.{CallName}
use Rattle.cmc_lines.specs.declared.line.CallName.TheVariants as names
use Rattle.cmc_lines.specs.declared.line.PrintedReply.{PrintedReply}
use Rattle.cmc_lines.specs.declared.line.PrintedReply.TheVariants as printed
use Rattle.cmc_lines.specs.declared.line.PrintedOrder.{PrintedOrder}
use Rattle.cmc_lines.specs.declared.line.PrintedOrder.TheVariants as asked
use Rattle.cmc_lines.specs.declared.line.PrintedLine.{PrintedLine}
use Rattle.cmc_lines.specs.declared.line.PrintedLine.TheVariants as lines

-- ---- objects

-- The metadata without what the store owns.
abbrev pub shown_meta : ObjectMeta → ObjectMeta
shown_meta m = record m { uid = 0; version = 0; generation = 0; created = pos 0 }

-- The object, with its status, without what the store owns.
abbrev pub shown_object : Object → Object
shown_object (objects.Cert c) = objects.Cert (record c { meta = shown_meta c.meta })
shown_object (objects.Request r) = objects.Request (record r { meta = shown_meta r.meta })
shown_object (objects.Secret k) = objects.Secret (record k { meta = shown_meta k.meta })

-- ---- calls and replies

abbrev pub shown_name : Call → CallName
shown_name (Create object false) = names.Create
shown_name (Create object true) = names.Generate
shown_name (Update object version) = names.Update
shown_name (UpdateStatus object version) = names.UpdateStatus
shown_name (Delete key version) = names.Delete
shown_name (Get key) = names.Get

abbrev pub shown_given : Call → Option Object
shown_given (Create object generate) = Some (shown_object object)
shown_given (Update object version) = Some (shown_object object)
shown_given (UpdateStatus object version) = Some (shown_object object)
shown_given (Delete key version) = None
shown_given (Get key) = None

abbrev pub shown_version : Call → Option ℕ
shown_version (Create object generate) = None
shown_version (Update object version) = Some version
shown_version (UpdateStatus object version) = Some version
shown_version (Delete key version) = version
shown_version (Get key) = None

abbrev pub shown_ok : Call → ℕ → List ℕ → PrintedReply
shown_ok (Create object generate) version name = printed.Created name version
shown_ok other version name = printed.Ok version

abbrev pub shown_reply : Call → Reply → PrintedReply
shown_reply call (replies.Ok version name) = shown_ok call version name
shown_reply call (replies.Unchanged version) = printed.Unchanged version
shown_reply call (replies.Found object) = printed.Found (version_of object)
shown_reply call (replies.Conflict named have) = printed.Conflict named have
shown_reply call (replies.NotFound at) = printed.NotFound at
shown_reply call (replies.AlreadyExists have) = printed.AlreadyExists have
shown_reply call (replies.Invalid rule) = printed.Invalid rule
shown_reply call (replies.Unavailable number) = printed.Unavailable number

abbrev pub shown_order : Order → PrintedOrder
shown_order (orders.Key o) = asked.Key o.certificate o.number
shown_order (orders.Csr o) = asked.Csr o.key o.body
shown_order (orders.Sign o) = asked.Sign o.number (key_of (objects.Request o.request)) o.request.meta.version
shown_order (orders.Judge o) = asked.Judge (key_of (objects.Request o.request)) o.request.meta.version

-- ---- entries

abbrev pub line_of_entry : Entry → PrintedLine
line_of_entry (entries.Script step) = lines.Script step
line_of_entry (entries.Call who call reply) = lines.Call (shown_name call) (call_key call) (shown_given call) (shown_version call) (shown_reply call reply) who
line_of_entry (entries.Deliver role kind to) = lines.Deliver role kind to
line_of_entry (entries.List role kind to) = lines.List role kind to
line_of_entry (entries.Begin pass role key at now) = lines.Begin pass role key at now
line_of_entry (entries.Ask pass order) = lines.Ask pass (shown_order order)
line_of_entry (entries.Made pass key) = lines.Made pass key
line_of_entry (entries.Signed pass signature) = lines.Signed pass signature
line_of_entry (entries.Answered pass answer) = lines.Answered pass answer
line_of_entry (entries.Judged pass approved) = lines.Judged pass approved
line_of_entry (entries.End pass cause) = lines.End pass cause
line_of_entry (entries.Stop role) = lines.Stop role
line_of_entry (entries.Start role at) = lines.Start role at
line_of_entry (entries.Tick now) = lines.Tick now
