-- The form of the line of an entry that is read. Whether no other member stands, and which number the line has, is not looked at
-- here: what was read is printed again, and compared with the line.
use Rattle.std.specs.Prelude.{ℕ, List, [], ◌∷◌, ◌++◌, codes, Bool, true, false, if◌then◌else◌, Ok, Err, Some, None}
use Rattle.std.specs.declared.option.Option.{Option}
use Rattle.std.specs.Str.{bytes_eq}
use Rattle.serde_json.specs.Data.{Data}
use Rattle.serde_json.specs.Find.{get, as_str}
use Rattle.cmc_meta.specs.declared.key.Kind.{Kind}
use Rattle.cmc_meta.specs.declared.key.Kind.TheVariants.{Certificate, CertificateRequest}
use Rattle.cmc_meta.specs.declared.key.Key.{Key}
use Rattle.cmc_objects.specs.declared.entry.Who.{Who}
use Rattle.cmc_objects.specs.declared.entry.Who.TheVariants.{User, Pass}
use Rattle.cmc_objects.specs.declared.entry.Cause.{Cause}
use Rattle.cmc_objects.specs.declared.entry.Cause.TheVariants as causes
use Rattle.cmc_objects.specs.declared.entry.Positions.{Positions}
use Rattle.cmc_objects.specs.declared.orders.Signing.{Signing}
use Rattle.cmc_objects.specs.declared.orders.Signing.TheVariants as answers
use Rattle.cmc_objects.specs.Objects.{key_of, name_of}
use Rattle.cmc_objects.specs.Informers.{kind_of_work}
use Rattle.cmc_print.specs.Words.{key_text}
use Rattle.cmc_cursor.specs.Members.{Read, ◌>>=◌, Field, fields_at}
use Rattle.cmc_cursor.specs.Readers.{found, text_at, name_at, count_at, small_count_at, flag_at, bytes_at}
use Rattle.cmc_material.specs.Keys.{key_of_kind, key_at}
use Rattle.cmc_scenario.specs.Roles.{role_at, kind_at}
use Rattle.cmc_status_form.specs.ConditionForm.{moment_at}
use Rattle.cmc_status_form.specs.WholeForm.{whole_object_at}
use Rattle.cmc_lines.specs.declared.line.CallName.{CallName}
use Rattle.cmc_lines.specs.declared.line.CallName.TheVariants as names
use Rattle.cmc_lines.specs.declared.line.PrintedReply.{PrintedReply}
use Rattle.cmc_lines.specs.declared.line.PrintedReply.TheVariants as printed
use Rattle.cmc_lines.specs.declared.line.PrintedOrder.{PrintedOrder}
use Rattle.cmc_lines.specs.declared.line.PrintedOrder.TheVariants as asked
use Rattle.cmc_lines.specs.declared.line.PrintedLine.{PrintedLine}
use Rattle.cmc_lines.specs.declared.line.PrintedLine.TheVariants as lines

-- ---- members

-- The member of that name, read in this way.
abbrev pub member_as : {A : Type 0} → (Data → Read A) → List ℕ → Data → Read A
member_as read name d = found (get name d) >>= read

abbrev pub given_as : {A : Type 0} → (Data → Read A) → Option Data → Read (Option A)
given_as read None = Ok None
given_as read (Some d) = read d >>= (λ x. Ok (Some x))

-- The same of one that may be left out.
abbrev pub optional_as : {A : Type 0} → (Data → Read A) → List ℕ → Data → Read (Option A)
optional_as read name d = given_as read (get name d)

-- A key of this kind, written `namespace/name`.
abbrev pub named_at : Kind → Data → Read Key
named_at kind d = text_at d >>= key_of_kind kind

-- ---- replies

abbrev pub first_in : List Field → Read Field
first_in [] = Err []
first_in (f ∷ fs) = Ok f

-- The first member of an object.
abbrev pub first_member_at : Data → Read Field
first_member_at d = fields_at d >>= first_in

unfoldable pub created_in : Data → Read PrintedReply
created_in d = do
  name ← member_as name_at (codes "name") d
  version ← member_as count_at (codes "ok") d
  Ok (printed.Created name version)

unfoldable pub conflict_at : Data → Read PrintedReply
conflict_at d = do
  named ← member_as count_at (codes "named") d
  have ← member_as count_at (codes "have") d
  Ok (printed.Conflict named have)

-- A reply of one number.
abbrev pub numbered_reply : (ℕ → PrintedReply) → Data → Read PrintedReply
numbered_reply reply d = count_at d >>= (λ n. Ok (reply n))

abbrev pub refused_in : List ℕ → Data → Read PrintedReply
refused_in name value = if bytes_eq name (codes "conflict") then conflict_at value
    else (if bytes_eq name (codes "notFound") then numbered_reply (λ at. printed.NotFound at) value
    else (if bytes_eq name (codes "alreadyExists") then numbered_reply (λ have. printed.AlreadyExists have) value
    else (if bytes_eq name (codes "invalid") then small_count_at value >>= (λ rule. Ok (printed.Invalid rule))
    else (if bytes_eq name (codes "unavailable") then numbered_reply (λ number. printed.Unavailable number) value else Err []))))

-- The name of the first member decides.
abbrev pub reply_in : Data → Field → Read PrintedReply
reply_in d first = if bytes_eq first.0 (codes "name") then created_in d
    else (if bytes_eq first.0 (codes "ok") then numbered_reply (λ version. printed.Ok version) first.1
    else (if bytes_eq first.0 (codes "unchanged") then numbered_reply (λ version. printed.Unchanged version) first.1
    else (if bytes_eq first.0 (codes "found") then numbered_reply (λ version. printed.Found version) first.1
    else refused_in first.0 first.1)))

unfoldable pub reply_at : Data → Read PrintedReply
reply_at d = first_member_at d >>= reply_in d

-- An accepted create is answered with a name, and no other call is.
abbrev pub answers_create : PrintedReply → Bool
answers_create (printed.Ok version) = false
answers_create other = true

abbrev pub answers_other : PrintedReply → Bool
answers_other (printed.Created name version) = false
answers_other other = true

-- ---- calls

abbrev pub who_named : List ℕ → Read Who
who_named word = if bytes_eq word (codes "user") then Ok User else Err []

abbrev pub who_in : Data → Option (List ℕ) → Read Who
who_in d None = count_at d >>= (λ n. Ok (Pass n))
who_in d (Some word) = who_named word

unfoldable pub who_at : Data → Read Who
who_at d = who_in d (as_str d)

-- The reply, and by whom the call is.
unfoldable pub said_in : Data → Read (PrintedReply × Who)
said_in d = do
  reply ← member_as reply_at (codes "reply") d
  who ← member_as who_at (codes "who") d
  Ok (reply, who)

-- The same, where the reply is one to such a call.
unfoldable pub answered_in : (PrintedReply → Bool) → Data → Read (PrintedReply × Who)
answered_in fits d = said_in d >>= (λ said. if fits said.0 then Ok said else Err [])

unfoldable pub create_in : Data → Read PrintedLine
create_in d = do
  object ← member_as whole_object_at (codes "object") d
  answered ← answered_in answers_create d
  Ok (lines.Call names.Create (key_text (key_of object)) (Some object) None answered.0 answered.1)

-- A generated name is told by its prefix.
unfoldable pub generate_in : Data → Read PrintedLine
generate_in d = do
  object ← member_as whole_object_at (codes "object") d
  answered ← answered_in answers_create d
  Ok (lines.Call names.Generate (name_of object ++ codes "-") (Some object) None answered.0 answered.1)

unfoldable pub update_in : CallName → Data → Read PrintedLine
update_in call d = do
  object ← member_as whole_object_at (codes "object") d
  version ← member_as count_at (codes "version") d
  answered ← answered_in answers_other d
  Ok (lines.Call call (key_text (key_of object)) (Some object) (Some version) answered.0 answered.1)

unfoldable pub delete_line_in : Data → Read PrintedLine
delete_line_in d = do
  key ← member_as key_at (codes "key") d
  version ← optional_as count_at (codes "version") d
  answered ← answered_in answers_other d
  Ok (lines.Call names.Delete (key_text key) None version answered.0 answered.1)

unfoldable pub get_in : Data → Read PrintedLine
get_in d = do
  key ← member_as key_at (codes "key") d
  answered ← answered_in answers_other d
  Ok (lines.Call names.Get (key_text key) None None answered.0 answered.1)

abbrev pub call_in : Data → List ℕ → Read PrintedLine
call_in d word = if bytes_eq word (codes "create") then create_in d
    else (if bytes_eq word (codes "generate") then generate_in d
    else (if bytes_eq word (codes "update") then update_in names.Update d
    else (if bytes_eq word (codes "updateStatus") then update_in names.UpdateStatus d
    else (if bytes_eq word (codes "delete") then delete_line_in d
    else (if bytes_eq word (codes "get") then get_in d else Err [])))))

unfoldable pub call_at : Data → Read PrintedLine
call_at d = member_as text_at (codes "call") d >>= call_in d

-- ---- handed-out work and its answers

unfoldable pub key_order_in : Data → Read PrintedOrder
key_order_in d = do
  certificate ← member_as (named_at Certificate) (codes "certificate") d
  number ← member_as count_at (codes "number") d
  Ok (asked.Key certificate number)

unfoldable pub csr_order_in : Data → Read PrintedOrder
csr_order_in d = do
  key ← member_as bytes_at (codes "key") d
  body ← member_as bytes_at (codes "body") d
  Ok (asked.Csr key body)

unfoldable pub sign_order_in : Data → Read PrintedOrder
sign_order_in d = do
  number ← member_as count_at (codes "number") d
  request ← member_as (named_at CertificateRequest) (codes "request") d
  version ← member_as count_at (codes "version") d
  Ok (asked.Sign number request version)

unfoldable pub judge_order_in : Data → Read PrintedOrder
judge_order_in d = do
  request ← member_as (named_at CertificateRequest) (codes "request") d
  version ← member_as count_at (codes "version") d
  Ok (asked.Judge request version)

abbrev pub order_in : Data → List ℕ → Read PrintedOrder
order_in d word = if bytes_eq word (codes "key") then key_order_in d
    else (if bytes_eq word (codes "csr") then csr_order_in d
    else (if bytes_eq word (codes "sign") then sign_order_in d
    else (if bytes_eq word (codes "judge") then judge_order_in d else Err [])))

unfoldable pub order_at : Data → Read PrintedOrder
order_at d = member_as text_at (codes "is") d >>= order_in d

-- No CA's certificate counts as an empty one.
abbrev pub or_empty : Option (List ℕ) → List ℕ
or_empty None = []
or_empty (Some bytes) = bytes

unfoldable pub issued_in : Data → Read Signing
issued_in d = do
  certificate ← member_as bytes_at (codes "certificate") d
  ca ← optional_as bytes_at (codes "ca") d
  Ok (answers.Issued certificate (or_empty ca))

unfoldable pub failed_in : Data → Read Signing
failed_in d = do
  message ← member_as text_at (codes "message") d
  Ok (answers.Failed message)

abbrev pub answer_read_in : Data → List ℕ → Read Signing
answer_read_in d word = if bytes_eq word (codes "issued") then issued_in d
    else (if bytes_eq word (codes "pending") then Ok answers.Pending
    else (if bytes_eq word (codes "failed") then failed_in d else Err []))

unfoldable pub answer_at : Data → Read Signing
answer_at d = member_as text_at (codes "is") d >>= answer_read_in d

-- ---- passes

unfoldable pub positions_at : Data → Read Positions
positions_at d = do
  certificates ← member_as count_at (codes "Certificate") d
  requests ← member_as count_at (codes "CertificateRequest") d
  secrets ← member_as count_at (codes "Secret") d
  Ok (record { certificates = certificates; requests = requests; secrets = secrets })

abbrev pub cause_named : List ℕ → Read Cause
cause_named word = if bytes_eq word (codes "wrote") then Ok causes.Wrote
    else (if bytes_eq word (codes "nothing") then Ok causes.Nothing else Err [])

abbrev pub cause_in : Data → Option (List ℕ) → Read Cause
cause_in d None = member_as count_at (codes "entry") d >>= (λ entry. Ok (causes.Stopper entry))
cause_in d (Some word) = cause_named word

unfoldable pub cause_at : Data → Read Cause
cause_at d = cause_in d (as_str d)

-- The pass is on a key of the kind that its role works on.
unfoldable pub begin_in : Data → Read PrintedLine
begin_in d = do
  pass ← member_as count_at (codes "pass") d
  role ← member_as role_at (codes "role") d
  key ← member_as (named_at (kind_of_work role)) (codes "key") d
  at ← member_as positions_at (codes "at") d
  now ← member_as moment_at (codes "now") d
  Ok (lines.Begin pass role key at now)

unfoldable pub ask_in : Data → Read PrintedLine
ask_in d = do
  pass ← member_as count_at (codes "pass") d
  order ← member_as order_at (codes "order") d
  Ok (lines.Ask pass order)

unfoldable pub made_in : Data → Read PrintedLine
made_in d = do
  pass ← member_as count_at (codes "pass") d
  key ← member_as bytes_at (codes "key") d
  Ok (lines.Made pass key)

unfoldable pub signed_line_in : Data → Read PrintedLine
signed_line_in d = do
  pass ← member_as count_at (codes "pass") d
  signature ← member_as bytes_at (codes "signature") d
  Ok (lines.Signed pass signature)

unfoldable pub told_answer_in : Data → Read PrintedLine
told_answer_in d = do
  pass ← member_as count_at (codes "pass") d
  answer ← member_as answer_at (codes "answer") d
  Ok (lines.Answered pass answer)

unfoldable pub judged_in : Data → Read PrintedLine
judged_in d = do
  pass ← member_as count_at (codes "pass") d
  approved ← member_as flag_at (codes "yes") d
  Ok (lines.Judged pass approved)

unfoldable pub end_in : Data → Read PrintedLine
end_in d = do
  pass ← member_as count_at (codes "pass") d
  cause ← member_as cause_at (codes "cause") d
  Ok (lines.End pass cause)

abbrev pub pass_in : Data → List ℕ → Read PrintedLine
pass_in d word = if bytes_eq word (codes "begin") then begin_in d
    else (if bytes_eq word (codes "ask") then ask_in d
    else (if bytes_eq word (codes "made") then made_in d
    else (if bytes_eq word (codes "signed") then signed_line_in d
    else (if bytes_eq word (codes "answered") then told_answer_in d
    else (if bytes_eq word (codes "judged") then judged_in d
    else (if bytes_eq word (codes "end") then end_in d else Err []))))))

-- ---- all others

unfoldable pub script_in : Data → Read PrintedLine
script_in d = do
  step ← member_as count_at (codes "step") d
  Ok (lines.Script step)

unfoldable pub deliver_line_in : Data → Read PrintedLine
deliver_line_in d = do
  role ← member_as role_at (codes "role") d
  kind ← member_as kind_at (codes "kind") d
  to ← member_as count_at (codes "to") d
  Ok (lines.Deliver role kind to)

unfoldable pub list_in : Data → Read PrintedLine
list_in d = do
  role ← member_as role_at (codes "role") d
  kind ← member_as kind_at (codes "kind") d
  to ← member_as count_at (codes "to") d
  Ok (lines.List role kind to)

unfoldable pub stop_line_in : Data → Read PrintedLine
stop_line_in d = do
  role ← member_as role_at (codes "role") d
  Ok (lines.Stop role)

unfoldable pub start_line_in : Data → Read PrintedLine
start_line_in d = do
  role ← member_as role_at (codes "role") d
  at ← member_as count_at (codes "at") d
  Ok (lines.Start role at)

unfoldable pub tick_line_in : Data → Read PrintedLine
tick_line_in d = do
  now ← member_as moment_at (codes "now") d
  Ok (lines.Tick now)

-- The word decides the form of the members.
abbrev pub line_in : Data → List ℕ → Read PrintedLine
line_in d word = if bytes_eq word (codes "script") then script_in d
    else (if bytes_eq word (codes "call") then call_at d
    else (if bytes_eq word (codes "deliver") then deliver_line_in d
    else (if bytes_eq word (codes "list") then list_in d
    else (if bytes_eq word (codes "stop") then stop_line_in d
    else (if bytes_eq word (codes "start") then start_line_in d
    else (if bytes_eq word (codes "tick") then tick_line_in d else pass_in d word))))))

unfoldable pub line_at : Data → Read PrintedLine
line_at d = member_as text_at (codes "is") d >>= line_in d
