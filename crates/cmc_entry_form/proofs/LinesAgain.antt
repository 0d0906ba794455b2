-- What the line of an entry of its form shows is read again of its tree.
use Rattle.std.proofs.Common.{◌≡◌, ℕ, List, Bool, true, false, Ok, Option, Some, None, refl, ap, ◌∙◌, ◌++◌, codes}
use Rattle.cmc_objects.specs.declared.object.Object.{Object}
use Rattle.cmc_objects.specs.declared.object.Object.TheVariants.{Cert, Request, Secret}
use Rattle.cmc_objects.specs.declared.call.Call.{Call}
use Rattle.cmc_objects.specs.declared.call.Call.TheVariants.{Create, Update, UpdateStatus, Delete, Get}
use Rattle.cmc_objects.specs.declared.call.Reply.{Reply}
use Rattle.cmc_objects.specs.declared.call.Reply.TheVariants as replies
use Rattle.cmc_objects.specs.declared.entry.Who.{Who}
use Rattle.cmc_objects.specs.declared.entry.Entry.{Entry}
use Rattle.cmc_objects.specs.declared.entry.Entry.TheVariants as entries
use Rattle.cmc_objects.specs.Objects.{key_of, name_of}
use Rattle.cmc_objects.specs.Informers.{kind_of_work}
use Rattle.cmc_print.specs.Printed.{object_tree}
use Rattle.cmc_report.specs.Trees.{put_told, put_begin}
use Rattle.cmc_codec.proofs.ObjectsAgain.{bytes_again}
use Rattle.cmc_status_form.specs.WholeForm.{whole_object_at}
use Rattle.cmc_status_form.specs.Laws.{HasWholeForm, as_printed}
use Rattle.cmc_status_form.proofs.Moments.{moment_again}
use Rattle.cmc_status_form.proofs.WholeAgain.{whole_again}
use Rattle.cmc_lines.specs.Shown.{line_of_entry, shown_object, shown_reply}
use Rattle.cmc_lines.specs.LineTree.{line_tree}
use Rattle.cmc_lines.proofs.LineLaws.{object_same}
use Rattle.cmc_lines.specs.declared.line.CallName.{CallName}
use Rattle.cmc_lines.specs.declared.line.CallName.TheVariants as names
use Rattle.cmc_lines.specs.declared.line.PrintedReply.{PrintedReply}
use Rattle.cmc_lines.specs.declared.line.PrintedLine.{PrintedLine}
use Rattle.cmc_lines.specs.declared.line.PrintedLine.TheVariants as lines
use Rattle.cmc_cursor.specs.Members.{Read}
use Rattle.cmc_print.specs.Words.{key_text}
use Rattle.cmc_entry_form.specs.LineForm.{line_at, script_in, deliver_line_in, list_in, stop_line_in, start_line_in, tick_line_in, begin_in, ask_in, made_in, signed_line_in, told_answer_in, judged_in, end_in, call_at, create_in, generate_in, update_in, delete_line_in, get_in, said_in, answered_in, answers_create, answers_other}
use Rattle.cmc_entry_form.specs.Entries.{HasForm, HasReplyForm, HasCallForm}
use Rattle.cmc_entry_form.proofs.NamesAgain.{named_again, key_again}
use Rattle.cmc_entry_form.proofs.PartsAgain.{role_again, kind_again, reply_again, who_again, order_again, answer_again, positions_again, cause_again}

-- ---- each reply is one to its call

fits_create : (o : Object) (generate : Bool) (reply : Reply) → answers_create (shown_reply (Create o generate) reply) ≡ true
fits_create o generate (replies.Ok version name) = refl
fits_create o generate (replies.Unchanged version) = refl
fits_create o generate (replies.Found x) = refl
fits_create o generate (replies.Conflict named have) = refl
fits_create o generate (replies.NotFound at) = refl
fits_create o generate (replies.AlreadyExists have) = refl
fits_create o generate (replies.Invalid rule) = refl
fits_create o generate (replies.Unavailable n) = refl

-- an accepted call that is no create is answered with a version alone
fits_other : (call : Call) (reply : Reply) → ((version : ℕ) (name : List ℕ) → answers_other (shown_reply call (replies.Ok version name)) ≡ true) → answers_other (shown_reply call reply) ≡ true
fits_other call (replies.Ok version name) accepted = accepted version name
fits_other call (replies.Unchanged version) accepted = refl
fits_other call (replies.Found x) accepted = refl
fits_other call (replies.Conflict named have) accepted = refl
fits_other call (replies.NotFound at) accepted = refl
fits_other call (replies.AlreadyExists have) accepted = refl
fits_other call (replies.Invalid rule) accepted = refl
fits_other call (replies.Unavailable n) accepted = refl

-- ---- calls

pub shown_is : (o : Object) → as_printed o ≡ shown_object o
shown_is (Cert c) = refl
shown_is (Request r) = refl
shown_is (Secret k) = refl

key_shown : (o : Object) → key_text (key_of (shown_object o)) ≡ key_text (key_of o)
key_shown (Cert c) = refl
key_shown (Request r) = refl
key_shown (Secret k) = refl

prefix_shown : (o : Object) → name_of (shown_object o) ++ codes "-" ≡ name_of o ++ codes "-"
prefix_shown (Cert c) = refl
prefix_shown (Request r) = refl
prefix_shown (Secret k) = refl

-- what was read of a call
abbrev called : CallName → List ℕ → Option Object → Option ℕ → PrintedReply → Who → Read PrintedLine
called name key given version reply who = Ok (lines.Call name key given version reply who)

-- the object of a call, without what the store owns
object_again : (o : Object) → HasWholeForm o → whole_object_at (object_tree (shown_object o)) ≡ Ok (shown_object o)
object_again o is = ap whole_object_at (object_same o) ∙ whole_again o is ∙ ap (λ x. Ok x) (shown_is o)

call_again : (n : ℕ) (who : Who) (call : Call) (reply : Reply) → HasCallForm call → HasReplyForm call reply → line_at (line_tree n (line_of_entry (entries.Call who call reply))) ≡ Ok (line_of_entry (entries.Call who call reply))
unfolding line_at line_tree call_at create_in generate_in update_in delete_line_in get_in said_in answered_in
call_again n who (Create o false) reply is said = rw (object_again o is, reply_again (Create o false) reply said, who_again who, fits_create o false reply) (ap (λ k. called names.Create k (Some (shown_object o)) None (shown_reply (Create o false) reply) who) (key_shown o))
call_again n who (Create o true) reply is said = rw (object_again o is, reply_again (Create o true) reply said, who_again who, fits_create o true reply) (ap (λ k. called names.Generate k (Some (shown_object o)) None (shown_reply (Create o true) reply) who) (prefix_shown o))
call_again n who (Update o v) reply is said = rw (object_again o is, reply_again (Update o v) reply said, who_again who, fits_other (Update o v) reply (λ version name. refl)) (ap (λ k. called names.Update k (Some (shown_object o)) (Some v) (shown_reply (Update o v) reply) who) (key_shown o))
call_again n who (UpdateStatus o v) reply is said = rw (object_again o is, reply_again (UpdateStatus o v) reply said, who_again who, fits_other (UpdateStatus o v) reply (λ version name. refl)) (ap (λ k. called names.UpdateStatus k (Some (shown_object o)) (Some v) (shown_reply (UpdateStatus o v) reply) who) (key_shown o))
call_again n who (Delete key None) reply is said = rw (key_again key is, reply_again (Delete key None) reply said, who_again who, fits_other (Delete key None) reply (λ version name. refl)) refl
call_again n who (Delete key (Some v)) reply is said = rw (key_again key is, reply_again (Delete key (Some v)) reply said, who_again who, fits_other (Delete key (Some v)) reply (λ version name. refl)) refl
call_again n who (Get key) reply is said = rw (key_again key is, reply_again (Get key) reply said, who_again who, fits_other (Get key) reply (λ version name. refl)) refl

-- ---- all entries

pub line_again : (n : ℕ) (e : Entry) → HasForm e → line_at (line_tree n (line_of_entry e)) ≡ Ok (line_of_entry e)
unfolding line_at line_tree put_told put_begin script_in deliver_line_in list_in stop_line_in start_line_in tick_line_in begin_in ask_in made_in signed_line_in told_answer_in judged_in end_in
line_again n (entries.Script step) is = refl
line_again n (entries.Call who call reply) is = call_again n who call reply is.0 is.1
line_again n (entries.Deliver role kind to) is = rw (role_again role, kind_again kind) refl
line_again n (entries.List role kind to) is = rw (role_again role, kind_again kind) refl
line_again n (entries.Begin pass role key at now) is = rw (role_again role, named_again (kind_of_work role) key is.0, positions_again at, moment_again now is.1) refl
line_again n (entries.Ask pass order) is = rw (order_again order is) refl
line_again n (entries.Made pass key) is = rw (bytes_again key is) refl
line_again n (entries.Signed pass signature) is = rw (bytes_again signature is) refl
line_again n (entries.Answered pass answer) is = rw (answer_again answer is) refl
line_again n (entries.Judged pass approved) is = refl
line_again n (entries.End pass cause) is = rw (cause_again cause) refl
line_again n (entries.Stop role) is = rw (role_again role) refl
line_again n (entries.Start role at) is = rw (role_again role) refl
line_again n (entries.Tick now) is = rw (moment_again now is) refl
