-- What is read of a line is shown by an entry of its form.
use Rattle.std.proofs.Common.{◌≡◌, ℕ, ◌<◌, ◌^◌, arith, List, [], Bool, true, false, Ok, Err, Option, Some, None, refl, ap, sym, ◌∙◌, ◌++◌, codes}
use Rattle.std.specs.Prelude.{if◌then◌else◌, nat_lt}
use Rattle.std.proofs.lemmas.Bool.Decides.{nat_tests}
use Rattle.std.specs.Str.{bytes_eq}
use Rattle.serde_json.specs.Data.{Data}
use Rattle.serde_json.specs.Find.{get}
use Rattle.cmc_meta.specs.Names.{is_subdomain}
use Rattle.cmc_meta.specs.declared.key.Key.{Key}
use Rattle.cmc_meta.specs.declared.key.Kind.{Kind}
use Rattle.cmc_meta.specs.declared.key.Kind.TheVariants.{Certificate, CertificateRequest}
use Rattle.cmc_time.specs.Moment.{IsPrintable}
use Rattle.cmc_objects.specs.declared.object.Object.{Object}
use Rattle.cmc_objects.specs.declared.call.Call.{Call}
use Rattle.cmc_objects.specs.declared.call.Call.TheVariants.{Create, Update, UpdateStatus, Delete, Get}
use Rattle.cmc_objects.specs.declared.entry.Who.{Who}
use Rattle.cmc_objects.specs.declared.entry.Entry.TheVariants as entries
use Rattle.cmc_objects.specs.declared.orders.Signing.{Signing}
use Rattle.cmc_objects.specs.declared.orders.Signing.TheVariants as answers
use Rattle.cmc_objects.specs.Objects.{key_of, name_of}
use Rattle.cmc_objects.specs.Informers.{kind_of_work}
use Rattle.cmc_print.specs.Words.{key_text}
use Rattle.cmc_cursor.specs.Members.{Read, ◌>>=◌, Field}
use Rattle.cmc_cursor.specs.Readers.{found, text_at, name_in, name_at, count_at, small_count_at, flag_at, bytes_at}
use Rattle.cmc_cursor.proofs.Always.{Always, so, failed, next, after, further}
use Rattle.cmc_material.specs.Keys.{split_slash, kind_in, key_of_kind, key_of_text, key_at}
use Rattle.cmc_scenario.specs.Roles.{role_at, kind_at}
use Rattle.cmc_status_form.specs.ConditionForm.{moment_at}
use Rattle.cmc_status_form.specs.WholeForm.{whole_object_at}
use Rattle.cmc_status_form.specs.Laws.{HasWholeForm, HasFormRead}
use Rattle.cmc_status_form.proofs.Moments.{moment_so}
use Rattle.cmc_report.specs.Trees.{call_key}
use Rattle.cmc_lines.specs.Shown.{shown_object, shown_name, shown_reply, shown_order}
use Rattle.cmc_lines.proofs.EntryLike.{reply_like, order_like, request_named}
use Rattle.cmc_lines.specs.declared.line.CallName.{CallName}
use Rattle.cmc_lines.specs.declared.line.CallName.TheVariants as names
use Rattle.cmc_lines.specs.declared.line.PrintedReply.{PrintedReply}
use Rattle.cmc_lines.specs.declared.line.PrintedReply.TheVariants as printed
use Rattle.cmc_lines.specs.declared.line.PrintedOrder.{PrintedOrder}
use Rattle.cmc_lines.specs.declared.line.PrintedOrder.TheVariants as asked
use Rattle.cmc_lines.specs.declared.line.PrintedLine.{PrintedLine}
use Rattle.cmc_lines.specs.declared.line.PrintedLine.TheVariants as lines
use Rattle.cmc_entry_form.specs.LineForm.{member_as, optional_as, named_at, first_member_at, created_in, conflict_at, numbered_reply, refused_in, reply_in, reply_at, answers_create, answers_other, who_at, said_in, answered_in, create_in, generate_in, update_in, delete_line_in, get_in, call_in, call_at, key_order_in, csr_order_in, sign_order_in, judge_order_in, order_in, order_at, answer_at, positions_at, cause_at, begin_in, ask_in, made_in, signed_line_in, told_answer_in, judged_in, end_in, pass_in, script_in, deliver_line_in, list_in, stop_line_in, start_line_in, tick_line_in, line_in, line_at}
use Rattle.cmc_summary_form.specs.SummaryForm.{HasNames, IsKeyOfKind}
use Rattle.cmc_summary_form.proofs.NamesAgain.{key_so as key_text_so}
use Rattle.cmc_entry_form.specs.Entries.{HasReplyForm, HasOrderForm}
use Rattle.cmc_entry_form.specs.Lines.{IsFormedLine, IsFormedRead, HasOctets, OrderHasOctets}
use Rattle.cmc_entry_form.proofs.LinesAgain.{shown_is}

-- ---- members

itself : {A : Type 0} (r : Read A) → Always (λ x. r ≡ Ok x) r
itself r = record { each = λ x e. e }

-- what is read of a member is so, where what is read in this way is
member_so : {A : Type 0} (P : A → Type 0) (read : Data → Read A) (name : List ℕ) (d : Data) → ((v : Data) → Always P (read v)) → Always P (member_as read name d)
member_so P read name d each = next P (found (get name d)) read each

-- a test that is passed
tested : {A : Type 0} (P : A → Type 0) (b : Bool) (x : A) → (b ≡ true → P x) → Always P (if b then Ok x else Err [])
tested P true x is = so (is refl)
tested P false x is = failed []

-- either of two readings
choose : {A : Type 0} {P : A → Type 0} {x y : Read A} (b : Bool) → Always P x → Always P y → Always P (if b then x else y)
choose true first second = first
choose false first second = second

-- ---- keys

name_so : (t : List ℕ) → Always (λ n. is_subdomain n ≡ true) (name_in t)
name_so t = tested (λ n. is_subdomain n ≡ true) (is_subdomain t) t (λ h. h)

named_so : (kind : Kind) (d : Data) → Always (IsKeyOfKind kind) (named_at kind d)
named_so kind d = next (IsKeyOfKind kind) (text_at d) (key_of_kind kind) (key_text_so kind)

whole_so : (t : List ℕ) → Always HasNames (key_of_text t)
unfolding key_of_text
whole_so t =
    next HasNames (split_slash t) _ (λ parts. next HasNames (kind_in parts.0) _
    (λ kind. further (IsKeyOfKind kind) HasNames (key_of_kind kind parts.1) (λ key is. is.1) (key_text_so kind parts.1)))

key_so : (d : Data) → Always HasNames (key_at d)
key_so d = next HasNames (text_at d) key_of_text whole_so

-- ---- replies

-- the name of a created object is a name, and the number of a rule has 32 bits
abbrev IsReplyForm : PrintedReply → Type 0
IsReplyForm (printed.Created name version) = is_subdomain name ≡ true
IsReplyForm (printed.Invalid rule) = rule < 2 ^ 32
IsReplyForm other = Unit {0}

numbered_so : (reply : ℕ → PrintedReply) (d : Data) → ((n : ℕ) → IsReplyForm (reply n)) → Always IsReplyForm (numbered_reply reply d)
numbered_so reply d each = next IsReplyForm (count_at d) _ (λ n. so (each n))

below : (n m : ℕ) → nat_lt n m ≡ true → n < m
below n m h = grind (arith, nat_tests)

small_so : (d : Data) → Always (λ n. n < 2 ^ 32) (small_count_at d)
small_so d = next (λ n. n < 2 ^ 32) (count_at d) _ (λ n. tested (λ m. m < 2 ^ 32) (nat_lt n (2 ^ 32)) n (λ h. below n (2 ^ 32) h))

created_so : (d : Data) → Always IsReplyForm (created_in d)
unfolding created_in
created_so d =
    after (λ n. is_subdomain n ≡ true) IsReplyForm (member_as name_at (codes "name") d) _ (member_so (λ n. is_subdomain n ≡ true) name_at (codes "name") d (λ v. next (λ n. is_subdomain n ≡ true) (text_at v) name_in name_so))
    (λ name is. next IsReplyForm (member_as count_at (codes "ok") d) _ (λ version. so is))

conflict_so : (d : Data) → Always IsReplyForm (conflict_at d)
unfolding conflict_at
conflict_so d = next IsReplyForm (member_as count_at (codes "named") d) _ (λ named. next IsReplyForm (member_as count_at (codes "have") d) _ (λ have. so tt))

invalid_so : (d : Data) → Always IsReplyForm (small_count_at d >>= (λ rule. Ok (printed.Invalid rule)))
invalid_so d = after (λ n. n < 2 ^ 32) IsReplyForm (small_count_at d) _ (small_so d) (λ rule is. so is)

refused_so : (name : List ℕ) (v : Data) → Always IsReplyForm (refused_in name v)
refused_so name v =
    choose (bytes_eq name (codes "conflict")) (conflict_so v) (choose (bytes_eq name (codes "notFound")) (numbered_so (λ n. printed.NotFound n) v (λ n. tt))
    (choose (bytes_eq name (codes "alreadyExists")) (numbered_so (λ n. printed.AlreadyExists n) v (λ n. tt))
    (choose (bytes_eq name (codes "invalid")) (invalid_so v)
    (choose (bytes_eq name (codes "unavailable")) (numbered_so (λ n. printed.Unavailable n) v (λ n. tt)) (failed [])))))

first_so : (d : Data) (f : Field) → Always IsReplyForm (reply_in d f)
first_so d f =
    choose (bytes_eq f.0 (codes "name")) (created_so d) (choose (bytes_eq f.0 (codes "ok")) (numbered_so (λ n. printed.Ok n) f.1 (λ n. tt))
    (choose (bytes_eq f.0 (codes "unchanged")) (numbered_so (λ n. printed.Unchanged n) f.1 (λ n. tt))
    (choose (bytes_eq f.0 (codes "found")) (numbered_so (λ n. printed.Found n) f.1 (λ n. tt)) (refused_so f.0 f.1))))

reply_so : (d : Data) → Always IsReplyForm (reply_at d)
unfolding reply_at
reply_so d = next IsReplyForm (first_member_at d) (reply_in d) (first_so d)

-- a reply like it is of its form, and shows as it
abbrev IsLike : Call → PrintedReply → Type 0
IsLike call r = HasReplyForm call (reply_like r) × (shown_reply call (reply_like r) ≡ r)

create_like : (o : Object) (generate : Bool) (r : PrintedReply) → IsReplyForm r → answers_create r ≡ true → IsLike (Create o generate) r
create_like o generate (printed.Created name version) is fits = (is, refl)
create_like o generate (printed.Ok version) is fits = cc
create_like o generate (printed.Unchanged version) is fits = (tt, refl)
create_like o generate (printed.Found version) is fits = (tt, refl)
create_like o generate (printed.Conflict named have) is fits = (tt, refl)
create_like o generate (printed.NotFound at) is fits = (tt, refl)
create_like o generate (printed.AlreadyExists have) is fits = (tt, refl)
create_like o generate (printed.Invalid rule) is fits = (is, refl)
create_like o generate (printed.Unavailable number) is fits = (tt, refl)

other_like : (call : Call) (r : PrintedReply) → IsReplyForm r → answers_other r ≡ true → ((version : ℕ) → IsLike call (printed.Ok version)) → IsLike call r
other_like call (printed.Created name version) is fits accepted = cc
other_like call (printed.Ok version) is fits accepted = accepted version
other_like call (printed.Unchanged version) is fits accepted = (tt, refl)
other_like call (printed.Found version) is fits accepted = (tt, refl)
other_like call (printed.Conflict named have) is fits accepted = (tt, refl)
other_like call (printed.NotFound at) is fits accepted = (tt, refl)
other_like call (printed.AlreadyExists have) is fits accepted = (tt, refl)
other_like call (printed.Invalid rule) is fits accepted = (is, refl)
other_like call (printed.Unavailable number) is fits accepted = (tt, refl)

-- ---- calls

abbrev IsAnswer : (PrintedReply → Bool) → PrintedReply × Who → Type 0
IsAnswer fits p = IsReplyForm p.0 × (fits p.0 ≡ true)

said_so : (d : Data) → Always (λ p. IsReplyForm p.0) (said_in d)
unfolding said_in
said_so d =
    after IsReplyForm (λ p. IsReplyForm p.0) (member_as reply_at (codes "reply") d) _ (member_so IsReplyForm reply_at (codes "reply") d reply_so)
    (λ reply is. next (λ p. IsReplyForm p.0) (member_as who_at (codes "who") d) _ (λ who. so is))

answered_so : (fits : PrintedReply → Bool) (d : Data) → Always (IsAnswer fits) (answered_in fits d)
unfolding answered_in
answered_so fits d = after (λ p. IsReplyForm p.0) (IsAnswer fits) (said_in d) _ (said_so d) (λ said is. tested (IsAnswer fits) (fits said.0) said (λ h. (is, h)))

-- what is read, if its octets are bytes, is shown by an entry of its form
abbrev Shows : PrintedLine → Type 0
Shows line = HasOctets line → IsFormedLine line

-- a value that is read as the object
abbrev IsWhole : Object → Type 0
IsWhole o = (d : Data) × (whole_object_at d ≡ Ok o)

object_so : (d : Data) → Always IsWhole (member_as whole_object_at (codes "object") d)
object_so d = member_so IsWhole whole_object_at (codes "object") d (λ v. record { each = λ o e. (v, e) })

whole : (o : Object) → IsWhole o → HasFormRead o → HasWholeForm o × (shown_object o ≡ o)
whole o is read = let form = read is.0 is.1 in (form.0, sym (shown_is o) ∙ form.1)

create_shows : (o : Object) (generate : Bool) (name : CallName) (key : List ℕ) (r : PrintedReply) (who : Who) → IsWhole o → IsAnswer answers_create (r, who)
    → shown_name (Create o generate) ≡ name → call_key (Create o generate) ≡ key → Shows (lines.Call name key (Some o) None r who)
create_shows o generate name key r who is answer named keyed octets =
    let form = whole o is octets in
    let like = create_like o generate r answer.0 answer.1 in (
      entries.Call who (Create o generate) (reply_like r),
      (form.0, like.0),
      ap (λ n. lines.Call n (call_key (Create o generate)) (Some (shown_object o)) None (shown_reply (Create o generate) (reply_like r)) who) named
          ∙ ap (λ k. lines.Call name k (Some (shown_object o)) None (shown_reply (Create o generate) (reply_like r)) who) keyed
          ∙ ap (λ (x : Object). lines.Call name key (Some x) None (shown_reply (Create o generate) (reply_like r)) who) form.1
          ∙ ap (λ x. lines.Call name key (Some o) None x who) like.1,
    )

create_so : (d : Data) → Always Shows (create_in d)
unfolding create_in
create_so d =
    after IsWhole Shows (member_as whole_object_at (codes "object") d) _ (object_so d)
    (λ o is. after (IsAnswer answers_create) Shows (answered_in answers_create d) _ (answered_so answers_create d)
    (λ answered fits. so (create_shows o false names.Create (key_text (key_of o)) answered.0 answered.1 is fits refl refl)))

generate_so : (d : Data) → Always Shows (generate_in d)
unfolding generate_in
generate_so d =
    after IsWhole Shows (member_as whole_object_at (codes "object") d) _ (object_so d)
    (λ o is. after (IsAnswer answers_create) Shows (answered_in answers_create d) _ (answered_so answers_create d)
    (λ answered fits. so (create_shows o true names.Generate (name_of o ++ codes "-") answered.0 answered.1 is fits refl refl)))

update_shows : (o : Object) (version : ℕ) (r : PrintedReply) (who : Who) → IsWhole o → IsAnswer answers_other (r, who) → Shows (lines.Call names.Update (key_text (key_of o)) (Some o) (Some version) r who)
update_shows o version r who is answer octets =
    let form = whole o is octets in
    let like = other_like (Update o version) r answer.0 answer.1 (λ v. (tt, refl)) in (
      entries.Call who (Update o version) (reply_like r),
      (form.0, like.0),
      ap (λ (x : Object). lines.Call names.Update (key_text (key_of o)) (Some x) (Some version) (shown_reply (Update o version) (reply_like r)) who) form.1
          ∙ ap (λ x. lines.Call names.Update (key_text (key_of o)) (Some o) (Some version) x who) like.1,
    )

status_shows : (o : Object) (version : ℕ) (r : PrintedReply) (who : Who) → IsWhole o → IsAnswer answers_other (r, who) → Shows (lines.Call names.UpdateStatus (key_text (key_of o)) (Some o) (Some version) r who)
status_shows o version r who is answer octets =
    let form = whole o is octets in
    let like = other_like (UpdateStatus o version) r answer.0 answer.1 (λ v. (tt, refl)) in (
      entries.Call who (UpdateStatus o version) (reply_like r),
      (form.0, like.0),
      ap (λ (x : Object). lines.Call names.UpdateStatus (key_text (key_of o)) (Some x) (Some version) (shown_reply (UpdateStatus o version) (reply_like r)) who) form.1
          ∙ ap (λ x. lines.Call names.UpdateStatus (key_text (key_of o)) (Some o) (Some version) x who) like.1,
    )

update_so : (d : Data) → Always Shows (update_in names.Update d)
unfolding update_in
update_so d =
    after IsWhole Shows (member_as whole_object_at (codes "object") d) _ (object_so d)
    (λ o is. next Shows (member_as count_at (codes "version") d) _
    (λ version. after (IsAnswer answers_other) Shows (answered_in answers_other d) _ (answered_so answers_other d)
    (λ answered fits. so (update_shows o version answered.0 answered.1 is fits))))

status_so : (d : Data) → Always Shows (update_in names.UpdateStatus d)
unfolding update_in
status_so d =
    after IsWhole Shows (member_as whole_object_at (codes "object") d) _ (object_so d)
    (λ o is. next Shows (member_as count_at (codes "version") d) _
    (λ version. after (IsAnswer answers_other) Shows (answered_in answers_other d) _ (answered_so answers_other d)
    (λ answered fits. so (status_shows o version answered.0 answered.1 is fits))))

delete_shows : (key : Key) (version : Option ℕ) (r : PrintedReply) (who : Who) → HasNames key → IsAnswer answers_other (r, who) → Shows (lines.Call names.Delete (key_text key) None version r who)
delete_shows key version r who is answer octets =
    let like = other_like (Delete key version) r answer.0 answer.1 (λ v. (tt, refl)) in
    (entries.Call who (Delete key version) (reply_like r), (is, like.0), ap (λ x. lines.Call names.Delete (key_text key) None version x who) like.1)

get_shows : (key : Key) (r : PrintedReply) (who : Who) → HasNames key → IsAnswer answers_other (r, who) → Shows (lines.Call names.Get (key_text key) None None r who)
get_shows key r who is answer octets =
    let like = other_like (Get key) r answer.0 answer.1 (λ v. (tt, refl)) in
    (entries.Call who (Get key) (reply_like r), (is, like.0), ap (λ x. lines.Call names.Get (key_text key) None None x who) like.1)

named_key_so : (d : Data) → Always HasNames (member_as key_at (codes "key") d)
named_key_so d = member_so HasNames key_at (codes "key") d key_so

delete_so : (d : Data) → Always Shows (delete_line_in d)
unfolding delete_line_in
delete_so d =
    after HasNames Shows (member_as key_at (codes "key") d) _ (named_key_so d)
    (λ key is. next Shows (optional_as count_at (codes "version") d) _
    (λ version. after (IsAnswer answers_other) Shows (answered_in answers_other d) _ (answered_so answers_other d)
    (λ answered fits. so (delete_shows key version answered.0 answered.1 is fits))))

get_so : (d : Data) → Always Shows (get_in d)
unfolding get_in
get_so d =
    after HasNames Shows (member_as key_at (codes "key") d) _ (named_key_so d)
    (λ key is. after (IsAnswer answers_other) Shows (answered_in answers_other d) _ (answered_so answers_other d)
    (λ answered fits. so (get_shows key answered.0 answered.1 is fits)))

call_so : (d : Data) → Always Shows (call_at d)
unfolding call_at
call_so d = next Shows (member_as text_at (codes "call") d) (call_in d)
    (λ word. choose (bytes_eq word (codes "create")) (create_so d) (choose (bytes_eq word (codes "generate")) (generate_so d)
    (choose (bytes_eq word (codes "update")) (update_so d) (choose (bytes_eq word (codes "updateStatus")) (status_so d)
    (choose (bytes_eq word (codes "delete")) (delete_so d) (choose (bytes_eq word (codes "get")) (get_so d) (failed [])))))))

-- ---- handed-out work

-- an order like it is of its form, and shows as it
abbrev OrderShows : PrintedOrder → Type 0
OrderShows o = OrderHasOctets o → HasOrderForm (order_like o) × (shown_order (order_like o) ≡ o)

sign_shows : (number : ℕ) (request : Key) (version : ℕ) → IsKeyOfKind CertificateRequest request → OrderShows (asked.Sign number request version)
sign_shows number request version is octets = (is.1, ap (λ k. asked.Sign number k version) (request_named request version is.0))

judge_shows : (request : Key) (version : ℕ) → IsKeyOfKind CertificateRequest request → OrderShows (asked.Judge request version)
judge_shows request version is octets = (is.1, ap (λ k. asked.Judge k version) (request_named request version is.0))

request_so : (d : Data) → Always (IsKeyOfKind CertificateRequest) (member_as (named_at CertificateRequest) (codes "request") d)
request_so d = member_so (IsKeyOfKind CertificateRequest) (named_at CertificateRequest) (codes "request") d (named_so CertificateRequest)

key_order_so : (d : Data) → Always OrderShows (key_order_in d)
unfolding key_order_in
key_order_so d =
    after (IsKeyOfKind Certificate) OrderShows (member_as (named_at Certificate) (codes "certificate") d) _ (member_so (IsKeyOfKind Certificate) (named_at Certificate) (codes "certificate") d (named_so Certificate))
    (λ certificate is. next OrderShows (member_as count_at (codes "number") d) _ (λ number. so (λ octets. (is, refl))))

csr_order_so : (d : Data) → Always OrderShows (csr_order_in d)
unfolding csr_order_in
csr_order_so d = next OrderShows (member_as bytes_at (codes "key") d) _ (λ key. next OrderShows (member_as bytes_at (codes "body") d) _ (λ body. so (λ octets. (octets, refl))))

sign_order_so : (d : Data) → Always OrderShows (sign_order_in d)
unfolding sign_order_in
sign_order_so d =
    next OrderShows (member_as count_at (codes "number") d) _
    (λ number. after (IsKeyOfKind CertificateRequest) OrderShows (member_as (named_at CertificateRequest) (codes "request") d) _ (request_so d)
    (λ request is. next OrderShows (member_as count_at (codes "version") d) _ (λ version. so (sign_shows number request version is))))

judge_order_so : (d : Data) → Always OrderShows (judge_order_in d)
unfolding judge_order_in
judge_order_so d =
    after (IsKeyOfKind CertificateRequest) OrderShows (member_as (named_at CertificateRequest) (codes "request") d) _ (request_so d)
    (λ request is. next OrderShows (member_as count_at (codes "version") d) _ (λ version. so (judge_shows request version is)))

order_so : (d : Data) → Always OrderShows (order_at d)
unfolding order_at
order_so d = next OrderShows (member_as text_at (codes "is") d) (order_in d)
    (λ word. choose (bytes_eq word (codes "key")) (key_order_so d) (choose (bytes_eq word (codes "csr")) (csr_order_so d)
    (choose (bytes_eq word (codes "sign")) (sign_order_so d) (choose (bytes_eq word (codes "judge")) (judge_order_so d) (failed [])))))

-- ---- passes

begin_so : (d : Data) → Always Shows (begin_in d)
unfolding begin_in
begin_so d =
    next Shows (member_as count_at (codes "pass") d) _ (λ pass. next Shows (member_as role_at (codes "role") d) _
    (λ role. after (IsKeyOfKind (kind_of_work role)) Shows (member_as (named_at (kind_of_work role)) (codes "key") d) _ (member_so (IsKeyOfKind (kind_of_work role)) (named_at (kind_of_work role)) (codes "key") d (named_so (kind_of_work role)))
    (λ key is. next Shows (member_as positions_at (codes "at") d) _
    (λ at. after IsPrintable Shows (member_as moment_at (codes "now") d) _ (member_so IsPrintable moment_at (codes "now") d moment_so)
    (λ now dated. so (λ octets. (entries.Begin pass role key at now, (is, dated), refl)))))))

ask_shows : (pass : ℕ) (order : PrintedOrder) → OrderShows order → Shows (lines.Ask pass order)
ask_shows pass order is octets = (entries.Ask pass (order_like order), (is octets).0, ap (λ o. lines.Ask pass o) (is octets).1)

ask_so : (d : Data) → Always Shows (ask_in d)
unfolding ask_in
ask_so d =
    next Shows (member_as count_at (codes "pass") d) _
    (λ pass. after OrderShows Shows (member_as order_at (codes "order") d) _ (member_so OrderShows order_at (codes "order") d order_so) (λ order is. so (ask_shows pass order is)))

made_so : (d : Data) → Always Shows (made_in d)
unfolding made_in
made_so d = next Shows (member_as count_at (codes "pass") d) _ (λ pass. next Shows (member_as bytes_at (codes "key") d) _ (λ key. so (λ octets. (entries.Made pass key, octets, refl))))

signed_so : (d : Data) → Always Shows (signed_line_in d)
unfolding signed_line_in
signed_so d = next Shows (member_as count_at (codes "pass") d) _ (λ pass. next Shows (member_as bytes_at (codes "signature") d) _ (λ signature. so (λ octets. (entries.Signed pass signature, octets, refl))))

answer_shows : (pass : ℕ) (answer : Signing) → Shows (lines.Answered pass answer)
answer_shows pass (answers.Issued certificate ca) octets = (entries.Answered pass (answers.Issued certificate ca), octets, refl)
answer_shows pass answers.Pending octets = (entries.Answered pass answers.Pending, octets, refl)
answer_shows pass (answers.Failed message) octets = (entries.Answered pass (answers.Failed message), octets, refl)

told_answer_so : (d : Data) → Always Shows (told_answer_in d)
unfolding told_answer_in
told_answer_so d = next Shows (member_as count_at (codes "pass") d) _ (λ pass. next Shows (member_as answer_at (codes "answer") d) _ (λ answer. so (answer_shows pass answer)))

judged_so : (d : Data) → Always Shows (judged_in d)
unfolding judged_in
judged_so d = next Shows (member_as count_at (codes "pass") d) _ (λ pass. next Shows (member_as flag_at (codes "yes") d) _ (λ approved. so (λ octets. (entries.Judged pass approved, tt, refl))))

end_so : (d : Data) → Always Shows (end_in d)
unfolding end_in
end_so d = next Shows (member_as count_at (codes "pass") d) _ (λ pass. next Shows (member_as cause_at (codes "cause") d) _ (λ cause. so (λ octets. (entries.End pass cause, tt, refl))))

pass_so : (d : Data) (word : List ℕ) → Always Shows (pass_in d word)
pass_so d word =
    choose (bytes_eq word (codes "begin")) (begin_so d) (choose (bytes_eq word (codes "ask")) (ask_so d) (choose (bytes_eq word (codes "made")) (made_so d)
    (choose (bytes_eq word (codes "signed")) (signed_so d) (choose (bytes_eq word (codes "answered")) (told_answer_so d)
    (choose (bytes_eq word (codes "judged")) (judged_so d) (choose (bytes_eq word (codes "end")) (end_so d) (failed [])))))))

-- ---- all others

script_so : (d : Data) → Always Shows (script_in d)
unfolding script_in
script_so d = next Shows (member_as count_at (codes "step") d) _ (λ step. so (λ octets. (entries.Script step, tt, refl)))

deliver_so : (d : Data) → Always Shows (deliver_line_in d)
unfolding deliver_line_in
deliver_so d =
    next Shows (member_as role_at (codes "role") d) _ (λ role. next Shows (member_as kind_at (codes "kind") d) _
    (λ kind. next Shows (member_as count_at (codes "to") d) _ (λ to. so (λ octets. (entries.Deliver role kind to, tt, refl)))))

list_so : (d : Data) → Always Shows (list_in d)
unfolding list_in
list_so d =
    next Shows (member_as role_at (codes "role") d) _ (λ role. next Shows (member_as kind_at (codes "kind") d) _
    (λ kind. next Shows (member_as count_at (codes "to") d) _ (λ to. so (λ octets. (entries.List role kind to, tt, refl)))))

stop_so : (d : Data) → Always Shows (stop_line_in d)
unfolding stop_line_in
stop_so d = next Shows (member_as role_at (codes "role") d) _ (λ role. so (λ octets. (entries.Stop role, tt, refl)))

start_so : (d : Data) → Always Shows (start_line_in d)
unfolding start_line_in
start_so d = next Shows (member_as role_at (codes "role") d) _ (λ role. next Shows (member_as count_at (codes "at") d) _ (λ at. so (λ octets. (entries.Start role at, tt, refl))))

tick_so : (d : Data) → Always Shows (tick_line_in d)
unfolding tick_line_in
tick_so d = after IsPrintable Shows (member_as moment_at (codes "now") d) _ (member_so IsPrintable moment_at (codes "now") d moment_so) (λ now dated. so (λ octets. (entries.Tick now, dated, refl)))

line_so : (d : Data) → Always Shows (line_at d)
unfolding line_at
line_so d = next Shows (member_as text_at (codes "is") d) (line_in d)
    (λ word. choose (bytes_eq word (codes "script")) (script_so d) (choose (bytes_eq word (codes "call")) (call_so d)
    (choose (bytes_eq word (codes "deliver")) (deliver_so d) (choose (bytes_eq word (codes "list")) (list_so d)
    (choose (bytes_eq word (codes "stop")) (stop_so d) (choose (bytes_eq word (codes "start")) (start_so d)
    (choose (bytes_eq word (codes "tick")) (tick_so d) (pass_so d word))))))))

-- what was read, if its octets are bytes, is shown by an entry of its form
pub line_formed : (line : PrintedLine) → HasOctets line → IsFormedRead line
line_formed line octets d read = (line_so d).each line read octets
