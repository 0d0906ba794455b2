-- Each entry that brings what a run brings, of which its types are kept, has a line of its form.
use Rattle.std.proofs.Common.{◌≡◌, ℕ, ℤ, List, [], ◌∷◌, Option, Some, None, true, arith}
use Rattle.std.proofs.lemmas.Int.{ints}
use Rattle.std.specs.Prelude.{IfSome, neg_ℤ, pos, ◌≤ℤ◌}
use Rattle.std.specs.List.{AllByRecursion}
use Rattle.cmc_time.specs.Moment.{IsPrintable}
use Rattle.cmc_meta.specs.declared.conditions.Condition.{Condition}
use Rattle.cmc_objects.specs.declared.certificate.CertStatus.{CertStatus}
use Rattle.cmc_objects.specs.declared.request.RequestStatus.{RequestStatus}
use Rattle.cmc_objects.specs.declared.object.Object.{Object}
use Rattle.cmc_objects.specs.declared.object.Object.TheVariants.{Cert, Request, Secret}
use Rattle.cmc_objects.specs.declared.call.Call.{Call}
use Rattle.cmc_objects.specs.declared.call.Call.TheVariants.{Create, Update, UpdateStatus, Delete, Get}
use Rattle.cmc_objects.specs.declared.call.Reply.{Reply}
use Rattle.cmc_objects.specs.declared.call.Reply.TheVariants as replies
use Rattle.cmc_objects.specs.declared.orders.Order.{Order}
use Rattle.cmc_objects.specs.declared.orders.Order.TheVariants as orders
use Rattle.cmc_objects.specs.declared.orders.Signing.{Signing}
use Rattle.cmc_objects.specs.declared.orders.Signing.TheVariants as answers
use Rattle.cmc_objects.specs.declared.entry.Entry.{Entry}
use Rattle.cmc_objects.specs.declared.entry.Entry.TheVariants.{Script, Call as Called, Deliver, List as Listed, Begin, Ask, Made, Signed, Answered, Judged, End, Stop, Start, Tick}
use Rattle.cmc_objects.specs.Requests.{is_run_time}
use Rattle.cmc_policies.specs.Renewal.{IsCertificateTime}
use Rattle.cmc_print.specs.Printed.{object_tree}
use Rattle.cmc_codec.specs.Laws.{HasBytes, bare}
use Rattle.cmc_rules.specs.Dates.{IsDatedOption, AreDated, IsDatedStatus, IsDatedAnswer, IsDated}
use Rattle.cmc_safety.proofs.Moments.{in_years}
use Rattle.cmc_status_form.specs.Laws.{HasMoment, HasMoments, IsCertStatus, IsRequestStatus, HasStatusForm, HasWholeForm}
use Rattle.cmc_entry_form.specs.Entries.{HasCallForm, IsNameFor, HasReplyForm, HasOrderForm, HasAnswerForm, HasForm}
use Rattle.cmc_audit_laws.specs.Given.{IsGiven, BringsGiven, IsForCertificate, IsGivenEntry, AreGiven}
use Rattle.cmc_audit_laws.specs.Typed.{IsTypedStatus, IsTypedAnswer, IsTypedObject, IsTypedCall, IsTypedReply, IsTypedOrder, IsTypedValue, IsTypedEntry, AreTyped}
use Rattle.cmc_audit_laws.proofs.Readable.{bare_read}

-- ---- moments

printable : (at : ℤ) → IsCertificateTime at → IsPrintable at
printable at is = (omega (arith, ints, is.0), omega (arith, ints, is.1))

printable_given : (o : Option ℤ) → IsDatedOption o → HasMoments o
printable_given None is = tt
printable_given (Some at) is = printable at is

conditions_given : (cs : List Condition) → AreDated cs → AllByRecursion HasMoment cs
conditions_given [] dated = tt
conditions_given (c ∷ cs) dated = (printable c.since dated.0, conditions_given cs dated.1)

-- ---- statuses and objects

status_given : (s : CertStatus) → IsTypedStatus s → IsDatedStatus s → IsCertStatus s
status_given s typed dated = record {
  conditions = record { order = typed.order; moments = conditions_given s.conditions dated.conditions };
  attempts = typed.attempts;
  last_failure = printable_given s.last_failure dated.last_failure;
  next_key = typed.next_key;
  not_after = printable_given s.not_after dated.not_after;
  not_before = printable_given s.not_before dated.not_before;
  renewal = printable_given s.renewal dated.renewal;
  revision = typed.revision;
}

answer_given : (s : RequestStatus) → IsTypedAnswer s → IsDatedAnswer s → IsRequestStatus s
answer_given s typed dated = record {
  ca = typed.ca;
  certificate = typed.certificate;
  conditions = record { order = typed.order; moments = conditions_given s.conditions dated.conditions };
  failure = printable_given s.failure dated.failure;
}

any_status : (o : Object) → IsTypedObject o → IsDated (Some o) → HasStatusForm o
any_status (Cert c) typed dated = status_given c.status typed.status dated
any_status (Request r) typed dated = answer_given r.status typed.status dated
any_status (Secret k) typed dated = tt

has_bytes : (o : Object) → IsTypedObject o → HasBytes o
has_bytes (Cert c) typed = tt
has_bytes (Request r) typed = typed.request
has_bytes (Secret k) typed = typed.parts

whole : (o : Object) → IsTypedObject o → IsGiven o → HasWholeForm o
whole o typed given = record { value = object_tree (bare o); is_read = bare_read o typed given.0; bytes = has_bytes o typed; status = any_status o typed given.1 }

-- ---- entries

call_formed : (call : Call) → IsTypedCall call → BringsGiven call → HasCallForm call
call_formed (Create object generate) typed given = whole object typed given
call_formed (Update object named) typed given = whole object typed given
call_formed (UpdateStatus object named) typed given = whole object typed given
call_formed (Delete key named) typed given = typed
call_formed (Get key) typed given = typed

name_for : (call : Call) (name : List ℕ) (version : ℕ) → IsTypedReply (replies.Ok version name) → IsNameFor call name
name_for (Create object generate) name version typed = typed
name_for other name version typed = tt

reply_formed : (call : Call) (reply : Reply) → IsTypedReply reply → HasReplyForm call reply
reply_formed call (replies.Ok version name) typed = name_for call name version typed
reply_formed call (replies.Invalid rule) typed = typed
reply_formed call other typed = tt

order_formed : (order : Order) → IsTypedOrder order → IsForCertificate order → HasOrderForm order
order_formed (orders.Key o) typed given = (given, typed)
order_formed (orders.Csr o) typed given = typed
order_formed (orders.Sign o) typed given = typed
order_formed (orders.Judge o) typed given = typed

value_formed : (answer : Signing) → IsTypedValue answer → HasAnswerForm answer
value_formed (answers.Issued certificate ca) typed = typed
value_formed answers.Pending typed = tt
value_formed (answers.Failed message) typed = tt

entry_formed : (e : Entry) → IsTypedEntry e → IsGivenEntry e → HasForm e
entry_formed (Called who call reply) typed given = (call_formed call typed.0 given, reply_formed call reply typed.1)
entry_formed (Begin pass role key at now) typed given = ((given.0, typed), printable now (in_years now given.1))
entry_formed (Ask pass order) typed given = order_formed order typed given
entry_formed (Made pass key) typed given = typed
entry_formed (Signed pass signature) typed given = typed
entry_formed (Answered pass answer) typed given = value_formed answer typed
entry_formed (Tick now) typed given = printable now (in_years now given)
entry_formed other typed given = tt

pub are_formed : (h : List Entry) → AreTyped h → AreGiven h → AllByRecursion HasForm h
are_formed [] typed given = tt
are_formed (e ∷ h) typed given = (entry_formed e typed.0 given.0, are_formed h typed.1 given.1)
