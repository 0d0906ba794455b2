-- Which entries have lines of their form.
use Rattle.std.specs.Prelude.{◌≡◌, ℕ, ◌<◌, ◌^◌, List, true}
use Rattle.base64.specs.GeneralPurpose.{IsBytes}
use Rattle.cmc_meta.specs.Names.{is_subdomain}
use Rattle.cmc_meta.specs.declared.key.Kind.TheVariants.{Certificate}
use Rattle.cmc_time.specs.Moment.{IsPrintable}
use Rattle.cmc_objects.specs.declared.object.Object.TheVariants.{Request}
use Rattle.cmc_objects.specs.declared.call.Call.{Call}
use Rattle.cmc_objects.specs.declared.call.Call.TheVariants.{Create, Update, UpdateStatus, Delete, Get}
use Rattle.cmc_objects.specs.declared.call.Reply.{Reply}
use Rattle.cmc_objects.specs.declared.call.Reply.TheVariants as replies
use Rattle.cmc_objects.specs.declared.orders.Order.{Order}
use Rattle.cmc_objects.specs.declared.orders.Order.TheVariants as orders
use Rattle.cmc_objects.specs.declared.orders.Signing.{Signing}
use Rattle.cmc_objects.specs.declared.orders.Signing.TheVariants as answers
use Rattle.cmc_objects.specs.declared.entry.Entry.{Entry}
use Rattle.cmc_objects.specs.declared.entry.Entry.TheVariants as entries
use Rattle.cmc_objects.specs.Objects.{key_of}
use Rattle.cmc_objects.specs.Informers.{kind_of_work}
use Rattle.cmc_status_form.specs.Laws.{HasWholeForm}
use Rattle.cmc_summary_form.specs.SummaryForm.{HasNames, IsKeyOfKind}

abbrev pub HasCallForm : Call → Type 0
HasCallForm (Create object generate) = HasWholeForm object
HasCallForm (Update object version) = HasWholeForm object
HasCallForm (UpdateStatus object version) = HasWholeForm object
HasCallForm (Delete key version) = HasNames key
HasCallForm (Get key) = HasNames key

-- The name that an accepted create is answered with.
abbrev pub IsNameFor : Call → List ℕ → Type 0
IsNameFor (Create object generate) name = is_subdomain name ≡ true
IsNameFor other name = Unit {0}

abbrev pub HasReplyForm : Call → Reply → Type 0
HasReplyForm call (replies.Ok version name) = IsNameFor call name
HasReplyForm call (replies.Invalid rule) = rule < 2 ^ 32
HasReplyForm call other = Unit {0}

abbrev pub HasOrderForm : Order → Type 0
HasOrderForm (orders.Key o) = IsKeyOfKind Certificate o.certificate
HasOrderForm (orders.Csr o) = IsBytes o.key × IsBytes o.body
HasOrderForm (orders.Sign o) = HasNames (key_of (Request o.request))
HasOrderForm (orders.Judge o) = HasNames (key_of (Request o.request))

abbrev pub HasAnswerForm : Signing → Type 0
HasAnswerForm (answers.Issued certificate ca) = IsBytes certificate × IsBytes ca
HasAnswerForm answers.Pending = Unit {0}
HasAnswerForm (answers.Failed message) = Unit {0}

-- Names are names, octets are bytes, RFC 3339 writes each moment, and each object is of the form that is applied, with a status of
-- its form.
abbrev pub HasForm : Entry → Type 0
HasForm (entries.Script step) = Unit {0}
HasForm (entries.Call who call reply) = HasCallForm call × HasReplyForm call reply
HasForm (entries.Deliver role kind to) = Unit {0}
HasForm (entries.List role kind to) = Unit {0}
HasForm (entries.Begin pass role key at now) = IsKeyOfKind (kind_of_work role) key × IsPrintable now
HasForm (entries.Ask pass order) = HasOrderForm order
HasForm (entries.Made pass key) = IsBytes key
HasForm (entries.Signed pass signature) = IsBytes signature
HasForm (entries.Answered pass answer) = HasAnswerForm answer
HasForm (entries.Judged pass approved) = Unit {0}
HasForm (entries.End pass cause) = Unit {0}
HasForm (entries.Stop role) = Unit {0}
HasForm (entries.Start role at) = Unit {0}
HasForm (entries.Tick now) = IsPrintable now
