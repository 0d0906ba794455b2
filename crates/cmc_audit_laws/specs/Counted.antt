-- The numbers of an entry fit 64 bits.
use Rattle.std.specs.Prelude.{ℕ, ◌<◌, ◌^◌, List, Option}
use Rattle.std.specs.List.{AllByRecursion}
use Rattle.cmc_objects.specs.declared.call.Call.{Call}
use Rattle.cmc_objects.specs.declared.call.Call.TheVariants.{Create, Update, UpdateStatus, Delete, Get}
use Rattle.cmc_objects.specs.declared.call.Reply.{Reply}
use Rattle.cmc_objects.specs.declared.call.Reply.TheVariants as replies
use Rattle.cmc_objects.specs.declared.orders.Order.{Order}
use Rattle.cmc_objects.specs.declared.orders.Order.TheVariants as orders
use Rattle.cmc_objects.specs.declared.entry.Who.{Who}
use Rattle.cmc_objects.specs.declared.entry.Who.TheVariants as who
use Rattle.cmc_objects.specs.declared.entry.Cause.{Cause}
use Rattle.cmc_objects.specs.declared.entry.Cause.TheVariants as causes
use Rattle.cmc_objects.specs.declared.entry.Positions.{Positions}
use Rattle.cmc_objects.specs.declared.entry.Entry.{Entry}
use Rattle.cmc_objects.specs.declared.entry.Entry.TheVariants.{Script, Call as Called, Deliver, List as Listed, Begin, Ask, Made, Signed, Answered, Judged, End, Stop, Start, Tick}
use Rattle.cmc_objects.specs.Objects.{version_of}
use Rattle.cmc_audit_laws.specs.Typed.{IsWide}

abbrev pub IsCount : ℕ → Type 0
IsCount n = n < 2 ^ 64

abbrev pub IsCountedWho : Who → Type 0
IsCountedWho who.User = Unit {0}
IsCountedWho (who.Pass pass) = IsCount pass

abbrev pub IsCountedCall : Call → Type 0
IsCountedCall (Create object generate) = Unit {0}
IsCountedCall (Update object named) = IsCount named
IsCountedCall (UpdateStatus object named) = IsCount named
IsCountedCall (Delete key named) = IsWide named
IsCountedCall (Get key) = Unit {0}

abbrev pub IsCountedReply : Reply → Type 0
IsCountedReply (replies.Ok version name) = IsCount version
IsCountedReply (replies.Unchanged version) = IsCount version
IsCountedReply (replies.Found object) = IsCount (version_of object)
IsCountedReply (replies.Conflict named have) = IsCount named × IsCount have
IsCountedReply (replies.NotFound at) = IsCount at
IsCountedReply (replies.AlreadyExists have) = IsCount have
IsCountedReply (replies.Invalid rule) = IsCount rule
IsCountedReply (replies.Unavailable number) = IsCount number

abbrev pub IsCountedOrder : Order → Type 0
IsCountedOrder (orders.Key order) = IsCount order.number
IsCountedOrder (orders.Csr order) = Unit {0}
IsCountedOrder (orders.Sign order) = IsCount order.number × IsCount order.request.meta.version
IsCountedOrder (orders.Judge order) = IsCount order.request.meta.version

abbrev pub IsCountedCause : Cause → Type 0
IsCountedCause causes.Wrote = Unit {0}
IsCountedCause causes.Nothing = Unit {0}
IsCountedCause (causes.Stopper entry) = IsCount entry

pub record AreCounted (at : Positions) : Type 0 where
  pub certificates : IsCount at.certificates
  pub requests : IsCount at.requests
  pub secrets : IsCount at.secrets

abbrev pub IsCountedEntry : Entry → Type 0
IsCountedEntry (Script step) = IsCount step
IsCountedEntry (Called who call reply) = IsCountedWho who × (IsCountedCall call × IsCountedReply reply)
IsCountedEntry (Deliver role kind to) = IsCount to
IsCountedEntry (Listed role kind to) = IsCount to
IsCountedEntry (Begin pass role key at now) = IsCount pass × AreCounted at
IsCountedEntry (Ask pass order) = IsCount pass × IsCountedOrder order
IsCountedEntry (Made pass key) = IsCount pass
IsCountedEntry (Signed pass signature) = IsCount pass
IsCountedEntry (Answered pass answer) = IsCount pass
IsCountedEntry (Judged pass approved) = IsCount pass
IsCountedEntry (End pass cause) = IsCount pass × IsCountedCause cause
IsCountedEntry (Stop role) = Unit {0}
IsCountedEntry (Start role at) = IsCount at
IsCountedEntry (Tick now) = Unit {0}

abbrev pub EachCounted : List Entry → Type 0
EachCounted h = AllByRecursion IsCountedEntry h
