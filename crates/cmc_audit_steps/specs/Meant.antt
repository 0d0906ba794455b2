-- The histories that a printed one stands for.
use Rattle.std.specs.Prelude.{◌≡◌, List, [], ◌∷◌, map}
use Rattle.cmc_objects.specs.declared.object.Object.TheVariants.{Request}
use Rattle.cmc_objects.specs.declared.request.CertificateRequest.{CertificateRequest}
use Rattle.cmc_objects.specs.declared.call.Call.{Call}
use Rattle.cmc_objects.specs.declared.call.Reply.{Reply}
use Rattle.cmc_objects.specs.declared.orders.Order.{Order}
use Rattle.cmc_objects.specs.declared.orders.Order.TheVariants as orders
use Rattle.cmc_objects.specs.declared.entry.Entry.{Entry}
use Rattle.cmc_objects.specs.declared.entry.Entry.TheVariants.{Call as Called, Ask}
use Rattle.cmc_objects.specs.Objects.{key_of}
use Rattle.cmc_model.specs.Histories.{Setting, state}
use Rattle.cmc_model.specs.Replies.{IsReply}
use Rattle.cmc_model.specs.Versions.{HasVersion}
use Rattle.cmc_lines.specs.declared.line.PrintedLine.{PrintedLine}
use Rattle.cmc_lines.specs.Shown.{line_of_entry, shown_reply}
use Rattle.cmc_audit_calls.specs.CallsOfLines.{HasCallNames}

-- A reply that shows as the store's does is the store's: what is found is the object that is there.
abbrev pub IsStoresReply : Setting → List Entry → Call → Reply → Type 0
IsStoresReply s h call reply = (right : Reply) → IsReply s.faults (state s h) call right → shown_reply call right ≡ shown_reply call reply → reply ≡ right

-- The request of a question is the version that is named, where one was written.
abbrev pub IsVersionNamed : Setting → List Entry → CertificateRequest → Type 0
IsVersionNamed s h r = (q : CertificateRequest) → HasVersion s h (key_of (Request r)) (Request q) → q.meta.version ≡ r.meta.version → r ≡ q

abbrev pub IsNamedOrder : Setting → List Entry → Order → Type 0
IsNamedOrder s h (orders.Key order) = Unit {0}
IsNamedOrder s h (orders.Csr order) = Unit {0}
IsNamedOrder s h (orders.Sign order) = IsVersionNamed s h order.request
IsNamedOrder s h (orders.Judge order) = IsVersionNamed s h order.request

abbrev pub IsNamedEntry : Setting → List Entry → Entry → Type 0
IsNamedEntry s h (Called who call reply) = IsStoresReply s h call reply × HasCallNames call
IsNamedEntry s h (Ask pass order) = IsNamedOrder s h order
IsNamedEntry s h other = Unit {0}

unfoldable pub AreNamedEntries : Setting → List Entry → Type 0
AreNamedEntries s [] = Unit {0}
AreNamedEntries s (e ∷ h) = IsNamedEntry s h e × AreNamedEntries s h

-- The lines, the newest first, show this history. What no line says (rows of questions, what the store owns of an object that is
-- called with) may be anything: no clause reads it.
pub record IsMeant (s : Setting) (lines : List PrintedLine) (h : List Entry) : Type 0 where
  pub shows : map line_of_entry h ≡ lines
  pub named : AreNamedEntries s h
