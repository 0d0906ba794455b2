-- A run is a history that its own lines stand for: its replies are the store's, and its questions are about versions.
use Rattle.std.proofs.Common.{◌≡◌, ℕ, List, [], ◌∷◌, Option, Some, None, suc, sym, arith}
use Rattle.std.specs.Prelude.{All, IfSome}
use Rattle.cmc_meta.specs.declared.key.Key.{Key}
use Rattle.cmc_objects.specs.declared.object.Object.{Object}
use Rattle.cmc_objects.specs.declared.object.Object.TheVariants.{Request}
use Rattle.cmc_objects.specs.declared.request.CertificateRequest.{CertificateRequest}
use Rattle.cmc_objects.specs.declared.orders.Order.{Order}
use Rattle.cmc_objects.specs.declared.orders.Order.TheVariants as orders
use Rattle.cmc_objects.specs.declared.entry.Entry.{Entry}
use Rattle.cmc_objects.specs.declared.entry.Entry.TheVariants.{Call as Called, Ask}
use Rattle.cmc_objects.specs.Objects.{key_of}
use Rattle.cmc_pass.specs.declared.pass.Views.{Views}
use Rattle.cmc_model.specs.Histories.{Setting}
use Rattle.cmc_model.specs.Versions.{HasVersion}
use Rattle.cmc_model.specs.Writes.{writes}
use Rattle.cmc_rules.specs.declared.progress.OpenPass.{OpenPass}
use Rattle.cmc_rules.specs.Causes.{IsCaused, IsCausedEntry, MayAsk}
use Rattle.cmc_rules.specs.Legality.{IsLegal, IsLegalEntry}
use Rattle.cmc_rules.specs.Passes.{open_pass}
use Rattle.cmc_rules.specs.Sound.{IsQuestion}
use Rattle.cmc_rules.proofs.Sighted.{AreKnown, version_has_one_object}
use Rattle.cmc_rules.proofs.Sights.{seen_request}
use Rattle.cmc_rules.proofs.Versions.{version_keyed}
use Rattle.cmc_rules.proofs.WellSeen.{SawAll, saw_all}
use Rattle.cmc_safety.proofs.Course.{AreSound, question_of}
use Rattle.cmc_lines.specs.Shown.{line_of_entry}
use Rattle.cmc_audit_calls.proofs.OneReply.{one_reply}
use Rattle.cmc_audit_steps.specs.Meant.{IsVersionNamed, IsNamedOrder, IsNamedEntry, AreNamedEntries, IsMeant}
use Rattle.cmc_audit_laws.specs.AuditedYes.{NamesItsKey, NameTheirKeys}

-- ---- what is seen is a version under its key

same_request : (r q : CertificateRequest) → Request r ≡ Request q → r ≡ q
same_request r q e = cc e

seen_named : (s : Setting) (h : List Entry) (seen : Views) (r : CertificateRequest) → IsLegal s h → AreKnown (writes s h) seen → seen.request ≡ Some r → IsVersionNamed s h r
seen_named s h seen r legal known sees q has same =
    let stored = known (Request r) (seen_request seen r sees) in
    same_request r q (version_has_one_object s h stored.0 (key_of (Request r)) (Request r) (Request q) legal stored.1 has (sym same))

-- ---- questions

order_named : (s : Setting) (h : List Entry) (p : OpenPass) (order : Order) → IsLegal s h → AreKnown (writes s h) p.seen → IsQuestion p.role p.seen order → IsNamedOrder s h order
order_named s h p (orders.Key o) legal known question = tt
order_named s h p (orders.Csr o) legal known question = tt
order_named s h p (orders.Sign o) legal known question = seen_named s h p.seen o.request legal known question.1
order_named s h p (orders.Judge o) legal known question = seen_named s h p.seen o.request legal known question.1

asked_named : AreSound → (s : Setting) (h : List Entry) (n : ℕ) (x : Option OpenPass) (order : Order) → IsLegal s h → IfSome x (SawAll (writes s h)) → MayAsk s h x order → IsNamedOrder s h order
asked_named sound s h n None order legal saw may = absurd may
asked_named sound s h n (Some p) order legal saw may = order_named s h p order legal saw.known (question_of sound s h n p order saw may).question

-- ---- entries

entry_named : AreSound → (s : Setting) (h : List Entry) (e : Entry) → IsLegal s h → IsLegalEntry s h e → IsCausedEntry s h e → NamesItsKey e → IsNamedEntry s h e
entry_named sound s h (Called who call reply) legal here caused names = (λ right is shows. one_reply s.faults _ call reply right here.0 is, names)
entry_named sound s h (Ask pass order) legal here caused names = asked_named sound s h pass (open_pass s h pass) order legal (saw_all s h pass legal) caused
entry_named sound s h other legal here caused names = tt

-- ---- the entries of a list, one by one

first_of : (P : Entry → Type 0) (e : Entry) (h : List Entry) → All P (e ∷ h) → P e
first_of P e h all = all 0 e (omega arith)

rest_of : (P : Entry → Type 0) (e : Entry) (h : List Entry) → All P (e ∷ h) → All P h
rest_of P e h all k d low = all (suc k) d (omega (arith, low))

pub are_named : AreSound → (s : Setting) (h : List Entry) → IsLegal s h → IsCaused s h → NameTheirKeys h → AreNamedEntries s h
unfolding IsLegal IsCaused AreNamedEntries
are_named sound s [] legal caused names = tt
are_named sound s (e ∷ h) legal caused names = (entry_named sound s h e legal.1 legal.0 caused.0 (first_of NamesItsKey e h names), are_named sound s h legal.1 caused.1 (rest_of NamesItsKey e h names))
