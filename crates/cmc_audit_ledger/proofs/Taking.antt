-- A call that the store has answered is taken in.
use Rattle.std.proofs.Common.{◌≡◌, List, ◌∷◌, Bool, true, false, Option, Some, None, refl, sym, ap, subst, ◌∙◌}
use Rattle.std.specs.Prelude.{if◌then◌else◌, ◌&&◌}
use Rattle.cmc_meta.specs.declared.key.Key.{Key}
use Rattle.cmc_objects.specs.declared.object.Object.{Object}
use Rattle.cmc_objects.specs.declared.call.Call.{Call}
use Rattle.cmc_objects.specs.declared.call.Reply.{Reply}
use Rattle.cmc_objects.specs.declared.entry.Who.{Who}
use Rattle.cmc_objects.specs.declared.entry.Entry.{Entry}
use Rattle.cmc_objects.specs.declared.entry.Entry.TheVariants as entries
use Rattle.cmc_model.specs.declared.write.Write.{Write}
use Rattle.cmc_model.specs.Replies.{is_accepted, key_of_call, settled, stored}
use Rattle.cmc_model.specs.Histories.{Setting}
use Rattle.cmc_audit_state.specs.Heard.{writes_lasting, is_served}
use Rattle.cmc_audit_state.specs.OpenRows.{Opened}
use Rattle.cmc_audit_ledger.specs.declared.ledger.Ledger.{Ledger}
use Rattle.cmc_audit_ledger.specs.CallRows.{HasBegun, ReadsBy, RowsNoted, IsServedBy, writes_over}
use Rattle.cmc_audit_ledger.specs.EntryCounts.{entry_counted}
use Rattle.cmc_audit_ledger.specs.Ledgers.{IsLedgerOf}
use Rattle.cmc_audit_ledger.proofs.Events.{called_on}

written_by : (b : Bool) (key : Key) (object : Option Object) (ws : List Write) → writes_over ws (if b then Some key else None) (if b then object else None) ≡ (if b then record { key = key; object = object } ∷ ws else ws)
written_by true key object ws = refl
written_by false key object ws = refl

pub taken_in : (s : Setting) (h : List Entry) (before now : Ledger) (ws : List Write) (passes : Opened) (who : Who) (call : Call) (reply : Reply) (key : Option Key) (object : Option Object) (reads saves : Bool)
    → IsServedBy before now call reply key object → HasBegun before.passes.begun who → ReadsBy now.journal now.passes who call reply reads → ws ≡ writes_over now.journal key object
    → passes.begun ≡ now.passes.begun → saves ≡ (writes_lasting call && is_served reply) → RowsNoted now.passes passes who reads saves → IsLedgerOf s h before
    → IsLedgerOf s (entries.Call who call reply ∷ h) (record (entry_counted now) { journal = ws; passes = passes })
taken_in s h before now ws passes who call reply key object reads saves served has seen wrote begun saving rows is =
    let journal : now.journal ≡ before.journal = ap (λ (l : Ledger). l.journal) served.rest in
    let opened : now.passes ≡ before.passes = ap (λ (l : Ledger). l.passes) served.rest in
    let write =
    wrote ∙ ap (λ (us : List Write). writes_over us key object) journal ∙ ap (λ (k : Option Key). writes_over before.journal k object) served.key_is
    ∙ ap (λ (o : Option Object). writes_over before.journal (if is_accepted reply then Some (key_of_call (settled call reply)) else None) o) served.object_is
    ∙ written_by (is_accepted reply) (key_of_call (settled call reply)) (stored _ before.moment before.store.state.objects (settled call reply)) before.journal in
    subst (λ (l : Ledger). IsLedgerOf s (entries.Call who call reply ∷ h) (record (entry_counted l) { journal = ws; passes = passes })) (sym served.rest)
    (called_on s h before now.store ws passes who call reply reads has
    (subst (λ (q : Opened). ReadsBy before.journal q who call reply reads) opened (subst (λ (us : List Write). ReadsBy us now.passes who call reply reads) journal seen))
    served.store write (begun ∙ ap (λ (q : Opened). q.begun) opened)
    (subst (λ b. RowsNoted before.passes passes who reads b) saving (subst (λ (q : Opened). RowsNoted q passes who reads saves) opened rows)) is)
