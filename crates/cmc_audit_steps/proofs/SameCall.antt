-- What is said of a history is the same, whatever a call's object says of what the store owns.
use Rattle.std.proofs.Common.{◌≡◌, ℕ, ℤ, ◌+◌, List, ◌∷◌, length, Bool, true, false, refl, sym, ap, subst, ◌∙◌}
use Rattle.std.specs.Prelude.{if◌then◌else◌, ◌&&◌, ◌||◌}
use Rattle.cmc_objects.specs.declared.object.Object.{Object}
use Rattle.cmc_objects.specs.declared.object.Object.TheVariants.{Cert, Request, Secret}
use Rattle.cmc_objects.specs.declared.call.Call.{Call}
use Rattle.cmc_objects.specs.declared.call.Call.TheVariants.{Create, Update, UpdateStatus, Delete, Get}
use Rattle.cmc_objects.specs.declared.call.Reply.{Reply}
use Rattle.cmc_objects.specs.declared.call.Reply.TheVariants as replies
use Rattle.cmc_objects.specs.declared.entry.Who.{Who}
use Rattle.cmc_objects.specs.declared.entry.Entry.{Entry}
use Rattle.cmc_objects.specs.declared.entry.Entry.TheVariants.{Call as Called}
use Rattle.cmc_model.specs.declared.write.Write.{Write}
use Rattle.cmc_model.specs.Replies.{State, is_accepted, settled}
use Rattle.cmc_model.specs.Histories.{Setting, moment, state}
use Rattle.cmc_model.specs.Writes.{last_under, write_of, writes}
use Rattle.cmc_rules.specs.Issuance.{issuing}
use Rattle.cmc_rules.specs.Passes.{called, open_pass, stage_by, is_temporary_act}
use Rattle.cmc_lines.specs.Shown.{shown_object, shown_reply}
use Rattle.cmc_audit_state.specs.Heard.{finds, has_found, is_by, is_lasting, is_served, saved, writes_lasting}
use Rattle.cmc_audit_ledger.specs.declared.ledger.Ledger.{Ledger}
use Rattle.cmc_audit_ledger.specs.Ledgers.{IsLedgerOf, IsLedgerOfSaid, said}
use Rattle.cmc_audit_calls.specs.CallsOfLines.{bare_call}
use Rattle.cmc_audit_calls.proofs.Bare.{after_same, call_key_same, settled_same, stored_same}

write_same : (now : ℤ) (st : State) (q : Call) (r : Reply) → write_of now st (settled (bare_call q) r) ≡ write_of now st (settled q r)
write_same now st q r =
    ap (write_of now st) (settled_same q r)
    ∙ (λ i. record { key = call_key_same (settled q r) i; object = stored_same (st.accepted + 1) now st.objects (settled q r) i })

writes_same : (now : ℤ) (st : State) (ws : List Write) (b : Bool) (q : Call) (r : Reply)
    → (if b then write_of now st (settled (bare_call q) r) ∷ ws else ws) ≡ (if b then write_of now st (settled q r) ∷ ws else ws)
writes_same now st ws true q r = ap (λ w. w ∷ ws) (write_same now st q r)
writes_same now st ws false q r = refl

finds_same : (version : ℕ) (q : Call) (r : Reply) → finds version (bare_call q) r ≡ finds version q r
finds_same version (Create o g) r = refl
finds_same version (Update o v) r = refl
finds_same version (UpdateStatus o v) r = refl
finds_same version (Delete k v) r = refl
finds_same version (Get k) r = refl

lasting_same : (o : Object) → is_lasting (shown_object o) ≡ is_lasting o
lasting_same (Cert c) = refl
lasting_same (Request r) = refl
lasting_same (Secret k) = refl

saves_same : (q : Call) → writes_lasting (bare_call q) ≡ writes_lasting q
saves_same (Create o g) = lasting_same o
saves_same (Update o v) = lasting_same o
saves_same (UpdateStatus o v) = refl
saves_same (Delete k v) = refl
saves_same (Get k) = refl

said_same : (s : Setting) (h : List Entry) (who : Who) (q : Call) (r : Reply) → said s (Called who (bare_call q) r ∷ h) ≡ said s (Called who q r ∷ h)
said_same s h who q r = λ i. record {
  state = after_same (moment s h) (state s h) q r i;
  writes = writes_same (moment s h) (state s h) (writes s h) (is_accepted r) q r i;
  moment = moment s h;
  runs = λ role. (said s h).runs role;
  position = λ role kind. (said s h).position role kind;
  begun = (said s h).begun;
  opened = λ n. called n who (λ p. stage_by p.seen.certificate (is_temporary_act (issuing p.seen p.since)) p.stage (length h + 1) (call_key_same q i).kind (last_under (call_key_same q i) (writes s h)) r) (open_pass s h n);
  found = λ n version. (is_by n who && finds_same version q r i) || has_found n version h;
  saved = λ n. (is_by n who && (saves_same q i && is_served r)) || saved n h;
  asked = λ n. (said s h).asked n;
  approved = λ n v. (said s h).approved n v;
}

pub follows_bare : (s : Setting) (h : List Entry) (who : Who) (q c : Call) (r : Reply) (l : Ledger) → bare_call q ≡ c → IsLedgerOf s (Called who c r ∷ h) l → IsLedgerOf s (Called who q r ∷ h) l
follows_bare s h who q c r l bare is =
    subst (λ t. IsLedgerOfSaid s t l) (said_same s h who q r) (subst (λ (x : Call). IsLedgerOf s (Called who x r ∷ h) l) (sym bare) is)

-- a line shows the same of a reply
pub reply_same : (q : Call) (r : Reply) → shown_reply (bare_call q) r ≡ shown_reply q r
reply_same (Create o g) (replies.Ok version name) = refl
reply_same (Update o v) (replies.Ok version name) = refl
reply_same (UpdateStatus o v) (replies.Ok version name) = refl
reply_same (Delete k v) (replies.Ok version name) = refl
reply_same (Get k) (replies.Ok version name) = refl
reply_same q (replies.Unchanged version) = refl
reply_same q (replies.Found object) = refl
reply_same q (replies.Conflict named have) = refl
reply_same q (replies.NotFound at) = refl
reply_same q (replies.AlreadyExists have) = refl
reply_same q (replies.Invalid rule) = refl
reply_same q (replies.Unavailable number) = refl
