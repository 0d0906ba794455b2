-- What a call of a pass leaves of its row.
use Rattle.std.specs.Prelude.{◌≡◌, ℕ, ◌≤◌, ◌&&◌, Bool, List, ◌∷◌, Option, Some, None, option_map, if◌then◌else◌}
use Rattle.cmc_meta.specs.declared.key.Key.{Key}
use Rattle.cmc_meta.specs.declared.key.Kind.TheVariants as kinds
use Rattle.cmc_objects.specs.declared.certificate.Certificate.{Certificate}
use Rattle.cmc_objects.specs.declared.object.Object.{Object}
use Rattle.cmc_objects.specs.declared.call.Call.{Call}
use Rattle.cmc_objects.specs.declared.call.Reply.{Reply}
use Rattle.cmc_objects.specs.declared.entry.Who.{Who}
use Rattle.cmc_objects.specs.declared.entry.Who.TheVariants.{User, Pass}
use Rattle.cmc_model.specs.declared.write.Write.{Write}
use Rattle.cmc_model.specs.Replies.{key_written, object_written, state_after}
use Rattle.cmc_rules.specs.Views.{certificate_at}
use Rattle.cmc_audit_state.specs.declared.row.Row.{Row}
use Rattle.cmc_audit_state.specs.Heard.{is_by, finds, writes_lasting, is_served}
use Rattle.cmc_audit_state.specs.Journaled.{cached}
use Rattle.cmc_audit_state.specs.OpenRows.{Opened, open_row_at, with_read, with_saved}
use Rattle.cmc_audit_ledger.specs.declared.ledger.Ledger.{Ledger}

-- the caller is a user, or a pass that has begun
abbrev pub HasBegun : ℕ → Who → Type 0
HasBegun begun User = Unit {0}
HasBegun begun (Pass pass) = pass ≤ begun

-- whether what the reply found is the Certificate that this pass saw, if it saw one
abbrev pub ReadsSeen : List Write → Option Row → Call → Reply → Bool → Type 0
ReadsSeen ws None call reply reads = Unit {0}
ReadsSeen ws (Some row) call reply reads = (c : Certificate) → certificate_at (cached kinds.Certificate ws row.reach.certificates) row.key ≡ Some c → reads ≡ finds c.meta.version call reply

-- the same of the pass that calls
abbrev pub ReadsBy : List Write → Opened → Who → Call → Reply → Bool → Type 0
ReadsBy ws passes User call reply reads = Unit {0}
ReadsBy ws passes (Pass pass) call reply reads = ReadsSeen ws (open_row_at passes pass) call reply reads

abbrev pub read_if : Bool → Option Row → Option Row
read_if b x = if b then option_map with_read x else x

abbrev pub saved_if : Bool → Option Row → Option Row
saved_if b x = if b then option_map with_saved x else x

-- the rows after the call: the pass that calls has read what it saw, or saved a Secret
abbrev pub RowsAfter : Opened → Opened → Who → Call → Reply → Bool → Type 0
RowsAfter old new who call reply reads =
    (n : ℕ) → open_row_at new n ≡ saved_if (is_by n who && (writes_lasting call && is_served reply)) (read_if (is_by n who && reads) (open_row_at old n))

-- the same by tests
abbrev pub RowsNoted : Opened → Opened → Who → Bool → Bool → Type 0
RowsNoted old new who reads saves = (n : ℕ) → open_row_at new n ≡ saved_if (is_by n who && saves) (read_if (is_by n who && reads) (open_row_at old n))

-- the writes with one more under the key, if a key was written
abbrev pub writes_over : List Write → Option Key → Option Object → List Write
writes_over ws None object = ws
writes_over ws (Some key) object = record { key = key; object = object } ∷ ws

-- The store has answered the call so, and nothing else has changed yet.
pub record IsServedBy (before now : Ledger) (call : Call) (reply : Reply) (key : Option Key) (object : Option Object) : Type 0 where
  pub store : now.store ≡ record { faults = before.store.faults; state = state_after before.moment before.store.state call reply }
  pub rest : now ≡ record before { store = now.store }
  pub key_is : key ≡ key_written call reply
  pub object_is : object ≡ object_written before.moment before.store.state call reply
