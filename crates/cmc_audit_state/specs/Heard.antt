-- What the entries of a pass say of it: whether it read and saved, what it asked, and what it was told.
use Rattle.std.specs.Prelude.{ℕ, ◌==◌, ◌&&◌, ◌||◌, Bool, true, false, not, List, [], ◌∷◌, Option, Some, None, if◌then◌else◌}
use Rattle.std.specs.List.{list_any}
use Rattle.std.specs.Ordering.{is_eq, nat_cmp, ordering_then}
use Rattle.cmc_meta.specs.declared.key.Key.{Key}
use Rattle.cmc_meta.specs.Keys.{key_cmp}
use Rattle.cmc_objects.specs.declared.object.Object.{Object}
use Rattle.cmc_objects.specs.declared.object.Object.TheVariants.{Cert, Request, Secret}
use Rattle.cmc_objects.specs.declared.call.Call.{Call}
use Rattle.cmc_objects.specs.declared.call.Call.TheVariants.{Create, Update, UpdateStatus, Delete, Get}
use Rattle.cmc_objects.specs.declared.call.Reply.{Reply}
use Rattle.cmc_objects.specs.declared.call.Reply.TheVariants.{Ok, Unchanged, Found, Conflict, NotFound, AlreadyExists, Invalid, Unavailable}
use Rattle.cmc_objects.specs.declared.orders.Order.{Order}
use Rattle.cmc_objects.specs.declared.orders.Order.TheVariants as orders
use Rattle.cmc_objects.specs.declared.entry.Who.{Who}
use Rattle.cmc_objects.specs.declared.entry.Who.TheVariants.{User, Pass}
use Rattle.cmc_objects.specs.declared.entry.Entry.{Entry}
use Rattle.cmc_objects.specs.declared.entry.Entry.TheVariants.{Call as Called, Ask, Judged}
use Rattle.cmc_objects.specs.Objects.{key_of}
use Rattle.cmc_match.specs.Marks.{is_temporary}
use Rattle.cmc_audit_state.specs.declared.row.Version.{Version}

-- the call is one of the pass of this number
abbrev pub is_by : ℕ → Who → Bool
is_by n User = false
is_by n (Pass pass) = n == pass

-- ---- a Get that found a Certificate of this version

abbrev pub is_certificate_at : ℕ → Object → Bool
is_certificate_at version (Cert c) = c.meta.version == version
is_certificate_at version (Request r) = false
is_certificate_at version (Secret k) = false

abbrev pub finds : ℕ → Call → Reply → Bool
finds version (Get key) (Found object) = is_certificate_at version object
finds version other reply = false

abbrev pub found_with : ℕ → ℕ → Bool → Entry → Bool
found_with n version before (Called who call reply) = (is_by n who && finds version call reply) || before
found_with n version before other = before

abbrev pub has_found : ℕ → ℕ → List Entry → Bool
has_found n version [] = false
has_found n version (e ∷ h) = found_with n version (has_found n version h) e

-- ---- a Secret that is not marked as temporary, and was answered Ok or Unchanged

abbrev pub is_lasting : Object → Bool
is_lasting (Cert c) = false
is_lasting (Request r) = false
is_lasting (Secret k) = not (is_temporary k)

abbrev pub writes_lasting : Call → Bool
writes_lasting (Create object generate) = is_lasting object
writes_lasting (Update object named) = is_lasting object
writes_lasting (UpdateStatus object named) = false
writes_lasting (Delete key named) = false
writes_lasting (Get key) = false

abbrev pub is_served : Reply → Bool
is_served (Ok version name) = true
is_served (Unchanged version) = true
is_served (Found object) = false
is_served (Conflict named have) = false
is_served (NotFound at) = false
is_served (AlreadyExists have) = false
is_served (Invalid rule) = false
is_served (Unavailable number) = false

abbrev pub saved_with : ℕ → Bool → Entry → Bool
saved_with n before (Called who call reply) = (is_by n who && (writes_lasting call && is_served reply)) || before
saved_with n before other = before

abbrev pub saved : ℕ → List Entry → Bool
saved n [] = false
saved n (e ∷ h) = saved_with n (saved n h) e

-- ---- the last question, where it is whether to approve a version of a request

abbrev pub judged_version : Order → Option Version
judged_version (orders.Key order) = None
judged_version (orders.Csr order) = None
judged_version (orders.Sign order) = None
judged_version (orders.Judge order) = Some (record { key = key_of (Request order.request); number = order.request.meta.version })

abbrev pub last_judged_with : ℕ → Option Version → Entry → Option Version
last_judged_with n before (Ask pass order) = if n == pass then judged_version order else before
last_judged_with n before other = before

abbrev pub last_judged : ℕ → List Entry → Option Version
last_judged n [] = None
last_judged n (e ∷ h) = last_judged_with n (last_judged n h) e

-- ---- a yes on a question about this version

abbrev pub is_same_version : Version → Version → Bool
is_same_version a b = is_eq (ordering_then (nat_cmp a.number b.number) (key_cmp a.key b.key))

abbrev pub is_about : Version → Option Version → Bool
is_about v None = false
is_about v (Some a) = is_same_version a v

abbrev pub approved_with : ℕ → Version → Option Version → Bool → Entry → Bool
approved_with n v asked before (Judged pass told) = (n == pass && (told && is_about v asked)) || before
approved_with n v asked before other = before

abbrev pub approved : ℕ → Version → List Entry → Bool
approved n v [] = false
approved n v (e ∷ h) = approved_with n v (last_judged n h) (approved n v h) e

-- ---- versions that were told, as they are kept

unfoldable pub has_yes_on : List (ℕ × Key) → Version → Bool
has_yes_on told v = list_any (λ q. is_eq (ordering_then (nat_cmp v.number q.0) (key_cmp v.key q.1))) told
