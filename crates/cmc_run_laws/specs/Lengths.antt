-- How long a run can be.
use Rattle.std.specs.Prelude.{◌≡◌, ◌≤◌, ◌+◌, ◌*◌, ℕ, Bool, true, false, List, [], ◌∷◌, length}
use Rattle.std.specs.List.{list_any}
use Rattle.cmc_meta.specs.declared.key.Key.{Key}
use Rattle.cmc_meta.specs.declared.key.Kind.{Kind}
use Rattle.cmc_meta.specs.declared.key.Kind.TheVariants.{Certificate, CertificateRequest, Secret}
use Rattle.cmc_meta.specs.Keys.{key_eq}
use Rattle.cmc_objects.specs.declared.call.Reply.TheVariants.{Unavailable}
use Rattle.cmc_objects.specs.declared.entry.Who.TheVariants.{User, Pass}
use Rattle.cmc_objects.specs.declared.entry.Entry.{Entry}
use Rattle.cmc_objects.specs.declared.entry.Entry.TheVariants.{Call as Called, Deliver, List as Listed, Begin, Ask, Made, Signed, Answered, Judged, End, Stop, Start, Tick}
use Rattle.cmc_model.specs.Histories.{Setting, accepted}
use Rattle.cmc_rules.specs.Scripts.{scripted}
use Rattle.cmc_waits.specs.Waits.{all_roles}
use Rattle.cmc_run_laws.specs.Begins.{count_of, is_accepted_or_failed}

-- each item of the list is so
abbrev pub Each : {A : Type 0} → (A → Type 0) → List A → Type 0
Each P [] = Unit {0}
Each P (x ∷ xs) = P x × Each P xs

-- ---- how many passes begin

abbrev pub is_begin : Entry → Bool
is_begin (Begin pass role key at now) = true
is_begin other = false

-- a reason for passes of some role, or a start of one
abbrev pub is_reason : Entry → Bool
is_reason (Called (Pass n) call reply) = is_accepted_or_failed reply
is_reason (Deliver role kind to) = true
is_reason (Listed role kind to) = true
is_reason (Start role at) = true
is_reason (Tick now) = true
is_reason other = false

-- a pass that the entry begins is on one of these keys
abbrev pub BeginsOn : List Key → Entry → Type 0
BeginsOn keys (Begin pass role key at now) = list_any (λ k. key_eq key k) keys ≡ true
BeginsOn keys other = Unit {0}

-- Where all passes are on these keys, no more of them begin than there are pairs of a role and a key, each pair taken once and once
-- more for each reason.
abbrev pub HasFewPasses : List Entry → Type 0
HasFewPasses whole = (keys : List Key) → Each (BeginsOn keys) whole → count_of is_begin whole ≤ length all_roles * (length keys * (count_of is_reason whole + 1))

-- ---- how many entries a pass has

-- the entry is one of a pass, after its Begin
abbrev pub is_of_pass : Entry → Bool
is_of_pass (Called (Pass n) call reply) = true
is_of_pass (Ask n order) = true
is_of_pass (Made n key) = true
is_of_pass (Signed n signature) = true
is_of_pass (Answered n answer) = true
is_of_pass (Judged n approved) = true
is_of_pass (End n cause) = true
is_of_pass other = false

-- after its Begin a pass has at most the question, its value, the call and the End, or the live read, the Secret, the status and the End
abbrev pub most_of_pass : ℕ
most_of_pass = 4

abbrev pub HasShortPasses : List Entry → Type 0
HasShortPasses whole = count_of is_of_pass whole ≤ count_of is_begin whole * most_of_pass

-- ---- how often roles are told

abbrev pub all_kinds : List Kind
all_kinds = Certificate ∷ CertificateRequest ∷ Secret ∷ []

abbrev pub is_delivery : Entry → Bool
is_delivery (Deliver role kind to) = true
is_delivery (Listed role kind to) = true
is_delivery other = false

abbrev pub is_start : Entry → Bool
is_start (Start role at) = true
is_start other = false

-- each role is told of each kind once for each accepted write, and again after each start
abbrev pub most_deliveries : ℕ → ℕ → ℕ
most_deliveries writes starts = length all_roles * (length all_kinds * (writes * (starts + 1)))

abbrev pub HasFewDeliveries : Setting → List Entry → Type 0
HasFewDeliveries s whole = count_of is_delivery whole ≤ most_deliveries (accepted s whole) (count_of is_start whole)

-- ---- all entries

-- what a step of the script brings about: a call of the user, a stop, a start or a tick
abbrev pub is_effect : Entry → Bool
is_effect (Called User call reply) = true
is_effect (Stop role) = true
is_effect (Start role at) = true
is_effect (Tick now) = true
is_effect other = false

abbrev pub is_failed : Entry → Bool
is_failed (Called who call (Unavailable number)) = true
is_failed other = false

-- a reason for a pass is an accepted write, a failed call, a step or what a role is told
abbrev pub most_reasons : ℕ → ℕ → ℕ → ℕ
most_reasons writes failed steps = writes + failed + steps + most_deliveries writes steps

-- each role begins a pass on each key that is written once, and once more for each reason
abbrev pub most_passes : ℕ → ℕ → ℕ → ℕ
most_passes writes failed steps = length all_roles * (writes * (most_reasons writes failed steps + 1))

-- each step with what it brings about, what roles are told, and the passes with their Begin and their other entries
abbrev pub most_entries : ℕ → ℕ → ℕ → ℕ
most_entries writes failed steps = (steps + steps) + most_deliveries writes steps + (most_passes writes failed steps + most_passes writes failed steps * most_of_pass)

-- The length of a run is bounded by its accepted writes, its failed calls and the steps of its script that were made.
abbrev pub HasBoundedLength : Setting → List Entry → Type 0
HasBoundedLength s whole = length whole ≤ most_entries (accepted s whole) (count_of is_failed whole) (scripted whole)
