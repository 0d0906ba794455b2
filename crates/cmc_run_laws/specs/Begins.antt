-- What stands between two passes of a role on a key.
use Rattle.std.specs.Prelude.{◌≡◌, ◌≤◌, ◌+◌, ◌&&◌, ℕ, ℤ, Bool, true, false, List, [], ◌∷◌, ◌++◌, if◌then◌else◌}
use Rattle.cmc_meta.specs.declared.key.Key.{Key}
use Rattle.cmc_meta.specs.Keys.{key_eq}
use Rattle.cmc_objects.specs.declared.role.Role.{Role}
use Rattle.cmc_objects.specs.declared.call.Reply.{Reply}
use Rattle.cmc_objects.specs.declared.call.Reply.TheVariants.{Ok, Unavailable}
use Rattle.cmc_objects.specs.declared.entry.Positions.{Positions}
use Rattle.cmc_objects.specs.declared.entry.Who.TheVariants.{Pass}
use Rattle.cmc_objects.specs.declared.entry.Entry.{Entry}
use Rattle.cmc_objects.specs.declared.entry.Entry.TheVariants.{Call as Called, Deliver, List as Listed, Begin, Start, Tick}
use Rattle.cmc_model.specs.Histories.{role_eq}
use Rattle.cmc_rules.specs.Safety.{HasEntry}

-- the call was accepted, or it failed
abbrev pub is_accepted_or_failed : Reply → Bool
is_accepted_or_failed (Ok version name) = true
is_accepted_or_failed (Unavailable number) = true
is_accepted_or_failed other = false

-- a reason for another pass of the role after the one of this number: the role is told of something, time goes on, or the pass itself
-- wrote or met a failure
abbrev pub IsReason : Role → ℕ → Entry → Type 0
IsReason role n (Called who call reply) = (who ≡ Pass n) × (is_accepted_or_failed reply ≡ true)
IsReason role n (Deliver r kind to) = r ≡ role
IsReason role n (Listed r kind to) = r ≡ role
IsReason role n (Tick now) = Unit {0}
IsReason role n other = ⊥

-- a pass of the role begins on the key, or the role starts and so forgets its passes
abbrev pub IsNewBegin : Role → Key → Entry → Type 0
IsNewBegin role key (Begin pass r k at now) = (r ≡ role) × (k ≡ key)
IsNewBegin role key (Start r at) = r ≡ role
IsNewBegin role key other = ⊥

-- Of any two passes of a role on a key, one after the other, with no start of the role between: between their begins stands a reason.
abbrev pub BeginsForSomething : List Entry → Type 0
BeginsForSomething whole =
    (l k h : List Entry) (n m : ℕ) (role : Role) (key : Key) (at was : Positions) (now since : ℤ) → whole ≡ l ++ (Begin n role key at now ∷ (k ++ (Begin m role key was since ∷ h)))
    → (HasEntry (IsNewBegin role key) k → ⊥) → HasEntry (IsReason role m) k

-- ---- how many passes begin

-- a pass of the role begins on the key
abbrev pub begins_on : Role → Key → Entry → Bool
begins_on role key (Begin pass r k at now) = role_eq r role && key_eq k key
begins_on role key other = false

-- a reason for passes of the role, whatever their key, or a start of the role
abbrev pub is_reason_for : Role → Entry → Bool
is_reason_for role (Called (Pass n) call reply) = is_accepted_or_failed reply
is_reason_for role (Deliver r kind to) = role_eq r role
is_reason_for role (Listed r kind to) = role_eq r role
is_reason_for role (Start r at) = role_eq r role
is_reason_for role (Tick now) = true
is_reason_for role other = false

-- how many of the entries are so
abbrev pub count_of : (Entry → Bool) → List Entry → ℕ
count_of p [] = 0
count_of p (e ∷ h) = if p e then count_of p h + 1 else count_of p h

-- On each key a role begins at most one pass more than there are reasons.
abbrev pub HasReasonsEnough : List Entry → Type 0
HasReasonsEnough whole = (role : Role) (key : Key) → count_of (begins_on role key) whole ≤ count_of (is_reason_for role) whole + 1
