-- An issuance that nothing disturbs between its Begin and its End.
use Rattle.std.specs.Prelude.{◌≡◌, ◌≢◌, ◌==◌, ◌+◌, ◌++◌, ℕ, ℤ, Bool, true, false, MatchBool, List, [], ◌∷◌}
use Rattle.std.specs.List.{list_any}
use Rattle.cmc_meta.specs.declared.key.Key.{Key}
use Rattle.cmc_objects.specs.declared.role.Role.TheVariants as roles
use Rattle.cmc_objects.specs.declared.call.Call.{Call}
use Rattle.cmc_objects.specs.declared.call.Reply.{Reply}
use Rattle.cmc_objects.specs.declared.entry.Cause.{Cause}
use Rattle.cmc_objects.specs.declared.entry.Cause.TheVariants as causes
use Rattle.cmc_objects.specs.declared.entry.Positions.{Positions}
use Rattle.cmc_objects.specs.declared.entry.Who.{Who}
use Rattle.cmc_objects.specs.declared.entry.Who.TheVariants.{User, Pass}
use Rattle.cmc_objects.specs.declared.entry.Entry.{Entry}
use Rattle.cmc_objects.specs.declared.entry.Entry.TheVariants.{Call as Called, Begin, End}
use Rattle.cmc_pass.specs.declared.pass.Act.{Act}
use Rattle.cmc_pass.specs.declared.pass.Act.TheVariants.{Issue, Temporary}
use Rattle.cmc_model.specs.Replies.{is_accepted, key_of_call, settled}
use Rattle.cmc_model.specs.Histories.{Setting, state}
use Rattle.cmc_rules.specs.Safety.{HasEntry, IsServedReply}
use Rattle.cmc_rules.specs.Views.{views, present_views}
use Rattle.cmc_rules.specs.Issuance.{issuing}

-- ---- nothing disturbs it

abbrev pub is_call_of : ℕ → Who → Bool
is_call_of n User = false
is_call_of n (Pass m) = n == m

-- the call is about neither of the two keys
abbrev pub IsApart : Key → Key → Call → Type 0
IsApart a b call = (key_of_call call ≢ a) × (key_of_call call ≢ b)

-- no call of the pass of number n fails, and no other call that is accepted writes under one of the two keys
abbrev pub IsQuietCall : Setting → List Entry → ℕ → Key → Key → Who → Call → Reply → Type 0
IsQuietCall s h n a b who call reply =
    MatchBool (is_call_of n who) (list_any (λ i. i == (state s h).calls + 1) s.faults ≡ false) (is_accepted reply ≡ true → IsApart a b (settled call reply))

abbrev pub IsQuietEntry : Setting → List Entry → ℕ → Key → Key → Entry → Type 0
IsQuietEntry s h n a b (Called who call reply) = IsQuietCall s h n a b who call reply
IsQuietEntry s h n a b other = Unit {0}

-- and so of all entries of k, which stand above h
unfoldable pub AreQuiet : Setting → List Entry → ℕ → Key → Key → List Entry → Type 0
AreQuiet s h n a b [] = Unit {0}
AreQuiet s h n a b (e ∷ k) = IsQuietEntry s (k ++ h) n a b e × AreQuiet s h n a b k

-- of the Certificate that the plan reads and the Secret that it writes
abbrev pub IsLeftAlone : Setting → List Entry → ℕ → List Entry → Act → Type 0
IsLeftAlone s h n k (Issue plan) = AreQuiet s h n plan.get (key_of_call plan.secret) k
IsLeftAlone s h n k (Temporary plan) = AreQuiet s h n plan.get (key_of_call plan.secret) k
IsLeftAlone s h n k other = Unit {0}

-- The pass of issuing of this number that begins above h sees the Certificate and the target as they stand, and the entries of k, which
-- follow its Begin, leave both alone.
pub record IsUndisturbed (s : Setting) (h k : List Entry) (n : ℕ) (key : Key) (at : Positions) (now : ℤ) : Type 0 where
  pub certificate : (views s h roles.Issuing key).certificate ≡ (present_views s h roles.Issuing key).certificate
  pub target : (views s h roles.Issuing key).secret ≡ (present_views s h roles.Issuing key).secret
  pub left_alone : IsLeftAlone s (Begin n roles.Issuing key at now ∷ h) n k (issuing (views s h roles.Issuing key) now)

-- ---- how it ends

-- the call of the pass was answered Ok, or that nothing is to be changed
abbrev pub IsServedCall : ℕ → Call → Entry → Type 0
IsServedCall n call e = (reply : Reply) × (e ≡ Called (Pass n) call reply) × IsServedReply reply

abbrev pub IsAcceptedCall : ℕ → Call → Entry → Type 0
IsAcceptedCall n call e = (reply : Reply) × (e ≡ Called (Pass n) call reply) × (is_accepted reply ≡ true)

-- what a plan is for stands among the entries: the Secret, and behind an issuance the status with the revision that it raises
abbrev pub IsCarriedOut : List Entry → ℕ → Act → Type 0
IsCarriedOut k n (Issue plan) = HasEntry (IsServedCall n plan.secret) k × HasEntry (IsAcceptedCall n plan.status) k
IsCarriedOut k n (Temporary plan) = HasEntry (IsServedCall n plan.secret) k
IsCarriedOut k n other = ⊥

-- the act writes a Secret
abbrev pub IsPlan : Act → Type 0
IsPlan (Issue plan) = Unit {0}
IsPlan (Temporary plan) = Unit {0}
IsPlan other = ⊥

-- the pass of this number has done what it had planned on these views, and says so
pub record HasCompleted (s : Setting) (h k : List Entry) (n : ℕ) (key : Key) (now : ℤ) (cause : Cause) : Type 0 where
  pub done : IsCarriedOut k n (issuing (views s h roles.Issuing key) now)
  pub wrote : cause ≡ causes.Wrote

-- Of all passes of issuing in the history: one that has its End, whose act on what it saw was a plan, and that nothing disturbed, has
-- completed. The entries l came after its End, k between Begin and End, and h before.
abbrev pub CompletesIssuing : Setting → List Entry → Type 0
CompletesIssuing s whole =
    (l k h : List Entry) (n : ℕ) (key : Key) (at : Positions) (now : ℤ) (cause : Cause) → whole ≡ l ++ (End n cause ∷ (k ++ (Begin n roles.Issuing key at now ∷ h)))
    → IsPlan (issuing (views s h roles.Issuing key) now) → IsUndisturbed s h k n key at now → HasCompleted s h k n key now cause
