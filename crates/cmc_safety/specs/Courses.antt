-- The course of each pass: the entries that it makes, in order, by what its role saw as it began.
use Rattle.std.specs.Prelude.{◌≡◌, ◌⊎◌, ◌==◌, ◌+◌, ◌++◌, ℕ, ℤ, Bool, true, false, MatchBool, List, [], ◌∷◌, length, Option, Some, None, if◌then◌else◌}
use Rattle.cmc_meta.specs.declared.key.Key.{Key}
use Rattle.cmc_objects.specs.declared.certificate.Certificate.{Certificate}
use Rattle.cmc_objects.specs.declared.role.Role.{Role}
use Rattle.cmc_objects.specs.declared.role.Role.TheVariants as roles
use Rattle.cmc_objects.specs.declared.call.Call.{Call}
use Rattle.cmc_objects.specs.declared.call.Call.TheVariants.{Get}
use Rattle.cmc_objects.specs.declared.call.Reply.{Reply}
use Rattle.cmc_objects.specs.declared.call.Reply.TheVariants.{Ok, Unchanged, Found}
use Rattle.cmc_objects.specs.declared.orders.Order.{Order}
use Rattle.cmc_objects.specs.declared.entry.Cause.{Cause}
use Rattle.cmc_objects.specs.declared.entry.Cause.TheVariants as causes
use Rattle.cmc_objects.specs.declared.entry.Positions.{Positions}
use Rattle.cmc_objects.specs.declared.entry.Who.TheVariants.{Pass}
use Rattle.cmc_objects.specs.declared.entry.Entry.{Entry}
use Rattle.cmc_objects.specs.declared.entry.Entry.TheVariants.{Call as Called, Begin, Ask, Made, Signed, Answered, Judged, End}
use Rattle.cmc_pass.specs.declared.value.Value.{Value}
use Rattle.cmc_pass.specs.declared.value.Value.TheVariants as values
use Rattle.cmc_pass.specs.Values.{IsValue}
use Rattle.cmc_pass.specs.declared.pass.Views.{Views}
use Rattle.cmc_pass.specs.declared.pass.Act.{Act}
use Rattle.cmc_pass.specs.declared.pass.Act.TheVariants.{Nothing, Call as Calls, Ask as Asks, Issue, Temporary}
use Rattle.cmc_model.specs.Histories.{Setting}
use Rattle.cmc_rules.specs.Views.{views}
use Rattle.cmc_rules.specs.Passes.{is_as_seen}
use Rattle.cmc_rules.specs.Desks.{desk}
use Rattle.cmc_rules.specs.Acts.{act, call_after}
use Rattle.cmc_rules.specs.Issuance.{issuing}
use Rattle.cmc_rules.specs.Safety.{HasEntry}
use Rattle.cmc_safety.specs.Completion.{is_call_of, IsPlan, IsServedCall}

-- ---- the entries of a pass

-- the entry is one of the pass of this number, after its Begin
abbrev pub is_entry_of : ℕ → Entry → Bool
is_entry_of n (Called who call reply) = is_call_of n who
is_entry_of n (Ask pass order) = n == pass
is_entry_of n (Made pass key) = n == pass
is_entry_of n (Signed pass signature) = n == pass
is_entry_of n (Answered pass answer) = n == pass
is_entry_of n (Judged pass approved) = n == pass
is_entry_of n (End pass cause) = n == pass
is_entry_of n other = false

-- an entry with the history before it
pub record Placed : Type 0 where
  pub before : List Entry
  pub entry : Entry

-- the entries of the pass, the oldest first
abbrev pub course_of : ℕ → List Entry → List Placed
course_of n [] = []
course_of n (e ∷ h) = if is_entry_of n e then course_of n h ++ (record { before = h; entry = e } ∷ []) else course_of n h

-- the entry gives the pass this value
abbrev pub GivesValue : ℕ → Value → Entry → Type 0
GivesValue pass (values.Made key) e = e ≡ Made pass key
GivesValue pass (values.Signed signature) e = e ≡ Signed pass signature
GivesValue pass (values.Answered answer) e = e ≡ Answered pass answer
GivesValue pass (values.Judged approved) e = e ≡ Judged pass approved

-- ---- the courses that there are, each as far as the pass came

-- the End of the pass for this cause, and no entry after it
abbrev pub IsEnding : ℕ → Cause → List Placed → Type 0
IsEnding n cause [] = Unit {0}
IsEnding n cause (e ∷ es) = (e.entry ≡ End n cause) × (es ≡ [])

-- the pass goes on after this reply: a read found the object as it was seen, and any other call was served
abbrev pub lets_on : Option Certificate → Reply → Bool
lets_on seen (Ok version name) = true
lets_on seen (Unchanged version) = true
lets_on seen (Found object) = is_as_seen seen object
lets_on seen other = false

-- These calls in order. A reply that does not let the pass go on is what it ends with; after the last call it has written.
abbrev pub AreCalls : ℕ → Option Certificate → List Call → List Placed → Type 0
AreCalls n seen [] es = IsEnding n causes.Wrote es
AreCalls n seen (call ∷ calls) [] = Unit {0}
AreCalls n seen (call ∷ calls) (e ∷ es) =
    (reply : Reply) × (e.entry ≡ Called (Pass n) call reply) × MatchBool (lets_on seen reply) (AreCalls n seen calls es) (IsEnding n (causes.Stopper (length e.before + 1)) es)

abbrev pub IsFollowing : ℕ → Option Certificate → Option Call → List Placed → Type 0
IsFollowing n seen None es = es ≡ []
IsFollowing n seen (Some call) es = AreCalls n seen (call ∷ []) es

-- a right value of the question, and the call that follows it
abbrev pub IsAnswering : ℕ → Option Certificate → (Order → Value → Option Call) → Order → List Placed → Type 0
IsAnswering n seen after order [] = Unit {0}
IsAnswering n seen after order (e ∷ es) = (value : Value) × GivesValue n value e.entry × IsValue order value × IsFollowing n seen (after order value) es

-- the question before that
abbrev pub IsAsking : ℕ → Option Certificate → (Order → Value → Option Call) → Order → List Placed → Type 0
IsAsking n seen after order [] = Unit {0}
IsAsking n seen after order (e ∷ es) = (e.entry ≡ Ask n order) × IsAnswering n seen after order es

-- by the act: nothing; the call; question, value and call; or live read, Secret and status, of which a temporary certificate has no status
abbrev pub IsCourseBy : ℕ → Option Certificate → (Order → Value → Option Call) → Act → List Placed → Type 0
IsCourseBy n seen after Nothing es = IsEnding n causes.Nothing es
IsCourseBy n seen after (Calls call) es = AreCalls n seen (call ∷ []) es
IsCourseBy n seen after (Asks order) es = IsAsking n seen after order es
IsCourseBy n seen after (Issue plan) es = AreCalls n seen (Get plan.get ∷ plan.secret ∷ plan.status ∷ []) es
IsCourseBy n seen after (Temporary plan) es = AreCalls n seen (Get plan.get ∷ plan.secret ∷ []) es

-- the course of a pass of the role that saw this at this moment; its questions are counted as it makes its first entry
abbrev pub IsCourse : Setting → ℕ → Role → Views → ℤ → List Placed → Type 0
IsCourse s n role seen now [] = Unit {0}
IsCourse s n role seen now (e ∷ es) = IsCourseBy n seen.certificate (call_after role seen now) (act role seen now (desk s e.before role seen)) (e ∷ es)

-- each pass that has begun keeps to its course
abbrev pub HaveCourses : Setting → List Entry → Type 0
HaveCourses s whole =
    (l h : List Entry) (n : ℕ) (role : Role) (key : Key) (at : Positions) (now : ℤ) → whole ≡ l ++ (Begin n role key at now ∷ h) → IsCourse s n role (views s h role key) now (course_of n whole)

-- ---- a plan is carried out, or names what refused it

-- the Secret of the plan was written, or stood so already
abbrev pub IsSecretDone : List Entry → ℕ → Act → Type 0
IsSecretDone k n (Issue plan) = HasEntry (IsServedCall n plan.secret) k
IsSecretDone k n (Temporary plan) = HasEntry (IsServedCall n plan.secret) k
IsSecretDone k n other = ⊥

-- the entry of this number is a call of the pass, which the reply stopped
abbrev pub IsStopped : List Entry → ℕ → Option Certificate → ℕ → Type 0
IsStopped [] n seen number = ⊥
IsStopped (e ∷ h) n seen number = ((number ≡ length h + 1) × ((call : Call) × (reply : Reply) × (e ≡ Called (Pass n) call reply) × (lets_on seen reply ≡ false))) ⊎ IsStopped h n seen number

-- the Secret is done, or the cause is an own call that was refused
abbrev pub DoesOrTells : List Entry → ℕ → Option Certificate → Act → Cause → Type 0
DoesOrTells k n seen does cause = IsSecretDone k n does ⊎ ((number : ℕ) × (cause ≡ causes.Stopper number) × IsStopped k n seen number)

-- each pass of issuing that has its End, and whose act is a plan, did it or tells why not
abbrev pub PlansAreDone : Setting → List Entry → Type 0
PlansAreDone s whole =
    (l k h : List Entry) (n : ℕ) (key : Key) (at : Positions) (now : ℤ) (cause : Cause) → whole ≡ l ++ (End n cause ∷ (k ++ (Begin n roles.Issuing key at now ∷ h)))
    → IsPlan (issuing (views s h roles.Issuing key) now) → DoesOrTells (k ++ (Begin n roles.Issuing key at now ∷ h)) n (views s h roles.Issuing key).certificate (issuing (views s h roles.Issuing key) now) cause
