-- What passes do, and why: each by the act of its role on what it saw.
use Rattle.std.specs.Prelude.{◌≡◌, List, [], ◌∷◌, Option, Some, None}
use Rattle.cmc_objects.specs.declared.call.Call.{Call}
use Rattle.cmc_objects.specs.declared.call.Call.TheVariants as calls
use Rattle.cmc_objects.specs.declared.orders.Order.{Order}
use Rattle.cmc_objects.specs.declared.entry.Who.{Who}
use Rattle.cmc_objects.specs.declared.entry.Who.TheVariants.{User, Pass}
use Rattle.cmc_objects.specs.declared.entry.Cause.{Cause}
use Rattle.cmc_objects.specs.declared.entry.Cause.TheVariants as causes
use Rattle.cmc_objects.specs.declared.entry.Entry.{Entry}
use Rattle.cmc_objects.specs.declared.entry.Entry.TheVariants.{Script, Call as Called, Deliver, List as Listed, Begin, Ask, Made, Signed, Answered, Judged, End, Stop, Start, Tick}
use Rattle.cmc_pass.specs.declared.value.Value.{Value}
use Rattle.cmc_pass.specs.declared.value.Value.TheVariants as values
use Rattle.cmc_pass.specs.Values.{IsValue}
use Rattle.cmc_pass.specs.declared.pass.Act.{Act}
use Rattle.cmc_pass.specs.declared.pass.Act.TheVariants.{Nothing, Call as Calls, Ask as Asks, Issue, Temporary}
use Rattle.cmc_rules.specs.declared.progress.Stage.{Stage}
use Rattle.cmc_rules.specs.declared.progress.Stage.TheVariants.{Fresh, Asked, Given, Read, Saved, Wrote, Refused, Barred}
use Rattle.cmc_rules.specs.declared.progress.OpenPass.{OpenPass}
use Rattle.cmc_rules.specs.Acts.{act, call_after}
use Rattle.cmc_rules.specs.Desks.{desk}
use Rattle.cmc_model.specs.Histories.{Setting}
use Rattle.cmc_rules.specs.Passes.{open_pass}
use Rattle.cmc_rules.specs.Memory.{past}
use Rattle.cmc_rules.specs.Sameness.{IsDue}
use Rattle.cmc_rules.specs.Views.{views}

-- the act of the pass
abbrev pub act_of : Setting → List Entry → OpenPass → Act
act_of s h p = act p.role p.seen p.since (desk s h p.role p.seen)

-- ---- the course of a pass

-- the first call of an act: what issues begins with the live read of its Certificate
abbrev pub IsFirstCall : Act → Call → Type 0
IsFirstCall Nothing call = ⊥
IsFirstCall (Calls first) call = call ≡ first
IsFirstCall (Asks order) call = ⊥
IsFirstCall (Issue plan) call = call ≡ calls.Get plan.get
IsFirstCall (Temporary plan) call = call ≡ calls.Get plan.get

-- after the live read comes the Secret, and after the Secret of an issuance the status
abbrev pub IsSecretCall : Act → Call → Type 0
IsSecretCall Nothing call = ⊥
IsSecretCall (Calls first) call = ⊥
IsSecretCall (Asks order) call = ⊥
IsSecretCall (Issue plan) call = call ≡ plan.secret
IsSecretCall (Temporary plan) call = call ≡ plan.secret

abbrev pub IsStatusCall : Act → Call → Type 0
IsStatusCall Nothing call = ⊥
IsStatusCall (Calls first) call = ⊥
IsStatusCall (Asks order) call = ⊥
IsStatusCall (Issue plan) call = call ≡ plan.status
IsStatusCall (Temporary plan) call = ⊥

-- the call that comes next, by how far the pass has come
abbrev pub IsNextCall : Stage → Act → (Order → Value → Option Call) → Call → Type 0
IsNextCall Fresh does after call = IsFirstCall does call
IsNextCall (Asked order) does after call = ⊥
IsNextCall (Given order value) does after call = after order value ≡ Some call
IsNextCall Read does after call = IsSecretCall does call
IsNextCall Saved does after call = IsStatusCall does call
IsNextCall Wrote does after call = ⊥
IsNextCall (Refused entry obstacle) does after call = ⊥
IsNextCall Barred does after call = ⊥

-- the call that follows a value of the pass's question
abbrev pub after_of : OpenPass → Order → Value → Option Call
after_of p order value = call_after p.role p.seen p.since order value

abbrev pub MayCall : Setting → List Entry → Option OpenPass → Call → Type 0
MayCall s h None call = ⊥
MayCall s h (Some p) call = IsNextCall p.stage (act_of s h p) (after_of p) call

-- the question that the act asks, once
abbrev pub IsAsked : Act → Order → Type 0
IsAsked Nothing order = ⊥
IsAsked (Calls first) order = ⊥
IsAsked (Asks asked) order = order ≡ asked
IsAsked (Issue plan) order = ⊥
IsAsked (Temporary plan) order = ⊥

abbrev pub AsksBy : Stage → Act → Order → Type 0
AsksBy Fresh does order = IsAsked does order
AsksBy (Asked asked) does order = ⊥
AsksBy (Given asked value) does order = ⊥
AsksBy Read does order = ⊥
AsksBy Saved does order = ⊥
AsksBy Wrote does order = ⊥
AsksBy (Refused entry obstacle) does order = ⊥
AsksBy Barred does order = ⊥

abbrev pub MayAsk : Setting → List Entry → Option OpenPass → Order → Type 0
MayAsk s h None order = ⊥
MayAsk s h (Some p) order = AsksBy p.stage (act_of s h p) order

-- a right value of the question that was asked
abbrev pub IsGivenBy : Stage → Value → Type 0
IsGivenBy Fresh value = ⊥
IsGivenBy (Asked order) value = IsValue order value
IsGivenBy (Given order old) value = ⊥
IsGivenBy Read value = ⊥
IsGivenBy Saved value = ⊥
IsGivenBy Wrote value = ⊥
IsGivenBy (Refused entry obstacle) value = ⊥
IsGivenBy Barred value = ⊥

abbrev pub MayGive : Option OpenPass → Value → Type 0
MayGive None value = ⊥
MayGive (Some p) value = IsGivenBy p.stage value

-- the cause that a pass ends with, by how far it has come: only an act that is nothing ends without a call
abbrev pub EndsBy : Stage → Act → Cause → Type 0
EndsBy Fresh does cause = (does ≡ Nothing) × (cause ≡ causes.Nothing)
EndsBy (Asked order) does cause = ⊥
EndsBy (Given order value) does cause = ⊥
EndsBy Read does cause = ⊥
EndsBy Saved does cause = ⊥
EndsBy Wrote does cause = cause ≡ causes.Wrote
EndsBy (Refused entry obstacle) does cause = cause ≡ causes.Stopper entry
EndsBy Barred does cause = ⊥

abbrev pub MayEnd : Setting → List Entry → Option OpenPass → Cause → Type 0
MayEnd s h None cause = ⊥
MayEnd s h (Some p) cause = EndsBy p.stage (act_of s h p) cause

abbrev pub IsCausedCall : Setting → List Entry → Who → Call → Type 0
IsCausedCall s h User call = Unit {0}
IsCausedCall s h (Pass pass) call = MayCall s h (open_pass s h pass) call

-- Calls, questions, values and ends of passes have their causes, and no pass begins for nothing new.
abbrev pub IsCausedEntry : Setting → List Entry → Entry → Type 0
IsCausedEntry s h (Script step) = Unit {0}
IsCausedEntry s h (Called who call reply) = IsCausedCall s h who call
IsCausedEntry s h (Deliver role kind to) = Unit {0}
IsCausedEntry s h (Listed role kind to) = Unit {0}
IsCausedEntry s h (Begin pass role key at now) = IsDue (past s h role key) (views s h role key) now at
IsCausedEntry s h (Ask pass order) = MayAsk s h (open_pass s h pass) order
IsCausedEntry s h (Made pass key) = MayGive (open_pass s h pass) (values.Made key)
IsCausedEntry s h (Signed pass signature) = MayGive (open_pass s h pass) (values.Signed signature)
IsCausedEntry s h (Answered pass answer) = MayGive (open_pass s h pass) (values.Answered answer)
IsCausedEntry s h (Judged pass approved) = MayGive (open_pass s h pass) (values.Judged approved)
IsCausedEntry s h (End pass cause) = MayEnd s h (open_pass s h pass) cause
IsCausedEntry s h (Stop role) = Unit {0}
IsCausedEntry s h (Start role at) = Unit {0}
IsCausedEntry s h (Tick now) = Unit {0}

unfoldable pub IsCaused : Setting → List Entry → Type 0
IsCaused s [] = Unit {0}
IsCaused s (e ∷ h) = IsCausedEntry s h e × IsCaused s h
