-- What is known of a pass as it goes on, and what the history has then.
use Rattle.std.specs.Prelude.{◌≡◌, ℕ, List, ◌∷◌, Some}
use Rattle.cmc_objects.specs.declared.call.Call.{Call}
use Rattle.cmc_objects.specs.declared.entry.Entry.{Entry}
use Rattle.cmc_objects.specs.declared.entry.Entry.TheVariants.{Ask, End}
use Rattle.cmc_objects.specs.declared.entry.Who.{Who}
use Rattle.cmc_objects.specs.declared.entry.Who.TheVariants.{Pass}
use Rattle.cmc_rules.specs.declared.progress.OpenPass.{OpenPass}
use Rattle.cmc_model.specs.Replies.{key_of_call}
use Rattle.cmc_model.specs.Histories.{Setting}
use Rattle.cmc_rules.specs.Passes.{open_pass, writes_temporary}
use Rattle.cmc_rules.specs.Memory.{ending_at}
use Rattle.cmc_moves.specs.Answers.{IsCalled}
use Rattle.cmc_moves.specs.declared.doing.Doing.{Doing}
use Rattle.cmc_moves.specs.declared.doing.Doing.TheVariants.{Call as Makes, Ask as Asks, End as Ends}
use Rattle.cmc_kernel.specs.Kept.{Seen, setting_of}
use Rattle.cmc_kernel.specs.declared.carriers.PendingCall.{PendingCall}
use Rattle.cmc_kernel.specs.declared.carriers.PassEnd.{PassEnd}

-- the pass, with the key that the call names
pub record IsCalling (s : Setting) (h : List Entry) (n : ℕ) (call : Call) (c : PendingCall) : Type 0 where
  pub pass : OpenPass
  pub opened : open_pass s h n ≡ Some pass
  pub role : c.role ≡ pass.role
  pub key : c.key ≡ pass.key
  pub named : c.named ≡ key_of_call call
  pub stand_in : c.stand_in ≡ writes_temporary call

-- the pass, with how it ends
pub record IsClosing (s : Setting) (h : List Entry) (n : ℕ) (c : PassEnd) : Type 0 where
  pub pass : OpenPass
  pub opened : open_pass s h n ≡ Some pass
  pub role : c.role ≡ pass.role
  pub key : c.key ≡ pass.key
  pub ending : c.ending ≡ ending_at pass.stage

-- the history has the entry of the call more
abbrev pub MadeCall : Who → Call → Seen → Seen → Type 0
MadeCall who call old new = (e : Entry) × IsCalled (setting_of old.scenario) old.history who call e × (new ≡ record { scenario = old.scenario; history = e ∷ old.history })

-- the history has one more entry of the pass: its question, its call or its end
abbrev pub IsDone : Setting → List Entry → ℕ → Doing → Entry → Type 0
IsDone s h pass (Makes call) e = IsCalled s h (Pass pass) call e
IsDone s h pass (Asks order) e = e ≡ Ask pass order
IsDone s h pass (Ends cause) e = e ≡ End pass cause

abbrev pub AddsDoneEntry : ℕ → Doing → Seen → Seen → Type 0
AddsDoneEntry n d old new = (e : Entry) × IsDone (setting_of old.scenario) old.history n d e × (new ≡ record { scenario = old.scenario; history = e ∷ old.history })
