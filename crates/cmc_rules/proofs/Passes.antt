-- Passes are numbered as they begin: none of a higher number is open.
use Rattle.std.proofs.Common.{◌≡◌, ◌==◌, ℕ, ◌<◌, List, [], ◌∷◌, Option, Some, None, Bool, true, false, refl, ap, arith}
use Rattle.std.proofs.lemmas.Bool.Decides.{nat_tests}
use Rattle.std.specs.Prelude.{if◌then◌else◌, option_map}
use Rattle.cmc_objects.specs.declared.entry.Who.{Who}
use Rattle.cmc_objects.specs.declared.entry.Who.TheVariants.{User, Pass}
use Rattle.cmc_objects.specs.declared.entry.Entry.{Entry}
use Rattle.cmc_objects.specs.declared.entry.Entry.TheVariants.{Call as Called, Begin, Ask, Made, Signed, Answered, Judged, End, Stop}
use Rattle.cmc_rules.specs.declared.progress.OpenPass.{OpenPass}
use Rattle.cmc_rules.specs.declared.progress.Stage.{Stage}
use Rattle.cmc_rules.specs.declared.progress.Stage.TheVariants.{Asked}
use Rattle.cmc_objects.specs.declared.orders.Order.{Order}
use Rattle.cmc_pass.specs.declared.value.Value.{Value}
use Rattle.cmc_pass.specs.declared.value.Value.TheVariants as values
use Rattle.cmc_model.specs.Histories.{Setting}
use Rattle.cmc_rules.specs.Views.{views}
use Rattle.cmc_rules.specs.Origins.{begun}
use Rattle.cmc_rules.specs.Passes.{open_pass, called, asking, given, gone_on, stage_given, unless_of, with_stage, new_pass, stage_after}
use Rattle.cmc_rules.specs.Legality.{IsLegal}

none_gone_on : (n m : ℕ) (stage : OpenPass → Stage) (p : Option OpenPass) → p ≡ None → gone_on n m stage p ≡ None
none_gone_on n m stage p none = chosen (n == m) where
  chosen : (b : Bool) → (if b then option_map (λ (q : OpenPass). with_stage (stage q) q) p else p) ≡ None
  chosen true = ap (option_map (λ (q : OpenPass). with_stage (stage q) q)) none
  chosen false = none

none_called : (n : ℕ) (who : Who) (stage : OpenPass → Stage) (p : Option OpenPass) → p ≡ None → called n who stage p ≡ None
none_called n User stage p none = none
none_called n (Pass pass) stage p none = none_gone_on n pass stage p none

none_asking : (n m : ℕ) (order : Order) (p : Option OpenPass) → p ≡ None → asking n m order p ≡ None
none_asking n m order p none = none_gone_on n m (λ q. Asked order) p none

none_given : (n m : ℕ) (value : Value) (p : Option OpenPass) → p ≡ None → given n m value p ≡ None
none_given n m value p none = none_gone_on n m (λ q. stage_given value q.stage) p none

none_ended : (b : Bool) (p : Option OpenPass) → p ≡ None → (if b then None else p) ≡ None
none_ended true p none = refl
none_ended false p none = none

none_begun : (b : Bool) (n pass : ℕ) (new : OpenPass) (p : Option OpenPass) → (n == pass) ≡ b → pass < n → p ≡ None → (if b then Some new else p) ≡ None
none_begun true n pass new p e less none = absurd (grind (arith, nat_tests))
none_begun false n pass new p e less none = none

pub closed_beyond : (s : Setting) (h : List Entry) (n : ℕ) → IsLegal s h → begun s h < n → open_pass s h n ≡ None
unfolding IsLegal
closed_beyond s [] n legal less = refl
closed_beyond s (Called who call reply ∷ h) n legal less = none_called n who (stage_after s h call reply) (open_pass s h n) (closed_beyond s h n legal.1 less)
closed_beyond s (Begin pass role key at now ∷ h) n legal less = none_begun (n == pass) n pass (new_pass role key (views s h role key) now) (open_pass s h n) refl (omega (arith, legal.0.numbered, less)) (closed_beyond s h n legal.1 (omega (arith, less)))
closed_beyond s (Ask pass order ∷ h) n legal less = none_asking n pass order (open_pass s h n) (closed_beyond s h n legal.1 less)
closed_beyond s (Made pass key ∷ h) n legal less = none_given n pass (values.Made key) (open_pass s h n) (closed_beyond s h n legal.1 less)
closed_beyond s (Signed pass signature ∷ h) n legal less = none_given n pass (values.Signed signature) (open_pass s h n) (closed_beyond s h n legal.1 less)
closed_beyond s (Answered pass answer ∷ h) n legal less = none_given n pass (values.Answered answer) (open_pass s h n) (closed_beyond s h n legal.1 less)
closed_beyond s (Judged pass approved ∷ h) n legal less = none_given n pass (values.Judged approved) (open_pass s h n) (closed_beyond s h n legal.1 less)
closed_beyond s (End pass cause ∷ h) n legal less = none_ended (n == pass) (open_pass s h n) (closed_beyond s h n legal.1 less)
closed_beyond s (Stop role ∷ h) n legal less = ap (unless_of role) (closed_beyond s h n legal.1 less)
closed_beyond s (other ∷ h) n legal less = closed_beyond s h n legal.1 less
