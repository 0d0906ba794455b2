-- Values for the questions of open passes.
use Rattle.std.proofs.Common.{◌≡◌, ◌∙◌, ℕ, ℤ, List, Option, Some, None, refl, sym}
use Rattle.std.specs.Prelude.{option_map}
use Rattle.cmc_objects.specs.declared.entry.Entry.{Entry}
use Rattle.cmc_objects.specs.declared.orders.Order.{Order}
use Rattle.cmc_objects.specs.declared.orders.Order.TheVariants.{Key}
use Rattle.cmc_objects.specs.declared.role.Role.{Role}
use Rattle.cmc_pass.specs.GivenValues.{order_of}
use Rattle.cmc_pass.specs.declared.given.Given.{Given}
use Rattle.cmc_pass.specs.declared.pass.Views.{Views}
use Rattle.cmc_rules.specs.declared.progress.OpenPass.{OpenPass}
use Rattle.cmc_rules.specs.declared.progress.Stage.{Stage}
use Rattle.cmc_rules.specs.declared.progress.Stage.TheVariants.{Asked}
use Rattle.cmc_model.specs.Histories.{Setting}
use Rattle.cmc_rules.specs.Passes.{open_pass}
use Rattle.cmc_rules.specs.Runs.{IsRun}
use Rattle.cmc_rules.specs.Sound.{IsQuestion}
use Rattle.cmc_safety.proofs.Course.{HasCome, HasComeTo, has_come, of_open}
use Rattle.cmc_moves.specs.Answers.{kept_at}
use Rattle.cmc_moves.specs.declared.moves.Move.TheVariants.{Give}
use Rattle.cmc_moves.proofs.Sounds.{each_sound}
use Rattle.cmc_world.specs.Turns.{CanBeMade, CanBeKept, IsNextWith}

-- ---- keys that are asked for can be made

asked_made : (role : Role) (seen : Views) (order : Order) → IsQuestion role seen order → CanBeMade order
asked_made role seen (Key order) asked = asked.1
asked_made role seen other asked = tt

stage_made : (h : List Entry) (n : ℕ) (role : Role) (seen : Views) (since : ℤ) (stage : Stage) → HasCome h n role seen since stage → CanBeKept (kept_at stage)
stage_made h n role seen since (Asked order) come = asked_made role seen order come.question
stage_made h n role seen since other come = tt

open_made : (s : Setting) (h : List Entry) (n : ℕ) (p : OpenPass) → IsRun s h → open_pass s h n ≡ Some p → CanBeKept (kept_at p.stage)
open_made s h n p run opened =
    stage_made h n p.role p.seen p.since p.stage (of_open (HasComeTo h n) (open_pass s h n) p opened (has_come each_sound s h n run.legal run.caused))

-- of the pass that is found under its number
pub question_made : (s : Setting) (h : List Entry) (n : ℕ) (p : OpenPass) (found there : Option OpenPass) → IsRun s h → there ≡ open_pass s h n → found ≡ there → found ≡ Some p → CanBeKept (kept_at p.stage)
question_made s h n p found there run opened same is = open_made s h n p run (sym opened ∙ sym same ∙ is)

-- ---- the value that is given

-- the question of a value that was made is the one that is kept
pub with_value : (n named : ℕ) (kept : Option Order) (given : Given) → option_map order_of (Some given) ≡ kept → IsNextWith n named kept (Give n named given)
with_value n named None given is = absurd (cc is)
with_value n named (Some order) given is = let same : order_of given ≡ order = cc is in (given, same, refl)
