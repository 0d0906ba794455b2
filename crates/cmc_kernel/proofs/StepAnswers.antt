-- What the next step of the script is answered.
use Rattle.std.proofs.Common.{◌≡◌, ℕ, ◌+◌, ◌-◌, ◌<◌, ◌≤◌, List, [], ◌∷◌, length, Some, Bool, true, zero, suc, ap, subst, ◌∙◌, arith}
use Rattle.std.proofs.lemmas.Bool.{and_parts}
use Rattle.std.proofs.lemmas.Option.{slice_get_within}
use Rattle.std.specs.Prelude.{◌↔◌, slice_get, IsTrue}
use Rattle.std.specs.List.{list_all}
use Rattle.cmc_objects.specs.declared.entry.Step.{Step}
use Rattle.cmc_objects.specs.declared.entry.Entry.{Entry}
use Rattle.cmc_setup.specs.Forms.{is_step_form}
use Rattle.cmc_model.specs.Histories.{Setting}
use Rattle.cmc_rules.specs.Scripts.{scripted, step_at}
use Rattle.cmc_rules.specs.UserSteps.{IsReady}
use Rattle.cmc_moves.specs.declared.moves.Stepped.{Stepped}
use Rattle.cmc_moves.specs.Answers.{AnswersScript, entries_of, next_effect}
use Rattle.cmc_moves.specs.Tables.{script_answer}
use Rattle.cmc_moves.proofs.Tables.{decided, script_answers}

-- a step of a script has the form of one
pub formed_at : (script : List Step) (place : ℕ) (step : Step) → list_all is_step_form script ≡ true → slice_get script place ≡ Some step → is_step_form step ≡ true
formed_at [] place step forms is = absurd (cc is)
formed_at (other ∷ script) zero step forms is =
    let same : other ≡ step = cc is in
    subst (λ (s : Step). is_step_form s ≡ true) same (and_parts (is_step_form other) (list_all is_step_form script) forms).0
formed_at (other ∷ script) (suc place) step forms is = formed_at script place step (and_parts (is_step_form other) (list_all is_step_form script) forms).1 is

-- where there is a next step, one is left
pub is_left : (script : List Step) (n : ℕ) (step : Step) → step_at script (n + 1) ≡ Some step → n < length script
is_left script n step is = let place : n + 1 - 1 ≡ n = omega arith in slice_get_within script n step (subst (λ (m : ℕ). slice_get script m ≡ Some step) place is)

room_of : (s : Setting) (h : List Entry) (room : Bool) (count more events : ℕ) → count ≡ length h → more ≡ entries_of (next_effect s h) → events ≡ s.events
    → (IsTrue room ↔ (count + more ≤ events)) → IsTrue room ↔ (length h + entries_of (next_effect s h) ≤ s.events)
room_of s h room count more events counted needs most fits =
    subst (λ (m : ℕ). IsTrue room ↔ (length h + entries_of (next_effect s h) ≤ m)) most
    (subst (λ (m : ℕ). IsTrue room ↔ (length h + m ≤ events)) needs (subst (λ (n : ℕ). IsTrue room ↔ (n + more ≤ events)) counted fits))

-- the tests on the next step, where one is left, give its answer
pub step_judged : (s : Setting) (h : List Entry) (answer : Stepped) (ready room : Bool) (count more events : ℕ) → scripted h < length s.script
    → (IsTrue ready ↔ IsReady s h (step_at s.script (scripted h + 1))) → count ≡ length h → more ≡ entries_of (next_effect s h) → events ≡ s.events
    → (IsTrue room ↔ (count + more ≤ events)) → answer ≡ script_answer true ready count room → AnswersScript s h answer
step_judged s h answer ready room count more events left waits counted needs most fits a =
    script_answers s h answer true ready room
    (record { yes = λ e. left; no = λ e. absurd (cc) })
    (decided (IsReady s h (step_at s.script (scripted h + 1))) ready waits)
    (decided (length h + entries_of (next_effect s h) ≤ s.events) room (room_of s h room count more events counted needs most fits))
    (a ∙ ap (λ (n : ℕ). script_answer true ready n room) counted)
