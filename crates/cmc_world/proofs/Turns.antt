-- Runs by the plain order.
use Rattle.std.proofs.Common.{◌≡◌, ◌∙◌, ℕ, ◌+◌, ◌<◌, ◌≤◌, Bool, true, false, List, [], ◌∷◌, ◌++◌, length, Option, Some, None, inl, inr, refl, sym, subst, arith}
use Rattle.std.specs.Prelude.{if◌then◌else◌}
use Rattle.cmc_objects.specs.declared.entry.Entry.{Entry}
use Rattle.cmc_rules.specs.declared.effect.Effect.{Effect}
use Rattle.cmc_model.specs.Histories.{Setting}
use Rattle.cmc_rules.specs.Runs.{IsRun, IsFinished}
use Rattle.cmc_setup.specs.Setups.{Setup, IsOrderlyFrom}
use Rattle.cmc_moves.specs.declared.moves.Move.{Move}
use Rattle.cmc_moves.specs.declared.moves.Move.TheVariants as moves
use Rattle.cmc_moves.specs.declared.moves.Stepped.{Stepped}
use Rattle.cmc_moves.specs.Answers.{Answers, Leaves, next_effect, entries_of}
use Rattle.cmc_kernel.specs.Kept.{Seen, setting_of}
use Rattle.cmc_kernel.specs.Plain.{IsPlainMove}
use Rattle.cmc_world.specs.Histories.{IsPlainStep, LeadsPlainly, IsPlain, IsFull, entries_for}
use Rattle.cmc_world.specs.declared.run.Driven.{Driven}
use Rattle.cmc_world.specs.declared.run.Driven.TheVariants.{Finished, Spent}
use Rattle.cmc_world.specs.declared.run.Turn.TheVariants as turns
use Rattle.cmc_world.specs.Turns.{GrowsByMove, IsDriving, IsDrained, IsDriven, IsMadeFor, IsTurn, EndsFrom, EndsPlainly, goes_on, turn_after}
use Rattle.cmc_world.proofs.Determined.{grown_length}
use Rattle.cmc_world.proofs.Going.{open_present}
use Rattle.cmc_world.proofs.Making.{ComesTo, chosen_comes}

-- ---- the plain move is made, or does not fit

-- the entries of a plain move that is not made do not fit, and all is as it was
pub stops : (s : Setting) (h : List Entry) (move : Move) (answer : Stepped) (k : List Entry) → IsPlainMove s h (Some move) → goes_on answer ≡ false → ComesTo s h move answer k → IsFull s h × (k ≡ h)
stops s h move answer k plain off (inl is) = let on = is.0 in absurd (cc (on, off))
stops s h move answer k plain off (inr is) = (record { move = move; plain = plain; spent = is.1 }, is.2)

more_for : (s : Setting) (h : List Entry) (move : Move) → 1 ≤ entries_for s h move
more_for s h moves.Script = more_of (next_effect s h) where
  more_of : (o : Option Effect) → 1 ≤ entries_of o
  more_of None = omega arith
  more_of (Some effect) = omega arith
more_for s h other = omega arith

-- a plain move that is made goes on with the run
pub moves_on : (s : Setting) (h : List Entry) (move : Move) (answer : Stepped) (k : List Entry) → IsPlainMove s h (Some move) → goes_on answer ≡ true → IsRun s k → ComesTo s h move answer k → GrowsByMove s h k
moves_on s h move answer k plain on run (inr is) = let off = is.0 in absurd (cc (on, off))
moves_on s h move answer k plain on run (inl is) =
    let grown = is.1 in
    let long = grown_length s h move k grown in
    let more = more_for s h move in
    record { move = move; step = record { plain = plain; grows = grown; run = run }; longer = omega (arith, long, more) }

-- what came of a turn is what its move was answered
pub turned : (u : Setup) (h k : List Entry) (move step : Move) (a : Stepped) → IsOrderlyFrom u.roles u.script → IsRun (setting_of u) h → IsPlainMove (setting_of u) h (Some move)
    → IsMadeFor (setting_of u) h move step → IsRun (setting_of u) k → Answers (setting_of u) h step a → Leaves (setting_of u) h step a k → IsTurn (setting_of u) h k (turn_after a)
turned u h k move step a orderly before plain made run answers leaves = by (goes_on a) refl where
  comes : ComesTo (setting_of u) h move a k
  comes = chosen_comes (setting_of u) h move step a k (open_present u h orderly before) plain.1 made run answers leaves

  by : (b : Bool) → goes_on a ≡ b → IsTurn (setting_of u) h k (if b then turns.On else turns.Spent)
  by true on = moves_on (setting_of u) h move a k plain on run comes
  by false off = stops (setting_of u) h move a k plain off comes

-- ---- one plain step more

led_on : (s : Setting) (ms : List Move) (g h k : List Entry) (move : Move) → LeadsPlainly s ms g h → IsPlainStep s h move k → LeadsPlainly s (ms ++ move ∷ []) g k
led_on s [] g h k move same step = (k, subst (λ (l : List Entry). IsPlainStep s l move k) same step, refl)
led_on s (m ∷ ms) g h k move (a, x, rest) step = (a, x, led_on s ms a h k move rest step)

pub plain_on : (s : Setting) (h k : List Entry) → IsPlain s h → GrowsByMove s h k → IsPlain s k
plain_on s h k (ms, led) on = (ms ++ on.move ∷ [], led_on s ms [] h k on.move led on.step)

-- ---- turns

pub driving_on : (start old new : Seen) (n : ℕ) → IsDriving start old n → new.scenario ≡ old.scenario → GrowsByMove (setting_of old.scenario) old.history new.history → IsDriving start new (n + 1)
driving_on start old new n d stays on =
    let on_is = subst (λ (u : Setup). GrowsByMove (setting_of u) old.history new.history) d.same on in
    record {
      same = stays ∙ d.same;
      plain = λ was. plain_on (setting_of start.scenario) old.history new.history (d.plain was) on_is;
      long = omega (arith, d.long, on.longer);
    }

pub too_long : (start world : Seen) (n : ℕ) → IsDriving start world n → start.scenario.events < n → IsRun (setting_of world.scenario) world.history → ⊥
too_long start world n d over run =
    let short : length world.history ≤ start.scenario.events = subst (λ (u : Setup). length world.history ≤ u.events) d.same run.short in
    absurd (omega (arith, d.long, over, short))

-- the turns come to an end
pub ended_from : (End : Setting → List Entry → Type 0) (start old new : Seen) (n : ℕ) → IsDriving start old n → new.scenario ≡ old.scenario → End (setting_of old.scenario) old.history → new.history ≡ old.history
    → EndsFrom start End new
ended_from End start old new n d stays ends same = record {
  same = stays ∙ d.same;
  plain = λ was. subst (IsPlain (setting_of start.scenario)) (sym same) (d.plain was);
  comes = subst (End (setting_of start.scenario)) (sym same) (subst (λ (u : Setup). End (setting_of u) old.history) d.same ends);
}

-- ---- from the beginning on

-- no move at all was made
pub plain_new : (s : Setting) → IsPlain s []
plain_new s = ([], refl)

from_new : (End : Setting → List Entry → Type 0) (setup : Setup) (world : Seen) → EndsFrom (record { scenario = setup; history = [] }) End world → EndsPlainly setup End world
from_new End setup world e = record { same = e.same; plain = e.plain (plain_new (setting_of setup)); comes = e.comes }

-- what plain moves make of a new world is a run by the plain order
pub driven_by : (setup : Setup) (d : Driven) → IsDrained (record { scenario = setup; history = [] }) d → IsDriven setup d
driven_by setup (Finished world) e = from_new IsFinished setup world e
driven_by setup (Spent world) e = from_new IsFull setup world e
