-- What the search finds is the plain move.
use Rattle.std.proofs.Common.{◌≡◌, List, Some, None, Bool, true, false, arith}
use Rattle.std.specs.Prelude.{◌↔◌, IsTrue, MatchBool, if◌then◌else◌}
use Rattle.cmc_objects.specs.declared.role.Role.{Role}
use Rattle.cmc_objects.specs.declared.entry.Entry.{Entry}
use Rattle.cmc_model.specs.Histories.{Setting}
use Rattle.cmc_rules.specs.UserSteps.{owed}
use Rattle.cmc_rules.specs.Rest.{IsAtRest}
use Rattle.cmc_rules.specs.Runs.{IsRun}
use Rattle.cmc_moves.specs.declared.moves.Move.TheVariants.{Script}
use Rattle.cmc_kernel.specs.Plain.{IsStepReady, HasNoScript, HasNoPass, HasNoDelivery, IsPlainMove}
use Rattle.cmc_world.specs.declared.plain_move.PlainMove.TheVariants as plains
use Rattle.cmc_world.specs.PlainMoves.{IsNextPlain}
use Rattle.cmc_world.specs.Searches.{FindsBegin, IsLeft, RestsWhereRunning}
use Rattle.cmc_waits.proofs.Finishing.{nothing_left, finished_at_rest}
use Rattle.cmc_world.proofs.Resting.{at_rest_by}

-- ---- the script

-- a step that is ready is made: the run is not finished
ready_goes : (s : Setting) (h : List Entry) → IsStepReady s h → IsPlainMove s h (Some Script)
ready_goes s h ready = ((λ done. let left = ready.left in let all = done.all_steps in absurd (omega (arith, left, all))), ready)

-- ---- while something is left to do, a step that waits for rest does so

still : (s : Setting) (h : List Entry) (left : Bool) → IsLeft s h left → (IsAtRest s h → ⊥) → HasNoScript s h
still s h left l busy ready = busy (l.waits ready)

-- ---- begins

restless : (s : Setting) (h : List Entry) (rests : Bool) → HasNoPass s h → HasNoDelivery s h → (IsTrue rests ↔ ((role : Role) → RestsWhereRunning s h role)) → rests ≡ false → IsAtRest s h → ⊥
restless s h rests closed told test off rest = let on = (at_rest_by s h rests closed told test).1 rest in absurd (cc (on, off))

-- where not all rests some key fits
pub some_begin : (s : Setting) (h : List Entry) (left rests : Bool) → IsRun s h → owed s h ≡ None → IsLeft s h left → HasNoPass s h → HasNoDelivery s h → (IsTrue rests ↔ ((role : Role) → RestsWhereRunning s h role))
    → rests ≡ false → FindsBegin s h None → ⊥
some_begin s h left rests run settled l closed told test off none =
    let busy : IsAtRest s h → ⊥ = restless s h rests closed told test off in
    busy (nothing_left s h run settled (still s h left l busy) closed told none).rest

-- the step that waits for rest, as the search tells it
pub as_told : (s : Setting) (h : List Entry) (left : Bool) → IsPlainMove s h (if left then Some Script else None) → IsNextPlain s h (if left then Some plains.Script else None)
as_told s h true is = is
as_told s h false is = is

-- ---- rest

pub rest_first : (s : Setting) (h : List Entry) (left rests : Bool) → IsRun s h → owed s h ≡ None → IsLeft s h left → HasNoPass s h → HasNoDelivery s h → (IsTrue rests ↔ ((role : Role) → RestsWhereRunning s h role))
    → rests ≡ true → IsPlainMove s h (if left then Some Script else None)
rest_first s h left rests run settled l closed told test on = by left (l.goes rest) where
  rest : IsAtRest s h
  rest = (at_rest_by s h rests closed told test).0 on

  by : (b : Bool) → MatchBool b (IsStepReady s h) (HasNoScript s h) → IsPlainMove s h (if b then Some Script else None)
  by true ready = ready_goes s h ready
  by false none = finished_at_rest s h run settled none rest
