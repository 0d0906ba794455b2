-- One more step was read.
use Rattle.std.proofs.Common.{◌≡◌, ℕ, suc, ◌+◌, ◌<◌, ◌≤◌, List, [], ◌∷◌, ◌++◌, length, get_or, drop, Ok, Err, refl, ap, sym, ◌∙◌, append_assoc, add-one, drop-cons}
use Rattle.std.proofs.lemmas.List.{drop_all, append-nil}
use Rattle.serde_json.specs.View.{view, items_view}
use Rattle.serde_json.specs.declared.value.Value.{Value}
use Rattle.cmc_objects.specs.declared.entry.Step.{Step}
use Rattle.cmc_setup.specs.Stages.{Stage, IsStage, stage_after_step}
use Rattle.cmc_setup.specs.declared.stage.Stage.{Stage as Code}
use Rattle.cmc_cursor.specs.Members.{Read, ◌>>=◌}
use Rattle.cmc_cursor.specs.Readers.{with_front}
use Rattle.cmc_scenario.specs.Scripts.{numbered_step_at, steps_from}

-- the steps that were read, the stage after them and the items that are left give what all items give
pub record IsReadSoFar (front : List Step) (code : Code) (n : ℕ) (left : List Value) (all : Read (List Step)) : Type 0 where
  pub stage : Stage
  pub is : IsStage code stage
  pub rest : with_front front (steps_from n stage (items_view left)) ≡ all

pushed : (front : List Step) (s : Step) (r : Read (List Step)) → with_front (front ++ s ∷ []) r ≡ with_front front (r >>= (λ ss. Ok (s ∷ ss)))
pushed front s (Ok ss) = ap (λ l. Ok l) (append_assoc front (s ∷ []) ss)
pushed front s (Err path) = refl

at_place : (vs : List Value) (n : ℕ) (v : Value) → n < length vs → v ≡ get_or vs n v → drop n vs ≡ v ∷ drop (n + 1) vs
at_place vs n v within is = rw (add-one) (drop-cons vs n v within ∙ ap (λ x. x ∷ drop (suc n) vs) (sym is))

pub at_first : (code : Code) (stage : Stage) (vs : List Value) → IsStage code stage → IsReadSoFar [] code 0 vs (steps_from 0 stage (items_view vs))
at_first code stage vs is = record { stage = stage; is = is; rest = nothing (steps_from 0 stage (items_view vs)) }
  where
    nothing : (r : Read (List Step)) → with_front [] r ≡ r
    nothing (Ok xs) = refl
    nothing (Err path) = refl

pub one_more : (front : List Step) (s : Step) (code next : Code) (n : ℕ) (vs : List Value) (v : Value) (all : Read (List Step)) → n < length vs → v ≡ get_or vs n v
    → ((before : Stage) → IsStage code before → (numbered_step_at n before (view v) ≡ Ok s) × IsStage next (stage_after_step before s))
    → IsReadSoFar front code n (drop n vs) all → IsReadSoFar (front ++ s ∷ []) next (n + 1) (drop (n + 1) vs) all
one_more front s code next n vs v all within is one before =
    let split : drop n vs ≡ v ∷ drop (n + 1) vs = at_place vs n v within is in
    let stage : Stage = before.stage in
    let opened : with_front front (numbered_step_at n stage (view v) >>= (λ t. steps_from (n + 1) (stage_after_step stage t) (items_view (drop (n + 1) vs)) >>= (λ ss. Ok (t ∷ ss)))) ≡ all = rw split at before.rest in
    let given = one stage before.is in
    record { stage = stage_after_step stage s; is = given.1; rest = pushed front s (steps_from (n + 1) (stage_after_step stage s) (items_view (drop (n + 1) vs))) ∙ (rw given.0 at opened) }

pub all_read : (front : List Step) (code : Code) (n : ℕ) (vs : List Value) (all : Read (List Step)) → length vs ≤ n → IsReadSoFar front code n (drop n vs) all → all ≡ Ok front
all_read front code n vs all past before =
    let none : drop n vs ≡ [] = drop_all n vs past in
    let stage : Stage = before.stage in
    let opened : with_front front (steps_from n stage (items_view [])) ≡ all = rw none at before.rest in
    sym opened ∙ ap (λ l. Ok l) (append-nil front)
