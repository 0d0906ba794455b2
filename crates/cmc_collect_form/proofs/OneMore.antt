-- One more step was read.
use Rattle.std.proofs.Common.{◌≡◌, ℕ, ℤ, suc, ◌+◌, ◌<◌, ◌≤◌, true, List, [], ◌∷◌, ◌++◌, length, get_or, drop, Ok, Err, refl, ap, sym, subst, ◌∙◌, append_assoc, append-nil, add-one, drop-cons}
use Rattle.std.specs.Prelude.{IfOk, Result, int_le}
use Rattle.std.proofs.lemmas.List.{drop_all}
use Rattle.serde_json.specs.View.{view, items_view}
use Rattle.serde_json.specs.declared.value.Value.{Value}
use Rattle.cmc_cursor.specs.Members.{Gives, Read, ◌>>=◌, under}
use Rattle.cmc_cursor.specs.declared.error.BadField.{BadField}
use Rattle.cmc_cursor.specs.declared.error.BadField.TheVariants as bad
use Rattle.cmc_cursor.specs.Readers.{with_front}
use Rattle.cmc_setup.specs.Setups.{last_moment}
use Rattle.cmc_collect_form.specs.Steps.{AreInTime, moment_after, numbered_step_at, steps_from}
use Rattle.cmc_collect_form.specs.declared.script.CollectStep.{CollectStep}

-- the steps that were read and those of the items that are left give what all items give, and they keep within time where those do
pub record IsReadSoFar (begin : ℤ) (front : List CollectStep) (now : ℤ) (n : ℕ) (left : List Value) (all : Read (List CollectStep)) : Type 0 where
  pub rest : with_front front (steps_from n now (items_view left)) ≡ all
  pub in_time : (later : List CollectStep) → AreInTime now later → AreInTime begin (front ++ later)

pushed : (front : List CollectStep) (s : CollectStep) (r : Read (List CollectStep)) → with_front (front ++ s ∷ []) r ≡ with_front front (r >>= (λ ss. Ok (s ∷ ss)))
pushed front s (Ok ss) = ap (λ l. Ok l) (append_assoc front (s ∷ []) ss)
pushed front s (Err path) = refl

at_place : (vs : List Value) (n : ℕ) (v : Value) → n < length vs → v ≡ get_or vs n v → drop n vs ≡ v ∷ drop (n + 1) vs
at_place vs n v within is = rw (add-one) (drop-cons vs n v within ∙ ap (λ x. x ∷ drop (suc n) vs) (sym is))

nothing : (r : Read (List CollectStep)) → with_front [] r ≡ r
nothing (Ok xs) = refl
nothing (Err path) = refl

pub at_first : (now : ℤ) (vs : List Value) → IsReadSoFar now [] now 0 vs (steps_from 0 now (items_view vs))
at_first now vs = record { rest = nothing (steps_from 0 now (items_view vs)); in_time = λ later h. h }

pub one_more : (begin : ℤ) (front : List CollectStep) (s : CollectStep) (now next : ℤ) (n : ℕ) (vs : List Value) (v : Value) (all : Read (List CollectStep)) → n < length vs → v ≡ get_or vs n v
    → numbered_step_at n now (view v) ≡ Ok s → int_le (moment_after now s) last_moment ≡ true → next ≡ moment_after now s
    → IsReadSoFar begin front now n (drop n vs) all → IsReadSoFar begin (front ++ s ∷ []) next (n + 1) (drop (n + 1) vs) all
one_more begin front s now next n vs v all within is one fits then before =
    let split : drop n vs ≡ v ∷ drop (n + 1) vs = at_place vs n v within is in
    let opened : with_front front (numbered_step_at n now (view v) >>= (λ t. steps_from (n + 1) (moment_after now t) (items_view (drop (n + 1) vs)) >>= (λ ss. Ok (t ∷ ss)))) ≡ all = rw split at before.rest in
    let here : IsReadSoFar begin (front ++ s ∷ []) (moment_after now s) (n + 1) (drop (n + 1) vs) all =
    record {
      rest = pushed front s (steps_from (n + 1) (moment_after now s) (items_view (drop (n + 1) vs))) ∙ (rw one at opened);
      in_time = λ later h. subst (λ (l : List CollectStep). AreInTime begin l) (sym (append_assoc front (s ∷ []) later)) (before.in_time (s ∷ later) (fits, h));
    } in
    subst (λ (m : ℤ). IsReadSoFar begin (front ++ s ∷ []) m (n + 1) (drop (n + 1) vs) all) (sym then) here

pub all_read : (begin : ℤ) (front : List CollectStep) (now : ℤ) (n : ℕ) (vs : List Value) (all : Read (List CollectStep)) → length vs ≤ n → IsReadSoFar begin front now n (drop n vs) all → all ≡ Ok front
all_read begin front now n vs all past before =
    let none : drop n vs ≡ [] = drop_all n vs past in
    let opened : with_front front (steps_from n now (items_view [])) ≡ all = rw none at before.rest in
    sym opened ∙ ap (λ l. Ok l) (append-nil front)

pub all_in_time : (begin : ℤ) (front : List CollectStep) (now : ℤ) (n : ℕ) (left : List Value) (all : Read (List CollectStep)) → IsReadSoFar begin front now n left all → AreInTime begin front
all_in_time begin front now n left all before = subst (λ (l : List CollectStep). AreInTime begin l) (append-nil front) (before.in_time [] tt)

-- what holds of what was found holds of it under a name
pub under_name : {T : Type 0} (P : T → Type 0) (name : List ℕ) (found result : Result T BadField) → ((read : Read T) → Gives (λ t. t) found read → Gives (λ t. t) result (under name read)) → IfOk found P → IfOk result P
under_name P name (Ok x) (Ok y) under_it p = let is = under_it (Ok x) refl in let same : x ≡ y = cc is in subst P same p
under_name P name (Ok x) (Err why) under_it p = tt
under_name P name (Err (bad.Path path)) (Ok y) under_it p = let is = under_it (Err path) refl in absurd (cc is)
under_name P name (Err bad.NoMemory) (Ok y) under_it p = let is = under_it (Err []) tt in absurd (cc is)
under_name P name (Err (bad.Path path)) (Err why) under_it p = tt
under_name P name (Err bad.NoMemory) (Err why) under_it p = tt
