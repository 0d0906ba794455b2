-- One more Certificate that waits was read.
use Rattle.std.proofs.Common.{◌≡◌, ℕ, suc, ◌+◌, ◌<◌, ◌≤◌, List, [], ◌∷◌, ◌++◌, length, get_or, drop, Option, Some, Ok, Err, refl, ap, sym, subst, ◌∙◌, append_assoc, append-nil, add-one, drop-cons, length-append, ◌-◌, arith}
use Rattle.std.specs.Prelude.{decimal}
use Rattle.std.specs.List.{slice_get}
use Rattle.std.proofs.lemmas.List.{drop_all}
use Rattle.serde_json.specs.View.{view, items_view}
use Rattle.serde_json.specs.declared.value.Value.{Value}
use Rattle.cmc_meta.specs.declared.key.Key.{Key}
use Rattle.cmc_summary.specs.declared.summary.Waiting.{Waiting}
use Rattle.cmc_cursor.specs.Members.{Read, ◌>>=◌, under}
use Rattle.cmc_cursor.specs.Readers.{with_front}
use Rattle.cmc_summary_form.specs.SummaryForm.{next_waiting_at, waits_from, all_waits, last_key}

-- those that were read and those of the items that are left give what all items give
pub record AreReadSoFar (front : List Waiting) (n : ℕ) (left : List Value) (all : Read (List Waiting)) : Type 0 where
  pub rest : with_front front (waits_from n (last_key front) (items_view left)) ≡ all

at_end : (front : List Waiting) (w : Waiting) → slice_get (front ++ w ∷ []) (length front) ≡ Some w
at_end [] w = refl
at_end (v ∷ front) w = at_end front w

last_is : (front : List Waiting) (w : Waiting) → last_key (front ++ w ∷ []) ≡ Some w.certificate
last_is front w =
    let end : length (front ++ w ∷ []) - 1 ≡ length front = omega (arith, length-append front (w ∷ [])) in
    rw (end, at_end front w) refl

as_ok : List Waiting → Read (List Waiting)
as_ok ws = Ok ws

pushed : (front : List Waiting) (w : Waiting) (r : Read (List Waiting)) → with_front (front ++ w ∷ []) r ≡ with_front front (r >>= (λ ws. Ok (w ∷ ws)))
unfolding as_ok
pushed front w (Ok ws) = ap as_ok (append_assoc front (w ∷ []) ws)
pushed front w (Err path) = refl

at_place : (vs : List Value) (n : ℕ) (v : Value) → n < length vs → v ≡ get_or vs n v → drop n vs ≡ v ∷ drop (n + 1) vs
at_place vs n v within is = rw (add-one) (drop-cons vs n v within ∙ ap (λ (x : Value). x ∷ drop (suc n) vs) (sym is))

nothing : (r : Read (List Waiting)) → with_front [] r ≡ r
nothing (Ok xs) = refl
nothing (Err path) = refl

pub at_first : (vs : List Value) → AreReadSoFar [] 0 vs (all_waits (items_view vs))
at_first vs = record { rest = nothing (all_waits (items_view vs)) }

pub one_more : (front seen : List Waiting) (w : Waiting) (n : ℕ) (vs : List Value) (v : Value) (all : Read (List Waiting)) → n < length vs → v ≡ get_or vs n v
    → seen ≡ front → under (decimal n) (next_waiting_at (last_key seen) (view v)) ≡ Ok w → AreReadSoFar front n (drop n vs) all → AreReadSoFar (front ++ w ∷ []) (n + 1) (drop (n + 1) vs) all
one_more front seen w n vs v all within is same read before =
    let one : under (decimal n) (next_waiting_at (last_key front) (view v)) ≡ Ok w = subst (λ (ws : List Waiting). under (decimal n) (next_waiting_at (last_key ws) (view v)) ≡ Ok w) same read in
    let split : drop n vs ≡ v ∷ drop (n + 1) vs = at_place vs n v within is in
    let opened : with_front front (under (decimal n) (next_waiting_at (last_key front) (view v)) >>= (λ x. waits_from (n + 1) (Some x.certificate) (items_view (drop (n + 1) vs)) >>= (λ ws. Ok (x ∷ ws)))) ≡ all = rw split at before.rest in
    record {
      rest = ap (λ (k : Option Key). with_front (front ++ w ∷ []) (waits_from (n + 1) k (items_view (drop (n + 1) vs)))) (last_is front w)
          ∙ pushed front w (waits_from (n + 1) (Some w.certificate) (items_view (drop (n + 1) vs))) ∙ (rw one at opened);
    }

pub all_read : (front : List Waiting) (n : ℕ) (vs : List Value) (all : Read (List Waiting)) → length vs ≤ n → AreReadSoFar front n (drop n vs) all → all ≡ Ok front
unfolding as_ok
all_read front n vs all past before =
    let none : drop n vs ≡ [] = drop_all n vs past in
    let opened : with_front front (waits_from n (last_key front) (items_view [])) ≡ all = rw none at before.rest in
    sym opened ∙ ap as_ok (append-nil front)
