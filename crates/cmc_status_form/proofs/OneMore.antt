-- One more condition was read, and it comes behind all before it.
use Rattle.std.proofs.Common.{◌≡◌, ℕ, suc, ◌+◌, ◌<◌, ◌≤◌, List, [], ◌∷◌, ◌++◌, length, get_or, drop, Ok, Err, refl, ap, sym, ◌∙◌, append_assoc, append-nil, add-one, drop-cons, arith, Greater}
use Rattle.std.specs.Prelude.{decimal}
use Rattle.std.specs.Cmp.{nat_cmp_is}
use Rattle.std.specs.List.{AllByRecursion}
use Rattle.std.specs.Ordering.{nat_cmp}
use Rattle.std.proofs.lemmas.List.{drop_all}
use Rattle.serde_json.specs.View.{view, items_view}
use Rattle.serde_json.specs.declared.value.Value.{Value}
use Rattle.cmc_meta.specs.ConditionLists.{condition_rank, renewed}
use Rattle.cmc_meta.specs.declared.conditions.Condition.{Condition}
use Rattle.cmc_cursor.specs.Members.{Read, ◌>>=◌, under}
use Rattle.cmc_cursor.specs.Readers.{with_front}
use Rattle.cmc_status_form.specs.ConditionForm.{condition_read_at, from_rank, conditions_from}
use Rattle.cmc_status_form.proofs.ConditionsAgain.{numbered_so}

-- each is of a kind before this place of the order
abbrev AreBelow : ℕ → List Condition → Type 0
AreBelow least cs = AllByRecursion (λ c. condition_rank c.kind < least) cs

-- the conditions that were read and those of the items that are left give what all items give
pub record AreReadSoFar (front : List Condition) (least n : ℕ) (left : List Value) (all : Read (List Condition)) : Type 0 where
  pub rest : with_front front (conditions_from n least (items_view left)) ≡ all
  pub below : AreBelow least front

-- a condition of a later kind goes to the end
renewed_last : (least : ℕ) (cs : List Condition) (c : Condition) → least ≤ condition_rank c.kind → AreBelow least cs → renewed cs c ≡ cs ++ c ∷ []
renewed_last least [] c later are = refl
renewed_last least (d ∷ cs) c later are = rw (greater (condition_rank c.kind) (condition_rank d.kind) (omega (arith, are.0))) (ap (λ (l : List Condition). d ∷ l) (renewed_last least cs c later are.1))
  where
    greater : (m n : ℕ) → n < m → nat_cmp m n ≡ Greater
    greater m n h = sym (nat_cmp_is m n Greater h)

below_later : (least : ℕ) (cs : List Condition) (c : Condition) → least ≤ condition_rank c.kind → AreBelow least cs → AreBelow (condition_rank c.kind + 1) (cs ++ c ∷ [])
below_later least [] c later are = (omega arith, tt)
below_later least (d ∷ cs) c later are = (omega (arith, are.0), below_later least cs c later are.1)

pushed : (front : List Condition) (c : Condition) (r : Read (List Condition)) → with_front (front ++ c ∷ []) r ≡ with_front front (r >>= (λ cs. Ok (c ∷ cs)))
pushed front c (Ok cs) = ap (λ (l : List Condition). as_ok l) (append_assoc front (c ∷ []) cs)
  where
    as_ok : List Condition → Read (List Condition)
    as_ok l = Ok l
pushed front c (Err path) = refl

at_place : (vs : List Value) (n : ℕ) (v : Value) → n < length vs → v ≡ get_or vs n v → drop n vs ≡ v ∷ drop (n + 1) vs
at_place vs n v within is = rw (add-one) (drop-cons vs n v within ∙ ap (λ (x : Value). x ∷ drop (suc n) vs) (sym is))

nothing : (r : Read (List Condition)) → with_front [] r ≡ r
nothing (Ok xs) = refl
nothing (Err path) = refl

pub at_first : (vs : List Value) → AreReadSoFar [] 0 0 vs (conditions_from 0 0 (items_view vs))
at_first vs = record { rest = nothing (conditions_from 0 0 (items_view vs)); below = tt }

pub one_more : (front : List Condition) (c : Condition) (least n : ℕ) (vs : List Value) (v : Value) (all : Read (List Condition)) → n < length vs → v ≡ get_or vs n v
    → under (decimal n) (condition_read_at (view v) >>= from_rank least) ≡ Ok c → AreReadSoFar front least n (drop n vs) all → AreReadSoFar (renewed front c) (condition_rank c.kind + 1) (n + 1) (drop (n + 1) vs) all
one_more front c least n vs v all within is one before =
    let later = ((numbered_so n least (view v)).each c one).0 in
    let split : drop n vs ≡ v ∷ drop (n + 1) vs = at_place vs n v within is in
    let opened : with_front front (under (decimal n) (condition_read_at (view v) >>= from_rank least) >>= (λ d. conditions_from (n + 1) (condition_rank d.kind + 1) (items_view (drop (n + 1) vs)) >>= (λ cs. Ok (d ∷ cs)))) ≡ all = rw split at before.rest in
    let here : AreReadSoFar (front ++ c ∷ []) (condition_rank c.kind + 1) (n + 1) (drop (n + 1) vs) all = record {
      rest = pushed front c (conditions_from (n + 1) (condition_rank c.kind + 1) (items_view (drop (n + 1) vs))) ∙ (rw one at opened);
      below = below_later least front c later before.below;
    } in
    rw (renewed_last least front c later before.below) here

pub all_read : (front : List Condition) (least n : ℕ) (vs : List Value) (all : Read (List Condition)) → length vs ≤ n → AreReadSoFar front least n (drop n vs) all → all ≡ Ok front
all_read front least n vs all past before =
    let none : drop n vs ≡ [] = drop_all n vs past in
    let opened : with_front front (conditions_from n least (items_view [])) ≡ all = rw none at before.rest in
    sym opened ∙ ap (λ (l : List Condition). as_ok l) (append-nil front)
  where
    as_ok : List Condition → Read (List Condition)
    as_ok l = Ok l
