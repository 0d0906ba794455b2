-- Conditions that are put in their place.
use Rattle.std.proofs.Common.{◌≡◌, ℕ, ◌≤◌, ◌<◌, List, [], ◌∷◌, length, map, Bool, true, false, refl, sym, ap, ◌∙◌, subst, arith, Less, Equal, Greater}
use Rattle.std.specs.Prelude.{insert, slice_set}
use Rattle.std.specs.Cmp.{nat_cmp_total}
use Rattle.std.specs.List.{AllByRecursion}
use Rattle.std.specs.List.Sorted.{IsStrictlySortedBy}
use Rattle.std.specs.Ordering.{nat_cmp, match_ordering, ordering_reverse}
use Rattle.cmc_meta.specs.declared.conditions.Condition.{Condition}
use Rattle.cmc_meta.specs.declared.conditions.ConditionKind.{ConditionKind}
use Rattle.cmc_meta.specs.ConditionLists.{condition_rank, IsInOrder, renewed, place_in, next_place}

-- the place is within the list, and one past it only where the kind is absent
pub place_within : (cs : List Condition) (kind : ConditionKind) → (place_in cs kind).0 ≤ length cs
place_within [] kind = omega arith
place_within (c ∷ cs) kind =
    elim (nat_cmp (condition_rank kind) (condition_rank c.kind)) as (λ o. (match_ordering o (0, false) (0, true) (next_place (place_in cs kind))).0 ≤ length (c ∷ cs)) [
      | Less ↦ omega arith
      | Equal ↦ omega arith
      | Greater ↦ let rest = place_within cs kind in omega (arith, rest)
    ]

pub place_taken : (cs : List Condition) (kind : ConditionKind) → (place_in cs kind).1 ≡ true → (place_in cs kind).0 < length cs
place_taken [] kind h = absurd cc
place_taken (c ∷ cs) kind h =
    elim (nat_cmp (condition_rank kind) (condition_rank c.kind)) as (λ o. (match_ordering o (0, false) (0, true) (next_place (place_in cs kind))).1 ≡ true → (match_ordering o (0, false) (0, true) (next_place (place_in cs kind))).0 < length (c ∷ cs)) [
      | Less ↦ λ e. absurd cc
      | Equal ↦ λ e. omega arith
      | Greater ↦ λ e. let rest = place_taken cs kind e in omega (arith, rest)
    ] h

-- a kind that is absent is inserted at its place
pub renewed-insert : (cs : List Condition) (new : Condition) → (place_in cs new.kind).1 ≡ false → renewed cs new ≡ insert cs (place_in cs new.kind).0 new
renewed-insert [] new h = refl
renewed-insert (c ∷ cs) new h =
    elim (nat_cmp (condition_rank new.kind) (condition_rank c.kind)) as (λ o. (match_ordering o (0, false) (0, true) (next_place (place_in cs new.kind))).1 ≡ false
    → match_ordering o (new ∷ c ∷ cs) (new ∷ cs) (c ∷ renewed cs new) ≡ insert (c ∷ cs) (match_ordering o (0, false) (0, true) (next_place (place_in cs new.kind))).0 new) [
      | Less ↦ λ e. refl
      | Equal ↦ λ e. absurd cc
      | Greater ↦ λ e. ap (λ l. c ∷ l) (renewed-insert cs new e)
    ] h

-- a kind that is there is replaced at its place
pub renewed-set : (cs : List Condition) (new : Condition) → (place_in cs new.kind).1 ≡ true → renewed cs new ≡ slice_set cs (place_in cs new.kind).0 new
renewed-set [] new h = absurd cc
renewed-set (c ∷ cs) new h =
    elim (nat_cmp (condition_rank new.kind) (condition_rank c.kind)) as (λ o. (match_ordering o (0, false) (0, true) (next_place (place_in cs new.kind))).1 ≡ true
    → match_ordering o (new ∷ c ∷ cs) (new ∷ cs) (c ∷ renewed cs new) ≡ slice_set (c ∷ cs) (match_ordering o (0, false) (0, true) (next_place (place_in cs new.kind))).0 new) [
      | Less ↦ λ e. absurd cc
      | Equal ↦ λ e. refl
      | Greater ↦ λ e. ap (λ l. c ∷ l) (renewed-set cs new e)
    ] h

abbrev ranks : List Condition → List ℕ
ranks cs = map (λ c. condition_rank c.kind) cs

-- what is so of the ranks that stand, and of the new one, is so of all after
all_renewed : (P : ℕ → Type 0) (cs : List Condition) (new : Condition) → AllByRecursion P (ranks cs) → P (condition_rank new.kind) → AllByRecursion P (ranks (renewed cs new))
all_renewed P [] new h p = (p, tt)
all_renewed P (c ∷ cs) new h p =
    elim (nat_cmp (condition_rank new.kind) (condition_rank c.kind)) as (λ o. AllByRecursion P (ranks (match_ordering o (new ∷ c ∷ cs) (new ∷ cs) (c ∷ renewed cs new)))) [
      | Less ↦ (p, h)
      | Equal ↦ (p, h.1)
      | Greater ↦ (h.0, all_renewed P cs new h.1 p)
    ]

all_weaker : (P Q : ℕ → Type 0) (xs : List ℕ) → ((x : ℕ) → P x → Q x) → AllByRecursion P xs → AllByRecursion Q xs
all_weaker P Q [] f h = tt
all_weaker P Q (x ∷ xs) f h = (f x h.0, all_weaker P Q xs f h.1)

-- a list in order stays in order
pub renewed_in_order : (cs : List Condition) (new : Condition) → IsInOrder cs → IsInOrder (renewed cs new)
unfolding IsStrictlySortedBy
renewed_in_order [] new h = (tt, tt)
renewed_in_order (c ∷ cs) new h =
    let n : ℕ = condition_rank new.kind in
    let m : ℕ = condition_rank c.kind in
    elim (nat_cmp n m) as (λ o. nat_cmp n m ≡ o → IsStrictlySortedBy nat_cmp (ranks (match_ordering o (new ∷ c ∷ cs) (new ∷ cs) (c ∷ renewed cs new)))) [
      | Less ↦ λ e. ((e, all_weaker _ _ (ranks cs) (λ x below. nat_cmp_total.trans n m x e below) h.0), h)
      | Equal ↦ λ e. (all_weaker _ _ (ranks cs) (λ x below. nat_cmp_total.congr n m x e ∙ below) h.0, h.1)
      | Greater ↦ λ e. (all_renewed _ cs new h.0 (nat_cmp_total.antisymm m n ∙ ap ordering_reverse e), renewed_in_order cs new h.1)
    ] refl

-- the same, of a place that was found
pub set_at_place : (cs : List Condition) (new : Condition) (p : ℕ × Bool) → p ≡ place_in cs new.kind → p.1 ≡ true → slice_set cs p.0 new ≡ renewed cs new
set_at_place cs new p is taken = ap (λ (q : ℕ × Bool). slice_set cs q.0 new) is ∙ sym (renewed-set cs new (ap (λ (q : ℕ × Bool). q.1) (sym is) ∙ taken))

pub insert_at_place : (cs : List Condition) (new : Condition) (p : ℕ × Bool) → p ≡ place_in cs new.kind → p.1 ≡ false → insert cs p.0 new ≡ renewed cs new
insert_at_place cs new p is absent = ap (λ (q : ℕ × Bool). insert cs q.0 new) is ∙ sym (renewed-insert cs new (ap (λ (q : ℕ × Bool). q.1) (sym is) ∙ absent))

pub place_is_within : (cs : List Condition) (kind : ConditionKind) (p : ℕ × Bool) → p ≡ place_in cs kind → p.0 ≤ length cs
place_is_within cs kind p is = subst (λ (q : ℕ × Bool). q.0 ≤ length cs) (sym is) (place_within cs kind)

pub place_is_taken : (cs : List Condition) (kind : ConditionKind) (p : ℕ × Bool) → p ≡ place_in cs kind → p.1 ≡ true → p.0 < length cs
place_is_taken cs kind p is taken = subst (λ (q : ℕ × Bool). q.0 < length cs) (sym is) (place_taken cs kind (ap (λ (q : ℕ × Bool). q.1) (sym is) ∙ taken))
