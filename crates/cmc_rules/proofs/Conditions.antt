-- What a new condition leaves of those of other kinds.
use Rattle.std.proofs.Common.{◌≡◌, ◌==◌, ℕ, List, [], ◌∷◌, Bool, true, false, not, cond, Option, Some, None, refl, sym, ap, subst, ◌∙◌, Ordering, Less, Equal, Greater}
use Rattle.std.proofs.lemmas.Bool.Decides.{Decides-eqb}
use Rattle.std.specs.Ordering.{nat_cmp, match_ordering}
use Rattle.std.specs.FinMap.{nat_cmp-IsAntisymmetric}
use Rattle.cmc_meta.specs.declared.conditions.Condition.{Condition}
use Rattle.cmc_meta.specs.declared.conditions.ConditionKind.{ConditionKind}
use Rattle.cmc_meta.specs.ConditionLists.{condition_rank, condition_at, kept_since, renewed, transitioned}
use Rattle.cmc_rules.specs.Rights.{other_conditions}

-- the condition is of this kind
abbrev is_of : ConditionKind → Condition → Bool
is_of kind c = condition_rank c.kind == condition_rank kind

dropped : (kind : ConditionKind) (c : Condition) (cs : List Condition) → is_of kind c ≡ true → other_conditions kind (c ∷ cs) ≡ other_conditions kind cs
dropped kind c cs e = ap (λ (b : Bool). cond (not b) (c ∷ other_conditions kind cs) (other_conditions kind cs)) e

kept : (kind : ConditionKind) (c : Condition) (cs : List Condition) → is_of kind c ≡ false → other_conditions kind (c ∷ cs) ≡ c ∷ other_conditions kind cs
kept kind c cs e = ap (λ (b : Bool). cond (not b) (c ∷ other_conditions kind cs) (other_conditions kind cs)) e

others_by : (kind : ConditionKind) (c new : Condition) (cs later : List Condition) (o : Ordering) → nat_cmp (condition_rank new.kind) (condition_rank c.kind) ≡ o → is_of kind new ≡ true
    → other_conditions kind later ≡ other_conditions kind cs → other_conditions kind (match_ordering o (new ∷ c ∷ cs) (new ∷ cs) (c ∷ later)) ≡ other_conditions kind (c ∷ cs)
others_by kind c new cs later Less is own same = dropped kind new (c ∷ cs) own
others_by kind c new cs later Equal is own same =
    let one : condition_rank new.kind ≡ condition_rank c.kind = nat_cmp-IsAntisymmetric (condition_rank new.kind) (condition_rank c.kind) is in
    dropped kind new cs own ∙ sym (dropped kind c cs (subst (λ (n : ℕ). (n == condition_rank kind) ≡ true) one own))
others_by kind c new cs later Greater is own same = ap (λ (l : List Condition). cond (not (is_of kind c)) (c ∷ l) l) same

pub others-renewed : (kind : ConditionKind) (cs : List Condition) (new : Condition) → is_of kind new ≡ true → other_conditions kind (renewed cs new) ≡ other_conditions kind cs
others-renewed kind [] new own = dropped kind new [] own
others-renewed kind (c ∷ cs) new own = others_by kind c new cs (renewed cs new) (nat_cmp (condition_rank new.kind) (condition_rank c.kind)) refl own (others-renewed kind cs new own)

pub kept_kind : (old : Option Condition) (new : Condition) → (kept_since old new).kind ≡ new.kind
kept_kind None new = refl
kept_kind (Some old) new = refl

pub own_kind : (old : Option Condition) (new : Condition) → is_of new.kind (kept_since old new) ≡ true
own_kind old new = ap (λ (k : ConditionKind). condition_rank k == condition_rank new.kind) (kept_kind old new) ∙ (Decides-eqb (condition_rank new.kind) (condition_rank new.kind)).1 refl

pub others-transitioned : (cs : List Condition) (new : Condition) → other_conditions new.kind (transitioned cs new) ≡ other_conditions new.kind cs
unfolding transitioned
others-transitioned cs new = others-renewed new.kind cs (kept_since (condition_at cs new.kind) new) (own_kind (condition_at cs new.kind) new)
