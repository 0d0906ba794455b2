-- A condition that is new in a list is the one that is found there.
use Rattle.std.proofs.Common.{◌≡◌, ◌==◌, ℕ, List, [], ◌∷◌, map, Option, Some, None, Bool, true, false, ◌&&◌, ◌||◌, refl, sym, ap, subst, ◌∙◌, Ordering, Less, Equal, Greater, arith}
use Rattle.std.proofs.lemmas.Bool.Decides.{Decides-eqb, nat_tests}
use Rattle.std.specs.Prelude.{if◌then◌else◌}
use Rattle.std.specs.Cmp.{unsigned_ties}
use Rattle.std.specs.List.{AllByRecursion}
use Rattle.std.specs.List.Sorted.{IsStrictlySortedBy}
use Rattle.std.specs.Ordering.{is_eq, nat_cmp, match_ordering}
use Rattle.cmc_meta.specs.declared.conditions.Condition.{Condition}
use Rattle.cmc_meta.specs.declared.conditions.ConditionKind.{ConditionKind}
use Rattle.cmc_meta.specs.declared.conditions.Tri.{Tri}
use Rattle.cmc_meta.specs.declared.conditions.Tri.TheVariants.{True}
use Rattle.cmc_meta.specs.ConditionLists.{condition_at, condition_rank, IsInOrder, kept_since, renewed, transitioned, tri_eq}
use Rattle.cmc_meta.proofs.Orders.{renewed_in_order}
use Rattle.cmc_objects.specs.Requests.{is_stated}
use Rattle.cmc_rules.proofs.Conditions.{kept_kind}

itself : (n : ℕ) → (n == n) ≡ true
itself n = (Decides-eqb n n).1 refl

apart : (a b : ℕ) → nat_cmp a b ≡ Greater → (b == a) ≡ false
apart a b is =
    let ties = unsigned_ties a b in
    let off : (a == b) ≡ false = ties ∙ ap is_eq is in
    grind (arith, nat_tests)

found_by : (o : Ordering) (c new : Condition) (cs later : List Condition) → nat_cmp (condition_rank new.kind) (condition_rank c.kind) ≡ o → condition_at later new.kind ≡ Some new
    → condition_at (match_ordering o (new ∷ c ∷ cs) (new ∷ cs) (c ∷ later)) new.kind ≡ Some new
found_by Less c new cs later is below = ap (λ (b : Bool). if b then Some new else condition_at (c ∷ cs) new.kind) (itself (condition_rank new.kind))
found_by Equal c new cs later is below = ap (λ (b : Bool). if b then Some new else condition_at cs new.kind) (itself (condition_rank new.kind))
found_by Greater c new cs later is below =
    ap (λ (b : Bool). if b then Some c else condition_at later new.kind) (apart (condition_rank new.kind) (condition_rank c.kind) is) ∙ below

pub found_renewed : (cs : List Condition) (new : Condition) → condition_at (renewed cs new) new.kind ≡ Some new
found_renewed [] new = ap (λ (b : Bool). if b then Some new else None) (itself (condition_rank new.kind))
found_renewed (c ∷ cs) new = found_by (nat_cmp (condition_rank new.kind) (condition_rank c.kind)) c new cs (renewed cs new) refl (found_renewed cs new)

-- with the moment of the older one, where the status stays
pub found_new : (cs : List Condition) (new : Condition) → condition_at (transitioned cs new) new.kind ≡ Some (kept_since (condition_at cs new.kind) new)
unfolding transitioned
found_new cs new =
    let kept : Condition = kept_since (condition_at cs new.kind) new in
    subst (λ (k : ConditionKind). condition_at (renewed cs kept) k ≡ Some kept) (kept_kind (condition_at cs new.kind) new) (found_renewed cs kept)

pub transitioned_in_order : (cs : List Condition) (new : Condition) → IsInOrder cs → IsInOrder (transitioned cs new)
unfolding transitioned
transitioned_in_order cs new order = renewed_in_order cs (kept_since (condition_at cs new.kind) new) order

-- ---- conditions that are True

kept_status : (old : Option Condition) (new : Condition) → (kept_since old new).status ≡ new.status
kept_status None new = refl
kept_status (Some old) new = refl

stated_by : (own : Bool) (kind : ConditionKind) (c x : Condition) (cs : List Condition) → (if own then Some c else condition_at cs kind) ≡ Some x → tri_eq x.status True ≡ true → (condition_at cs kind ≡ Some x → is_stated kind cs ≡ true)
    → ((own && tri_eq c.status True) || is_stated kind cs) ≡ true
stated_by true kind c x cs is on below =
    let same : c ≡ x = cc is in
    ap (λ (b : Bool). b || is_stated kind cs) (ap (λ (y : Condition). tri_eq y.status True) same ∙ on)
stated_by false kind c x cs is on below = below is

found_stated : (cs : List Condition) (kind : ConditionKind) (x : Condition) → condition_at cs kind ≡ Some x → tri_eq x.status True ≡ true → is_stated kind cs ≡ true
found_stated [] kind x is on = absurd (cc is)
found_stated (c ∷ cs) kind x is on = stated_by (condition_rank c.kind == condition_rank kind) kind c x cs is on (λ there. found_stated cs kind x there on)

-- a new condition that is True is stated
pub stated_new : (cs : List Condition) (new : Condition) → tri_eq new.status True ≡ true → is_stated new.kind (transitioned cs new) ≡ true
stated_new cs new on =
    found_stated (transitioned cs new) new.kind (kept_since (condition_at cs new.kind) new) (found_new cs new) (ap (λ (t : Tri). tri_eq t True) (kept_status (condition_at cs new.kind) new) ∙ on)

-- ---- in a list in order

none_by : (own : Bool) (n m : ℕ) (on : Bool) (rest : Bool) → (m == n) ≡ own → nat_cmp n m ≡ Less → rest ≡ false → ((own && on) || rest) ≡ false
none_by true n m on rest is less off = absurd (let ties : (n == m) ≡ false = unsigned_ties n m ∙ ap is_eq less in grind (arith, nat_tests))
none_by false n m on rest is less off = off

none_above : (kind : ConditionKind) (cs : List Condition) → AllByRecursion (λ m. nat_cmp (condition_rank kind) m ≡ Less) (map (λ (c : Condition). condition_rank c.kind) cs) → is_stated kind cs ≡ false
none_above kind [] above = refl
none_above kind (c ∷ cs) above =
    none_by (condition_rank c.kind == condition_rank kind) (condition_rank kind) (condition_rank c.kind) (tri_eq c.status True) (is_stated kind cs) refl above.0 (none_above kind cs above.1)

sole_by : (own : Bool) (kind : ConditionKind) (c x : Condition) (cs : List Condition) → (condition_rank c.kind == condition_rank kind) ≡ own → (if own then Some c else condition_at cs kind) ≡ Some x
    → AllByRecursion (λ m. nat_cmp (condition_rank c.kind) m ≡ Less) (map (λ (d : Condition). condition_rank d.kind) cs) → ((own && tri_eq c.status True) || is_stated kind cs) ≡ true
    → (condition_at cs kind ≡ Some x → is_stated kind cs ≡ true → tri_eq x.status True ≡ true) → tri_eq x.status True ≡ true
sole_by true kind c x cs own is above on below = by (tri_eq c.status True) refl where
  same : c ≡ x
  same = cc is

  none : is_stated kind cs ≡ false
  none = none_above kind cs (subst (λ (n : ℕ). AllByRecursion (λ m. nat_cmp n m ≡ Less) (map (λ (d : Condition). condition_rank d.kind) cs)) ((Decides-eqb (condition_rank c.kind) (condition_rank kind)).0 own) above)

  by : (b : Bool) → tri_eq c.status True ≡ b → tri_eq x.status True ≡ true
  by true e = ap (λ (y : Condition). tri_eq y.status True) (sym same) ∙ e
  by false e = absurd (let off : (tri_eq c.status True || is_stated kind cs) ≡ false = ap (λ (b : Bool). b || is_stated kind cs) e ∙ none in cc (on, off))
sole_by false kind c x cs own is above on below = below is on

-- what is stated there is True where it is found
pub stated_found : (cs : List Condition) (kind : ConditionKind) (x : Condition) → IsInOrder cs → condition_at cs kind ≡ Some x → is_stated kind cs ≡ true → tri_eq x.status True ≡ true
unfolding IsStrictlySortedBy
stated_found [] kind x order is on = absurd (cc on)
stated_found (c ∷ cs) kind x order is on =
    sole_by (condition_rank c.kind == condition_rank kind) kind c x cs refl is order.0 on (λ there stated. stated_found cs kind x order.1 there stated)

-- a new condition that is not True is stated no longer
pub unstated_new : (cs : List Condition) (new : Condition) → IsInOrder cs → tri_eq new.status True ≡ false → is_stated new.kind cs ≡ true → transitioned cs new ≡ cs → ⊥
unstated_new cs new order off on same =
    let kept : Condition = kept_since (condition_at cs new.kind) new in
    let found : condition_at cs new.kind ≡ Some kept = subst (λ (l : List Condition). condition_at l new.kind ≡ Some kept) same (found_new cs new) in
    let status : tri_eq new.status True ≡ true = ap (λ (t : Tri). tri_eq t True) (sym (kept_status (condition_at cs new.kind) new)) ∙ stated_found cs new.kind kept order found on in
    cc (status, off)
