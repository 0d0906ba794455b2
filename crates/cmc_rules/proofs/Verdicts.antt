-- A new condition, a verdict where none stands or one of another kind, meets the rules on verdicts.
use Rattle.std.proofs.Common.{◌≡◌, ◌==◌, ◌&&◌, ◌||◌, ℕ, List, [], ◌∷◌, Bool, true, false, not, cond, Option, Some, None, refl, sym, ap, ◌∙◌, Ordering, Less, Equal, Greater}
use Rattle.std.proofs.lemmas.Bool.Decides.{Decides-eqb}
use Rattle.std.specs.Prelude.{find, if◌then◌else◌}
use Rattle.std.specs.List.{list_any}
use Rattle.std.specs.Ordering.{nat_cmp, match_ordering}
use Rattle.std.proofs.lemmas.Bool.{or_parts}
use Rattle.cmc_meta.specs.declared.conditions.Condition.{Condition}
use Rattle.cmc_meta.specs.declared.conditions.ConditionKind.{ConditionKind}
use Rattle.cmc_meta.specs.declared.conditions.ConditionKind.TheVariants.{Approved, Denied}
use Rattle.cmc_meta.specs.declared.conditions.Tri.{Tri}
use Rattle.cmc_meta.specs.declared.conditions.Tri.TheVariants.{True}
use Rattle.cmc_meta.specs.ConditionLists.{condition_rank, condition_at, tri_eq, kept_since, renewed, transitioned}
use Rattle.cmc_objects.specs.Requests.{is_stated}
use Rattle.cmc_model.specs.Admission.{is_of_condition, has_condition, is_unsettled, is_lost, is_verdict_unsettled, has_both_verdicts, verdict_rules, least_failing}
use Rattle.cmc_model.proofs.Admission.{condition_eq-Decides}
use Rattle.cmc_rules.specs.Rights.{other_conditions}
use Rattle.cmc_rules.proofs.Conditions.{others-transitioned}

-- ---- booleans

pub and_first : (a b : Bool) → a ≡ false → (a && b) ≡ false
and_first true b is = absurd (cc is)
and_first false b is = refl

and_second : (a b : Bool) → b ≡ false → (a && b) ≡ false
and_second true b is = is
and_second false b is = refl

or_both : (a b : Bool) → a ≡ false → b ≡ false → (a || b) ≡ false
or_both true b one other = absurd (cc one)
or_both false b one other = other

-- no condition is of two kinds
pub apart : (a b : ConditionKind) → (condition_rank a == condition_rank b) ≡ false → (c : Condition) → is_of_condition a c ≡ true → is_of_condition b c ≡ false
apart a b off c is = ap (λ (n : ℕ). n == condition_rank b) ((Decides-eqb (condition_rank c.kind) (condition_rank a)).0 is) ∙ off

-- ---- the other conditions

dropped : (kind : ConditionKind) (c : Condition) (cs : List Condition) → is_of_condition kind c ≡ true → other_conditions kind (c ∷ cs) ≡ other_conditions kind cs
dropped kind c cs e = ap (λ (b : Bool). cond (not b) (c ∷ other_conditions kind cs) (other_conditions kind cs)) e

kept : (kind : ConditionKind) (c : Condition) (cs : List Condition) → is_of_condition kind c ≡ false → other_conditions kind (c ∷ cs) ≡ c ∷ other_conditions kind cs
kept kind c cs e = ap (λ (b : Bool). cond (not b) (c ∷ other_conditions kind cs) (other_conditions kind cs)) e

swap_by : (x y : Bool) (a b : ConditionKind) (c : Condition) (cs : List Condition) → is_of_condition a c ≡ x → is_of_condition b c ≡ y → other_conditions a (other_conditions b cs) ≡ other_conditions b (other_conditions a cs)
    → other_conditions a (cond (not y) (c ∷ other_conditions b cs) (other_conditions b cs)) ≡ other_conditions b (cond (not x) (c ∷ other_conditions a cs) (other_conditions a cs))
swap_by true true a b c cs ex ey same = same
swap_by false true a b c cs ex ey same = same ∙ sym (dropped b c (other_conditions a cs) ey)
swap_by true false a b c cs ex ey same = dropped a c (other_conditions b cs) ex ∙ same
swap_by false false a b c cs ex ey same = kept a c (other_conditions b cs) ex ∙ ap (λ (l : List Condition). c ∷ l) same ∙ sym (kept b c (other_conditions a cs) ey)

-- two kinds may be left out in either order
pub others_swap : (a b : ConditionKind) (cs : List Condition) → other_conditions a (other_conditions b cs) ≡ other_conditions b (other_conditions a cs)
others_swap a b [] = refl
others_swap a b (c ∷ cs) = swap_by (is_of_condition a c) (is_of_condition b c) a b c cs refl refl (others_swap a b cs)

-- ---- a test of one kind looks at no other

any_by : (b : Bool) (kind : ConditionKind) (p : Condition → Bool) (c : Condition) (cs : List Condition) → is_of_condition kind c ≡ b → (b ≡ true → p c ≡ false) → list_any p (other_conditions kind cs) ≡ list_any p cs
    → list_any p (cond (not b) (c ∷ other_conditions kind cs) (other_conditions kind cs)) ≡ (p c || list_any p cs)
any_by true kind p c cs is off same = same ∙ ap (λ (x : Bool). x || list_any p cs) (sym (off refl))
any_by false kind p c cs is off same = ap (λ (x : Bool). p c || x) same

any_others : (kind : ConditionKind) (p : Condition → Bool) (cs : List Condition) → ((c : Condition) → is_of_condition kind c ≡ true → p c ≡ false) → list_any p (other_conditions kind cs) ≡ list_any p cs
any_others kind p [] off = refl
any_others kind p (c ∷ cs) off = any_by (is_of_condition kind c) kind p c cs refl (off c) (any_others kind p cs off)

find_by : (b : Bool) (kind : ConditionKind) (p : Condition → Bool) (c : Condition) (cs : List Condition) → is_of_condition kind c ≡ b → (b ≡ true → p c ≡ false) → find p (other_conditions kind cs) ≡ find p cs
    → find p (cond (not b) (c ∷ other_conditions kind cs) (other_conditions kind cs)) ≡ (if p c then Some c else find p cs)
find_by true kind p c cs is off same = same ∙ ap (λ (x : Bool). if x then Some c else find p cs) (sym (off refl))
find_by false kind p c cs is off same = ap (λ (o : Option Condition). if p c then Some c else o) same

find_others : (kind : ConditionKind) (p : Condition → Bool) (cs : List Condition) → ((c : Condition) → is_of_condition kind c ≡ true → p c ≡ false) → find p (other_conditions kind cs) ≡ find p cs
find_others kind p [] off = refl
find_others kind p (c ∷ cs) off = find_by (is_of_condition kind c) kind p c cs refl (off c) (find_others kind p cs off)

-- what a test of another kind says is as before
pub any_same : (p : Condition → Bool) (cs : List Condition) (new : Condition) → ((c : Condition) → is_of_condition new.kind c ≡ true → p c ≡ false) → list_any p (transitioned cs new) ≡ list_any p cs
any_same p cs new off = sym (any_others new.kind p (transitioned cs new) off) ∙ ap (list_any p) (others-transitioned cs new) ∙ any_others new.kind p cs off

pub find_same : (p : Condition → Bool) (cs : List Condition) (new : Condition) → ((c : Condition) → is_of_condition new.kind c ≡ true → p c ≡ false) → find p (transitioned cs new) ≡ find p cs
find_same p cs new off = sym (find_others new.kind p (transitioned cs new) off) ∙ ap (find p) (others-transitioned cs new) ∙ find_others new.kind p cs off

-- ---- a test of the own kind

or_none : (a b : Bool) → (a || b) ≡ false → (a || false) ≡ false
or_none a b is = ap (λ (x : Bool). x || false) (or_parts a b is).0

any_put_by : (p : Condition → Bool) (c new : Condition) (cs later : List Condition) (o : Ordering) → p new ≡ false → (p c || list_any p cs) ≡ false → list_any p later ≡ false
    → list_any p (match_ordering o (new ∷ c ∷ cs) (new ∷ cs) (c ∷ later)) ≡ false
any_put_by p c new cs later Less off none below = ap (λ (x : Bool). x || (p c || list_any p cs)) off ∙ none
any_put_by p c new cs later Equal off none below = ap (λ (x : Bool). x || list_any p cs) off ∙ (or_parts (p c) (list_any p cs) none).1
any_put_by p c new cs later Greater off none below = ap (λ (x : Bool). p c || x) below ∙ or_none (p c) (list_any p cs) none

any_put : (p : Condition → Bool) (cs : List Condition) (new : Condition) → p new ≡ false → list_any p cs ≡ false → list_any p (renewed cs new) ≡ false
any_put p [] new off none = ap (λ (x : Bool). x || false) off
any_put p (c ∷ cs) new off none =
    any_put_by p c new cs (renewed cs new) (nat_cmp (condition_rank new.kind) (condition_rank c.kind)) off none (any_put p cs new off (or_parts (p c) (list_any p cs) none).1)

kept_status : (old : Option Condition) (new : Condition) → (kept_since old new).status ≡ new.status
kept_status None new = refl
kept_status (Some old) new = refl

-- ---- where no verdict stands

none_by : (of so some other rest : Bool) → ((of && so) || some) ≡ false → ((of && not so) || other) ≡ false → (some ≡ false → other ≡ false → rest ≡ false) → (of || rest) ≡ false
none_by true true some other rest stated unsettled below = absurd (cc stated)
none_by true false some other rest stated unsettled below = absurd (cc unsettled)
none_by false so some other rest stated unsettled below = below stated unsettled

-- settled and not True: it does not stand
none_stands : (k : ConditionKind) (cs : List Condition) → is_stated k cs ≡ false → is_unsettled k cs ≡ false → has_condition k cs ≡ false
none_stands k [] stated unsettled = refl
none_stands k (c ∷ cs) stated unsettled = none_by (is_of_condition k c) (tri_eq c.status True) (is_stated k cs) (is_unsettled k cs) (has_condition k cs) stated unsettled (none_stands k cs)

find_none_by : (b rest : Bool) (p : Condition → Bool) (c : Condition) (cs : List Condition) → (b || rest) ≡ false → (rest ≡ false → find p cs ≡ None) → (if b then Some c else find p cs) ≡ None
find_none_by true rest p c cs is below = absurd (cc is)
find_none_by false rest p c cs is below = below is

find_none : (p : Condition → Bool) (cs : List Condition) → list_any p cs ≡ false → find p cs ≡ None
find_none p [] is = refl
find_none p (c ∷ cs) is = find_none_by (p c) (list_any p cs) p c cs is (find_none p cs)

not_lost : (k : ConditionKind) (cs : List Condition) (o : Option Condition) → has_condition k cs ≡ false → is_lost (condition_at cs k) o ≡ false
not_lost k cs o off = ap (λ (x : Option Condition). is_lost x o) (find_none (is_of_condition k) cs off)

-- a True condition keeps its kind settled
settles : (cs : List Condition) (new : Condition) (k : ConditionKind) → new.status ≡ True → is_unsettled k cs ≡ false → is_unsettled k (transitioned cs new) ≡ false
unfolding transitioned
settles cs new k is off =
    any_put (λ c. is_of_condition k c && not (tri_eq c.status True)) cs (kept_since (condition_at cs new.kind) new)
    (and_second (is_of_condition k (kept_since (condition_at cs new.kind) new)) _ (ap (λ (t : Tri). not (tri_eq t True)) (kept_status (condition_at cs new.kind) new ∙ is))) off

-- a test of another kind is as before
other_unsettled : (cs : List Condition) (new : Condition) (k : ConditionKind) → (condition_rank new.kind == condition_rank k) ≡ false → is_unsettled k (transitioned cs new) ≡ is_unsettled k cs
other_unsettled cs new k off = any_same (λ c. is_of_condition k c && not (tri_eq c.status True)) cs new (λ c is. and_first (is_of_condition k c) _ (apart new.kind k off c is))

other_stands : (cs : List Condition) (new : Condition) (k : ConditionKind) → (condition_rank new.kind == condition_rank k) ≡ false → has_condition k (transitioned cs new) ≡ has_condition k cs
other_stands cs new k off = any_same (is_of_condition k) cs new (apart new.kind k off)

-- ---- the rules

passes_by : (a b c : Bool) → a ≡ false → b ≡ false → c ≡ false → least_failing ((9, a) ∷ (10, b) ∷ (11, c) ∷ []) ≡ None
passes_by true b c ea eb ec = absurd (cc ea)
passes_by false true c ea eb ec = absurd (cc eb)
passes_by false false true ea eb ec = absurd (cc ec)
passes_by false false false ea eb ec = refl

-- verdicts that met the rules
pub record AreSettled (conditions : List Condition) : Type 0 where
  pub approved : is_unsettled Approved conditions ≡ false
  pub denied : is_unsettled Denied conditions ≡ false
  pub one : has_both_verdicts conditions ≡ false

pub are_settled : (cs : List Condition) → is_verdict_unsettled cs ≡ false → has_both_verdicts cs ≡ false → AreSettled cs
are_settled cs settled one = let parts = or_parts (is_unsettled Approved cs) (is_unsettled Denied cs) settled in record { approved = parts.0; denied = parts.1; one = one }

pub approval_passes : (cs : List Condition) (new : Condition) → new.kind ≡ Approved → new.status ≡ True → AreSettled cs → is_stated Approved cs ≡ false → is_stated Denied cs ≡ false
    → least_failing (verdict_rules cs (transitioned cs new)) ≡ None
approval_passes cs new kind status settled approved denied =
    let off : (condition_rank new.kind == condition_rank Denied) ≡ false = ap (λ (k : ConditionKind). condition_rank k == condition_rank Denied) kind in
    let none : has_condition Denied cs ≡ false = none_stands Denied cs denied settled.denied in
    passes_by _ _ _ (or_both _ _ (settles cs new Approved status settled.approved) (other_unsettled cs new Denied off ∙ settled.denied))
    (and_second (has_condition Approved (transitioned cs new)) _ (other_stands cs new Denied off ∙ none))
    (or_both _ _ (not_lost Approved cs (condition_at (transitioned cs new) Approved) (none_stands Approved cs approved settled.approved)) (not_lost Denied cs (condition_at (transitioned cs new) Denied) none))

pub denial_passes : (cs : List Condition) (new : Condition) → new.kind ≡ Denied → new.status ≡ True → AreSettled cs → is_stated Approved cs ≡ false → is_stated Denied cs ≡ false
    → least_failing (verdict_rules cs (transitioned cs new)) ≡ None
denial_passes cs new kind status settled approved denied =
    let off : (condition_rank new.kind == condition_rank Approved) ≡ false = ap (λ (k : ConditionKind). condition_rank k == condition_rank Approved) kind in
    let none : has_condition Approved cs ≡ false = none_stands Approved cs approved settled.approved in
    passes_by _ _ _ (or_both _ _ (other_unsettled cs new Approved off ∙ settled.approved) (settles cs new Denied status settled.denied))
    (and_first _ (has_condition Denied (transitioned cs new)) (other_stands cs new Approved off ∙ none))
    (or_both _ _ (not_lost Approved cs (condition_at (transitioned cs new) Approved) none) (not_lost Denied cs (condition_at (transitioned cs new) Denied) (none_stands Denied cs denied settled.denied)))

-- ---- a condition of another kind

unchanged : (o : Option Condition) → is_lost o o ≡ false
unchanged None = refl
unchanged (Some c) = ap not ((condition_eq-Decides c c).1 refl)

-- ---- conditions that differ in one kind alone

any_kept : (kind : ConditionKind) (p : Condition → Bool) (cs later : List Condition) → other_conditions kind later ≡ other_conditions kind cs → ((c : Condition) → is_of_condition kind c ≡ true → p c ≡ false) → list_any p later ≡ list_any p cs
any_kept kind p cs later same off = sym (any_others kind p later off) ∙ ap (list_any p) same ∙ any_others kind p cs off

kept_unsettled : (kind k : ConditionKind) (cs later : List Condition) → other_conditions kind later ≡ other_conditions kind cs → (condition_rank kind == condition_rank k) ≡ false → is_unsettled k later ≡ is_unsettled k cs
kept_unsettled kind k cs later same off = any_kept kind (λ c. is_of_condition k c && not (tri_eq c.status True)) cs later same (λ c is. and_first (is_of_condition k c) _ (apart kind k off c is))

kept_stands : (kind k : ConditionKind) (cs later : List Condition) → other_conditions kind later ≡ other_conditions kind cs → (condition_rank kind == condition_rank k) ≡ false → has_condition k later ≡ has_condition k cs
kept_stands kind k cs later same off = any_kept kind (is_of_condition k) cs later same (apart kind k off)

kept_found : (kind k : ConditionKind) (cs later : List Condition) → other_conditions kind later ≡ other_conditions kind cs → (condition_rank kind == condition_rank k) ≡ false → condition_at later k ≡ condition_at cs k
kept_found kind k cs later same off = sym (find_others kind (is_of_condition k) later (apart kind k off)) ∙ ap (find (is_of_condition k)) same ∙ find_others kind (is_of_condition k) cs (apart kind k off)

-- where that kind is no verdict, the rules on verdicts are met
pub others_pass : (kind : ConditionKind) (cs later : List Condition) → other_conditions kind later ≡ other_conditions kind cs → (condition_rank kind == condition_rank Approved) ≡ false → (condition_rank kind == condition_rank Denied) ≡ false → AreSettled cs
    → least_failing (verdict_rules cs later) ≡ None
others_pass kind cs later same a d settled =
    passes_by _ _ _ (or_both _ _ (kept_unsettled kind Approved cs later same a ∙ settled.approved) (kept_unsettled kind Denied cs later same d ∙ settled.denied))
    (rw (kept_stands kind Approved cs later same a, kept_stands kind Denied cs later same d) settled.one)
    (or_both _ _ (ap (is_lost (condition_at cs Approved)) (kept_found kind Approved cs later same a) ∙ unchanged (condition_at cs Approved)) (ap (is_lost (condition_at cs Denied)) (kept_found kind Denied cs later same d) ∙ unchanged (condition_at cs Denied)))
