-- Reading values one after the other, and the first that gives something.
use Rattle.std.proofs.Common.{◌≡◌, ℕ, zero, suc, ◌<◌, ◌≤◌, List, [], ◌∷◌, length, Option, Some, None, refl, sym, ap, subst, ◌∙◌, arith}
use Rattle.cmc_der.specs.Elements.{Found}
use Rattle.cmc_x509.specs.Options.{Value, ◌>>=◌, value_at}
use Rattle.cmc_x509.specs.Lists.{IsValues, IsValueList, or_first, FirstOf, IsListOf, values_from, values_at, Reader, first_read_of, first_at, after_found, any_value}
use Rattle.cmc_x509.proofs.TakingLaws.{some, some_is, bind_some, value_found, value_again, rest_shorter}

value_shorter : (bs : List ℕ) (x : Found) → value_at bs ≡ Some x → length x.2 < length bs
value_shorter bs x e = rest_shorter bs x.0 x.1 x.2 (value_found bs x e)

one_step : (n m : ℕ) (r : Option Found) → ((x : Found) → r ≡ Some x → values_from n x.2 ≡ values_from m x.2) → (r >>= (λ x. values_from n x.2 >>= (λ vs. some ((x.0, x.1) ∷ vs)))) ≡ (r >>= (λ x. values_from m x.2 >>= (λ vs. some ((x.0, x.1) ∷ vs))))
one_step n m None h = refl
one_step n m (Some x) h = rw (h x refl) refl

-- enough steps are enough
values_from_same : (n m : ℕ) (bs : List ℕ) → length bs ≤ n → length bs ≤ m → values_from n bs ≡ values_from m bs
values_from_same n m [] h k = refl
values_from_same zero m (b ∷ bs) h k = absurd (omega arith)
values_from_same (suc n) zero (b ∷ bs) h k = absurd (omega arith)
values_from_same (suc n) (suc m) (b ∷ bs) h k =
    one_step n m (value_at (b ∷ bs)) (λ x e. values_from_same n m x.2 (omega (arith, value_shorter (b ∷ bs) x e)) (omega (arith, value_shorter (b ∷ bs) x e)))

values_step : (bs : List ℕ) (x : Found) → value_at bs ≡ Some x → values_at bs ≡ (values_at x.2 >>= (λ vs. Some ((x.0, x.1) ∷ vs)))
unfolding values_at
values_step [] x e = absurd (omega (arith, value_shorter [] x e))
values_step (b ∷ bs) x e = rw (e, values_from_same (length bs) (length x.2) x.2 (omega (arith, value_shorter (b ∷ bs) x e)) (omega arith)) refl

values_none : (bs : List ℕ) → 0 < length bs → value_at bs ≡ None → values_at bs ≡ None
unfolding values_at
values_none [] h e = absurd (omega arith)
values_none (b ∷ bs) h e = rw e refl

-- ---- the values stand there

values_from_found : (n : ℕ) (bs : List ℕ) (vs : List Value) → values_from n bs ≡ Some vs → IsValues bs vs
values_from_found n [] vs e = subst (λ (w : List Value). IsValues [] w) (some_is [] vs e) refl
values_from_found zero (b ∷ bs) vs e = absurd cc
values_from_found (suc n) (b ∷ bs) vs e =
    let x = bind_some (value_at (b ∷ bs)) _ vs e in
    let w = bind_some (values_from n x.0.2) _ vs x.2 in
    subst (λ (u : List Value). IsValues (b ∷ bs) u) (some_is ((x.0.0, x.0.1) ∷ w.0) vs w.2) (x.0.2, value_found (b ∷ bs) x.0 x.1, values_from_found n x.0.2 w.0 w.1)

pub values_found : (bs : List ℕ) (vs : List Value) → values_at bs ≡ Some vs → IsValues bs vs
unfolding values_at
values_found bs vs e = values_from_found (length bs) bs vs e

nothing_left : values_at [] ≡ some []
unfolding values_at
nothing_left = refl

pub values_again : (bs : List ℕ) (vs : List Value) → IsValues bs vs → values_at bs ≡ Some vs
values_again bs [] h = rw h nothing_left
values_again bs (v ∷ vs) h = rw (values_step bs (v.0, v.1, h.0) (value_again bs v.0 v.1 h.0 h.1), values_again h.0 vs h.2) refl

-- ---- lists of a form

first_found : (f : Reader) (R : Value → Option (List ℕ) → Type 0) → ((v : Value) (x : Option (List ℕ)) → f v ≡ Some x → R v x) → (vs : List Value) (found : Option (List ℕ)) → first_read_of f vs ≡ Some found → FirstOf R vs found
first_found f R k [] found e = sym (some_is None found e)
first_found f R k (v ∷ vs) found e =
    let h = bind_some (f v) _ found e in
    let l = bind_some (first_read_of f vs) _ found h.2 in
    (h.0, l.0, k v h.0 h.1, first_found f R k vs l.0 l.1, sym (some_is (or_first h.0 l.0) found l.2))

first_again : (f : Reader) (R : Value → Option (List ℕ) → Type 0) → ((v : Value) (x : Option (List ℕ)) → R v x → f v ≡ Some x) → (vs : List Value) (found : Option (List ℕ)) → FirstOf R vs found → first_read_of f vs ≡ Some found
first_again f R k [] found h = ap some (sym h)
first_again f R k (v ∷ vs) found h = rw (k v h.0 h.2, first_again f R k vs h.1 h.3, h.4) refl

pub list_found : (f : Reader) (R : Value → Option (List ℕ) → Type 0) → ((v : Value) (x : Option (List ℕ)) → f v ≡ Some x → R v x) → (bs : List ℕ) (found : Option (List ℕ)) → first_at f bs ≡ Some found → IsListOf R bs found
unfolding first_at
list_found f R k bs found e =
    let w = bind_some (values_at bs) (first_read_of f) found e in
    (w.0, values_found bs w.0 w.1, first_found f R k w.0 found w.2)

pub list_again : (f : Reader) (R : Value → Option (List ℕ) → Type 0) → ((v : Value) (x : Option (List ℕ)) → R v x → f v ≡ Some x) → (bs : List ℕ) (found : Option (List ℕ)) → IsListOf R bs found → first_at f bs ≡ Some found
unfolding first_at
list_again f R k bs found h = rw (values_again bs h.0 h.1) (first_again f R k h.0 found h.2)

any_first : (vs : List Value) → first_read_of any_value vs ≡ Some None
any_first [] = refl
any_first (v ∷ vs) = rw (any_first vs) refl

-- values of any form
pub any_found : (bs : List ℕ) (found : Option (List ℕ)) → first_at any_value bs ≡ Some found → IsValueList bs
unfolding first_at
any_found bs found e = let w = bind_some (values_at bs) (first_read_of any_value) found e in (w.0, values_found bs w.0 w.1)

pub any_again : (bs : List ℕ) → IsValueList bs → first_at any_value bs ≡ Some None
unfolding first_at
any_again bs h = rw (values_again bs h.0 h.1) (any_first h.0)

-- ---- a loop over them: what was found before, and what the rest gives

step_swap : (f : Reader) (r : Option (Option (List ℕ))) (ws : Option (List Value)) → (ws >>= (λ vs. r >>= (λ here. first_read_of f vs >>= (λ later. some (or_first here later))))) ≡ (r >>= (λ here. (ws >>= first_read_of f) >>= (λ later. some (or_first here later))))
step_swap f (Some x) (Some vs) = refl
step_swap f (Some x) None = refl
step_swap f None (Some vs) = refl
step_swap f None None = refl

cons_first : (f : Reader) (v : Value) (ws : Option (List Value)) → ((ws >>= (λ vs. some (v ∷ vs))) >>= first_read_of f) ≡ (ws >>= (λ vs. f v >>= (λ here. first_read_of f vs >>= (λ later. some (or_first here later)))))
cons_first f v (Some vs) = refl
cons_first f v None = refl

first_step : (f : Reader) (bs : List ℕ) (x : Found) → value_at bs ≡ Some x → first_at f bs ≡ (f (x.0, x.1) >>= (λ here. first_at f x.2 >>= (λ later. Some (or_first here later))))
unfolding first_at
first_step f bs x e = rw (values_step bs x e) (cons_first f (x.0, x.1) (values_at x.2) ∙ step_swap f (f (x.0, x.1)) (values_at x.2))

first_fails : (f : Reader) (bs : List ℕ) → 0 < length bs → value_at bs ≡ None → first_at f bs ≡ None
unfolding first_at
first_fails f bs h e = rw (values_none bs h e) refl

first_nothing : (f : Reader) (bs : List ℕ) → length bs ≡ 0 → first_at f bs ≡ Some None
unfolding first_at values_at
first_nothing f [] h = refl
first_nothing f (b ∷ bs) h = absurd (omega arith)

or_nothing : (a : Option (List ℕ)) → or_first a None ≡ a
or_nothing (Some x) = refl
or_nothing None = refl

or_or : (a b c : Option (List ℕ)) → or_first a (or_first b c) ≡ or_first (or_first a b) c
or_or (Some x) b c = refl
or_or None b c = refl

after_nothing : (r : Option (Option (List ℕ))) → after_found None r ≡ r
after_nothing (Some x) = refl
after_nothing None = refl

after_after : (a b : Option (List ℕ)) (r : Option (Option (List ℕ))) → after_found a (after_found b r) ≡ after_found (or_first a b) r
after_after a b (Some x) = ap some (or_or a b x)
after_after a b None = refl

pub first_begins : (f : Reader) (bs : List ℕ) → after_found None (first_at f bs) ≡ first_at f bs
first_begins f bs = after_nothing (first_at f bs)

pub first_ends : (f : Reader) (a : Option (List ℕ)) (bs : List ℕ) (total : Option (Option (List ℕ))) → length bs ≡ 0 → after_found a (first_at f bs) ≡ total → total ≡ Some a
first_ends f a bs total h e = sym e ∙ rw (first_nothing f bs h, or_nothing a) refl

pub first_stops : (f : Reader) (a : Option (List ℕ)) (bs : List ℕ) (total : Option (Option (List ℕ))) → 0 < length bs → value_at bs ≡ None → after_found a (first_at f bs) ≡ total → total ≡ None
first_stops f a bs total h v e = sym e ∙ rw (first_fails f bs h v) refl

pub first_refuses : (f : Reader) (a : Option (List ℕ)) (bs : List ℕ) (total : Option (Option (List ℕ))) (x : Found) → value_at bs ≡ Some x → f (x.0, x.1) ≡ None → after_found a (first_at f bs) ≡ total → total ≡ None
first_refuses f a bs total x v r e = sym e ∙ rw (first_step f bs x v, r) refl

pub first_goes_on : (f : Reader) (a b : Option (List ℕ)) (bs : List ℕ) (total : Option (Option (List ℕ))) (x : Found) → value_at bs ≡ Some x → f (x.0, x.1) ≡ Some b → after_found a (first_at f bs) ≡ total → after_found (or_first a b) (first_at f x.2) ≡ total
first_goes_on f a b bs total x v r e = sym (rw (first_step f bs x v, r) (after_after a b (first_at f x.2))) ∙ e

-- ---- the first of a list of values

abbrev nothing : Option Found
nothing = None

some_not_none : (x : Found) (r : Option Found) → r ≡ some x → r ≡ nothing → ⊥
some_not_none x r e f = let z : some x ≡ nothing = sym e ∙ f in cc

pub no_value : (bs : List ℕ) → IsValueList bs → value_at bs ≡ None → bs ≡ []
no_value bs h e = no_value_in bs h.0 h.1 e
  where
    no_value_in : (bs : List ℕ) (vs : List Value) → IsValues bs vs → value_at bs ≡ None → bs ≡ []
    no_value_in bs [] h e = h
    no_value_in bs (v ∷ vs) h e = absurd (some_not_none (v.0, v.1, h.0) (value_at bs) (value_again bs v.0 v.1 h.0 h.1) e)

found_is : (x y : Found) (r : Option Found) → r ≡ some x → r ≡ some y → x ≡ y
found_is x y r e f = some_is x y (sym e ∙ f)

pub more_values : (bs : List ℕ) (x : Found) → IsValueList bs → value_at bs ≡ Some x → IsValueList x.2
more_values bs x h e = more_in bs h.0 h.1 x e
  where
    more_in : (bs : List ℕ) (vs : List Value) → IsValues bs vs → (x : Found) → value_at bs ≡ Some x → IsValueList x.2
    more_in bs [] h x e = absurd (omega (arith, ap length h, value_shorter bs x e))
    more_in bs (v ∷ vs) h x e =
        let same : (v.0, v.1, h.0) ≡ x = found_is (v.0, v.1, h.0) x (value_at bs) (value_again bs v.0 v.1 h.0 h.1) e in
        let rest : h.0 ≡ x.2 = ap (λ (y : Found). y.2) same in
        (vs, subst (λ (y : List ℕ). IsValues y vs) rest h.2)

pub value_stands : (bs : List ℕ) (x : Found) → value_at bs ≡ Some x → bs ≡ [] → ⊥
value_stands bs x e h = absurd (omega (arith, ap length h, value_shorter bs x e))
