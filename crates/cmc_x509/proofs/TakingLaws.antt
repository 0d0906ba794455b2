-- What is taken stands there, and what stands there is taken.
use Rattle.std.proofs.Common.{◌≡◌, ◌≢◌, ◌-◌, ◌<◌, ℕ, take, Bool, true, false, cond, eqb, List, [], ◌∷◌, ◌++◌, length, Option, Some, None, Result, Ok, Err, refl, sym, ap, subst, ◌∙◌, arith, inl, inr}
use Rattle.std.proofs.lemmas.Bool.{eqb-true, eqb-false, eq-eqb, ne_eqb, cases_Bool, false_from_ne_true}
use Rattle.std.proofs.lemmas.Slice.Eq.{bytes_eq-Decides}
use Rattle.std.specs.Str.{bytes_eq}
use Rattle.std.proofs.lemmas.List.{append-nil, length-append, take_at as take-front}
use Rattle.cmc_der.specs.declared.reading.DerFault.{DerFault}
use Rattle.cmc_der.specs.Values.{IsDerValue, BeginsWith}
use Rattle.cmc_der.specs.Elements.{Found, read_at}
use Rattle.cmc_der.proofs.Laws.{read_spelled, read_again}
use Rattle.cmc_x509.specs.Options.{Value, IsAtMostOne, BeginsWithOptional, ◌>>=◌, Taken, Maybe, value_if_read, value_at, take_at, whole_at, end_at, only_at, at_most_one_at, optional_value_at}

abbrev pub some : {A : Type 0} → A → Option A
some x = Some x

pub some_is : {A : Type 0} (x y : A) → some x ≡ some y → x ≡ y
some_is x y e = cc

pub bind_some : {A B : Type 0} (r : Option A) (f : A → Option B) (y : B) → (r >>= f) ≡ Some y → (x : A) × (r ≡ Some x) × (f x ≡ Some y)
bind_some (Some x) f y e = (x, refl, e)
bind_some None f y e = absurd cc

pub guard_some : {A : Type 0} (b : Bool) (x : Option A) (y : A) → cond b x None ≡ some y → (b ≡ true) × (x ≡ Some y)
guard_some true x y e = (refl, e)
guard_some false x y e = absurd cc

pub read_from_value : (r : Result Found DerFault) (x : Found) → value_if_read r ≡ Some x → r ≡ Ok x
read_from_value (Ok y) x e = cc
read_from_value (Err d) x e = absurd cc

pub value_found : (bs : List ℕ) (x : Found) → value_at bs ≡ Some x → BeginsWith bs x.0 x.1 x.2
unfolding value_at
value_found bs x e = read_spelled bs x (read_from_value (read_at bs) x e)

pub value_again : (bs : List ℕ) (tag : ℕ) (body rest : List ℕ) → BeginsWith bs tag body rest → value_at bs ≡ Some (tag, body, rest)
unfolding value_at
value_again bs tag body rest h = rw (h.2, read_again h.0 tag body rest h.1) refl

pub take_found : (tag : ℕ) (bs : List ℕ) (p : Taken) → take_at tag bs ≡ Some p → BeginsWith bs tag p.0 p.1
unfolding take_at
take_found tag bs p e =
    let b = bind_some (value_at bs) _ p e in
    let g = guard_some (eqb b.0.0 tag) _ p b.2 in
    let v : BeginsWith bs tag b.0.1 b.0.2 = rw (eqb-true _ _ g.0) at (value_found bs b.0 b.1) in
    subst (λ (q : Taken). BeginsWith bs tag q.0 q.1) (some_is _ p g.1) v

pub take_again : (tag : ℕ) (bs body rest : List ℕ) → BeginsWith bs tag body rest → take_at tag bs ≡ Some (body, rest)
unfolding take_at
take_again tag bs body rest h = rw (value_again bs tag body rest h, eq-eqb tag tag refl) refl

pub end_found : (bs : List ℕ) (n : ℕ) → end_at bs ≡ Some n → bs ≡ []
unfolding end_at
end_found [] n e = refl
end_found (b ∷ bs) n e = absurd cc

pub end_again : end_at [] ≡ Some 0
unfolding end_at
end_again = refl

pub whole_from_begins : (bs : List ℕ) (tag : ℕ) (body rest : List ℕ) → BeginsWith bs tag body rest → rest ≡ [] → IsDerValue bs tag body
whole_from_begins bs tag body rest h e = rw (h.2, e, append-nil) (h.1)

pub begins_from_whole : (bs : List ℕ) (tag : ℕ) (body : List ℕ) → IsDerValue bs tag body → BeginsWith bs tag body []
begins_from_whole bs tag body v = (bs, v, sym (append-nil bs))

pub only_found : (tag : ℕ) (bs body : List ℕ) → only_at tag bs ≡ Some body → IsDerValue bs tag body
unfolding only_at
only_found tag bs body e =
    let b = bind_some (take_at tag bs) _ body e in
    let n = bind_some (end_at b.0.1) _ body b.2 in
    rw (some_is _ _ n.2) at (whole_from_begins bs tag b.0.0 b.0.1 (take_found tag bs b.0 b.1) (end_found b.0.1 n.0 n.1))

pub only_again : (tag : ℕ) (bs body : List ℕ) → IsDerValue bs tag body → only_at tag bs ≡ Some body
unfolding only_at
only_again tag bs body v = rw (take_again tag bs body [] (begins_from_whole bs tag body v), end_again) refl

pub at_most_one_found : (bs : List ℕ) (v : Option Value) → at_most_one_at bs ≡ Some v → IsAtMostOne bs v
unfolding at_most_one_at
at_most_one_found [] v e = subst (λ (w : Option Value). IsAtMostOne [] w) (some_is None v e) refl
at_most_one_found (b ∷ bs) v e =
    let x = bind_some (value_at (b ∷ bs)) _ v e in
    let n = bind_some (end_at x.0.2) _ v x.2 in
    subst (λ (w : Option Value). IsAtMostOne (b ∷ bs) w) (some_is _ v n.2) (whole_from_begins (b ∷ bs) x.0.0 x.0.1 x.0.2 (value_found (b ∷ bs) x.0 x.1) (end_found x.0.2 n.0 n.1))

pub at_most_one_again : (bs : List ℕ) (v : Option Value) → IsAtMostOne bs v → at_most_one_at bs ≡ Some v
unfolding at_most_one_at
at_most_one_again [] None h = refl
at_most_one_again (b ∷ bs) None h = absurd cc
at_most_one_again [] (Some v) h = absurd (let w = h.spelled in cc)
at_most_one_again (b ∷ bs) (Some v) h = rw (value_again (b ∷ bs) v.0 v.1 [] (begins_from_whole (b ∷ bs) v.0 v.1 h), end_again) refl

pub optional_found : (tag : ℕ) (bs : List ℕ) (p : Maybe) → optional_value_at tag bs ≡ Some p → BeginsWithOptional bs tag p.0 p.1
unfolding optional_value_at
optional_found tag [] p e = subst (λ (q : Maybe). BeginsWithOptional [] tag q.0 q.1) (some_is (None, []) p e) (refl, tt)
optional_found tag (b ∷ bs) p e =
    elim (cases_Bool (eqb b tag)) [
      | inl t ↦
          let x = bind_some (take_at tag (b ∷ bs)) (λ q. Some (Some q.0, q.1)) p (rw t at e) in
          subst (λ (q : Maybe). BeginsWithOptional (b ∷ bs) tag q.0 q.1) (some_is (Some x.0.0, x.0.1) p x.2) (take_found tag (b ∷ bs) x.0 x.1)
      | inr t ↦ subst (λ (q : Maybe). BeginsWithOptional (b ∷ bs) tag q.0 q.1) (some_is (None, b ∷ bs) p (rw t at e)) (refl, eqb-false b tag t)
    ]

pub optional_again : (tag : ℕ) (bs : List ℕ) (o : Option (List ℕ)) (rest : List ℕ) → BeginsWithOptional bs tag o rest → optional_value_at tag bs ≡ Some (o, rest)
unfolding optional_value_at
optional_again tag [] None rest h = rw (h.0) refl
optional_again tag (b ∷ bs) None rest h = rw (h.0, ne_eqb b tag h.1) refl
optional_again tag [] (Some body) rest h = absurd (let v = h.1 in let e = h.2 ∙ ap (λ (w : List ℕ). w ++ rest) v.spelled in cc)
optional_again tag (b ∷ bs) (Some body) rest h =
    let v = h.1 in
    let e = h.2 ∙ ap (λ (w : List ℕ). w ++ rest) v.spelled in
    let same : b ≡ tag = cc in
    rw (eq-eqb b tag same, take_again tag (b ∷ bs) body rest h) refl

-- a value of another tag is not taken
pub take_other : (tag other : ℕ) (bs body rest : List ℕ) → BeginsWith bs other body rest → other ≢ tag → take_at tag bs ≡ None
unfolding take_at
take_other tag other bs body rest h ne = rw (value_again bs other body rest h, ne_eqb other tag ne) refl

pub rest_shorter : (bs : List ℕ) (tag : ℕ) (body rest : List ℕ) → BeginsWith bs tag body rest → length rest < length bs
rest_shorter bs tag body rest h =
    let v = h.1 in
    omega (arith, ap length h.2, ap length v.spelled, length-append h.0 rest, length-append v.lead body)

-- the octets of the value at the front
pub whole_is : (bs whole rest : List ℕ) → bs ≡ whole ++ rest → take (length bs - length rest) bs ≡ whole
whole_is bs whole rest e =
    let n : length bs - length rest ≡ length whole = omega (arith, ap length e, length-append whole rest) in
    rw (n, e) (take-front whole rest (length whole) refl)

-- what is taken whole stands at the front, and is one value
pub whole_found : (bs : List ℕ) (p : Taken) → whole_at bs ≡ Some p → (tag : ℕ) × (body : List ℕ) × IsDerValue p.0 tag body × (bs ≡ p.0 ++ p.1)
unfolding whole_at
whole_found bs p e =
    let x = bind_some (value_at bs) _ p e in
    let h = value_found bs x.0 x.1 in
    let w : take (length bs - length x.0.2) bs ≡ h.0 = whole_is bs h.0 x.0.2 h.2 in
    let same : h.0 ≡ p.0 = sym w ∙ ap (λ (q : Taken). q.0) (some_is _ p x.2) in
    let rest : x.0.2 ≡ p.1 = ap (λ (q : Taken). q.1) (some_is _ p x.2) in
    (x.0.0, x.0.1, subst (λ (y : List ℕ). IsDerValue y x.0.0 x.0.1) same h.1, h.2 ∙ ap (λ (y : List ℕ). y ++ x.0.2) same ∙ ap (λ (y : List ℕ). p.0 ++ y) rest)

pub whole_again : (bs whole rest : List ℕ) (tag : ℕ) (body : List ℕ) → IsDerValue whole tag body → bs ≡ whole ++ rest → whole_at bs ≡ Some (whole, rest)
unfolding whole_at
whole_again bs whole rest tag body v e = rw (value_again bs tag body rest (whole, v, e), whole_is bs whole rest e) refl

-- ---- octets that are the same, and not

pub bytes_same : (a b : List ℕ) → bytes_eq a b ≡ true → a ≡ b
bytes_same a b e = (bytes_eq-Decides a b).0 e

pub bytes_differ : (a b : List ℕ) → bytes_eq a b ≡ false → a ≢ b
bytes_differ a b e h = let t : bytes_eq a b ≡ true = (bytes_eq-Decides a b).1 h in absurd (let z : false ≡ true = sym e ∙ t in cc)

pub same_bytes : (a b : List ℕ) → a ≡ b → bytes_eq a b ≡ true
same_bytes a b e = (bytes_eq-Decides a b).1 e

pub other_bytes : (a b : List ℕ) → a ≢ b → bytes_eq a b ≡ false
other_bytes a b e = false_from_ne_true (bytes_eq a b) (λ t. e (bytes_same a b t))
