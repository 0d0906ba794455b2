-- What is read is spelled so, what is spelled so is read, and which fault it is.
use Rattle.std.proofs.Common.{◌≡◌, ℕ, zero, suc, ◌+◌, ◌-◌, ◌*◌, ◌%◌, add-one, ◌<◌, ◌≤◌, ◌↔◌, true, false, cond, ltb, eqb, List, [], ◌∷◌, ◌++◌, length, take, drop, Result, Ok, Err, refl, sym, ap, subst, ◌∙◌, append_assoc, arith, inl, inr}
use Rattle.std.specs.Prelude.{◌||◌, ◌&&◌}
use Rattle.std.proofs.Math.ListN.{replicate}
use Rattle.std.proofs.lemmas.Bool.{cases_lt, cases_order, lt-ltb, le-ltb, ltb-true, ltb-false, ne_eqb, eqb-false}
use Rattle.std.proofs.lemmas.List.{append-nil, take-take, take-append-drop, length-take, length-drop, length-append, length-replicate, nil_from_length, take_at, drop_at, take-append-le, drop-append-le}
use Rattle.cmc_der.specs.declared.reading.DerFault.{DerFault}
use Rattle.cmc_der.specs.declared.reading.DerFault.TheVariants.{Cut, NotDer}
use Rattle.cmc_der.specs.Values.{IsDerValue, BeginsWith, IsPrefix, IsCutShort, IsNotDerAt}
use Rattle.std.specs.Prelude.{IfOk}
use Rattle.std.specs.Borrow.{Bor}
use Rattle.cmc_der.specs.declared.reading.Tlv.{Tlv}
use Rattle.cmc_der.specs.Elements.{◌>>=◌, tlv_shown, Gives, Found, number_at, long_at, length_at, body_at, read_at}
use Rattle.cmc_der.proofs.Steps.{chosen, bind_ok, bind_err, Goes, Goes-bind, Goes-cond}
use Rattle.cmc_der.proofs.Lengths.{length_spelled, length_again}

abbrev answer : Found → Result Found DerFault
answer x = Ok x

abbrev broken : DerFault → Result Found DerFault
broken d = Err d

abbrev three : ℕ → List ℕ → List ℕ → Found
three t b r = (t, b, r)

answer_is : (x y : Found) → answer x ≡ answer y → x ≡ y
answer_is x y e = cc

-- ---- what is read is spelled so, and what is spelled so is read

pub read_spelled : (bs : List ℕ) (x : Found) → read_at bs ≡ Ok x → BeginsWith bs x.0 x.1 x.2
unfolding read_at
read_spelled [] x e = absurd cc
read_spelled (tag ∷ bs) x e =
    elim (chosen (eqb (tag % 32) 31) (Err (NotDer 0)) (length_at bs >>= body_at tag) (answer x) e) [
      | inl t ↦ absurd (cc (t.1))
      | inr t ↦
          let b = bind_ok (length_at bs) (body_at tag) x t.1 in
          let n = b.0.0 in
          let r = b.0.1 in
          let s = length_spelled bs n r b.1 in
          elim (chosen (ltb (length r) n) (Err Cut) (answer (tag, take n r, drop n r)) (answer x) b.2) [
            | inl u ↦ absurd (cc (u.1))
            | inr u ↦
                let long : n ≤ length r = ltb-false _ _ u.0 in
                let len : length (take n r) ≡ n = omega (arith, length-take n r) in
                let whole : bs ≡ (s.lead ++ take n r) ++ drop n r = rw (append_assoc, take-append-drop n r) s.spelled in
                let found : BeginsWith (tag ∷ bs) tag (take n r) (drop n r) = (tag ∷ (s.lead ++ take n r), record { tag_is_low = eqb-false _ _ t.0; lead = s.lead; length_is = rw len s.is; spelled = refl }, ap (λ (w : List ℕ). tag ∷ w) whole) in
                subst (λ (y : Found). BeginsWith (tag ∷ bs) y.0 y.1 y.2) (answer_is (tag, take n r, drop n r) x u.1) found
          ]
    ]

pub read_again : (whole : List ℕ) (tag : ℕ) (body rest : List ℕ) → IsDerValue whole tag body → read_at (whole ++ rest) ≡ Ok (tag, body, rest)
unfolding read_at
read_again whole tag body rest v =
    let regrouped : (v.lead ++ body) ++ rest ≡ v.lead ++ (body ++ rest) = append_assoc v.lead body rest in
    let long : ltb (length (body ++ rest)) (length body) ≡ false = le-ltb _ _ (omega (arith, length-append body rest)) in
    rw (v.spelled, regrouped, ne_eqb (tag % 32) 31 v.tag_is_low, length_again v.lead (length body) (body ++ rest) v.length_is, long, take_at body rest (length body) refl, drop_at body rest (length body) refl) refl

-- ---- more octets behind

abbrev longer : List ℕ → ℕ × List ℕ → ℕ × List ℕ
longer m p = (p.0, p.1 ++ m)

abbrev found_longer : List ℕ → Found → Found
found_longer m x = (x.0, x.1, x.2 ++ m)

number_goes : (m : List ℕ) (k n : ℕ) (bs : List ℕ) → Goes (longer m) (number_at k n bs) (number_at k n (bs ++ m))
number_goes m zero n bs = refl
number_goes m (suc k) n [] = tt
number_goes m (suc k) n (b ∷ bs) = number_goes m k (n * 256 + b) bs

long_goes : (m : List ℕ) (k : ℕ) (bs : List ℕ) → Goes (longer m) (long_at k bs) (long_at k (bs ++ m))
long_goes m k [] = tt
long_goes m k (b ∷ bs) = Goes-cond (longer m) ((eqb b 0) || ((eqb k 1) && ltb b 128)) (Err (NotDer 2)) _ (Err (NotDer 2)) _ refl (number_goes m (k - 1) b bs)

length_goes : (m bs : List ℕ) → Goes (longer m) (length_at bs) (length_at (bs ++ m))
length_goes m [] = tt
length_goes m (n ∷ bs) =
    Goes-cond (longer m) (ltb n 128) _ _ _ _ refl
    (Goes-cond (longer m) ((eqb n 128) || ltb 132 n) (Err (NotDer 1)) _ (Err (NotDer 1)) _ refl (long_goes m (n - 128) bs))

body_goes : (m : List ℕ) (tag : ℕ) (p : ℕ × List ℕ) → Goes (found_longer m) (body_at tag p) (body_at tag (longer m p))
body_goes m tag p =
    elim (cases_lt (length p.1) p.0) [
      | inl lt ↦ rw (lt-ltb _ _ lt) tt
      | inr le ↦ rw (le-ltb _ _ le, le-ltb (length (p.1 ++ m)) p.0 (omega (arith, length-append p.1 m)), take-append-le p.0 p.1 m le, drop-append-le p.0 p.1 m le) refl
    ]

pub read_goes : (m bs : List ℕ) → Goes (found_longer m) (read_at bs) (read_at (bs ++ m))
unfolding read_at
read_goes m [] = tt
read_goes m (tag ∷ bs) =
    Goes-cond (found_longer m) (eqb (tag % 32) 31) (Err (NotDer 0)) _ (Err (NotDer 0)) _ refl
    (Goes-bind (longer m) (found_longer m) (length_at bs) (length_at (bs ++ m)) (body_at tag) (length_goes m bs) (body_goes m tag))

-- ---- what is cut goes on to a value

-- octets that complete what was cut
record Completes (read : List ℕ → Result (ℕ × List ℕ) DerFault) (bs : List ℕ) : Type 0 where
  more : List ℕ
  n : ℕ
  reads : read (bs ++ more) ≡ Ok (n, [])

number_zeros : (k n : ℕ) → (m : ℕ) × (number_at k n (replicate k 0) ≡ Ok (m, []))
number_zeros zero n = (n, refl)
number_zeros (suc k) n = number_zeros k (n * 256 + 0)

number_done : (k n : ℕ) (bs : List ℕ) → number_at k n bs ≡ Err Cut → Completes (number_at k n) bs
number_done zero n bs e = absurd cc
number_done (suc k) n [] e = let z = number_zeros (suc k) n in record { more = replicate (suc k) 0; n = z.0; reads = z.1 }
number_done (suc k) n (b ∷ bs) e = let d = number_done k (n * 256 + b) bs e in record { more = d.more; n = d.n; reads = d.reads }

abbrev nothing : DerFault → Result (ℕ × List ℕ) DerFault
nothing d = Err d

cut_is_not : (p : ℕ) → nothing (NotDer p) ≡ nothing Cut → ⊥
cut_is_not p e = cc

not_both : (k : ℕ) → ((eqb k 1) && false) ≡ false
not_both k = elim (eqb k 1) as (λ v. (v && false) ≡ false) [ true ↦ refl | false ↦ refl ]

long_done : (k : ℕ) (bs : List ℕ) → long_at k bs ≡ Err Cut → Completes (long_at k) bs
long_done k [] e =
    let z = number_zeros (k - 1) 128 in
    record { more = 128 ∷ replicate (k - 1) 0; n = z.0; reads = rw (not_both k) z.1 }
long_done k (b ∷ bs) e =
    elim (chosen ((eqb b 0) || ((eqb k 1) && ltb b 128)) (nothing (NotDer 2)) (number_at (k - 1) b bs) (nothing Cut) e) [
      | inl t ↦ absurd (cut_is_not 2 t.1)
      | inr t ↦ let d = number_done (k - 1) b bs t.1 in record { more = d.more; n = d.n; reads = rw t.0 d.reads }
    ]

length_done : (bs : List ℕ) → length_at bs ≡ Err Cut → Completes length_at bs
length_done [] e = record { more = 0 ∷ []; n = 0; reads = refl }
length_done (x ∷ bs) e =
    elim (chosen (ltb x 128) (Ok (x, bs)) (cond ((eqb x 128) || ltb 132 x) (nothing (NotDer 1)) (long_at (x - 128) bs)) (nothing Cut) e) [
      | inl t ↦ absurd (cc (t.1))
      | inr t ↦ elim (chosen ((eqb x 128) || ltb 132 x) (nothing (NotDer 1)) (long_at (x - 128) bs) (nothing Cut) t.1) [
        | inl u ↦ absurd (cut_is_not 1 u.1)
        | inr u ↦ let d = long_done (x - 128) bs u.1 in record { more = d.more; n = d.n; reads = rw (t.0, u.0) d.reads }
      ]
    ]

record Finishes (bs : List ℕ) : Type 0 where
  pub more : List ℕ
  pub found : Found
  pub reads : read_at (bs ++ more) ≡ Ok found
  pub whole : found.2 ≡ []

not_cut : (p : ℕ) → broken (NotDer p) ≡ broken Cut → ⊥
not_cut p e = cc

short_body : (tag : ℕ) (p : ℕ × List ℕ) → body_at tag p ≡ Err Cut → length p.1 < p.0
short_body tag p e =
    elim (chosen (ltb (length p.1) p.0) (broken Cut) (answer (tag, take p.0 p.1, drop p.0 p.1)) (broken Cut) e) [
      | inl t ↦ ltb-true _ _ t.0
      | inr t ↦ absurd (cc (t.1))
    ]

read_done : (bs : List ℕ) → read_at bs ≡ Err Cut → Finishes bs
unfolding read_at
read_done [] e = record { more = 0 ∷ 0 ∷ []; found = (0, [], []); reads = refl; whole = refl }
read_done (tag ∷ bs) e =
    elim (chosen (eqb (tag % 32) 31) (broken (NotDer 0)) (length_at bs >>= body_at tag) (broken Cut) e) [
      | inl t ↦ absurd (not_cut 0 t.1)
      | inr t ↦ elim (bind_err (length_at bs) (body_at tag) Cut t.1) [
        | inl b ↦
            let d = length_done bs b in
            let z : List ℕ = replicate d.n 0 in
            let g : length_at ((bs ++ d.more) ++ replicate d.n 0) ≡ Ok (d.n, replicate d.n 0) = rw d.reads at (length_goes (replicate d.n 0) (bs ++ d.more)) in
            let len : length z ≡ d.n = length-replicate d.n 0 in
            let whole : read_at (tag ∷ ((bs ++ d.more) ++ replicate d.n 0)) ≡ answer (tag, take d.n (replicate d.n 0), drop d.n (replicate d.n 0)) = rw (t.0, g, le-ltb (length z) d.n (omega arith)) refl in
            record { more = d.more ++ replicate d.n 0; found = (tag, take d.n (replicate d.n 0), drop d.n (replicate d.n 0)); reads = rw (← append_assoc bs d.more (replicate d.n 0)) whole; whole = nil_from_length (drop d.n z) (omega (arith, length-drop d.n z)) }
        | inr b ↦
            let n = b.0.0 in
            let r = b.0.1 in
            let m : List ℕ = replicate (n - length r) 0 in
            let g : length_at (bs ++ m) ≡ Ok (n, r ++ m) = rw (b.1) at (length_goes m bs) in
            let z : length m ≡ n - length r = length-replicate (n - length r) 0 in
            let cut : length r < n = short_body tag (n, r) b.2 in
            let long : length (r ++ m) ≡ n = omega (arith, length-append r m) in
            record { more = m; found = (tag, take n (r ++ m), drop n (r ++ m)); reads = rw (t.0, g, le-ltb (length (r ++ m)) n (omega arith)) refl; whole = nil_from_length (drop n (r ++ m)) (omega (arith, length-drop n (r ++ m))) }
      ]
    ]

found_is : (x y z : Found) (r : Result Found DerFault) → r ≡ Ok x → r ≡ Ok y → x ≡ y
found_is x y z r e f = answer_is x y (sym e ∙ f)

not_done : (x : Found) (d : DerFault) → answer x ≡ broken d → ⊥
not_done x d e = cc

-- a value is not a proper prefix of another
pub one_value : (a c : List ℕ) (tag other : ℕ) (body inner : List ℕ) (rest : List ℕ) → IsDerValue a tag body → IsDerValue c other inner → a ++ rest ≡ c → (tag ≡ other) × (body ≡ inner) × (rest ≡ [])
one_value a c tag other body inner rest v w e =
    let x : read_at c ≡ answer (tag, body, rest) = rw e at (read_again a tag body rest v) in
    let y : read_at c ≡ answer (other, inner, []) = rw append-nil at (read_again c other inner [] w) in
    let z : three tag body rest ≡ three other inner [] = answer_is (tag, body, rest) (other, inner, []) (sym x ∙ y) in
    (ap (λ (f : Found). f.0) z, ap (λ (f : Found). f.1) z, ap (λ (f : Found). f.2) z)

more_stand : (bs more : List ℕ) (x : Found) → read_at bs ≡ Err Cut → read_at (bs ++ more) ≡ Ok x → 0 < length more
more_stand bs [] x e f = absurd (not_done x Cut (sym f ∙ (rw append-nil e)))
more_stand bs (b ∷ more) x e f = omega arith

pub cut_from_read : (bs : List ℕ) → read_at bs ≡ Err Cut → IsCutShort bs
cut_from_read bs e =
    let d = read_done bs e in
    let s = read_spelled (bs ++ d.more) d.found d.reads in
    let v : IsDerValue (bs ++ d.more) d.found.0 d.found.1 = rw (s.2, d.whole, append-nil) (s.1) in
    (d.more, more_stand bs d.more d.found e d.reads, d.found.0, d.found.1, v)

-- the octets of a longer input that reads as one value are cut, or that value
cut_by_cases : (bs more : List ℕ) (tag : ℕ) (body : List ℕ) → 0 < length more → (r : Result Found DerFault) → read_at bs ≡ r → Goes (found_longer more) r (read_at (bs ++ more)) → read_at (bs ++ more) ≡ answer (tag, body, []) → read_at bs ≡ Err Cut
cut_by_cases bs more tag body long (Ok x) e g f =
    let same : found_longer more x ≡ three tag body [] = answer_is (found_longer more x) (tag, body, []) (sym g ∙ f) in
    absurd (omega (arith, ap length (ap (λ (y : Found). y.2) same), length-append (x.2) more))
cut_by_cases bs more tag body long (Err Cut) e g f = e
cut_by_cases bs more tag body long (Err (NotDer p)) e g f = absurd (not_done (tag, body, []) (NotDer p) (sym f ∙ g))

cut_to_read : (bs : List ℕ) → IsCutShort bs → read_at bs ≡ Err Cut
cut_to_read bs h =
    let x : read_at (bs ++ h.0) ≡ answer (h.2, h.3, []) = rw append-nil at (read_again (bs ++ h.0) h.2 h.3 [] h.4) in
    cut_by_cases bs h.0 h.2 h.3 h.1 (read_at bs) refl (read_goes h.0 bs) x

-- an octet after which no value goes on
pub record IsBad (read : List ℕ → Result Found DerFault) (bs : List ℕ) (p : ℕ) : Type 0 where
  pub within : p < length bs
  pub before : read (take p bs) ≡ Err Cut
  pub after : read (take (suc p) bs) ≡ Err (NotDer p)

number_never : (k n : ℕ) (bs : List ℕ) (p : ℕ) → number_at k n bs ≡ nothing (NotDer p) → ⊥
number_never zero n bs p e = cc
number_never (suc k) n [] p e = cut_is_not p (sym e)
number_never (suc k) n (b ∷ bs) p e = number_never k (n * 256 + b) bs p e

place_is : (p q : ℕ) → nothing (NotDer p) ≡ nothing (NotDer q) → q ≡ p
place_is p q e = cc

found_place_is : (p q : ℕ) → broken (NotDer p) ≡ broken (NotDer q) → q ≡ p
found_place_is p q e = cc

long_bad : (k : ℕ) (bs : List ℕ) (p : ℕ) → long_at k bs ≡ nothing (NotDer p) → (p ≡ 2) × (0 < length bs) × (long_at k (take 1 bs) ≡ nothing (NotDer 2))
long_bad k [] p e = absurd (cut_is_not p (sym e))
long_bad k (b ∷ bs) p e =
    elim (chosen ((eqb b 0) || ((eqb k 1) && ltb b 128)) (nothing (NotDer 2)) (number_at (k - 1) b bs) (nothing (NotDer p)) e) [
      | inl t ↦ (place_is 2 p t.1, omega arith, rw t.0 refl)
      | inr t ↦ absurd (number_never (k - 1) b bs p t.1)
    ]

record IsBadLength (bs : List ℕ) (p : ℕ) : Type 0 where
  q : ℕ
  place : p ≡ suc q
  within : q < length bs
  before : length_at (take q bs) ≡ nothing Cut
  after : length_at (take (suc q) bs) ≡ nothing (NotDer (suc q))

length_bad : (bs : List ℕ) (p : ℕ) → length_at bs ≡ nothing (NotDer p) → IsBadLength bs p
length_bad [] p e = absurd (cut_is_not p (sym e))
length_bad (x ∷ bs) p e =
    elim (chosen (ltb x 128) (Ok (x, bs)) (cond ((eqb x 128) || ltb 132 x) (nothing (NotDer 1)) (long_at (x - 128) bs)) (nothing (NotDer p)) e) [
      | inl t ↦ absurd (cc (t.1))
      | inr t ↦ elim (chosen ((eqb x 128) || ltb 132 x) (nothing (NotDer 1)) (long_at (x - 128) bs) (nothing (NotDer p)) t.1) [
        | inl u ↦ record { q = 0; place = place_is 1 p u.1; within = omega arith; before = refl; after = rw (t.0, u.0) refl }
        | inr u ↦ let l = long_bad (x - 128) bs p u.1 in record { q = 1; place = l.0; within = omega (arith, l.1); before = rw (t.0, u.0) refl; after = rw (t.0, u.0) (l.2) }
      ]
    ]

body_never : (tag : ℕ) (x : ℕ × List ℕ) (p : ℕ) → body_at tag x ≡ broken (NotDer p) → ⊥
body_never tag x p e =
    elim (chosen (ltb (length x.1) x.0) (broken Cut) (answer (tag, take x.0 x.1, drop x.0 x.1)) (broken (NotDer p)) e) [
      | inl t ↦ not_cut p (sym t.1)
      | inr t ↦ not_done (tag, take x.0 x.1, drop x.0 x.1) (NotDer p) t.1
    ]

read_bad : (bs : List ℕ) (p : ℕ) → read_at bs ≡ broken (NotDer p) → IsBad read_at bs p
unfolding read_at
read_bad [] p e = absurd (not_cut p (sym e))
read_bad (tag ∷ bs) p e =
    elim (chosen (eqb (tag % 32) 31) (broken (NotDer 0)) (length_at bs >>= body_at tag) (broken (NotDer p)) e) [
      | inl t ↦
          let b : IsBad read_at (tag ∷ bs) 0 = record { within = omega arith; before = refl; after = rw t.0 refl } in
          subst (λ (q : ℕ). IsBad read_at (tag ∷ bs) q) (sym (found_place_is 0 p t.1)) b
      | inr t ↦ elim (bind_err (length_at bs) (body_at tag) (NotDer p) t.1) [
        | inl u ↦
            let l = length_bad bs p u in
            let b : IsBad read_at (tag ∷ bs) (suc l.q) = record { within = omega (arith, l.within); before = rw (t.0, l.before) refl; after = rw (t.0, l.after) refl } in
            subst (λ (q : ℕ). IsBad read_at (tag ∷ bs) q) (sym l.place) b
        | inr u ↦ absurd (body_never tag u.0 p u.2)
      ]
    ]

-- ---- the clauses of read_one

no_prefix_from_bad : (bs : List ℕ) (p : ℕ) → read_at bs ≡ broken (NotDer p) → IsPrefix bs → ⊥
no_prefix_from_bad bs p e h =
    let x : read_at (bs ++ h.0) ≡ answer (h.1, h.2, []) = rw append-nil at (read_again (bs ++ h.0) h.1 h.2 [] h.3) in
    let y : read_at (bs ++ h.0) ≡ broken (NotDer p) = rw e at (read_goes h.0 bs) in
    not_done (h.1, h.2, []) (NotDer p) (sym x ∙ y)

prefix_from_cut : (bs : List ℕ) → IsCutShort bs → IsPrefix bs
prefix_from_cut bs h = (h.0, h.2, h.3, h.4)

pub not_der_from_read : (bs : List ℕ) (p : ℕ) → read_at bs ≡ Err (NotDer p) → IsNotDerAt bs p
not_der_from_read bs p e =
    let b = read_bad bs p e in
    record {
      no_value = λ tag body rest h. not_done (tag, body, rest) (NotDer p) (sym (read_again h.0 tag body rest h.1) ∙ (rw (← h.2) e));
      within = b.within;
      before = prefix_from_cut (take p bs) (cut_from_read (take p bs) b.before);
      after = no_prefix_from_bad (take (p + 1) bs) p (rw add-one b.after);
    }

prefix_shorter : (bs : List ℕ) (i j : ℕ) → i ≤ j → IsPrefix (take j bs) → IsPrefix (take i bs)
prefix_shorter bs i j le h =
    let e : take i (take j bs) ++ drop i (take j bs) ≡ take j bs = take-append-drop i (take j bs) in
    let s : take i (take j bs) ≡ take i bs = take-take i j bs le in
    (drop i (take j bs) ++ h.0, h.1, h.2, rw (← append_assoc (take i bs) (drop i (take j bs)) h.0, ← s, e) (h.3))

not_der_to_read : (bs : List ℕ) (p : ℕ) → IsNotDerAt bs p → (r : Result Found DerFault) → read_at bs ≡ r → read_at bs ≡ Err (NotDer p)
not_der_to_read bs p h (Ok x) e = absurd (h.no_value x.0 x.1 x.2 (read_spelled bs x e))
not_der_to_read bs p h (Err Cut) e =
    let c : IsPrefix (take (p + 1) bs ++ drop (p + 1) bs) = rw take-append-drop (prefix_from_cut bs (cut_from_read bs e)) in
    absurd (h.after (drop (p + 1) bs ++ c.0, c.1, c.2, rw (← append_assoc) (c.3)))
not_der_to_read bs p h (Err (NotDer q)) e =
    let k = not_der_from_read bs q e in
    elim (cases_order p q) [
      | inl same ↦ rw same e
      | inr apart ↦ elim apart [
        | inl lt ↦ absurd (h.after (prefix_shorter bs (p + 1) q (omega arith) k.before))
        | inr gt ↦ absurd (k.after (prefix_shorter bs (q + 1) p (omega arith) h.before))
      ]
    ]

-- ---- the same of what the code answers

Ok-is : {X Y : Type 0} (view : X → Y) (x : X) (read : Result Y DerFault) → Gives view (Ok x) read → read ≡ Ok (view x)
Ok-is view x read e = e

pub answer_spelled : (r : Result (Tlv × Bor (List ℕ)) DerFault) (bs : List ℕ) → Gives tlv_shown r (read_at bs) → IfOk r (λ x. BeginsWith bs x.0.tag x.0.body.now x.1.now)
answer_spelled (Ok x) bs e = read_spelled bs (tlv_shown x) e
answer_spelled (Err d) bs e = tt

pub answer_only : (r : Result (Tlv × Bor (List ℕ)) DerFault) (bs : List ℕ) → Gives tlv_shown r (read_at bs) → (tag : ℕ) (body rest : List ℕ) → BeginsWith bs tag body rest → Gives tlv_shown r (Ok (tag, body, rest))
answer_only r bs e tag body rest h = let x : read_at bs ≡ answer (tag, body, rest) = rw (h.2) (read_again h.0 tag body rest h.1) in rw x at e

abbrev outcome : DerFault → Result (Tlv × Bor (List ℕ)) DerFault
outcome d = Err d

fault_is : (c d : DerFault) → broken c ≡ broken d → outcome c ≡ outcome d
fault_is c d e = cc

fault_was : (c d : DerFault) → outcome c ≡ outcome d → broken c ≡ broken d
fault_was c d e = cc

-- a fault is answered exactly where it is read
fault_from_read : (r : Result (Tlv × Bor (List ℕ)) DerFault) (d : DerFault) (bs : List ℕ) → Gives tlv_shown r (read_at bs) → read_at bs ≡ broken d → r ≡ outcome d
fault_from_read (Ok x) d bs e f = absurd (not_done (tlv_shown x) d (sym e ∙ f))
fault_from_read (Err c) d bs e f = fault_is c d (sym e ∙ f)

fault_to_read : (r : Result (Tlv × Bor (List ℕ)) DerFault) (d : DerFault) (bs : List ℕ) → Gives tlv_shown r (read_at bs) → r ≡ outcome d → read_at bs ≡ broken d
fault_to_read (Ok x) d bs e f = absurd cc
fault_to_read (Err c) d bs e f = e ∙ fault_was c d f

pub answer_cut : (r : Result (Tlv × Bor (List ℕ)) DerFault) (bs : List ℕ) → Gives tlv_shown r (read_at bs) → (r ≡ outcome Cut) ↔ IsCutShort bs
answer_cut r bs e = (λ f. cut_from_read bs (fault_to_read r Cut bs e f), λ h. fault_from_read r Cut bs e (cut_to_read bs h))

pub answer_not_der : (r : Result (Tlv × Bor (List ℕ)) DerFault) (bs : List ℕ) → Gives tlv_shown r (read_at bs) → (p : ℕ) → (r ≡ outcome (NotDer p)) ↔ IsNotDerAt bs p
answer_not_der r bs e p = (λ f. not_der_from_read bs p (fault_to_read r (NotDer p) bs e f), λ h. fault_from_read r (NotDer p) bs e (not_der_to_read bs p h (read_at bs) refl))
