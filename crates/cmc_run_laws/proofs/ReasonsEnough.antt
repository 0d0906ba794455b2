-- On each key a role begins at most one pass more than there are reasons.
use Rattle.std.proofs.Common.{◌≡◌, ◌⊎◌, ℕ, ℤ, ◌+◌, ◌≤◌, ◌++◌, List, [], ◌∷◌, Bool, true, false, ◌&&◌, refl, sym, ap, subst, ◌∙◌, inl, inr, append_assoc, arith}
use Rattle.std.proofs.lemmas.Bool.{and_parts, and_from}
use Rattle.std.proofs.lemmas.Bool.Decides.{Decides-eqb}
use Rattle.std.specs.Prelude.{if◌then◌else◌}
use Rattle.cmc_meta.specs.declared.key.Key.{Key}
use Rattle.cmc_meta.specs.Keys.{key_eq}
use Rattle.cmc_objects.specs.declared.role.Role.{Role}
use Rattle.cmc_objects.specs.declared.entry.Positions.{Positions}
use Rattle.cmc_objects.specs.declared.entry.Who.TheVariants.{User, Pass}
use Rattle.cmc_objects.specs.declared.entry.Entry.{Entry}
use Rattle.cmc_objects.specs.declared.entry.Entry.TheVariants.{Call as Called, Deliver, List as Listed, Begin, Start, Tick}
use Rattle.cmc_objects.specs.Roles.{role_rank}
use Rattle.cmc_model.specs.Histories.{role_eq}
use Rattle.cmc_rules.specs.Safety.{HasEntry}
use Rattle.cmc_kernel.proofs.SameKeys.{key_eq-refl, same_key}
use Rattle.cmc_kernel.proofs.RoleStates.{same_role}
use Rattle.cmc_run_laws.specs.Begins.{BeginsForSomething, HasReasonsEnough, IsNewBegin, IsReason, begins_on, count_of, is_reason_for}

-- ---- counts

one_more : (b : Bool) (n m l : ℕ) → n ≡ m + l → (if b then n + 1 else n) ≡ (if b then m + 1 else m) + l
one_more true n m l same = omega (arith, same)
one_more false n m l same = same

counted_over : (p : Entry → Bool) (k h : List Entry) → count_of p (k ++ h) ≡ count_of p k + count_of p h
counted_over p [] h = omega arith
counted_over p (e ∷ k) h = one_more (p e) (count_of p (k ++ h)) (count_of p k) (count_of p h) (counted_over p k h)

pub counted_here : (p : Entry → Bool) (e : Entry) (k : List Entry) → p e ≡ true → count_of p (e ∷ k) ≡ count_of p k + 1
counted_here p e k on = ap (λ (b : Bool). if b then count_of p k + 1 else count_of p k) on

uncounted : (p : Entry → Bool) (e : Entry) (k : List Entry) → p e ≡ false → count_of p (e ∷ k) ≡ count_of p k
uncounted p e k off = ap (λ (b : Bool). if b then count_of p k + 1 else count_of p k) off

no_less : (b : Bool) (n : ℕ) → n ≤ (if b then n + 1 else n)
no_less true n = omega arith
no_less false n = omega arith

pub counted_more : (p : Entry → Bool) (e : Entry) (k : List Entry) → count_of p k ≤ count_of p (e ∷ k)
counted_more p e k = no_less (p e) (count_of p k)

-- ---- what is a reason is counted

own_role : (a b : Role) → a ≡ b → role_eq a b ≡ true
own_role a b same = (Decides-eqb (role_rank a) (role_rank b)).1 (ap role_rank same)

reason_counts : (role : Role) (m : ℕ) (e : Entry) → IsReason role m e → is_reason_for role e ≡ true
reason_counts role m (Called User call reply) is = absurd (let no = is.0 in cc no)
reason_counts role m (Called (Pass n) call reply) is = is.1
reason_counts role m (Deliver r kind to) is = own_role r role is
reason_counts role m (Listed r kind to) is = own_role r role is
reason_counts role m (Tick now) is = refl
reason_counts role m other is = absurd is

standing_counts : (role : Role) (m : ℕ) (k : List Entry) → HasEntry (IsReason role m) k → 1 ≤ count_of (is_reason_for role) k
standing_counts role m [] is = absurd is
standing_counts role m (e ∷ k) (inl here) = let one = counted_here (is_reason_for role) e k (reason_counts role m e here) in omega (arith, one)
standing_counts role m (e ∷ k) (inr there) = let rest = standing_counts role m k there in let more = counted_more (is_reason_for role) e k in omega (arith, rest, more)

-- a start of the role counts as well
new_begin : (role : Role) (key : Key) (e : Entry) → IsNewBegin role key e → (begins_on role key e ≡ true) ⊎ (is_reason_for role e ≡ true)
new_begin role key (Begin pass r k at now) is = inl (and_from (role_eq r role) (key_eq k key) (own_role r role is.0) (subst (λ (q : Key). key_eq k q ≡ true) is.1 (key_eq-refl k)))
new_begin role key (Start r at) is = inr (own_role r role is)
new_begin role key other is = absurd is

no_begin : (role : Role) (key : Key) (e : Entry) (k : List Entry) → count_of (begins_on role key) (e ∷ k) ≡ 0 → is_reason_for role e ≡ false → IsNewBegin role key e → ⊥
no_begin role key e k none off is = by (new_begin role key e is) where
  by : (begins_on role key e ≡ true) ⊎ (is_reason_for role e ≡ true) → ⊥
  by (inl begins) = let one = counted_here (begins_on role key) e k begins in omega (arith, one, none)
  by (inr on) = cc (on, off)

counted_or_none : (role : Role) (key : Key) (k : List Entry) → count_of (begins_on role key) k ≡ 0 → (1 ≤ count_of (is_reason_for role) k) ⊎ (HasEntry (IsNewBegin role key) k → ⊥)
counted_or_none role key [] none = inr (λ is. is)
counted_or_none role key (e ∷ k) none = by (is_reason_for role e) refl (counted_or_none role key k (let more = counted_more (begins_on role key) e k in omega (arith, none, more))) where
  by : (b : Bool) → is_reason_for role e ≡ b → (1 ≤ count_of (is_reason_for role) k) ⊎ (HasEntry (IsNewBegin role key) k → ⊥) → (1 ≤ count_of (is_reason_for role) (e ∷ k)) ⊎ (HasEntry (IsNewBegin role key) (e ∷ k) → ⊥)
  by true on rest = inl (let one = counted_here (is_reason_for role) e k on in omega (arith, one))
  by false off (inl some) = inl (let more = counted_more (is_reason_for role) e k in omega (arith, some, more))
  by false off (inr free) = inr (λ is. none_of is) where
    none_of : IsNewBegin role key e ⊎ HasEntry (IsNewBegin role key) k → ⊥
    none_of (inl new) = no_begin role key e k none off new
    none_of (inr there) = free there

-- ---- the last begin

-- the history as it was before the last pass of the role on the key, and what came since
record IsSplit (role : Role) (key : Key) (g : List Entry) : Type 0 where
  since : List Entry
  before : List Entry
  pass : ℕ
  at : Positions
  now : ℤ
  is : g ≡ since ++ (Begin pass role key at now ∷ before)
  none : count_of (begins_on role key) since ≡ 0
  low : count_of (begins_on role key) before ≤ count_of (is_reason_for role) before

abbrev HasLast : Role → Key → List Entry → Type 0
HasLast role key g = (count_of (begins_on role key) g ≡ 0) ⊎ IsSplit role key g

own_begin : (role : Role) (key : Key) → (role_eq role role && key_eq key key) ≡ true
own_begin role key = and_from (role_eq role role) (key_eq key key) (own_role role role refl) (key_eq-refl key)

split_begins : (role : Role) (key : Key) (g : List Entry) (p : IsSplit role key g) → count_of (begins_on role key) g ≡ count_of (begins_on role key) p.before + 1
split_begins role key g p =
    let e : Entry = Begin p.pass role key p.at p.now in
    let whole = ap (count_of (begins_on role key)) p.is in
    let over = counted_over (begins_on role key) p.since (e ∷ p.before) in
    let here = counted_here (begins_on role key) e p.before (own_begin role key) in
    let none = p.none in
    omega (arith, whole, over, here, none)

split_reasons : (role : Role) (key : Key) (g : List Entry) (p : IsSplit role key g) → count_of (is_reason_for role) g ≡ count_of (is_reason_for role) p.since + count_of (is_reason_for role) p.before
split_reasons role key g p =
    let e : Entry = Begin p.pass role key p.at p.now in
    let whole = ap (count_of (is_reason_for role)) p.is in
    let over = counted_over (is_reason_for role) p.since (e ∷ p.before) in
    let here = uncounted (is_reason_for role) e p.before refl in
    omega (arith, whole, over, here)

-- the next begin has its reason
next_low : (whole l : List Entry) (n : ℕ) (role : Role) (key : Key) (at : Positions) (now : ℤ) (g : List Entry) → BeginsForSomething whole → whole ≡ l ++ (Begin n role key at now ∷ g) → HasLast role key g
    → count_of (begins_on role key) g ≤ count_of (is_reason_for role) g
next_low whole l n role key at now g law is (inl none) = omega (arith, none)
next_low whole l n role key at now g law is (inr p) =
    let begins = split_begins role key g p in
    let reasons = split_reasons role key g p in
    let low = p.low in
    let some = by (counted_or_none role key p.since p.none) in
    omega (arith, begins, reasons, low, some)
  where
    by : (1 ≤ count_of (is_reason_for role) p.since) ⊎ (HasEntry (IsNewBegin role key) p.since → ⊥) → 1 ≤ count_of (is_reason_for role) p.since
    by (inl some) = some
    by (inr free) =
        standing_counts role p.pass p.since
        (law l p.since p.before n p.pass role key at p.at now p.now (is ∙ ap (λ (x : List Entry). l ++ (Begin n role key at now ∷ x)) p.is) free)

split_more : (role : Role) (key : Key) (e : Entry) (g : List Entry) → begins_on role key e ≡ false → HasLast role key g → HasLast role key (e ∷ g)
split_more role key e g off (inl none) = inl (uncounted (begins_on role key) e g off ∙ none)
split_more role key e g off (inr p) =
    inr (record { since = e ∷ p.since; before = p.before; pass = p.pass; at = p.at; now = p.now; is = ap (λ (x : List Entry). e ∷ x) p.is; none = uncounted (begins_on role key) e p.since off ∙ p.none; low = p.low })

begin_last : (whole l : List Entry) (n : ℕ) (r role : Role) (k key : Key) (at : Positions) (now : ℤ) (g : List Entry) → BeginsForSomething whole → whole ≡ l ++ (Begin n r k at now ∷ g) → r ≡ role → k ≡ key → HasLast role key g
    → HasLast role key (Begin n r k at now ∷ g)
begin_last whole l n r role k key at now g law is same_r same_k last =
    let entry : Begin n r k at now ≡ Begin n role key at now = λ i. Begin n (same_r i) (same_k i) at now in
    inr (record {
      since = [];
      before = g;
      pass = n;
      at = at;
      now = now;
      is = ap (λ (e : Entry). e ∷ g) entry;
      none = refl;
      low = next_low whole l n role key at now g law (is ∙ ap (λ (e : Entry). l ++ (e ∷ g)) entry) last;
    })

entry_last : (whole l : List Entry) (role : Role) (key : Key) (e : Entry) (g : List Entry) (b : Bool) → begins_on role key e ≡ b → BeginsForSomething whole → whole ≡ l ++ (e ∷ g) → HasLast role key g → HasLast role key (e ∷ g)
entry_last whole l role key e g false off law is last = split_more role key e g off last
entry_last whole l role key (Begin n r k at now) g true on law is last =
    let both = and_parts (role_eq r role) (key_eq k key) on in
    begin_last whole l n r role k key at now g law is (same_role r role both.0) (same_key k key both.1) last
entry_last whole l role key other g true on law is last = absurd (cc on)

has_last : (whole l : List Entry) (role : Role) (key : Key) (g : List Entry) → BeginsForSomething whole → whole ≡ l ++ g → HasLast role key g
has_last whole l role key [] law is = inl refl
has_last whole l role key (e ∷ g) law is =
    entry_last whole l role key e g (begins_on role key e) refl law is (has_last whole (l ++ (e ∷ [])) role key g law (is ∙ sym (append_assoc l (e ∷ []) g)))

few_begins : (role : Role) (key : Key) (g : List Entry) → HasLast role key g → count_of (begins_on role key) g ≤ count_of (is_reason_for role) g + 1
few_begins role key g (inl none) = omega (arith, none)
few_begins role key g (inr p) =
    let begins = split_begins role key g p in
    let reasons = split_reasons role key g p in
    let low = p.low in
    omega (arith, begins, reasons, low)

pub reasons_enough : (whole : List Entry) → BeginsForSomething whole → HasReasonsEnough whole
reasons_enough whole law role key = few_begins role key whole (has_last whole [] role key whole law refl)
