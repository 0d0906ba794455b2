-- The first of the open passes, in the order of their numbers.
use Rattle.std.proofs.Common.{◌≡◌, ℕ, ◌<◌, List, [], ◌∷◌, Option, Some, None, false, cond, refl, sym, ap, subst, ◌∙◌, arith, Ordering, Less, Equal, Greater}
use Rattle.std.proofs.lemmas.Cmp.{ranked}
use Rattle.std.proofs.lemmas.List.Elements.{All-head, All-tail}
use Rattle.std.specs.Prelude.{All, IsSome, ◌↔◌, length, slice_get}
use Rattle.std.specs.BTreeMap.{is_at}
use Rattle.std.specs.BTreeMap.Range.{IsLeBy}
use Rattle.std.specs.Cmp.{nat_cmp_total, tied_itself}
use Rattle.std.specs.Map.{keys_of, lookup}
use Rattle.std.specs.Ordering.{nat_cmp, is_eq, is_gt}
use Rattle.cmc_objects.specs.declared.entry.Entry.{Entry}
use Rattle.cmc_rules.specs.declared.progress.OpenPass.{OpenPass}
use Rattle.cmc_model.specs.Histories.{Setting, incarnation}
use Rattle.cmc_rules.specs.Passes.{open_pass}
use Rattle.cmc_rules.specs.Legality.{IsOpen}
use Rattle.cmc_held.specs.Open.{pass_at}
use Rattle.cmc_kernel.specs.Plain.{IsFirstPass, IsOfPresent, HasNoPass}

apart : (m n k : ℕ) (r : Ordering) → nat_cmp m k ≡ r → m < n → is_gt (nat_cmp n k) ≡ false → is_eq r ≡ false
apart m n k Less e low le = refl
apart m n k Greater e low le = refl
apart m n k Equal e low le = absurd (above (nat_cmp n k) refl le) where
  above : (q : Ordering) → nat_cmp n k ≡ q → is_gt q ≡ false → ⊥
  above Greater is off = absurd (cc off)
  above Less is off = let less : n < k = ranked n k Less (sym is) in let same : m ≡ k = ranked m k Equal (sym e) in absurd (omega (arith, low, less, same))
  above Equal is off = let one : n ≡ k = ranked n k Equal (sym is) in let same : m ≡ k = ranked m k Equal (sym e) in absurd (omega (arith, low, one, same))

-- below the least number no pass is open
none_lower : (m n : ℕ) (es : List (ℕ × OpenPass)) → m < n → All (IsLeBy nat_cmp n) (keys_of es) → pass_at es m ≡ None
unfolding pass_at
none_lower m n [] low all = refl
none_lower m n (e ∷ es) low all =
    ap (λ t. cond t (Some e.1) (lookup (is_at (nat_cmp m)) es)) (apart m n e.0 (nat_cmp m e.0) refl low (All-head (IsLeBy nat_cmp n) e.0 (keys_of es) all))
    ∙ none_lower m n es low (All-tail (IsLeBy nat_cmp n) e.0 (keys_of es) all)

first_at : (es : List (ℕ × OpenPass)) (n : ℕ) (p : OpenPass) → slice_get es 0 ≡ Some (n, p) → pass_at es n ≡ Some p
unfolding pass_at
first_at [] n p is = absurd (cc is)
first_at (e ∷ es) n p is =
    let same : e ≡ (n, p) = cc is in
    subst (λ (d : ℕ × OpenPass). cond (is_eq (nat_cmp d.0 e.0)) (Some e.1) (lookup (is_at (nat_cmp d.0)) es) ≡ Some d.1) same
    (ap (λ r. cond (is_eq r) (Some e.1) (lookup (is_at (nat_cmp e.0)) es)) (tied_itself nat_cmp_total e.0))

shut : (o : Option OpenPass) → o ≡ None → IsOpen o → ⊥
shut o none open_here = subst IsOpen none open_here

-- the first pass is the least open one
pub first_pass_is : (s : Setting) (h : List Entry) (es : List (ℕ × OpenPass)) (n named : ℕ) (p : OpenPass) → ((m : ℕ) → pass_at es m ≡ open_pass s h m) → slice_get es 0 ≡ Some (n, p)
    → All (IsLeBy nat_cmp n) (keys_of es) → named ≡ incarnation s h p.role → IsFirstPass s h n × IsOfPresent s h named (open_pass s h n)
first_pass_is s h es n named p each first all is =
    let here : open_pass s h n ≡ Some p = sym (each n) ∙ first_at es n p first in (
      record { stands = subst IsOpen (sym here) tt; least = λ m low. shut (open_pass s h m) (sym (each m) ∙ none_lower m n es low all) },
      subst (IsOfPresent s h named) (sym here) is,
    )

-- and where there is none, none is open
pub no_pass : (s : Setting) (h : List Entry) (es : List (ℕ × OpenPass)) → ((m : ℕ) → pass_at es m ≡ open_pass s h m) → es ≡ [] → HasNoPass s h
unfolding pass_at
no_pass s h es each none n = shut (open_pass s h n) (sym (each n) ∙ ap (λ (l : List (ℕ × OpenPass)). lookup (is_at (nat_cmp n)) l) none)

pub nothing_in : {A : Type 0} (es : List (ℕ × OpenPass)) (found : Option A) → found ≡ None → (IsSome found ↔ (0 < length es)) → es ≡ []
nothing_in {A = A} [] found is some = refl
nothing_in {A = A} (e ∷ es) found is some = absurd (let none : IsSome {T = A} None = subst (λ (o : Option A). IsSome {T = A} o) is (some.1 (omega arith)) in cc none)
