-- What a reading gives, if it gives anything.
use Rattle.std.proofs.Common.{◌≡◌, ℕ, List, Bool, true, false, Ok, Err, refl, ap, subst}
use Rattle.std.specs.Prelude.{if◌then◌else◌, IfOk}
use Rattle.std.specs.declared.result.Result.{Result}
use Rattle.cmc_cursor.specs.declared.error.BadField.{BadField}
use Rattle.cmc_cursor.specs.declared.error.BadField.TheVariants.{Path, NoMemory}
use Rattle.cmc_cursor.specs.Members.{Path as Names, Read, Gives, ◌>>=◌, under}

-- what a reading gives, if it gives anything, is so
pub record Always {A : Type 0} (P : A → Type 0) (r : Read A) : Type 0 where
  pub each : (x : A) → r ≡ Ok x → P x

got : {A : Type 0} → A → Read A → A
got d (Ok x) = x
got d (Err path) = d

is_ok : {A : Type 0} → Read A → Bool
is_ok (Ok x) = true
is_ok (Err path) = false

pub so : {A : Type 0} {P : A → Type 0} {x : A} → P x → Always P (Ok x)
unfolding got
so {P = P} {x = x} is = record { each = λ y e. subst P (ap (got x) e) is }

pub failed : {A : Type 0} {P : A → Type 0} (path : Names) → Always P (Err path)
unfolding is_ok
failed path = record { each = λ y e. absurd (let k = ap is_ok e in cc) }

pub next : {A B : Type 0} (P : B → Type 0) (r : Read A) (f : A → Read B) → ((x : A) → Always P (f x)) → Always P (r >>= f)
next P (Ok x) f each = each x
next P (Err path) f each = failed path

pub after : {A B : Type 0} (Q : A → Type 0) (P : B → Type 0) (r : Read A) (f : A → Read B) → Always Q r → ((x : A) → Q x → Always P (f x)) → Always P (r >>= f)
after Q P (Ok x) f first each = each x (first.each x refl)
after Q P (Err path) f first each = failed path

pub below : {A : Type 0} (P : A → Type 0) (name : List ℕ) (r : Read A) → Always P r → Always P (under name r)
below P name (Ok x) is = is
below P name (Err path) is = failed _

pub either : {A : Type 0} (P : A → Type 0) (b : Bool) (x y : Read A) → Always P x → Always P y → Always P (if b then x else y)
either P true x y first second = first
either P false x y first second = second

-- where the test passes, the first; else the second fails
pub where_true : {A : Type 0} (P : A → Type 0) (b : Bool) (x : Read A) (path : Names) → (b ≡ true → Always P x) → Always P (if b then x else Err path)
where_true P true x path first = first refl
where_true P false x path first = failed path

pub also : {A : Type 0} (P : A → Type 0) (Fact : Type 0) (r : Read A) → Fact → Always P r → Always (λ x. Fact × P x) r
also P Fact r fact always = record { each = λ x e. (fact, always.each x e) }

-- what was read by a reading of which it is always so, is so
pub is_given : {A : Type 0} (P : A → Type 0) (result : Result A BadField) (r : Read A) → Always P r → Gives (λ x. x) result r → IfOk result P
is_given P (Ok x) r always gives = always.each x gives
is_given P (Err (Path path)) r always gives = tt
is_given P (Err NoMemory) r always gives = tt

-- both are so
pub with_both : {A : Type 0} (P Q : A → Type 0) (r : Read A) → Always P r → Always Q r → Always (λ x. P x × Q x) r
with_both P Q r first second = record { each = λ x e. (first.each x e, second.each x e) }

-- what is so of each is also so in another way
pub further : {A : Type 0} (P Q : A → Type 0) (r : Read A) → ((x : A) → P x → Q x) → Always P r → Always Q r
further P Q r f first = record { each = λ x e. f x (first.each x e) }
