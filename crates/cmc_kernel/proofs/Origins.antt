-- Each open pass has its origin, and passes are numbered as they begin.
use Rattle.std.proofs.Common.{◌≡◌, ◌==◌, ℕ, ◌≤◌, List, [], ◌∷◌, length, Option, Some, None, Bool, true, false, refl, sym, subst, ◌∙◌, arith}
use Rattle.std.proofs.lemmas.Bool.Decides.{nat_tests}
use Rattle.std.specs.Prelude.{if◌then◌else◌, IfSome}
use Rattle.cmc_objects.specs.declared.role.Role.{Role}
use Rattle.cmc_objects.specs.declared.entry.Entry.{Entry}
use Rattle.cmc_objects.specs.declared.entry.Entry.TheVariants.{Call as Called, Begin, Ask, Made, Signed, Answered, Judged, End, Stop}
use Rattle.cmc_pass.specs.declared.value.Value.TheVariants as values
use Rattle.cmc_rules.specs.declared.progress.OpenPass.{OpenPass}
use Rattle.cmc_rules.specs.declared.progress.Origin.{Origin}
use Rattle.cmc_model.specs.Histories.{Setting, incarnation}
use Rattle.cmc_rules.specs.Views.{views}
use Rattle.cmc_rules.specs.Passes.{open_pass, new_pass, stage_after}
use Rattle.cmc_rules.specs.Origins.{origins, origin_at}
use Rattle.cmc_rules.specs.Legality.{IsLegal}
use Rattle.cmc_rules.proofs.Carrying.{over_call, over_ask, over_given, over_end, over_stop}

-- ---- one origin for each pass

-- the number lies between 1 and n
abbrev IsUpTo : ℕ → ℕ → Type 0
IsUpTo n number = (1 ≤ number) × (number ≤ n)

low_at : (here : Bool) (number : ℕ) (o : Origin) (os : List Origin) (found : Origin) → (length (o ∷ os) == number) ≡ here
    → (origin_at number os ≡ Some found → IsUpTo (length os) number)
    → (if here then Some o else origin_at number os) ≡ Some found → IsUpTo (length (o ∷ os)) number
low_at true number o os found is below given =
    let same : length (o ∷ os) ≡ number = grind (arith, nat_tests) in
    (omega (arith, same), omega (arith, same))
low_at false number o os found is below given = let low = below given in (omega (arith, low.0), omega (arith, low.1))

low_in : (number : ℕ) (os : List Origin) (found : Origin) → origin_at number os ≡ Some found → IsUpTo (length os) number
unfolding origin_at
low_in number [] found given = absurd (cc)
low_in number (o ∷ os) found given = low_at (length (o ∷ os) == number) number o os found refl (λ there. low_in number os found there) given

-- ---- the origin of an open pass

-- the origin, which stands, is of the role
abbrev pub IsOfRole : Role → Option Origin → Type 0
IsOfRole role None = ⊥
IsOfRole role (Some o) = o.role ≡ role

-- the pass of the number has an origin of its role
abbrev pub HasOrigin : ℕ → List Origin → OpenPass → Type 0
HasOrigin n os p = IsOfRole p.role (origin_at n os)

-- the newest origin is that of the newest pass, and leaves the older ones
newest_at : (n : ℕ) (o : Origin) (os : List Origin) (here : Bool) → (length (o ∷ os) == n) ≡ here → length (o ∷ os) ≡ n → IsOfRole o.role (if here then Some o else origin_at n os)
newest_at n o os true is same = refl
newest_at n o os false is same = absurd (grind (arith, nat_tests))

newest : (n : ℕ) (o : Origin) (os : List Origin) → length (o ∷ os) ≡ n → IsOfRole o.role (origin_at n (o ∷ os))
unfolding origin_at
newest n o os same = newest_at n o os (length (o ∷ os) == n) refl same

older_at : (n : ℕ) (role : Role) (o : Origin) (os : List Origin) (here : Bool) → (length (o ∷ os) == n) ≡ here → (length (o ∷ os) ≡ n → ⊥)
    → IsOfRole role (origin_at n os) → IsOfRole role (if here then Some o else origin_at n os)
older_at n role o os true is other has = absurd (other (grind (arith, nat_tests)))
older_at n role o os false is other has = has

older : (n : ℕ) (o : Origin) (os : List Origin) (p : Option OpenPass) → (length (o ∷ os) ≡ n → ⊥) → IfSome p (HasOrigin n os) → IfSome p (HasOrigin n (o ∷ os))
unfolding origin_at
older n o os None other has = tt
older n o os (Some p) other has = older_at n p.role o os (length (o ∷ os) == n) refl other has

origin_begun : (n pass : ℕ) (o : Origin) (os : List Origin) (own : Bool) (new : OpenPass) (p : Option OpenPass) → (n == pass) ≡ own
    → length (o ∷ os) ≡ pass → new.role ≡ o.role → IfSome p (HasOrigin n os) → IfSome (if own then Some new else p) (HasOrigin n (o ∷ os))
origin_begun n pass o os true new p is place role has =
    let same : n ≡ pass = grind (arith, nat_tests) in
    subst (λ (r : Role). IsOfRole r (origin_at n (o ∷ os))) (sym role) (newest n o os (place ∙ sym same))
origin_begun n pass o os false new p is place role has = older n o os p (λ same. absurd (grind (arith, nat_tests))) has

-- each open pass has its origin
pub has_origin : (s : Setting) (h : List Entry) (n : ℕ) → IsLegal s h → IfSome (open_pass s h n) (HasOrigin n (origins s h))
unfolding IsLegal
has_origin s [] n legal = tt
has_origin s (Called who call reply ∷ h) n legal = over_call (HasOrigin n (origins s h)) n who (stage_after s h call reply) (open_pass s h n) (λ p has. has) (has_origin s h n legal.1)
has_origin s (Begin pass role key at now ∷ h) n legal =
    origin_begun n pass (record { role = role; incarnation = incarnation s h role }) (origins s h) (n == pass) (new_pass role key (views s h role key) now) (open_pass s h n) refl
    (omega (arith, legal.0.numbered)) refl (has_origin s h n legal.1)
has_origin s (Ask pass order ∷ h) n legal = over_ask (HasOrigin n (origins s h)) n pass order (open_pass s h n) (λ p has. has) (has_origin s h n legal.1)
has_origin s (Made pass key ∷ h) n legal = over_given (HasOrigin n (origins s h)) n pass (values.Made key) (open_pass s h n) (λ p has. has) (has_origin s h n legal.1)
has_origin s (Signed pass signature ∷ h) n legal = over_given (HasOrigin n (origins s h)) n pass (values.Signed signature) (open_pass s h n) (λ p has. has) (has_origin s h n legal.1)
has_origin s (Answered pass answer ∷ h) n legal = over_given (HasOrigin n (origins s h)) n pass (values.Answered answer) (open_pass s h n) (λ p has. has) (has_origin s h n legal.1)
has_origin s (Judged pass approved ∷ h) n legal = over_given (HasOrigin n (origins s h)) n pass (values.Judged approved) (open_pass s h n) (λ p has. has) (has_origin s h n legal.1)
has_origin s (End pass cause ∷ h) n legal = over_end (HasOrigin n (origins s h)) (n == pass) (open_pass s h n) (has_origin s h n legal.1)
has_origin s (Stop role ∷ h) n legal = over_stop (HasOrigin n (origins s h)) role (open_pass s h n) (has_origin s h n legal.1)
has_origin s (other ∷ h) n legal = has_origin s h n legal.1

found : (role : Role) (origin : Option Origin) → IsOfRole role origin → (o : Origin) × (origin ≡ Some o) × (o.role ≡ role)
found role None is = absurd is
found role (Some o) is = (o, refl, is)
