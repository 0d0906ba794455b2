-- What is decided, by the places of the policies that pass and that are bound.
use Rattle.std.proofs.Common.{◌≡◌, ℕ, ◌<◌, Bool, true, false, List, length, Some, None, refl, ◌∙◌, ap}
use Rattle.std.specs.Prelude.{cond, slice_get}
use Rattle.std.specs.List.{find, position, position_or_len}
use Rattle.std.proofs.Math.ListN.{get_or}
use Rattle.std.proofs.Common.{arith}
use Rattle.std.specs.Prelude.{nat_lt}
use Rattle.std.proofs.lemmas.Bool.Decides.{nat_tests}
use Rattle.std.proofs.lemmas.List.Sums.{fails_before_first}
use Rattle.std.proofs.lemmas.List.Folds.{find_at}
use Rattle.std.proofs.lemmas.List.Quantifiers.{position-Some}
use Rattle.std.proofs.lemmas.Option.{slice_get_read}
use Rattle.cmc_policy_rules.specs.declared.decision.Decision.TheVariants.{Yes, No, Unbound}
use Rattle.cmc_policy_rules.specs.declared.decision.Field.{Field}
use Rattle.cmc_policy_rules.specs.declared.policy.Policy.{Policy}
use Rattle.cmc_policy_rules.specs.declared.wanted.Wanted.{Wanted}
use Rattle.cmc_policy_rules.specs.Allowed.{refused_field}
use Rattle.cmc_policy_rules.specs.Decisions.{is_bound, is_allowed_by, decision}

cond_some : (b : Bool) (n i : ℕ) → cond b (Some n) None ≡ Some i → n ≡ i
cond_some true n i e = cc
cond_some false n i e = absurd (cc e)

-- the item at the position is found
found_at : {X : Type 0} (p : X → Bool) → (xs : List X) (i : ℕ) (x : X) → position p xs ≡ Some i → x ≡ get_or xs i x → find p xs ≡ Some x
found_at p xs i x place is =
    find_at p xs ∙ (ap (λ (n : ℕ). slice_get xs n) (cond_some _ _ _ place)
    ∙ slice_get_read xs (length xs) i x refl (position-Some p xs i x place).0 is)

pub yes_decided : (policies : List Policy) (wanted : Wanted) (place : ℕ)
    → position (λ policy. is_allowed_by policy wanted) policies ≡ Some place → Yes place ≡ decision policies wanted
unfolding decision
yes_decided policies wanted place e = rw e refl

pub no_decided : (policies : List Policy) (wanted : Wanted) (place : ℕ) (policy : Policy) (field : Field)
    → position (λ policy. is_allowed_by policy wanted) policies ≡ None
    → position (λ policy. is_bound policy wanted) policies ≡ Some place → policy ≡ get_or policies place policy
    → refused_field policy wanted ≡ Some field → No place field ≡ decision policies wanted
unfolding decision
no_decided policies wanted place policy field none bound is refused =
    let found : find (λ (p : Policy). is_bound p wanted) policies ≡ Some policy = found_at (λ (p : Policy). is_bound p wanted) policies place policy bound is in
    rw (none, bound, found, refused) refl

pub unbound_decided : (policies : List Policy) (wanted : Wanted)
    → position (λ policy. is_allowed_by policy wanted) policies ≡ None
    → position (λ policy. is_bound policy wanted) policies ≡ None → Unbound ≡ decision policies wanted
unfolding decision
unbound_decided policies wanted none unbound = rw (none, unbound) refl

cond_none : (b : Bool) (n : ℕ) → cond b (Some n) None ≡ None → b ≡ false
cond_none true n e = absurd (cc e)
cond_none false n e = refl

-- where none passes, no item does
none_at : {X : Type 0} (p : X → Bool) → (xs : List X) (i : ℕ) (x : X) → i < length xs → x ≡ get_or xs i x → position p xs ≡ None → p x ≡ true → ⊥
none_at p xs i x within is none passing =
    let over : nat_lt (position_or_len p xs) (length xs) ≡ false = cond_none _ _ none in
    let fails : p (get_or xs i x) ≡ false = fails_before_first p xs i x (grind (arith, nat_tests, within, over)) in
    absurd (cc (fails, passing, ap p is))

-- a policy that is bound and refuses nothing passes
pub no_refusal : (policies : List Policy) (wanted : Wanted) (place : ℕ) (policy : Policy)
    → position (λ policy. is_allowed_by policy wanted) policies ≡ None
    → position (λ policy. is_bound policy wanted) policies ≡ Some place → policy ≡ get_or policies place policy
    → refused_field policy wanted ≡ None → ⊥
no_refusal policies wanted place policy none bound is allowed =
    let at = position-Some (λ (p : Policy). is_bound p wanted) policies place policy bound in
    let here : is_bound policy wanted ≡ true = ap (λ (p : Policy). is_bound p wanted) is ∙ at.1 in
    none_at (λ (p : Policy). is_allowed_by p wanted) policies place policy at.0 is none (rw (here, allowed) refl)
