-- Each role is told of each kind no more often than there are accepted writes, and so often again after each start.
use Rattle.std.proofs.Common.{◌≡◌, ℕ, ◌+◌, ◌*◌, ◌≤◌, ◌<◌, List, [], ◌∷◌, length, Bool, true, false, ◌&&◌, refl, subst, arith}
use Rattle.std.proofs.lemmas.Bool.{and_parts}
use Rattle.std.proofs.lemmas.Nat.{mul-le}
use Rattle.std.proofs.Math.Nat.{mul-suc}
use Rattle.std.specs.Prelude.{if◌then◌else◌}
use Rattle.std.specs.List.{list_any}
use Rattle.cmc_meta.specs.declared.key.Kind.{Kind}
use Rattle.cmc_meta.specs.declared.key.Kind.TheVariants.{Certificate, CertificateRequest, Secret}
use Rattle.cmc_objects.specs.declared.role.Role.{Role}
use Rattle.cmc_objects.specs.declared.entry.Entry.{Entry}
use Rattle.cmc_objects.specs.declared.entry.Entry.TheVariants.{Call as Called, Deliver, List as Listed, Start}
use Rattle.cmc_model.specs.Replies.{is_accepted}
use Rattle.cmc_model.specs.Histories.{Setting, accepted, role_eq}
use Rattle.cmc_model.specs.Writes.{kind_eq}
use Rattle.cmc_rules.specs.Positions.{is_informer, position}
use Rattle.cmc_rules.specs.Legality.{IsLegal}
use Rattle.cmc_rules.proofs.Positions.{positions_low}
use Rattle.cmc_kernel.proofs.SameKeys.{same_kind}
use Rattle.cmc_kernel.proofs.RoleStates.{same_role}
use Rattle.cmc_waits.specs.Waits.{all_roles}
use Rattle.cmc_run_laws.specs.Begins.{count_of}
use Rattle.cmc_run_laws.specs.Lengths.{HasFewDeliveries, all_kinds, is_start, is_delivery}
use Rattle.cmc_run_laws.proofs.Counting.{counted_by_parts, is_in_part, of_all}
use Rattle.cmc_run_laws.proofs.FewPasses.{some_role}

abbrev is_told_to : Role → Kind → Entry → Bool
is_told_to role kind (Deliver r k to) = is_informer r k role kind
is_told_to role kind (Listed r k to) = is_informer r k role kind
is_told_to role kind other = false

abbrev is_told_of : Role → Entry → Bool
is_told_of role (Deliver r k to) = role_eq r role
is_told_of role (Listed r k to) = role_eq r role
is_told_of role other = false

-- ---- one role and one kind

more_writes : (b : Bool) (n writes starts p : ℕ) → n ≤ writes * starts + p → n ≤ (if b then writes + 1 else writes) * starts + p
more_writes true n writes starts p low = let more = mul-le writes starts (writes + 1) starts (omega arith) (omega arith) in omega (arith, low, more)
more_writes false n writes starts p low = low

told_more : (b : Bool) (n product p to : ℕ) → (b ≡ true → p < to) → n ≤ product + p → (if b then n + 1 else n) ≤ product + (if b then to else p)
told_more true n product p to further low = let less = further refl in omega (arith, low, less)
told_more false n product p to further low = low

starts_anew : (n writes starts p at : ℕ) → n ≤ writes * starts + p → p ≤ writes → n ≤ writes * (starts + 1) + at
starts_anew n writes starts p at low short = let product = mul-suc writes starts in omega (arith, low, short, product)

its_own : (h : List Entry) (r role : Role) (k kind : Kind) (to : ℕ) → position h r k < to → is_informer r k role kind ≡ true → position h role kind < to
its_own h r role k kind to further is =
    let both = and_parts (role_eq r role) (kind_eq k kind) is in
    subst (λ (x : Kind). position h role x < to) (same_kind k kind both.1) (subst (λ (x : Role). position h x k < to) (same_role r role both.0) further)

newest_is_further : (p window accepted to : ℕ) → p + window < accepted → to ≡ accepted → p < to
newest_is_further p window accepted to beyond newest = omega (arith, beyond, newest)

up_to_position : (s : Setting) (h : List Entry) (role : Role) (kind : Kind) → IsLegal s h → count_of (is_told_to role kind) h ≤ accepted s h * count_of is_start h + position h role kind
unfolding IsLegal
up_to_position s [] role kind legal = omega arith
up_to_position s (Called who call reply ∷ h) role kind legal =
    more_writes (is_accepted reply) (count_of (is_told_to role kind) h) (accepted s h) (count_of is_start h) (position h role kind) (up_to_position s h role kind legal.1)
up_to_position s (Deliver r k to ∷ h) role kind legal =
    told_more (is_informer r k role kind) (count_of (is_told_to role kind) h) (accepted s h * count_of is_start h) (position h role kind) to
    (its_own h r role k kind to legal.0.further) (up_to_position s h role kind legal.1)
up_to_position s (Listed r k to ∷ h) role kind legal =
    told_more (is_informer r k role kind) (count_of (is_told_to role kind) h) (accepted s h * count_of is_start h) (position h role kind) to
    (its_own h r role k kind to (newest_is_further (position h r k) s.window (accepted s h) to legal.0.beyond legal.0.newest)) (up_to_position s h role kind legal.1)
up_to_position s (Start r at ∷ h) role kind legal =
    starts_anew (count_of (is_told_to role kind) h) (accepted s h) (count_of is_start h) (position h role kind) _ (up_to_position s h role kind legal.1) (positions_low s h role kind legal.1)
up_to_position s (other ∷ h) role kind legal = up_to_position s h role kind legal.1

in_whole : (s : Setting) (h : List Entry) (role : Role) (kind : Kind) → IsLegal s h → count_of (is_told_to role kind) h ≤ accepted s h * (count_of is_start h + 1)
in_whole s h role kind legal =
    let low = up_to_position s h role kind legal in
    let short = positions_low s h role kind legal in
    let product = mul-suc (accepted s h) (count_of is_start h) in
    omega (arith, low, short, product)

-- ---- all of them

some_kind : (b : Bool) (k : Kind) → b ≡ true → list_any (λ kind. b && kind_eq k kind) all_kinds ≡ true
some_kind true Certificate on = refl
some_kind true CertificateRequest on = refl
some_kind true Secret on = refl
some_kind false k on = absurd (cc on)

of_a_kind : (role : Role) (e : Entry) → is_told_of role e ≡ true → is_in_part (is_told_to role) all_kinds e ≡ true
of_a_kind role (Deliver r k to) is = some_kind (role_eq r role) k is
of_a_kind role (Listed r k to) is = some_kind (role_eq r role) k is
of_a_kind role other is = absurd (cc is)

to_a_role : (e : Entry) → is_delivery e ≡ true → is_in_part is_told_of all_roles e ≡ true
to_a_role (Deliver r k to) is = some_role r
to_a_role (Listed r k to) is = some_role r
to_a_role other is = absurd (cc is)

pub told_seldom : (s : Setting) (whole : List Entry) → IsLegal s whole → HasFewDeliveries s whole
told_seldom s whole legal =
    counted_by_parts is_delivery is_told_of all_roles whole (length all_kinds * (accepted s whole * (count_of is_start whole + 1))) (of_all _ whole to_a_role) (of_all _ all_roles of_role)
  where
    of_role : (role : Role) → count_of (is_told_of role) whole ≤ length all_kinds * (accepted s whole * (count_of is_start whole + 1))
    of_role role =
        counted_by_parts (is_told_of role) (is_told_to role) all_kinds whole (accepted s whole * (count_of is_start whole + 1)) (of_all _ whole (of_a_kind role))
        (of_all _ all_kinds (λ kind. in_whole s whole role kind legal))
