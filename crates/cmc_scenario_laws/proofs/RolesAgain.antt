-- The roles of a scenario: those that stand in their order are read again of their names.
use Rattle.std.proofs.Common.{◌≡◌, ℕ, suc, ◌+◌, ◌<◌, ◌≤◌, List, [], ◌∷◌, ◌++◌, Bool, true, false, Ok, refl, ap, sym, subst, ◌∙◌, map, arith, append_assoc, append-nil}
use Rattle.std.specs.Prelude.{◌==◌, ◌&&◌, nat_lt}
use Rattle.std.specs.List.{insert, list_all}
use Rattle.std.proofs.lemmas.Bool.{eqb-true, and_parts}
use Rattle.std.proofs.lemmas.Bool.Decides.{nat_tests}
use Rattle.serde_json.specs.View.{items_of}
use Rattle.cmc_objects.specs.declared.role.Role.{Role}
use Rattle.cmc_objects.specs.declared.role.Role.TheVariants.{Trigger, KeyManager, RequestManager, Approver, Issuer, Issuing, Readiness, Revision}
use Rattle.cmc_objects.specs.Roles.{role_rank}
use Rattle.cmc_objects.proofs.Ranks.{role_of_rank}
use Rattle.cmc_setup.specs.Setups.{AreInOrderFrom, AreInOrder, is_among, place_among, with_role}
use Rattle.cmc_cursor.specs.Members.{Read}
use Rattle.cmc_scenario.specs.Roles.{roles_with, named_roles_at, roles_at}
use Rattle.cmc_scenario_print.specs.Defaults as defaults
use Rattle.cmc_scenario_print.specs.Defaults.{is_every_role}
use Rattle.cmc_scenario_print.specs.ScenarioTree.{role_tree, roles_tree}
use Rattle.cmc_scenario_laws.proofs.Members.{some_unless}
use Rattle.cmc_scenario_laws.proofs.StepsAgain.{role_again}

-- ---- a role behind all others

-- each of the roles comes before the rank
abbrev AreBelow : ℕ → List Role → Type 0
AreBelow n [] = Unit {0}
AreBelow n (role ∷ roles) = (role_rank role < n) × AreBelow n roles

below_later : (n m : ℕ) (roles : List Role) → n ≤ m → AreBelow n roles → AreBelow m roles
below_later n m [] h below = tt
below_later n m (role ∷ roles) h below = (omega (arith, below.0), below_later n m roles h below.1)

below_more : (n : ℕ) (roles : List Role) (role : Role) → role_rank role < n → AreBelow n roles → AreBelow n (roles ++ role ∷ [])
below_more n [] role h below = (h, tt)
below_more n (first ∷ roles) role h below = (below.0, below_more n roles role h below.1)

other_rank : (a b : ℕ) → a < b → (a == b) ≡ false
other_rank a b h = grind (arith, nat_tests)

not_above : (a b : ℕ) → a < b → nat_lt b a ≡ false
not_above a b h = grind (arith, nat_tests)

not_among : (roles : List Role) (role : Role) → AreBelow (role_rank role) roles → is_among roles role ≡ false
not_among [] role below = refl
not_among (first ∷ roles) role below = rw (other_rank (role_rank first) (role_rank role) below.0) (not_among roles role below.1)

insert_later : (first : Role) (rest : List Role) (k : ℕ) (role : Role) → insert (first ∷ rest) (1 + k) role ≡ first ∷ insert rest k role
insert_later first rest k role = let e : 1 + k ≡ suc k = omega arith in rw e refl

put_last : (roles : List Role) (role : Role) → AreBelow (role_rank role) roles → insert roles (place_among roles role) role ≡ roles ++ role ∷ []
put_last [] role below = refl
put_last (first ∷ roles) role below =
    rw (not_above (role_rank first) (role_rank role) below.0, insert_later first roles (place_among roles role) role) (ap (λ (rs : List Role). first ∷ rs) (put_last roles role below.1))

with_last : (roles : List Role) (role : Role) → AreBelow (role_rank role) roles → with_role roles role ≡ roles ++ role ∷ []
with_last roles role below = rw (not_among roles role below) (put_last roles role below)

-- ---- roles in their order

roles_listed : (n least : ℕ) (front back : List Role) → AreBelow least front → AreInOrderFrom least back → roles_with n front (items_of (map role_tree back)) ≡ Ok (front ++ back)
roles_listed n least front [] below order = ap (λ (rs : List Role). as_ok rs) (sym (append-nil front))
  where
    as_ok : List Role → Read (List Role)
    as_ok rs = Ok rs
roles_listed n least front (role ∷ back) below order =
    let earlier = below_later least (role_rank role) front order.0 below in
    let all = below_more (role_rank role + 1) front role (omega arith) (below_later (role_rank role) (role_rank role + 1) front (omega arith) earlier) in
    rw (role_again role, with_last front role earlier)
    (roles_listed (n + 1) (role_rank role + 1) (front ++ role ∷ []) back all order.1 ∙ ap (λ (rs : List Role). as_ok rs) (append_assoc front (role ∷ []) back))
  where
    as_ok : List Role → Read (List Role)
    as_ok rs = Ok rs

named_again : (roles : List Role) → AreInOrder roles → named_roles_at (roles_tree roles) ≡ Ok roles
named_again roles order = roles_listed 0 0 [] roles tt order

-- ---- all roles

-- what is known of roles that stand in their order from the rank of this role on and have it among them: it is the first of them
record IsFirst (role : Role) (roles : List Role) : Type 0 where
  rest : List Role
  is : roles ≡ role ∷ rest
  order : AreInOrderFrom (role_rank role + 1) rest

late_roles : (n : ℕ) (roles : List Role) (role : Role) → role_rank role < n → AreInOrderFrom n roles → is_among roles role ≡ true → ⊥
late_roles n [] role h order among = cc
late_roles n (first ∷ roles) role h order among =
    let differs : (role_rank first == role_rank role) ≡ false = differ (role_rank first) (role_rank role) (omega (arith, order.0)) in
    late_roles (role_rank first + 1) roles role (omega (arith, order.0)) order.1 (rw differs at among)
  where
    differ : (a b : ℕ) → b < a → (a == b) ≡ false
    differ a b k = grind (arith, nat_tests)

first_is : (role : Role) (roles : List Role) → AreInOrderFrom (role_rank role) roles → is_among roles role ≡ true → IsFirst role roles
first_is role [] order among = absurd (let k : false ≡ true = among in cc)
first_is role (first ∷ roles) order among = by_test (role_rank first == role_rank role) refl
  where
    above : (a b : ℕ) → b ≤ a → (a == b) ≡ false → b < a + 1
    above a b h e = grind (arith, nat_tests)

    by_test : (b : Bool) → (role_rank first == role_rank role) ≡ b → IsFirst role (first ∷ roles)
    by_test true e =
        let same : first ≡ role = role_of_rank first role (eqb-true (role_rank first) (role_rank role) e) in
        record { rest = roles; is = ap (λ (r : Role). r ∷ roles) same; order = subst (λ (r : Role). AreInOrderFrom (role_rank r + 1) roles) same order.1 }
    by_test false e = absurd (late_roles (role_rank first + 1) roles role (above (role_rank first) (role_rank role) order.0 e) order.1 (rw e at among))

none_left : (roles : List Role) → AreInOrderFrom 8 roles → roles ≡ []
none_left [] order = refl
none_left (role ∷ roles) order = absurd (too_high role order.0)
  where
    too_high : (r : Role) → 8 ≤ role_rank r → ⊥
    too_high Trigger h = omega arith
    too_high KeyManager h = omega arith
    too_high RequestManager h = omega arith
    too_high Approver h = omega arith
    too_high Issuer h = omega arith
    too_high Issuing h = omega arith
    too_high Readiness h = omega arith
    too_high Revision h = omega arith

-- what is among the roles behind the first, since it is not the first
behind : (first role : Role) (roles rest : List Role) → roles ≡ first ∷ rest → (role_rank first == role_rank role) ≡ false → is_among roles role ≡ true → is_among rest role ≡ true
behind first role roles rest is differs among =
    let there : is_among (first ∷ rest) role ≡ true = subst (λ (rs : List Role). is_among rs role ≡ true) is among in
    rw differs at there

-- all are among these roles
abbrev HasEach : List Role → List Role → Type 0
HasEach roles [] = Unit {0}
HasEach roles (wanted ∷ more) = (is_among roles wanted ≡ true) × HasEach roles more

each : (roles wanted : List Role) → list_all (λ (role : Role). is_among roles role) wanted ≡ true → HasEach roles wanted
each roles [] h = tt
each roles (role ∷ wanted) h =
    let parts = and_parts (is_among roles role) (list_all (λ (r : Role). is_among roles r) wanted) h in
    (parts.0, each roles wanted parts.1)

abbrev AreOther : Role → List Role → Type 0
AreOther first [] = Unit {0}
AreOther first (role ∷ roles) = ((role_rank first == role_rank role) ≡ false) × AreOther first roles

rest_each : (first : Role) (roles rest wanted : List Role) → roles ≡ first ∷ rest → AreOther first wanted → HasEach roles wanted → HasEach rest wanted
rest_each first roles rest [] is other has = tt
rest_each first roles rest (role ∷ wanted) is other has = (behind first role roles rest is other.0 has.0, rest_each first roles rest wanted is other.1 has.1)

-- the roles from one rank on, each of which is the next
abbrev AreNext : ℕ → List Role → Type 0
AreNext n [] = n ≡ 8
AreNext n (role ∷ roles) = (n ≡ role_rank role) × (AreOther role roles × AreNext (n + 1) roles)

exactly : (n : ℕ) (wanted roles : List Role) → AreNext n wanted → AreInOrderFrom n roles → HasEach roles wanted → roles ≡ wanted
exactly n [] roles next order has = none_left roles (subst (λ (k : ℕ). AreInOrderFrom k roles) next order)
exactly n (role ∷ wanted) roles next order has =
    let first = first_is role roles (subst (λ (k : ℕ). AreInOrderFrom k roles) next.0 order) has.0 in
    let behind_it = subst (λ (k : ℕ). AreInOrderFrom (k + 1) first.rest) (sym next.0) first.order in
    first.is ∙ ap (λ (rs : List Role). role ∷ rs) (exactly (n + 1) wanted first.rest next.1.1 behind_it (rest_each role roles first.rest wanted first.is next.1.0 has.1))

all_next : AreNext 0 defaults.all_roles
all_next = (
  refl,
  (
    (refl, (refl, (refl, (refl, (refl, (refl, (refl, tt))))))),
    (
      refl,
      (
        (refl, (refl, (refl, (refl, (refl, (refl, tt)))))),
        (
          refl,
          (
            (refl, (refl, (refl, (refl, (refl, tt))))),
            (
              refl,
              (
                (refl, (refl, (refl, (refl, tt)))),
                (
                  refl,
                  (
                    (refl, (refl, (refl, tt))),
                    (
                      refl,
                      (
                        (refl, (refl, tt)),
                        (
                          refl,
                          (
                            (refl, tt),
                            (
                              refl,
                              (
                                tt,
                                refl,
                              ),
                            ),
                          ),
                        ),
                      ),
                    ),
                  ),
                ),
              ),
            ),
          ),
        ),
      ),
    ),
  ),
)

every_is : (roles : List Role) → AreInOrder roles → is_every_role roles ≡ true → roles ≡ defaults.all_roles
every_is roles order h = exactly 0 defaults.all_roles roles all_next order (each roles defaults.all_roles h)

-- ---- the member

pub roles_given : (roles : List Role) → AreInOrder roles → roles_at (some_unless (is_every_role roles) roles_tree roles) ≡ Ok roles
roles_given roles order = by_test (is_every_role roles) refl
  where
    as_ok : List Role → Read (List Role)
    as_ok rs = Ok rs

    by_test : (b : Bool) → is_every_role roles ≡ b → roles_at (some_unless b roles_tree roles) ≡ Ok roles
    by_test true e = ap (λ (rs : List Role). as_ok rs) (sym (every_is roles order e))
    by_test false e = rw (named_again roles order) refl
