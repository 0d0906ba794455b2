-- One more role behind the others, or at its place among them.
use Rattle.std.proofs.Common.{◌≡◌, ℕ, zero, suc, ◌+◌, ◌≤◌, Bool, true, false, cond, List, [], ◌∷◌, ◌++◌, length, Some, None, refl, sym, arith}
use Rattle.std.specs.Prelude.{nat_lt, ◌==◌, ◌||◌}
use Rattle.std.specs.List.{insert, position}
use Rattle.std.proofs.lemmas.List.Sums.{prefix_len-le-length}
use Rattle.std.proofs.lemmas.Bool.Decides.{nat_tests}
use Rattle.std.proofs.lemmas.Bool.{or_parts}
use Rattle.cmc_objects.specs.declared.role.Role.{Role}
use Rattle.cmc_objects.specs.Roles.{role_rank}
use Rattle.cmc_setup.specs.Setups.{AreInOrderFrom, AreInOrder, IsAfter, is_among, place_among}

in_order_from : (n : ℕ) (roles : List Role) (last : Role) → n ≤ role_rank last → IsAfter roles last → AreInOrderFrom n roles → AreInOrderFrom n (roles ++ last ∷ [])
in_order_from n [] last low after order = (low, tt)
in_order_from n (role ∷ roles) last low after order =
    (order.0, in_order_from (role_rank role + 1) roles last (omega (arith, after zero role (omega arith))) (λ k d h. after (suc k) d (omega (arith, h))) order.1)

pub in_order_with : (roles : List Role) (last : Role) → IsAfter roles last → AreInOrder roles → AreInOrder (roles ++ last ∷ [])
in_order_with roles last after order = in_order_from 0 roles last (omega arith) after order

insert_later : (first : Role) (rest : List Role) (k : ℕ) (role : Role) → insert (first ∷ rest) (1 + k) role ≡ first ∷ insert rest k role
insert_later first rest k role = let e : 1 + k ≡ suc k = omega arith in rw e refl

is_later : (a b : ℕ) → nat_lt a b ≡ false → (b == a) ≡ false → b + 1 ≤ a
is_later a b above other = grind (arith, nat_tests)

is_before : (a b : ℕ) → nat_lt a b ≡ true → a + 1 ≤ b
is_before a b below = grind (arith, nat_tests)

put_in_order : (n : ℕ) (roles : List Role) (role : Role) → n ≤ role_rank role → is_among roles role ≡ false → AreInOrderFrom n roles → AreInOrderFrom n (insert roles (place_among roles role) role)
put_in_order n [] role low new order = (low, tt)
put_in_order n (first ∷ rest) role low new order =
    let fresh = or_parts (role_rank first == role_rank role) (is_among rest role) new in
    put_next n first rest role (nat_lt (role_rank role) (role_rank first)) refl low fresh.0 order
    (λ later. put_in_order (role_rank first + 1) rest role later fresh.1 order.1)
  where
    put_next : (n : ℕ) (first : Role) (rest : List Role) (role : Role) (b : Bool) → nat_lt (role_rank role) (role_rank first) ≡ b → n ≤ role_rank role → (role_rank first == role_rank role) ≡ false → AreInOrderFrom n (first ∷ rest)
        → (role_rank first + 1 ≤ role_rank role → AreInOrderFrom (role_rank first + 1) (insert rest (place_among rest role) role))
        → AreInOrderFrom n (insert (first ∷ rest) (place_among (first ∷ rest) role) role)
    put_next n first rest role true is low other order later = rw is (low, (is_before (role_rank role) (role_rank first) is, order.1))
    put_next n first rest role false is low other order later =
        rw (is, insert_later first rest (place_among rest role) role) (order.0, later (is_later (role_rank role) (role_rank first) is other))

-- where a first place was found, and where none was
some_found : (b : Bool) (m n : ℕ) → cond b (Some n) None ≡ Some m → m ≡ n
some_found true m n is = cc
some_found false m n is = absurd (cc)

none_found : (b : Bool) (n most : ℕ) → nat_lt n most ≡ b → n ≤ most → cond b (Some n) None ≡ None → most ≡ n
none_found true n most below within is = absurd (cc)
none_found false n most below within is = grind (arith, nat_tests)

abbrev is_after : Role → Role → Bool
is_after role other = nat_lt (role_rank role) (role_rank other)

pub place_found : (roles : List Role) (role : Role) (place : ℕ) → Some place ≡ position (is_after role) roles → place ≡ place_among roles role
place_found roles role place is = some_found (nat_lt (place_among roles role) (length roles)) place (place_among roles role) (sym is)

pub no_place_found : (roles : List Role) (role : Role) → None ≡ position (is_after role) roles → length roles ≡ place_among roles role
no_place_found roles role is = none_found (nat_lt (place_among roles role) (length roles)) (place_among roles role) (length roles) refl (prefix_len-le-length _ roles) (sym is)

pub in_order_put : (roles : List Role) (role : Role) → is_among roles role ≡ false → AreInOrder roles → AreInOrder (insert roles (place_among roles role) role)
in_order_put roles role new order = put_in_order 0 roles role (omega arith) new order
