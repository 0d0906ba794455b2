-- Searches over the roles and the kinds in their order.
use Rattle.std.proofs.Common.{◌≡◌, ◌⊎◌, ℕ, ◌+◌, ◌<◌, Bool, true, false, List, refl, sym, subst, inl, inr, arith}
use Rattle.std.proofs.lemmas.Bool.Decides.{nat_tests}
use Rattle.std.specs.Prelude.{nat_lt, Some}
use Rattle.cmc_meta.specs.declared.key.Key.{Key}
use Rattle.std.specs.declared.cmp.Ordering.TheVariants.{Less}
use Rattle.cmc_meta.specs.Keys.{key_cmp}
use Rattle.cmc_objects.specs.Roles.{role_rank}
use Rattle.cmc_objects.specs.declared.role.Role.{Role}
use Rattle.cmc_objects.specs.declared.entry.Entry.{Entry}
use Rattle.cmc_objects.proofs.Ranks.{rank_low, role_of_rank}
use Rattle.cmc_model.specs.Histories.{Setting}
use Rattle.cmc_kernel.specs.Plain.{HasNoDelivery, Fits, IsFirstBegin}
use Rattle.cmc_world.specs.Searches.{EachBefore, HasNoneBefore, IsBehindInSome, FitsSome, FindsKey, HasNoBegin}

-- ---- roles

one_more : (P : Role → Type 0) (n : ℕ) (role r : Role) (b : Bool) → role_rank role ≡ n → (P role → ⊥) → HasNoneBefore P n → role_rank r < n + 1 → nat_lt (role_rank r) n ≡ b → P r → ⊥
one_more P n role r true is not_here before low e p = before r (grind (arith, nat_tests)) p
one_more P n role r false is not_here before low e p = not_here (subst P (role_of_rank r role (grind (arith, nat_tests))) p)

pub none_before_more : (P : Role → Type 0) (n : ℕ) (role : Role) → role_rank role ≡ n → (P role → ⊥) → HasNoneBefore P n → HasNoneBefore P (n + 1)
none_before_more P n role is not_here before r low p = one_more P n role r (nat_lt (role_rank r) n) is not_here before low refl p

pub none_at_all : (P : Role → Type 0) → HasNoneBefore P 8 → (r : Role) → P r → ⊥
none_at_all P before r p = before r (rank_low r) p

each_one_more : (P : Role → Type 0) (n : ℕ) (role r : Role) (b : Bool) → role_rank role ≡ n → P role → EachBefore P n → role_rank r < n + 1 → nat_lt (role_rank r) n ≡ b → P r
each_one_more P n role r true is here before low e = before r (grind (arith, nat_tests))
each_one_more P n role r false is here before low e = subst P (sym (role_of_rank r role (grind (arith, nat_tests)))) here

pub each_before_more : (P : Role → Type 0) (n : ℕ) (role : Role) → role_rank role ≡ n → P role → EachBefore P n → EachBefore P (n + 1)
each_before_more P n role is here before r low = each_one_more P n role r (nat_lt (role_rank r) n) is here before low refl

-- ---- deliveries

pub no_delivery : (s : Setting) (h : List Entry) → HasNoneBefore (IsBehindInSome s h) 8 → HasNoDelivery s h
no_delivery s h before role kind b = none_at_all (IsBehindInSome s h) before role (kind, b)

-- ---- begins

pub begin_found : (s : Setting) (h : List Entry) (role : Role) (key : Key) (n : ℕ) → role_rank role ≡ n → HasNoneBefore (FitsSome s h) n → FindsKey s h role (Some key) → IsFirstBegin s h role key
begin_found s h role key n is before found = record { fits = found.0; first = first } where
  first : (r : Role) (k : Key) → (role_rank r < role_rank role) ⊎ ((r ≡ role) × (key_cmp k key ≡ Less)) → Fits s h r k → ⊥
  first r k (inl low) f = before r (subst (λ (m : ℕ). role_rank r < m) is low) (k, f)
  first r k (inr same) f = found.1 k same.1 (subst (λ (x : Role). Fits s h x k) same.0 f)

pub no_begin : (s : Setting) (h : List Entry) → HasNoneBefore (FitsSome s h) 8 → HasNoBegin s h
no_begin s h before role key f = none_at_all (FitsSome s h) before role (key, f)
