-- Only one role has a rank, and each is below 8.
use Rattle.std.proofs.Common.{◌≡◌, ◌<◌, ℕ, sym, ap, ◌∙◌, refl, arith}
use Rattle.std.specs.Prelude.{◌==◌, if◌then◌else◌}
use Rattle.cmc_objects.specs.declared.role.Role.{Role}
use Rattle.cmc_objects.specs.declared.role.Role.TheVariants.{Trigger, KeyManager, RequestManager, Approver, Issuer, Issuing, Readiness, Revision}
use Rattle.cmc_objects.specs.Roles.{role_rank}

-- the role of a rank
abbrev role_at : ℕ → Role
role_at n = if n == 0 then Trigger else (if n == 1 then KeyManager else (if n == 2 then RequestManager else (if n == 3 then Approver else (if n == 4 then Issuer else (if n == 5 then Issuing else (if n == 6 then Readiness else Revision))))))

role_at-rank : (r : Role) → role_at (role_rank r) ≡ r
role_at-rank Trigger = refl
role_at-rank other = refl

pub role_of_rank : (a b : Role) → role_rank a ≡ role_rank b → a ≡ b
role_of_rank a b h = sym (role_at-rank a) ∙ ap role_at h ∙ role_at-rank b

pub rank_low : (r : Role) → role_rank r < 8
rank_low Trigger = omega arith
rank_low other = omega arith
