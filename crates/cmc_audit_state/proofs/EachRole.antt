-- The standings of roles, in the order of roles.
use Rattle.std.proofs.Common.{◌≡◌, [], ◌∷◌, refl}
use Rattle.cmc_objects.specs.declared.role.Role.{Role}
use Rattle.cmc_objects.specs.declared.role.Role.TheVariants.{Trigger, KeyManager, RequestManager, Approver, Issuer, Issuing, Readiness, Revision}
use Rattle.cmc_audit_state.specs.declared.standings.Standing.{Standing}
use Rattle.cmc_audit_state.specs.Standings.{standing_of}

-- each of eight standings is that of its role
pub standing_of_each : (f : Role → Standing) (r : Role) → standing_of (f Trigger ∷ f KeyManager ∷ f RequestManager ∷ f Approver ∷ f Issuer ∷ f Issuing ∷ f Readiness ∷ f Revision ∷ []) r ≡ f r
unfolding standing_of
standing_of_each f Trigger = refl
standing_of_each f other = refl
