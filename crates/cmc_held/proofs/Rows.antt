-- The rows of roles, in the order of roles.
use Rattle.std.proofs.Common.{◌≡◌, [], ◌∷◌, refl}
use Rattle.cmc_objects.specs.declared.role.Role.{Role}
use Rattle.cmc_objects.specs.declared.role.Role.TheVariants.{Trigger, KeyManager, RequestManager, Approver, Issuer, Issuing, Readiness, Revision}
use Rattle.cmc_held.specs.declared.role_states.RoleState.{RoleState}
use Rattle.cmc_held.specs.RoleStates.{role_state_of}

-- each of eight rows is that of its role
pub row_of_each : (f : Role → RoleState) (r : Role) → role_state_of (f Trigger ∷ f KeyManager ∷ f RequestManager ∷ f Approver ∷ f Issuer ∷ f Issuing ∷ f Readiness ∷ f Revision ∷ []) r ≡ f r
unfolding role_state_of
row_of_each f Trigger = refl
row_of_each f other = refl
