-- A history is the list of its entries, the newest first: what stood before an entry is the list below it.
use Rattle.std.specs.Prelude.{ℕ, ℤ, ◌+◌, ◌==◌, Bool, true, false, List, [], ◌∷◌, if◌then◌else◌}
use Rattle.std.specs.List.{list_any}
use Rattle.cmc_meta.specs.declared.key.Key.{Key}
use Rattle.cmc_objects.specs.declared.orders.Rules.{Rules}
use Rattle.cmc_objects.specs.declared.rows.Rows.{Rows}
use Rattle.cmc_objects.specs.declared.role.Role.{Role}
use Rattle.cmc_objects.specs.declared.entry.Step.{Step}
use Rattle.cmc_objects.specs.declared.entry.Entry.{Entry}
use Rattle.cmc_objects.specs.declared.entry.Entry.TheVariants.{Call as Called, Stop, Start, Tick}
use Rattle.cmc_objects.specs.Roles.{role_rank}
use Rattle.cmc_model.specs.Objects.{Objects}
use Rattle.cmc_model.specs.Replies.{State, empty_store, state_after}

-- what a scenario gives a run to begin with
pub record Setting : Type 0 where
  -- the moment of the beginning, in seconds since 1970-01-01T00:00:00Z
  pub now : ℤ
  -- the numbers of the store calls that fail
  pub faults : List ℕ
  pub script : List Step
  -- the roles that run from the beginning on
  pub roles : List Role
  -- over how many accepted writes a watch reaches back
  pub window : ℕ
  -- the most entries that a history may have
  pub events : ℕ
  -- what the scenario says of keys and issuers, and what its approver lets pass
  pub material : List (Key × Rows)
  pub rules : Rules

abbrev pub moment_with : ℤ → Entry → ℤ
moment_with before (Tick now) = now
moment_with before other = before

-- the present moment: that of the last tick, or that of the beginning
abbrev pub moment : Setting → List Entry → ℤ
moment s [] = s.now
moment s (e ∷ h) = moment_with (moment s h) e

abbrev pub state_with : ℤ → State → Entry → State
state_with moment state (Called who call reply) = state_after moment state call reply
state_with moment state other = state

-- what the store has come to
abbrev pub state : Setting → List Entry → State
state s [] = empty_store
state s (e ∷ h) = state_with (moment s h) (state s h) e

-- the objects that the accepted writes leave
abbrev pub objects : Setting → List Entry → Objects
objects s h = (state s h).objects

-- how many writes were accepted
abbrev pub accepted : Setting → List Entry → ℕ
accepted s h = (state s h).accepted

-- ---- which roles run

abbrev pub role_eq : Role → Role → Bool
role_eq a b = role_rank a == role_rank b

abbrev pub runs_with : Role → Bool → Entry → Bool
runs_with r before (Stop role) = if role_eq role r then false else before
runs_with r before (Start role at) = if role_eq role r then true else before
runs_with r before other = before

-- whether the role runs: its last stop or start is a start, or it has neither and runs from the beginning on
abbrev pub runs : Setting → List Entry → Role → Bool
runs s [] r = list_any (λ role. role_eq role r) s.roles
runs s (e ∷ h) r = runs_with r (runs s h r) e

abbrev pub incarnation_with : Role → ℕ → Entry → ℕ
incarnation_with r n (Start role at) = if role_eq role r then n + 1 else n
incarnation_with r n other = n

-- how many times the role has begun: once where it runs from the beginning on, and once for each start
abbrev pub incarnation : Setting → List Entry → Role → ℕ
incarnation s [] r = if list_any (λ role. role_eq role r) s.roles then 1 else 0
incarnation s (e ∷ h) r = incarnation_with r (incarnation s h r) e
