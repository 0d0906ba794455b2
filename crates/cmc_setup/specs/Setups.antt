-- What a scenario is: all that a run is given.
use Rattle.std.specs.Prelude.{◌≡◌, ℕ, ℤ, pos, neg_ℤ, ◌+◌, ◌+ℤ◌, ◌<◌, ◌≤◌, ◌≤ℤ◌, ◌==◌, nat_lt, Bool, true, false, not, if◌then◌else◌, Some, None, List, [], ◌∷◌, length, All, sum_by}
use Rattle.std.specs.declared.option.Option.{Option}
use Rattle.std.specs.List.{list_any, list_all, filter, insert, position_or_len}
use Rattle.cmc_meta.specs.declared.key.Key.{Key}
use Rattle.cmc_objects.specs.declared.entry.Step.{Step}
use Rattle.cmc_objects.specs.declared.entry.Step.TheVariants.{Tick, Stop, Start}
use Rattle.cmc_objects.specs.declared.orders.Rules.{Rules}
use Rattle.cmc_objects.specs.declared.role.Role.{Role}
use Rattle.cmc_objects.specs.declared.rows.Rows.{Rows}
use Rattle.cmc_objects.specs.Roles.{role_rank}
use Rattle.cmc_setup.specs.Forms.{is_approver_form, is_material_form, is_step_form, is_bound_entry, is_bound_step}
use Rattle.cmc_setup.specs.Holds.{AreHeldInTurn, none_held}

-- what contracts see of a scenario
pub record Setup : Type 0 where
  -- the most entries that a history may have
  pub events : ℕ
  -- over how many accepted writes a watch reaches back
  pub window : ℕ
  -- the moment of the beginning, in seconds since 1970-01-01T00:00:00Z
  pub moment : ℤ
  -- the roles that run from the beginning on
  pub roles : List Role
  -- the numbers of the store calls that fail
  pub faults : List ℕ
  -- what the approver lets pass
  pub approver : Rules
  -- what the scenario says of keys and issuers
  pub material : List (Key × Rows)
  pub script : List Step

-- neither what is said of keys and issuers nor a step leaves a key or an answer open
pub record LeavesNothingFree (u : Setup) : Type 0 where
  pub material : list_all is_bound_entry u.material ≡ true
  pub script : list_all is_bound_step u.script ≡ true

-- how many seconds a step lets pass
abbrev pub step_seconds : Step → ℕ
step_seconds (Tick seconds) = seconds
step_seconds other = 0

-- the step lets time pass
abbrev pub is_tick : Step → Bool
is_tick (Tick seconds) = true
is_tick other = false

-- the role that the step stops or starts, and whether it runs then
abbrev pub switch_of : Step → Option (Role × Bool)
switch_of (Stop role) = Some (role, false)
switch_of (Start role behind) = Some (role, true)
switch_of other = None

-- how many seconds all steps together let pass
abbrev pub seconds_ticked : List Step → ℕ
seconds_ticked script = sum_by step_seconds script

-- a tick has 1 to 1,000,000,000 seconds
pub record IsTickForm (step : Step) : Type 0 where
  pub least : is_tick step ≡ true → 1 ≤ step_seconds step
  pub most : step_seconds step ≤ 1000000000

-- each number is above all before it, and the first above n
abbrev pub RiseFrom : ℕ → List ℕ → Type 0
RiseFrom n [] = Unit {0}
RiseFrom n (m ∷ ms) = (n < m) × RiseFrom m ms

-- the roles come in their order, each once, from this rank on
abbrev pub AreInOrderFrom : ℕ → List Role → Type 0
AreInOrderFrom n [] = Unit {0}
AreInOrderFrom n (role ∷ roles) = (n ≤ role_rank role) × AreInOrderFrom (role_rank role + 1) roles

abbrev pub AreInOrder : List Role → Type 0
AreInOrder roles = AreInOrderFrom 0 roles

-- the role is among the roles
abbrev pub is_among : List Role → Role → Bool
is_among roles role = list_any (λ (other : Role). role_rank other == role_rank role) roles

-- how many of the roles come before the first that comes after the role
abbrev pub place_among : List Role → Role → ℕ
place_among roles role = position_or_len (λ (other : Role). nat_lt (role_rank role) (role_rank other)) roles

-- the roles with one more at its place; a role that is among them counts once
abbrev pub with_role : List Role → Role → List Role
with_role roles role = if is_among roles role then roles else insert roles (place_among roles role) role

-- the role comes after each of the roles
abbrev pub IsAfter : List Role → Role → Type 0
IsAfter roles last = All (λ (role : Role). role_rank role < role_rank last) roles

-- the roles without this one
abbrev pub without_role : List Role → Role → List Role
without_role roles role = filter (λ (other : Role). not (role_rank other == role_rank role)) roles

-- a role that runs may be stopped, and one that does not may be started
abbrev pub IsInTurn : List Role → Option (Role × Bool) → Type 0
IsInTurn running None = Unit {0}
IsInTurn running (Some (role, on)) = is_among running role ≡ not on

-- the roles that run then
abbrev pub running_after : List Role → Option (Role × Bool) → List Role
running_after running None = running
running_after running (Some (role, on)) = if on then role ∷ running else without_role running role

-- where these roles run at first, each step of the script that stops a role stops one that runs when its turn comes, and each
-- that starts one starts one that does not
abbrev pub IsOrderlyFrom : List Role → List Step → Type 0
IsOrderlyFrom running [] = Unit {0}
IsOrderlyFrom running (step ∷ rest) = IsInTurn running (switch_of step) × IsOrderlyFrom (running_after running (switch_of step)) rest

-- 1951-01-01T00:00:00Z and 9900-01-01T00:00:00Z: all moments of a run lie there
abbrev pub first_moment : ℤ
first_moment = neg_ℤ (pos 599616000)

abbrev pub last_moment : ℤ
last_moment = pos 250246627200

-- what is true of each scenario
pub record IsSetup (setup : Setup) : Type 0 where
  pub some_events : 1 ≤ setup.events
  pub most_events : setup.events ≤ 250000
  pub some_window : 1 ≤ setup.window
  pub most_window : setup.window ≤ 250000
  pub begins : first_moment ≤ℤ setup.moment
  pub ends : (setup.moment +ℤ pos (seconds_ticked setup.script)) ≤ℤ last_moment
  pub short : length setup.script ≤ 10000
  pub ticks : All IsTickForm setup.script
  pub faults : RiseFrom 0 setup.faults
  pub roles : AreInOrder setup.roles
  pub orderly : IsOrderlyFrom setup.roles setup.script
  pub held : AreHeldInTurn none_held setup.script
  pub approver : is_approver_form setup.approver ≡ true
  pub material : is_material_form setup.material ≡ true
  pub steps : list_all is_step_form setup.script ≡ true
