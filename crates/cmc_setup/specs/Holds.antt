-- Which informers the steps of a script hold.
use Rattle.std.specs.Prelude.{◌≡◌, ◌==◌, ◌&&◌, Bool, true, false, not, if◌then◌else◌, List, [], ◌∷◌, Some, None}
use Rattle.std.specs.declared.option.Option.{Option}
use Rattle.cmc_meta.specs.declared.key.Kind.{Kind}
use Rattle.cmc_meta.specs.Keys.{kind_rank}
use Rattle.cmc_objects.specs.declared.role.Role.{Role}
use Rattle.cmc_objects.specs.declared.entry.Step.{Step}
use Rattle.cmc_objects.specs.declared.entry.Step.TheVariants.{Hold, Release}
use Rattle.cmc_objects.specs.Roles.{role_rank}
use Rattle.cmc_objects.specs.Informers.{has_informer}

-- which informers are held
abbrev pub Held : Type 0
Held = Kind → Role → Bool

abbrev pub none_held : Held
none_held kind role = false

-- the informer that the step holds or releases, and whether it is held then
abbrev pub grip_of : Step → Option (Kind × (Role × Bool))
grip_of (Hold role kind) = Some (kind, (role, true))
grip_of (Release role kind) = Some (kind, (role, false))
grip_of other = None

abbrev pub is_kind_and_role : Kind → Role → Kind → Role → Bool
is_kind_and_role kind role k r = (kind_rank kind == kind_rank k) && (role_rank role == role_rank r)

-- an informer that the role has and that is not held may be held, and one that is held may be released
abbrev pub may_grip : Held → Option (Kind × (Role × Bool)) → Bool
may_grip held None = true
may_grip held (Some (kind, (role, on))) = if on then has_informer role kind && not (held kind role) else held kind role

-- the informers that are held then; each stays as it is but the one that is held or released
abbrev pub held_after : Held → Option (Kind × (Role × Bool)) → Held
held_after held None k r = held k r
held_after held (Some (kind, (role, on))) k r = if is_kind_and_role kind role k r then on else held k r

-- where these informers are held at first, each step that holds one may do so when its turn comes, and so each that releases one
abbrev pub AreHeldInTurn : Held → List Step → Type 0
AreHeldInTurn held [] = Unit {0}
AreHeldInTurn held (step ∷ rest) = (may_grip held (grip_of step) ≡ true) × AreHeldInTurn (held_after held (grip_of step)) rest
