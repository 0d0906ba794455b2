-- When nothing is left to do.
use Rattle.std.specs.Prelude.{◌≡◌, ◌⊎◌, ℕ, ◌≤◌, true, false, MatchBool, List, None}
use Rattle.cmc_meta.specs.declared.key.Key.{Key}
use Rattle.cmc_meta.specs.declared.key.Kind.{Kind}
use Rattle.cmc_objects.specs.declared.role.Role.{Role}
use Rattle.cmc_objects.specs.declared.entry.Entry.{Entry}
use Rattle.cmc_pass.specs.declared.pass.Act.TheVariants.{Nothing}
use Rattle.cmc_pass.specs.declared.pass.Views.{Views}
use Rattle.cmc_rules.specs.Acts.{act}
use Rattle.cmc_rules.specs.Desks.{desk}
use Rattle.cmc_model.specs.Histories.{Setting, moment, runs}
use Rattle.cmc_model.specs.Writes.{writes, last_of_kind, is_known}
use Rattle.cmc_objects.specs.Informers.{has_informer}
use Rattle.cmc_rules.specs.Positions.{position, positions}
use Rattle.cmc_rules.specs.Views.{views, present_views}
use Rattle.cmc_rules.specs.Passes.{open_pass}
use Rattle.cmc_rules.specs.Memory.{past}
use Rattle.cmc_rules.specs.Sameness.{IsDue}
use Rattle.cmc_rules.specs.Scripts.{held, has_held}

-- the role has nothing to do where it sees this
abbrev pub IsIdle : Setting → List Entry → Role → Views → Type 0
IsIdle s h role seen = act role seen (moment s h) (desk s h role seen) ≡ Nothing

-- a role of which an informer is held has nothing to do by what it sees, or may not begin
abbrev pub IsPaused : Setting → List Entry → Role → Key → Type 0
IsPaused s h role key = IsIdle s h role (views s h role key) ⊎ (IsDue (past s h role key) (views s h role key) (moment s h) (positions h role) → ⊥)

-- any other role has nothing to do by what there is to see
abbrev pub RestsOn : Setting → List Entry → Role → Key → Type 0
RestsOn s h role key = MatchBool (has_held s h role) (IsPaused s h role key) (IsIdle s h role (present_views s h role key))

-- the role was told of the last write of the kind, if it looks at the kind and its informer is not held
abbrev pub IsUpToDate : Setting → List Entry → Role → Kind → Type 0
IsUpToDate s h role kind = has_informer role kind ≡ true → held s h role kind ≡ false → last_of_kind kind (writes s h) ≤ position h role kind

-- it has nothing to do on any key that an accepted write named
abbrev pub RestsOnKnown : Setting → List Entry → Role → Type 0
RestsOnKnown s h role = (key : Key) → is_known key (writes s h) ≡ true → RestsOn s h role key

-- where the role runs, it was told of all that is not held from it, and has nothing to do
abbrev pub RestsIn : Setting → List Entry → Role → Type 0
RestsIn s h role = runs s h role ≡ true → ((kind : Kind) → IsUpToDate s h role kind) × RestsOnKnown s h role

-- No pass is open, and each role rests.
pub record IsAtRest (s : Setting) (h : List Entry) : Type 0 where
  pub closed : (pass : ℕ) → open_pass s h pass ≡ None
  pub rests : (role : Role) → RestsIn s h role
