-- What a look at a key finds.
use Rattle.std.specs.Prelude.{◌≡◌, ℤ, List, Option}
use Rattle.cmc_meta.specs.declared.key.Key.{Key}
use Rattle.cmc_objects.specs.declared.role.Role.{Role}
use Rattle.cmc_objects.specs.declared.entry.Entry.{Entry}
use Rattle.cmc_model.specs.Histories.{Setting, moment}
use Rattle.cmc_rules.specs.Memory.{past}
use Rattle.cmc_rules.specs.Positions.{positions}
use Rattle.cmc_rules.specs.Rest.{IsIdle}
use Rattle.cmc_rules.specs.Views.{views}
use Rattle.cmc_moves.specs.Quiet.{seen_last, IsQuiet}
use Rattle.cmc_waking.specs.WakeUps.{IsBarredBy, IsDueNow, IsTimed}
use Rattle.cmc_world.specs.KeptLooks.{IsCurrent, IsMine}
use Rattle.cmc_world.specs.declared.looks.Look.{Look}
use Rattle.cmc_world.specs.declared.looks.Look.TheVariants.{Busy, Idle, Quiet, Held}
use Rattle.cmc_world.specs.declared.openings.Opening.{Opening}
use Rattle.cmc_world.specs.Searches.{IsWork}

-- this pass may begin, has nothing to do and sees something new; the key is timed at its next due moment
pub record FindsIdle (s : Setting) (h : List Entry) (role : Role) (key : Key) (opening : Opening) (next : Option ℤ) : Type 0 where
  pub mine : IsMine role key opening
  pub found : IsCurrent s h opening
  pub idle : IsIdle s h role (views s h role key)
  pub new : views s h role key ≡ seen_last (past s h role key).last → ⊥
  pub due : IsDueNow s h role key
  pub timed : IsTimed role (views s h role key) (moment s h) next

-- there is nothing to do and nothing new to see; the key is timed at its next due moment
pub record FindsQuiet (s : Setting) (h : List Entry) (role : Role) (key : Key) (next : Option ℤ) : Type 0 where
  pub quiet : IsQuiet s h role key
  pub timed : IsTimed role (views s h role key) (moment s h) next

abbrev pub IsLook : Setting → List Entry → Role → Key → Look → Type 0
IsLook s h role key (Busy opening) = IsWork s h role key opening
IsLook s h role key (Idle opening next) = FindsIdle s h role key opening next
IsLook s h role key (Quiet next) = FindsQuiet s h role key next
IsLook s h role key (Held parked) = IsBarredBy (past s h role key) (views s h role key) (positions h role) parked
