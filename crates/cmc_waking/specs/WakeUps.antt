-- No wake-up is lost: what a work queue keeps of each key of its role.
use Rattle.std.specs.Prelude.{◌≡◌, ◌⊎◌, ◌↔◌, ◌<◌, ◌≤◌, ℤ, IsTrue, IsSomeAnd, Bool, true, false, List, Option, Some, None, int_le}
use Rattle.cmc_meta.specs.declared.key.Key.{Key}
use Rattle.cmc_objects.specs.declared.entry.Entry.{Entry}
use Rattle.cmc_objects.specs.declared.entry.Positions.{Positions}
use Rattle.cmc_objects.specs.declared.orders.Rules.{Rules}
use Rattle.cmc_objects.specs.declared.role.Role.{Role}
use Rattle.cmc_objects.specs.Informers.{kind_of_work}
use Rattle.cmc_queue.specs.declared.row.Found.{Found}
use Rattle.cmc_queue.specs.declared.row.Found.TheVariants as found
use Rattle.cmc_queue.specs.declared.row.Parked.{Parked}
use Rattle.cmc_queue.specs.declared.row.Row.{Row}
use Rattle.cmc_queue.specs.Rows.{no_row}
use Rattle.cmc_pass.specs.declared.pass.Act.TheVariants.{Nothing}
use Rattle.cmc_pass.specs.declared.pass.Desk.{Desk}
use Rattle.cmc_pass.specs.declared.pass.Views.{Views}
use Rattle.cmc_model.specs.Histories.{Setting, moment, runs}
use Rattle.cmc_rules.specs.declared.progress.Obstacle.TheVariants.{Failure, Newer}
use Rattle.cmc_rules.specs.declared.progress.Ending.{Ending}
use Rattle.cmc_rules.specs.declared.progress.Ending.TheVariants as endings
use Rattle.cmc_rules.specs.declared.progress.LastPass.{LastPass}
use Rattle.cmc_rules.specs.declared.progress.Past.{Past}
use Rattle.cmc_rules.specs.Acts.{act}
use Rattle.cmc_rules.specs.Memory.{past}
use Rattle.cmc_rules.specs.Passes.{IsWorking}
use Rattle.cmc_rules.specs.Positions.{position_of, positions}
use Rattle.cmc_rules.specs.Rest.{IsIdle}
use Rattle.cmc_rules.specs.Sameness.{IsDue}
use Rattle.cmc_rules.specs.Sound as sound
use Rattle.cmc_rules.specs.Views.{views}
use Rattle.cmc_moves.specs.Quiet.{seen_last, IsQuiet}

-- ---- what is so of a key

-- the role has nothing to do where it sees this, whatever was asked before
abbrev pub IsIdleAt : Role → Rules → Views → ℤ → Type 0
IsIdleAt role rules seen now = (desk : Desk) → desk.rules ≡ rules → act role seen now desk ≡ Nothing

-- the key is timed no later than this moment
abbrev pub IsTimedBy : Option ℤ → ℤ → Type 0
IsTimedBy timed at = IsSomeAnd timed (λ t. int_le t at ≡ true)

-- each due moment to come is that at which the key is timed, or comes after it
abbrev pub IsTimed : Role → Views → ℤ → Option ℤ → Type 0
IsTimed role seen now timed = (at : ℤ) → sound.IsDueMoment role seen at → int_le at now ≡ false → IsTimedBy timed at

-- the last pass was refused by this version
abbrev pub IsStoppedAt : Ending → Parked → Type 0
IsStoppedAt endings.Open parked = ⊥
IsStoppedAt endings.Nothing parked = ⊥
IsStoppedAt endings.Wrote parked = ⊥
IsStoppedAt (endings.Refused Failure) parked = ⊥
IsStoppedAt (endings.Refused (Newer kind version)) parked = (kind ≡ parked.kind) × (version ≡ parked.version)

-- and saw the same
abbrev pub IsStoppedFor : Option LastPass → Views → Parked → Type 0
IsStoppedFor None seen parked = ⊥
IsStoppedFor (Some last) seen parked = (last.seen ≡ seen) × IsStoppedAt last.ending parked

-- this version bars a pass: it is one of the role's own writes, or refused its last pass, which saw the same; the role is not yet told of it
pub record IsBarredBy (past : Past) (seen : Views) (at : Positions) (parked : Parked) : Type 0 where
  pub behind : position_of parked.kind at < parked.version
  pub cause : (parked.version ≤ position_of parked.kind past.own) ⊎ IsStoppedFor past.last seen parked

-- what the key waits for is one of the role's own writes, or refused its last pass, which saw the same; the role is not yet told of it
pub record IsWaiting (past : Past) (seen : Views) (at : Positions) (row : Row) : Type 0 where
  pub parked : Parked
  pub kept : row.parked ≡ Some parked
  pub behind : position_of parked.kind at < parked.version
  pub cause : (parked.version ≤ position_of parked.kind past.own) ⊎ IsStoppedFor past.last seen parked

-- left alone: there is nothing to do, nothing new to see, and the next due moment is noted
pub record IsAsleep (role : Role) (rules : Rules) (past : Past) (seen : Views) (now : ℤ) (row : Row) : Type 0 where
  pub idle : IsIdleAt role rules seen now
  pub same : seen ≡ seen_last past.last
  pub timed : IsTimed role seen now row.timed

-- a look found that a pass may begin, has nothing to do and sees something new
pub record IsNewToSee (role : Role) (rules : Rules) (past : Past) (seen : Views) (now : ℤ) (at : Positions) (row : Row) : Type 0 where
  pub idle : IsIdleAt role rules seen now
  pub new : seen ≡ seen_last past.last → ⊥
  pub due : IsDue past seen now at
  pub timed : IsTimed role seen now row.timed

-- a look found that a pass may begin, and has something to do
pub record IsBusy (role : Role) (rules : Rules) (past : Past) (seen : Views) (now : ℤ) (at : Positions) : Type 0 where
  pub busy : IsIdleAt role rules seen now → ⊥
  pub due : IsDue past seen now at

-- nothing has changed since the pass began: the role sees what the pass saw, the next due moment of that is noted, and none has come since
pub record IsUnchanged (role : Role) (past : Past) (seen : Views) (now : ℤ) (row : Row) : Type 0 where
  pub last : LastPass
  pub is : past.last ≡ Some last
  pub later : int_le last.since now ≡ true
  pub same : seen ≡ last.seen
  pub timed : IsTimed role seen now row.timed
  pub calm : sound.HasNoDueMoment role seen last.since now

-- during a pass: what changes makes the key ready, and it is looked at after the pass alone
pub record IsNoted (role : Role) (past : Past) (seen : Views) (now : ℤ) (row : Row) : Type 0 where
  pub unknown : row.work ≡ found.Unknown
  pub unchanged : row.ready ≡ false → IsUnchanged role past seen now row

-- ---- what a row says

abbrev pub IsLooked : Found → Role → Rules → Past → Views → ℤ → Positions → Row → Type 0
IsLooked found.Unknown role rules past seen now at row = Unit {0}
IsLooked found.Nothing role rules past seen now at row = IsNewToSee role rules past seen now at row
IsLooked found.Something role rules past seen now at row = IsBusy role rules past seen now at

abbrev pub IsLookedOrWaiting : Bool → Role → Rules → Past → Views → ℤ → Positions → Row → Type 0
IsLookedOrWaiting true role rules past seen now at row = IsLooked row.work role rules past seen now at row
IsLookedOrWaiting false role rules past seen now at row = IsAsleep role rules past seen now row ⊎ IsWaiting past seen at row

abbrev pub IsRowKept : Bool → Role → Rules → Past → Views → ℤ → Positions → Row → Type 0
IsRowKept true role rules past seen now at row = IsNoted role past seen now row
IsRowKept false role rules past seen now at row = IsLookedOrWaiting row.ready role rules past seen now at row

-- the row of a key of the role's work: whether the key is in process, and where the role runs what the row says
pub record IsTendedRow (s : Setting) (h : List Entry) (role : Role) (key : Key) (row : Row) : Type 0 where
  pub working : IsTrue row.working ↔ IsWorking s h role key
  pub kept : runs s h role ≡ true → IsRowKept row.working role s.rules (past s h role key) (views s h role key) (moment s h) (positions h role) row

unfoldable pub IsTended : Setting → List Entry → Role → Key → Row → Type 0
IsTended s h role key row = IsTendedRow s h role key row

-- the rows of the role's queue
pub record AreTended (s : Setting) (h : List Entry) (role : Role) (row : Key → Row) : Type 0 where
  pub tended : (key : Key) → key.kind ≡ kind_of_work role → IsTended s h role key (row key)
  -- no other key has one
  pub others : (key : Key) → (key.kind ≡ kind_of_work role → ⊥) → row key ≡ no_row

-- ---- the promise

-- The role may not begin on the key before it is told of the version that the key waits for: not at this moment, and at no other.
pub record WaitsForVersion (s : Setting) (h : List Entry) (role : Role) (key : Key) (row : Row) : Type 0 where
  pub until : IsSomeAnd row.parked (λ parked. position_of parked.kind (positions h role) < parked.version)
  pub undue : (now : ℤ) → IsDue (past s h role key) (views s h role key) now (positions h role) → ⊥

-- the key is ready, in process, or held back
abbrev pub IsCovered : Setting → List Entry → Role → Key → Row → Type 0
IsCovered s h role key row = (row.ready ≡ true) ⊎ ((row.working ≡ true) ⊎ WaitsForVersion s h role key row)

pub record LosesNoWakeUp (s : Setting) (h : List Entry) (role : Role) (row : Key → Row) : Type 0 where
  -- where the role has something to do, the key is covered
  pub work : (key : Key) → key.kind ≡ kind_of_work role → (IsIdle s h role (views s h role key) → ⊥) → IsCovered s h role key (row key)
  -- where it sees what it did not see as it last began there, too
  pub news : (key : Key) → key.kind ≡ kind_of_work role → (views s h role key ≡ seen_last (past s h role key).last → ⊥) → IsCovered s h role key (row key)
  -- where a moment to come may give it something to do, the key is covered or timed no later
  pub due : (key : Key) (at : ℤ) → key.kind ≡ kind_of_work role → sound.IsDueMoment role (views s h role key) at → int_le at (moment s h) ≡ false
      → IsCovered s h role key (row key) ⊎ IsTimedBy (row key).timed at

-- ---- what searches find

-- a pass on the key, which is in none, may begin now
abbrev pub IsDueNow : Setting → List Entry → Role → Key → Type 0
IsDueNow s h role key = IsDue (past s h role key) (views s h role key) (moment s h) (positions h role)

pub record IsSearched (s : Setting) (h : List Entry) (role : Role) (key : Key) (row : Row) : Type 0 where
  -- a key on which a pass that is worth one may begin is ready
  pub ready : row.working ≡ false → IsDueNow s h role key → (IsQuiet s h role key → ⊥) → row.ready ≡ true
  -- a key that is not ready is quiet, where a pass may begin
  pub quiet : row.working ≡ false → row.ready ≡ false → IsDueNow s h role key → IsQuiet s h role key
  -- on a ready key of which a look found that there is nothing to do, a pass may begin, and sees something new
  pub nothing : row.working ≡ false → row.ready ≡ true → row.work ≡ found.Nothing → IsDueNow s h role key × IsIdle s h role (views s h role key) × (views s h role key ≡ seen_last (past s h role key).last → ⊥)
  -- on one of which it found that there is something to do, a pass may begin, and has something to do
  pub something : row.working ≡ false → row.ready ≡ true → row.work ≡ found.Something → IsDueNow s h role key × (IsIdle s h role (views s h role key) → ⊥)
  -- where each ready key was found to have nothing to do, and what there is to do may be begun, there is nothing to do
  pub rest : row.working ≡ false → (row.ready ≡ true → row.work ≡ found.Nothing) → ((IsIdle s h role (views s h role key) → ⊥) → IsDueNow s h role key) → IsIdle s h role (views s h role key)
