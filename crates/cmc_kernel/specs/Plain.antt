-- The plain order: which move a run by one hand makes next. It speaks of the history alone, and not of what a step answers.
use Rattle.std.specs.Prelude.{◌≡◌, ◌⊎◌, ℕ, ◌+◌, ◌<◌, true, false, List, length, Option, Some, None}
use Rattle.std.specs.declared.cmp.Ordering.TheVariants.{Less}
use Rattle.cmc_meta.specs.declared.key.Key.{Key}
use Rattle.cmc_meta.specs.declared.key.Kind.{Kind}
use Rattle.cmc_meta.specs.Keys.{key_cmp, kind_rank}
use Rattle.cmc_objects.specs.declared.role.Role.{Role}
use Rattle.cmc_objects.specs.declared.entry.Entry.{Entry}
use Rattle.cmc_objects.specs.Roles.{role_rank}
use Rattle.cmc_rules.specs.declared.progress.OpenPass.{OpenPass}
use Rattle.cmc_model.specs.Histories.{Setting, runs, moment, incarnation}
use Rattle.cmc_model.specs.Writes.{writes, last_of_kind, is_known}
use Rattle.cmc_objects.specs.Informers.{kind_of_work, has_informer}
use Rattle.cmc_rules.specs.Positions.{position, positions}
use Rattle.cmc_rules.specs.Views.{views}
use Rattle.cmc_rules.specs.Passes.{open_pass, IsWorking}
use Rattle.cmc_rules.specs.Memory.{past}
use Rattle.cmc_rules.specs.Sameness.{IsDue}
use Rattle.cmc_rules.specs.Legality.{IsOpen}
use Rattle.cmc_rules.specs.Scripts.{scripted, step_at, held}
use Rattle.cmc_rules.specs.UserSteps.{IsReady}
use Rattle.cmc_rules.specs.Runs.{IsFinished}
use Rattle.cmc_moves.specs.Quiet.{IsQuiet}
use Rattle.cmc_moves.specs.declared.moves.Move.{Move}
use Rattle.cmc_moves.specs.declared.moves.Move.TheVariants.{Script, Deliver, Begin, Next, Give, Decide}

-- ---- the script

-- a step is left, and does not wait
pub record IsStepReady (s : Setting) (h : List Entry) : Type 0 where
  pub left : scripted h < length s.script
  pub ready : IsReady s h (step_at s.script (scripted h + 1))

-- ---- passes that go on

-- the open pass of least number
pub record IsFirstPass (s : Setting) (h : List Entry) (n : ℕ) : Type 0 where
  pub stands : IsOpen (open_pass s h n)
  pub least : (m : ℕ) → m < n → IsOpen (open_pass s h m) → ⊥

-- the number is that of the present incarnation of the pass's role
abbrev pub IsOfPresent : Setting → List Entry → ℕ → Option OpenPass → Type 0
IsOfPresent s h named None = ⊥
IsOfPresent s h named (Some p) = named ≡ incarnation s h p.role

-- ---- deliveries

-- the role runs, and can be told of an accepted write of the kind that it was not told of
pub record IsBehind (s : Setting) (h : List Entry) (role : Role) (kind : Kind) : Type 0 where
  pub running : runs s h role ≡ true
  pub informed : has_informer role kind ≡ true
  pub free : held s h role kind ≡ false
  pub behind : position h role kind < last_of_kind kind (writes s h)

-- by role, then by kind
abbrev pub IsBefore : ℕ → ℕ → ℕ → ℕ → Type 0
IsBefore r k role kind = (r < role) ⊎ ((r ≡ role) × (k < kind))

pub record IsFirstDelivery (s : Setting) (h : List Entry) (role : Role) (kind : Kind) : Type 0 where
  pub behind : IsBehind s h role kind
  pub first : (r : Role) (k : Kind) → IsBefore (role_rank r) (kind_rank k) (role_rank role) (kind_rank kind) → IsBehind s h r k → ⊥

-- ---- begins

-- a pass of the role on the key may begin: it runs, works on the key in no pass, is due, and the key is one of its work that an accepted write named
pub record MayBegin (s : Setting) (h : List Entry) (role : Role) (key : Key) : Type 0 where
  pub running : runs s h role ≡ true
  pub idle : IsWorking s h role key → ⊥
  pub due : IsDue (past s h role key) (views s h role key) (moment s h) (positions h role)
  pub work : key.kind ≡ kind_of_work role
  pub known : is_known key (writes s h) ≡ true

-- and it is worth it: the role has something to do there, or sees something new
pub record Fits (s : Setting) (h : List Entry) (role : Role) (key : Key) : Type 0 where
  pub may : MayBegin s h role key
  pub worth : IsQuiet s h role key → ⊥

pub record IsFirstBegin (s : Setting) (h : List Entry) (role : Role) (key : Key) : Type 0 where
  pub fits : Fits s h role key
  pub first : (r : Role) (k : Key) → (role_rank r < role_rank role) ⊎ ((r ≡ role) × (key_cmp k key ≡ Less)) → Fits s h r k → ⊥

-- ---- the plain move

abbrev pub HasNoScript : Setting → List Entry → Type 0
HasNoScript s h = IsStepReady s h → ⊥

abbrev pub HasNoPass : Setting → List Entry → Type 0
HasNoPass s h = (n : ℕ) → IsOpen (open_pass s h n) → ⊥

abbrev pub HasNoDelivery : Setting → List Entry → Type 0
HasNoDelivery s h = (role : Role) (kind : Kind) → IsBehind s h role kind → ⊥

-- First the next step of the script, then the least open pass, then a delivery of the newest write, then a begin. A pass that waits for a
-- value is open too: that it is given one is its next phase, and no move of its own. One hand decides as it goes on, and never apart from that.
abbrev pub IsChosen : Setting → List Entry → Move → Type 0
IsChosen s h Script = IsStepReady s h
IsChosen s h (Next n named) = HasNoScript s h × IsFirstPass s h n × IsOfPresent s h named (open_pass s h n)
IsChosen s h (Deliver role kind to) = HasNoScript s h × HasNoPass s h × IsFirstDelivery s h role kind × (to ≡ last_of_kind kind (writes s h))
IsChosen s h (Begin role key) = HasNoScript s h × HasNoPass s h × HasNoDelivery s h × IsFirstBegin s h role key
IsChosen s h (Give n named given) = ⊥
IsChosen s h (Decide n named d) = ⊥

-- the move that a run by one hand makes next, none exactly where it is finished
abbrev pub IsPlainMove : Setting → List Entry → Option Move → Type 0
IsPlainMove s h None = IsFinished s h
IsPlainMove s h (Some move) = (IsFinished s h → ⊥) × IsChosen s h move
