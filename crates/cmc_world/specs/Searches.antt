-- What the searches for the plain move find.
use Rattle.std.specs.Prelude.{◌≡◌, ℕ, ◌<◌, Bool, true, false, List, Option, Some, None, MatchBool}
use Rattle.std.specs.declared.cmp.Ordering.TheVariants.{Less}
use Rattle.cmc_meta.specs.declared.key.Key.{Key}
use Rattle.cmc_meta.specs.declared.key.Kind.{Kind}
use Rattle.cmc_meta.specs.declared.key.Kind.TheVariants.{Certificate, CertificateRequest, Secret}
use Rattle.cmc_meta.specs.Keys.{kind_rank, key_cmp}
use Rattle.cmc_objects.specs.Roles.{role_rank}
use Rattle.cmc_objects.specs.declared.role.Role.{Role}
use Rattle.cmc_objects.specs.declared.entry.Entry.{Entry}
use Rattle.cmc_objects.specs.declared.entry.Step.{Step}
use Rattle.cmc_rules.specs.UserSteps.{IsReady}
use Rattle.cmc_model.specs.Histories.{Setting, moment, runs}
use Rattle.cmc_model.specs.Writes.{last_of_kind, writes}
use Rattle.cmc_objects.specs.Informers.{kind_of_work}
use Rattle.cmc_moves.specs.declared.moves.Stepped.{Stepped}
use Rattle.cmc_moves.specs.declared.moves.Stepped.TheVariants.{Done, Spent}
use Rattle.cmc_rules.specs.Rest.{RestsOnKnown, IsAtRest}
use Rattle.cmc_rules.specs.Passes.{open_pass, IsWorking}
use Rattle.cmc_world.specs.declared.passes.Going.{Going}
use Rattle.cmc_world.specs.declared.deliveries.Delivery.{Delivery}
use Rattle.cmc_world.specs.declared.deliveries.Newest.{Newest}
use Rattle.cmc_world.specs.declared.begins.Beginning.{Beginning}
use Rattle.cmc_rules.specs.Rest.{IsIdle}
use Rattle.cmc_rules.specs.Views.{views}
use Rattle.cmc_rules.specs.Acts.{act}
use Rattle.cmc_rules.specs.Desks.{desk}
use Rattle.cmc_pass.specs.declared.pass.Act.{Act}
use Rattle.cmc_moves.specs.Prospects.{IsProspect}
use Rattle.cmc_moves.specs.declared.acts.Prospect.{Prospect}
use Rattle.cmc_moves.specs.declared.acts.Prospect.TheVariants.{Does, Something}
use Rattle.cmc_queue.specs.Queues.{is_above}
use Rattle.cmc_world.specs.declared.openings.Opening.{Opening}
use Rattle.cmc_world.specs.declared.pending.Pending.{Pending}
use Rattle.cmc_world.specs.declared.pending.Pending.TheVariants as pending
use Rattle.cmc_world.specs.declared.scripts.Awaits.{Awaits}
use Rattle.cmc_world.specs.declared.scripts.Awaits.TheVariants.{Nothing, Rest, Never}
use Rattle.cmc_kernel.specs.Plain.{IsBehind, IsStepReady, Fits, MayBegin, HasNoScript, HasNoPass, HasNoDelivery, IsFirstPass, IsOfPresent, IsFirstDelivery, IsFirstBegin}

-- want of room does not make a move impossible
abbrev pub is_possible : Stepped → Bool
is_possible Done = true
is_possible (Spent entries) = true
is_possible other = false

-- it is so of no role before this place
abbrev pub HasNoneBefore : (Role → Type 0) → ℕ → Type 0
HasNoneBefore P n = (r : Role) → role_rank r < n → P r → ⊥

-- ---- passes

-- the first pass that can go on, none where there is none
abbrev pub FindsPass : Setting → List Entry → Option Going → Type 0
FindsPass s h None = HasNoPass s h
FindsPass s h (Some g) = IsFirstPass s h g.pass × IsOfPresent s h g.incarnation (open_pass s h g.pass)

-- ---- deliveries

-- the newest accepted write of each kind
pub record IsNewest (s : Setting) (h : List Entry) (newest : Newest) : Type 0 where
  pub certificate : newest.certificate ≡ last_of_kind Certificate (writes s h)
  pub request : newest.request ≡ last_of_kind CertificateRequest (writes s h)
  pub secret : newest.secret ≡ last_of_kind Secret (writes s h)

-- the role is behind in some kind
abbrev pub IsBehindInSome : Setting → List Entry → Role → Type 0
IsBehindInSome s h role = (kind : Kind) × IsBehind s h role kind

-- the first kind in which the role is behind
abbrev pub FindsKind : Setting → List Entry → Role → Option Kind → Type 0
FindsKind s h role None = IsBehindInSome s h role → ⊥
FindsKind s h role (Some kind) = IsBehind s h role kind × ((k : Kind) → kind_rank k < kind_rank kind → IsBehind s h role k → ⊥)

abbrev pub FindsDelivery : Setting → List Entry → Option Delivery → Type 0
FindsDelivery s h None = HasNoDelivery s h
FindsDelivery s h (Some d) = IsFirstDelivery s h d.role d.kind

-- ---- begins

-- the key is one of the role's kind of work, and no pass of it on the key is open
pub record IsFree (s : Setting) (h : List Entry) (role : Role) (key : Key) : Type 0 where
  pub kind : key.kind ≡ kind_of_work role
  pub idle : IsWorking s h role key → ⊥

-- some key fits the role
abbrev pub FitsSome : Setting → List Entry → Role → Type 0
FitsSome s h role = (key : Key) × Fits s h role key

-- the first key of which it is so
abbrev pub FindsFirstKey : (Key → Type 0) → Option Key → Type 0
FindsFirstKey P None = (key : Key) → P key → ⊥
FindsFirstKey P (Some key) = P key × ((k : Key) → key_cmp k key ≡ Less → P k → ⊥)

-- a pass of the role on the key may begin, and the role has something to do there by what it sees
pub record HasWork (s : Setting) (h : List Entry) (role : Role) (key : Key) : Type 0 where
  pub may : MayBegin s h role key
  pub busy : IsIdle s h role (views s h role key) → ⊥

-- and the key stands above this one, if there is one
pub record HasWorkAbove (s : Setting) (h : List Entry) (role : Role) (below : Option Key) (key : Key) : Type 0 where
  pub above : is_above below key ≡ true
  pub work : HasWork s h role key

-- above what a search above the one key looks on, once it has looked at the other
abbrev pub above_looked : Option Key → Option Key → Option Key
above_looked below None = below
above_looked below (Some key) = Some key

-- a search above the one key has come to the other: there is no work in between
pub record IsReached (s : Setting) (h : List Entry) (role : Role) (below from : Option Key) : Type 0 where
  pub passed : (key : Key) → HasWorkAbove s h role below key → is_above from key ≡ true
  pub beyond : (key : Key) → is_above from key ≡ true → is_above below key ≡ true

-- an act that is none need not be kept
abbrev pub prospect : Option Act → Prospect
prospect None = Something
prospect (Some does) = Does does

-- what is known of the pass: what it sees, and its act, unless the role decides by what it sees alone
pub record IsOpening (s : Setting) (h : List Entry) (r : Role) (k : Key) (o : Opening) : Type 0 where
  pub role : o.role ≡ r
  pub key : o.key ≡ k
  pub seen : o.seen ≡ views s h r k
  pub does : IsProspect r (act r (views s h r k) (moment s h) (desk s h r (views s h r k))) (prospect o.does)

-- a pass of the role on the key may begin and has something to do, and this is known of it
pub record IsWork (s : Setting) (h : List Entry) (role : Role) (key : Key) (o : Opening) : Type 0 where
  pub work : HasWork s h role key
  pub known : IsOpening s h role key o

abbrev pub IsWorkOn : Setting → List Entry → Role → Key → Option Opening → Type 0
IsWorkOn s h role key None = HasWork s h role key → ⊥
IsWorkOn s h role key (Some o) = IsWork s h role key o

-- a pass of the role on the first key above this one on which there is work
abbrev pub FindsWork : Setting → List Entry → Role → Option Key → Option Opening → Type 0
FindsWork s h role below None = FindsFirstKey (HasWorkAbove s h role below) None
FindsWork s h role below (Some o) = FindsFirstKey (HasWorkAbove s h role below) (Some o.key) × IsWork s h role o.key o

-- the same, of which the pass is known where the key was just looked at
abbrev pub FindsPending : Setting → List Entry → Role → Option Key → Pending → Type 0
FindsPending s h role below pending.None = FindsFirstKey (HasWorkAbove s h role below) None
FindsPending s h role below (pending.Key key) = FindsFirstKey (HasWorkAbove s h role below) (Some key)
FindsPending s h role below (pending.Pass o) = FindsFirstKey (HasWorkAbove s h role below) (Some o.key) × IsWork s h role o.key o

-- the first key that fits the role
abbrev pub FindsKey : Setting → List Entry → Role → Option Key → Type 0
FindsKey s h role None = FitsSome s h role → ⊥
FindsKey s h role (Some key) = Fits s h role key × ((k : Key) → key_cmp k key ≡ Less → Fits s h role k → ⊥)

abbrev pub HasNoBegin : Setting → List Entry → Type 0
HasNoBegin s h = (role : Role) (key : Key) → Fits s h role key → ⊥

abbrev pub FindsBegin : Setting → List Entry → Option Beginning → Type 0
FindsBegin s h None = HasNoBegin s h
FindsBegin s h (Some b) = IsFirstBegin s h b.role b.key

-- ---- rest

-- the role has nothing to do on any key that an accepted write named, if it runs
abbrev pub RestsWhereRunning : Setting → List Entry → Role → Type 0
RestsWhereRunning s h role = runs s h role ≡ true → RestsOnKnown s h role

-- it is so of each role before this place
abbrev pub EachBefore : (Role → Type 0) → ℕ → Type 0
EachBefore P n = (r : Role) → role_rank r < n → P r

-- ---- all moves

-- what this step waits for
abbrev pub IsAwaitedBy : Setting → List Entry → Step → Awaits → Type 0
IsAwaitedBy s h step Nothing = IsReady s h (Some step)
IsAwaitedBy s h step Rest = (IsAtRest s h → IsReady s h (Some step)) × (IsReady s h (Some step) → IsAtRest s h)
IsAwaitedBy s h step Never = ⊥

-- what the next step of the script waits for
abbrev pub IsAwaiting : Setting → List Entry → Awaits → Type 0
IsAwaiting s h Nothing = IsStepReady s h
IsAwaiting s h Rest = (IsAtRest s h → IsStepReady s h) × (IsStepReady s h → IsAtRest s h)
IsAwaiting s h Never = HasNoScript s h

-- a step that is left is ready exactly where all is at rest
pub record IsLeft (s : Setting) (h : List Entry) (left : Bool) : Type 0 where
  pub waits : IsStepReady s h → IsAtRest s h
  pub goes : IsAtRest s h → MatchBool left (IsStepReady s h) (HasNoScript s h)
