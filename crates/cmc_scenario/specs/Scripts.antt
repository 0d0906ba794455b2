-- The form of a script: a list of steps, each named by its member `do`.
use Rattle.std.specs.Prelude.{◌≡◌, ℕ, List, [], ◌∷◌, ◌+◌, decimal, codes, nat_lt, if◌then◌else◌, Ok, Err, Some, None}
use Rattle.std.specs.declared.option.Option.{Option}
use Rattle.std.specs.declared.result.Result.{Result}
use Rattle.std.specs.Str.{bytes_eq}
use Rattle.serde_json.specs.Data.{Data, null, boolean, number, string, array, object, Items, no_items, item}
use Rattle.cmc_meta.specs.declared.key.Key.{Key}
use Rattle.cmc_meta.specs.declared.key.Kind.{Kind}
use Rattle.cmc_objects.specs.declared.role.Role.{Role}
use Rattle.cmc_objects.specs.declared.entry.Step.{Step}
use Rattle.cmc_objects.specs.declared.entry.Step.TheVariants.{Delete, Approve, Deny, Answer, Renew, Tick, Stop, Start, Hold, Release, Until, Settle}
use Rattle.cmc_cursor.specs.declared.error.BadField.{BadField}
use Rattle.cmc_cursor.specs.declared.error.BadField.TheVariants as bad
use Rattle.cmc_cursor.specs.Members.{Read, ◌>>=◌, under, Field, fields_at, optional_at, required_at, at_end}
use Rattle.cmc_cursor.specs.Readers.{count_at, passes, text_member}
use Rattle.cmc_setup.specs.Stages.{Stage, IsStage, is_in_turn, stage_after_step}
use Rattle.cmc_setup.specs.declared.stage.Stage.{Stage as Code}
use Rattle.cmc_scenario.specs.Applied.{apply_step_at}
use Rattle.cmc_material.specs.Keys.{key_at}
use Rattle.cmc_material.specs.Lists.{member_option, bounded_at}
use Rattle.cmc_material.specs.MaterialRows.{certificate_key_at, reply_row_at}
use Rattle.cmc_scenario.specs.Roles.{role_at, kind_at}

-- `apply` has an object.
unfoldable pub apply_in : List Field → Read Step
apply_in fs = do
  word ← required_at (codes "do") fs
  given ← required_at (codes "object") word.1
  step ← under (codes "object") (apply_step_at given.0)
  end ← at_end given.1
  Ok step

-- `delete` has a key, and may name a version.
unfoldable pub delete_in : List Field → Read Step
delete_in fs = do
  word ← required_at (codes "do") fs
  given ← required_at (codes "key") word.1
  key ← under (codes "key") (key_at given.0)
  version ← optional_at (codes "version") given.1
  named ← member_option (codes "version") count_at version.0
  end ← at_end version.1
  Ok (Delete key named)

-- A Certificate: `renew` has nothing else.
unfoldable pub certificate_member_in : List Field → Read (Key × List Field)
certificate_member_in fs = do
  given ← required_at (codes "certificate") fs
  certificate ← under (codes "certificate") (certificate_key_at given.0)
  word ← required_at (codes "do") given.1
  Ok (certificate, word.1)

-- A Certificate and the revision of one of its requests: `approve` and `deny` have nothing else.
unfoldable pub revision_in : List Field → Read ((Key × ℕ) × List Field)
revision_in fs = do
  named ← certificate_member_in fs
  which ← required_at (codes "revision") named.1
  revision ← under (codes "revision") (count_at which.0)
  Ok ((named.0, revision), which.1)

unfoldable pub approve_in : List Field → Read Step
approve_in fs = do
  named ← revision_in fs
  end ← at_end named.1
  Ok (Approve named.0.0 named.0.1)

unfoldable pub deny_in : List Field → Read Step
deny_in fs = do
  named ← revision_in fs
  end ← at_end named.1
  Ok (Deny named.0.0 named.0.1)

-- `answer` also has a reply row.
unfoldable pub answer_in : List Field → Read Step
answer_in fs = do
  named ← revision_in fs
  given ← required_at (codes "row") named.1
  row ← under (codes "row") (reply_row_at given.0)
  end ← at_end given.1
  Ok (Answer named.0.0 named.0.1 row)

-- `renew` has a Certificate.
unfoldable pub renew_in : List Field → Read Step
renew_in fs = do
  named ← certificate_member_in fs
  end ← at_end named.1
  Ok (Renew named.0)

-- `tick` has 1 to 1,000,000,000 seconds.
unfoldable pub tick_in : List Field → Read Step
tick_in fs = do
  word ← required_at (codes "do") fs
  given ← required_at (codes "seconds") word.1
  seconds ← under (codes "seconds") (bounded_at 1 1000000000 given.0)
  end ← at_end given.1
  Ok (Tick seconds)

-- `stop` has a role.
unfoldable pub stop_in : List Field → Read Step
stop_in fs = do
  word ← required_at (codes "do") fs
  given ← required_at (codes "role") word.1
  role ← under (codes "role") (role_at given.0)
  end ← at_end given.1
  Ok (Stop role)

-- `start` has a role, and how far it is behind.
unfoldable pub start_in : List Field → Read Step
start_in fs = do
  lag ← required_at (codes "behind") fs
  behind ← under (codes "behind") (count_at lag.0)
  word ← required_at (codes "do") lag.1
  given ← required_at (codes "role") word.1
  role ← under (codes "role") (role_at given.0)
  end ← at_end given.1
  Ok (Start role behind)

-- A role and a kind: `hold` and `release` have nothing else.
unfoldable pub informer_in : List Field → Read ((Role × Kind) × List Field)
informer_in fs = do
  word ← required_at (codes "do") fs
  named ← required_at (codes "kind") word.1
  kind ← under (codes "kind") (kind_at named.0)
  given ← required_at (codes "role") named.1
  role ← under (codes "role") (role_at given.0)
  Ok ((role, kind), given.1)

unfoldable pub hold_in : List Field → Read Step
hold_in fs = do
  named ← informer_in fs
  end ← at_end named.1
  Ok (Hold named.0.0 named.0.1)

unfoldable pub release_in : List Field → Read Step
release_in fs = do
  named ← informer_in fs
  end ← at_end named.1
  Ok (Release named.0.0 named.0.1)

-- `until` also has a number of writes.
unfoldable pub until_in : List Field → Read Step
until_in fs = do
  named ← informer_in fs
  given ← required_at (codes "writes") named.1
  writes ← under (codes "writes") (count_at given.0)
  end ← at_end given.1
  Ok (Until named.0.0 named.0.1 writes)

-- `settle` has nothing else.
unfoldable pub settle_in : List Field → Read Step
settle_in fs = do
  word ← required_at (codes "do") fs
  end ← at_end word.1
  Ok Settle

-- No step has the word: it fails at `do`, unless a member before that fails. The members that some
-- step has before `do` may hold anything but a float.
unfoldable pub stray_in : List Field → Read Step
stray_in fs = do
  behind ← optional_at (codes "behind") fs
  first ← passes (codes "behind") behind.0
  certificate ← optional_at (codes "certificate") behind.1
  second ← passes (codes "certificate") certificate.0
  word ← required_at (codes "do") certificate.1
  Err (codes "do" ∷ [])

-- The word decides the form of the members: steps on informers and waits,
abbrev pub waiting_step_in : List ℕ → List Field → Read Step
waiting_step_in word fs = if bytes_eq word (codes "hold") then hold_in fs
    else (if bytes_eq word (codes "release") then release_in fs
    else (if bytes_eq word (codes "until") then until_in fs
    else (if bytes_eq word (codes "settle") then settle_in fs else stray_in fs)))

-- those on the time and on roles,
abbrev pub running_in : List ℕ → List Field → Read Step
running_in word fs = if bytes_eq word (codes "tick") then tick_in fs
    else (if bytes_eq word (codes "stop") then stop_in fs
    else (if bytes_eq word (codes "start") then start_in fs else waiting_step_in word fs))

-- and those on objects.
abbrev pub step_in : Option (List ℕ) → List Field → Read Step
step_in None fs = stray_in fs
step_in (Some word) fs = if bytes_eq word (codes "apply") then apply_in fs
    else (if bytes_eq word (codes "delete") then delete_in fs
    else (if bytes_eq word (codes "approve") then approve_in fs
    else (if bytes_eq word (codes "deny") then deny_in fs
    else (if bytes_eq word (codes "answer") then answer_in fs
    else (if bytes_eq word (codes "renew") then renew_in fs else running_in word fs)))))

unfoldable pub script_step_at : Data → Read Step
script_step_at d = fields_at d >>= step_in (text_member (codes "do") d)

-- The step at place n, once it has been read: one that may not be made when its turn comes fails as a whole.
abbrev pub in_turn : ℕ → Stage → Step → Read Step
in_turn n stage step = if is_in_turn stage step then Ok step else Err (decimal n ∷ [])

-- The step at place n of a list. A list has at most 10,000: the first one past that fails.
unfoldable pub numbered_step_at : ℕ → Stage → Data → Read Step
numbered_step_at n stage d = if nat_lt n 10000 then under (decimal n) (script_step_at d) >>= in_turn n stage else Err (decimal n ∷ [])

-- The steps of a list, whose places count from n, from this stage on.
abbrev pub steps_from : ℕ → Stage → Items → Read (List Step)
steps_from n stage no_items = Ok []
steps_from n stage (item d ds) = numbered_step_at n stage d >>= (λ s. steps_from (n + 1) (stage_after_step stage s) ds >>= (λ ss. Ok (s ∷ ss)))

abbrev pub steps_at : Stage → Data → Read (List Step)
steps_at stage (array ds) = steps_from 0 stage ds
steps_at stage null = Err []
steps_at stage (boolean b) = Err []
steps_at stage (number n) = Err []
steps_at stage (string s) = Err []
steps_at stage (object ms) = Err []

-- No script is one without steps.
abbrev pub script_at : Stage → Option Data → Read (List Step)
script_at stage None = Ok []
script_at stage (Some d) = under (codes "script") (steps_at stage d)

-- What was read of a step, with the stage that is kept after it.
abbrev pub GivesStep : Stage → Result (Step × Code) BadField → Read Step → Type 0
GivesStep before (Ok p) read = (read ≡ Ok p.0) × IsStage p.1 (stage_after_step before p.0)
GivesStep before (Err (bad.Path path)) read = read ≡ Err path
GivesStep before (Err bad.NoMemory) read = Unit {0}
