-- The form of a step of owner collection.
use Rattle.std.specs.Prelude.{◌≡◌, ℕ, ℤ, true, List, [], ◌∷◌, ◌+◌, ◌+ℤ◌, pos, decimal, codes, int_le, nat_lt, if◌then◌else◌, Ok, Err, Some, None}
use Rattle.std.specs.declared.option.Option.{Option}
use Rattle.std.specs.Str.{bytes_eq}
use Rattle.serde_json.specs.Data.{Data, null, boolean, number, string, array, object, Items, no_items, item}
use Rattle.cmc_cursor.specs.Members.{Read, ◌>>=◌, under, Field, fields_at, optional_at, required_at, at_end}
use Rattle.cmc_cursor.specs.Readers.{count_at, text_member}
use Rattle.cmc_codec.specs.ObjectForm as objects
use Rattle.cmc_setup.specs.Setups.{last_moment}
use Rattle.cmc_material.specs.Keys.{key_at}
use Rattle.cmc_material.specs.Lists.{member_option, bounded_at}
use Rattle.cmc_scenario.specs.Roles.{kind_at}
use Rattle.cmc_collect_form.specs.declared.script.CollectStep.{CollectStep}
use Rattle.cmc_collect_form.specs.declared.script.CollectStep.TheVariants.{Apply, Delete, Tick, Deliver, Examine, Settle}

-- The object, at the resource version that it names.
abbrev pub collect_apply_at : Data → Read CollectStep
collect_apply_at d = objects.applied_at d >>= (λ applied. Ok (Apply applied.object applied.version))

-- The member of that name, which comes next after `do`, and the members that are left.
unfoldable pub after_word : List ℕ → List Field → Read (Data × List Field)
after_word name fs = required_at (codes "do") fs >>= (λ word. required_at name word.1)

-- What was read, where no member is left.
unfoldable pub at_last : {A : Type 0} → List Field → Read A → Read A
at_last fs read = read >>= (λ x. at_end fs >>= (λ end. Ok x))

-- `apply` has an object.
unfoldable pub apply_in : List Field → Read CollectStep
apply_in fs = do
  given ← after_word (codes "object") fs
  at_last given.1 (under (codes "object") (collect_apply_at given.0))

-- `delete` has a key, and may name a version.
unfoldable pub delete_in : List Field → Read CollectStep
delete_in fs = do
  given ← after_word (codes "key") fs
  key ← under (codes "key") (key_at given.0)
  version ← optional_at (codes "version") given.1
  named ← at_last version.1 (member_option (codes "version") count_at version.0)
  Ok (Delete key named)

-- `tick` has 1 to 1,000,000,000 seconds.
unfoldable pub tick_in : List Field → Read CollectStep
tick_in fs = do
  given ← after_word (codes "seconds") fs
  seconds ← at_last given.1 (under (codes "seconds") (bounded_at 1 1000000000 given.0))
  Ok (Tick seconds)

-- `deliver` has a kind and a version.
unfoldable pub deliver_in : List Field → Read CollectStep
deliver_in fs = do
  given ← after_word (codes "kind") fs
  kind ← under (codes "kind") (kind_at given.0)
  last ← required_at (codes "to") given.1
  to ← at_last last.1 (under (codes "to") (count_at last.0))
  Ok (Deliver kind to)

-- `examine` has a key.
unfoldable pub examine_in : List Field → Read CollectStep
examine_in fs = do
  given ← after_word (codes "key") fs
  key ← at_last given.1 (under (codes "key") (key_at given.0))
  Ok (Examine key)

-- `settle` has nothing else.
unfoldable pub settle_in : List Field → Read CollectStep
settle_in fs = do
  word ← required_at (codes "do") fs
  end ← at_end word.1
  Ok Settle

-- No step has the word: it fails at `do`, unless a member before that fails.
unfoldable pub stray_in : List Field → Read CollectStep
stray_in fs = do
  word ← required_at (codes "do") fs
  Err (codes "do" ∷ [])

-- The word decides the form of the members.
abbrev pub step_in : Option (List ℕ) → List Field → Read CollectStep
step_in None fs = stray_in fs
step_in (Some word) fs = if bytes_eq word (codes "apply") then apply_in fs
    else (if bytes_eq word (codes "delete") then delete_in fs
    else (if bytes_eq word (codes "tick") then tick_in fs
    else (if bytes_eq word (codes "deliver") then deliver_in fs
    else (if bytes_eq word (codes "examine") then examine_in fs
    else (if bytes_eq word (codes "settle") then settle_in fs else stray_in fs)))))

unfoldable pub collect_step_at : Data → Read CollectStep
collect_step_at d = fields_at d >>= step_in (text_member (codes "do") d)

-- ---- the script

abbrev pub collect_step_seconds : CollectStep → ℕ
collect_step_seconds (Tick seconds) = seconds
collect_step_seconds other = 0

abbrev pub moment_after : ℤ → CollectStep → ℤ
moment_after now step = now +ℤ pos (collect_step_seconds step)

-- The seconds of each step end in time.
abbrev pub AreInTime : ℤ → List CollectStep → Type 0
AreInTime now [] = Unit {0}
AreInTime now (step ∷ steps) = (int_le (moment_after now step) last_moment ≡ true) × AreInTime (moment_after now step) steps

-- The step at place n, once it has been read: one whose seconds end past the last moment of a run fails as a whole.
abbrev pub in_time : ℕ → ℤ → CollectStep → Read CollectStep
in_time n now step = if int_le (moment_after now step) last_moment then Ok step else Err (decimal n ∷ [])

-- The step at place n of a list. A list has at most 10,000: the first one past that fails.
unfoldable pub numbered_step_at : ℕ → ℤ → Data → Read CollectStep
numbered_step_at n now d = if nat_lt n 10000 then under (decimal n) (collect_step_at d) >>= in_time n now else Err (decimal n ∷ [])

-- The steps of a list, whose places count from n, from this moment on.
abbrev pub steps_from : ℕ → ℤ → Items → Read (List CollectStep)
steps_from n now no_items = Ok []
steps_from n now (item d ds) = numbered_step_at n now d >>= (λ s. steps_from (n + 1) (moment_after now s) ds >>= (λ ss. Ok (s ∷ ss)))

abbrev pub steps_at : ℤ → Data → Read (List CollectStep)
steps_at now (array ds) = steps_from 0 now ds
steps_at now null = Err []
steps_at now (boolean b) = Err []
steps_at now (number n) = Err []
steps_at now (string s) = Err []
steps_at now (object ms) = Err []

-- No script is one without steps.
abbrev pub script_at : ℤ → Option Data → Read (List CollectStep)
script_at now None = Ok []
script_at now (Some d) = under (codes "script") (steps_at now d)
