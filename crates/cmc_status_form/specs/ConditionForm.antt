-- The form of the conditions of a status that is read. Only the members named here may stand.
use Rattle.std.specs.Prelude.{ℕ, ℤ, List, [], ◌∷◌, ◌+◌, codes, decimal, nat_le, if◌then◌else◌, Ok, Err, Some, None}
use Rattle.std.specs.declared.option.Option.{Option}
use Rattle.std.specs.Str.{bytes_eq}
use Rattle.serde_json.specs.Data.{Data, null, boolean, number, string, array, object, Items, no_items, item}
use Rattle.cmc_time.specs.TimeTexts.{rfc3339_seconds}
use Rattle.cmc_meta.specs.ConditionLists.{condition_rank}
use Rattle.cmc_meta.specs.declared.conditions.ConditionKind.{ConditionKind}
use Rattle.cmc_meta.specs.declared.conditions.ConditionKind.TheVariants.{Ready, Issuing, Approved, Denied, InvalidRequest}
use Rattle.cmc_meta.specs.declared.conditions.Tri.{Tri}
use Rattle.cmc_meta.specs.declared.conditions.Tri.TheVariants.{True, False, Unknown}
use Rattle.cmc_meta.specs.declared.conditions.Condition.{Condition}
use Rattle.cmc_cursor.specs.Members.{Read, ◌>>=◌, under, Field, fields_at, at_end}
use Rattle.cmc_cursor.specs.Readers.{found, text_at}
use Rattle.cmc_codec.specs.Given.{needed_at}

-- ---- values

-- A list that may not be empty, since an empty one is not printed.
abbrev pub non_empty_list : {A : Type 0} → List A → Read (List A)
non_empty_list [] = Err []
non_empty_list (x ∷ xs) = Ok (x ∷ xs)

-- A moment as RFC 3339 writes it in UTC, to the second.
abbrev pub moment_at : Data → Read ℤ
moment_at d = text_at d >>= (λ t. found (rfc3339_seconds t))

abbrev pub tri_named : List ℕ → Option Tri
tri_named t = if bytes_eq t (codes "True") then Some True
    else (if bytes_eq t (codes "False") then Some False
    else (if bytes_eq t (codes "Unknown") then Some Unknown else None))

unfoldable pub tri_at : Data → Read Tri
tri_at d = text_at d >>= (λ t. found (tri_named t))

abbrev pub condition_named : List ℕ → Option ConditionKind
condition_named t = if bytes_eq t (codes "Ready") then Some Ready
    else (if bytes_eq t (codes "Issuing") then Some Issuing
    else (if bytes_eq t (codes "Approved") then Some Approved
    else (if bytes_eq t (codes "Denied") then Some Denied
    else (if bytes_eq t (codes "InvalidRequest") then Some InvalidRequest else None))))

unfoldable pub condition_kind_at : Data → Read ConditionKind
condition_kind_at d = text_at d >>= (λ t. found (condition_named t))

-- ---- conditions

-- The condition of an object's members, all of which have to be there.
unfoldable pub condition_in : List Field → Read Condition
condition_in fs = do
  since ← needed_at moment_at (codes "lastTransitionTime") fs
  message ← needed_at text_at (codes "message") since.1
  reason ← needed_at text_at (codes "reason") message.1
  status ← needed_at tri_at (codes "status") reason.1
  kind ← needed_at condition_kind_at (codes "type") status.1
  end ← at_end kind.1
  Ok (record { kind = kind.0; status = status.0; reason = reason.0; message = message.0; since = since.0 })

unfoldable pub condition_read_at : Data → Read Condition
condition_read_at d = fields_at d >>= condition_in

-- The condition, where its kind has at least this place in the order of kinds.
abbrev pub from_rank : ℕ → Condition → Read Condition
from_rank least c = if nat_le least (condition_rank c.kind) then Ok c else Err []

abbrev pub ranked_at : ℕ → Data → Read Condition
ranked_at least d = condition_read_at d >>= from_rank least

-- The conditions of a list whose first item is at place n: in the order of their kinds from this place on, each kind at
-- most once.
abbrev pub conditions_from : ℕ → ℕ → Items → Read (List Condition)
conditions_from n least no_items = Ok []
conditions_from n least (item d ds) = under (decimal n) (ranked_at least d) >>= (λ c. conditions_from (n + 1) (condition_rank c.kind + 1) ds >>= (λ cs. Ok (c ∷ cs)))

-- The same of a list that may not be empty.
abbrev pub some_conditions_in : Items → Read (List Condition)
some_conditions_in ds = conditions_from 0 0 ds >>= non_empty_list

abbrev pub conditions_at : Data → Read (List Condition)
conditions_at (array ds) = some_conditions_in ds
conditions_at null = Err []
conditions_at (boolean b) = Err []
conditions_at (number n) = Err []
conditions_at (string s) = Err []
conditions_at (object ms) = Err []
