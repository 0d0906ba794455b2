-- Lists of conditions in order of kind.
use Rattle.std.specs.Prelude.{ℕ, suc, ◌==◌, Bool, true, false, List, [], ◌∷◌, map, Option, Some, None, find, if◌then◌else◌}
use Rattle.std.specs.Ordering.{nat_cmp, match_ordering}
use Rattle.std.specs.List.Sorted.{IsStrictlySortedBy}
use Rattle.cmc_meta.specs.declared.conditions.ConditionKind.{ConditionKind}
use Rattle.cmc_meta.specs.declared.conditions.ConditionKind.TheVariants.{Ready, Issuing, Approved, Denied, InvalidRequest}
use Rattle.cmc_meta.specs.declared.conditions.Tri.{Tri}
use Rattle.cmc_meta.specs.declared.conditions.Tri.TheVariants.{True, False, Unknown}
use Rattle.cmc_meta.specs.declared.conditions.Condition.{Condition}

-- the place of a kind in the order of kinds
abbrev pub condition_rank : ConditionKind → ℕ
condition_rank Ready = 0
condition_rank Issuing = 1
condition_rank Approved = 2
condition_rank Denied = 3
condition_rank InvalidRequest = 4

-- in order of kind, each kind at most once
abbrev pub IsInOrder : List Condition → Type 0
IsInOrder conditions = IsStrictlySortedBy nat_cmp (map (λ c. condition_rank c.kind) conditions)

-- the condition of that kind
abbrev pub condition_at : List Condition → ConditionKind → Option Condition
condition_at conditions kind = find (λ c. condition_rank c.kind == condition_rank kind) conditions

abbrev pub tri_eq : Tri → Tri → Bool
tri_eq True True = true
tri_eq True False = false
tri_eq True Unknown = false
tri_eq False True = false
tri_eq False False = true
tri_eq False Unknown = false
tri_eq Unknown True = false
tri_eq Unknown False = false
tri_eq Unknown Unknown = true

-- the list with the new condition in its place, where an older one of its kind goes
abbrev pub renewed : List Condition → Condition → List Condition
renewed [] new = new ∷ []
renewed (c ∷ cs) new = match_ordering (nat_cmp (condition_rank new.kind) (condition_rank c.kind)) (new ∷ c ∷ cs) (new ∷ cs) (c ∷ renewed cs new)

-- the new condition, which keeps the moment of the older one where the status stays
abbrev pub kept_since : Option Condition → Condition → Condition
kept_since None new = new
kept_since (Some old) new = record new { since = if tri_eq old.status new.status then old.since else new.since }

-- the same list, where the moment of the last transition moves only with the status
unfoldable pub transitioned : List Condition → Condition → List Condition
transitioned conditions new = renewed conditions (kept_since (condition_at conditions new.kind) new)

-- where a kind stands in the list or would stand, and whether it is there
abbrev pub next_place : ℕ × Bool → ℕ × Bool
next_place p = (suc p.0, p.1)

abbrev pub place_in : List Condition → ConditionKind → ℕ × Bool
place_in [] kind = (0, false)
place_in (c ∷ cs) kind = match_ordering (nat_cmp (condition_rank kind) (condition_rank c.kind)) (0, false) (0, true) (next_place (place_in cs kind))
