-- How often roles write in a plain run of a load.
use Rattle.std.specs.Prelude.{◌≡◌, ◌≤◌, ◌+◌, ◌*◌, ℕ, true, List, [], ◌∷◌, length, if◌then◌else◌}
use Rattle.std.specs.BTreeMap.{is_at}
use Rattle.std.specs.List.{list_any}
use Rattle.cmc_meta.specs.declared.key.Key.{Key}
use Rattle.cmc_meta.specs.Keys.{key_cmp}
use Rattle.cmc_objects.specs.declared.entry.Entry.{Entry}
use Rattle.cmc_objects.specs.declared.entry.Entry.TheVariants.{Call as Called, Tick}
use Rattle.cmc_objects.specs.declared.entry.Who.TheVariants.{User, Pass}
use Rattle.cmc_model.specs.Histories.{Setting, objects}
use Rattle.cmc_model.specs.Objects.{Objects}
use Rattle.cmc_model.specs.Replies.{is_accepted, key_of_call, settled}
use Rattle.cmc_run_laws.specs.Begins.{count_of}
use Rattle.cmc_load_laws.specs.Frame.{seen_of}
use Rattle.cmc_load_laws.specs.LoadRuns.{LowersMeasure}
use Rattle.cmc_load_laws.specs.Totals.{total}
use Rattle.cmc_load_ends.specs.LoadLengths.{is_role_write, is_user_write}

-- each accepted write of a role lowers the measure
abbrev pub RoleWritesLower : Setting → List Entry → Type 0
RoleWritesLower s [] = Unit {0}
RoleWritesLower s (Called (Pass n) call reply ∷ h) = (is_accepted reply ≡ true → LowersMeasure s h (Called (Pass n) call reply)) × RoleWritesLower s h
RoleWritesLower s (e ∷ h) = RoleWritesLower s h

-- ---- what ticks add

abbrev pub keys_with : Key → List Key → List Key
keys_with key keys = if list_any (is_at (key_cmp key)) keys then keys else key ∷ keys

-- the keys of the Certificates that users applied, each once
abbrev pub applied_keys : List Entry → List Key
applied_keys [] = []
applied_keys (Called User call reply ∷ h) = if is_accepted reply then keys_with (key_of_call (settled call reply)) (applied_keys h) else applied_keys h
applied_keys (other ∷ h) = applied_keys h

-- how many requests the Certificates under these keys own
abbrev pub owned_requests : List Key → Objects → ℕ
owned_requests keys m = total (λ key. length (seen_of m key).requests) keys

-- at each tick 14 for each Certificate, and one for each request that it owns
abbrev pub added_by_ticks : Setting → List Entry → ℕ
added_by_ticks s [] = 0
added_by_ticks s (Tick now ∷ h) = added_by_ticks s h + (14 * length (applied_keys h) + owned_requests (applied_keys h) (objects s h))
added_by_ticks s (other ∷ h) = added_by_ticks s h

-- Roles write 14 times for each write of a user at most, and as often as ticks add.
abbrev pub HasFewRoleWrites : Setting → List Entry → Type 0
HasFewRoleWrites s h = count_of is_role_write h ≤ 14 * count_of is_user_write h + added_by_ticks s h
