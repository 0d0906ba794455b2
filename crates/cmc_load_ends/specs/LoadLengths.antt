-- How long a plain run of a load gets.
use Rattle.std.specs.Prelude.{ℕ, ◌+◌, ◌*◌, ◌≤◌, Bool, false, List, length}
use Rattle.cmc_objects.specs.declared.entry.Who.TheVariants.{User, Pass}
use Rattle.cmc_objects.specs.declared.entry.Entry.{Entry}
use Rattle.cmc_objects.specs.declared.entry.Entry.TheVariants.{Call as Called}
use Rattle.cmc_model.specs.Replies.{is_accepted}
use Rattle.cmc_rules.specs.Scripts.{scripted}
use Rattle.cmc_run_laws.specs.Begins.{count_of}

-- an accepted write of a role, and one of a user
abbrev pub is_role_write : Entry → Bool
is_role_write (Called (Pass n) call reply) = is_accepted reply
is_role_write other = false

abbrev pub is_user_write : Entry → Bool
is_user_write (Called User call reply) = is_accepted reply
is_user_write other = false

-- Each step has one entry and one more for what it brings about. A write of a user is told to 6 informers, and
-- is something new for 6 roles, each of which may find nothing to do there. A write of a role is told to 7 informers at most, is something new
-- for 8 roles at most, and its pass has 5 entries at most.
abbrev pub most_load_entries : ℕ → ℕ → ℕ → ℕ
most_load_entries steps users roles = (steps + steps) + 18 * users + 28 * roles + 3

abbrev pub HasLinearLength : List Entry → Type 0
HasLinearLength h = length h ≤ most_load_entries (scripted h) (count_of is_user_write h) (count_of is_role_write h)
