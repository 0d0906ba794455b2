-- What a move or a settle made, and whether the script goes on.
use Rattle.std.proofs.Common.{◌≡◌, ℕ, ℤ, ◌<◌, ◌≤◌, Bool, true, false, length, Option, Some, None, refl, sym, subst, arith}
use Rattle.std.proofs.lemmas.Bool.Decides.{nat_tests}
use Rattle.std.specs.Prelude.{if◌then◌else◌, nat_lt}
use Rattle.cmc_collect_moves.specs.declared.moves.CollectLack.{CollectLack}
use Rattle.cmc_collect_moves.specs.declared.moves.CollectMove.{CollectMove}
use Rattle.cmc_collect_moves.specs.declared.moves.Collected.{Collected}
use Rattle.cmc_collect_moves.specs.declared.moves.Collected.TheVariants.{Done, NotNow, Spent}
use Rattle.cmc_collector.specs.Moves.{LeavesCollected, answer, answer_of, lack}
use Rattle.cmc_collector.specs.Replays.{Collecting, on}
use Rattle.cmc_collector.specs.Settles.{EndsAs, Settles}
use Rattle.cmc_collect_form.specs.declared.script.CollectStep.TheVariants.{Settle}
use Rattle.cmc_collect_run.specs.Runs.{IsMoved, IsStepped, MovedWith, collect_goes_on}

abbrev IsMovedWith : Option CollectLack → Bool → ℤ → CollectMove → Collecting → Collecting → Type 0
IsMovedWith lack true now move old new = MovedWith lack now move old new
IsMovedWith lack false now move old new = (lack ≡ None) × (old.events ≤ length old.moments)

is_below : (n m : ℕ) → nat_lt n m ≡ true → n < m
is_below n m h = grind (arith, nat_tests)

is_past : (n m : ℕ) → nat_lt n m ≡ false → m ≤ n
is_past n m h = grind (arith, nat_tests)

by_room : (now : ℤ) (move : CollectMove) (old new : Collecting) (a : Collected) (b : Bool) → nat_lt (length old.moments) old.events ≡ b → a ≡ (if b then Done else Spent (length old.moments)) → LeavesCollected now move old a new
    → IsMovedWith None (collect_goes_on a) now move old new
by_room now move old new a true room is left =
    subst (λ (x : Collected). LeavesCollected now move old x new → IsMovedWith None (collect_goes_on x) now move old new) (sym is) (λ made. (is_below (length old.moments) old.events room, made)) left
by_room now move old new a false room is left =
    subst (λ (x : Collected). LeavesCollected now move old x new → IsMovedWith None (collect_goes_on x) now move old new) (sym is) (λ same. (refl, is_past (length old.moments) old.events room)) left

by_lack : (lack : Option CollectLack) (now : ℤ) (move : CollectMove) (old new : Collecting) (a : Collected) → a ≡ answer_of lack (length old.moments) old.events → LeavesCollected now move old a new
    → IsMovedWith lack (collect_goes_on a) now move old new
by_lack (Some why) now move old new a is left =
    subst (λ (x : Collected). LeavesCollected now move old x new → IsMovedWith (Some why) (collect_goes_on x) now move old new) (sym is) (λ same. same) left
by_lack None now move old new a is left = by_room now move old new a (nat_lt (length old.moments) old.events) refl is left

as_moved : (b : Bool) (now : ℤ) (move : CollectMove) (old new : Collecting) → IsMovedWith (on (lack move) old) b now move old new → IsMoved b now move old new
as_moved true now move old new h = h
as_moved false now move old new h = h

-- a move that was answered so
pub moved : (now : ℤ) (move : CollectMove) (old new : Collecting) (a : Collected) → a ≡ on (answer move) old → LeavesCollected now move old a new → IsMoved (collect_goes_on a) now move old new
moved now move old new a is left = as_moved (collect_goes_on a) now move old new (by_lack (on (lack move) old) now move old new a is left)

-- a settle that ended so
pub settled : (now : ℤ) (old new : Collecting) (end : Collected) → new ≡ record old { moments = new.moments } → on (Settles now) old new.moments → on EndsAs new end → IsStepped (collect_goes_on end) now Settle old new
settled now old new Done same settles ends = ((same, settles), ends)
settled now old new (NotNow why) same settles ends = absurd ends
settled now old new (Spent entries) same settles ends = (new, (same, settles), ends.2, ends.1)
