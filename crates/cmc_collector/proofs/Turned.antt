-- What a move left, and how settling ended.
use Rattle.std.proofs.Common.{◌≡◌, ℤ, Bool, true, false, Option, Some, refl, sym, subst}
use Rattle.std.specs.Prelude.{IsTrue, ◌↔◌}
use Rattle.cmc_meta.specs.declared.key.Key.{Key}
use Rattle.cmc_collect_moves.specs.declared.moves.CollectMove.{CollectMove}
use Rattle.cmc_collect_moves.specs.declared.moves.Collected.{Collected}
use Rattle.cmc_collect_moves.specs.declared.moves.Collected.TheVariants.{Done, NotNow, Spent}
use Rattle.cmc_collector.specs.Moves.{LeavesCollected}
use Rattle.cmc_collector.specs.Owners.{IsGoodCollect}
use Rattle.cmc_collector.specs.Replays.{Collecting, on, played, setting}
use Rattle.cmc_collector.specs.Settles.{EndsAs, IsSettled, IsTurned}
use Rattle.cmc_collector.proofs.Settled.{none_left}

pub leaves_on : (n now : ℤ) (move of : CollectMove) (old mid new : Collecting) → n ≡ now → move ≡ of → new ≡ mid → LeavesCollected n of old Done mid → LeavesCollected now move old Done new
leaves_on n now move of old mid new same is here left =
    subst (λ (m : ℤ). LeavesCollected m move old Done new) same (subst (λ (v : CollectMove). LeavesCollected n v old Done new) (sym is) (subst (λ (c : Collecting). LeavesCollected n of old Done c) (sym here) left))

pub not_done : (b : Bool) (answer : Collected) → IsTrue b ↔ (answer ≡ Done) → b ≡ false → answer ≡ Done → ⊥
not_done true answer means off is = cc off
not_done false answer means off is = let told = means.1 is in cc told

pub unmade : (now : ℤ) (move : CollectMove) (old new : Collecting) (answer : Collected) → (answer ≡ Done → ⊥) → LeavesCollected now move old answer new → new ≡ old
unmade now move old new Done off left = absurd (off refl)
unmade now move old new (NotNow why) off left = left
unmade now move old new (Spent entries) off left = left

pub turned_end : (now : ℤ) (mid new : Collecting) (r : Option Collected) (end : Collected) → r ≡ Some end → IsTurned now mid r new → end ≡ Done → (key : Key) → IsGoodCollect (setting new) (played new.moments) key → ⊥
turned_end now mid new r end is turned done key good =
    let some : IsTurned now mid (Some end) new = subst (λ (o : Option Collected). IsTurned now mid o new) is turned in
    let settled : on IsSettled mid = subst (λ (e : Collected). on EndsAs mid e) done some.1 in
    none_left (setting mid) mid.moments settled key (subst (λ (c : Collecting). IsGoodCollect (setting c) (played c.moments) key) some.0 good)
