-- What the rows are while keys are made ready that wait for a version.
use Rattle.std.proofs.Common.{◌≡◌, ◌⊎◌, ℕ, Bool, true, false, List, Option, Some, None, refl, subst}
use Rattle.std.specs.Ordering.{nat_cmp}
use Rattle.std.specs.Prelude.{if◌then◌else◌, nat_le, ◌==◌, ◌&&◌}
use Rattle.cmc_meta.specs.declared.key.Key.{Key}
use Rattle.cmc_meta.specs.declared.key.Kind.{Kind}
use Rattle.cmc_meta.specs.Keys.{key_eq, kind_rank}
use Rattle.cmc_queue.specs.declared.row.Found.TheVariants.{Unknown}
use Rattle.cmc_queue.specs.declared.row.Parked.{Parked}
use Rattle.cmc_queue.specs.declared.row.Row.{Row}
use Rattle.cmc_queue.specs.Rows.{row_in, moved, is_reached}
use Rattle.cmc_queue.specs.Queues.{is_listed, IsParked, StayAbove}
use Rattle.cmc_queue.proofs.OneRow.{come, one_row}
use Rattle.cmc_queue.proofs.Places.{late_left, other_left, AreLeft}

same_twice : (b : Bool) (kind : Kind) (to : ℕ) (row : Row) → is_reached kind to row.parked ≡ b
    → moved kind to (if b then record row { ready = true; work = Unknown; parked = None } else row) ≡ (if b then record row { ready = true; work = Unknown; parked = None } else row)
unfolding moved
same_twice true kind to row e = refl
same_twice false kind to row e = rw e refl

twice : (kind : Kind) (to : ℕ) (row : Row) → moved kind to (moved kind to row) ≡ moved kind to row
unfolding moved
twice kind to row = same_twice (is_reached kind to row.parked) kind to row refl

parked_before : (b : Bool) (kind : Kind) (to : ℕ) (row : Row) (p : Parked) → is_reached kind to row.parked ≡ b → (if b then record row { ready = true; work = Unknown; parked = None } else row).parked ≡ Some p
    → (row.parked ≡ Some p) × (((kind_rank p.kind == kind_rank kind) && nat_le p.version to) ≡ false)
parked_before true kind to row p e is = absurd (cc is)
parked_before false kind to row p e is = (is, subst (λ (o : Option Parked). is_reached kind to o ≡ false) is e)

pub still_parked : (kind : Kind) (to : ℕ) (row : Row) (p : Parked) → (moved kind to row).parked ≡ Some p → (row.parked ≡ Some p) × (((kind_rank p.kind == kind_rank kind) && nat_le p.version to) ≡ false)
unfolding moved
still_parked kind to row p is = parked_before (is_reached kind to row.parked) kind to row p refl is

pub untouched : (kind : Kind) (to : ℕ) (row : Row) → is_reached kind to row.parked ≡ false → moved kind to row ≡ row
unfolding moved
untouched kind to row e = rw e refl

-- some rows are moved, and each key that still waits for a version of the kind is still listed
pub record IsMoving (kind : Kind) (to : ℕ) (old rows : List (Key × Row)) (versions : List (ℕ × Key)) : Type 0 where
  pub each : (k : Key) → (row_in rows k ≡ row_in old k) ⊎ (row_in rows k ≡ moved kind to (row_in old k))
  pub parked : IsParked kind rows versions

above : (b : Bool) (n to : ℕ) → b ≡ true → (b && nat_le n to) ≡ false → nat_le n to ≡ false
above true n to e off = off
above false n to e off = absurd (cc e)

still_listed : (b : Bool) (kind : Kind) (to : ℕ) (key k : Key) (was is : Row) (p : Parked) (popped : ℕ) (versions left : List (ℕ × Key)) → key_eq key k ≡ b → is ≡ (if b then moved kind to was else was) → is.parked ≡ Some p
    → (kind_rank p.kind == kind_rank kind) ≡ true → nat_le popped to ≡ true → (was.parked ≡ Some p → is_listed versions p.version k ≡ true)
    → (is_listed versions p.version k ≡ true → (is_listed left p.version k ≡ true) ⊎ ((p.version ≡ popped) × (k ≡ key))) → is_listed left p.version k ≡ true
still_listed true kind to key k was is p popped versions left e row parked of_kind low listed others =
    let before = still_parked kind to was p (subst (λ (r : Row). r.parked ≡ Some p) row parked) in
    late_left nat_cmp nat_le to p.version (popped, key) k left (above (kind_rank p.kind == kind_rank kind) p.version to of_kind before.1) low (others (listed before.0))
still_listed false kind to key k was is p popped versions left e row parked of_kind low listed others = other_left key k e (others (listed (subst (λ (r : Row). r.parked ≡ Some p) row parked)))

-- one more key is taken out, and its row is moved
pub moving_on : (kind : Kind) (to : ℕ) (old rows new : List (Key × Row)) (versions left : List (ℕ × Key)) (q : ℕ × Key) → IsMoving kind to old rows versions → nat_le q.0 to ≡ true → AreLeft nat_cmp versions left q
    → ((k : Key) → row_in new k ≡ (if key_eq q.1 k then moved kind to (row_in rows k) else row_in rows k)) → IsMoving kind to old new left
moving_on kind to old rows new versions left q so low others each = record {
  each = λ k. one_row (key_eq q.1 k) (moved kind to) (twice kind to) (row_in old k) (row_in rows k) (row_in new k) (each k) (so.each k);
  parked = λ k p is of_kind.
      still_listed (key_eq q.1 k) kind to q.1 k (row_in rows k) (row_in new k) p q.0 versions left refl (each k) is of_kind low (λ was. so.parked k p was of_kind) (others p.version k);
}

not_reached : (o : Option Parked) (kind : Kind) (to : ℕ) → ((p : Parked) → o ≡ Some p → (kind_rank p.kind == kind_rank kind) ≡ true → nat_le p.version to ≡ false) → is_reached kind to o ≡ false
not_reached None kind to none = refl
not_reached (Some p) kind to none = by_kind (kind_rank p.kind == kind_rank kind) refl where
  by_kind : (b : Bool) → (kind_rank p.kind == kind_rank kind) ≡ b → (b && nat_le p.version to) ≡ false
  by_kind true e = none p refl e
  by_kind false e = refl

-- where no version that is reached is left, all rows are moved
pub moved_all : (kind : Kind) (to : ℕ) (old rows : List (Key × Row)) (versions : List (ℕ × Key)) → IsMoving kind to old rows versions → ((n : ℕ) (k : Key) → is_listed versions n k ≡ true → nat_le n to ≡ false)
    → (k : Key) → row_in rows k ≡ moved kind to (row_in old k)
moved_all kind to old rows versions so none k = come (moved kind to) (row_in old k) (row_in rows k) (untouched kind to (row_in rows k) (not_reached _ kind to (λ p is of_kind. none p.version k (so.parked k p is of_kind)))) (so.each k)

-- ---- places

-- one more key is taken out, and each place above the version stays
pub above_stay : (to : ℕ) (first versions left : List (ℕ × Key)) (q : ℕ × Key) → StayAbove to first versions → nat_le q.0 to ≡ true → AreLeft nat_cmp versions left q → StayAbove to first left
above_stay to first versions left q stay low others n k high listed = late_left nat_cmp nat_le to n q k left high low (others n k (stay n k high listed))
