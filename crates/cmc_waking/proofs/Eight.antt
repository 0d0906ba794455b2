-- The queue of one role is changed in its place, and no other queue.
use Rattle.std.proofs.Common.{◌≡◌, ◌==◌, ◌+◌, ℕ, ◌<◌, ◌≤◌, ◌≢◌, List, length, get_or, set, Bool, true, false, refl, sym, ap, subst, ◌∙◌, arith, get_or-set_same, get_or-set_other}
use Rattle.std.proofs.lemmas.Bool.Decides.{Decides-eqb, nat_tests}
use Rattle.std.proofs.lemmas.List.{get_or_read}
use Rattle.cmc_meta.specs.declared.key.Key.{Key}
use Rattle.cmc_objects.specs.declared.role.Role.{Role}
use Rattle.cmc_objects.specs.Roles.{role_rank}
use Rattle.cmc_objects.proofs.Ranks.{rank_low}
use Rattle.cmc_model.specs.Histories.{role_eq}
use Rattle.cmc_queue.specs.declared.row.Row.{Row}
use Rattle.cmc_queue.specs.Queues.{row_of, ChangesRows, KeepsRoom, Work}
use Rattle.cmc_waking.specs.Queues.{no_queue, queue_in, KeepsOthers, KeepsRooms, KeepsRows}

-- the queue of the role, by its place
pub record IsQueue (queues : List Work) (place : ℕ) (role : Role) (queue : Work) : Type 0 where
  pub ranked : place ≡ role_rank role
  pub within : place < length queues
  pub stands : queue ≡ get_or queues place no_queue

pub queue_here : (queues : List Work) (place : ℕ) (role : Role) (queue : Work) → length queues ≡ 8 → place ≡ role_rank role → queue ≡ get_or queues place queue → IsQueue queues place role queue
queue_here queues place role queue eight ranked read =
    let low : role_rank role < 8 = rank_low role in
    let within : place < length queues = omega arith in
    record { ranked = ranked; within = within; stands = get_or_read queues place queue within read no_queue }

-- the queue that is read is that of the role
pub own_is : (queues : List Work) (place : ℕ) (role : Role) (queue : Work) → IsQueue queues place role queue → queue ≡ queue_in queues role
unfolding queue_in
own_is queues place role queue is = is.stands ∙ ap (λ (n : ℕ). get_or queues n no_queue) is.ranked

pub from_own : (P : Work → Type 0) (queues : List Work) (place : ℕ) (role : Role) (queue : Work) → IsQueue queues place role queue → P (queue_in queues role) → P queue
from_own P queues place role queue is holds = subst P (sym (own_is queues place role queue is)) holds

-- the one that is written is that of the role
pub put_is : (queues : List Work) (place : ℕ) (role : Role) (queue new : Work) → IsQueue queues place role queue → queue_in (set queues place new) role ≡ new
unfolding queue_in
put_is queues place role queue new is = ap (λ (n : ℕ). get_or (set queues place new) n no_queue) (sym is.ranked) ∙ get_or-set_same queues place new no_queue is.within

pub put_own : (P : Work → Work → Type 0) (queues : List Work) (place : ℕ) (role : Role) (queue new : Work) → IsQueue queues place role queue → P queue new → P (queue_in queues role) (queue_in (set queues place new) role)
put_own P queues place role queue new is holds =
    subst (λ (q : Work). P q (queue_in (set queues place new) role)) (own_is queues place role queue is) (subst (λ (q : Work). P queue q) (sym (put_is queues place role queue new is)) holds)

pub put_others : (queues : List Work) (place : ℕ) (role : Role) (queue new : Work) → IsQueue queues place role queue → KeepsOthers role queues (set queues place new)
unfolding queue_in
put_others queues place role queue new is r other =
    let ranked : place ≡ role_rank role = is.ranked in
    let apart : role_rank r ≢ place = grind (arith, nat_tests) in
    get_or-set_other queues place (role_rank r) new no_queue apart

each_by : (P : Work → Work → Type 0) (b : Bool) (queues : List Work) (place : ℕ) (role r : Role) (queue new : Work) → role_eq role r ≡ b → IsQueue queues place role queue → P queue new → ((q : Work) → P q q) → P (queue_in queues r) (queue_in (set queues place new) r)
each_by P true queues place role r queue new same is holds keeps =
    let ranked : role_rank role ≡ role_rank r = grind (arith, nat_tests) in
    put_own P queues place r queue new (record { ranked = is.ranked ∙ ranked; within = is.within; stands = is.stands }) holds
each_by P false queues place role r queue new other is holds keeps = subst (λ (q : Work). P (queue_in queues r) q) (sym (put_others queues place role queue new is r other)) (keeps (queue_in queues r))

-- what holds of the queue that is written holds of each, if it does where nothing changes
pub each_put : (P : Work → Work → Type 0) (queues : List Work) (place : ℕ) (role : Role) (queue new : Work) → IsQueue queues place role queue → P queue new → ((q : Work) → P q q) → (r : Role) → P (queue_in queues r) (queue_in (set queues place new) r)
each_put P queues place role queue new is holds keeps r = each_by P (role_eq role r) queues place role r queue new refl is holds keeps

-- where no row of the queue changes, none does
pub rows_put : (queues : List Work) (place : ℕ) (role : Role) (queue new : Work) → IsQueue queues place role queue → ((k : Key) → row_of new k ≡ row_of queue k) → KeepsRows queues (set queues place new)
rows_put queues place role queue new is same = each_put (λ q p. (k : Key) → row_of p k ≡ row_of q k) queues place role queue new is same (λ q k. refl)

pub rooms_stay : (q : Work) → KeepsRoom q q
rooms_stay q = record { rows = λ k has. has; moments = λ at k has. has; versions = λ kind version k has. has }

pub rooms_put : (queues : List Work) (place : ℕ) (role : Role) (queue new : Work) → IsQueue queues place role queue → KeepsRoom queue new → KeepsRooms queues (set queues place new)
rooms_put queues place role queue new is kept = each_put KeepsRoom queues place role queue new is kept rooms_stay

-- what holds of the one that is written holds of that of the role
pub put_new : (P : Work → Type 0) (queues : List Work) (place : ℕ) (role : Role) (queue new : Work) → IsQueue queues place role queue → P new → P (queue_in (set queues place new) role)
put_new P queues place role queue new is holds = subst P (sym (put_is queues place role queue new is)) holds

-- ---- one queue after another

-- the first so many queues have changed, and no other
pub record IsGone (f : Row → Row) (first queues : List Work) (n : ℕ) : Type 0 where
  pub done : (j : ℕ) → j < n → ChangesRows f (get_or first j no_queue) (get_or queues j no_queue)
  pub left : (j : ℕ) → n ≤ j → get_or queues j no_queue ≡ get_or first j no_queue

done_more : (b : Bool) (f : Row → Row) (first queues : List Work) (i j : ℕ) (queue new : Work) → (j == i) ≡ b → IsGone f first queues i → i < length queues → queue ≡ get_or queues i no_queue → ChangesRows f queue new → j < i + 1
    → ChangesRows f (get_or first j no_queue) (get_or (set queues i new) j no_queue)
done_more true f first queues i j queue new e gone low read changed below =
    let here : j ≡ i = (Decides-eqb j i).0 e in
    subst (λ (n : ℕ). ChangesRows f (get_or first n no_queue) (get_or (set queues i new) n no_queue)) (sym here)
    (subst (λ (q : Work). ChangesRows f q (get_or (set queues i new) i no_queue)) (read ∙ gone.left i (omega arith))
    (subst (λ (q : Work). ChangesRows f queue q) (sym (get_or-set_same queues i new no_queue low)) changed))
done_more false f first queues i j queue new e gone low read changed below =
    let other : j ≢ i = grind (arith, nat_tests) in
    let before : j < i = omega (arith, below, other) in
    subst (λ (q : Work). ChangesRows f (get_or first j no_queue) q) (sym (get_or-set_other queues i j new no_queue other)) (gone.done j before)

pub gone_on : (f : Row → Row) (first queues : List Work) (i : ℕ) (queue new : Work) → IsGone f first queues i → i < length queues → queue ≡ get_or queues i queue → ChangesRows f queue new → IsGone f first (set queues i new) (i + 1)
gone_on f first queues i queue new gone low read changed = record {
  done = λ j below. done_more (j == i) f first queues i j queue new refl gone low (get_or_read queues i queue low read no_queue) changed below;
  left = λ j from. let other : j ≢ i = omega (arith, from) in get_or-set_other queues i j new no_queue other ∙ gone.left j (omega (arith, from));
}

pub gone_all : (f : Row → Row) (first queues : List Work) (n : ℕ) → 8 ≤ n → IsGone f first queues n → (r : Role) → ChangesRows f (queue_in first r) (queue_in queues r)
unfolding queue_in
gone_all f first queues n all gone r = let low : role_rank r < 8 = rank_low r in gone.done (role_rank r) (omega (arith, low, all))
