-- What one role remembers is changed in its row, and no other row.
use Rattle.std.proofs.Common.{◌≡◌, ℕ, ◌<◌, ◌≢◌, List, [], ◌∷◌, length, get_or, set, Bool, true, false, refl, sym, ap, ◌∙◌, arith, get_or-set_same, get_or-set_other}
use Rattle.std.proofs.lemmas.Bool.Decides.{nat_tests}
use Rattle.std.proofs.lemmas.List.{get_or_read}
use Rattle.std.specs.Prelude.{if◌then◌else◌, ◌&&◌}
use Rattle.cmc_meta.specs.declared.key.Key.{Key}
use Rattle.cmc_meta.specs.Keys.{key_eq}
use Rattle.cmc_objects.specs.declared.role.Role.{Role}
use Rattle.cmc_objects.specs.declared.role.Role.TheVariants.{Trigger, KeyManager, RequestManager, Approver, Issuer, Issuing, Readiness, Revision}
use Rattle.cmc_objects.specs.Roles.{role_rank}
use Rattle.cmc_objects.proofs.Ranks.{rank_low}
use Rattle.cmc_rules.specs.declared.progress.Past.{Past}
use Rattle.cmc_model.specs.Histories.{role_eq}
use Rattle.cmc_rules.specs.Memory.{no_past}
use Rattle.cmc_held.specs.Remembered.{PastRows, KeepsNoted, KeepsReady, KeepsReadyOfOthers, memory_at, past_at, is_noted, has_past_row}

-- the row of the role, by its place
pub record IsRow (rows : List PastRows) (place : ℕ) (role : Role) (row : PastRows) : Type 0 where
  pub ranked : place ≡ role_rank role
  pub within : place < length rows
  pub stands : row ≡ get_or rows place []

pub row_here : (rows : List PastRows) (place : ℕ) (role : Role) (row : PastRows) → length rows ≡ 8 → place ≡ role_rank role → row ≡ get_or rows place row → IsRow rows place role row
row_here rows place role row eight ranked read =
    let low : role_rank role < 8 = rank_low role in
    let within : place < length rows = omega arith in
    record { ranked = ranked; within = within; stands = get_or_read rows place row within read [] }

pub past_in_row : (rows : List PastRows) (place : ℕ) (role : Role) (row : PastRows) (key : Key) → IsRow rows place role row → past_at rows role key ≡ memory_at row key
unfolding past_at
past_in_row rows place role row key is = ap (λ (j : ℕ). memory_at (get_or rows j []) key) (sym is.ranked) ∙ ap (λ (m : PastRows). memory_at m key) (sym is.stands)

pub ready_in_row : (rows : List PastRows) (place : ℕ) (role : Role) (row : PastRows) (key : Key) → IsRow rows place role row → has_past_row rows role key ≡ is_noted row key
unfolding has_past_row
ready_in_row rows place role row key is = ap (λ (j : ℕ). is_noted (get_or rows j []) key) (sym is.ranked) ∙ ap (λ (m : PastRows). is_noted m key) (sym is.stands)

pub ready_in_new : (rows : List PastRows) (place : ℕ) (role : Role) (row new : PastRows) (key : Key) → IsRow rows place role row → has_past_row (set rows place new) role key ≡ is_noted new key
unfolding has_past_row
ready_in_new rows place role row new key is = ap (λ (j : ℕ). is_noted (get_or (set rows place new) j []) key) (sym is.ranked) ∙ ap (λ (m : PastRows). is_noted m key) (get_or-set_same rows place new [] is.within)

at_row : (b : Bool) (rows : List PastRows) (place : ℕ) (role r : Role) (row new : PastRows) (k : Key) → role_eq role r ≡ b → IsRow rows place role row → past_at (set rows place new) r k ≡ (if b then memory_at new k else past_at rows r k)
unfolding past_at
at_row true rows place role r row new k e is =
    let ranked : place ≡ role_rank role = is.ranked in
    let same : role_rank r ≡ place = grind (arith, nat_tests) in
    ap (λ (j : ℕ). memory_at (get_or (set rows place new) j []) k) same ∙ ap (λ (m : PastRows). memory_at m k) (get_or-set_same rows place new [] is.within)
at_row false rows place role r row new k e is =
    let ranked : place ≡ role_rank role = is.ranked in
    let other : role_rank r ≢ place = grind (arith, nat_tests) in
    ap (λ (m : PastRows). memory_at m k) (get_or-set_other rows place (role_rank r) new [] other)

was_row : (rows : List PastRows) (place : ℕ) (role r : Role) (row : PastRows) (k : Key) → role_eq role r ≡ true → IsRow rows place role row → past_at rows r k ≡ memory_at row k
unfolding past_at
was_row rows place role r row k e is =
    let ranked : place ≡ role_rank role = is.ranked in
    let same : role_rank r ≡ place = grind (arith, nat_tests) in
    ap (λ (j : ℕ). memory_at (get_or rows j []) k) same ∙ ap (λ (m : PastRows). memory_at m k) (sym is.stands)

changed : (b : Bool) (f : Past → Past) (rows : List PastRows) (place : ℕ) (role r : Role) (row new : PastRows) (key k : Key) → role_eq role r ≡ b → IsRow rows place role row
    → memory_at new k ≡ (if key_eq key k then f (memory_at row k) else memory_at row k) → past_at (set rows place new) r k ≡ (if b && key_eq key k then f (past_at rows r k) else past_at rows r k)
changed true f rows place role r row new key k e is at =
    at_row true rows place role r row new k e is ∙ at ∙ ap (λ (p : Past). if key_eq key k then f p else p) (sym (was_row rows place role r row k e is))
changed false f rows place role r row new key k e is at = at_row false rows place role r row new k e is

-- the row is changed at one key
pub past_changed : (f : Past → Past) (rows : List PastRows) (place : ℕ) (role : Role) (row new : PastRows) (key : Key) → IsRow rows place role row
    → ((k : Key) → memory_at new k ≡ (if key_eq key k then f (memory_at row k) else memory_at row k))
    → (r : Role) (k : Key) → past_at (set rows place new) r k ≡ (if role_eq role r && key_eq key k then f (past_at rows r k) else past_at rows r k)
past_changed f rows place role row new key is each r k = changed (role_eq role r) f rows place role r row new key k refl is (each k)

same : (b : Bool) (rows : List PastRows) (place : ℕ) (role r : Role) (row new : PastRows) (k : Key) → role_eq role r ≡ b → IsRow rows place role row
    → memory_at new k ≡ memory_at row k → past_at (set rows place new) r k ≡ past_at rows r k
same true rows place role r row new k e is at = at_row true rows place role r row new k e is ∙ at ∙ sym (was_row rows place role r row k e is)
same false rows place role r row new k e is at = at_row false rows place role r row new k e is

-- the row comes to say the same
pub past_same : (rows : List PastRows) (place : ℕ) (role : Role) (row new : PastRows) → IsRow rows place role row → ((k : Key) → memory_at new k ≡ memory_at row k)
    → (r : Role) (k : Key) → past_at (set rows place new) r k ≡ past_at rows r k
past_same rows place role row new is each r k = same (role_eq role r) rows place role r row new k refl is (each k)

forgotten : (b : Bool) (rows : List PastRows) (place : ℕ) (role r : Role) (row new : PastRows) (k : Key) → role_eq role r ≡ b → IsRow rows place role row
    → memory_at new k ≡ no_past → past_at (set rows place new) r k ≡ (if b then no_past else past_at rows r k)
forgotten true rows place role r row new k e is at = at_row true rows place role r row new k e is ∙ at
forgotten false rows place role r row new k e is at = at_row false rows place role r row new k e is

-- the row is emptied
pub past_forgotten : (rows : List PastRows) (place : ℕ) (role : Role) (row new : PastRows) → IsRow rows place role row → ((k : Key) → memory_at new k ≡ no_past)
    → (r : Role) (k : Key) → past_at (set rows place new) r k ≡ (if role_eq role r then no_past else past_at rows r k)
past_forgotten rows place role row new is each r k = forgotten (role_eq role r) rows place role r row new k refl is (each k)

-- eight rows that say nothing
pub rows_empty : (a b c d e f g h : PastRows) → ((k : Key) → memory_at a k ≡ no_past) → ((k : Key) → memory_at b k ≡ no_past) → ((k : Key) → memory_at c k ≡ no_past) → ((k : Key) → memory_at d k ≡ no_past)
    → ((k : Key) → memory_at e k ≡ no_past) → ((k : Key) → memory_at f k ≡ no_past) → ((k : Key) → memory_at g k ≡ no_past) → ((k : Key) → memory_at h k ≡ no_past)
    → (r : Role) (k : Key) → past_at (a ∷ b ∷ c ∷ d ∷ e ∷ f ∷ g ∷ h ∷ []) r k ≡ no_past
unfolding past_at
rows_empty a b c d e f g h p q s t u v w x Trigger k = p k
rows_empty a b c d e f g h p q s t u v w x KeyManager k = q k
rows_empty a b c d e f g h p q s t u v w x RequestManager k = s k
rows_empty a b c d e f g h p q s t u v w x Approver k = t k
rows_empty a b c d e f g h p q s t u v w x Issuer k = u k
rows_empty a b c d e f g h p q s t u v w x Issuing k = v k
rows_empty a b c d e f g h p q s t u v w x Readiness k = w k
rows_empty a b c d e f g h p q s t u v w x Revision k = x k

-- ---- room

room_in_row : (rows : List PastRows) (place : ℕ) (role r : Role) (row new : PastRows) (k : Key) → role_eq role r ≡ true → IsRow rows place role row → KeepsNoted row new
    → has_past_row rows r k ≡ true → has_past_row (set rows place new) r k ≡ true
unfolding has_past_row
room_in_row rows place role r row new k e is keeps has =
    let ranked : place ≡ role_rank role = is.ranked in
    let same : role_rank r ≡ place = grind (arith, nat_tests) in
    let was : is_noted row k ≡ true = ap (λ (m : PastRows). is_noted m k) is.stands ∙ ap (λ (j : ℕ). is_noted (get_or rows j []) k) (sym same) ∙ has in
    ap (λ (j : ℕ). is_noted (get_or (set rows place new) j []) k) same ∙ ap (λ (m : PastRows). is_noted m k) (get_or-set_same rows place new [] is.within) ∙ keeps k was

room_elsewhere : (rows : List PastRows) (place : ℕ) (role r : Role) (row new : PastRows) (k : Key) → role_eq role r ≡ false → IsRow rows place role row
    → has_past_row rows r k ≡ true → has_past_row (set rows place new) r k ≡ true
unfolding has_past_row
room_elsewhere rows place role r row new k e is has =
    let ranked : place ≡ role_rank role = is.ranked in
    let other : role_rank r ≢ place = grind (arith, nat_tests) in
    ap (λ (m : PastRows). is_noted m k) (get_or-set_other rows place (role_rank r) new [] other) ∙ has

room_either : (b : Bool) (rows : List PastRows) (place : ℕ) (role r : Role) (row new : PastRows) (k : Key) → role_eq role r ≡ b → IsRow rows place role row → KeepsNoted row new
    → has_past_row rows r k ≡ true → has_past_row (set rows place new) r k ≡ true
room_either true rows place role r row new k e is keeps has = room_in_row rows place role r row new k e is keeps has
room_either false rows place role r row new k e is keeps has = room_elsewhere rows place role r row new k e is has

-- the row loses no room
pub room_kept : (rows : List PastRows) (place : ℕ) (role : Role) (row new : PastRows) → IsRow rows place role row → KeepsNoted row new → KeepsReady rows (set rows place new)
room_kept rows place role row new is keeps r k has = room_either (role_eq role r) rows place role r row new k refl is keeps has

-- the room of the other rows, whatever becomes of the row
pub room_of_others : (rows : List PastRows) (place : ℕ) (role : Role) (row new : PastRows) → IsRow rows place role row → KeepsReadyOfOthers role rows (set rows place new)
room_of_others rows place role row new is r k e has = room_elsewhere rows place role r row new k e is has
