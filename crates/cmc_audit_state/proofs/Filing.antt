-- Open passes under their numbers, and the numbers by role and key.
use Rattle.std.proofs.Common.{◌≡◌, ◌==◌, ℕ, ◌+◌, ◌≤◌, List, Bool, true, false, cond, Option, Some, None, rules, refl, sym, ap, subst, ◌∙◌, arith, Equal}
use Rattle.std.proofs.lemmas.Bool.Decides.{nat_tests}
use Rattle.std.proofs.lemmas.Bool.{and_parts, and_from}
use Rattle.std.proofs.lemmas.Map.Entries.{lookup-filter-values, option_filter}
use Rattle.std.proofs.lemmas.Map.Keys.{IsDistinct-from_sorted}
use Rattle.std.specs.Prelude.{if◌then◌else◌, ◌↔◌, IfSome, IsTrue, option_map}
use Rattle.std.specs.Borrow.{Bor}
use Rattle.std.specs.Option.{option_copied}
use Rattle.std.specs.BTreeMap.{is_at}
use Rattle.std.specs.Cmp.{Equal-is, nat_cmp_total, eq_by_cmp_equiv, tied_itself}
use Rattle.std.specs.Cmp.Rules.{comparing}
use Rattle.std.specs.FinMap.{nat_cmp-IsAntisymmetric}
use Rattle.std.specs.List.{filter}
use Rattle.std.specs.List.Sorted.{IsStrictlySortedBy}
use Rattle.std.specs.Map.{keys_of, lookup}
use Rattle.std.specs.Ordering.{eq_by_cmp, is_eq, nat_cmp, ordering_then}
use Rattle.cmc_meta.specs.declared.key.Key.{Key}
use Rattle.cmc_meta.specs.Keys.{key_cmp, key_eq}
use Rattle.cmc_meta.proofs.KeyOrder.{both_tie, key_cmp-total, key_cmp-IsAntisymmetric}
use Rattle.cmc_objects.specs.declared.role.Role.{Role}
use Rattle.cmc_objects.specs.Roles.{role_rank}
use Rattle.cmc_model.specs.Histories.{role_eq}
use Rattle.cmc_audit_state.specs.declared.row.Row.{Row}
use Rattle.cmc_audit_state.specs.OpenRows.{Task, row_numbered, is_row_of, unless_role, last_number_at, AreFiled, IsFiled}

-- ---- no passes

pub filed_none : (rows : List (ℕ × Row)) (numbers : List (Task × ℕ)) → ((n : ℕ) → row_numbered rows n ≡ None) → IsFiled 0 rows numbers
unfolding IsFiled
filed_none rows numbers none = record { last = λ n row is. absurd (let e = none n in cc (e, is)); low = λ n row is. absurd (let e = none n in cc (e, is)) }

-- ---- fewer passes, or rows that keep role and key

-- each row was there, with its role and key
abbrev pub KeepsTasks : List (ℕ × Row) → List (ℕ × Row) → Type 0
KeepsTasks old new = (n : ℕ) (row : Row) → row_numbered new n ≡ Some row → (before : Row) × (row_numbered old n ≡ Some before) × (row.role ≡ before.role) × (row.key ≡ before.key)

pub filed_still : (begun : ℕ) (old new : List (ℕ × Row)) (numbers : List (Task × ℕ)) → KeepsTasks old new → IsFiled begun old numbers → IsFiled begun new numbers
unfolding IsFiled
filed_still begun old new numbers keeps is = record {
  last = λ n row at. let k = keeps n row at in ap (λ r. last_number_at numbers r row.key) k.2 ∙ ap (last_number_at numbers k.0.role) k.3 ∙ is.last n k.0 k.1;
  low = λ n row at. let k = keeps n row at in is.low n k.0 k.1;
}

-- one was closed
closed_by : (b : Bool) (x : Option Row) (row : Row) → (if b then None else x) ≡ Some row → x ≡ Some row
closed_by true x row is = absurd (cc is)
closed_by false x row is = is

pub tasks_closed : (number : ℕ) (old new : List (ℕ × Row)) → ((n : ℕ) → row_numbered new n ≡ (if n == number then None else row_numbered old n)) → KeepsTasks old new
tasks_closed number old new rows n row at = (row, closed_by (n == number) (row_numbered old n) row (sym (rows n) ∙ at), refl, refl)

-- all of a role were
stopped_by : (role : Role) (x : Option Row) (row : Row) → unless_role role x ≡ Some row → x ≡ Some row
stopped_by role None row is = is
stopped_by role (Some old) row is = closed_by (role_eq role old.role) (Some old) row is

pub tasks_stopped : (role : Role) (old new : List (ℕ × Row)) → ((n : ℕ) → row_numbered new n ≡ unless_role role (row_numbered old n)) → KeepsTasks old new
tasks_stopped role old new rows n row at = (row, stopped_by role (row_numbered old n) row (sym (rows n) ∙ at), refl, refl)

-- one was changed
abbrev pub KeepsTask : (Row → Row) → Type 0
KeepsTask f = (row : Row) → ((f row).role ≡ row.role) × ((f row).key ≡ row.key)

changed_by : (b : Bool) (f : Row → Row) (x : Option Row) (row : Row) → KeepsTask f → (if b then option_map f x else x) ≡ Some row
    → (before : Row) × (x ≡ Some before) × (row.role ≡ before.role) × (row.key ≡ before.key)
changed_by true f None row keeps is = absurd (cc is)
changed_by true f (Some old) row keeps is = let e : f old ≡ row = cc is in (old, refl, ap (λ (r : Row). r.role) (sym e) ∙ (keeps old).0, ap (λ (r : Row). r.key) (sym e) ∙ (keeps old).1)
changed_by false f x row keeps is = (row, is, refl, refl)

pub tasks_changed : (number : ℕ) (f : Row → Row) (old new : List (ℕ × Row)) → KeepsTask f → ((n : ℕ) → row_numbered new n ≡ (if n == number then option_map f (row_numbered old n) else row_numbered old n)) → KeepsTasks old new
tasks_changed number f old new keeps rows n row at = changed_by (n == number) f (row_numbered old n) row keeps (sym (rows n) ∙ at)

-- ---- the stop of a role

abbrev pub is_of_other : Role → Row → Bool
is_of_other role row = if role_eq role row.role then false else true

filtered : (b : Bool) (row : Row) → cond (if b then false else true) (Some row) None ≡ (if b then None else Some row)
filtered true row = refl
filtered false row = refl

unless_filtered : (role : Role) (o : Option Row) → option_filter (is_of_other role) o ≡ unless_role role o
unless_filtered role None = refl
unless_filtered role (Some row) = filtered (role_eq role row.role) row

-- the passes of all other roles are left
pub others_left : (role : Role) (es : List (ℕ × Row)) → IsStrictlySortedBy nat_cmp (keys_of es) → (n : ℕ) → row_numbered (filter (λ e. is_of_other role e.1) es) n ≡ unless_role role (row_numbered es n)
unfolding row_numbered
others_left role es ordered n =
    lookup-filter-values (eq_by_cmp_equiv nat_cmp_total) (is_of_other role) n es (IsDistinct-from_sorted nat_cmp (keys_of es) ordered) ∙ unless_filtered role (lookup (is_at (nat_cmp n)) es)

-- ---- by role and key

abbrev is_same_task : ℕ → Key → ℕ → Key → Bool
is_same_task a j b k = is_eq (ordering_then (nat_cmp a b) (key_cmp j k))

same_task : (a : ℕ) (j : Key) (b : ℕ) (k : Key) → is_same_task a j b k ≡ true → (a ≡ b) × (j ≡ k)
same_task a j b k is =
    let tie = both_tie (nat_cmp a b) (key_cmp j k) ((Equal-is (ordering_then (nat_cmp a b) (key_cmp j k))).0 is) in
    (nat_cmp-IsAntisymmetric a b tie.0, key_cmp-IsAntisymmetric j k tie.1)

key_same : (a b : Key) → key_eq a b ≡ true → a ≡ b
key_same a b is = key_cmp-IsAntisymmetric a b ((Equal-is (key_cmp a b)).0 (sym (by_cmp a b) ∙ is)) where
  by_cmp : (a b : Key) → key_eq a b ≡ eq_by_cmp key_cmp a b
  by_cmp a b = search (comparing, rules)

key_itself : (k : Key) → key_eq k k ≡ true
key_itself k = by_cmp k ∙ (eq_by_cmp_equiv key_cmp-total).refl k where
  by_cmp : (k : Key) → key_eq k k ≡ eq_by_cmp key_cmp k k
  by_cmp k = search (comparing, rules)

rank_same : (a b : Role) → role_eq a b ≡ true → role_rank a ≡ role_rank b
rank_same a b is = grind (arith, nat_tests)

row_same : (role : Role) (key : Key) (row : Row) → role_rank row.role ≡ role_rank role → row.key ≡ key → is_row_of role key (Some row) ≡ true
row_same role key row ranks keys = and_from _ _ (grind (arith, nat_tests, ranks)) (subst (λ (k : Key). key_eq row.key k ≡ true) keys (key_itself row.key))

-- the number that is found is that of the pass that is open
number_of : (role : Role) (key : Key) (numbers : List (Task × ℕ)) (row : Row) → is_row_of role key (Some row) ≡ true → last_number_at numbers row.role row.key ≡ last_number_at numbers role key
unfolding last_number_at
number_of role key numbers row is =
    let both = and_parts _ _ is in
    ap (λ n. lookup (λ q. is_eq (ordering_then (nat_cmp n q.0) (key_cmp row.key q.1))) numbers) (rank_same row.role role both.0)
    ∙ ap (λ k. lookup (λ q. is_eq (ordering_then (nat_cmp (role_rank role) q.0) (key_cmp k q.1))) numbers) (key_same row.key key both.1)

on_by : (begun : ℕ) (rows : List (ℕ × Row)) (numbers : List (Task × ℕ)) (role : Role) (key : Key) (n : ℕ) (x : Option Row) → row_numbered rows n ≡ x → is_row_of role key x ≡ true → AreFiled begun rows numbers
    → last_number_at numbers role key ≡ Some n
on_by begun rows numbers role key n None at on is = absurd (cc on)
on_by begun rows numbers role key n (Some row) at on is = sym (number_of role key numbers row on) ∙ is.last n row at

some_same : (a b : ℕ) → Some a ≡ Some b → a ≡ b
some_same a b e = cc e

-- where there is a number, the pass of that number tells
pub on_number : (begun : ℕ) (rows : List (ℕ × Row)) (numbers : List (Task × ℕ)) (role : Role) (key : Key) (n : ℕ) (b : Bool) → last_number_at numbers role key ≡ Some n → b ≡ is_row_of role key (row_numbered rows n) → IsFiled begun rows numbers
    → IsTrue b ↔ ((m : ℕ) × (is_row_of role key (row_numbered rows m) ≡ true))
unfolding IsFiled
on_number begun rows numbers role key n b at same is = (
  λ on. (n, sym same ∙ on),
  λ some. let e = some_same n some.0 (sym at ∙ on_by begun rows numbers role key some.0 (row_numbered rows some.0) refl some.1 is) in same ∙ ap (λ m. is_row_of role key (row_numbered rows m)) e ∙ some.1,
)

-- where there is none, none is open
pub off_number : (begun : ℕ) (rows : List (ℕ × Row)) (numbers : List (Task × ℕ)) (role : Role) (key : Key) → last_number_at numbers role key ≡ None → IsFiled begun rows numbers
    → IsTrue false ↔ ((m : ℕ) × (is_row_of role key (row_numbered rows m) ≡ true))
unfolding IsFiled
off_number begun rows numbers role key none is =
    (λ on. absurd (cc on), λ some. absurd (let e = on_by begun rows numbers role key some.0 (row_numbered rows some.0) refl some.1 is in cc (e, none)))

-- ---- a pass begins

abbrev pub Numbers : List (Task × ℕ) → List (Task × ℕ) → Role → Key → ℕ → Type 0
Numbers old new role key n = (r : Role) (k : Key) → last_number_at new r k ≡ cond (is_same_task (role_rank role) key (role_rank r) k) (Some n) (last_number_at old r k)

other_number : (b : Bool) (role : Role) (key : Key) (row : Row) (n m : ℕ) (x : Option ℕ) → is_same_task (role_rank role) key (role_rank row.role) row.key ≡ b → (is_row_of role key (Some row) ≡ true → ⊥)
    → x ≡ Some m → cond b (Some n) x ≡ Some m
other_number true role key row n m x same free is = absurd (let both = same_task (role_rank role) key (role_rank row.role) row.key same in free (row_same role key row (sym both.0) (sym both.1)))
other_number false role key row n m x same free is = is

-- where no pass of the role on the key is open, its number may be another
pub filed_numbered : (begun n : ℕ) (rows : List (ℕ × Row)) (old new : List (Task × ℕ)) (role : Role) (key : Key) → ((m : ℕ) → is_row_of role key (row_numbered rows m) ≡ true → ⊥) → Numbers old new role key n
    → IsFiled begun rows old → IsFiled begun rows new
unfolding IsFiled
filed_numbered begun n rows old new role key free numbers is = record {
  last = λ m row at.
      numbers row.role row.key
      ∙ other_number (is_same_task (role_rank role) key (role_rank row.role) row.key) role key row n m (last_number_at old row.role row.key) refl (λ on. free m (ap (is_row_of role key) at ∙ on)) (is.last m row at);
  low = is.low;
}

own_number : (b : Bool) (role : Role) (key : Key) (n : ℕ) (x : Option ℕ) → is_same_task (role_rank role) key (role_rank role) key ≡ b → cond b (Some n) x ≡ Some n
own_number true role key n x same = refl
own_number false role key n x same = absurd (let tie = tied_itself key_cmp-total key in let self : is_same_task (role_rank role) key (role_rank role) key ≡ true = itself (role_rank role) key tie in cc (self, same)) where
  itself : (a : ℕ) (k : Key) → key_cmp k k ≡ Equal → is_same_task a k a k ≡ true
  itself a k tie = rw (tied_itself nat_cmp_total a, tie) refl

begun_last : (b : Bool) (begun : ℕ) (rows : List (ℕ × Row)) (numbers : List (Task × ℕ)) (row new : Row) (m : ℕ) → (m == begun + 1) ≡ b → last_number_at numbers new.role new.key ≡ Some (begun + 1)
    → (row_numbered rows m ≡ Some row → last_number_at numbers row.role row.key ≡ Some m) → (if b then Some new else row_numbered rows m) ≡ Some row → last_number_at numbers row.role row.key ≡ Some m
begun_last true begun rows numbers row new m e own others at =
    let same : new ≡ row = cc at in
    let n : begun + 1 ≡ m = grind (arith, nat_tests) in
    subst (λ (r : Row). last_number_at numbers r.role r.key ≡ Some m) same (own ∙ ap Some n)
begun_last false begun rows numbers row new m e own others at = others at

begun_low : (b : Bool) (begun : ℕ) (rows : List (ℕ × Row)) (row new : Row) (m : ℕ) → (m == begun + 1) ≡ b → (row_numbered rows m ≡ Some row → m ≤ begun) → (if b then Some new else row_numbered rows m) ≡ Some row → m ≤ begun + 1
begun_low true begun rows row new m e others at = grind (arith, nat_tests)
begun_low false begun rows row new m e others at = omega (arith, others at)

pub filed_begun : (begun : ℕ) (old rows : List (ℕ × Row)) (numbers : List (Task × ℕ)) (new : Row) → last_number_at numbers new.role new.key ≡ Some (begun + 1)
    → ((m : ℕ) → row_numbered rows m ≡ (if m == begun + 1 then Some new else row_numbered old m)) → IsFiled begun old numbers → IsFiled (begun + 1) rows numbers
unfolding IsFiled
filed_begun begun old rows numbers new own put is = record {
  last = λ m row at. begun_last (m == begun + 1) begun old numbers row new m refl own (is.last m row) (sym (put m) ∙ at);
  low = λ m row at. begun_low (m == begun + 1) begun old row new m refl (is.low m row) (sym (put m) ∙ at);
}

pub numbered_self : (old new : List (Task × ℕ)) (role : Role) (key : Key) (n : ℕ) → Numbers old new role key n → last_number_at new role key ≡ Some n
numbered_self old new role key n numbers = numbers role key ∙ own_number (is_same_task (role_rank role) key (role_rank role) key) role key n (last_number_at old role key) refl

-- ---- a pass that is found has begun

low_by : (begun : ℕ) (rows : List (ℕ × Row)) (numbers : List (Task × ℕ)) (n : ℕ) (r : Option (Bor Row)) → option_copied r ≡ row_numbered rows n → AreFiled begun rows numbers → IfSome r (λ row. n ≤ begun)
low_by begun rows numbers n None at is = tt
low_by begun rows numbers n (Some row) at is = is.low n row.now (sym at)

pub low_found : (begun : ℕ) (rows : List (ℕ × Row)) (numbers : List (Task × ℕ)) (n : ℕ) (r : Option (Bor Row)) → option_copied r ≡ row_numbered rows n → IsFiled begun rows numbers → IfSome r (λ row. n ≤ begun)
unfolding IsFiled
low_found begun rows numbers n r at is = low_by begun rows numbers n r at is

-- ---- a number that is put

pub tasked : (old new : List (Task × ℕ)) (role : Role) (key : Key) (rank : ℕ) (copy : Key) (n : ℕ) → rank ≡ role_rank role → copy ≡ key
    → ((q : Task) → lookup (λ e. is_eq (ordering_then (nat_cmp q.0 e.0) (key_cmp q.1 e.1))) new ≡ cond (is_eq (ordering_then (nat_cmp rank q.0) (key_cmp copy q.1))) (Some n) (lookup (λ e. is_eq (ordering_then (nat_cmp q.0 e.0) (key_cmp q.1 e.1))) old))
    → Numbers old new role key n
unfolding last_number_at
tasked old new role key rank copy n ranks keys put r k =
    put (role_rank r, k) ∙ ap (λ a. cond (is_eq (ordering_then (nat_cmp a (role_rank r)) (key_cmp copy k))) (Some n) (last_number_at old r k)) ranks
    ∙ ap (λ (j : Key). cond (is_eq (ordering_then (nat_cmp (role_rank role) (role_rank r)) (key_cmp j k))) (Some n) (last_number_at old r k)) keys
