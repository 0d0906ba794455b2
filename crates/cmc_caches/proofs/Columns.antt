-- A column after one more write, and the keys to which it leads at a position.
use Rattle.std.proofs.Common.{◌≡◌, ◌⊎◌, ℕ, ◌+◌, ◌≤◌, ◌<◌, List, [], ◌∷◌, length, Bool, true, false, cond, Option, Some, refl, sym, ap, subst, ◌∙◌, inl, inr, arith}
use Rattle.std.specs.Prelude.{if◌then◌else◌, ◌||◌, nat_le, nat_lt}
use Rattle.std.specs.BTreeMap.{is_at}
use Rattle.std.specs.List.{list_any}
use Rattle.std.specs.List.Sorted.{IsStrictlySortedBy}
use Rattle.std.specs.Ordering.{is_eq}
use Rattle.std.proofs.Math.Bool.{or-true}
use Rattle.std.proofs.lemmas.Bool.{or_cases}
use Rattle.std.proofs.lemmas.Bool.Decides.{nat_tests}
use Rattle.cmc_meta.specs.declared.key.Key.{Key}
use Rattle.cmc_meta.specs.declared.key.Kind.{Kind}
use Rattle.cmc_meta.specs.Keys.{key_cmp}
use Rattle.cmc_objects.specs.declared.object.Object.{Object}
use Rattle.cmc_model.specs.declared.write.Write.{Write}
use Rattle.cmc_model.specs.Objects.{Objects, object_at}
use Rattle.cmc_model.specs.Replies.{put_at}
use Rattle.cmc_model.specs.Writes.{contents, kind_eq, of_kind, oldest, write_at}
use Rattle.cmc_model.proofs.Versions.{object_at-put}
use Rattle.cmc_model.proofs.Writes.{oldest-older}
use Rattle.cmc_informer.proofs.OneMark.{same_key}
use Rattle.cmc_informer.specs.Caches.{is_owned_by}
use Rattle.cmc_caches.specs.Lines.{is_on_line}
use Rattle.cmc_caches.specs.Left.{AreAtMost, AreFalling, IsTopped, has_left, is_write_of, numbers_under}
use Rattle.cmc_caches.specs.Board.{Columned, IsColumn, IsColumnBy, IsColumnKept, LeadTo, LeadsBack, NotesLeft, SecretName, is_of_secret, numbers_for, objects_by}
use Rattle.cmc_caches.proofs.LastNumbers.{contents_more, oldest_count, tie_back, write_newest, write_of_oldest}
use Rattle.cmc_caches.proofs.Topped.{at_most_more, left_pushed, noted_left, topped_falls, topped_left, topped_low, topped_same}

-- the write of the next number
abbrev pub IsNextWrite : ℕ → Write → List Write → Type 0
IsNextWrite n w ws = oldest (n + 1) ws ≡ w ∷ oldest n ws

numbered_next : (n : ℕ) (w : Write) (ws : List Write) → n < length ws → IsNextWrite n w ws → write_at (n + 1) ws ≡ Some w
numbered_next n w ws low is =
    let count : n + 1 ≡ length (w ∷ oldest n ws) = let size : length (oldest n ws) ≡ n = oldest_count n ws (omega (arith, low)) in omega (arith, size) in
    sym (write_of_oldest (n + 1) (n + 1) ws (omega arith)) ∙ ap (write_at (n + 1)) is ∙ ap (λ (m : ℕ). write_at m (w ∷ oldest n ws)) count ∙ write_newest w (oldest n ws)

names_next : (n : ℕ) (w : Write) (ws : List Write) (key : Key) → n < length ws → IsNextWrite n w ws → is_eq (key_cmp key w.key) ≡ true → is_write_of (write_at (n + 1) ws) key ≡ true
names_next n w ws key low is tie = ap (λ o. is_write_of o key) (numbered_next n w ws low is) ∙ tie_back w.key key ∙ tie

leaves_more : (kind : Kind) (n : ℕ) (w : Write) (ws : List Write) → IsNextWrite n w ws
    → objects_by kind (n + 1) ws ≡ (if kind_eq w.key.kind kind then put_at (objects_by kind n ws) w.key w.object else objects_by kind n ws)
leaves_more kind n w ws is = ap (λ (l : List Write). contents (of_kind kind l)) is ∙ contents_more (kind_eq w.key.kind kind) w (of_kind kind (oldest n ws))

or_left : (a b : Bool) → a ≡ true → (a || b) ≡ true
or_left a b is = ap (λ x. x || b) is

or_right : (a b : Bool) → b ≡ true → (a || b) ≡ true
or_right a b is = ap (λ x. a || x) is ∙ or-true a

module _ {I : Type 0} (kind : Kind) (finds : I → Option Object → Bool) where
  -- what was found before is found still, or its key is that of the write, and its number is noted
  abbrev pub IsFoundOrNoted : Objects → Objects → (I → List ℕ) → ℕ → List Write → Type 0
  IsFoundOrNoted old new later number ws =
      (i : I) (key : Key) → finds i (object_at old key) ≡ true → (finds i (object_at new key) ≡ true) ⊎ ((is_on_line number (later i) ≡ true) × (is_write_of (write_at number ws) key ≡ true))

  -- ---- a write more is known

  past_next : (b : Bool) (old new : Objects) (left later : I → List ℕ) (n : ℕ) (ws : List Write) (i : I) (key : Key) (p : ℕ) → nat_le p n ≡ b → p ≤ n + 1 → LeadsBack kind finds old left n ws
      → new ≡ objects_by kind (n + 1) ws → IsTopped (n + 1) (left i) (later i) → IsFoundOrNoted old new later (n + 1) ws
      → finds i (object_at (objects_by kind p ws) key) ≡ true → (finds i (object_at new key) || has_left p (later i) key ws) ≡ true
  past_next true old new left later n ws i key p is low back leaves topped each found =
      let fits : p ≤ n = grind (arith, nat_tests) in
      let above : nat_lt p (n + 1) ≡ true = grind (arith, nat_tests) in
      elim (or_cases (finds i (object_at old key)) (has_left p (left i) key ws) (back.past i key p fits found)) [
        | inl lives ↦ elim (each i key lives) [
          | inl still ↦ or_left (finds i (object_at new key)) (has_left p (later i) key ws) still
          | inr noted ↦ or_right (finds i (object_at new key)) (has_left p (later i) key ws) (noted_left (n + 1) p key ws (later i) above noted.1 noted.0)
        ]
        | inr had ↦ or_right (finds i (object_at new key)) (has_left p (later i) key ws) (topped_left (n + 1) (left i) (later i) p key ws topped had)
      ]
  past_next false old new left later n ws i key p is low back leaves topped each found =
      let last : p ≡ n + 1 = grind (arith, nat_tests) in
      or_left (finds i (object_at new key)) (has_left p (later i) key ws)
      (ap (λ (m : Objects). finds i (object_at m key)) leaves ∙ ap (λ (q : ℕ). finds i (object_at (objects_by kind q ws) key)) (sym last) ∙ found)

  led_next : (old new : Objects) (left later : I → List ℕ) (n : ℕ) (ws : List Write) → n < length ws → LeadsBack kind finds old left n ws → new ≡ objects_by kind (n + 1) ws
      → ((i : I) → IsTopped (n + 1) (left i) (later i)) → IsFoundOrNoted old new later (n + 1) ws → LeadsBack kind finds new later (n + 1) ws
  led_next old new left later n ws low back leaves topped each = record {
    past = λ i key p fits found. past_next (nat_le p n) old new left later n ws i key p refl fits back leaves (topped i) each found;
    falls = λ i. topped_falls (n + 1) (left i) (later i) (back.next i) (back.falls i) (topped i);
    next = λ i. at_most_more (n + 1) (n + 1 + 1) (later i) (omega arith) (topped_low (n + 1) (n + 1) (left i) (later i) (omega arith) (back.next i) (topped i));
    within = λ i. topped_low (length ws) (n + 1) (left i) (later i) (omega (arith, low)) (back.within i) (topped i);
  }

  found_or_noted : (b found : Bool) (old : Objects) (later : I → List ℕ) (n : ℕ) (w : Write) (ws : List Write) (i : I) (key : Key) → n < length ws → IsNextWrite n w ws → is_eq (key_cmp key w.key) ≡ b
      → finds i w.object ≡ found → (finds i (object_at old w.key) ≡ true → finds i w.object ≡ false → is_on_line (n + 1) (later i) ≡ true) → finds i (object_at old key) ≡ true
      → (finds i (cond b w.object (object_at old key)) ≡ true) ⊎ ((is_on_line (n + 1) (later i) ≡ true) × (is_write_of (write_at (n + 1) ws) key ≡ true))
  found_or_noted false found old later n w ws i key low is apart e noted was = inl was
  found_or_noted true true old later n w ws i key low is tie e noted was = inl e
  found_or_noted true false old later n w ws i key low is tie e noted was =
      inr (noted (ap (λ (k : Key). finds i (object_at old k)) (sym (same_key key w.key tie)) ∙ was) e, names_next n w ws key low is tie)

  led_of_kind : (old new : Objects) (left later : I → List ℕ) (n : ℕ) (w : Write) (ws : List Write) → n < length ws → IsNextWrite n w ws → LeadsBack kind finds old left n ws
      → new ≡ objects_by kind (n + 1) ws → new ≡ put_at old w.key w.object → NotesLeft finds (n + 1) (object_at old w.key) w.object left later → LeadsBack kind finds new later (n + 1) ws
  led_of_kind old new left later n w ws low is back leaves put notes =
      led_next old new left later n ws low back leaves notes.kept
      (λ i key was.
      let at : object_at new key ≡ cond (is_eq (key_cmp key w.key)) w.object (object_at old key) = ap (λ (m : Objects). object_at m key) put ∙ object_at-put old w.key w.object key in
      subst (λ (o : Option Object). (finds i o ≡ true) ⊎ ((is_on_line (n + 1) (later i) ≡ true) × (is_write_of (write_at (n + 1) ws) key ≡ true))) (sym at)
      (found_or_noted (is_eq (key_cmp key w.key)) (finds i w.object) old later n w ws i key low is refl refl (notes.noted i) was))

  led_of_other : (objects : Objects) (left : I → List ℕ) (n : ℕ) (ws : List Write) → n < length ws → LeadsBack kind finds objects left n ws → objects ≡ objects_by kind (n + 1) ws
      → LeadsBack kind finds objects left (n + 1) ws
  led_of_other objects left n ws low back leaves = led_next objects objects left left n ws low back leaves (λ i. topped_same (n + 1) (left i)) (λ i key was. inl was)

  -- ---- memory ran out

  led_kept : (objects : Objects) (left later : I → List ℕ) (n : ℕ) (ws : List Write) → n < length ws → LeadsBack kind finds objects left n ws → ((i : I) → IsTopped (n + 1) (left i) (later i))
      → LeadsBack kind finds objects later n ws
  led_kept objects left later n ws low back topped = record {
    past = λ i key p fits found. elim (or_cases (finds i (object_at objects key)) (has_left p (left i) key ws) (back.past i key p fits found)) [
      | inl lives ↦ or_left (finds i (object_at objects key)) (has_left p (later i) key ws) lives
      | inr had ↦ or_right (finds i (object_at objects key)) (has_left p (later i) key ws) (topped_left (n + 1) (left i) (later i) p key ws (topped i) had)
    ];
    falls = λ i. topped_falls (n + 1) (left i) (later i) (back.next i) (back.falls i) (topped i);
    next = λ i. topped_low (n + 1) (n + 1) (left i) (later i) (omega arith) (back.next i) (topped i);
    within = λ i. topped_low (length ws) (n + 1) (left i) (later i) (omega (arith, low)) (back.within i) (topped i);
  }

  -- ---- a write more is accepted

  led_pushed : (objects : Objects) (left : I → List ℕ) (n : ℕ) (w : Write) (ws : List Write) → n ≤ length ws → LeadsBack kind finds objects left n ws → LeadsBack kind finds objects left n (w ∷ ws)
  led_pushed objects left n w ws low back = record {
    past = λ i key p fits found.
        ap (λ (b : Bool). finds i (object_at objects key) || b) (left_pushed p key w ws (left i) (back.within i))
        ∙ back.past i key p fits (ap (λ (l : List Write). finds i (object_at (contents (of_kind kind l)) key)) (sym (oldest-older p w ws (omega (arith, fits, low)))) ∙ found);
    falls = back.falls;
    next = back.next;
    within = λ i. at_most_more (length ws) (length (w ∷ ws)) (left i) (omega arith) (back.within i);
  }

  -- ---- nothing is known

  led_first : (objects : Objects) (left : I → List ℕ) (ws : List Write) → objects ≡ objects_by kind 0 ws → ((i : I) → left i ≡ []) → LeadsBack kind finds objects left 0 ws
  led_first objects left ws leaves none = record {
    past = λ i key p fits found.
        let first : p ≡ 0 = omega (arith, fits) in
        or_left (finds i (object_at objects key)) (has_left p (left i) key ws) (ap (λ (m : Objects). finds i (object_at m key)) leaves ∙ ap (λ (q : ℕ). finds i (object_at (objects_by kind q ws) key)) (sym first) ∙ found);
    falls = λ i. subst AreFalling (sym (none i)) tt;
    next = λ i. subst (AreAtMost (0 + 1)) (sym (none i)) tt;
    within = λ i. subst (AreAtMost (length ws)) (sym (none i)) tt;
  }

  -- ---- the keys at a position

  pub leads_at : (objects : Objects) (left : I → List ℕ) (n : ℕ) (ws : List Write) (i : I) (p : ℕ) (keys : List Key) → p ≤ n → LeadsBack kind finds objects left n ws → IsStrictlySortedBy key_cmp keys
      → ((k : Key) → finds i (object_at objects k) ≡ true → list_any (is_at (key_cmp k)) keys ≡ true) → ((k : Key) → has_left p (left i) k ws ≡ true → list_any (is_at (key_cmp k)) keys ≡ true)
      → LeadTo keys (λ k. finds i (object_at (objects_by kind p ws) k))
  leads_at objects left n ws i p keys low back sorted now since = record {
    ordered = sorted;
    all = λ k found. elim (or_cases (finds i (object_at objects k)) (has_left p (left i) k ws) (back.past i k p low found)) [ inl lives ↦ now k lives | inr had ↦ since k had ];
  }

-- ---- whole columns

leaves_of : (b : Bool) (kind : Kind) (n : ℕ) (w : Write) (ws : List Write) (old new : Columned) → kind_eq w.key.kind kind ≡ b → IsNextWrite n w ws → old.objects ≡ objects_by kind n ws
    → new.objects ≡ (if b then put_at old.objects w.key w.object else old.objects) → new.objects ≡ objects_by kind (n + 1) ws
leaves_of b kind n w ws old new of is was put =
    put ∙ ap (λ (m : Objects). if b then put_at m w.key w.object else m) was ∙ ap (λ (c : Bool). if c then put_at (objects_by kind n ws) w.key w.object else objects_by kind n ws) (sym of) ∙ sym (leaves_more kind n w ws is)

pub column_more : (b : Bool) (kind : Kind) (n : ℕ) (w : Write) (ws : List Write) (old new : Columned) → kind_eq w.key.kind kind ≡ b → n < length ws → IsNextWrite n w ws → IsColumn kind old n ws
    → IsColumnBy b (n + 1) w old new → IsColumn kind new (n + 1) ws
column_more true kind n w ws old new of low is column after =
    let leaves = leaves_of true kind n w ws old new of is column.leaves after.objects in
    record {
      leaves = leaves;
      by_owner = led_of_kind kind is_owned_by old.objects new.objects (numbers_under old.owners) (numbers_under new.owners) n w ws low is column.by_owner leaves after.objects after.owners;
      by_target = led_of_kind kind is_of_secret old.objects new.objects (numbers_for old.targets) (numbers_for new.targets) n w ws low is column.by_target leaves after.objects after.targets;
    }
column_more false kind n w ws old new off low is column same =
    let leaves = leaves_of false kind n w ws old old off is column.leaves refl in
    let there : IsColumn kind old (n + 1) ws = record {
      leaves = leaves;
      by_owner = led_of_other kind is_owned_by old.objects (numbers_under old.owners) n ws low column.by_owner leaves;
      by_target = led_of_other kind is_of_secret old.objects (numbers_for old.targets) n ws low column.by_target leaves;
    } in
    subst (λ (c : Columned). IsColumn kind c (n + 1) ws) (sym same) there

pub column_kept : (kind : Kind) (n : ℕ) (ws : List Write) (old new : Columned) → n < length ws → IsColumn kind old n ws → IsColumnKept (n + 1) old new → IsColumn kind new n ws
column_kept kind n ws old new low column kept = record {
  leaves = kept.objects ∙ column.leaves;
  by_owner = subst (λ (m : Objects). LeadsBack kind is_owned_by m (numbers_under new.owners) n ws) (sym kept.objects)
      (led_kept kind is_owned_by old.objects (numbers_under old.owners) (numbers_under new.owners) n ws low column.by_owner kept.owners);
  by_target = subst (λ (m : Objects). LeadsBack kind is_of_secret m (numbers_for new.targets) n ws) (sym kept.objects)
      (led_kept kind is_of_secret old.objects (numbers_for old.targets) (numbers_for new.targets) n ws low column.by_target kept.targets);
}

pub column_pushed : (kind : Kind) (column : Columned) (n : ℕ) (w : Write) (ws : List Write) → n ≤ length ws → IsColumn kind column n ws → IsColumn kind column n (w ∷ ws)
column_pushed kind column n w ws low is = record {
  leaves = is.leaves ∙ ap (λ (l : List Write). contents (of_kind kind l)) (sym (oldest-older n w ws low));
  by_owner = led_pushed kind is_owned_by column.objects (numbers_under column.owners) n w ws low is.by_owner;
  by_target = led_pushed kind is_of_secret column.objects (numbers_for column.targets) n w ws low is.by_target;
}

pub column_first : (kind : Kind) (column : Columned) (ws : List Write) → column.objects ≡ objects_by kind 0 ws → ((uid : ℕ) → numbers_under column.owners uid ≡ []) → ((secret : SecretName) → numbers_for column.targets secret ≡ [])
    → IsColumn kind column 0 ws
column_first kind column ws leaves owners targets = record {
  leaves = leaves;
  by_owner = led_first kind is_owned_by column.objects (numbers_under column.owners) ws leaves owners;
  by_target = led_first kind is_of_secret column.objects (numbers_for column.targets) ws leaves targets;
}
