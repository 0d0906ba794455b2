-- What exists under a key at a position is what the write left that is the last in the key's line by then.
use Rattle.std.proofs.Common.{◌≡◌, ℕ, ◌+◌, ◌≤◌, ◌<◌, List, [], ◌∷◌, length, Bool, true, false, cond, Some, None, refl, sym, ap, subst, ◌∙◌, inl, inr, arith}
use Rattle.std.specs.Prelude.{if◌then◌else◌, nat_le, nat_lt, ◌==◌, ◌||◌}
use Rattle.std.specs.FinMap.{get-empty}
use Rattle.std.specs.Ordering.{is_eq}
use Rattle.std.proofs.lemmas.Bool.{cases_Bool, eq-eqb, eqb-true}
use Rattle.std.proofs.lemmas.Bool.Decides.{nat_tests}
use Rattle.cmc_meta.specs.declared.key.Key.{Key}
use Rattle.cmc_meta.specs.declared.key.Kind.{Kind}
use Rattle.cmc_meta.specs.Keys.{key_cmp, key_eq}
use Rattle.cmc_model.specs.declared.write.Write.{Write}
use Rattle.cmc_model.specs.Objects.{Objects, object_at}
use Rattle.cmc_model.specs.Replies.{put_at}
use Rattle.cmc_model.specs.Writes.{contents, is_known, kind_eq, last_under, of_kind, oldest, write_at}
use Rattle.cmc_model.proofs.Versions.{object_at-put}
use Rattle.cmc_model.proofs.Writes.{oldest-beyond}
use Rattle.cmc_held.proofs.Backwards.{last_under-low}
use Rattle.cmc_informer.proofs.OneMark.{key_tie, same_key, equal_key}
use Rattle.cmc_caches.specs.Lines.{last_at, left_by_write, numbers}

-- ---- one write

-- the test of a write's key and the test of the look-up agree
pub tie_back : (a b : Key) → key_eq a b ≡ is_eq (key_cmp b a)
tie_back a b = elim (cases_Bool (key_eq a b)) [
  | inl same ↦ subst (λ (x : Key). key_eq a x ≡ is_eq (key_cmp x a)) (equal_key a b same) (sym (key_tie a a))
  | inr other ↦ elim (cases_Bool (is_eq (key_cmp b a))) [
    | inl tie ↦ subst (λ (x : Key). key_eq a x ≡ is_eq (key_cmp x a)) (sym (same_key b a tie)) (sym (key_tie a a))
    | inr off ↦ other ∙ sym off
  ]
]

pub contents_more : (b : Bool) (w : Write) (ws : List Write) → contents (cond b (w ∷ ws) ws) ≡ (if b then put_at (contents ws) w.key w.object else contents ws)
unfolding contents
contents_more true w ws = refl
contents_more false w ws = refl

-- of a key of the kind, one write more of any kind
one_more : (b in_kind : Bool) (w : Write) (m n : Objects) (key : Key) → key_eq w.key key ≡ b → (b ≡ true → in_kind ≡ true) → n ≡ (if in_kind then put_at m w.key w.object else m)
    → object_at n key ≡ cond b w.object (object_at m key)
one_more true in_kind w m n key e kind is =
    ap (λ (x : Objects). object_at x key) (is ∙ ap (λ (b : Bool). if b then put_at m w.key w.object else m) (kind refl)) ∙ object_at-put m w.key w.object key
    ∙ ap (λ (b : Bool). cond b w.object (object_at m key)) (sym (tie_back w.key key) ∙ e)
one_more false true w m n key e kind is =
    ap (λ (x : Objects). object_at x key) is ∙ object_at-put m w.key w.object key ∙ ap (λ (b : Bool). cond b w.object (object_at m key)) (sym (tie_back w.key key) ∙ e)
one_more false false w m n key e kind is = ap (λ (x : Objects). object_at x key) is

kind_of_named : (kind : Kind) (w : Write) (key : Key) → kind_eq key.kind kind ≡ true → key_eq w.key key ≡ true → kind_eq w.key.kind kind ≡ true
kind_of_named kind w key of same = ap (λ (k : Key). kind_eq k.kind kind) (equal_key w.key key same) ∙ of

-- ---- the write of a number

pub write_older : (n : ℕ) (w : Write) (ws : List Write) → n ≤ length ws → write_at n (w ∷ ws) ≡ write_at n ws
unfolding write_at
write_older n w ws h = ap (λ (b : Bool). if b then Some w else write_at n ws) (off (length (w ∷ ws) == n) refl) where
  off : (b : Bool) → (length (w ∷ ws) == n) ≡ b → b ≡ false
  off true e = absurd (omega (arith, h, eqb-true (length (w ∷ ws)) n e))
  off false e = refl

pub write_newest : (w : Write) (ws : List Write) → write_at (length (w ∷ ws)) (w ∷ ws) ≡ Some w
unfolding write_at
write_newest w ws = ap (λ (b : Bool). if b then Some w else write_at (length (w ∷ ws)) ws) (eq-eqb (length (w ∷ ws)) (length (w ∷ ws)) refl)

first_write : (within : Bool) (n p : ℕ) (w : Write) (ws : List Write) → nat_le (length (w ∷ ws)) p ≡ within → n ≤ p → write_at n (oldest p ws) ≡ write_at n ws
    → write_at n (if within then w ∷ ws else oldest p ws) ≡ write_at n (w ∷ ws)
first_write true n p w ws is low below = refl
first_write false n p w ws beyond low below = below ∙ sym (write_older n w ws (let above : p < length (w ∷ ws) = grind (arith, nat_tests) in omega (arith, above, low)))

pub write_of_oldest : (n p : ℕ) (ws : List Write) → n ≤ p → write_at n (oldest p ws) ≡ write_at n ws
unfolding oldest
write_of_oldest n p [] low = refl
write_of_oldest n p (w ∷ ws) low = first_write (nat_le (length (w ∷ ws)) p) n p w ws refl low (write_of_oldest n p ws low)

-- ---- the last write under a key

other_under : (key : Key) (w : Write) (ws : List Write) → key_eq w.key key ≡ false → last_under key (w ∷ ws) ≡ last_under key ws
unfolding last_under
other_under key w ws other = ap (λ (b : Bool). if b then length (w ∷ ws) else last_under key ws) other

left_more : (b : Bool) (kind : Kind) (key : Key) (w : Write) (ws : List Write) → key_eq w.key key ≡ b → kind_eq key.kind kind ≡ true
    → object_at (contents (of_kind kind ws)) key ≡ left_by_write (write_at (last_under key ws) ws)
    → object_at (contents (of_kind kind (w ∷ ws))) key ≡ left_by_write (write_at (if b then length (w ∷ ws) else last_under key ws) (w ∷ ws))
left_more true kind key w ws same of below =
    one_more true (kind_eq w.key.kind kind) w (contents (of_kind kind ws)) (contents (of_kind kind (w ∷ ws))) key same (λ _. kind_of_named kind w key of same) (contents_more (kind_eq w.key.kind kind) w (of_kind kind ws))
    ∙ sym (ap left_by_write (write_newest w ws))
left_more false kind key w ws other of below =
    one_more false (kind_eq w.key.kind kind) w (contents (of_kind kind ws)) (contents (of_kind kind (w ∷ ws))) key other (λ e. absurd (cc e)) (contents_more (kind_eq w.key.kind kind) w (of_kind kind ws))
    ∙ below ∙ sym (ap left_by_write (write_older (last_under key ws) w ws (last_under-low key ws)))

left_by_last : (kind : Kind) (key : Key) (ws : List Write) → kind_eq key.kind kind ≡ true → object_at (contents (of_kind kind ws)) key ≡ left_by_write (write_at (last_under key ws) ws)
unfolding contents last_under write_at
left_by_last kind key [] of = get-empty key_cmp key
left_by_last kind key (w ∷ ws) of = left_more (key_eq w.key key) kind key w ws refl of (left_by_last kind key ws of)

-- ---- by numbers alone

low : (p : ℕ) (w : Write) (ws : List Write) → nat_le (length (w ∷ ws)) p ≡ true → length ws ≤ p
low p w ws within = let is : length (w ∷ ws) ≤ p = grind (arith, nat_tests) in omega (arith, is)

module _ (p : ℕ) (key : Key) where
  last_in : (within named : Bool) (w : Write) (ws : List Write) → nat_le (length (w ∷ ws)) p ≡ within → key_eq w.key key ≡ named → last_at p (numbers key ws) ≡ last_under key (oldest p ws)
      → last_at p (if named then length (w ∷ ws) ∷ numbers key ws else numbers key ws) ≡ last_under key (if within then w ∷ ws else oldest p ws)
  unfolding last_at last_under
  last_in true true w ws within same below =
      ap (λ (b : Bool). if b then length (w ∷ ws) else last_at p (numbers key ws)) within ∙ sym (ap (λ (b : Bool). if b then length (w ∷ ws) else last_under key ws) same)
  last_in true false w ws within other below =
      below ∙ ap (last_under key) (oldest-beyond p ws (low p w ws within)) ∙ sym (ap (λ (b : Bool). if b then length (w ∷ ws) else last_under key ws) other)
  last_in false true w ws beyond same below = ap (λ (b : Bool). if b then length (w ∷ ws) else last_at p (numbers key ws)) beyond ∙ below
  last_in false false w ws beyond other below = below

  -- the last number of at most p is that of the last write under the key among the first p
  pub last_is : (ws : List Write) → last_at p (numbers key ws) ≡ last_under key (oldest p ws)
  unfolding numbers last_at last_under oldest
  last_is [] = refl
  last_is (w ∷ ws) = last_in (nat_le (length (w ∷ ws)) p) (key_eq w.key key) w ws refl refl (last_is ws)

low_one : (b : Bool) (p n : ℕ) (ns : List ℕ) → nat_le n p ≡ b → last_at p ns ≤ p → (if b then n else last_at p ns) ≤ p
low_one true p n ns is below = let fits : n ≤ p = grind (arith, nat_tests) in fits
low_one false p n ns is below = below

last_at-low : (p : ℕ) (ns : List ℕ) → last_at p ns ≤ p
unfolding last_at
last_at-low p [] = omega arith
last_at-low p (n ∷ ns) = low_one (nat_le n p) p n ns refl (last_at-low p ns)

-- The object under a key of the kind after the first p writes of the kind is what the write left that is the last in the key's line of at
-- most p.
pub left_by_number : (p : ℕ) (kind : Kind) (key : Key) (ws : List Write) → kind_eq key.kind kind ≡ true
    → object_at (contents (of_kind kind (oldest p ws))) key ≡ left_by_write (write_at (last_at p (numbers key ws)) ws)
left_by_number p kind key ws of =
    left_by_last kind key (oldest p ws) of ∙ ap (λ (n : ℕ). left_by_write (write_at n (oldest p ws))) (sym (last_is p key ws))
    ∙ ap left_by_write (write_of_oldest (last_at p (numbers key ws)) p ws (last_at-low p (numbers key ws)))

-- ---- keys of another kind

other_one : (b : Bool) (kind : Kind) (w : Write) (m n : Objects) (key : Key) → kind_eq w.key.kind kind ≡ b → kind_eq key.kind kind ≡ false → n ≡ (if b then put_at m w.key w.object else m)
    → object_at m key ≡ None → object_at n key ≡ None
other_one false kind w m n key in_kind off is none = ap (λ (x : Objects). object_at x key) is ∙ none
other_one true kind w m n key in_kind off is none =
    ap (λ (x : Objects). object_at x key) is ∙ object_at-put m w.key w.object key
    ∙ elim (cases_Bool (is_eq (key_cmp key w.key))) [
      | inl tie ↦ absurd (let e : kind_eq key.kind kind ≡ true = ap (λ (k : Key). kind_eq k.kind kind) (same_key key w.key tie) ∙ in_kind in cc (e, off))
      | inr apart ↦ ap (λ (b : Bool). cond b w.object (object_at m key)) apart ∙ none
    ]

pub none_of_other : (kind : Kind) (key : Key) (ws : List Write) → kind_eq key.kind kind ≡ false → object_at (contents (of_kind kind ws)) key ≡ None
unfolding contents
none_of_other kind key [] off = get-empty key_cmp key
none_of_other kind key (w ∷ ws) off =
    other_one (kind_eq w.key.kind kind) kind w (contents (of_kind kind ws)) (contents (of_kind kind (w ∷ ws))) key refl off (contents_more (kind_eq w.key.kind kind) w (of_kind kind ws)) (none_of_other kind key ws off)

-- ---- where the first n writes are known, a position of at most n

oldest_in : (a b : Bool) (p n : ℕ) (w : Write) (ws : List Write) → nat_le (length (w ∷ ws)) n ≡ a → nat_le (length (w ∷ ws)) p ≡ b → p ≤ n → oldest p (oldest n ws) ≡ oldest p ws
    → oldest p (if a then w ∷ ws else oldest n ws) ≡ (if b then w ∷ ws else oldest p ws)
unfolding oldest
oldest_in true b p n w ws in_n in_p above below = ap (λ (c : Bool). if c then w ∷ ws else oldest p ws) in_p
oldest_in false true p n w ws off_n in_p above below = absurd (let one : length (w ∷ ws) ≤ p = grind (arith, nat_tests) in let two : n < length (w ∷ ws) = grind (arith, nat_tests) in omega (arith, one, two, above))
oldest_in false false p n w ws off_n off_p above below = below

pub oldest_of_oldest : (p n : ℕ) (ws : List Write) → p ≤ n → oldest p (oldest n ws) ≡ oldest p ws
unfolding oldest
oldest_of_oldest p n [] above = refl
oldest_of_oldest p n (w ∷ ws) above = oldest_in (nat_le (length (w ∷ ws)) n) (nat_le (length (w ∷ ws)) p) p n w ws refl refl above (oldest_of_oldest p n ws above)

pub last_known : (p n : ℕ) (key : Key) (ws : List Write) → p ≤ n → last_at p (numbers key (oldest n ws)) ≡ last_at p (numbers key ws)
last_known p n key ws above = last_is p key (oldest n ws) ∙ ap (last_under key) (oldest_of_oldest p n ws above) ∙ sym (last_is p key ws)

within_known : (within named : Bool) (p : ℕ) (key : Key) (w : Write) (ws : List Write) → nat_le (length (w ∷ ws)) p ≡ within → key_eq w.key key ≡ named → (if named then length (w ∷ ws) else last_under key ws) ≤ p
    → (last_under key ws ≤ p → last_under key (oldest p ws) ≡ last_under key ws) → last_under key (if within then w ∷ ws else oldest p ws) ≡ last_under key (w ∷ ws)
within_known true named p key w ws is e low below = refl
within_known false true p key w ws beyond same low below = absurd (let above : p < length (w ∷ ws) = grind (arith, nat_tests) in omega (arith, above, low))
within_known false false p key w ws beyond other low below = below low ∙ sym (other_under key w ws other)

-- the last write under the key is one of the first p, where its version is at most p
under_oldest : (p : ℕ) (key : Key) (ws : List Write) → last_under key ws ≤ p → last_under key (oldest p ws) ≡ last_under key ws
unfolding oldest last_under
under_oldest p key [] low = refl
under_oldest p key (w ∷ ws) low = within_known (nat_le (length (w ∷ ws)) p) (key_eq w.key key) p key w ws refl refl low (under_oldest p key ws)

pub known_by_last : (n : ℕ) (key : Key) (ws : List Write) → last_under key ws ≤ n → last_at n (numbers key (oldest n ws)) ≡ last_under key ws
known_by_last n key ws low = last_known n n key ws (omega arith) ∙ last_is n key ws ∙ under_oldest n key ws low

-- a key that a write names has a last one
known_at : (b : Bool) (key : Key) (w : Write) (ws : List Write) → key_eq w.key key ≡ b → nat_lt 0 (last_under key ws) ≡ is_known key ws → nat_lt 0 (if b then length (w ∷ ws) else last_under key ws) ≡ (b || is_known key ws)
known_at true key w ws e below = grind (arith, nat_tests)
known_at false key w ws e below = below

pub known_under : (key : Key) (ws : List Write) → nat_lt 0 (last_under key ws) ≡ is_known key ws
unfolding last_under
known_under key [] = refl
known_under key (w ∷ ws) = known_at (key_eq w.key key) key w ws refl (known_under key ws)

counted : (b : Bool) (i : ℕ) (w : Write) (ws : List Write) → nat_le (length (w ∷ ws)) i ≡ b → i ≤ length (w ∷ ws) → (i ≤ length ws → length (oldest i ws) ≡ i) → length (if b then w ∷ ws else oldest i ws) ≡ i
counted true i w ws is h below = let fits : length (w ∷ ws) ≤ i = grind (arith, nat_tests) in omega (arith, fits, h)
counted false i w ws is h below = below (let above : i < length (w ∷ ws) = grind (arith, nat_tests) in omega (arith, above))

pub oldest_count : (i : ℕ) (ws : List Write) → i ≤ length ws → length (oldest i ws) ≡ i
unfolding oldest
oldest_count i [] h = omega (arith, h)
oldest_count i (w ∷ ws) h = counted (nat_le (length (w ∷ ws)) i) i w ws refl h (λ le. oldest_count i ws le)

-- one write more
pub numbers_more : (rows new : Key → List ℕ) (n : ℕ) (w : Write) (first next : List Write) → length first ≡ n → next ≡ w ∷ first → ((k : Key) → rows k ≡ numbers k first)
    → ((k : Key) → new k ≡ (if key_eq w.key k then (n + 1) ∷ rows k else rows k)) → (k : Key) → new k ≡ numbers k next
unfolding numbers
numbers_more rows new n w first next count is was put k =
    let number : n + 1 ≡ length (w ∷ first) = omega (arith, count) in
    put k ∙ ap (λ (m : ℕ). if key_eq w.key k then m ∷ rows k else rows k) number ∙ ap (λ (l : List ℕ). if key_eq w.key k then length (w ∷ first) ∷ l else l) (was k) ∙ sym (ap (numbers k) is)
