-- Settling makes moves that are possible, and ends.
use Rattle.std.proofs.Common.{◌≡◌, inl, ℕ, ℤ, ◌≤◌, ◌<◌, List, [], ◌∷◌, length, Bool, true, false, Option, Some, None, refl, sym, ap, subst, ◌∙◌, arith}
use Rattle.std.proofs.lemmas.Bool.{and_from}
use Rattle.std.proofs.lemmas.Bool.Decides.{nat_tests}
use Rattle.std.specs.Prelude.{if◌then◌else◌, ◌==◌, nat_le, nat_lt}
use Rattle.cmc_meta.specs.declared.key.Kind.{Kind}
use Rattle.cmc_meta.specs.declared.key.Kind.TheVariants.{Certificate, CertificateRequest, Secret}
use Rattle.cmc_model.specs.declared.write.Write.{Write}
use Rattle.cmc_model.specs.Histories.{Setting}
use Rattle.cmc_model.specs.Writes.{kind_eq, last_of_kind, write_at, writes}
use Rattle.cmc_collector.specs.declared.entry.Moment.{Moment}
use Rattle.cmc_collect_moves.specs.declared.moves.CollectMove.{CollectMove}
use Rattle.cmc_collect_moves.specs.declared.moves.CollectMove.TheVariants.{User, Deliver, Examine}
use Rattle.cmc_collect_moves.specs.declared.moves.CollectLack.{CollectLack}
use Rattle.cmc_collect_moves.specs.declared.moves.CollectLack.TheVariants.{NoOrphan, Current, NotAWrite}
use Rattle.cmc_collect_moves.specs.declared.moves.Collected.{Collected}
use Rattle.cmc_collect_moves.specs.declared.moves.Collected.TheVariants.{Done, Spent}
use Rattle.cmc_collector.specs.CachePositions.{position}
use Rattle.cmc_collector.specs.Examinations.{is_to_examine}
use Rattle.cmc_collector.specs.Moves.{answer, answer_of, is_watch_event, is_of_kind, lack, lack_of_delivery, newest}
use Rattle.cmc_collector.specs.Replays.{played}
use Rattle.cmc_collector.specs.Settles.{EndsAs, IsSettled, IsSettlingMove, Settles, first_kind_behind, is_behind}

-- ---- the newest write of a kind is one of it

last_by : (c : Bool) (kind : Kind) (w : Write) (ws : List Write) → last_of_kind kind ws ≤ length ws → (if c then length (w ∷ ws) else last_of_kind kind ws) ≤ length (w ∷ ws)
last_by true kind w ws le = omega arith
last_by false kind w ws le = omega (arith, le)

last_low : (kind : Kind) (ws : List Write) → last_of_kind kind ws ≤ length ws
unfolding last_of_kind
last_low kind [] = omega arith
last_low kind (w ∷ ws) = last_by (kind_eq w.key.kind kind) kind w ws (last_low kind ws)

at_by : (c d : Bool) (kind : Kind) (w : Write) (ws : List Write) → kind_eq w.key.kind kind ≡ c → (length (w ∷ ws) == (if c then length (w ∷ ws) else last_of_kind kind ws)) ≡ d
    → last_of_kind kind ws ≤ length ws → (0 < last_of_kind kind ws → is_of_kind kind (write_at (last_of_kind kind ws) ws) ≡ true) → 0 < (if c then length (w ∷ ws) else last_of_kind kind ws)
    → is_of_kind kind (if d then Some w else write_at (if c then length (w ∷ ws) else last_of_kind kind ws) ws) ≡ true
at_by true true kind w ws same at low below some = same
at_by true false kind w ws same at low below some = absurd (grind (arith, nat_tests))
at_by false true kind w ws same at low below some = absurd (grind (arith, nat_tests))
at_by false false kind w ws same at low below some = below some

newest_of_kind : (kind : Kind) (ws : List Write) → 0 < last_of_kind kind ws → is_of_kind kind (write_at (last_of_kind kind ws) ws) ≡ true
unfolding last_of_kind write_at
newest_of_kind kind [] some = absurd (omega (arith, some))
newest_of_kind kind (w ∷ ws) some =
    at_by (kind_eq w.key.kind kind) (length (w ∷ ws) == (if kind_eq w.key.kind kind then length (w ∷ ws) else last_of_kind kind ws)) kind w ws refl refl (last_low kind ws) (newest_of_kind kind ws) some

-- ---- each move of settling is possible

first_by : (a b c : Bool) (kind : Kind) → (if a then Some Certificate else (if b then Some CertificateRequest else (if c then Some Secret else None))) ≡ Some kind → (Certificate ≡ kind → a ≡ true → ⊥)
    → (CertificateRequest ≡ kind → b ≡ true → ⊥) → (Secret ≡ kind → c ≡ true → ⊥) → ⊥
first_by true b c kind is x y z = x (cc is) refl
first_by false true c kind is x y z = y (cc is) refl
first_by false false true kind is x y z = z (cc is) refl
first_by false false false kind is x y z = cc is

by_test : (b : Bool) → (b ≡ true → ⊥) → b ≡ false
by_test true off = absurd (off refl)
by_test false off = refl

by_not_false : (b : Bool) → (b ≡ false → ⊥) → b ≡ true
by_not_false true off = refl
by_not_false false off = absurd (off refl)

first_behind : (s : Setting) (ms : List Moment) (kind : Kind) → first_kind_behind s ms ≡ Some kind → is_behind kind s ms ≡ true
first_behind s ms kind is = by_not_false (is_behind kind s ms) (λ off.
    let differs = λ (k : Kind) (same : k ≡ kind) (on_it : is_behind k s ms ≡ true). bad (is_behind kind s ms) (sym (ap (λ (q : Kind). is_behind q s ms) same) ∙ on_it) off in
    first_by (is_behind Certificate s ms) (is_behind CertificateRequest s ms) (is_behind Secret s ms) kind is (differs Certificate) (differs CertificateRequest) (differs Secret)) where
      bad : (b : Bool) → b ≡ true → b ≡ false → ⊥
      bad b one other = cc (one, other)

news_goes : (current news : Bool) (why other : CollectLack) → current ≡ false → news ≡ true → (if current then Some why else (if news then None else Some other)) ≡ None
news_goes true news why other a b = absurd (cc a)
news_goes false true why other a b = refl
news_goes false false why other a b = absurd (cc b)

not_lacking : (due : Bool) → due ≡ true → (if due then None else Some NoOrphan) ≡ None
not_lacking true is = refl
not_lacking false is = absurd (cc is)

delivery_goes : (s : Setting) (ms : List Moment) (kind : Kind) → is_behind kind s ms ≡ true → lack_of_delivery kind (newest kind s ms) s ms ≡ None
delivery_goes s ms kind late =
    let below : position kind ms < newest kind s ms = grind (arith, nat_tests) in
    let off : nat_le (newest kind s ms) (position kind ms) ≡ false = grind (arith, nat_tests) in
    news_goes (nat_le (newest kind s ms) (position kind ms)) (is_watch_event kind (newest kind s ms) s ms) (Current (position kind ms)) (NotAWrite (newest kind s ms)) off
    (and_from (nat_lt (position kind ms) (newest kind s ms)) (is_of_kind kind (write_at (newest kind s ms) (writes s (played ms)))) late (newest_of_kind kind (writes s (played ms)) (omega (arith, below))))

pub turn_goes : (move : CollectMove) (s : Setting) (ms : List Moment) → IsSettlingMove move s ms → lack move s ms ≡ None
turn_goes (User call) s ms turn = absurd turn
turn_goes (Deliver kind to) s ms turn = ap (λ (n : ℕ). lack_of_delivery kind n s ms) turn.1 ∙ delivery_goes s ms kind (first_behind s ms kind turn.0)
turn_goes (Examine key) s ms turn = not_lacking (is_to_examine s ms key) turn.1.0

unsettled : (move : CollectMove) (s : Setting) (ms : List Moment) → IsSettlingMove move s ms → IsSettled s ms → ⊥
unsettled (User call) s ms turn settled = turn
unsettled (Deliver kind to) s ms turn settled = let some = turn.0 in let none = settled.0 in cc (some, none)
unsettled (Examine key) s ms turn settled = let due = turn.1.0 in let none = settled.1 key in cc (due, none)

-- ---- where a move of settling does not fit

full_by : (fits : Bool) (n events : ℕ) (result : Collected) → nat_lt n events ≡ fits → result ≡ (if fits then Done else Spent n) → (result ≡ Done → ⊥) → (result ≡ Spent n) × (events ≤ n)
full_by true n events result e is off = absurd (off is)
full_by false n events result e is off = (is, grind (arith, nat_tests))

pub turn_full : (move : CollectMove) (s : Setting) (ms : List Moment) (result : Collected) → IsSettlingMove move s ms → result ≡ answer move s ms → (result ≡ Done → ⊥) → EndsAs s ms result
turn_full move s ms result turn is off =
    let full = full_by (nat_lt (length ms) s.events) (length ms) s.events result refl (is ∙ ap (λ (why : Option CollectLack). answer_of why (length ms) s.events) (turn_goes move s ms turn)) off in
    subst (λ (r : Collected). EndsAs s ms r) (sym full.0) (refl, full.1, unsettled move s ms turn)

-- ---- many turns

pub settles_self : (now : ℤ) (s : Setting) (ms : List Moment) → Settles now s ms ms
settles_self now s [] = refl
settles_self now s (m ∷ ms) = inl refl
