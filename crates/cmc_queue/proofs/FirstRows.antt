-- Where the first row stands of which a test holds, once a row has changed or was put in.
use Rattle.std.proofs.Common.{◌≡◌, ℕ, ◌+◌, ◌-◌, ◌<◌, ◌≤◌, List, length, Option, Some, None, Bool, true, false, sym, ap, subst, ◌∙◌, arith, ⊎_elim, get_or, inl, inr}
use Rattle.std.proofs.lemmas.Bool.{cases_lt}
use Rattle.std.proofs.lemmas.Option.{slice_get_cases, slice_get_within}
use Rattle.std.specs.Prelude.{slice_get, ◌⊎◌}
use Rattle.cmc_meta.specs.declared.key.Key.{Key}
use Rattle.cmc_queue.specs.declared.row.Row.{Row}
use Rattle.cmc_queue.specs.declared.spots.Spot.{Spot}
use Rattle.cmc_queue.specs.Queues.{one_if, count_of}
use Rattle.cmc_queue.specs.Spots.{HoldsOfNoneBefore, IsFirstAt, IsPlaceFrom, IsPutIn, IsRewritten, IsSpot}
use Rattle.cmc_queue.specs.Rows.{no_row}
use Rattle.cmc_queue.proofs.Counts.{Counted, counted, none_counted}

off_on : (b : Bool) → b ≡ true → b ≡ false → ⊥
off_on b on off = cc (on, off)

-- a place is lower, the same or higher
abbrev pub Compared : ℕ → ℕ → Type 0
Compared i j = (i < j) ⊎ ((i ≡ j) ⊎ (j < i))

compared : (i j : ℕ) → Compared i j
compared i j = ⊎_elim (λ low. inl low) (λ high. ⊎_elim (λ above. inr (inr above)) (λ same. inr (inl (omega (arith, high, same)))) (cases_lt j i)) (cases_lt i j)

module _ (test : Row → Bool) where
  same_row : (o : Option (Key × Row)) (e f : Key × Row) → o ≡ Some e → o ≡ Some f → e.1 ≡ f.1
  same_row o e f one other = cc

  -- a place before which the test holds of no row, and from which the search comes to another, which is the first where there is one
  pub first_from : (rows : List (Key × Row)) (from place : ℕ) → HoldsOfNoneBefore test rows from → IsPlaceFrom test rows from place → 0 < count_of test rows → IsFirstAt test rows place
  first_from rows from place none p some = by (slice_get_cases rows place).1
    where
      before : HoldsOfNoneBefore test rows place
      before i e lt is = ⊎_elim (λ low. none i e low is) (λ high. p.before i e high lt is) (cases_lt i from)

      c : Counted test rows
      c = counted test rows some

      by : ((x : Key × Row) × (place < length rows) × (slice_get rows place ≡ Some x) × (get_or rows place x ≡ x)) ⊎ ((length rows ≤ place) × (slice_get rows place ≡ None)) → IsFirstAt test rows place
      by (inl q) = record { row = q.0; stands = q.2; holds = p.here q.0 q.2; first = before }
      by (inr q) = let within = slice_get_within rows c.place c.row c.stands in let end = q.0 in absurd (off_on (test c.row.1) c.holds (before c.place c.row (omega (arith, within, end)) c.stands))

  -- the rows that the test holds of none of
  none_before : (rows : List (Key × Row)) (place : ℕ) → count_of test rows ≡ 0 → HoldsOfNoneBefore test rows place
  none_before rows place none i e lt at = none_counted test rows i e none at

  module _ (old new : List (Key × Row)) (at : ℕ) (was row : Row) (w : IsRewritten old new at was row) where
    other : (i : ℕ) (e : Key × Row) → (i ≡ at → ⊥) → slice_get new i ≡ Some e → slice_get old i ≡ Some e
    other i e apart is = sym (w.others i apart) ∙ is

    -- no row before the place qualified, and so none does now
    pub here_first : test row ≡ true → HoldsOfNoneBefore test old at → IsFirstAt test new at
    here_first on none = record {
      row = (w.key, row);
      stands = w.after;
      holds = on;
      first = λ i e lt is. none i e lt (other i e (λ same. omega (arith, lt, same)) is);
    }

    -- the first row is another, and what changed does not come before it
    pub still_first : (place : ℕ) → (place ≡ at → ⊥) → IsFirstAt test old place → ((e : Key × Row) → at < place → slice_get new at ≡ Some e → test e.1 ≡ false) → IsFirstAt test new place
    still_first place apart f none = record {
      row = f.row;
      stands = w.others place apart ∙ f.stands;
      holds = f.holds;
      first = λ i e lt is. by i e lt is (compared i at);
    } where
      by : (i : ℕ) (e : Key × Row) → i < place → slice_get new i ≡ Some e → Compared i at → test e.1 ≡ false
      by i e lt is (inl low) = f.first i e lt (other i e (λ same. omega (arith, low, same)) is)
      by i e lt is (inr (inl same)) = none e (omega (arith, lt, same)) (subst (λ (j : ℕ). slice_get new j ≡ Some e) same is)
      by i e lt is (inr (inr high)) = f.first i e lt (other i e (λ same. omega (arith, high, same)) is)

    -- a row came to qualify
    pub spot_entered : (spot : Spot) → IsSpot test old spot → test was ≡ false → test row ≡ true → (spot.count ≡ 0) ⊎ (at < spot.first) → IsSpot test new (record { count = spot.count + 1; first = at })
    spot_entered spot s off on low = record {
      count = let whole = w.counts test in let c = s.count in let none : one_if (test was) ≡ 0 = ap one_if off in let one : one_if (test row) ≡ 1 = ap one_if on in omega (arith, whole, c, none, one);
      first = λ some. here_first on (before low);
      within = let long = slice_get_within new at (w.key, row) w.after in omega (arith, long);
    } where
      before : (spot.count ≡ 0) ⊎ (at < spot.first) → HoldsOfNoneBefore test old at
      before (inl none) = let c = s.count in none_before old at (omega (arith, c, none))
      before (inr lt) = ⊎_elim
          (λ some. λ i e below is. (s.first some).first i e (omega (arith, below, lt)) is)
          (λ none. let c = s.count in none_before old at (omega (arith, c, none)))
          (cases_lt 0 spot.count)

    -- and does not come before the first one
    pub spot_same : (spot : Spot) → IsSpot test old spot → test was ≡ false → test row ≡ true → 0 < spot.count → spot.first ≤ at → IsSpot test new (record { count = spot.count + 1; first = spot.first })
    spot_same spot s off on some high = record {
      count = let whole = w.counts test in let c = s.count in let none : one_if (test was) ≡ 0 = ap one_if off in let one : one_if (test row) ≡ 1 = ap one_if on in omega (arith, whole, c, none, one);
      first = λ _. still_first spot.first apart (s.first some) (λ e lt is. absurd (omega (arith, lt, high)));
      within = let within = s.within in let long = w.long in omega (arith, within, long);
    } where
      apart : spot.first ≡ at → ⊥
      apart is = let f = s.first some in
          let mine : f.row.1 ≡ was = same_row (slice_get old at) f.row (w.key, was) (sym (ap (λ (i : ℕ). slice_get old i) is) ∙ f.stands) w.before in
          off_on (test was) (ap test (sym mine) ∙ f.holds) off

    -- before the place of the first row that qualified, and at it, none does now
    pub none_up_to : (spot : Spot) → IsSpot test old spot → test row ≡ false → 0 < spot.count → at ≡ spot.first → HoldsOfNoneBefore test new (at + 1)
    none_up_to spot s off some is i e lt at_i = by (compared i at)
      where
        by : Compared i at → test e.1 ≡ false
        by (inl low) = (s.first some).first i e (omega (arith, low, is)) (other i e (λ same. omega (arith, low, same)) at_i)
        by (inr (inl same)) = let mine : e.1 ≡ row = same_row (slice_get new at) e (w.key, row) (sym (ap (λ (j : ℕ). slice_get new j) same) ∙ at_i) w.after in ap test mine ∙ off
        by (inr (inr high)) = absurd (omega (arith, lt, high))

    fewer : (spot : Spot) (count : ℕ) → IsSpot test old spot → test was ≡ true → test row ≡ false → count + 1 ≡ spot.count → count ≡ count_of test new
    fewer spot count s on off one = let whole = w.counts test in let c = s.count in let gone : one_if (test was) ≡ 1 = ap one_if on in let none : one_if (test row) ≡ 0 = ap one_if off in omega (arith, whole, c, gone, none, one)

    -- the first row qualifies no more
    pub spot_left_first : (spot : Spot) (count place : ℕ) → IsSpot test old spot → test was ≡ true → test row ≡ false → count + 1 ≡ spot.count → at ≡ spot.first → IsPlaceFrom test new (at + 1) place → IsSpot test new (record { count = count; first = place })
    spot_left_first spot count place s on off one is p = record {
      count = fewer spot count s on off one;
      first = λ some. first_from new (at + 1) place (none_up_to spot s off (omega (arith, one)) is) p (let c = fewer spot count s on off one in omega (arith, some, c));
      within = p.within;
    }

    -- another one does
    pub spot_left : (spot : Spot) (count : ℕ) → IsSpot test old spot → test was ≡ true → test row ≡ false → count + 1 ≡ spot.count → (0 < count → at ≡ spot.first → ⊥) → IsSpot test new (record { count = count; first = spot.first })
    spot_left spot count s on off one apart = record {
      count = fewer spot count s on off one;
      first = λ some. still_first spot.first (λ is. apart some (sym is)) (s.first (omega (arith, one)))
          (λ e lt is. let mine : e.1 ≡ row = same_row (slice_get new at) e (w.key, row) is w.after in ap test mine ∙ off);
      within = let within = s.within in let long = w.long in omega (arith, within, long);
    }

    -- none came to qualify, and none ceased to
    pub spot_stays : (spot : Spot) → IsSpot test old spot → test was ≡ test row → IsSpot test new spot
    spot_stays spot s same = record {
      count = let whole = w.counts test in let c = s.count in let one : one_if (test was) ≡ one_if (test row) = ap one_if same in omega (arith, whole, c, one);
      first = λ some. by some (compared spot.first at);
      within = let within = s.within in let long = w.long in omega (arith, within, long);
    } where
      none_at : (some : 0 < spot.count) (e : Key × Row) → at < spot.first → slice_get new at ≡ Some e → test e.1 ≡ false
      none_at some e lt is =
          let mine : e.1 ≡ row = same_row (slice_get new at) e (w.key, row) is w.after in
          ap test mine ∙ sym same ∙ (s.first some).first at (w.key, was) lt w.before

      by : (some : 0 < spot.count) → Compared spot.first at → IsFirstAt test new spot.first
      by some (inl low) = still_first spot.first (λ is. omega (arith, low, is)) (s.first some) (none_at some)
      by some (inr (inl is)) =
          let f = s.first some in
          let mine : f.row.1 ≡ was = same_row (slice_get old at) f.row (w.key, was) (sym (ap (λ (i : ℕ). slice_get old i) is) ∙ f.stands) w.before in
          subst (λ (i : ℕ). IsFirstAt test new i) (sym is)
          (here_first (sym same ∙ ap test (sym mine) ∙ f.holds) (subst (λ (i : ℕ). HoldsOfNoneBefore test old i) is f.first))
      by some (inr (inr high)) = still_first spot.first (λ is. omega (arith, high, is)) (s.first some) (none_at some)

  module _ (old new : List (Key × Row)) (key : Key) (at : ℕ) (p : IsPutIn old new key at) (off : test no_row ≡ false) where
    below_put : (place : ℕ) → place < at → IsFirstAt test old place → IsFirstAt test new place
    below_put place lt f = record {
      row = f.row;
      stands = p.below place lt ∙ f.stands;
      holds = f.holds;
      first = λ i e low is. f.first i e low (sym (p.below i (omega (arith, low, lt))) ∙ is);
    }

    above_put : (place : ℕ) → at ≤ place → IsFirstAt test old place → IsFirstAt test new (place + 1)
    above_put place high f = record {
      row = f.row;
      stands = p.above place high ∙ f.stands;
      holds = f.holds;
      first = λ i e low is. by i e low is (compared i at);
    } where
      by : (i : ℕ) (e : Key × Row) → i < place + 1 → slice_get new i ≡ Some e → Compared i at → test e.1 ≡ false
      by i e low is (inl lt) = f.first i e (omega (arith, lt, high)) (sym (p.below i lt) ∙ is)
      by i e low is (inr (inl same)) = let mine : e.1 ≡ no_row = same_row (slice_get new at) e (key, no_row) (sym (ap (λ (j : ℕ). slice_get new j) same) ∙ is) p.here in ap test mine ∙ off
      by i e low is (inr (inr gt)) =
          let next : (i - 1) + 1 ≡ i = omega (arith, gt) in
          f.first (i - 1) e (omega (arith, low, gt)) (sym (p.above (i - 1) (omega (arith, gt))) ∙ ap (λ (j : ℕ). slice_get new j) next ∙ is)

    pub spot_above : (spot : Spot) → IsSpot test old spot → at ≤ spot.first → IsSpot test new (record { count = spot.count; first = spot.first + 1 })
    spot_above spot s high = record {
      count = s.count ∙ sym (p.counts test off);
      first = λ some. above_put spot.first high (s.first some);
      within = let within = s.within in let long = p.long in omega (arith, within, long);
    }

    pub spot_below : (spot : Spot) → IsSpot test old spot → spot.first < at → IsSpot test new spot
    spot_below spot s low = record {
      count = s.count ∙ sym (p.counts test off);
      first = λ some. below_put spot.first low (s.first some);
      within = let within = s.within in let long = p.long in omega (arith, within, long);
    }
