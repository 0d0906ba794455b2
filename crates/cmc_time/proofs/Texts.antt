-- Each small reader reads its piece of a text, and nothing else.
use Rattle.std.proofs.Common.{◌≡◌, ℕ, ◌+◌, ◌-◌, ◌*◌, ◌/◌, ◌%◌, ◌<◌, ◌&&◌, true, List, [], ◌∷◌, ◌++◌, length, take, Some, refl, sym, ap, ◌∙◌, arith, take_at, drop_at, take-append-drop}
use Rattle.std.proofs.lemmas.Bool.Decides.{nat_tests}
use Rattle.std.proofs.lemmas.Option.{none-some}
use Rattle.std.proofs.lemmas.Slice.Eq.{bytes_eq-Decides}
use Rattle.std.specs.Int.{IsInRange, is_in_range}
use Rattle.cmc_time.specs.Texts.{two_digits, four_digits, after_year, HasTwoDigits}
use Rattle.cmc_time.specs.TimeTexts.{mark_at, two_digits_at, four_digits_at, marked_at, moment_of_year_at}
use Rattle.cmc_time.specs.declared.moment.Moment.{Moment}
use Rattle.cmc_time.proofs.Steps.{bind_some, guard_some}

pub mark_again : (mark rest : List ℕ) → mark_at mark (mark ++ rest) ≡ Some rest
unfolding mark_at
mark_again mark rest = rw (take_at mark rest _ refl, (bytes_eq-Decides mark mark).1 refl, drop_at mark rest _ refl)

pub mark_found : (mark text rest : List ℕ) → mark_at mark text ≡ Some rest → text ≡ mark ++ rest
unfolding mark_at
mark_found mark text rest e =
    let passed = guard_some _ _ _ e in
    let front = (bytes_eq-Decides (take (length mark) text) mark).0 passed.0 in
    sym (take-append-drop (length mark) text) ∙ rw (front, passed.1)

pub two_digits_again : (n : ℕ) (rest : List ℕ) → n < 100 → two_digits_at (two_digits n ++ rest) ≡ Some (n, rest)
unfolding two_digits_at
two_digits_again n rest small =
    let digits : (is_in_range 48 57 (48 + n / 10) && is_in_range 48 57 (48 + n % 10)) ≡ true = grind (arith, nat_tests) in
    let value : (48 + n / 10 - 48) * 10 + (48 + n % 10 - 48) ≡ n = omega arith in
    rw (digits, value)

pub two_digits_found : (text : List ℕ) (p : ℕ × List ℕ) → two_digits_at text ≡ Some p → (p.0 < 100) × (text ≡ two_digits p.0 ++ p.1)
unfolding two_digits_at
two_digits_found [] p e = absurd (none-some _ e)
two_digits_found (high ∷ []) p e = absurd (none-some _ e)
two_digits_found (high ∷ low ∷ text) p e =
    let passed = guard_some _ _ _ e in
    let test = passed.0 in
    let value : (high - 48) * 10 + (low - 48) ≡ p.0 = ap (λ q. q.0) passed.1 in
    let left : text ≡ p.1 = ap (λ q. q.1) passed.1 in
    let digits : IsInRange 48 57 high × IsInRange 48 57 low = grind (arith, nat_tests) in
    let first : 48 + p.0 / 10 ≡ high = omega arith in
    let second : 48 + p.0 % 10 ≡ low = omega arith in
    (omega arith, rw (first, second, left))

pub four_digits_again : (n : ℕ) (rest : List ℕ) → n < 10000 → four_digits_at (four_digits n ++ rest) ≡ Some (n, rest)
unfolding four_digits_at
four_digits_again n rest small =
    let value : n / 100 * 100 + n % 100 ≡ n = omega arith in
    rw (two_digits_again (n / 100) (two_digits (n % 100) ++ rest) (omega arith), two_digits_again (n % 100) rest (omega arith), value)

pub four_digits_found : (text : List ℕ) (n : ℕ) (rest : List ℕ) → four_digits_at text ≡ Some (n, rest) → (n < 10000) × (text ≡ four_digits n ++ rest)
unfolding four_digits_at
four_digits_found text n rest e =
    let century = bind_some (two_digits_at text) _ (n, rest) e in
    let year = bind_some (two_digits_at century.0.1) _ (n, rest) century.2 in
    let high = two_digits_found text century.0 century.1 in
    let low = two_digits_found century.0.1 year.0 year.1 in
    let same = guard_some true _ (n, rest) year.2 in
    let value : century.0.0 * 100 + year.0.0 ≡ n = ap (λ q. q.0) same.1 in
    let left : year.0.1 ≡ rest = ap (λ q. q.1) same.1 in
    let first : n / 100 ≡ century.0.0 = omega arith in
    let second : n % 100 ≡ year.0.0 = omega arith in
    (omega arith, rw (first, second) (high.1 ∙ ap (λ t. two_digits century.0.0 ++ t) (low.1 ∙ ap (λ t. two_digits year.0.0 ++ t) left)))

pub marked_again : (mark : List ℕ) (n : ℕ) (rest : List ℕ) → n < 100 → marked_at mark (mark ++ (two_digits n ++ rest)) ≡ Some (n, rest)
unfolding marked_at
marked_again mark n rest small = rw (mark_again mark (two_digits n ++ rest)) (two_digits_again n rest small)

pub marked_found : (mark text : List ℕ) (p : ℕ × List ℕ) → marked_at mark text ≡ Some p → (p.0 < 100) × (text ≡ mark ++ (two_digits p.0 ++ p.1))
unfolding marked_at
marked_found mark text p e =
    let after = bind_some (mark_at mark text) _ p e in
    let digits = two_digits_found after.0 p after.2 in
    (digits.0, mark_found mark text after.0 after.1 ∙ ap (λ t. mark ++ t) digits.1)

pub moment_again : (date middle time : List ℕ) (m : Moment) → HasTwoDigits m → moment_of_year_at m.year date middle time (after_year date middle time m) ≡ Some m
unfolding moment_of_year_at
moment_again date middle time m h =
    rw (
      marked_again date m.month _ h.month,
      marked_again date m.day _ h.day,
      marked_again middle m.hour _ h.hour,
      marked_again time m.minute _ h.minute,
      marked_again time m.second _ h.second,
    )

pub moment_found : (year : ℕ) (date middle time text : List ℕ) (m : Moment) → moment_of_year_at year date middle time text ≡ Some m → (m.year ≡ year) × (text ≡ after_year date middle time m)
unfolding moment_of_year_at
moment_found year date middle time text m e =
    let month = bind_some (marked_at date text) _ m e in
    let day = bind_some (marked_at date month.0.1) _ m month.2 in
    let hour = bind_some (marked_at middle day.0.1) _ m day.2 in
    let minute = bind_some (marked_at time hour.0.1) _ m hour.2 in
    let second = bind_some (marked_at time minute.0.1) _ m minute.2 in
    let read : Moment = record { year = year; month = month.0.0; day = day.0.0; hour = hour.0.0; minute = minute.0.0; second = second.0.0 } in
    let passed = guard_some _ read m second.2 in
    let end = (bytes_eq-Decides second.0.1 (90 ∷ [])).0 passed.0 in
    let of_month = (marked_found date text month.0 month.1).1 in
    let of_day = (marked_found date month.0.1 day.0 day.1).1 in
    let of_hour = (marked_found middle day.0.1 hour.0 hour.1).1 in
    let of_minute = (marked_found time hour.0.1 minute.0 minute.1).1 in
    let of_second = (marked_found time minute.0.1 second.0 second.1).1 in
    let shown : text ≡ after_year date middle time read = cc in
    (sym (ap (λ q. q.year) passed.1), shown ∙ ap (after_year date middle time) passed.1)
