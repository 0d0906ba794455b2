-- A text is cut into lines in one way, so that one which fails is that of no history.
use Rattle.std.proofs.Common.{◌≡◌, ◌⊎◌, inl, inr, ℕ, suc, ◌+◌, ◌==◌, List, [], ◌∷◌, ◌++◌, false, refl, ap, sym, subst, ◌∙◌, arith, append_assoc, append-nil}
use Rattle.std.specs.List.{AllByRecursion}
use Rattle.cmc_lines.specs.declared.line.PrintedLine.{PrintedLine}
use Rattle.cmc_setup.specs.declared.scenario.Scenario.{Scenario}
use Rattle.cmc_line_reading.specs.Histories.{IsOneLine, IsRest, GoesOn, CanBegin, AreLines, AreLinesOf, IsHistory, HistoryFailsAt, GoesWrong, EndsEarly, text_of_lines}
use Rattle.cmc_line_reading.proofs.Bodies.{all_more, taken}

first_other : (c : ℕ) (cs : List ℕ) → IsOneLine (c ∷ cs) → (c == 10) ≡ false
first_other c cs one = one 0 0 (omega arith)

later_one : (c : ℕ) (cs : List ℕ) → IsOneLine (c ∷ cs) → IsOneLine cs
later_one c cs one = λ k d within. one (suc k) d (omega arith)

feed_is_feed : (c : ℕ) → (c == 10) ≡ false → 10 ≡ c → ⊥
feed_is_feed c other e = cc (subst (λ (x : ℕ). (x == 10) ≡ false) (sym e) other)

pub record IsSame (a b x y : List ℕ) : Type 0 where
  pub fronts : a ≡ b
  pub backs : x ≡ y

same_cut : (a b x y : List ℕ) → IsOneLine a → IsOneLine b → a ++ 10 ∷ x ≡ b ++ 10 ∷ y → IsSame a b x y
same_cut [] [] x y one two e = record { fronts = refl; backs = cc }
same_cut [] (d ∷ ds) x y one two e = absurd (feed_is_feed d (first_other d ds two) (cc e))
same_cut (c ∷ cs) [] x y one two e = absurd (feed_is_feed c (first_other c cs one) (cc e))
same_cut (c ∷ cs) (d ∷ ds) x y one two e =
    let heads : c ≡ d = cc in
    let rest = same_cut cs ds x y (later_one c cs one) (later_one d ds two) (cc e) in
    record { fronts = ap (λ (z : ℕ). z ∷ cs) heads ∙ ap (λ (t : List ℕ). d ∷ t) rest.fronts; backs = rest.backs }

has_feed : (line later : List ℕ) → IsOneLine (line ++ 10 ∷ later) → ⊥
has_feed [] later one = feed_is_feed 10 (first_other 10 later one) refl
has_feed (c ∷ cs) later one = has_feed cs later (later_one c (cs ++ 10 ∷ later) one)

-- the first line, and all that comes behind it
pub apart : (line : List ℕ) (lines : List (List ℕ)) (rest : List ℕ) → text_of_lines (line ∷ lines) ++ rest ≡ line ++ 10 ∷ (text_of_lines lines ++ rest)
apart line lines rest = append_assoc (line ++ 10 ∷ []) (text_of_lines lines) rest ∙ append_assoc line (10 ∷ []) (text_of_lines lines ++ rest)

pub some_text : (line later : List ℕ) → line ++ 10 ∷ later ≡ [] → ⊥
some_text [] later e = cc
some_text (c ∷ cs) later e = cc

-- the lines go on behind the first of them
pub record GoOn (lines others : List (List ℕ)) (rest : List ℕ) : Type 0 where
  pub more : List (List ℕ)
  pub same : others ≡ lines ++ more
  pub left : rest ≡ text_of_lines more

pub go_on : (lines others : List (List ℕ)) (rest : List ℕ) → AllByRecursion IsOneLine lines → AllByRecursion IsOneLine others → text_of_lines lines ++ rest ≡ text_of_lines others → GoOn lines others rest
go_on [] others rest one two e = record { more = others; same = refl; left = e }
go_on (l ∷ ls) [] rest one two e = absurd (some_text l (text_of_lines ls ++ rest) (sym (apart l ls rest) ∙ e))
go_on (l ∷ ls) (m ∷ ms) rest one two e =
    let cut = same_cut l m (text_of_lines ls ++ rest) (text_of_lines ms) one.0 two.0 (sym (apart l ls rest) ∙ e ∙ append_assoc m (10 ∷ []) (text_of_lines ms)) in
    let later = go_on ls ms rest one.1 two.1 cut.backs in
    record { more = later.more; same = ap (λ (x : List ℕ). x ∷ ms) (sym cut.fronts) ∙ ap (λ (xs : List (List ℕ)). l ∷ xs) later.same; left = later.left }

-- ---- the first lines of a history can begin one

none_before : (lines more : List (List ℕ)) → lines ++ more ≡ [] → lines ≡ []
none_before [] more e = refl
none_before (l ∷ ls) more e = cc

rest_begins : (n : ℕ) (lines more : List (List ℕ)) (es : List PrintedLine) (counts : List ℕ) → IsRest n (lines ++ more) es counts → GoesOn n lines
rest_begins n [] more es counts is = tt
rest_begins n (l ∷ ls) more [] counts is = inr ((counts, is.0), none_before ls more is.1)
rest_begins n (l ∷ ls) more (e ∷ es) counts is = inl ((e, is.0), rest_begins (n + 1) ls more es counts is.1)

begins : (lines more : List (List ℕ)) (scenario : Scenario) (es : List PrintedLine) (counts : List ℕ) → AreLinesOf (lines ++ more) scenario es counts → CanBegin lines
begins [] more scenario es counts are = tt
begins (l ∷ ls) more scenario es counts are = ((scenario, are.0), rest_begins 1 ls more es counts are.1)

-- ---- what fails is no history

goes_wrong : (text : List ℕ) (lines : List (List ℕ)) → AllByRecursion IsOneLine lines → GoesWrong CanBegin text lines → IsHistory text → ⊥
goes_wrong text lines one wrong history =
    let is = history.3 in
    let there = go_on (lines ++ wrong.line ∷ []) is.lines wrong.later (all_more lines wrong.line one wrong.is_one) is.is.one_each (sym (taken text (wrong.line ++ 10 ∷ wrong.later) wrong.line wrong.later lines wrong.parts refl) ∙ is.is.whole) in
    wrong.wrong (begins (lines ++ wrong.line ∷ []) there.more history.0 history.1 history.2
    (subst (λ (ls : List (List ℕ)). AreLinesOf ls history.0 history.1 history.2) there.same is.are))

ends_there : (text : List ℕ) (lines more others : List (List ℕ)) (early : EndsEarly AreLines text lines) → others ≡ lines ++ more → early.rest ≡ text_of_lines more → AreLines others → ⊥
ends_there text lines [] others early same left are = early.missing left (subst AreLines (same ∙ append-nil lines) are)
ends_there text lines (m ∷ ms) others early same left are = has_feed m (text_of_lines ms) (subst IsOneLine (left ∙ append_assoc m (10 ∷ []) (text_of_lines ms)) early.is_one)

ends_early : (text : List ℕ) (lines : List (List ℕ)) → AllByRecursion IsOneLine lines → EndsEarly AreLines text lines → IsHistory text → ⊥
ends_early text lines one early history =
    let is = history.3 in
    let there = go_on lines is.lines early.rest one is.is.one_each (sym early.parts ∙ is.is.whole) in
    ends_there text lines there.more is.lines early there.same there.left (history.0, history.1, history.2, is.are)

fails : (text : List ℕ) (lines : List (List ℕ)) → AllByRecursion IsOneLine lines → GoesWrong CanBegin text lines ⊎ EndsEarly AreLines text lines → IsHistory text → ⊥
fails text lines one (inl wrong) history = goes_wrong text lines one wrong history
fails text lines one (inr early) history = ends_early text lines one early history

-- a text that fails at some line is not that of a history
pub never_history : (text : List ℕ) (number : ℕ) → HistoryFailsAt text number → IsHistory text → ⊥
never_history text number at history = fails text at.before at.one_each at.here history
