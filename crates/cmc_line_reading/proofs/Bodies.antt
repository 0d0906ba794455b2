-- One line after another is read.
use Rattle.std.proofs.Common.{◌≡◌, ◌⊎◌, inl, inr, ℕ, suc, ◌+◌, ◌==◌, List, [], ◌∷◌, ◌++◌, length, Bool, true, false, Some, None, Option, refl, ap, sym, subst, ◌∙◌, codes, arith, append_assoc, append-nil, length-append}
use Rattle.std.specs.List.{AllByRecursion}
use Rattle.std.proofs.lemmas.Grind.{flat_map-append}
use Rattle.std.proofs.lemmas.List.Elements.{All-nil, All-cons}
use Rattle.std.proofs.lemmas.Bool.{eqb-true}
use Rattle.std.proofs.lemmas.Bool.Decides.{nat_tests}
use Rattle.serde_json.specs.Data.{Data}
use Rattle.serde_json.specs.Find.{get}
use Rattle.serde_json.specs.Read.{read}
use Rattle.cmc_objects.specs.declared.call.Call.{Call}
use Rattle.cmc_objects.specs.declared.call.Call.TheVariants.{Create, Update, UpdateStatus, Delete, Get}
use Rattle.cmc_objects.specs.declared.call.Reply.{Reply}
use Rattle.cmc_objects.specs.declared.entry.Who.{Who}
use Rattle.cmc_objects.specs.declared.entry.Entry.{Entry}
use Rattle.cmc_objects.specs.declared.entry.Entry.TheVariants as entries
use Rattle.cmc_summary.specs.declared.summary.Summary.{Summary}
use Rattle.cmc_report.specs.Trees.{entry_tree, summary_tree, counts_tree, put_call, put_told, put_begin}
use Rattle.cmc_lines.specs.declared.line.PrintedLine.{PrintedLine}
use Rattle.cmc_line_reading.specs.Histories.{IsLine, IsLineOf, IsSummary, IsSummaryOf, IsOneLine, IsRest, GoesOn, GoesWrong, EndsEarly, text_of_lines}
use Rattle.cmc_line_reading.specs.Bodies.{IsCut, AreEntries, IsReadSoFar, IsBodyOf, AreRest, BodyFails}

-- ---- no line is both that of an entry and a summary

is_given : Option Data → Bool
is_given None = false
is_given (Some d) = true

call_has_none : (n : ℕ) (who : Who) (call : Call) (reply : Reply) → get (codes "summary") (entry_tree n (entries.Call who call reply)) ≡ None
unfolding entry_tree put_call
call_has_none n who (Create o generate) reply = refl
call_has_none n who (Update o v) reply = refl
call_has_none n who (UpdateStatus o v) reply = refl
call_has_none n who (Delete key None) reply = refl
call_has_none n who (Delete key (Some v)) reply = refl
call_has_none n who (Get key) reply = refl

pub entry_has_none : (n : ℕ) (e : Entry) → get (codes "summary") (entry_tree n e) ≡ None
unfolding entry_tree put_told put_begin
entry_has_none n (entries.Script step) = refl
entry_has_none n (entries.Call who call reply) = call_has_none n who call reply
entry_has_none n (entries.Deliver role kind to) = refl
entry_has_none n (entries.List role kind to) = refl
entry_has_none n (entries.Begin pass role key at now) = refl
entry_has_none n (entries.Ask pass order) = refl
entry_has_none n (entries.Made pass key) = refl
entry_has_none n (entries.Signed pass signature) = refl
entry_has_none n (entries.Answered pass answer) = refl
entry_has_none n (entries.Judged pass approved) = refl
entry_has_none n (entries.End pass cause) = refl
entry_has_none n (entries.Stop role) = refl
entry_has_none n (entries.Start role at) = refl
entry_has_none n (entries.Tick now) = refl

pub summary_has_one : (s : Summary) → get (codes "summary") (summary_tree s) ≡ Some (counts_tree s)
unfolding summary_tree
summary_has_one s = refl

given_of : Option Data → Bool
given_of None = false
given_of (Some d) = is_given (get (codes "summary") d)

pub no_both : (n : ℕ) (text : List ℕ) → IsLine n text → IsSummary text → ⊥
unfolding is_given given_of
no_both n text line summary =
    let entry_read : read text ≡ Some (entry_tree n line.1.entry) = line.1.is.0.1 in
    let summary_read : read text ≡ Some (summary_tree summary.1.summary) = summary.1.is.0.1 in
    let no : given_of (read text) ≡ false = ap given_of entry_read ∙ ap is_given (entry_has_none n line.1.entry) in
    let yes : given_of (read text) ≡ true = ap given_of summary_read ∙ ap is_given (summary_has_one summary.1.summary) in
    cc

-- ---- lines of entries, and one more

one_on : (n k : ℕ) → (n + 1) + k ≡ n + suc k
one_on n k = omega arith

none_on : (n : ℕ) → n + 0 ≡ n
none_on n = omega arith

filled : (lines : List (List ℕ)) (line : List ℕ) → lines ++ line ∷ [] ≡ [] → ⊥
filled [] line e = cc
filled (l ∷ ls) line e = cc

pub entries_stand : (n : ℕ) (lines : List (List ℕ)) (es : List PrintedLine) → AreEntries n lines es → GoesOn n lines
entries_stand n [] [] are = tt
entries_stand n [] (e ∷ es) are = absurd are
entries_stand n (l ∷ ls) [] are = absurd are
entries_stand n (l ∷ ls) (e ∷ es) are = inl ((e, are.0), entries_stand (n + 1) ls es are.1)

-- what may come behind lines of entries
abbrev IsNext : ℕ → List ℕ → Type 0
IsNext n line = IsLine n line ⊎ IsSummary line

pub stands_by : (n : ℕ) (lines : List (List ℕ)) (es : List PrintedLine) (line : List ℕ) → AreEntries n lines es → GoesOn n (lines ++ line ∷ []) → IsNext (n + length es) line
stands_by n [] [] line are (inl (is, later)) = inl (subst (λ (k : ℕ). IsLine k line) (sym (none_on n)) is)
stands_by n [] [] line are (inr (is, later)) = inr is
stands_by n [] (e ∷ es) line are stand = absurd are
stands_by n (l ∷ ls) [] line are stand = absurd are
stands_by n (l ∷ ls) (e ∷ es) line are (inl (is, later)) = subst (λ (k : ℕ). IsNext k line) (one_on n (length es)) (stands_by (n + 1) ls es line are.1 later)
stands_by n (l ∷ ls) (e ∷ es) line are (inr (is, none)) = absurd (filled ls line none)

pub more_entries : (n : ℕ) (lines : List (List ℕ)) (es : List PrintedLine) (line : List ℕ) (e : PrintedLine) → AreEntries n lines es → IsLineOf (n + length es) line e → AreEntries n (lines ++ line ∷ []) (es ++ e ∷ [])
more_entries n [] [] line e are is = (subst (λ (k : ℕ). IsLineOf k line e) (none_on n) is, tt)
more_entries n [] (x ∷ es) line e are is = absurd are
more_entries n (l ∷ ls) [] line e are is = absurd are
more_entries n (l ∷ ls) (x ∷ es) line e are is = (are.0, more_entries (n + 1) ls es line e are.1 (subst (λ (k : ℕ). IsLineOf k line e) (sym (one_on n (length es))) is))

-- behind a summary nothing can stand
nothing_behind : (n : ℕ) (lines : List (List ℕ)) (es : List PrintedLine) (summary line : List ℕ) → AreEntries n lines es → IsSummary summary → GoesOn n (lines ++ summary ∷ line ∷ []) → ⊥
nothing_behind n [] [] summary line are is (inl (entry, later)) = no_both n summary entry is
nothing_behind n [] [] summary line are is (inr (same, none)) = cc
nothing_behind n [] (e ∷ es) summary line are is stand = absurd are
nothing_behind n (l ∷ ls) [] summary line are is stand = absurd are
nothing_behind n (l ∷ ls) (e ∷ es) summary line are is (inl (entry, later)) = nothing_behind (n + 1) ls es summary line are.1 is later
nothing_behind n (l ∷ []) (e ∷ es) summary line are is (inr (same, none)) = cc
nothing_behind n (l ∷ k ∷ ls) (e ∷ es) summary line are is (inr (same, none)) = cc

summary_stands : (n : ℕ) (lines : List (List ℕ)) (es : List PrintedLine) (line : List ℕ) → AreEntries n lines es → IsSummary line → GoesOn n (lines ++ line ∷ [])
summary_stands n [] [] line are is = inr (is, refl)
summary_stands n [] (e ∷ es) line are is = absurd are
summary_stands n (l ∷ ls) [] line are is = absurd are
summary_stands n (l ∷ ls) (e ∷ es) line are is = inl ((e, are.0), summary_stands (n + 1) ls es line are.1 is)

pub closed : (n : ℕ) (lines : List (List ℕ)) (es : List PrintedLine) (line counts : List ℕ) → AreEntries n lines es → IsSummaryOf line counts → IsRest n (lines ++ line ∷ []) es counts
closed n [] [] line counts are is = (is, refl)
closed n [] (e ∷ es) line counts are is = absurd are
closed n (l ∷ ls) [] line counts are is = absurd are
closed n (l ∷ ls) (e ∷ es) line counts are is = (are.0, closed (n + 1) ls es line counts are.1 is)

-- entries alone are not closed
not_closed : (n : ℕ) (lines : List (List ℕ)) (es others : List PrintedLine) (counts : List ℕ) → AreEntries n lines es → IsRest n lines others counts → ⊥
not_closed n [] [] others counts are rest = rest
not_closed n [] (e ∷ es) others counts are rest = are
not_closed n (l ∷ ls) [] others counts are rest = are
not_closed n (l ∷ ls) (e ∷ es) [] counts are rest = no_both n l (e, are.0) (counts, rest.0)
not_closed n (l ∷ ls) (e ∷ es) (o ∷ others) counts are rest = not_closed (n + 1) ls es others counts are.1 rest.1

same_length : (n : ℕ) (lines : List (List ℕ)) (es : List PrintedLine) → AreEntries n lines es → length lines ≡ length es
same_length n [] [] are = refl
same_length n [] (e ∷ es) are = absurd are
same_length n (l ∷ ls) [] are = absurd are
same_length n (l ∷ ls) (e ∷ es) are = ap suc (same_length (n + 1) ls es are.1)

-- ---- the text

pub all_more : (lines : List (List ℕ)) (line : List ℕ) → AllByRecursion IsOneLine lines → IsOneLine line → AllByRecursion IsOneLine (lines ++ line ∷ [])
all_more [] line all is = (is, tt)
all_more (l ∷ ls) line all is = (all.0, all_more ls line all.1 is)

pub ended_more : (lines : List (List ℕ)) (line : List ℕ) → text_of_lines (lines ++ line ∷ []) ≡ text_of_lines lines ++ (line ++ 10 ∷ [])
ended_more lines line = flat_map-append (λ l. l ++ 10 ∷ []) lines (line ∷ []) ∙ ap (λ t. text_of_lines lines ++ t) (append-nil (line ++ 10 ∷ []))

-- a line that was cut off goes to the lines before it
pub taken : (text left line later : List ℕ) (lines : List (List ℕ)) → text ≡ text_of_lines lines ++ left → left ≡ line ++ 10 ∷ later → text ≡ text_of_lines (lines ++ line ∷ []) ++ later
taken text left line later lines parts cut =
    parts ∙ ap (λ t. text_of_lines lines ++ t) cut ∙ ap (λ t. text_of_lines lines ++ t) (sym (append_assoc line (10 ∷ []) later))
    ∙ sym (append_assoc (text_of_lines lines) (line ++ 10 ∷ []) later) ∙ ap (λ t. t ++ later) (sym (ended_more lines line))

pub at_first : (text : List ℕ) → IsReadSoFar text text []
at_first text = record { lines = []; parts = refl; one_each = tt; are = tt }

pub one_more : (text left line later : List ℕ) (es : List PrintedLine) (e : PrintedLine) (n : ℕ) → n ≡ length es + 1 → IsCut left line later → IsLineOf n line e → IsReadSoFar text left es → IsReadSoFar text later (es ++ e ∷ [])
one_more text left line later es e n numbered cut is so_far = record {
  lines = so_far.lines ++ line ∷ [];
  parts = taken text left line later so_far.lines so_far.parts cut.whole;
  one_each = all_more so_far.lines line so_far.one_each cut.is_one;
  are = more_entries 1 so_far.lines es line e so_far.are (subst (λ (k : ℕ). IsLineOf k line e) (numbered ∙ turned (length es)) is);
}
  where
    turned : (k : ℕ) → k + 1 ≡ 1 + k
    turned k = omega arith

pub goes_wrong : (text left line later : List ℕ) (es : List PrintedLine) (n number : ℕ) → n ≡ length es + 1 → number ≡ n + 1 → IsCut left line later → (IsLine n line → ⊥) → (IsSummary line → ⊥) → IsReadSoFar text left es → BodyFails text number
goes_wrong text left line later es n number numbered placed cut no_entry no_summary so_far = record {
  place = n;
  numbered = placed;
  fails = record {
    before = so_far.lines;
    numbered = numbered ∙ ap (λ k. k + 1) (sym (same_length 1 so_far.lines es so_far.are));
    one_each = so_far.one_each;
    stand = entries_stand 1 so_far.lines es so_far.are;
    here = inl (record {
      line = line;
      later = later;
      parts = so_far.parts ∙ ap (λ t. text_of_lines so_far.lines ++ t) cut.whole;
      is_one = cut.is_one;
      wrong = λ stand. neither (stands_by 1 so_far.lines es line so_far.are stand);
    });
  };
}
  where
    turned : (k : ℕ) → 1 + k ≡ k + 1
    turned k = omega arith

    neither : IsNext (1 + length es) line → ⊥
    neither (inl entry) = no_entry (subst (λ (k : ℕ). IsLine k line) (turned (length es) ∙ sym numbered) entry)
    neither (inr summary) = no_summary summary

pub ends_early : (text left : List ℕ) (es : List PrintedLine) (n number : ℕ) → n ≡ length es + 1 → number ≡ n + 1 → IsOneLine left → IsReadSoFar text left es → BodyFails text number
ends_early text left es n number numbered placed is_one so_far = record {
  place = n;
  numbered = placed;
  fails = record {
    before = so_far.lines;
    numbered = numbered ∙ ap (λ k. k + 1) (sym (same_length 1 so_far.lines es so_far.are));
    one_each = so_far.one_each;
    stand = entries_stand 1 so_far.lines es so_far.are;
    here = inr (record { rest = left; parts = so_far.parts; is_one = is_one; missing = λ none whole. not_closed 1 so_far.lines es whole.0 whole.1 so_far.are whole.2 });
  };
}

all_read : (text left line : List ℕ) (es : List PrintedLine) (counts : List ℕ) → IsCut left line [] → IsSummaryOf line counts → IsReadSoFar text left es → IsBodyOf text es counts
all_read text left line es counts cut is so_far = record {
  lines = so_far.lines ++ line ∷ [];
  is = record {
    whole = taken text left line [] so_far.lines so_far.parts cut.whole ∙ append-nil (text_of_lines (so_far.lines ++ line ∷ []));
    one_each = all_more so_far.lines line so_far.one_each cut.is_one;
  };
  are = closed 1 so_far.lines es line counts so_far.are is;
}

-- a text has a first line, or is one without a line feed
record IsFirst (text : List ℕ) : Type 0 where
  line : List ℕ
  later : List ℕ
  cut : IsCut text line later

first_line : (text : List ℕ) → IsFirst text ⊎ IsOneLine text
first_line [] = inr (All-nil (λ c. (c == 10) ≡ false))
first_line (c ∷ cs) = by_test (c == 10) refl (first_line cs)
  where
    is_feed : (c == 10) ≡ true → c ≡ 10
    is_feed h = eqb-true c 10 h

    by_test : (b : Bool) → (c == 10) ≡ b → IsFirst cs ⊎ IsOneLine cs → IsFirst (c ∷ cs) ⊎ IsOneLine (c ∷ cs)
    by_test true h rest = inl (record { line = []; later = cs; cut = record { whole = ap (λ (x : ℕ). x ∷ cs) (is_feed h); is_one = All-nil (λ x. (x == 10) ≡ false) } })
    by_test false h (inl first) = inl (record { line = c ∷ first.line; later = first.later; cut = record { whole = ap (λ (t : List ℕ). c ∷ t) first.cut.whole; is_one = All-cons (λ x. (x == 10) ≡ false) c first.line h first.cut.is_one } })
    by_test false h (inr one) = inr (All-cons (λ x. (x == 10) ≡ false) c cs h one)

pub goes_past : (text left line later : List ℕ) (es : List PrintedLine) (counts : List ℕ) (n number : ℕ) → n ≡ length es + 1 → number ≡ n + 2 → (later ≡ [] → ⊥) → IsCut left line later → IsSummaryOf line counts → IsReadSoFar text left es → BodyFails text number
goes_past text left line later es counts n number numbered placed some cut is so_far = record {
  place = n + 1;
  numbered = placed ∙ two_on n;
  fails = record {
    before = so_far.lines ++ line ∷ [];
    numbered = ap (λ k. k + 1) (numbered ∙ ap (λ k. k + 1) (sym (same_length 1 so_far.lines es so_far.are)) ∙ sym (length-append so_far.lines (line ∷ [])));
    one_each = all_more so_far.lines line so_far.one_each cut.is_one;
    stand = summary_stands 1 so_far.lines es line so_far.are (counts, is);
    here = by_first (first_line later);
  };
}
  where
    two_on : (k : ℕ) → k + 2 ≡ (k + 1) + 1
    two_on k = omega arith

    by_first : IsFirst later ⊎ IsOneLine later → GoesWrong (GoesOn 1) text (so_far.lines ++ line ∷ []) ⊎ EndsEarly AreRest text (so_far.lines ++ line ∷ [])
    by_first (inl first) = inl (record {
      line = first.line;
      later = first.later;
      parts = taken text left line later so_far.lines so_far.parts cut.whole ∙ ap (λ t. text_of_lines (so_far.lines ++ line ∷ []) ++ t) first.cut.whole;
      is_one = first.cut.is_one;
      wrong = λ stand. nothing_behind 1 so_far.lines es line first.line so_far.are (counts, is) (subst (GoesOn 1) (append_assoc so_far.lines (line ∷ []) (first.line ∷ [])) stand);
    })
    by_first (inr one) = inr (record { rest = later; parts = taken text left line later so_far.lines so_far.parts cut.whole; is_one = one; missing = λ none whole. some none })

-- nothing comes behind, or something does
pub none_behind : (later : List ℕ) → true ≡ (length later == 0) → later ≡ []
none_behind [] h = refl
none_behind (x ∷ xs) h = absurd (more (length xs) (sym h))
  where
    more : (k : ℕ) → (suc k == 0) ≡ true → ⊥
    more k e = grind (arith, nat_tests)

pub some_behind : (later : List ℕ) → false ≡ (length later == 0) → later ≡ [] → ⊥
some_behind [] h none = cc
some_behind (x ∷ xs) h none = cc

pub closed_there : (text left line later : List ℕ) (es : List PrintedLine) (counts : List ℕ) → later ≡ [] → IsCut left line later → IsSummaryOf line counts → IsReadSoFar text left es → IsBodyOf text es counts
closed_there text left line later es counts none cut is so_far = all_read text left line es counts (subst (λ (t : List ℕ). IsCut left line t) none cut) is so_far
