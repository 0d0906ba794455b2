-- The line of the scenario and what stands behind it make the text of a history.
use Rattle.std.proofs.Common.{◌≡◌, ◌⊎◌, inl, inr, ℕ, suc, ◌+◌, List, [], ◌∷◌, ◌++◌, length, Ok, Err, refl, ap, sym, subst, ◌∙◌, arith, append_assoc}
use Rattle.std.specs.declared.result.Result.{Result}
use Rattle.cmc_setup.specs.declared.scenario.Scenario.{Scenario}
use Rattle.cmc_lines.specs.declared.line.PrintedLine.{PrintedLine}
use Rattle.cmc_lines.specs.declared.printed.Printed.{Printed}
use Rattle.cmc_line_reading.specs.declared.history.BadHistory.{BadHistory}
use Rattle.cmc_line_reading.specs.declared.history.BadHistory.TheVariants as bad
use Rattle.cmc_line_reading.specs.Histories.{IsScenario, IsScenarioOf, IsOneLine, IsHistory, IsHistoryOf, GoesOn, CanBegin, AreLines, HistoryFailsAt, GoesWrong, EndsEarly, IsReading, text_of_lines}
use Rattle.cmc_line_reading.specs.Bodies.{IsCut, IsBodyOf, IsRestReading, AreRest, BodyFails}
use Rattle.cmc_line_reading.proofs.Cuts.{never_history}

-- the first line, and lines behind it
grouped : (line later : List ℕ) (lines : List (List ℕ)) (rest : List ℕ) → later ≡ text_of_lines lines ++ rest → line ++ 10 ∷ later ≡ text_of_lines (line ∷ lines) ++ rest
grouped line later lines rest parts =
    ap (λ t. line ++ 10 ∷ t) parts ∙ sym (append_assoc line (10 ∷ []) (text_of_lines lines ++ rest)) ∙ sym (append_assoc (line ++ 10 ∷ []) (text_of_lines lines) rest)

pub whole_read : (text line later : List ℕ) (scenario : Scenario) (es : List PrintedLine) (counts : List ℕ) → IsCut text line later → IsScenarioOf line scenario → IsBodyOf later es counts → IsHistoryOf text scenario es counts
whole_read text line later scenario es counts cut is body = record {
  lines = line ∷ body.lines;
  is = record {
    whole = cut.whole ∙ ap (λ t. line ++ 10 ∷ t) body.is.whole ∙ sym (append_assoc line (10 ∷ []) (text_of_lines body.lines));
    one_each = (cut.is_one, body.is.one_each);
  };
  are = (is, body.are);
}

closed_by : (line : List ℕ) (lines : List (List ℕ)) → AreLines (line ∷ lines) → AreRest lines
closed_by line lines whole = (whole.1, whole.2, whole.3.1)

fails_there : (text line later : List ℕ) (lines : List (List ℕ)) → IsCut text line later → GoesWrong (GoesOn 1) later lines ⊎ EndsEarly AreRest later lines → GoesWrong CanBegin text (line ∷ lines) ⊎ EndsEarly AreLines text (line ∷ lines)
fails_there text line later lines cut (inl here) = inl (record {
  line = here.line;
  later = here.later;
  parts = cut.whole ∙ grouped line later lines (here.line ++ 10 ∷ here.later) here.parts;
  is_one = here.is_one;
  wrong = λ stand. here.wrong stand.1;
})
fails_there text line later lines cut (inr here) = inr (record {
  rest = here.rest;
  parts = cut.whole ∙ grouped line later lines here.rest here.parts;
  is_one = here.is_one;
  missing = λ none whole. here.missing none (closed_by line lines whole);
})

pub whole_fails : (text line later : List ℕ) (number : ℕ) → IsCut text line later → IsScenario line → BodyFails later number → HistoryFailsAt text number
whole_fails text line later number cut is body = record {
  before = line ∷ body.fails.before;
  numbered = body.numbered ∙ ap (λ k. k + 1) body.fails.numbered ∙ one_on (length body.fails.before);
  one_each = (cut.is_one, body.fails.one_each);
  stand = (is, body.fails.stand);
  here = fails_there text line later body.fails.before cut body.fails.here;
}
  where
    one_on : (k : ℕ) → (k + 1) + 1 ≡ suc k + 1
    one_on k = omega arith

-- a text that fails is no history beside
fails_at : (text : List ℕ) (number : ℕ) → HistoryFailsAt text number → (IsHistory text → ⊥) × HistoryFailsAt text number
fails_at text number at = (never_history text number at, at)

pub first_fails : (text line later : List ℕ) → IsCut text line later → (IsScenario line → ⊥) → (IsHistory text → ⊥) × HistoryFailsAt text 1
first_fails text line later cut fails = fails_at text 1 (record {
  before = [];
  numbered = refl;
  one_each = tt;
  stand = tt;
  here = inl (record { line = line; later = later; parts = cut.whole; is_one = cut.is_one; wrong = λ stand. fails stand.0 });
})

pub none_fails : (text : List ℕ) → IsOneLine text → (IsHistory text → ⊥) × HistoryFailsAt text 1
none_fails text one = fails_at text 1 (record {
  before = [];
  numbered = refl;
  one_each = tt;
  stand = tt;
  here = inr (record { rest = text; parts = refl; is_one = one; missing = λ none whole. whole.3 });
})

pub whole_reading : (text line later : List ℕ) (scenario : Scenario) (r : Result Printed BadHistory) → IsCut text line later → IsScenarioOf line scenario → IsRestReading scenario later r → IsReading text r
whole_reading text line later scenario (Ok printed) cut is body =
    subst (λ (s : Scenario). IsHistoryOf text s printed.entries printed.counts) (sym body.0) (whole_read text line later scenario printed.entries printed.counts cut is body.1)
whole_reading text line later scenario (Err (bad.Line number)) cut is body = fails_at text number (whole_fails text line later number cut (scenario, is) body)
whole_reading text line later scenario (Err bad.NoMemory) cut is body = tt
