-- The lines that are printed of a history are the text of a history.
use Rattle.std.proofs.Common.{◌≡◌, ◌<◌, ◌≤◌, ◌+◌, ◌^◌, ◌==◌, ℕ, false, List, [], ◌∷◌, ◌++◌, length, map, reverse, Ok, Some, refl, ap, sym, subst, ◌∙◌, codes, arith, append_assoc, append-nil}
use Rattle.std.proofs.lemmas.List.{reverse-append, length-reverse, length-map}
use Rattle.std.proofs.lemmas.List.Elements.{All-from_recursion, recursion_from_All}
use Rattle.std.proofs.lemmas.Grind.{flat_map-append}
use Rattle.std.specs.List.{flat_map, All, AllByRecursion}
use Rattle.std.specs.Str.{IsUtf8}
use Rattle.serde_json.specs.Data.{Data}
use Rattle.serde_json.specs.Read.{read, max_depth}
use Rattle.serde_json.specs.Written.{compact_text}
use Rattle.json.specs.Print.{escape_byte}
use Rattle.cmc_objects.specs.declared.entry.Entry.{Entry}
use Rattle.cmc_summary.specs.declared.summary.Summary.{Summary}
use Rattle.cmc_setup.specs.Setups.{Setup}
use Rattle.cmc_print.specs.Trees.{line_of}
use Rattle.cmc_report.specs.Trees.{entry_tree, scenario_line_tree, summary_tree}
use Rattle.cmc_report.specs.Text.{joined, entry_lines, history_lines}
use Rattle.cmc_lines.specs.declared.line.PrintedLine.{PrintedLine}
use Rattle.cmc_lines.specs.Shown.{line_of_entry}
use Rattle.cmc_entry_form.specs.Entries.{HasForm}
use Rattle.cmc_line_reading.specs.Histories.{IsTextOf, IsLineOf, IsSummaryOf, IsScenarioOf, IsOneLine, IsRest, AreLinesOf, IsHistoryOf, counts_of, text_of_lines}
use Rattle.cmc_line_reading.specs.Bodies.{AreEntries as AreLines}
use Rattle.cmc_line_reading.proofs.Bodies.{more_entries, closed, all_more, ended_more}
use Rattle.cmc_audit_laws.specs.Counted.{IsCount, IsCountedEntry}
use Rattle.cmc_audit_laws.specs.Typed.{IsTypedEntry}
use Rattle.cmc_audit_laws.specs.Printed.{IsValueOf, IsPrintableSummary, ArePrintableEntries, IsPrintedOf}
use Rattle.cmc_audit_laws.proofs.TextsRead.{Fits, text_read}
use Rattle.cmc_audit_laws.proofs.OneLines.{IsNoFeed, HasNoFeed, both, one_line}
use Rattle.cmc_audit_laws.proofs.TreesFit.{entry_fits, summary_fits}

-- ---- the lines without their line feeds

abbrev pub entry_text : ℕ → Entry → List ℕ
entry_text n e = compact_text (entry_tree n e)

abbrev pub entry_texts : List Entry → List (List ℕ)
entry_texts [] = []
entry_texts (e ∷ h) = entry_texts h ++ entry_text (length h + 1) e ∷ []

abbrev pub scenario_line : Data → List ℕ
scenario_line d = codes "{\"scenario\":" ++ (compact_text d ++ codes "}")

abbrev pub rest_texts : List Entry → Summary → List (List ℕ)
rest_texts h summary = entry_texts h ++ compact_text (summary_tree summary) ∷ []

abbrev all_texts : Data → List Entry → Summary → List (List ℕ)
all_texts d h summary = scenario_line d ∷ rest_texts h summary

-- ---- with them they are what is printed

pub scenario_ended : (d : Data) → line_of (scenario_line_tree d) ≡ scenario_line d ++ 10 ∷ []
unfolding line_of scenario_line_tree escape_byte
scenario_ended d =
    ap (λ t. codes "{\"scenario\":" ++ t) (append_assoc (compact_text d) (125 ∷ []) (10 ∷ [])) ∙ sym (ap (λ t. codes "{\"scenario\":" ++ t) (append_assoc (compact_text d) (codes "}") (10 ∷ [])))

entries_ended : (h : List Entry) → joined (entry_lines h) ≡ text_of_lines (entry_texts h)
unfolding line_of
entries_ended [] = refl
entries_ended (e ∷ h) =
    flat_map-append (λ line. line) (entry_lines h) ((entry_text (length h + 1) e ++ 10 ∷ []) ∷ [])
    ∙ (ap (λ t. t ++ ((entry_text (length h + 1) e ++ 10 ∷ []) ++ [])) (entries_ended h)
    ∙ sym (flat_map-append (λ line. line ++ 10 ∷ []) (entry_texts h) (entry_text (length h + 1) e ∷ [])))

rest_ended : (h : List Entry) (summary : Summary) → joined (entry_lines h ++ line_of (summary_tree summary) ∷ []) ≡ text_of_lines (rest_texts h summary)
unfolding line_of
rest_ended h summary =
    flat_map-append (λ line. line) (entry_lines h) ((compact_text (summary_tree summary) ++ 10 ∷ []) ∷ [])
    ∙ (ap (λ t. t ++ ((compact_text (summary_tree summary) ++ 10 ∷ []) ++ [])) (entries_ended h)
    ∙ sym (flat_map-append (λ line. line ++ 10 ∷ []) (entry_texts h) (compact_text (summary_tree summary) ∷ [])))

all_ended : (d : Data) (h : List Entry) (summary : Summary) → joined (history_lines d h summary) ≡ text_of_lines (all_texts d h summary)
unfolding history_lines
all_ended d h summary = ap (λ t. t ++ joined (entry_lines h ++ line_of (summary_tree summary) ∷ [])) (scenario_ended d) ∙ ap (λ t. (scenario_line d ++ 10 ∷ []) ++ t) (rest_ended h summary)

-- ---- each is a line of its kind

text_of : (n : ℕ) (d : Data) → n ≤ max_depth → Fits n d → IsUtf8 (compact_text d) → IsTextOf d (compact_text d)
text_of n d low fits utf8 = ((utf8, text_read n d low fits), refl)

five_levels : 5 ≤ max_depth
five_levels = omega arith

line_is : (n : ℕ) (e : Entry) → IsCount n → HasForm e → IsTypedEntry e → IsCountedEntry e → IsUtf8 (entry_text n e) → IsLineOf n (entry_text n e) (line_of_entry e)
line_is n e numbered form typed counted utf8 =
    record { entry = e; form = form; shows = refl; is = text_of 5 (entry_tree n e) five_levels (entry_fits n e numbered typed counted) utf8 }

shown_more : (e : Entry) (h : List Entry) → reverse (map line_of_entry h) ++ line_of_entry e ∷ [] ≡ reverse (map line_of_entry (e ∷ h))
shown_more e h = sym (reverse-append (line_of_entry e ∷ []) (map line_of_entry h))

shown_length : (h : List Entry) → 1 + length (reverse (map line_of_entry h)) ≡ length h + 1
shown_length h = omega (arith, length-reverse (map line_of_entry h), length-map h line_of_entry)

-- each of the texts is UTF-8
abbrev pub AreUtf8 : List (List ℕ) → Type 0
AreUtf8 texts = AllByRecursion IsUtf8 texts

utf8_front : (xs : List (List ℕ)) (y : List ℕ) → AreUtf8 (xs ++ y ∷ []) → AreUtf8 xs
utf8_front [] y all = tt
utf8_front (x ∷ xs) y all = (all.0, utf8_front xs y all.1)

utf8_last : (xs : List (List ℕ)) (y : List ℕ) → AreUtf8 (xs ++ y ∷ []) → IsUtf8 y
utf8_last [] y all = all.0
utf8_last (x ∷ xs) y all = utf8_last xs y all.1

entries_are : (h : List Entry) → ArePrintableEntries h → AreUtf8 (entry_texts h) → AreLines 1 (entry_texts h) (reverse (map line_of_entry h))
entries_are [] are utf8 = tt
entries_are (e ∷ h) are utf8 =
    let below : ArePrintableEntries h = record { formed = are.formed.1; typed = are.typed.1; counted = are.counted.1; few = omega (arith, are.few) } in
    let numbered : IsCount (length h + 1) = omega (arith, are.few) in
    let line = line_is (length h + 1) e numbered are.formed.0 are.typed.0 are.counted.0 (utf8_last (entry_texts h) (entry_text (length h + 1) e) utf8) in
    subst (AreLines 1 (entry_texts h ++ entry_text (length h + 1) e ∷ [])) (shown_more e h)
    (more_entries 1 (entry_texts h) (reverse (map line_of_entry h)) (entry_text (length h + 1) e) (line_of_entry e) (entries_are h below (utf8_front (entry_texts h) (entry_text (length h + 1) e) utf8))
    (subst (λ (n : ℕ). IsLineOf n (entry_text (length h + 1) e) (line_of_entry e)) (sym (shown_length h)) line))

one_each : (h : List Entry) → ArePrintableEntries h → AllByRecursion IsOneLine (entry_texts h)
one_each [] are = tt
one_each (e ∷ h) are =
    let below : ArePrintableEntries h = record { formed = are.formed.1; typed = are.typed.1; counted = are.counted.1; few = omega (arith, are.few) } in
    let numbered : IsCount (length h + 1) = omega (arith, are.few) in
    all_more (entry_texts h) (entry_text (length h + 1) e) (one_each h below) (one_line 5 (entry_tree (length h + 1) e) (entry_fits (length h + 1) e numbered are.typed.0 are.counted.0))

summary_is : (summary : Summary) → IsPrintableSummary summary → IsUtf8 (compact_text (summary_tree summary)) → IsSummaryOf (compact_text (summary_tree summary)) (counts_of summary)
summary_is summary is utf8 = record { summary = summary; form = is.form; counted = refl; is = text_of 4 (summary_tree summary) (omega arith) (summary_fits summary is.certificates is.ready is.secrets) utf8 }

-- the scenario's line is one line
no_feed_more : (xs ys : List ℕ) → IsOneLine xs → IsOneLine ys → IsOneLine (xs ++ ys)
no_feed_more xs ys one two = All-from_recursion IsNoFeed (xs ++ ys) (both xs ys (recursion_from_All IsNoFeed xs one) (recursion_from_All IsNoFeed ys two))

name_has_none : HasNoFeed (codes "{\"scenario\":")
name_has_none = (refl, (refl, (refl, (refl, (refl, (refl, (refl, (refl, (refl, (refl, (refl, (refl, tt))))))))))))

name_no_feed : IsOneLine (codes "{\"scenario\":")
name_no_feed = All-from_recursion IsNoFeed (codes "{\"scenario\":") name_has_none

bracket_has_none : HasNoFeed (codes "}")
bracket_has_none = (refl, tt)

bracket_no_feed : IsOneLine (codes "}")
bracket_no_feed = All-from_recursion IsNoFeed (codes "}") bracket_has_none

scenario_one_line : (d : Data) → IsOneLine (compact_text d) → IsOneLine (scenario_line d)
scenario_one_line d one = no_feed_more (codes "{\"scenario\":") (compact_text d ++ codes "}") name_no_feed (no_feed_more (compact_text d) (codes "}") one bracket_no_feed)

-- ---- the whole

pub text_is : (d : Data) (scenario : Setup) (h : List Entry) (summary : Summary) → IsValueOf d scenario → ArePrintableEntries h → IsPrintableSummary summary → IsUtf8 (compact_text d) → AreUtf8 (rest_texts h summary)
    → IsPrintedOf (joined (history_lines d h summary)) scenario h summary
text_is d scenario h summary value are is utf8 rest = record {
  lines = all_texts d h summary;
  is = record {
    whole = all_ended d h summary;
    one_each = (
      scenario_one_line d value.one_line,
      all_more (entry_texts h) (compact_text (summary_tree summary)) (one_each h are) (one_line 4 (summary_tree summary) (summary_fits summary is.certificates is.ready is.secrets)),
    );
  };
  are = (
    record { text = compact_text d; value = d; around = refl; is = ((utf8, value.again), refl); read = value.is },
    closed 1 (entry_texts h) (reverse (map line_of_entry h)) (compact_text (summary_tree summary)) (counts_of summary) (entries_are h are (utf8_front (entry_texts h) (compact_text (summary_tree summary)) rest))
        (summary_is summary is (utf8_last (entry_texts h) (compact_text (summary_tree summary)) rest)),
  );
}
