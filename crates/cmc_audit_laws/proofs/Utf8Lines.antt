-- What is printed of a run is UTF-8, line by line and without the line feeds.
use Rattle.std.proofs.Common.{◌≡◌, ◌<◌, ◌≤◌, ◌+◌, ℕ, zero, suc, List, [], ◌∷◌, ◌++◌, length, take, drop, map, refl, ap, sym, subst, ◌∙◌, codes, arith, length-append}
use Rattle.json.proofs.Printed.Utf8.{IsUtf8-are_ascii}
use Rattle.std.proofs.lemmas.Str.{IsUtf8-string_bytes, IsUtf8-take, IsUtf8-drop, IsCharBoundary-at_seam, IsCharBoundary-from_take}
use Rattle.std.proofs.Math.Seq.{take-append_seam, drop-append_seam}
use Rattle.std.specs.List.{AllByRecursion}
use Rattle.std.specs.Prelude.{string_bytes}
use Rattle.std.specs.Str.{IsUtf8, IsAscii}
use Rattle.std.specs.declared.string.String.{String}
use Rattle.serde_json.specs.Data.{Data}
use Rattle.serde_json.specs.Written.{compact_text}
use Rattle.cmc_objects.specs.declared.entry.Entry.{Entry}
use Rattle.cmc_summary.specs.declared.summary.Summary.{Summary}
use Rattle.cmc_print.specs.Trees.{line_of}
use Rattle.cmc_report.specs.Trees.{entry_tree, summary_tree}
use Rattle.cmc_report.specs.Text.{entry_lines, history_lines}
use Rattle.cmc_audit_laws.proofs.RunText.{AreUtf8, entry_text, entry_texts, rest_texts, scenario_line, scenario_ended}

-- ---- a text before and after ASCII

front_utf8 : (xs ys : List ℕ) → IsUtf8 ys → IsUtf8 (xs ++ ys) → IsUtf8 xs
front_utf8 xs ys end utf8 = subst IsUtf8 (take-append_seam xs ys) (IsUtf8-take (xs ++ ys) (length xs) utf8 (IsCharBoundary-at_seam (xs ++ ys) xs ys refl end))

back_utf8 : (xs ys : List ℕ) → IsUtf8 xs → IsUtf8 (xs ++ ys) → IsUtf8 ys
back_utf8 xs ys front utf8 =
    let within : length xs ≤ length (xs ++ ys) = omega (arith, length-append xs ys) in
    let at = IsCharBoundary-from_take (xs ++ ys) (length xs) utf8 within (subst IsUtf8 (sym (take-append_seam xs ys)) front) in
    subst IsUtf8 (drop-append_seam xs ys) (IsUtf8-drop (xs ++ ys) (length xs) utf8 at)

feed_utf8 : IsUtf8 (10 ∷ [])
feed_utf8 = IsUtf8-are_ascii (10 ∷ []) refl

bracket_utf8 : IsUtf8 (codes "}")
bracket_utf8 = IsUtf8-are_ascii (codes "}") refl

name_utf8 : IsUtf8 (codes "{\"scenario\":")
name_utf8 = IsUtf8-are_ascii (codes "{\"scenario\":") refl

-- ---- the lines

pub strings_utf8 : {Z : Type 0} (ss : List (String Z)) → AreUtf8 (map string_bytes ss)
strings_utf8 [] = tt
strings_utf8 (s ∷ ss) = (IsUtf8-string_bytes s, strings_utf8 ss)

both_utf8 : (xs ys : List (List ℕ)) → AreUtf8 xs → AreUtf8 ys → AreUtf8 (xs ++ ys)
both_utf8 [] ys a b = b
both_utf8 (x ∷ xs) ys a b = (a.0, both_utf8 xs ys a.1 b)

first_utf8 : (xs ys : List (List ℕ)) → AreUtf8 (xs ++ ys) → AreUtf8 xs
first_utf8 [] ys all = tt
first_utf8 (x ∷ xs) ys all = (all.0, first_utf8 xs ys all.1)

second_utf8 : (xs ys : List (List ℕ)) → AreUtf8 (xs ++ ys) → AreUtf8 ys
second_utf8 [] ys all = all
second_utf8 (x ∷ xs) ys all = second_utf8 xs ys all.1

without_feed : (d : Data) → IsUtf8 (line_of d) → IsUtf8 (compact_text d)
unfolding line_of
without_feed d utf8 = front_utf8 (compact_text d) (10 ∷ []) feed_utf8 utf8

entries_utf8 : (h : List Entry) → AreUtf8 (entry_lines h) → AreUtf8 (entry_texts h)
entries_utf8 [] all = tt
entries_utf8 (e ∷ h) all =
    let tree = entry_tree (length h + 1) e in
    both_utf8 (entry_texts h) (entry_text (length h + 1) e ∷ []) (entries_utf8 h (first_utf8 (entry_lines h) (line_of tree ∷ []) all))
    (without_feed tree (second_utf8 (entry_lines h) (line_of tree ∷ []) all).0, tt)

value_utf8 : (d : Data) → IsUtf8 (scenario_line d ++ 10 ∷ []) → IsUtf8 (compact_text d)
value_utf8 d utf8 =
    let line = front_utf8 (scenario_line d) (10 ∷ []) feed_utf8 utf8 in
    front_utf8 (compact_text d) (codes "}") bracket_utf8 (back_utf8 (codes "{\"scenario\":") (compact_text d ++ codes "}") name_utf8 line)

pub record AreParts (d : Data) (h : List Entry) (summary : Summary) : Type 0 where
  pub value : IsUtf8 (compact_text d)
  pub rest : AreUtf8 (rest_texts h summary)

pub parts_utf8 : (d : Data) (h : List Entry) (summary : Summary) → AreUtf8 (history_lines d h summary) → AreParts d h summary
unfolding history_lines
parts_utf8 d h summary all = record {
  value = value_utf8 d (subst IsUtf8 (scenario_ended d) all.0);
  rest = both_utf8 (entry_texts h) (compact_text (summary_tree summary) ∷ []) (entries_utf8 h (first_utf8 (entry_lines h) (line_of (summary_tree summary) ∷ []) all.1))
      (without_feed (summary_tree summary) (second_utf8 (entry_lines h) (line_of (summary_tree summary) ∷ []) all.1).0, tt);
}
