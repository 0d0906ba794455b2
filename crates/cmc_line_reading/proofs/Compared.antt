-- What was read of a line is what it says, and else it is no line.
use Rattle.std.proofs.Common.{◌≡◌, ◌≤◌, ℕ, List, Ok, Err, Some, None, ap, sym, subst, ◌∙◌}
use Rattle.std.specs.Str.{IsUtf8}
use Rattle.serde_json.specs.Data.{Data, depth}
use Rattle.serde_json.specs.Read.{read, max_depth}
use Rattle.serde_json.specs.Written.{compact_text}
use Rattle.serde_json.proofs.Nesting.{depth-read}
use Rattle.cmc_cursor.specs.Members.{Path, Read, Gives}
use Rattle.cmc_cursor.specs.declared.error.BadField.{BadField}
use Rattle.cmc_cursor.specs.declared.error.BadField.TheVariants as bad
use Rattle.cmc_report.specs.Trees.{entry_tree}
use Rattle.cmc_lines.specs.Shown.{line_of_entry}
use Rattle.cmc_lines.specs.LineTree.{line_tree}
use Rattle.cmc_lines.specs.declared.line.PrintedLine.{PrintedLine}
use Rattle.cmc_lines.proofs.LineLaws.{shows_all}
use Rattle.cmc_entry_form.specs.LineForm.{line_at}
use Rattle.cmc_entry_form.specs.Lines.{IsFormedRead}
use Rattle.cmc_line_reading.specs.Histories.{IsJson, IsTextOf, IsLine, IsLineOf}
use Rattle.cmc_entry_form.proofs.LinesAgain.{line_again}

-- ---- JSON

-- a text is read as one value alone
pub one_value : (text : List ℕ) (a b : Data) → IsJson text a → IsJson text b → a ≡ b
one_value text a b first second = some_same (sym first.1 ∙ second.1)
  where
    some_same : Some a ≡ Some b → a ≡ b
    some_same e = cc

pub never_read : (text : List ℕ) → (IsUtf8 text → read text ≡ None) → (d : Data) → IsJson text d → ⊥
never_read text none d is = cc (none is.0, is.1)

-- what is printed of the value is the text
pub printed_is : (text printed : List ℕ) (d : Data) → IsUtf8 text → printed ≡ compact_text d → read printed ≡ Some d → printed ≡ text → IsTextOf d text
printed_is text printed d utf8 compact reads same = ((utf8, subst (λ (t : List ℕ). read t ≡ Some d) same reads), sym same ∙ compact)

pub printed_is_not : (text printed : List ℕ) (d : Data) → printed ≡ compact_text d → (printed ≡ text → ⊥) → IsTextOf d text → ⊥
printed_is_not text printed d compact differs is = differs (compact ∙ sym is.1)

pub too_deep : (text : List ℕ) (d : Data) → (depth d ≤ max_depth → ⊥) → IsTextOf d text → ⊥
too_deep text d deep is = deep (depth-read text d is.0.1)

-- ---- lines of entries

-- what a line that is there says is read of its value
pub read_of_line : (n : ℕ) (text : List ℕ) (d : Data) (line : PrintedLine) → IsJson text d → IsLineOf n text line → line_at d ≡ Ok line
read_of_line n text d line value is =
    let same : d ≡ line_tree n (line_of_entry is.entry) = one_value text d (entry_tree n is.entry) value is.is.0 ∙ sym (shows_all n is.entry) in
    ap line_at same ∙ line_again n is.entry is.form ∙ ap (λ (p : PrintedLine). Ok p) is.shows

pub not_read : (n : ℕ) (text : List ℕ) (d : Data) (path : Path) → IsJson text d → line_at d ≡ Err path → IsLine n text → ⊥
not_read n text d path value fails is = cc (read_of_line n text d is.0 value is.1, fails)

pub not_given : (n : ℕ) (text : List ℕ) (d : Data) (e : BadField) (path : Path) → IsJson text d → e ≡ bad.Path path → Gives {X = PrintedLine} (λ t. t) (Err e) (line_at d) → IsLine n text → ⊥
not_given n text d e path value is gives line = not_read n text d path value (subst (λ (b : BadField). Gives {X = PrintedLine} (λ t. t) (Err b) (line_at d)) is gives) line

-- the tree of a line that is there is its text
pub text_of_line : (n : ℕ) (text : List ℕ) (line : PrintedLine) → IsLineOf n text line → IsTextOf (line_tree n line) text
text_of_line n text line is = subst (λ (d : Data). IsTextOf d text) (sym (shows_all n is.entry) ∙ ap (line_tree n) is.shows) is.is

abbrev as_read : PrintedLine → Read PrintedLine
as_read line = Ok line

pub not_printed : (n : ℕ) (text : List ℕ) (d : Data) (line : PrintedLine) → IsJson text d → line_at d ≡ Ok line → (IsTextOf (line_tree n line) text → ⊥) → IsLine n text → ⊥
not_printed n text d line value reads differs is =
    let same : is.0 ≡ line = ok_same (sym (read_of_line n text d is.0 value is.1) ∙ reads) in
    differs (subst (λ (p : PrintedLine). IsTextOf (line_tree n p) text) same (text_of_line n text is.0 is.1))
  where
    ok_same : as_read is.0 ≡ as_read line → is.0 ≡ line
    ok_same e = cc

pub printed_line : (n : ℕ) (text : List ℕ) (d : Data) (line : PrintedLine) → line_at d ≡ Ok line → IsFormedRead line → IsTextOf (line_tree n line) text → IsLineOf n text line
printed_line n text d line reads formed is = let e = formed d reads in record {
  entry = e.0;
  form = e.1;
  shows = e.2;
  is = subst (λ (t : Data). IsTextOf t text) (sym (ap (line_tree n) e.2) ∙ shows_all n e.0) is;
}
