-- The text of a run: the scenario, the entries from the oldest on, and the summary, a line each.
use Rattle.std.specs.Prelude.{ℕ, List, [], ◌∷◌, ◌++◌, ◌+◌, length}
use Rattle.std.specs.List.{flat_map}
use Rattle.serde_json.specs.Data.{Data}
use Rattle.cmc_objects.specs.declared.entry.Entry.{Entry}
use Rattle.cmc_summary.specs.declared.summary.Summary.{Summary}
use Rattle.cmc_print.specs.Trees.{line_of}
use Rattle.cmc_report.specs.Trees.{scenario_line_tree, entry_tree, summary_tree}

-- Texts one after another.
abbrev pub joined : List (List ℕ) → List ℕ
joined lines = flat_map (λ line. line) lines

-- The lines of a history's entries, the oldest first: one for each, with its number, from 1.
abbrev pub entry_lines : List Entry → List (List ℕ)
entry_lines [] = []
entry_lines (e ∷ h) = entry_lines h ++ line_of (entry_tree (length h + 1) e) ∷ []

-- The lines of a run: the scenario, each entry of the history, whose newest entry stands at the head, and the summary.
unfoldable pub history_lines : Data → List Entry → Summary → List (List ℕ)
history_lines scenario history summary = line_of (scenario_line_tree scenario) ∷ (entry_lines history ++ line_of (summary_tree summary) ∷ [])

-- The line of the summary alone.
abbrev pub summary_lines : Summary → List (List ℕ)
summary_lines summary = line_of (summary_tree summary) ∷ []
