-- The text of a collection: the scenario, the entries from the oldest on, and what was deleted and stands, a line each.
use Rattle.std.specs.Prelude.{ℕ, Bool, false, List, [], ◌∷◌, ◌++◌, ◌+◌, length, count_by, codes, Some}
use Rattle.std.specs.FinMap as finite
use Rattle.serde_json.specs.Data.{Data, string, object, no_members, put}
use Rattle.cmc_meta.specs.declared.key.Kind.{Kind}
use Rattle.cmc_objects.specs.declared.call.Call.TheVariants as calls
use Rattle.cmc_model.specs.Replies.{is_accepted}
use Rattle.cmc_print.specs.Trees.{line_of, natural}
use Rattle.cmc_print.specs.Words.{kind_name}
use Rattle.cmc_report.specs.Trees.{call_tree, scenario_line_tree}
use Rattle.cmc_writer.specs.Additions.{Row}
use Rattle.cmc_collector.specs.declared.entry.CollectEntry.{CollectEntry}
use Rattle.cmc_collector.specs.declared.entry.CollectEntry.TheVariants.{User, Deliver, List as Listed, Look, Delete}
use Rattle.cmc_collector.specs.declared.entry.Moment.{Moment}
use Rattle.cmc_collector.specs.Replays.{Collecting, on, owner_key, stored_objects}

-- what the cache of the kind is told, under the word for it
unfoldable pub told_tree : List ℕ → ℕ → Kind → ℕ → Data
told_tree word n kind to = object
    (put (codes "to") (natural to)
    (put (codes "kind") (string (kind_name kind))
    (put (codes "is") (string word)
    (put (codes "n") (natural n) no_members))))

-- an entry with its number: each call says whether it is a user's or the collector's
unfoldable pub entry_tree : ℕ → CollectEntry → Data
entry_tree n (User call reply) = call_tree n (string (codes "user")) call reply
entry_tree n (Deliver kind to) = told_tree (codes "deliver") n kind to
entry_tree n (Listed kind to) = told_tree (codes "list") n kind to
entry_tree n (Look key owner reply) = call_tree n (string (codes "collector")) (calls.Get (owner_key key.namespace owner)) reply
entry_tree n (Delete key version reply) = call_tree n (string (codes "collector")) (calls.Delete key (Some version)) reply

-- the lines of the entries, the oldest first, numbered from 1
abbrev pub entry_lines : List Moment → List (List ℕ)
entry_lines [] = []
entry_lines (m ∷ ms) = entry_lines ms ++ line_of (entry_tree (length ms + 1) m.entry) ∷ []

-- the collector deleted an object
abbrev pub deletes : CollectEntry → Bool
deletes (User call reply) = false
deletes (Deliver kind to) = false
deletes (Listed kind to) = false
deletes (Look key owner reply) = false
deletes (Delete key version reply) = is_accepted reply

unfoldable pub is_deletion : Moment → Bool
is_deletion m = deletes m.entry

abbrev pub deleted : List Moment → ℕ
deleted ms = count_by is_deletion ms

abbrev pub object_count : Collecting → ℕ
object_count c = length (finite.entries (on stored_objects c))

unfoldable pub counts_tree : ℕ → ℕ → Data
counts_tree deleted objects = object (put (codes "objects") (natural objects) (put (codes "deleted") (natural deleted) no_members))

unfoldable pub collect_tree : ℕ → ℕ → Data
collect_tree deleted objects = object (put (codes "collect") (counts_tree deleted objects) no_members)

unfoldable pub collect_lines : Data → Collecting → List (List ℕ)
collect_lines value c = line_of (scenario_line_tree value) ∷ (entry_lines c.moments ++ line_of (collect_tree (deleted c.moments) (object_count c)) ∷ [])

-- the rows of what the cache of the kind is told, and of the counts
abbrev pub told_rows : List ℕ → ℕ → Kind → ℕ → List Row
told_rows word n kind to =
    (codes "is", Some (string word))
    ∷ (codes "kind", Some (string (kind_name kind)))
    ∷ (codes "n", Some (natural n))
    ∷ (codes "to", Some (natural to))
    ∷ []

abbrev pub count_rows : ℕ → ℕ → List Row
count_rows deleted objects = (codes "deleted", Some (natural deleted)) ∷ (codes "objects", Some (natural objects)) ∷ []
