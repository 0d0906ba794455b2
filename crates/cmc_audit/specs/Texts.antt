-- The line that says a verdict.
use Rattle.std.specs.Prelude.{ℕ, true, false, List, [], ◌∷◌, codes, Some}
use Rattle.serde_json.specs.Data.{Data, string, boolean, object, no_members, put}
use Rattle.cmc_print.specs.Trees.{line_of, natural}
use Rattle.cmc_writer.specs.Additions.{Row}
use Rattle.cmc_audit_clauses.specs.declared.clause.Clause.{Clause}
use Rattle.cmc_audit_clauses.specs.declared.clause.Clause.TheVariants as clauses
use Rattle.cmc_audit_clauses.specs.declared.clause.Verdict.{Verdict}
use Rattle.cmc_audit_clauses.specs.declared.clause.Verdict.TheVariants.{Yes, No}

-- the clause's word
abbrev pub clause_name : Clause → List ℕ
clause_name clauses.Place = codes "place"
clause_name clauses.Reply = codes "reply"
clause_name clauses.Issue = codes "issue"
clause_name clauses.Ask = codes "ask"
clause_name clauses.Raise = codes "raise"
clause_name clauses.Rights = codes "rights"
clause_name clauses.Approval = codes "approval"
clause_name clauses.Counts = codes "counts"

-- the number of entries, or the entry that fails and its clause
unfoldable pub verdict_tree : Verdict → Data
verdict_tree (Yes entries) = object (put (codes "yes") (boolean true) (put (codes "entries") (natural entries) no_members))
verdict_tree (No entry clause) = object
    (put (codes "yes") (boolean false)
    (put (codes "entry") (natural entry)
    (put (codes "clause") (string (clause_name clause)) no_members)))

unfoldable pub audit_tree : Verdict → Data
audit_tree verdict = object (put (codes "audit") (verdict_tree verdict) no_members)

-- one line, and nothing else
abbrev pub audit_lines : Verdict → List (List ℕ)
audit_lines verdict = line_of (audit_tree verdict) ∷ []

-- the members of a verdict, in byte order of their names
abbrev pub verdict_rows : Verdict → List Row
verdict_rows (Yes entries) = (codes "entries", Some (natural entries)) ∷ (codes "yes", Some (boolean true)) ∷ []
verdict_rows (No entry clause) = (codes "clause", Some (string (clause_name clause))) ∷ (codes "entry", Some (natural entry)) ∷ (codes "yes", Some (boolean false)) ∷ []
