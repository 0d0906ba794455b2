-- What was written of an entry, row by row, is its tree.
use Rattle.std.proofs.Common.{◌≡◌, ℕ, List, [], ◌∷◌, ◌++◌, codes, Some, refl, ◌∙◌}
use Rattle.json.specs.Token.{Token, begin_object, end_object}
use Rattle.serde_json.specs.Data.{boolean, string}
use Rattle.cmc_meta.specs.declared.key.Kind.{Kind}
use Rattle.cmc_objects.specs.declared.entry.Entry.{Entry}
use Rattle.cmc_objects.specs.declared.entry.Entry.TheVariants.{Script, Call as Called, Deliver, List as Listed, Begin, Ask, Made, Signed, Answered, Judged, End, Stop, Start, Tick}
use Rattle.cmc_objects.specs.declared.entry.Positions.{Positions}
use Rattle.cmc_objects.specs.declared.role.Role.{Role}
use Rattle.cmc_print.specs.Trees.{natural}
use Rattle.cmc_print.specs.Puts.{base64_text}
use Rattle.cmc_print.specs.Printed.{moment_tree}
use Rattle.cmc_print.specs.Words.{role_name}
use Rattle.cmc_report.specs.Trees.{answer_tree, cause_tree, entry_tree, order_tree, positions_tree, put_begin, put_told, who_tree}
use Rattle.cmc_report.specs.Rows.{begin_head, begin_tail, call_rows, position_rows, told_head, told_tail, told_tree}
use Rattle.cmc_report.proofs.CallLaws.{entry_of_call}
use Rattle.cmc_writer.specs.Additions.{Row, with_value, with_rows}
use Rattle.cmc_writer.proofs.Written.{object_written}

abbrev word : List ℕ → Row
word w = (codes "is", Some (string w))

abbrev place : ℕ → Row
place n = (codes "n", Some (natural n))

abbrev pass_of : ℕ → Row
pass_of p = (codes "pass", Some (natural p))

abbrev named : Role → Row
named role = (codes "role", Some (string (role_name role)))

-- The rows of an entry, in byte order of their names.
abbrev pub rows_of : ℕ → Entry → List Row
rows_of n (Script step) = word (codes "script") ∷ place n ∷ (codes "step", Some (natural step)) ∷ []
rows_of n (Called who call reply) = call_rows n (who_tree who) call reply
rows_of n (Deliver role kind to) = told_head (codes "deliver") n kind ++ told_tail role to
rows_of n (Listed role kind to) = told_head (codes "list") n kind ++ told_tail role to
rows_of n (Begin pass role key at now) = begin_head n key at ++ begin_tail pass role now
rows_of n (Ask pass order) = word (codes "ask") ∷ place n ∷ (codes "order", Some (order_tree order)) ∷ pass_of pass ∷ []
rows_of n (Made pass key) = word (codes "made") ∷ (codes "key", Some (base64_text key)) ∷ place n ∷ pass_of pass ∷ []
rows_of n (Signed pass signature) = word (codes "signed") ∷ place n ∷ pass_of pass ∷ (codes "signature", Some (base64_text signature)) ∷ []
rows_of n (Answered pass answer) = (codes "answer", Some (answer_tree answer)) ∷ word (codes "answered") ∷ place n ∷ pass_of pass ∷ []
rows_of n (Judged pass approved) = word (codes "judged") ∷ place n ∷ pass_of pass ∷ (codes "yes", Some (boolean approved)) ∷ []
rows_of n (End pass cause) = (codes "cause", Some (cause_tree cause)) ∷ word (codes "end") ∷ place n ∷ pass_of pass ∷ []
rows_of n (Stop role) = word (codes "stop") ∷ place n ∷ named role ∷ []
rows_of n (Start role at) = (codes "at", Some (natural at)) ∷ word (codes "start") ∷ place n ∷ named role ∷ []
rows_of n (Tick now) = word (codes "tick") ∷ place n ∷ (codes "now", Some (moment_tree now)) ∷ []

rows_written : (ts : List Token) (n : ℕ) (e : Entry) → with_rows (ts ++ begin_object ∷ []) (rows_of n e) ++ end_object ∷ [] ≡ with_value ts (entry_tree n e)
unfolding entry_tree put_told put_begin
rows_written ts n (Script step) = object_written ts (rows_of n (Script step))
rows_written ts n (Called who call reply) = entry_of_call ts n who call reply
rows_written ts n (Deliver role kind to) = object_written ts (rows_of n (Deliver role kind to))
rows_written ts n (Listed role kind to) = object_written ts (rows_of n (Listed role kind to))
rows_written ts n (Begin pass role key at now) = object_written ts (rows_of n (Begin pass role key at now))
rows_written ts n (Ask pass order) = object_written ts (rows_of n (Ask pass order))
rows_written ts n (Made pass key) = object_written ts (rows_of n (Made pass key))
rows_written ts n (Signed pass signature) = object_written ts (rows_of n (Signed pass signature))
rows_written ts n (Answered pass answer) = object_written ts (rows_of n (Answered pass answer))
rows_written ts n (Judged pass approved) = object_written ts (rows_of n (Judged pass approved))
rows_written ts n (End pass cause) = object_written ts (rows_of n (End pass cause))
rows_written ts n (Stop role) = object_written ts (rows_of n (Stop role))
rows_written ts n (Start role at) = object_written ts (rows_of n (Start role at))
rows_written ts n (Tick now) = object_written ts (rows_of n (Tick now))

pub entry_written : (ts out : List Token) (n : ℕ) (e : Entry) → out ≡ with_rows (ts ++ begin_object ∷ []) (rows_of n e) ++ end_object ∷ [] → out ≡ with_value ts (entry_tree n e)
entry_written ts out n e is = is ∙ rows_written ts n e

pub told_written : (ts : List Token) (w : List ℕ) (n : ℕ) (role : Role) (kind : Kind) (to : ℕ)
    → with_rows (with_rows (ts ++ begin_object ∷ []) (told_head w n kind)) (told_tail role to) ++ end_object ∷ [] ≡ with_value ts (told_tree w n role kind to)
unfolding told_tree put_told
told_written ts w n role kind to = object_written ts (told_head w n kind ++ told_tail role to)

pub deliver_is : (ts : List Token) (n : ℕ) (role : Role) (kind : Kind) (to : ℕ) → with_value ts (told_tree (codes "deliver") n role kind to) ≡ with_value ts (entry_tree n (Deliver role kind to))
unfolding told_tree entry_tree
deliver_is ts n role kind to = refl

pub list_is : (ts : List Token) (n : ℕ) (role : Role) (kind : Kind) (to : ℕ) → with_value ts (told_tree (codes "list") n role kind to) ≡ with_value ts (entry_tree n (Listed role kind to))
unfolding told_tree entry_tree
list_is ts n role kind to = refl

pub positions_written : (ts : List Token) (at : Positions) → with_rows (ts ++ begin_object ∷ []) (position_rows at) ++ end_object ∷ [] ≡ with_value ts (positions_tree at)
unfolding positions_tree
positions_written ts at = object_written ts (position_rows at)
