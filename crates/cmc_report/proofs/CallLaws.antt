-- What was written of a call's entry, row by row, is its tree.
use Rattle.std.proofs.Common.{◌≡◌, ℕ, List, [], ◌∷◌, ◌++◌, true, codes, Some, None, refl, ap}
use Rattle.json.specs.Token.{Token, begin_object, end_object}
use Rattle.json.specs.Print.{print}
use Rattle.serde_json.specs.Data.{Data, string, object, Members, no_members, put}
use Rattle.cmc_objects.specs.declared.call.Call.{Call}
use Rattle.cmc_objects.specs.declared.call.Call.TheVariants.{Create, Update, UpdateStatus, Delete, Get}
use Rattle.cmc_objects.specs.declared.call.Reply.{Reply}
use Rattle.cmc_objects.specs.declared.entry.Who.{Who}
use Rattle.cmc_objects.specs.declared.entry.Entry.TheVariants.{Call as Called}
use Rattle.cmc_print.specs.Trees.{natural, line_of}
use Rattle.cmc_print.specs.Printed.{object_tree}
use Rattle.cmc_report.specs.Trees.{lone, ok_members, conflict_tree, reply_tree, call_key, call_name, who_tree, put_written, put_version, put_call, call_tree, entry_tree}
use Rattle.cmc_writer.specs.Additions.{Row, with_value, with_row, with_rows}
use Rattle.cmc_writer.proofs.Placed.{placed, has_place, IsBuilt, is_none, is_put}
use Rattle.cmc_writer.proofs.Written.{object_written, text_written}
use Rattle.cmc_object_lines.proofs.Laws.{of_rows}
use Rattle.cmc_report.specs.Rows.{written_row, version_row, ok_rows, call_body, call_head, call_rows}

is_written : {ms : Members} {rows : List Row} (call : Call) → IsBuilt ms rows → has_place (codes "object") rows ≡ true → IsBuilt (put_written call ms) (placed (codes "object") (written_row call) rows)
is_written (Create o generate) b h = is_put (codes "object") (Some (object_tree o)) b h
is_written (Update o v) b h = is_put (codes "object") (Some (object_tree o)) b h
is_written (UpdateStatus o v) b h = is_put (codes "object") (Some (object_tree o)) b h
is_written (Delete k v) b h = is_put (codes "object") None b h
is_written (Get k) b h = is_put (codes "object") None b h

is_version : {ms : Members} {rows : List Row} (call : Call) → IsBuilt ms rows → has_place (codes "version") rows ≡ true → IsBuilt (put_version call ms) (placed (codes "version") (version_row call) rows)
is_version (Create o generate) b h = is_put (codes "version") None b h
is_version (Update o v) b h = is_put (codes "version") (Some (natural v)) b h
is_version (UpdateStatus o v) b h = is_put (codes "version") (Some (natural v)) b h
is_version (Delete k None) b h = is_put (codes "version") None b h
is_version (Delete k (Some v)) b h = is_put (codes "version") (Some (natural v)) b h
is_version (Get k) b h = is_put (codes "version") None b h

pub ok_written : (ts : List Token) (call : Call) (version : ℕ) (name : List ℕ)
    → with_rows (ts ++ begin_object ∷ []) (ok_rows call version name) ++ end_object ∷ [] ≡ with_value ts (object (ok_members call version name))
ok_written ts (Create o generate) version name = object_written ts (ok_rows (Create o generate) version name)
ok_written ts (Update o v) version name = object_written ts (ok_rows (Update o v) version name)
ok_written ts (UpdateStatus o v) version name = object_written ts (ok_rows (UpdateStatus o v) version name)
ok_written ts (Delete k v) version name = object_written ts (ok_rows (Delete k v) version name)
ok_written ts (Get k) version name = object_written ts (ok_rows (Get k) version name)

pub lone_written : (ts : List Token) (name : List ℕ) (n : ℕ) → with_rows (ts ++ begin_object ∷ []) ((name, Some (natural n)) ∷ []) ++ end_object ∷ [] ≡ with_value ts (lone name n)
lone_written ts name n = of_rows ts ((name, Some (natural n)) ∷ []) _ (is_put name (Some (natural n)) is_none refl)

pub conflict_written : (ts : List Token) (named have : ℕ)
    → with_rows (ts ++ begin_object ∷ []) ((codes "have", Some (natural have)) ∷ (codes "named", Some (natural named)) ∷ []) ++ end_object ∷ []
    ≡ with_value ts (object (put (codes "named") (natural named) (put (codes "have") (natural have) no_members)))
conflict_written ts named have = of_rows ts _ _ (is_put (codes "named") (Some (natural named)) (is_put (codes "have") (Some (natural have)) is_none refl) refl)

pub conflict_around : (ts : List Token) (named have : ℕ)
    → with_rows (ts ++ begin_object ∷ []) ((codes "conflict", Some (object (put (codes "named") (natural named) (put (codes "have") (natural have) no_members)))) ∷ []) ++ end_object ∷ []
    ≡ with_value ts (conflict_tree named have)
unfolding conflict_tree
conflict_around ts named have = of_rows ts _ _ (is_put (codes "conflict") (Some _) is_none refl)

pub call_written : (ts : List Token) (n : ℕ) (who : Data) (call : Call) (reply : Reply)
    → with_row (with_rows (with_rows (ts ++ begin_object ∷ []) (call_head n call)) (call_body call reply)) (codes "who") (Some who) ++ end_object ∷ [] ≡ with_value ts (call_tree n who call reply)
unfolding call_tree put_call
call_written ts n who call reply = of_rows ts (call_rows n who call reply) _
    (is_put (codes "who") (Some who)
    (is_version call
    (is_put (codes "reply") (Some (reply_tree call reply))
    (is_written call
    (is_put (codes "key") (Some (string (call_key call)))
    (is_put (codes "call") (Some (string (call_name call)))
    (is_put (codes "is") (Some (string (codes "call")))
    (is_put (codes "n") (Some (natural n)) is_none refl) refl) refl) refl) refl) refl) refl) refl)

pub entry_of_call : (ts : List Token) (n : ℕ) (who : Who) (call : Call) (reply : Reply)
    → with_row (with_rows (with_rows (ts ++ begin_object ∷ []) (call_head n call)) (call_body call reply)) (codes "who") (Some (who_tree who)) ++ end_object ∷ [] ≡ with_value ts (entry_tree n (Called who call reply))
unfolding call_tree entry_tree
entry_of_call ts n who call reply = call_written ts n (who_tree who) call reply

pub line_written : (d : Data) → print (with_value [] d) ++ 10 ∷ [] ≡ line_of d
unfolding line_of
line_written d = ap (λ t. t ++ 10 ∷ []) (text_written d)
