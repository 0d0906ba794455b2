-- The rows of calls and replies, in byte order of their names, and trees that several entries share.
use Rattle.std.specs.Prelude.{ℕ, ℤ, List, map, [], ◌∷◌, ◌++◌, codes, Some, None, option_map}
use Rattle.std.specs.declared.option.Option.{Option}
use Rattle.serde_json.specs.Data.{Data, string, array, object, no_members, put}
use Rattle.serde_json.specs.View.{items_of}
use Rattle.cmc_meta.specs.declared.key.Kind.{Kind}
use Rattle.cmc_meta.specs.declared.key.Key.{Key}
use Rattle.cmc_objects.specs.declared.call.Call.{Call}
use Rattle.cmc_objects.specs.declared.call.Call.TheVariants.{Create, Update, UpdateStatus, Delete, Get}
use Rattle.cmc_objects.specs.declared.call.Reply.{Reply}
use Rattle.cmc_objects.specs.declared.entry.Positions.{Positions}
use Rattle.cmc_objects.specs.declared.role.Role.{Role}
use Rattle.cmc_summary.specs.declared.summary.Summary.{Summary}
use Rattle.cmc_print.specs.Trees.{natural}
use Rattle.cmc_print.specs.Puts.{base64_text}
use Rattle.cmc_print.specs.Printed.{object_tree, moment_tree}
use Rattle.cmc_print.specs.Words.{kind_name, name_text, role_name}
use Rattle.cmc_report.specs.Trees.{call_name, call_key, reply_tree, positions_tree, put_told, waiting_tree}
use Rattle.cmc_writer.specs.Additions.{Row}
use Rattle.cmc_writer.specs.Rows.{list_row}

abbrev pub written_row : Call → Option Data
written_row (Create o generate) = Some (object_tree o)
written_row (Update o v) = Some (object_tree o)
written_row (UpdateStatus o v) = Some (object_tree o)
written_row (Delete k v) = None
written_row (Get k) = None

abbrev pub version_row : Call → Option Data
version_row (Create o generate) = None
version_row (Update o v) = Some (natural v)
version_row (UpdateStatus o v) = Some (natural v)
version_row (Delete k v) = option_map natural v
version_row (Get k) = None

abbrev pub name_row : Call → List ℕ → Option Data
name_row (Create o generate) name = Some (string name)
name_row (Update o v) name = None
name_row (UpdateStatus o v) name = None
name_row (Delete k v) name = None
name_row (Get k) name = None

abbrev pub ok_rows : Call → ℕ → List ℕ → List Row
ok_rows call version name = (codes "name", name_row call name) ∷ (codes "ok", Some (natural version)) ∷ []

-- Up to the number, from the object on, and with the word for whom at the end.
abbrev pub call_head : ℕ → Call → List Row
call_head n call =
    (codes "call", Some (string (call_name call)))
    ∷ (codes "is", Some (string (codes "call")))
    ∷ (codes "key", Some (string (call_key call)))
    ∷ (codes "n", Some (natural n))
    ∷ []

abbrev pub call_body : Call → Reply → List Row
call_body call reply =
    (codes "object", written_row call)
    ∷ (codes "reply", Some (reply_tree call reply))
    ∷ (codes "version", version_row call)
    ∷ []

abbrev pub call_rows : ℕ → Data → Call → Reply → List Row
call_rows n who call reply = call_head n call ++ (call_body call reply ++ (codes "who", Some who) ∷ [])

-- What a role is told, under the word for it.
unfoldable pub told_tree : List ℕ → ℕ → Role → Kind → ℕ → Data
told_tree word n role kind to = object (put_told role kind to (put (codes "is") (string word) (put (codes "n") (natural n) no_members)))

abbrev pub told_head : List ℕ → ℕ → Kind → List Row
told_head word n kind =
    (codes "is", Some (string word))
    ∷ (codes "kind", Some (string (kind_name kind)))
    ∷ (codes "n", Some (natural n))
    ∷ []

abbrev pub told_tail : Role → ℕ → List Row
told_tail role to = (codes "role", Some (string (role_name role))) ∷ (codes "to", Some (natural to)) ∷ []

-- The rows of a pass that begins.
abbrev pub begin_head : ℕ → Key → Positions → List Row
begin_head n key at =
    (codes "at", Some (positions_tree at))
    ∷ (codes "is", Some (string (codes "begin")))
    ∷ (codes "key", Some (string (name_text key)))
    ∷ (codes "n", Some (natural n))
    ∷ []

abbrev pub begin_tail : ℕ → Role → ℤ → List Row
begin_tail pass role now =
    (codes "now", Some (moment_tree now))
    ∷ (codes "pass", Some (natural pass))
    ∷ (codes "role", Some (string (role_name role)))
    ∷ []

-- An issuer has not decided yet, or refuses.
abbrev pub pending_tree : Data
pending_tree = object (put (codes "is") (string (codes "pending")) no_members)

abbrev pub failed_tree : List ℕ → Data
failed_tree message = object (put (codes "message") (string message) (put (codes "is") (string (codes "failed")) no_members))

-- An issued certificate, with the CA's where there is one.
abbrev pub issued_rows : List ℕ → List ℕ → List Row
issued_rows certificate ca =
    (codes "ca", list_row base64_text ca)
    ∷ (codes "certificate", Some (base64_text certificate))
    ∷ (codes "is", Some (string (codes "issued")))
    ∷ []

-- How far a pass sees, kind by kind.
abbrev pub position_rows : Positions → List Row
position_rows at =
    (codes "Certificate", Some (natural at.certificates))
    ∷ (codes "CertificateRequest", Some (natural at.requests))
    ∷ (codes "Secret", Some (natural at.secrets))
    ∷ []

-- What stands at the end.
abbrev pub count_rows : Summary → List Row
count_rows s =
    (codes "certificates", Some (natural s.certificates))
    ∷ (codes "ready", Some (natural s.ready))
    ∷ (codes "secrets", Some (natural s.secrets))
    ∷ (codes "waiting", Some (array (items_of (map waiting_tree s.waiting))))
    ∷ []
