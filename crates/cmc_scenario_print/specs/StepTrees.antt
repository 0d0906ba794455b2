-- The steps of a script as JSON. The member `do` names the step.
use Rattle.std.specs.Prelude.{ℕ, List, codes, map}
use Rattle.serde_json.specs.Data.{Data, string, array, object, Members, no_members, put}
use Rattle.serde_json.specs.View.{items_of}
use Rattle.cmc_meta.specs.declared.key.Key.{Key}
use Rattle.cmc_meta.specs.declared.key.Kind.{Kind}
use Rattle.cmc_objects.specs.declared.role.Role.{Role}
use Rattle.cmc_objects.specs.declared.entry.Step.{Step}
use Rattle.cmc_objects.specs.declared.entry.Step.TheVariants.{Apply, Delete, Approve, Deny, Answer, Renew, Tick, Stop, Start, Hold, Release, Until, Settle}
use Rattle.cmc_print.specs.Trees.{natural}
use Rattle.cmc_print.specs.Puts.{put_option}
use Rattle.cmc_print.specs.Printed.{applied_tree}
use Rattle.cmc_print.specs.Words.{kind_name, role_name, name_text, key_text}
use Rattle.cmc_scenario_print.specs.RowTrees.{sign_row_tree}

abbrev pub put_word : List ℕ → Members → Members
put_word word ms = put (codes "do") (string word) ms

abbrev pub certificate_members : List ℕ → Key → Members
certificate_members word certificate = put_word word (put (codes "certificate") (string (name_text certificate)) no_members)

abbrev pub revision_members : List ℕ → Key → ℕ → Members
revision_members word certificate revision = put (codes "revision") (natural revision) (certificate_members word certificate)

abbrev pub informer_members : List ℕ → Role → Kind → Members
informer_members word role kind =
    put (codes "role") (string (role_name role))
    (put (codes "kind") (string (kind_name kind)) (put_word word no_members))

unfoldable pub step_members : Step → Members
step_members (Apply o version) = put (codes "object") (applied_tree o version) (put_word (codes "apply") no_members)
step_members (Delete key version) =
    put_option natural (codes "version") version
    (put (codes "key") (string (key_text key)) (put_word (codes "delete") no_members))
step_members (Approve certificate revision) = revision_members (codes "approve") certificate revision
step_members (Deny certificate revision) = revision_members (codes "deny") certificate revision
step_members (Answer certificate revision row) = put (codes "row") (sign_row_tree row) (revision_members (codes "answer") certificate revision)
step_members (Renew certificate) = certificate_members (codes "renew") certificate
step_members (Tick seconds) = put (codes "seconds") (natural seconds) (put_word (codes "tick") no_members)
step_members (Stop role) = put (codes "role") (string (role_name role)) (put_word (codes "stop") no_members)
step_members (Start role behind) =
    put (codes "role") (string (role_name role))
    (put_word (codes "start") (put (codes "behind") (natural behind) no_members))
step_members (Hold role kind) = informer_members (codes "hold") role kind
step_members (Release role kind) = informer_members (codes "release") role kind
step_members (Until role kind writes) = put (codes "writes") (natural writes) (informer_members (codes "until") role kind)
step_members Settle = put_word (codes "settle") no_members

abbrev pub step_tree : Step → Data
step_tree step = object (step_members step)

abbrev pub script_tree : List Step → Data
script_tree script = array (items_of (map step_tree script))
