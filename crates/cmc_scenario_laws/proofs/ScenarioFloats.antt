-- No number in what is printed of a scenario is a float.
use Rattle.std.proofs.Common.{◌≡◌, ℕ, ℤ, List, [], ◌∷◌, Bool, Ok, codes}
use Rattle.std.specs.Prelude.{◌==◌}
use Rattle.serde_json.specs.Data.{string, Members, no_members, put}
use Rattle.cmc_meta.specs.declared.key.Key.{Key}
use Rattle.cmc_meta.specs.declared.key.Kind.{Kind}
use Rattle.cmc_policy_rules.specs.declared.policy.Policy.{Policy}
use Rattle.cmc_objects.specs.declared.orders.Rules.{Rules}
use Rattle.cmc_objects.specs.declared.role.Role.{Role}
use Rattle.cmc_objects.specs.declared.rows.Rows.{Rows}
use Rattle.cmc_objects.specs.declared.rows.KeyRow.{KeyRow}
use Rattle.cmc_objects.specs.declared.rows.KeyRow.TheVariants as key_rows
use Rattle.cmc_objects.specs.declared.rows.SignRow.{SignRow}
use Rattle.cmc_objects.specs.declared.rows.SignRow.TheVariants as signs
use Rattle.cmc_objects.specs.declared.entry.Step.{Step}
use Rattle.cmc_objects.specs.declared.entry.Step.TheVariants.{Apply, Delete, Approve, Deny, Answer, Renew, Tick, Stop, Start, Hold, Release, Until, Settle}
use Rattle.cmc_time.specs.Durations.{go_duration}
use Rattle.cmc_setup.specs.Setups.{Setup}
use Rattle.cmc_cursor.specs.Readers.{floats_at}
use Rattle.cmc_print.specs.Trees.{natural}
use Rattle.cmc_print.specs.Puts.{strings, base64_text}
use Rattle.cmc_print.specs.Printed.{moment_tree, duration_tree, applied_tree}
use Rattle.cmc_print.specs.Words.{kind_name, role_name, name_text, key_text, moment_text}
use Rattle.cmc_scenario_print.specs.Defaults.{is_every_issuer, is_every_role, is_usual_message, is_usual_moment}
use Rattle.cmc_scenario_print.specs.PolicyTrees.{pattern_tree, patterns_tree, address_text, address_tree, addresses_tree, algorithm_text, key_algorithm_tree, put_allowed_names, put_limits, policy_tree, policies_tree, approver_members}
use Rattle.cmc_scenario_print.specs.RowTrees.{key_row_tree, key_rows_tree, sign_row_members, sign_row_tree, sign_rows_tree, rows_tree, put_entries, material_tree}
use Rattle.cmc_scenario_print.specs.StepTrees.{certificate_members, revision_members, informer_members, step_members, step_tree, script_tree}
use Rattle.cmc_scenario_print.specs.ScenarioTree.{numbers_tree, role_tree, roles_tree, put_world, put_run, scenario_tree}
use Rattle.cmc_scenario_laws.proofs.Floats.{IsClear, AreClear, empty, with_tree, with_text, with_number, with_option, with_list, with_true, with_unless, with_object, whole, of_text, of_number, of_list}
use Rattle.cmc_scenario_laws.proofs.ObjectFloats.{strings_clear, applied_clear}

-- ---- the approver

pattern_clear : (pattern : List ℕ) → IsClear (pattern_tree pattern)
pattern_clear pattern = of_text _

patterns_clear : (patterns : List (List ℕ)) → IsClear (patterns_tree patterns)
patterns_clear patterns = of_list pattern_tree pattern_clear patterns

address_clear : (octets : List ℕ) → IsClear (address_tree octets)
address_clear octets = of_text (address_text octets)

addresses_clear : (patterns : List (List ℕ)) → IsClear (addresses_tree patterns)
addresses_clear patterns = of_list address_tree address_clear patterns

algorithm_clear : (is_rsa : Bool) → IsClear (key_algorithm_tree is_rsa)
algorithm_clear is_rsa = of_text (algorithm_text is_rsa)

duration_clear : (seconds : ℕ) → IsClear (duration_tree seconds)
duration_clear seconds = of_text (go_duration seconds)

policy_clear : (p : Policy) → IsClear (policy_tree p)
unfolding policy_tree put_limits put_allowed_names
policy_clear p =
    let algorithm = with_option key_algorithm_tree algorithm_clear (codes "algorithm") p.algorithm empty in
    let common = with_option patterns_tree patterns_clear (codes "commonName") p.common algorithm in
    let dns = with_option patterns_tree patterns_clear (codes "dnsNames") p.dns common in
    let emails = with_option patterns_tree patterns_clear (codes "emailAddresses") p.emails dns in
    let ips = with_option addresses_tree addresses_clear (codes "ipAddresses") p.ips emails in
    let ca = with_true (codes "isCA") p.ca ips in
    let issuers = with_unless (is_every_issuer p.issuers) patterns_tree (codes "issuers") p.issuers (patterns_clear p.issuers) ca in
    let max = with_option duration_tree duration_clear (codes "maxDuration") p.max issuers in
    let max_size = with_option natural of_number (codes "maxSize") p.max_size max in
    let min = with_option duration_tree duration_clear (codes "minDuration") p.min max_size in
    let min_size = with_option natural of_number (codes "minSize") p.min_size min in
    let name = with_tree (codes "name") (pattern_tree p.name) (pattern_clear p.name) min_size in
    let uris = with_option patterns_tree patterns_clear (codes "uris") p.uris name in
    whole (with_list patterns_tree patterns_clear (codes "usages") p.usages uris)

policies_clear : (policies : List Policy) → IsClear (policies_tree policies)
policies_clear policies = of_list policy_tree policy_clear policies

approver_clear : (rules : Rules) → AreClear (approver_members rules)
unfolding approver_members
approver_clear rules =
    let issuers = with_unless (is_every_issuer rules.issuers) strings (codes "issuers") rules.issuers (strings_clear rules.issuers) empty in
    let policies = with_list policies_tree policies_clear (codes "policies") rules.policies issuers in
    with_list strings strings_clear (codes "refuse") rules.refuse policies

-- ---- keys and issuers

bytes_clear : (bytes : List ℕ) → IsClear (base64_text bytes)
bytes_clear bytes = of_text _

key_row_clear : (row : KeyRow) → IsClear (key_row_tree row)
key_row_clear (key_rows.Synthetic number) = whole (with_number (codes "synthetic") number empty)
key_row_clear (key_rows.Der bytes) = whole (with_tree (codes "der") (base64_text bytes) (bytes_clear bytes) empty)
key_row_clear key_rows.Default = whole empty
key_row_clear key_rows.Free = whole empty

key_rows_clear : (rows : List KeyRow) → IsClear (key_rows_tree rows)
key_rows_clear rows = of_list key_row_tree key_row_clear rows

sign_row_clear : (row : SignRow) → IsClear (sign_row_tree row)
unfolding sign_row_members
sign_row_clear (signs.Issue seconds before serial key ca) =
    let early = with_unless (before == 0) natural (codes "before") before (of_number before) empty in
    let issuer = with_list base64_text bytes_clear (codes "ca") ca early in
    let stand_in = with_option natural of_number (codes "key") key issuer in
    let reply = with_text (codes "reply") (codes "issue") stand_in in
    let life = with_option natural of_number (codes "seconds") seconds reply in
    whole (with_option natural of_number (codes "serial") serial life)
sign_row_clear signs.Pending = whole (with_text (codes "reply") (codes "pending") empty)
sign_row_clear (signs.Fail message) =
    let said = with_unless (is_usual_message message) string (codes "message") message (of_text message) empty in
    whole (with_text (codes "reply") (codes "fail") said)
sign_row_clear (signs.Raw der) =
    let octets = with_tree (codes "der") (base64_text der) (bytes_clear der) empty in
    whole (with_text (codes "reply") (codes "raw") octets)
sign_row_clear signs.Free = whole empty

sign_rows_clear : (rows : List SignRow) → IsClear (sign_rows_tree rows)
sign_rows_clear rows = of_list sign_row_tree sign_row_clear rows

rows_clear : (rows : Rows) → IsClear (rows_tree rows)
unfolding rows_tree
rows_clear rows =
    let keys = with_list key_rows_tree key_rows_clear (codes "keys") rows.keys empty in
    whole (with_list sign_rows_tree sign_rows_clear (codes "replies") rows.replies keys)

entries_clear : (es : List (Key × Rows)) (ms : Members) → AreClear ms → AreClear (put_entries es ms)
entries_clear [] ms are = are
entries_clear (e ∷ es) ms are = entries_clear es (put (name_text e.0) (rows_tree e.1) ms) (with_tree (name_text e.0) (rows_tree e.1) (rows_clear e.1) are)

material_clear : (material : List (Key × Rows)) → IsClear (material_tree material)
material_clear material = whole (entries_clear material no_members empty)

-- ---- steps

certificate_clear : (word : List ℕ) (certificate : Key) → AreClear (certificate_members word certificate)
certificate_clear word certificate = with_text (codes "do") word (with_text (codes "certificate") (name_text certificate) empty)

revision_clear : (word : List ℕ) (certificate : Key) (revision : ℕ) → AreClear (revision_members word certificate revision)
revision_clear word certificate revision = with_number (codes "revision") revision (certificate_clear word certificate)

informer_clear : (word : List ℕ) (role : Role) (kind : Kind) → AreClear (informer_members word role kind)
informer_clear word role kind =
    let named = with_text (codes "do") word empty in
    with_text (codes "role") (role_name role) (with_text (codes "kind") (kind_name kind) named)

members_clear : (step : Step) → AreClear (step_members step)
unfolding step_members
members_clear (Apply o version) = with_tree (codes "object") (applied_tree o version) (applied_clear o version) (with_text (codes "do") (codes "apply") empty)
members_clear (Delete key version) = with_option natural of_number (codes "version") version (with_text (codes "key") (key_text key) (with_text (codes "do") (codes "delete") empty))
members_clear (Approve certificate revision) = revision_clear (codes "approve") certificate revision
members_clear (Deny certificate revision) = revision_clear (codes "deny") certificate revision
members_clear (Answer certificate revision row) = with_tree (codes "row") (sign_row_tree row) (sign_row_clear row) (revision_clear (codes "answer") certificate revision)
members_clear (Renew certificate) = certificate_clear (codes "renew") certificate
members_clear (Tick seconds) = with_number (codes "seconds") seconds (with_text (codes "do") (codes "tick") empty)
members_clear (Stop role) = with_text (codes "role") (role_name role) (with_text (codes "do") (codes "stop") empty)
members_clear (Start role behind) = with_text (codes "role") (role_name role) (with_text (codes "do") (codes "start") (with_number (codes "behind") behind empty))
members_clear (Hold role kind) = informer_clear (codes "hold") role kind
members_clear (Release role kind) = informer_clear (codes "release") role kind
members_clear (Until role kind writes) = with_number (codes "writes") writes (informer_clear (codes "until") role kind)
members_clear Settle = with_text (codes "do") (codes "settle") empty

step_clear : (step : Step) → IsClear (step_tree step)
step_clear step = whole (members_clear step)

script_clear : (script : List Step) → IsClear (script_tree script)
script_clear script = of_list step_tree step_clear script

-- ---- the whole

numbers_clear : (numbers : List ℕ) → IsClear (numbers_tree numbers)
numbers_clear numbers = of_list natural of_number numbers

role_clear : (role : Role) → IsClear (role_tree role)
role_clear role = of_text (role_name role)

roles_clear : (roles : List Role) → IsClear (roles_tree roles)
roles_clear roles = of_list role_tree role_clear roles

moment_clear : (at : ℤ) → IsClear (moment_tree at)
moment_clear at = of_text (moment_text at)

scenario_clear : (s : Setup) → IsClear (scenario_tree s)
unfolding scenario_tree put_run put_world
scenario_clear s =
    let approver = with_object (codes "approver") (approver_members s.approver) (approver_clear s.approver) empty in
    let events = with_unless (s.events == 100000) natural (codes "events") s.events (of_number s.events) approver in
    let faults = with_list numbers_tree numbers_clear (codes "faults") s.faults events in
    let material = with_list material_tree material_clear (codes "material") s.material faults in
    let now = with_unless (is_usual_moment s.moment) moment_tree (codes "now") s.moment (moment_clear s.moment) material in
    let roles = with_unless (is_every_role s.roles) roles_tree (codes "roles") s.roles (roles_clear s.roles) now in
    let script = with_list script_tree script_clear (codes "script") s.script roles in
    whole (with_unless (s.window == 1000) natural (codes "window") s.window (of_number s.window) script)

pub no_floats : (s : Setup) → floats_at (scenario_tree s) ≡ Ok tt
no_floats s = (scenario_clear s).none
