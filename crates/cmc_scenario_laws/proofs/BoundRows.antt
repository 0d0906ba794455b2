-- What is read of a scenario, or made for a load, leaves no key and no answer open.
use Rattle.std.proofs.Common.{◌≡◌, ℕ, ◌≤◌, List, [], ◌∷◌, true, Ok, Err, Option, Some, None, refl, ap, codes}
use Rattle.std.specs.Prelude.{◌&&◌}
use Rattle.std.specs.List.{list_all}
use Rattle.std.specs.declared.cmp.Ordering.{Ordering}
use Rattle.std.specs.declared.cmp.Ordering.TheVariants.{Less, Equal, Greater}
use Rattle.std.specs.Ordering.{match_ordering}
use Rattle.std.specs.BTreeMap.{insert_entry}
use Rattle.std.proofs.lemmas.Bool.{and_from, and_parts}
use Rattle.serde_json.specs.Data.{Data, null, boolean, number, string, array, object, Members, no_members, member}
use Rattle.cmc_meta.specs.declared.key.Key.{Key}
use Rattle.cmc_meta.specs.declared.key.Kind.TheVariants.{Certificate}
use Rattle.cmc_meta.specs.Keys.{key_cmp}
use Rattle.cmc_objects.specs.declared.entry.Step.{Step}
use Rattle.cmc_objects.specs.declared.entry.Step.TheVariants as steps
use Rattle.cmc_objects.specs.declared.rows.Rows.{Rows}
use Rattle.cmc_objects.specs.declared.rows.KeyRow.{KeyRow}
use Rattle.cmc_objects.specs.declared.rows.SignRow.{SignRow}
use Rattle.cmc_objects.specs.Requests.{is_row_form}
use Rattle.cmc_setup.specs.Forms.{is_certificate, is_said, is_step_form, is_bound_key, is_bound_entry, is_bound_step}
use Rattle.cmc_setup.specs.Setups.{Setup, LeavesNothingFree}
use Rattle.cmc_setup.specs.Stages.{first_stage}
use Rattle.cmc_cursor.specs.Members.{Read, in_words, under, Field, fields_at, optional_at, at_end}
use Rattle.cmc_cursor.specs.Readers.{count_at, bytes_at}
use Rattle.cmc_cursor.specs.Readers.{floats_at}
use Rattle.cmc_cursor.proofs.Always.{Always, so, failed, next, after, below, further}
use Rattle.cmc_material.specs.Keys.{key_of_kind}
use Rattle.cmc_material.specs.Lists.{numbered_at, member_or}
use Rattle.cmc_material.specs.Approvers.{approver_at, default_approver}
use Rattle.cmc_material.specs.MaterialRows.{synthetic_in, key_row_in, key_row_at, reply_row_at, key_rows_at, reply_rows_at, rows_at, certificate_rows_at, material_with, material_at}
use Rattle.cmc_material.proofs.ListForms.{of_member_or, of_numbered, of_list}
use Rattle.cmc_material.proofs.RowForms.{IsSaid, of_reply_row}
use Rattle.cmc_scenario.specs.Loads.{load_setup}
use Rattle.cmc_scenario.specs.Scripts.{script_at}
use Rattle.cmc_scenario.specs.Scenarios.{size_at, faults_at, world_in, beginning_in, setup_in, members_at, scenario_whole_at, scenario_at}
use Rattle.cmc_scenario.specs.declared.members.World.{World}
use Rattle.cmc_scenario.proofs.LoadLaws.{is_setup}
use Rattle.cmc_scenario.proofs.SetupForms.{IsScript, of_script}

-- ---- keys

abbrev IsBoundKey : KeyRow → Type 0
IsBoundKey row = is_bound_key row ≡ true

of_synthetic : (given : Option Data) (fs : List Field) → Always IsBoundKey (synthetic_in given fs)
unfolding synthetic_in
of_synthetic None fs = next IsBoundKey (at_end fs) _ (λ end. failed [])
of_synthetic (Some d) fs = next IsBoundKey (under (codes "synthetic") (count_at d)) _ (λ n. next IsBoundKey (at_end fs) _ (λ end. so refl))

of_key_form : (der : Option Data) (fs : List Field) → Always IsBoundKey (key_row_in der fs)
unfolding key_row_in
of_key_form None fs = next IsBoundKey (optional_at (codes "synthetic") fs) _ (λ given. of_synthetic given.0 given.1)
of_key_form (Some d) fs = next IsBoundKey (under (codes "der") (bytes_at d)) _ (λ bytes. next IsBoundKey (at_end fs) _ (λ end. so refl))

of_key_row : (d : Data) → Always IsBoundKey (key_row_at d)
unfolding key_row_at
of_key_row d = next IsBoundKey (fields_at d) _ (λ fs. next IsBoundKey (optional_at (codes "der") fs) _ (λ der. of_key_form der.0 der.1))

abbrev AreBoundKeys : List KeyRow → Type 0
AreBoundKeys rows = list_all is_bound_key rows ≡ true

of_key_rows : (d : Data) → Always AreBoundKeys (key_rows_at d)
of_key_rows d = of_list is_bound_key (numbered_at key_row_at) (of_numbered IsBoundKey key_row_at of_key_row) d

-- ---- answers

abbrev AreBoundReplies : List SignRow → Type 0
AreBoundReplies rows = list_all is_said rows ≡ true

of_reply_rows : (d : Data) → Always AreBoundReplies (reply_rows_at d)
of_reply_rows d = of_list is_said (numbered_at reply_row_at)
    (of_numbered (λ row. is_said row ≡ true) reply_row_at (λ e. further IsSaid (λ row. is_said row ≡ true) (reply_row_at e) (λ row is. is.0) (of_reply_row e))) d

-- ---- rows by Certificate

abbrev AreBound : Rows → Type 0
AreBound rows = (list_all is_bound_key rows.keys && list_all is_said rows.replies) ≡ true

of_rows : (d : Data) → Always AreBound (rows_at d)
unfolding rows_at
of_rows d = next AreBound (fields_at d) _ (λ fs. next AreBound (optional_at (codes "keys") fs) _ (λ first. after AreBoundKeys AreBound (member_or [] (codes "keys") key_rows_at first.0) _ (of_member_or AreBoundKeys [] (codes "keys") key_rows_at first.0 refl of_key_rows) (λ keys named. next AreBound (optional_at (codes "replies") first.1) _ (λ second. after AreBoundReplies AreBound (member_or [] (codes "replies") reply_rows_at second.0) _ (of_member_or AreBoundReplies [] (codes "replies") reply_rows_at second.0 refl of_reply_rows) (λ replies said. next AreBound (at_end second.1) _ (λ end. so (and_from (list_all is_bound_key keys) (list_all is_said replies) named said)))))))

abbrev IsBoundEntry : Key × Rows → Type 0
IsBoundEntry entry = is_bound_entry entry ≡ true

of_entry : (name : List ℕ) (d : Data) → Always IsBoundEntry (certificate_rows_at name d)
unfolding certificate_rows_at
of_entry name d = next IsBoundEntry (key_of_kind Certificate name) _ (λ certificate. after AreBound IsBoundEntry (rows_at d) _ (of_rows d) (λ rows bound. so bound))

abbrev IsBoundMaterial : List (Key × Rows) → Type 0
IsBoundMaterial material = list_all is_bound_entry material ≡ true

either_way : {A : Type 0} (P : A → Type 0) (o : Ordering) (a b c : A) → P a → P b → P c → P (match_ordering o a b c)
either_way P Less a b c x y z = x
either_way P Equal a b c x y z = y
either_way P Greater a b c x y z = z

-- one more entry at its place
entry_put : (material : List (Key × Rows)) (certificate : Key) (rows : Rows) → AreBound rows → IsBoundMaterial material → IsBoundMaterial (insert_entry key_cmp material certificate rows)
entry_put [] certificate rows bound all = and_from (is_bound_entry (certificate, rows)) true bound refl
entry_put (e ∷ es) certificate rows bound all =
    let here : is_bound_entry e ≡ true = (and_parts (is_bound_entry e) (list_all is_bound_entry es) all).0 in
    let rest : IsBoundMaterial es = (and_parts (is_bound_entry e) (list_all is_bound_entry es) all).1 in
    either_way IsBoundMaterial (key_cmp certificate e.0) ((certificate, rows) ∷ e ∷ es) ((e.0, rows) ∷ es) (e ∷ insert_entry key_cmp es certificate rows)
    (and_from (is_bound_entry (certificate, rows)) (list_all is_bound_entry (e ∷ es)) bound all)
    (and_from (is_bound_entry (e.0, rows)) (list_all is_bound_entry es) bound rest)
    (and_from (is_bound_entry e) (list_all is_bound_entry (insert_entry key_cmp es certificate rows)) here (entry_put es certificate rows bound rest))

of_entries : (material : List (Key × Rows)) (ms : Members) → IsBoundMaterial material → Always IsBoundMaterial (material_with material ms)
of_entries material no_members all = so all
of_entries material (member name d ms) all =
    after IsBoundEntry IsBoundMaterial (under name (certificate_rows_at name d)) _ (below IsBoundEntry name (certificate_rows_at name d) (of_entry name d))
    (λ entry is. of_entries (insert_entry key_cmp material entry.0 entry.1) ms (entry_put material entry.0 entry.1 is all))

of_listed : (d : Data) → Always IsBoundMaterial (material_at d)
of_listed (object ms) = of_entries [] ms refl
of_listed null = failed []
of_listed (boolean b) = failed []
of_listed (number n) = failed []
of_listed (string s) = failed []
of_listed (array ds) = failed []

-- ---- scenarios

abbrev IsBoundWorld : World × List Field → Type 0
IsBoundWorld p = IsBoundMaterial p.0.material

of_world : (fs : List Field) → Always IsBoundWorld (world_in fs)
unfolding world_in
of_world fs = next IsBoundWorld (optional_at (codes "approver") fs) _ (λ first. next IsBoundWorld (member_or default_approver (codes "approver") approver_at first.0) _ (λ approver. next IsBoundWorld (optional_at (codes "events") first.1) _ (λ second. next IsBoundWorld (member_or 100000 (codes "events") size_at second.0) _ (λ events. next IsBoundWorld (optional_at (codes "faults") second.1) _ (λ third. next IsBoundWorld (member_or [] (codes "faults") faults_at third.0) _ (λ faults. next IsBoundWorld (optional_at (codes "material") third.1) _ (λ fourth. after IsBoundMaterial IsBoundWorld (member_or [] (codes "material") material_at fourth.0) _ (of_member_or IsBoundMaterial [] (codes "material") material_at fourth.0 refl of_listed) (λ material bound. so bound))))))))

-- a step of the form leaves no answer open
step_bound : (step : Step) → is_step_form step ≡ true → is_bound_step step ≡ true
step_bound (steps.Answer certificate revision row) is = (and_parts (is_said row) (is_row_form row) (and_parts (is_certificate certificate) (is_said row && is_row_form row) is).1).0
step_bound other is = refl

script_bound : (script : List Step) → list_all is_step_form script ≡ true → list_all is_bound_step script ≡ true
script_bound [] all = refl
script_bound (step ∷ script) all =
    let parts = and_parts (is_step_form step) (list_all is_step_form script) all in and_from (is_bound_step step) (list_all is_bound_step script) (step_bound step parts.0) (script_bound script parts.1)

of_setup : (fs : List Field) → Always LeavesNothingFree (setup_in fs)
unfolding setup_in
of_setup fs = after IsBoundWorld LeavesNothingFree (world_in fs) _ (of_world fs) (λ world bound. next LeavesNothingFree (beginning_in world.1) _ (λ beginning. next LeavesNothingFree (optional_at (codes "script") beginning.1) _ (λ first. after (IsScript (first_stage beginning.0.roles beginning.0.moment)) LeavesNothingFree (script_at (first_stage beginning.0.roles beginning.0.moment) first.0) _ (of_script (first_stage beginning.0.roles beginning.0.moment) first.0) (λ script formed. next LeavesNothingFree (optional_at (codes "window") first.1) _ (λ second. next LeavesNothingFree (member_or 1000 (codes "window") size_at second.0) _ (λ window. next LeavesNothingFree (at_end second.1) _ (λ end. so (record { material = bound; script = script_bound script formed.forms }))))))))

of_scenario : (d : Data) → Always LeavesNothingFree (scenario_whole_at d)
unfolding scenario_whole_at members_at
of_scenario d = after LeavesNothingFree LeavesNothingFree (members_at d) _ (next LeavesNothingFree (fields_at d) setup_in of_setup) (λ scenario bound. next LeavesNothingFree (floats_at d) _ (λ none. so bound))

in_its_words : (u : Setup) (r : Read Setup) → in_words r ≡ Ok u → r ≡ Ok u
in_its_words u (Ok x) is = ap Ok (let same : x ≡ u = cc is in same)
in_its_words u (Err path) is = absurd (cc is)

pub what_is_read : (d : Data) (u : Setup) → scenario_at d ≡ Ok u → LeavesNothingFree u
unfolding scenario_at
what_is_read d u is = (of_scenario d).each u (in_its_words u (scenario_whole_at d) is)

pub what_is_made : (count : ℕ) → 1 ≤ count → count ≤ 200 → LeavesNothingFree (load_setup count)
what_is_made count some few = record { material = refl; script = script_bound (load_setup count).script (is_setup count some few).steps }
