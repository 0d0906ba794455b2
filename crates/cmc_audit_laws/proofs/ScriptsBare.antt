-- What is read of a scenario applies objects without a status.
use Rattle.std.proofs.Common.{◌≡◌, ℕ, ◌+◌, ◌-◌, zero, suc, List, [], ◌∷◌, true, false, Bool, Option, Some, None, Ok, Err, refl, subst, codes}
use Rattle.std.specs.declared.result.Result.{Result}
use Rattle.std.specs.Prelude.{if◌then◌else◌, nat_lt, slice_get, decimal}
use Rattle.std.specs.Str.{bytes_eq}
use Rattle.serde_json.specs.Data.{Data, null, boolean, number, string, array, object, Items, no_items, item}
use Rattle.cmc_objects.specs.declared.entry.Step.{Step}
use Rattle.cmc_objects.specs.declared.entry.Step.TheVariants.{Apply}
use Rattle.cmc_objects.specs.declared.object.Object.{Object}
use Rattle.cmc_setup.specs.Setups.{Setup}
use Rattle.cmc_setup.specs.Stages.{Stage}
use Rattle.cmc_cursor.specs.Members.{Read, in_words, ◌>>=◌, under, Field, fields_at, optional_at, required_at, at_end}
use Rattle.cmc_cursor.specs.Readers.{count_at, word_at, text_at, parts_at, passes, floats_at, text_member}
use Rattle.cmc_codec.specs.Given.{next_member_or as given_or, needed_at}
use Rattle.cmc_codec.specs.MetadataForm.{head_at}
use Rattle.cmc_codec.specs.CertificateForm.{api_at, spec_at, api_request_spec_at}
use Rattle.cmc_codec.specs.ObjectForm.{status_last, applied_certificate_in as certificate_form, applied_request_in as request_form, applied_secret_in as secret_form, any_version_at, stranger_in, object_in, applied_at as object_form_at}
use Rattle.cmc_codec.specs.declared.object_in.Applied.{Applied}
use Rattle.cmc_material.specs.Keys.{key_at}
use Rattle.cmc_material.specs.Lists.{member_or, member_option, bounded_at}
use Rattle.cmc_material.specs.MaterialRows.{certificate_key_at, reply_row_at}
use Rattle.cmc_scenario.specs.Applied.{apply_step_at}
use Rattle.cmc_scenario.specs.Roles.{role_at}
use Rattle.cmc_scenario.specs.Scripts.{apply_in, delete_in, certificate_member_in, revision_in, approve_in, deny_in, answer_in, renew_in, tick_in, stop_in, start_in, informer_in, hold_in, release_in, until_in, settle_in, stray_in, waiting_step_in, running_in, step_in, script_step_at, in_turn, numbered_step_at, steps_from, steps_at, script_at}
use Rattle.cmc_scenario.specs.Scenarios.{world_in, beginning_in, setup_in, setup_of, members_at, scenario_whole_at, size_at, scenario_at}
use Rattle.cmc_cursor.proofs.Always.{Always, so, failed, next, after, below, either, where_true}
use Rattle.cmc_rules.specs.Scripts.{step_at as step_of}
use Rattle.cmc_audit_laws.specs.Given.{HasNoStatus, ApplyBare}

-- ---- objects

abbrev IsApplied : Applied → Type 0
IsApplied applied = HasNoStatus applied.object

of_certificate : (fs : List Field) → Always IsApplied (certificate_form fs)
unfolding certificate_form
of_certificate fs = next IsApplied (needed_at api_at (codes "apiVersion") fs) _ (λ api. next IsApplied (required_at (codes "kind") api.1) _ (λ kind. next IsApplied (needed_at head_at (codes "metadata") kind.1) _ (λ head. next IsApplied (needed_at (spec_at api.0) (codes "spec") head.1) _ (λ spec. next IsApplied (status_last spec.1) _ (λ end. so refl)))))

of_request : (fs : List Field) → Always IsApplied (request_form fs)
unfolding request_form
of_request fs = next IsApplied (needed_at api_at (codes "apiVersion") fs) _ (λ api. next IsApplied (required_at (codes "kind") api.1) _ (λ kind. next IsApplied (needed_at head_at (codes "metadata") kind.1) _ (λ head. next IsApplied (needed_at (api_request_spec_at api.0) (codes "spec") head.1) _ (λ spec. next IsApplied (status_last spec.1) _ (λ end. so refl)))))

of_secret : (fs : List Field) → Always IsApplied (secret_form fs)
unfolding secret_form
of_secret fs = next IsApplied (needed_at (word_at (codes "v1")) (codes "apiVersion") fs) _ (λ api. next IsApplied (given_or [] parts_at (codes "data") api.1) _ (λ parts. next IsApplied (required_at (codes "kind") parts.1) _ (λ kind. next IsApplied (needed_at head_at (codes "metadata") kind.1) _ (λ head. next IsApplied (optional_at (codes "status") head.1) _ (λ status. next IsApplied (passes (codes "status") status.0) _ (λ dropped. next IsApplied (given_or (codes "Opaque") text_at (codes "type") status.1) _ (λ kind_text. next IsApplied (at_end kind_text.1) _ (λ end. so tt))))))))

of_stranger : (fs : List Field) → Always IsApplied (stranger_in fs)
unfolding stranger_in
of_stranger fs = next IsApplied (needed_at any_version_at (codes "apiVersion") fs) _ (λ api. next IsApplied (optional_at (codes "data") api.1) _ (λ given. next IsApplied (passes (codes "data") given.0) _ (λ passed. next IsApplied (required_at (codes "kind") given.1) _ (λ kind. failed (codes "kind" ∷ [])))))

of_object : (kind : Option (List ℕ)) (fs : List Field) → Always IsApplied (object_in kind fs)
of_object None fs = of_stranger fs
of_object (Some kind) fs =
    either IsApplied (bytes_eq kind (codes "Certificate")) (certificate_form fs) (if bytes_eq kind (codes "CertificateRequest") then request_form fs else (if bytes_eq kind (codes "Secret") then secret_form fs else stranger_in fs)) (of_certificate fs)
    (either IsApplied (bytes_eq kind (codes "CertificateRequest")) (request_form fs) (if bytes_eq kind (codes "Secret") then secret_form fs else stranger_in fs) (of_request fs)
    (either IsApplied (bytes_eq kind (codes "Secret")) (secret_form fs) (stranger_in fs) (of_secret fs) (of_stranger fs)))

-- each object that is read
of_object_form : (d : Data) → Always IsApplied (object_form_at d)
unfolding object_form_at
of_object_form d = next IsApplied (fields_at d) (object_in (text_member (codes "kind") d)) (λ fs. of_object (text_member (codes "kind") d) fs)

-- ---- steps

-- an object that the step applies has no status
abbrev IsBareStep : Step → Type 0
IsBareStep (Apply applied version) = HasNoStatus applied
IsBareStep other = Unit {0}

of_applied : (d : Data) → Always IsBareStep (apply_step_at d)
of_applied d = after IsApplied IsBareStep (object_form_at d) _ (of_object_form d) (λ applied is. so is)

of_apply : (fs : List Field) → Always IsBareStep (apply_in fs)
unfolding apply_in
of_apply fs = next IsBareStep (required_at (codes "do") fs) _ (λ word. next IsBareStep (required_at (codes "object") word.1) _ (λ given. after IsBareStep IsBareStep (under (codes "object") (apply_step_at given.0)) _ (below IsBareStep (codes "object") (apply_step_at given.0) (of_applied given.0)) (λ step is. next IsBareStep (at_end given.1) _ (λ end. so is))))

of_delete : (fs : List Field) → Always IsBareStep (delete_in fs)
unfolding delete_in
of_delete fs = next IsBareStep (required_at (codes "do") fs) _ (λ word. next IsBareStep (required_at (codes "key") word.1) _ (λ given. next IsBareStep (under (codes "key") (key_at given.0)) _ (λ key. next IsBareStep (optional_at (codes "version") given.1) _ (λ version. next IsBareStep (member_option (codes "version") count_at version.0) _ (λ named. next IsBareStep (at_end version.1) _ (λ end. so (tt)))))))

of_approve : (fs : List Field) → Always IsBareStep (approve_in fs)
unfolding approve_in
of_approve fs = next IsBareStep (revision_in fs) _ (λ named. next IsBareStep (at_end named.1) _ (λ end. so (tt)))

of_deny : (fs : List Field) → Always IsBareStep (deny_in fs)
unfolding deny_in
of_deny fs = next IsBareStep (revision_in fs) _ (λ named. next IsBareStep (at_end named.1) _ (λ end. so (tt)))

of_answer : (fs : List Field) → Always IsBareStep (answer_in fs)
unfolding answer_in
of_answer fs = next IsBareStep (revision_in fs) _ (λ named. next IsBareStep (required_at (codes "row") named.1) _ (λ given. next IsBareStep (under (codes "row") (reply_row_at given.0)) _ (λ row. next IsBareStep (at_end given.1) _ (λ end. so (tt)))))

of_renew : (fs : List Field) → Always IsBareStep (renew_in fs)
unfolding renew_in
of_renew fs = next IsBareStep (certificate_member_in fs) _ (λ named. next IsBareStep (at_end named.1) _ (λ end. so (tt)))

-- ---- time, roles, informers and waits

of_tick : (fs : List Field) → Always IsBareStep (tick_in fs)
unfolding tick_in
of_tick fs = next IsBareStep (required_at (codes "do") fs) _ (λ word. next IsBareStep (required_at (codes "seconds") word.1) _ (λ given. next IsBareStep (under (codes "seconds") (bounded_at 1 1000000000 given.0)) _ (λ seconds. next IsBareStep (at_end given.1) _ (λ end. so (tt)))))

of_stop : (fs : List Field) → Always IsBareStep (stop_in fs)
unfolding stop_in
of_stop fs = next IsBareStep (required_at (codes "do") fs) _ (λ word. next IsBareStep (required_at (codes "role") word.1) _ (λ given. next IsBareStep (under (codes "role") (role_at given.0)) _ (λ role. next IsBareStep (at_end given.1) _ (λ end. so (tt)))))

of_start : (fs : List Field) → Always IsBareStep (start_in fs)
unfolding start_in
of_start fs = next IsBareStep (required_at (codes "behind") fs) _ (λ lag. next IsBareStep (under (codes "behind") (count_at lag.0)) _ (λ behind. next IsBareStep (required_at (codes "do") lag.1) _ (λ word. next IsBareStep (required_at (codes "role") word.1) _ (λ given. next IsBareStep (under (codes "role") (role_at given.0)) _ (λ role. next IsBareStep (at_end given.1) _ (λ end. so (tt)))))))

of_hold : (fs : List Field) → Always IsBareStep (hold_in fs)
unfolding hold_in
of_hold fs = next IsBareStep (informer_in fs) _ (λ named. next IsBareStep (at_end named.1) _ (λ end. so (tt)))

of_release : (fs : List Field) → Always IsBareStep (release_in fs)
unfolding release_in
of_release fs = next IsBareStep (informer_in fs) _ (λ named. next IsBareStep (at_end named.1) _ (λ end. so (tt)))

of_until : (fs : List Field) → Always IsBareStep (until_in fs)
unfolding until_in
of_until fs = next IsBareStep (informer_in fs) _ (λ named. next IsBareStep (required_at (codes "writes") named.1) _ (λ given. next IsBareStep (under (codes "writes") (count_at given.0)) _ (λ writes. next IsBareStep (at_end given.1) _ (λ end. so (tt)))))

of_settle : (fs : List Field) → Always IsBareStep (settle_in fs)
unfolding settle_in
of_settle fs = next IsBareStep (required_at (codes "do") fs) _ (λ word. next IsBareStep (at_end word.1) _ (λ end. so (tt)))

of_stray : (fs : List Field) → Always IsBareStep (stray_in fs)
unfolding stray_in
of_stray fs = next IsBareStep (optional_at (codes "behind") fs) _ (λ behind. next IsBareStep (passes (codes "behind") behind.0) _ (λ first. next IsBareStep (optional_at (codes "certificate") behind.1) _ (λ certificate. next IsBareStep (passes (codes "certificate") certificate.0) _ (λ second. next IsBareStep (required_at (codes "do") certificate.1) _ (λ word. failed (codes "do" ∷ []))))))

of_waiting : (word : List ℕ) (fs : List Field) → Always IsBareStep (waiting_step_in word fs)
of_waiting word fs = either IsBareStep (bytes_eq word (codes "hold")) (hold_in fs) (if bytes_eq word (codes "release") then release_in fs else (if bytes_eq word (codes "until") then until_in fs else (if bytes_eq word (codes "settle") then settle_in fs else (stray_in fs)))) (of_hold fs) (either IsBareStep (bytes_eq word (codes "release")) (release_in fs) (if bytes_eq word (codes "until") then until_in fs else (if bytes_eq word (codes "settle") then settle_in fs else (stray_in fs))) (of_release fs) (either IsBareStep (bytes_eq word (codes "until")) (until_in fs) (if bytes_eq word (codes "settle") then settle_in fs else (stray_in fs)) (of_until fs) (either IsBareStep (bytes_eq word (codes "settle")) (settle_in fs) (stray_in fs) (of_settle fs) (of_stray fs))))

of_running : (word : List ℕ) (fs : List Field) → Always IsBareStep (running_in word fs)
of_running word fs = either IsBareStep (bytes_eq word (codes "tick")) (tick_in fs) (if bytes_eq word (codes "stop") then stop_in fs else (if bytes_eq word (codes "start") then start_in fs else (waiting_step_in word fs))) (of_tick fs) (either IsBareStep (bytes_eq word (codes "stop")) (stop_in fs) (if bytes_eq word (codes "start") then start_in fs else (waiting_step_in word fs)) (of_stop fs) (either IsBareStep (bytes_eq word (codes "start")) (start_in fs) (waiting_step_in word fs) (of_start fs) (of_waiting word fs)))

of_step : (word : Option (List ℕ)) (fs : List Field) → Always IsBareStep (step_in word fs)
of_step None fs = of_stray fs
of_step (Some word) fs = either IsBareStep (bytes_eq word (codes "apply")) (apply_in fs) (if bytes_eq word (codes "delete") then delete_in fs else (if bytes_eq word (codes "approve") then approve_in fs else (if bytes_eq word (codes "deny") then deny_in fs else (if bytes_eq word (codes "answer") then answer_in fs else (if bytes_eq word (codes "renew") then renew_in fs else (running_in word fs)))))) (of_apply fs) (either IsBareStep (bytes_eq word (codes "delete")) (delete_in fs) (if bytes_eq word (codes "approve") then approve_in fs else (if bytes_eq word (codes "deny") then deny_in fs else (if bytes_eq word (codes "answer") then answer_in fs else (if bytes_eq word (codes "renew") then renew_in fs else (running_in word fs))))) (of_delete fs) (either IsBareStep (bytes_eq word (codes "approve")) (approve_in fs) (if bytes_eq word (codes "deny") then deny_in fs else (if bytes_eq word (codes "answer") then answer_in fs else (if bytes_eq word (codes "renew") then renew_in fs else (running_in word fs)))) (of_approve fs) (either IsBareStep (bytes_eq word (codes "deny")) (deny_in fs) (if bytes_eq word (codes "answer") then answer_in fs else (if bytes_eq word (codes "renew") then renew_in fs else (running_in word fs))) (of_deny fs) (either IsBareStep (bytes_eq word (codes "answer")) (answer_in fs) (if bytes_eq word (codes "renew") then renew_in fs else (running_in word fs)) (of_answer fs) (either IsBareStep (bytes_eq word (codes "renew")) (renew_in fs) (running_in word fs) (of_renew fs) (of_running word fs))))))

-- each step that is read
of_value : (d : Data) → Always IsBareStep (script_step_at d)
unfolding script_step_at
of_value d = next IsBareStep (fields_at d) (step_in (text_member (codes "do") d)) (λ fs. of_step (text_member (codes "do") d) fs)

-- ---- scripts

abbrev AreBare : List Step → Type 0
AreBare [] = Unit {0}
AreBare (step ∷ rest) = IsBareStep step × AreBare rest

of_numbered : (n : ℕ) (stage : Stage) (d : Data) → Always IsBareStep (numbered_step_at n stage d)
unfolding numbered_step_at
of_numbered n stage d =
    where_true IsBareStep (nat_lt n 10000) (under (decimal n) (script_step_at d) >>= in_turn n stage) (decimal n ∷ [])
    (λ e. after IsBareStep IsBareStep (under (decimal n) (script_step_at d)) (in_turn n stage) (below IsBareStep (decimal n) (script_step_at d) (of_value d)) (λ step is. where_true IsBareStep _ (Ok step) (decimal n ∷ []) (λ turn. so is)))

of_steps : (n : ℕ) (stage : Stage) (ds : Items) → Always AreBare (steps_from n stage ds)
of_steps n stage no_items = so tt
of_steps n stage (item d ds) =
    after IsBareStep AreBare (numbered_step_at n stage d) _ (of_numbered n stage d)
    (λ s first. after AreBare AreBare (steps_from (n + 1) _ ds) (λ ss. Ok (s ∷ ss)) (of_steps (n + 1) _ ds) (λ ss all. so (first, all)))

of_listed : (stage : Stage) (d : Data) → Always AreBare (steps_at stage d)
of_listed stage (array ds) = of_steps 0 stage ds
of_listed stage null = failed []
of_listed stage (boolean b) = failed []
of_listed stage (number n) = failed []
of_listed stage (string s) = failed []
of_listed stage (object ms) = failed []

of_script : (stage : Stage) (given : Option Data) → Always AreBare (script_at stage given)
of_script stage None = so tt
of_script stage (Some d) = below AreBare (codes "script") (steps_at stage d) (of_listed stage d)

-- ---- the whole

abbrev IsBareSetup : Setup → Type 0
IsBareSetup u = AreBare u.script

of_setup : (fs : List Field) → Always IsBareSetup (setup_in fs)
unfolding setup_in
of_setup fs =
    next IsBareSetup (world_in fs) _ (λ world. next IsBareSetup (beginning_in world.1) _ (λ beginning. next IsBareSetup (optional_at (codes "script") beginning.1) _
    (λ first. after AreBare IsBareSetup (script_at _ first.0) _ (of_script _ first.0)
    (λ script bare. next IsBareSetup (optional_at (codes "window") first.1) _ (λ second. next IsBareSetup (member_or 1000 (codes "window") size_at second.0) _
    (λ window. next IsBareSetup (at_end second.1) _ (λ end. so bare)))))))

of_members : (d : Data) → Always IsBareSetup (members_at d)
unfolding members_at
of_members d = next IsBareSetup (fields_at d) setup_in of_setup

of_whole : (d : Data) → Always IsBareSetup (scenario_whole_at d)
unfolding scenario_whole_at
of_whole d = after IsBareSetup IsBareSetup (members_at d) _ (of_members d) (λ scenario bare. next IsBareSetup (floats_at d) _ (λ none. so bare))

bare_as : (step : Step) (applied : Object) (version : Option ℕ) → IsBareStep step → step ≡ Apply applied version → HasNoStatus applied
bare_as step applied version bare same = subst IsBareStep same bare

in_script : (script : List Step) (place : ℕ) (applied : Object) (version : Option ℕ) → AreBare script → slice_get script place ≡ Some (Apply applied version) → HasNoStatus applied
in_script [] place applied version bare is = absurd (cc is)
in_script (step ∷ rest) zero applied version bare is = bare_as step applied version bare.0 (let same : step ≡ Apply applied version = cc is in same)
in_script (step ∷ rest) (suc place) applied version bare is = in_script rest place applied version bare.1 is

bare_result : (r : Read Setup) (scenario : Setup) → Always IsBareSetup r → in_words r ≡ Ok scenario → IsBareSetup scenario
bare_result (Ok setup) scenario always is = let same : setup ≡ scenario = cc is in subst IsBareSetup same (always.each setup refl)
bare_result (Err path) scenario always is = absurd (cc is)

pub applies_bare : (d : Data) (scenario : Setup) → scenario_at d ≡ Ok scenario → ApplyBare scenario.script
unfolding scenario_at
applies_bare d scenario is n applied version there = in_script scenario.script (n - 1) applied version (bare_result (scenario_whole_at d) scenario (of_whole d) is) there
