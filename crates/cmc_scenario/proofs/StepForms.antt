-- What is read of a step has the form of one.
use Rattle.std.proofs.Common.{◌≡◌, ℕ, List, [], ◌∷◌, true, false, Option, Some, None, refl, sym, ◌∙◌, codes, arith}
use Rattle.std.specs.Prelude.{if◌then◌else◌, nat_le, ◌&&◌}
use Rattle.std.specs.Str.{bytes_eq}
use Rattle.std.proofs.lemmas.Bool.Decides.{nat_tests}
use Rattle.std.proofs.lemmas.Bool.{and_from}
use Rattle.serde_json.specs.Data.{Data}
use Rattle.cmc_meta.specs.declared.key.Key.{Key}
use Rattle.cmc_objects.specs.declared.entry.Step.{Step}
use Rattle.cmc_objects.specs.declared.entry.Step.TheVariants.{Tick}
use Rattle.cmc_objects.specs.Requests.{is_row_form}
use Rattle.cmc_setup.specs.Forms.{is_certificate, is_said, is_step_form}
use Rattle.cmc_setup.specs.Setups.{IsTickForm, is_tick, step_seconds}
use Rattle.cmc_cursor.specs.Members.{under, Field, fields_at, optional_at, required_at, at_end}
use Rattle.cmc_cursor.specs.Readers.{count_at, passes, text_member}
use Rattle.cmc_codec.specs.ObjectForm.{applied_at as object_form_at}
use Rattle.cmc_scenario.specs.Applied.{apply_step_at}
use Rattle.cmc_material.specs.Keys.{key_at}
use Rattle.cmc_material.specs.Lists.{member_option, bounded_at}
use Rattle.cmc_scenario.specs.Roles.{role_at}
use Rattle.cmc_material.specs.MaterialRows.{certificate_key_at, reply_row_at}
use Rattle.cmc_scenario.specs.Scripts.{apply_in, delete_in, certificate_member_in, revision_in, approve_in, deny_in, answer_in, renew_in, tick_in, stop_in, start_in, informer_in, hold_in, release_in, until_in, settle_in, stray_in, waiting_step_in, running_in, step_in, script_step_at}
use Rattle.cmc_scenario.proofs.ReadForms.{IsApplied, of_applied as of_object}
use Rattle.cmc_cursor.proofs.Always.{Always, so, failed, next, after, below, either}
use Rattle.cmc_material.proofs.ListForms.{of_bounded}
use Rattle.cmc_material.proofs.RowForms.{IsCertificate, IsSaid, of_certificate_text, of_reply_row}

-- the step applies an object of the form, names a Certificate and an answer where it has to, and a tick has 1 to 1,000,000,000 seconds
pub record IsStep (step : Step) : Type 0 where
  pub form : is_step_form step ≡ true
  pub ticks : IsTickForm step

-- a step that is no tick lets no second pass
no_seconds : (step : Step) → is_tick step ≡ false → step_seconds step ≡ 0
no_seconds (Tick seconds) is = absurd (cc)
no_seconds other is = refl

still_form : {step : Step} → is_tick step ≡ false → IsTickForm step
still_form {step = step} is = record { least = λ t. absurd (let e = sym t ∙ is in cc); most = omega (arith, no_seconds step is) }

abbrev IsTickTime : ℕ → Type 0
IsTickTime seconds = (nat_le 1 seconds && nat_le seconds 1000000000) ≡ true

tick_form : (seconds : ℕ) → IsTickTime seconds → IsTickForm (Tick seconds)
tick_form seconds is = record { least = λ t. grind (arith, nat_tests); most = grind (arith, nat_tests) }

-- ---- objects

of_applied : (d : Data) → Always IsStep (apply_step_at d)
of_applied d = after IsApplied IsStep (object_form_at d) _ (of_object d) (λ applied is. so (record { form = is; ticks = still_form refl }))

of_apply : (fs : List Field) → Always IsStep (apply_in fs)
unfolding apply_in
of_apply fs = next (IsStep) (required_at (codes "do") fs) _ (λ word. next (IsStep) (required_at (codes "object") word.1) _ (λ given. after (IsStep) (IsStep) (under (codes "object") (apply_step_at given.0)) _ (below IsStep (codes "object") (apply_step_at given.0) (of_applied given.0)) (λ step is. next (IsStep) (at_end given.1) _ (λ end. so is))))

of_delete : (fs : List Field) → Always IsStep (delete_in fs)
unfolding delete_in
of_delete fs = next (IsStep) (required_at (codes "do") fs) _ (λ word. next (IsStep) (required_at (codes "key") word.1) _ (λ given. next (IsStep) (under (codes "key") (key_at given.0)) _ (λ key. next (IsStep) (optional_at (codes "version") given.1) _ (λ version. next (IsStep) (member_option (codes "version") count_at version.0) _ (λ named. next (IsStep) (at_end version.1) _ (λ end. so (record { form = refl; ticks = still_form refl })))))))

-- ---- requests of a Certificate

abbrev IsOfCertificate : Key × List Field → Type 0
IsOfCertificate p = IsCertificate p.0

of_named : (fs : List Field) → Always IsOfCertificate (certificate_member_in fs)
unfolding certificate_member_in
of_named fs = next (IsOfCertificate) (required_at (codes "certificate") fs) _ (λ given. after (IsCertificate) (IsOfCertificate) (under (codes "certificate") (certificate_key_at given.0)) _ (below IsCertificate (codes "certificate") (certificate_key_at given.0) (of_certificate_text given.0)) (λ certificate is. next (IsOfCertificate) (required_at (codes "do") given.1) _ (λ word. so is)))

abbrev IsNamedCertificate : (Key × ℕ) × List Field → Type 0
IsNamedCertificate p = IsCertificate p.0.0

of_revision : (fs : List Field) → Always IsNamedCertificate (revision_in fs)
unfolding revision_in
of_revision fs = after (IsOfCertificate) (IsNamedCertificate) (certificate_member_in fs) _ (of_named fs) (λ named is. next (IsNamedCertificate) (required_at (codes "revision") named.1) _ (λ which. next (IsNamedCertificate) (under (codes "revision") (count_at which.0)) _ (λ revision. so is)))

of_approve : (fs : List Field) → Always IsStep (approve_in fs)
unfolding approve_in
of_approve fs = after (IsNamedCertificate) (IsStep) (revision_in fs) _ (of_revision fs) (λ named is. next (IsStep) (at_end named.1) _ (λ end. so (record { form = is; ticks = still_form refl })))

of_deny : (fs : List Field) → Always IsStep (deny_in fs)
unfolding deny_in
of_deny fs = after (IsNamedCertificate) (IsStep) (revision_in fs) _ (of_revision fs) (λ named is. next (IsStep) (at_end named.1) _ (λ end. so (record { form = is; ticks = still_form refl })))

of_answer : (fs : List Field) → Always IsStep (answer_in fs)
unfolding answer_in
of_answer fs = after (IsNamedCertificate) (IsStep) (revision_in fs) _ (of_revision fs) (λ named is. next (IsStep) (required_at (codes "row") named.1) _ (λ given. after (IsSaid) (IsStep) (under (codes "row") (reply_row_at given.0)) _ (below IsSaid (codes "row") (reply_row_at given.0) (of_reply_row given.0)) (λ row said. next (IsStep) (at_end given.1) _ (λ end. so (record { form = and_from (is_certificate named.0.0) (is_said row && is_row_form row) is (and_from (is_said row) (is_row_form row) said.0 said.1); ticks = still_form refl })))))

of_renew : (fs : List Field) → Always IsStep (renew_in fs)
unfolding renew_in
of_renew fs = after (IsOfCertificate) (IsStep) (certificate_member_in fs) _ (of_named fs) (λ named is. next (IsStep) (at_end named.1) _ (λ end. so (record { form = is; ticks = still_form refl })))

-- ---- time, roles, informers and waits

of_tick : (fs : List Field) → Always IsStep (tick_in fs)
unfolding tick_in
of_tick fs = next (IsStep) (required_at (codes "do") fs) _ (λ word. next (IsStep) (required_at (codes "seconds") word.1) _ (λ given. after (IsTickTime) (IsStep) (under (codes "seconds") (bounded_at 1 1000000000 given.0)) _ (below IsTickTime (codes "seconds") (bounded_at 1 1000000000 given.0) (of_bounded 1 1000000000 given.0)) (λ seconds is. next (IsStep) (at_end given.1) _ (λ end. so (record { form = refl; ticks = tick_form seconds is })))))

of_stop : (fs : List Field) → Always IsStep (stop_in fs)
unfolding stop_in
of_stop fs = next (IsStep) (required_at (codes "do") fs) _ (λ word. next (IsStep) (required_at (codes "role") word.1) _ (λ given. next (IsStep) (under (codes "role") (role_at given.0)) _ (λ role. next (IsStep) (at_end given.1) _ (λ end. so (record { form = refl; ticks = still_form refl })))))

of_start : (fs : List Field) → Always IsStep (start_in fs)
unfolding start_in
of_start fs = next (IsStep) (required_at (codes "behind") fs) _ (λ lag. next (IsStep) (under (codes "behind") (count_at lag.0)) _ (λ behind. next (IsStep) (required_at (codes "do") lag.1) _ (λ word. next (IsStep) (required_at (codes "role") word.1) _ (λ given. next (IsStep) (under (codes "role") (role_at given.0)) _ (λ role. next (IsStep) (at_end given.1) _ (λ end. so (record { form = refl; ticks = still_form refl })))))))

of_hold : (fs : List Field) → Always IsStep (hold_in fs)
unfolding hold_in
of_hold fs = next (IsStep) (informer_in fs) _ (λ named. next (IsStep) (at_end named.1) _ (λ end. so (record { form = refl; ticks = still_form refl })))

of_release : (fs : List Field) → Always IsStep (release_in fs)
unfolding release_in
of_release fs = next (IsStep) (informer_in fs) _ (λ named. next (IsStep) (at_end named.1) _ (λ end. so (record { form = refl; ticks = still_form refl })))

of_until : (fs : List Field) → Always IsStep (until_in fs)
unfolding until_in
of_until fs = next (IsStep) (informer_in fs) _ (λ named. next (IsStep) (required_at (codes "writes") named.1) _ (λ given. next (IsStep) (under (codes "writes") (count_at given.0)) _ (λ writes. next (IsStep) (at_end given.1) _ (λ end. so (record { form = refl; ticks = still_form refl })))))

of_settle : (fs : List Field) → Always IsStep (settle_in fs)
unfolding settle_in
of_settle fs = next (IsStep) (required_at (codes "do") fs) _ (λ word. next (IsStep) (at_end word.1) _ (λ end. so (record { form = refl; ticks = still_form refl })))

of_stray : (fs : List Field) → Always IsStep (stray_in fs)
unfolding stray_in
of_stray fs = next (IsStep) (optional_at (codes "behind") fs) _ (λ behind. next (IsStep) (passes (codes "behind") behind.0) _ (λ first. next (IsStep) (optional_at (codes "certificate") behind.1) _ (λ certificate. next (IsStep) (passes (codes "certificate") certificate.0) _ (λ second. next (IsStep) (required_at (codes "do") certificate.1) _ (λ word. failed (codes "do" ∷ []))))))

of_waiting : (word : List ℕ) (fs : List Field) → Always IsStep (waiting_step_in word fs)
of_waiting word fs = either IsStep (bytes_eq word (codes "hold")) (hold_in fs) (if bytes_eq word (codes "release") then release_in fs else (if bytes_eq word (codes "until") then until_in fs else (if bytes_eq word (codes "settle") then settle_in fs else (stray_in fs)))) (of_hold fs) (either IsStep (bytes_eq word (codes "release")) (release_in fs) (if bytes_eq word (codes "until") then until_in fs else (if bytes_eq word (codes "settle") then settle_in fs else (stray_in fs))) (of_release fs) (either IsStep (bytes_eq word (codes "until")) (until_in fs) (if bytes_eq word (codes "settle") then settle_in fs else (stray_in fs)) (of_until fs) (either IsStep (bytes_eq word (codes "settle")) (settle_in fs) (stray_in fs) (of_settle fs) (of_stray fs))))

of_running : (word : List ℕ) (fs : List Field) → Always IsStep (running_in word fs)
of_running word fs = either IsStep (bytes_eq word (codes "tick")) (tick_in fs) (if bytes_eq word (codes "stop") then stop_in fs else (if bytes_eq word (codes "start") then start_in fs else (waiting_step_in word fs))) (of_tick fs) (either IsStep (bytes_eq word (codes "stop")) (stop_in fs) (if bytes_eq word (codes "start") then start_in fs else (waiting_step_in word fs)) (of_stop fs) (either IsStep (bytes_eq word (codes "start")) (start_in fs) (waiting_step_in word fs) (of_start fs) (of_waiting word fs)))

of_step : (word : Option (List ℕ)) (fs : List Field) → Always IsStep (step_in word fs)
of_step None fs = of_stray fs
of_step (Some word) fs = either IsStep (bytes_eq word (codes "apply")) (apply_in fs) (if bytes_eq word (codes "delete") then delete_in fs else (if bytes_eq word (codes "approve") then approve_in fs else (if bytes_eq word (codes "deny") then deny_in fs else (if bytes_eq word (codes "answer") then answer_in fs else (if bytes_eq word (codes "renew") then renew_in fs else (running_in word fs)))))) (of_apply fs) (either IsStep (bytes_eq word (codes "delete")) (delete_in fs) (if bytes_eq word (codes "approve") then approve_in fs else (if bytes_eq word (codes "deny") then deny_in fs else (if bytes_eq word (codes "answer") then answer_in fs else (if bytes_eq word (codes "renew") then renew_in fs else (running_in word fs))))) (of_delete fs) (either IsStep (bytes_eq word (codes "approve")) (approve_in fs) (if bytes_eq word (codes "deny") then deny_in fs else (if bytes_eq word (codes "answer") then answer_in fs else (if bytes_eq word (codes "renew") then renew_in fs else (running_in word fs)))) (of_approve fs) (either IsStep (bytes_eq word (codes "deny")) (deny_in fs) (if bytes_eq word (codes "answer") then answer_in fs else (if bytes_eq word (codes "renew") then renew_in fs else (running_in word fs))) (of_deny fs) (either IsStep (bytes_eq word (codes "answer")) (answer_in fs) (if bytes_eq word (codes "renew") then renew_in fs else (running_in word fs)) (of_answer fs) (either IsStep (bytes_eq word (codes "renew")) (renew_in fs) (running_in word fs) (of_renew fs) (of_running word fs))))))

-- each step that is read
pub of_value : (d : Data) → Always IsStep (script_step_at d)
unfolding script_step_at
of_value d = next IsStep (fields_at d) (step_in (text_member (codes "do") d)) (λ fs. of_step (text_member (codes "do") d) fs)
