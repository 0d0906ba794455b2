-- Steps that were read are printed as steps that are read again.
use Rattle.std.proofs.Common.{◌≡◌, ℕ, List, [], ◌∷◌, Ok, Option, Some, None, refl, codes}
use Rattle.std.specs.Prelude.{if◌then◌else◌}
use Rattle.std.specs.Str.{bytes_eq}
use Rattle.serde_json.specs.Data.{Data, string}
use Rattle.cmc_meta.specs.declared.key.Key.{Key}
use Rattle.cmc_meta.specs.declared.key.Kind.{Kind}
use Rattle.cmc_meta.specs.declared.key.Kind.TheVariants.{Certificate, CertificateRequest, Secret}
use Rattle.cmc_objects.specs.declared.object.Object.{Object}
use Rattle.cmc_objects.specs.declared.role.Role.{Role}
use Rattle.cmc_objects.specs.declared.role.Role.TheVariants.{Trigger, KeyManager, RequestManager, Approver, Issuer, Issuing, Readiness, Revision}
use Rattle.cmc_objects.specs.declared.rows.SignRow.{SignRow}
use Rattle.cmc_objects.specs.declared.entry.Step.{Step}
use Rattle.cmc_objects.specs.declared.entry.Step.TheVariants.{Apply, Delete, Approve, Deny, Answer, Renew, Tick, Stop, Start, Hold, Release, Until, Settle}
use Rattle.cmc_cursor.specs.Members.{Read, under, Field, fields_at, optional_at, required_at, at_end}
use Rattle.cmc_cursor.specs.Readers.{count_at, passes, text_member}
use Rattle.cmc_cursor.proofs.Always.{Always, so, failed, next, after, below, either}
use Rattle.cmc_print.specs.Trees.{natural}
use Rattle.cmc_print.specs.Printed as printed
use Rattle.cmc_print.specs.Words.{kind_name, role_name, name_text, key_text}
use Rattle.cmc_codec.specs.ObjectForm as objects
use Rattle.cmc_material.specs.Keys.{key_at}
use Rattle.cmc_material.specs.Lists.{member_option, bounded_at}
use Rattle.cmc_material.specs.MaterialRows.{certificate_key_at, reply_row_at}
use Rattle.cmc_scenario.specs.Applied.{apply_step_at}
use Rattle.cmc_scenario.specs.Roles.{role_at, kind_at}
use Rattle.cmc_scenario.specs.Scripts.{apply_in, delete_in, certificate_member_in, revision_in, approve_in, deny_in, answer_in, renew_in, tick_in, stop_in, start_in, informer_in, hold_in, release_in, until_in, settle_in, stray_in, waiting_step_in, running_in, step_in, script_step_at}
use Rattle.cmc_scenario_print.specs.RowTrees.{sign_row_tree}
use Rattle.cmc_scenario_print.specs.StepTrees.{step_members, step_tree}
use Rattle.cmc_scenario_laws.specs.Rows.{HasReplyBytes}
use Rattle.cmc_scenario_laws.specs.Steps.{HasStepBytes}
use Rattle.cmc_scenario_laws.proofs.Members.{Again, bounded_again}
use Rattle.cmc_scenario_laws.proofs.KeysAgain.{certificate_so, key_so}
use Rattle.cmc_scenario_laws.proofs.RowsAgain.{reply_row_so}
use Rattle.cmc_scenario_laws.proofs.AppliedAgain.{IsAppliedAgain, applied_so}

abbrev pub IsStepAgain : Step → Type 0
IsStepAgain = Again HasStepBytes script_step_at step_tree

abbrev IsKey : Key → Type 0
IsKey key = key_at (string (key_text key)) ≡ Ok key

abbrev IsCertificate : Key → Type 0
IsCertificate certificate = certificate_key_at (string (name_text certificate)) ≡ Ok certificate

abbrev IsRow : SignRow → Type 0
IsRow row = reply_row_at (sign_row_tree row) ≡ Ok row

abbrev IsTick : ℕ → Type 0
IsTick seconds = bounded_at 1 1000000000 (natural seconds) ≡ Ok seconds

-- ---- words

pub role_again : (role : Role) → role_at (string (role_name role)) ≡ Ok role
role_again Trigger = refl
role_again KeyManager = refl
role_again RequestManager = refl
role_again Approver = refl
role_again Issuer = refl
role_again Issuing = refl
role_again Readiness = refl
role_again Revision = refl

kind_again : (kind : Kind) → kind_at (string (kind_name kind)) ≡ Ok kind
kind_again Certificate = refl
kind_again CertificateRequest = refl
kind_again Secret = refl

-- ---- each step is read again

pub apply_again : (o : Object) (version : Option ℕ) → objects.applied_at (printed.applied_tree o version) ≡ Ok (record { object = o; version = version }) → script_step_at (step_tree (Apply o version)) ≡ Ok (Apply o version)
unfolding script_step_at step_members apply_in required_at
apply_again o version is = rw is refl

delete_again : (key : Key) (version : Option ℕ) → IsKey key → script_step_at (step_tree (Delete key version)) ≡ Ok (Delete key version)
unfolding script_step_at step_members delete_in required_at
delete_again key None is = rw is refl
delete_again key (Some version) is = rw is refl

approve_again : (certificate : Key) (revision : ℕ) → IsCertificate certificate → script_step_at (step_tree (Approve certificate revision)) ≡ Ok (Approve certificate revision)
unfolding script_step_at step_members approve_in revision_in certificate_member_in required_at
approve_again certificate revision is = rw is refl

deny_again : (certificate : Key) (revision : ℕ) → IsCertificate certificate → script_step_at (step_tree (Deny certificate revision)) ≡ Ok (Deny certificate revision)
unfolding script_step_at step_members deny_in revision_in certificate_member_in required_at
deny_again certificate revision is = rw is refl

answer_again : (certificate : Key) (revision : ℕ) (row : SignRow) → IsCertificate certificate → IsRow row → script_step_at (step_tree (Answer certificate revision row)) ≡ Ok (Answer certificate revision row)
unfolding script_step_at step_members answer_in revision_in certificate_member_in required_at
answer_again certificate revision row is said = rw (is, said) refl

renew_again : (certificate : Key) → IsCertificate certificate → script_step_at (step_tree (Renew certificate)) ≡ Ok (Renew certificate)
unfolding script_step_at step_members renew_in certificate_member_in required_at
renew_again certificate is = rw is refl

pub tick_again : (seconds : ℕ) → IsTick seconds → script_step_at (step_tree (Tick seconds)) ≡ Ok (Tick seconds)
unfolding script_step_at step_members tick_in required_at
tick_again seconds is = rw is refl

stop_again : (role : Role) → script_step_at (step_tree (Stop role)) ≡ Ok (Stop role)
unfolding script_step_at step_members stop_in required_at
stop_again role = rw (role_again role) refl

start_again : (role : Role) (behind : ℕ) → script_step_at (step_tree (Start role behind)) ≡ Ok (Start role behind)
unfolding script_step_at step_members start_in required_at
start_again role behind = rw (role_again role) refl

hold_again : (role : Role) (kind : Kind) → script_step_at (step_tree (Hold role kind)) ≡ Ok (Hold role kind)
unfolding script_step_at step_members hold_in informer_in required_at
hold_again role kind = rw (kind_again kind, role_again role) refl

release_again : (role : Role) (kind : Kind) → script_step_at (step_tree (Release role kind)) ≡ Ok (Release role kind)
unfolding script_step_at step_members release_in informer_in required_at
release_again role kind = rw (kind_again kind, role_again role) refl

until_again : (role : Role) (kind : Kind) (writes : ℕ) → script_step_at (step_tree (Until role kind writes)) ≡ Ok (Until role kind writes)
unfolding script_step_at step_members until_in informer_in required_at
until_again role kind writes = rw (kind_again kind, role_again role) refl

pub settle_again : script_step_at (step_tree Settle) ≡ Ok Settle
unfolding script_step_at step_members settle_in required_at
settle_again = refl

-- ---- what was read is so

apply_so : (fs : List Field) → Always IsStepAgain (apply_in fs)
unfolding apply_in
apply_so fs =
    next IsStepAgain (required_at (codes "do") fs) _ (λ word. next IsStepAgain (required_at (codes "object") word.1) _
    (λ given. after IsStepAgain IsStepAgain (under (codes "object") (apply_step_at given.0)) _
    (below IsStepAgain (codes "object") (apply_step_at given.0) (after IsAppliedAgain IsStepAgain (objects.applied_at given.0) _ (applied_so given.0) (λ applied is. so (λ bytes. apply_again applied.object applied.version (is bytes)))))
    (λ step is. next IsStepAgain (at_end given.1) _ (λ end. so is))))

delete_so : (fs : List Field) → Always IsStepAgain (delete_in fs)
unfolding delete_in
delete_so fs =
    next IsStepAgain (required_at (codes "do") fs) _ (λ word. next IsStepAgain (required_at (codes "key") word.1) _
    (λ given. after IsKey IsStepAgain (under (codes "key") (key_at given.0)) _ (below IsKey (codes "key") (key_at given.0) (key_so given.0))
    (λ key is. next IsStepAgain (optional_at (codes "version") given.1) _ (λ version. next IsStepAgain (member_option (codes "version") count_at version.0) _
    (λ named. next IsStepAgain (at_end version.1) _ (λ end. so (λ bytes. delete_again key named is)))))))

abbrev IsOfCertificate : Key × List Field → Type 0
IsOfCertificate p = IsCertificate p.0

named_so : (fs : List Field) → Always IsOfCertificate (certificate_member_in fs)
unfolding certificate_member_in
named_so fs =
    next IsOfCertificate (required_at (codes "certificate") fs) _
    (λ given. after IsCertificate IsOfCertificate (under (codes "certificate") (certificate_key_at given.0)) _ (below IsCertificate (codes "certificate") (certificate_key_at given.0) (certificate_so given.0))
    (λ certificate is. next IsOfCertificate (required_at (codes "do") given.1) _ (λ word. so is)))

abbrev IsOfRevision : (Key × ℕ) × List Field → Type 0
IsOfRevision p = IsCertificate p.0.0

revision_so : (fs : List Field) → Always IsOfRevision (revision_in fs)
unfolding revision_in
revision_so fs =
    after IsOfCertificate IsOfRevision (certificate_member_in fs) _ (named_so fs)
    (λ named is. next IsOfRevision (required_at (codes "revision") named.1) _ (λ which. next IsOfRevision (under (codes "revision") (count_at which.0)) _ (λ revision. so is)))

approve_so : (fs : List Field) → Always IsStepAgain (approve_in fs)
unfolding approve_in
approve_so fs = after IsOfRevision IsStepAgain (revision_in fs) _ (revision_so fs) (λ named is. next IsStepAgain (at_end named.1) _ (λ end. so (λ bytes. approve_again named.0.0 named.0.1 is)))

deny_so : (fs : List Field) → Always IsStepAgain (deny_in fs)
unfolding deny_in
deny_so fs = after IsOfRevision IsStepAgain (revision_in fs) _ (revision_so fs) (λ named is. next IsStepAgain (at_end named.1) _ (λ end. so (λ bytes. deny_again named.0.0 named.0.1 is)))

abbrev IsRowAgain : SignRow → Type 0
IsRowAgain = Again HasReplyBytes reply_row_at sign_row_tree

answer_so : (fs : List Field) → Always IsStepAgain (answer_in fs)
unfolding answer_in
answer_so fs =
    after IsOfRevision IsStepAgain (revision_in fs) _ (revision_so fs)
    (λ named is. next IsStepAgain (required_at (codes "row") named.1) _
    (λ given. after IsRowAgain IsStepAgain (under (codes "row") (reply_row_at given.0)) _ (below IsRowAgain (codes "row") (reply_row_at given.0) (reply_row_so given.0))
    (λ row said. next IsStepAgain (at_end given.1) _ (λ end. so (λ bytes. answer_again named.0.0 named.0.1 row is (said bytes))))))

renew_so : (fs : List Field) → Always IsStepAgain (renew_in fs)
unfolding renew_in
renew_so fs = after IsOfCertificate IsStepAgain (certificate_member_in fs) _ (named_so fs) (λ named is. next IsStepAgain (at_end named.1) _ (λ end. so (λ bytes. renew_again named.0 is)))

tick_so : (fs : List Field) → Always IsStepAgain (tick_in fs)
unfolding tick_in
tick_so fs =
    next IsStepAgain (required_at (codes "do") fs) _ (λ word. next IsStepAgain (required_at (codes "seconds") word.1) _
    (λ given. after IsTick IsStepAgain (under (codes "seconds") (bounded_at 1 1000000000 given.0)) _ (below IsTick (codes "seconds") (bounded_at 1 1000000000 given.0) (bounded_again 1 1000000000 given.0))
    (λ seconds is. next IsStepAgain (at_end given.1) _ (λ end. so (λ bytes. tick_again seconds is)))))

stop_so : (fs : List Field) → Always IsStepAgain (stop_in fs)
unfolding stop_in
stop_so fs =
    next IsStepAgain (required_at (codes "do") fs) _ (λ word. next IsStepAgain (required_at (codes "role") word.1) _ (λ given. next IsStepAgain (under (codes "role") (role_at given.0)) _
    (λ role. next IsStepAgain (at_end given.1) _ (λ end. so (λ bytes. stop_again role)))))

start_so : (fs : List Field) → Always IsStepAgain (start_in fs)
unfolding start_in
start_so fs =
    next IsStepAgain (required_at (codes "behind") fs) _ (λ lag. next IsStepAgain (under (codes "behind") (count_at lag.0)) _
    (λ behind. next IsStepAgain (required_at (codes "do") lag.1) _ (λ word. next IsStepAgain (required_at (codes "role") word.1) _ (λ given. next IsStepAgain (under (codes "role") (role_at given.0)) _
    (λ role. next IsStepAgain (at_end given.1) _ (λ end. so (λ bytes. start_again role behind)))))))

hold_so : (fs : List Field) → Always IsStepAgain (hold_in fs)
unfolding hold_in
hold_so fs = next IsStepAgain (informer_in fs) _ (λ named. next IsStepAgain (at_end named.1) _ (λ end. so (λ bytes. hold_again named.0.0 named.0.1)))

release_so : (fs : List Field) → Always IsStepAgain (release_in fs)
unfolding release_in
release_so fs = next IsStepAgain (informer_in fs) _ (λ named. next IsStepAgain (at_end named.1) _ (λ end. so (λ bytes. release_again named.0.0 named.0.1)))

until_so : (fs : List Field) → Always IsStepAgain (until_in fs)
unfolding until_in
until_so fs =
    next IsStepAgain (informer_in fs) _ (λ named. next IsStepAgain (required_at (codes "writes") named.1) _ (λ given. next IsStepAgain (under (codes "writes") (count_at given.0)) _
    (λ writes. next IsStepAgain (at_end given.1) _ (λ end. so (λ bytes. until_again named.0.0 named.0.1 writes)))))

settle_so : (fs : List Field) → Always IsStepAgain (settle_in fs)
unfolding settle_in
settle_so fs = next IsStepAgain (required_at (codes "do") fs) _ (λ word. next IsStepAgain (at_end word.1) _ (λ end. so (λ bytes. settle_again)))

stray_so : (fs : List Field) → Always IsStepAgain (stray_in fs)
unfolding stray_in
stray_so fs =
    next IsStepAgain (optional_at (codes "behind") fs) _ (λ behind. next IsStepAgain (passes (codes "behind") behind.0) _
    (λ first. next IsStepAgain (optional_at (codes "certificate") behind.1) _ (λ certificate. next IsStepAgain (passes (codes "certificate") certificate.0) _
    (λ second. next IsStepAgain (required_at (codes "do") certificate.1) _ (λ word. failed (codes "do" ∷ []))))))

-- ---- the word decides

waiting_so : (word : List ℕ) (fs : List Field) → Always IsStepAgain (waiting_step_in word fs)
waiting_so word fs =
    let settle = either IsStepAgain (bytes_eq word (codes "settle")) (settle_in fs) (stray_in fs) (settle_so fs) (stray_so fs) in
    let until = either IsStepAgain (bytes_eq word (codes "until")) (until_in fs) (if bytes_eq word (codes "settle") then settle_in fs else stray_in fs) (until_so fs) settle in
    let release = either IsStepAgain (bytes_eq word (codes "release")) (release_in fs) (if bytes_eq word (codes "until") then until_in fs else (if bytes_eq word (codes "settle") then settle_in fs else stray_in fs)) (release_so fs) until in
    either IsStepAgain (bytes_eq word (codes "hold")) (hold_in fs) (if bytes_eq word (codes "release") then release_in fs else (if bytes_eq word (codes "until") then until_in fs else (if bytes_eq word (codes "settle") then settle_in fs else stray_in fs))) (hold_so fs) release

running_so : (word : List ℕ) (fs : List Field) → Always IsStepAgain (running_in word fs)
running_so word fs =
    let start = either IsStepAgain (bytes_eq word (codes "start")) (start_in fs) (waiting_step_in word fs) (start_so fs) (waiting_so word fs) in
    let stop = either IsStepAgain (bytes_eq word (codes "stop")) (stop_in fs) (if bytes_eq word (codes "start") then start_in fs else waiting_step_in word fs) (stop_so fs) start in
    either IsStepAgain (bytes_eq word (codes "tick")) (tick_in fs) (if bytes_eq word (codes "stop") then stop_in fs else (if bytes_eq word (codes "start") then start_in fs else waiting_step_in word fs)) (tick_so fs) stop

-- steps that name a Certificate
abbrev certified_in : List ℕ → List Field → Read Step
certified_in word fs = if bytes_eq word (codes "approve") then approve_in fs
    else (if bytes_eq word (codes "deny") then deny_in fs
    else (if bytes_eq word (codes "answer") then answer_in fs
    else (if bytes_eq word (codes "renew") then renew_in fs else running_in word fs)))

certified_so : (word : List ℕ) (fs : List Field) → Always IsStepAgain (certified_in word fs)
certified_so word fs =
    let renew = either IsStepAgain (bytes_eq word (codes "renew")) (renew_in fs) (running_in word fs) (renew_so fs) (running_so word fs) in
    let answer = either IsStepAgain (bytes_eq word (codes "answer")) (answer_in fs) (if bytes_eq word (codes "renew") then renew_in fs else running_in word fs) (answer_so fs) renew in
    let deny = either IsStepAgain (bytes_eq word (codes "deny")) (deny_in fs) (if bytes_eq word (codes "answer") then answer_in fs else (if bytes_eq word (codes "renew") then renew_in fs else running_in word fs)) (deny_so fs) answer in
    either IsStepAgain (bytes_eq word (codes "approve")) (approve_in fs) (if bytes_eq word (codes "deny") then deny_in fs else (if bytes_eq word (codes "answer") then answer_in fs else (if bytes_eq word (codes "renew") then renew_in fs else running_in word fs))) (approve_so fs) deny

step_form_so : (word : Option (List ℕ)) (fs : List Field) → Always IsStepAgain (step_in word fs)
step_form_so None fs = stray_so fs
step_form_so (Some word) fs =
    let delete = either IsStepAgain (bytes_eq word (codes "delete")) (delete_in fs) (certified_in word fs) (delete_so fs) (certified_so word fs) in
    either IsStepAgain (bytes_eq word (codes "apply")) (apply_in fs) (if bytes_eq word (codes "delete") then delete_in fs else certified_in word fs) (apply_so fs) delete

pub step_so : (d : Data) → Always IsStepAgain (script_step_at d)
unfolding script_step_at
step_so d = next IsStepAgain (fields_at d) (step_in (text_member (codes "do") d)) (λ fs. step_form_so (text_member (codes "do") d) fs)
