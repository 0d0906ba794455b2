-- After an issuance whose certificate is not due the trigger has nothing to do.
use Rattle.std.proofs.Common.{◌≡◌, ℕ, ℤ, List, [], ◌∷◌, Bool, true, false, not, Option, Some, None, refl, sym, ap, subst, ◌∙◌}
use Rattle.std.specs.Prelude.{if◌then◌else◌, ◌&&◌, is_some, codes, int_lt, nat_le, length}
use Rattle.std.specs.Str.{bytes_eq}
use Rattle.std.proofs.lemmas.Bool.{and_parts}
use Rattle.std.proofs.lemmas.Slice.Eq.{bytes_eq-Decides}
use Rattle.cmc_meta.specs.PairLists.{text_by_key, with_text}
use Rattle.cmc_der.specs.Keys.{PublicKey, CertificateFields}
use Rattle.cmc_der.specs.Elements.{read_at}
use Rattle.cmc_x509.specs.ReadKeys.{key_file_at, private_key_at, rsa_private_at, ec_private_at, private_key_info_at}
use Rattle.cmc_x509.specs.ReadCertificates.{certificate_fields_at, signed_at}
use Rattle.cmc_x509.specs.Options.{only_at, take_at, value_at}
use Rattle.cmc_objects.specs.declared.certificate.Certificate.{Certificate}
use Rattle.cmc_objects.specs.declared.request.CertificateRequest.{CertificateRequest}
use Rattle.cmc_objects.specs.declared.secret.Secret.{Secret}
use Rattle.cmc_objects.specs.declared.call.Call.{Call}
use Rattle.cmc_objects.specs.Defaults.{issuer_kind, issuer_group}
use Rattle.cmc_objects.specs.KeyPairs.{fields_with_key, is_paired}
use Rattle.cmc_policies.specs.declared.facts.Frame.{Frame}
use Rattle.cmc_policies.specs.declared.facts.Reason.{Reason}
use Rattle.cmc_policies.specs.Reasons.{Known, first_of}
use Rattle.cmc_policies.specs.Renewal.{renewal}
use Rattle.cmc_answers.specs.Temporary.{temporary}
use Rattle.cmc_objects.specs.Requests.{is_denied}
use Rattle.cmc_match.specs.Marks.{asks_for_temporary, is_text, has_text, is_temporary}
use Rattle.cmc_match.specs.Facts.{key_in, certificate_file_in, fits, pair_in, is_non_empty, is_filled, names_issuer, names_owner, is_absent_or, has_requested_key, is_unchanged, known_for}
use Rattle.cmc_match.specs.Matches.{matches, has_key}
use Rattle.cmc_match.specs.Revisions.{next_request}
use Rattle.cmc_pass.specs.declared.pass.Views.{Views}
use Rattle.cmc_pass.specs.declared.pass.Act.{Act}
use Rattle.cmc_pass.specs.declared.pass.Act.TheVariants.{Nothing, Issue, Temporary}
use Rattle.cmc_pass.specs.declared.pass.IssuePlan.{IssuePlan}
use Rattle.cmc_rules.specs.NextRequests.{is_wanted, is_refused}
use Rattle.cmc_rules.specs.Chains.{trigger_chain, trigger_reason}
use Rattle.cmc_rules.specs.Trigger.{trigger, for_certificate, for_reason, is_issuing, frame_of}
use Rattle.cmc_rules.specs.Issuance.{issuing, with_wanted, while_waiting, temporary_with, temporary_plan, is_granted, is_certified, is_some_pair, is_kept_for_keys, lacks_certificate, failure, fails_now, refusal, issue_plan, secret_call, new_target, old_target, filled, with_ca, marks, signed_marks, issued_status}
use Rattle.cmc_issuing.proofs.PairLists.{is_name, put_stands, put_beside, out_of, out_beside}
use Rattle.cmc_run_laws.specs.Issuances.{IsAsWritten, IsNotDue, certificate_restated, with_certificate, with_secret}
use Rattle.cmc_run_laws.proofs.Going.{acts, going, going_is}

-- ---- the plan

failure_is_no_plan : (now : ℤ) (reason : List ℕ) (c : Certificate) (plan : IssuePlan) → failure now reason c ≡ Issue plan → ⊥
unfolding failure
failure_is_no_plan now reason c plan is = cc is

stand_in_is_no_plan : (b : Bool) (c : Certificate) (file : List ℕ) (target : Option Secret) (certificate : Option (List ℕ)) (plan : IssuePlan) → (if b then temporary_with c file target certificate else Nothing) ≡ Issue plan → ⊥
stand_in_is_no_plan false c file target certificate plan is = cc is
stand_in_is_no_plan true c file target None plan is = cc is
stand_in_is_no_plan true c file target (Some certificate) plan is = by (nat_le (length certificate) 16777216) is where
  by : (b : Bool) → (if b then Temporary (temporary_plan c file certificate target) else Nothing) ≡ Issue plan → ⊥
  by true is = cc is
  by false is = cc is

-- an act that is a plan is that of a request that is granted, with a certificate for the key
plan_by : (refused fails granted certified kept : Bool) (now : ℤ) (reason : List ℕ) (c : Certificate) (one : IssuePlan) (waits : Act) (plan : IssuePlan) → (waits ≡ Issue plan → ⊥)
    → (if refused then (if fails then failure now reason c else Nothing) else (if granted then (if certified then (if kept then Nothing else Issue one) else failure now (codes "InvalidCertificate") c) else waits)) ≡ Issue plan
    → (certified ≡ true) × (one ≡ plan)
plan_by true true granted certified kept now reason c one waits plan none is = absurd (failure_is_no_plan now reason c plan is)
plan_by true false granted certified kept now reason c one waits plan none is = absurd (cc is)
plan_by false fails true true true now reason c one waits plan none is = absurd (cc is)
plan_by false fails true true false now reason c one waits plan none is = (refl, cc is)
plan_by false fails true false kept now reason c one waits plan none is = absurd (failure_is_no_plan now (codes "InvalidCertificate") c plan is)
plan_by false fails false certified kept now reason c one waits plan none is = absurd (none is)

plan_is : (now : ℤ) (c : Certificate) (file : List ℕ) (target : Option Secret) (r : CertificateRequest) (plan : IssuePlan) → with_wanted now c file target r ≡ Issue plan
    → (is_certified file r.status.certificate ≡ true) × (issue_plan now c file r target ≡ plan)
plan_is now c file target r plan is =
    plan_by (is_refused r) (fails_now c r r.status.failure) (is_granted r) (is_certified file r.status.certificate) (is_kept_for_keys target) now (refusal r) c (issue_plan now c file r target) (while_waiting now c file target r) plan
    (stand_in_is_no_plan (asks_for_temporary c && (not (is_denied r) && (not (is_kept_for_keys target) && lacks_certificate file target))) c file target (temporary r.spec.request file now) plan) is

-- ---- what the Secret has

-- the annotations and the data that the plan writes, over those that stood
pub record IsFilled (c : Certificate) (file certificate ca : List ℕ) (k : Secret) : Type 0 where
  pub pairs : List (List ℕ × List ℕ)
  pub old : List (List ℕ × List ℕ)
  pub annotations : k.meta.annotations ≡ marks false c pairs
  pub parts : k.parts ≡ filled file certificate ca old

pub filled_by_call : (c : Certificate) (file certificate ca : List ℕ) (target : Option Secret) (k : Secret) → IsAsWritten (secret_call false c file certificate ca target) k → IsFilled c file certificate ca k
unfolding secret_call new_target old_target
filled_by_call c file certificate ca None k is =
    let same : new_target false c file certificate ca ≡ is.new = cc is.writes in
    record { pairs = []; old = []; annotations = is.annotations ∙ ap (λ (x : Secret). x.meta.annotations) (sym same); parts = is.parts ∙ ap (λ (x : Secret). x.parts) (sym same) }
filled_by_call c file certificate ca (Some t) k is =
    let same : old_target false c file certificate ca t ≡ is.new = cc is.writes in
    record { pairs = t.meta.annotations; old = t.parts; annotations = is.annotations ∙ ap (λ (x : Secret). x.meta.annotations) (sym same); parts = is.parts ∙ ap (λ (x : Secret). x.parts) (sym same) }

plan_secret : (now : ℤ) (c : Certificate) (file : List ℕ) (r : CertificateRequest) (target : Option Secret) → (issue_plan now c file r target).secret ≡ secret_call false c file r.status.certificate r.status.ca target
unfolding issue_plan
plan_secret now c file r target = refl

ca_beside : (ca : List ℕ) (parts : List (List ℕ × List ℕ)) (name : List ℕ) → is_name name (codes "ca.crt") ≡ false → text_by_key (with_ca ca parts) name ≡ text_by_key parts name
ca_beside [] parts name apart = out_beside parts (codes "ca.crt") name apart
ca_beside (b ∷ ca) parts name apart = put_beside parts (codes "ca.crt") (b ∷ ca) name apart

pub filled_key : (key certificate ca : List ℕ) (parts : List (List ℕ × List ℕ)) → text_by_key (filled key certificate ca parts) (codes "tls.key") ≡ Some key
unfolding filled
filled_key key certificate ca parts =
    ca_beside ca (with_text (with_text parts (codes "tls.key") key) (codes "tls.crt") certificate) (codes "tls.key") refl
    ∙ put_beside (with_text parts (codes "tls.key") key) (codes "tls.crt") certificate (codes "tls.key") refl
    ∙ put_stands parts (codes "tls.key") key

pub filled_certificate : (key certificate ca : List ℕ) (parts : List (List ℕ × List ℕ)) → text_by_key (filled key certificate ca parts) (codes "tls.crt") ≡ Some certificate
unfolding filled
filled_certificate key certificate ca parts =
    ca_beside ca (with_text (with_text parts (codes "tls.key") key) (codes "tls.crt") certificate) (codes "tls.crt") refl
    ∙ put_stands (with_text parts (codes "tls.key") key) (codes "tls.crt") certificate

abbrev under : Certificate → List (List ℕ × List ℕ) → List (List ℕ × List ℕ)
under c pairs = with_text pairs (codes "cert-manager.io/certificate-name") c.meta.name

abbrev by_name : Certificate → List (List ℕ × List ℕ) → List (List ℕ × List ℕ)
by_name c pairs = with_text (under c pairs) (codes "cert-manager.io/issuer-name") c.spec.issuer.name

abbrev by_kind : Certificate → List (List ℕ × List ℕ) → List (List ℕ × List ℕ)
by_kind c pairs = with_text (by_name c pairs) (codes "cert-manager.io/issuer-kind") (issuer_kind c.spec.issuer)

beside_mark : (c : Certificate) (pairs : List (List ℕ × List ℕ)) (name : List ℕ) → is_name name (codes "cert-manager.io/temporary-certificate") ≡ false → text_by_key (marks false c pairs) name ≡ text_by_key (signed_marks c pairs) name
unfolding marks
beside_mark c pairs name apart = out_beside (signed_marks c pairs) (codes "cert-manager.io/temporary-certificate") name apart

marks_group : (c : Certificate) (pairs : List (List ℕ × List ℕ)) → text_by_key (signed_marks c pairs) (codes "cert-manager.io/issuer-group") ≡ Some (issuer_group c.spec.issuer)
unfolding signed_marks
marks_group c pairs = put_stands (by_kind c pairs) (codes "cert-manager.io/issuer-group") (issuer_group c.spec.issuer)

marks_kind : (c : Certificate) (pairs : List (List ℕ × List ℕ)) → text_by_key (signed_marks c pairs) (codes "cert-manager.io/issuer-kind") ≡ Some (issuer_kind c.spec.issuer)
unfolding signed_marks
marks_kind c pairs =
    put_beside (by_kind c pairs) (codes "cert-manager.io/issuer-group") (issuer_group c.spec.issuer) (codes "cert-manager.io/issuer-kind") refl
    ∙ put_stands (by_name c pairs) (codes "cert-manager.io/issuer-kind") (issuer_kind c.spec.issuer)

marks_name : (c : Certificate) (pairs : List (List ℕ × List ℕ)) → text_by_key (signed_marks c pairs) (codes "cert-manager.io/issuer-name") ≡ Some c.spec.issuer.name
unfolding signed_marks
marks_name c pairs =
    put_beside (by_kind c pairs) (codes "cert-manager.io/issuer-group") (issuer_group c.spec.issuer) (codes "cert-manager.io/issuer-name") refl
    ∙ put_beside (by_name c pairs) (codes "cert-manager.io/issuer-kind") (issuer_kind c.spec.issuer) (codes "cert-manager.io/issuer-name") refl
    ∙ put_stands (under c pairs) (codes "cert-manager.io/issuer-name") c.spec.issuer.name

marks_owner : (c : Certificate) (pairs : List (List ℕ × List ℕ)) → text_by_key (signed_marks c pairs) (codes "cert-manager.io/certificate-name") ≡ Some c.meta.name
unfolding signed_marks
marks_owner c pairs =
    put_beside (by_kind c pairs) (codes "cert-manager.io/issuer-group") (issuer_group c.spec.issuer) (codes "cert-manager.io/certificate-name") refl
    ∙ put_beside (by_name c pairs) (codes "cert-manager.io/issuer-kind") (issuer_kind c.spec.issuer) (codes "cert-manager.io/certificate-name") refl
    ∙ put_beside (under c pairs) (codes "cert-manager.io/issuer-name") c.spec.issuer.name (codes "cert-manager.io/certificate-name") refl
    ∙ put_stands pairs (codes "cert-manager.io/certificate-name") c.meta.name

marks_mark : (c : Certificate) (pairs : List (List ℕ × List ℕ)) → is_text (text_by_key (marks false c pairs) (codes "cert-manager.io/temporary-certificate")) (codes "true") ≡ false
unfolding marks
marks_mark c pairs = ap (λ (o : Option (List ℕ)). is_text o (codes "true")) (out_of (signed_marks c pairs) (codes "cert-manager.io/temporary-certificate"))

itself : (text : List ℕ) → bytes_eq text text ≡ true
itself text = (bytes_eq-Decides text text).1 refl

found_text : (pairs : List (List ℕ × List ℕ)) (name text : List ℕ) → text_by_key pairs name ≡ Some text → has_text pairs name text ≡ true
found_text pairs name text is = ap (λ (o : Option (List ℕ)). is_text o text) is ∙ itself text

-- ---- nothing empty is readable

no_value : (tag : ℕ) → only_at tag [] ≡ None
unfolding only_at take_at value_at read_at
no_value tag = refl

no_file : key_file_at [] ≡ None
unfolding key_file_at private_key_at rsa_private_at ec_private_at private_key_info_at
no_file = rw (no_value 48) refl

no_certificate : certificate_fields_at [] ≡ None
unfolding certificate_fields_at signed_at
no_certificate = rw (no_value 48) refl

given_by : (text : List ℕ) (A : Type 0) (read : List ℕ → Option A) → read [] ≡ None → is_some (read text) ≡ true → is_non_empty (Some text) ≡ true
given_by [] A read none is = absurd (cc (sym (ap is_some none) ∙ is))
given_by (b ∷ bs) A read none is = refl

with_both : (key : Option PublicKey) (certificate : Option CertificateFields) → is_some_pair (fields_with_key key certificate) ≡ true → (is_some key ≡ true) × (is_some certificate ≡ true)
with_both None certificate is = absurd (cc is)
with_both (Some key) None is = absurd (cc is)
with_both (Some key) (Some fields) is = (refl, refl)

same_paired : (pair : Option CertificateFields) → is_some_pair pair ≡ true → is_paired pair ≡ true
same_paired None is = absurd (cc is)
same_paired (Some fields) is = refl

-- ---- no reason is left

no_reason : (frame : Frame) (known : Known) → known.secret ≡ true → known.filled ≡ true → known.pair ≡ true → known.issuer ≡ true → known.owner ≡ true → known.kind ≡ true → known.request ≡ true
    → int_lt frame.now (renewal known.not_before known.not_after frame.renew) ≡ true → first_of trigger_chain frame known ≡ None
no_reason frame known a b c d e f g h = rw (a, b, c, d, e, f, g, h) refl

filled_by : (key certificate : Option (List ℕ)) (file found : List ℕ) (mark : Bool) → key ≡ Some file → certificate ≡ Some found → is_non_empty (Some file) ≡ true → is_non_empty (Some found) ≡ true → mark ≡ false
    → (is_non_empty key && (is_non_empty certificate && not mark)) ≡ true
filled_by key certificate file found mark a b c d e = rw (a, b, c, d, e) refl

secret_filled : (k : Secret) (file found : List ℕ) → key_in k ≡ Some file → certificate_file_in k ≡ Some found → is_non_empty (Some file) ≡ true → is_non_empty (Some found) ≡ true → is_temporary k ≡ false → is_filled (Some k) ≡ true
unfolding is_filled
secret_filled k file found a b c d e = filled_by (key_in k) (certificate_file_in k) file found (is_temporary k) a b c d e

pub secret_pair : (k : Secret) (file found : List ℕ) → key_in k ≡ Some file → certificate_file_in k ≡ Some found → pair_in k ≡ fields_with_key (key_file_at file) (certificate_fields_at found)
unfolding pair_in
secret_pair k file found a b = rw (a, b) refl

and_three : (a b c : Bool) → a ≡ true → b ≡ true → c ≡ true → (a && (b && c)) ≡ true
and_three a b c x y z = rw (x, y, z) refl

secret_issuer : (c : Certificate) (k : Secret) (pairs : List (List ℕ × List ℕ)) → k.meta.annotations ≡ marks false c pairs → names_issuer c.spec.issuer (Some k) ≡ true
unfolding names_issuer
secret_issuer c k pairs same =
    let at : (name : List ℕ) → text_by_key k.meta.annotations name ≡ text_by_key (marks false c pairs) name = λ name. ap (λ (l : List (List ℕ × List ℕ)). text_by_key l name) same in
    and_three _ _ _
    (found_text k.meta.annotations (codes "cert-manager.io/issuer-name") c.spec.issuer.name (at (codes "cert-manager.io/issuer-name") ∙ beside_mark c pairs (codes "cert-manager.io/issuer-name") refl ∙ marks_name c pairs))
    (found_text k.meta.annotations (codes "cert-manager.io/issuer-kind") (issuer_kind c.spec.issuer) (at (codes "cert-manager.io/issuer-kind") ∙ beside_mark c pairs (codes "cert-manager.io/issuer-kind") refl ∙ marks_kind c pairs))
    (found_text k.meta.annotations (codes "cert-manager.io/issuer-group") (issuer_group c.spec.issuer) (at (codes "cert-manager.io/issuer-group") ∙ beside_mark c pairs (codes "cert-manager.io/issuer-group") refl ∙ marks_group c pairs))

secret_owner : (c : Certificate) (k : Secret) (pairs : List (List ℕ × List ℕ)) → k.meta.annotations ≡ marks false c pairs → names_owner c.meta.name (Some k) ≡ true
unfolding names_owner
secret_owner c k pairs same =
    ap (λ (o : Option (List ℕ)). is_absent_or o c.meta.name)
    (ap (λ (l : List (List ℕ × List ℕ)). text_by_key l (codes "cert-manager.io/certificate-name")) same ∙ beside_mark c pairs (codes "cert-manager.io/certificate-name") refl ∙ marks_owner c pairs)
    ∙ itself c.meta.name

secret_kind : (c : Certificate) (k : Secret) (file : List ℕ) (r : CertificateRequest) → key_in k ≡ Some file → fits c.spec.key file ≡ true → has_key r file ≡ true → has_requested_key c.spec.key (Some k) (Some r) ≡ true
unfolding has_requested_key
secret_kind c k file r holds fit has = rw (holds, fit, has) refl

-- ---- nothing is due

settled : (now : ℤ) (version : ℕ) (c : Certificate) (k : Secret) (file : List ℕ) (requests : List CertificateRequest) (r : CertificateRequest) → next_request c.status.revision requests ≡ Some r → fits c.spec.key file ≡ true → is_wanted c file r ≡ true
    → is_certified file r.status.certificate ≡ true → IsFilled c file r.status.certificate r.status.ca k → IsNotDue now c k
    → trigger_reason (frame_of now c) (certificate_restated version (issued_status now c.status) c) (Some k) requests ≡ None
unfolding issued_status
settled now version c k file requests r stands fit wanted certified is due =
    let wants = and_parts (matches c.spec r) (has_key r file) wanted in
    let holds : key_in k ≡ Some file = ap (λ (l : List (List ℕ × List ℕ)). text_by_key l (codes "tls.key")) is.parts ∙ filled_key file r.status.certificate r.status.ca is.old in
    let has : certificate_file_in k ≡ Some r.status.certificate = ap (λ (l : List (List ℕ × List ℕ)). text_by_key l (codes "tls.crt")) is.parts ∙ filled_certificate file r.status.certificate r.status.ca is.old in
    let both = with_both (key_file_at file) (certificate_fields_at r.status.certificate) certified in
    let unmarked : is_temporary k ≡ false = ap (λ (l : List (List ℕ × List ℕ)). has_text l (codes "cert-manager.io/temporary-certificate") (codes "true")) is.annotations ∙ marks_mark c is.pairs in
    no_reason (frame_of now c) (known_for (certificate_restated version (issued_status now c.status) c) (Some k) requests) refl
    (secret_filled k file r.status.certificate holds has (given_by file PublicKey key_file_at no_file both.0) (given_by r.status.certificate CertificateFields certificate_fields_at no_certificate both.1) unmarked)
    (ap is_paired (secret_pair k file r.status.certificate holds has) ∙ same_paired _ certified)
    (secret_issuer c k is.pairs is.annotations) (secret_owner c k is.pairs is.annotations)
    (ap (has_requested_key c.spec.key (Some k)) stands ∙ secret_kind c k file r holds fit wants.1)
    (ap (is_unchanged c.spec) stands ∙ wants.0) due

idle_for : (b : Bool) (now : ℤ) (requests : List CertificateRequest) (c : Certificate) (reason : Option Reason) → reason ≡ None → (if b then Nothing else for_reason now requests c reason) ≡ Nothing
idle_for true now requests c reason none = refl
idle_for false now requests c reason none = ap (for_reason now requests c) none

acts_then : (a : Act) (plan : IssuePlan) → a ≡ Issue plan → acts a ≡ true
acts_then a plan is = ap acts is

pub nothing_after_issuance : (now : ℤ) (seen : Views) (c : Certificate) (plan : IssuePlan) (k : Secret) (version : ℕ) → issuing (with_certificate c seen) now ≡ Issue plan → IsAsWritten plan.secret k → IsNotDue now c k
    → trigger (with_secret k (with_certificate (certificate_restated version (issued_status now c.status) c) seen)) now ≡ Nothing
unfolding trigger for_certificate
nothing_after_issuance now seen c plan k version is written due =
    let later : Certificate = certificate_restated version (issued_status now c.status) c in
    let on = going now seen c (acts_then (issuing (with_certificate c seen) now) plan is) in
    let g = on.1 in
    let made = plan_is now c g.file seen.secret g.request plan (sym (going_is now seen c g on.0) ∙ is) in
    let call : plan.secret ≡ secret_call false c g.file g.request.status.certificate g.request.status.ca seen.secret = ap (λ (p : IssuePlan). p.secret) (sym made.1) ∙ plan_secret now c g.file g.request seen.secret in
    let has : IsFilled c g.file g.request.status.certificate g.request.status.ca k = filled_by_call c g.file g.request.status.certificate g.request.status.ca seen.secret k (subst (λ (x : Call). IsAsWritten x k) call written) in
    idle_for (is_issuing later) now seen.requests later (trigger_reason (frame_of now later) later (Some k) seen.requests)
    (settled now version c k g.file seen.requests g.request g.stands g.fit g.wanted made.0 has due)
