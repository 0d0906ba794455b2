-- For a usual Certificate issuing plans no temporary certificate.
use Rattle.std.proofs.Common.{◌≡◌, ◌&&◌, ℤ, List, ℕ, Bool, true, false, not, Option, Some, None, refl}
use Rattle.std.specs.Prelude.{codes, if◌then◌else◌}
use Rattle.cmc_objects.specs.declared.certificate.Certificate.{Certificate}
use Rattle.cmc_objects.specs.declared.request.CertificateRequest.{CertificateRequest}
use Rattle.cmc_objects.specs.declared.secret.Secret.{Secret as SecretObject}
use Rattle.cmc_objects.specs.Requests.{is_denied}
use Rattle.cmc_answers.specs.Temporary.{temporary}
use Rattle.cmc_match.specs.Facts.{fits, key_in}
use Rattle.cmc_match.specs.Marks.{asks_for_temporary}
use Rattle.cmc_match.specs.Revisions.{next_request}
use Rattle.cmc_pass.specs.declared.pass.Act.{Act}
use Rattle.cmc_pass.specs.declared.pass.Act.TheVariants.{Nothing, Issue}
use Rattle.cmc_pass.specs.declared.pass.Views.{Views}
use Rattle.cmc_rules.specs.Issuance.{failure, fails_now, is_certified, is_granted, is_kept_for_keys, issue_plan, issuing, issuing_of, lacks_certificate, refusal, temporary_with, while_waiting, with_file, with_granted, with_key_of, with_request, with_wanted}
use Rattle.cmc_rules.specs.NextKeys.{named_key}
use Rattle.cmc_rules.specs.NextRequests.{is_refused, is_wanted}
use Rattle.cmc_rules.specs.Passes.{is_temporary_act}
use Rattle.cmc_rules.specs.Trigger.{is_issuing}
use Rattle.cmc_rules.proofs.Lines.{by_test}

abbrev IsLasting : Act → Type 0
IsLasting does = is_temporary_act does ≡ false

of_failure : (now : ℤ) (reason : List ℕ) (c : Certificate) → IsLasting (failure now reason c)
unfolding failure
of_failure now reason c = refl

off_by : (a b : Bool) (x : Act) → a ≡ false → IsLasting (if a && b then x else Nothing)
off_by true b x off = absurd (cc off)
off_by false b x off = refl

of_waiting : (now : ℤ) (c : Certificate) (file : List ℕ) (target : Option SecretObject) (r : CertificateRequest) → asks_for_temporary c ≡ false → IsLasting (while_waiting now c file target r)
of_waiting now c file target r off =
    off_by (asks_for_temporary c) (not (is_denied r) && (not (is_kept_for_keys target) && lacks_certificate file target)) (temporary_with c file target (temporary r.spec.request file now)) off

of_granted : (now : ℤ) (c : Certificate) (file : List ℕ) (target : Option SecretObject) (r : CertificateRequest) → IsLasting (with_granted now c file target r)
of_granted now c file target r =
    by_test IsLasting (is_certified file r.status.certificate) (if is_kept_for_keys target then Nothing else Issue (issue_plan now c file r target)) (failure now (codes "InvalidCertificate") c)
    (λ certified. by_test IsLasting (is_kept_for_keys target) Nothing (Issue (issue_plan now c file r target)) (λ kept. refl) (λ free. refl)) (λ other. of_failure now (codes "InvalidCertificate") c)

of_wanted : (now : ℤ) (c : Certificate) (file : List ℕ) (target : Option SecretObject) (r : CertificateRequest) → asks_for_temporary c ≡ false → IsLasting (with_wanted now c file target r)
of_wanted now c file target r off =
    by_test IsLasting (is_refused r) (if fails_now c r r.status.failure then failure now (refusal r) c else Nothing) (if is_granted r then with_granted now c file target r else while_waiting now c file target r)
    (λ refused. by_test IsLasting (fails_now c r r.status.failure) (failure now (refusal r) c) Nothing (λ fails. of_failure now (refusal r) c) (λ before. refl))
    (λ open_yet. by_test IsLasting (is_granted r) (with_granted now c file target r) (while_waiting now c file target r) (λ granted. of_granted now c file target r) (λ waits. of_waiting now c file target r off))

of_request : (now : ℤ) (c : Certificate) (file : List ℕ) (target : Option SecretObject) (o : Option CertificateRequest) → asks_for_temporary c ≡ false → IsLasting (with_request now c file target o)
of_request now c file target None off = refl
of_request now c file target (Some r) off = by_test IsLasting (is_wanted c file r) (with_wanted now c file target r) Nothing (λ wanted. of_wanted now c file target r off) (λ other. refl)

of_file : (now : ℤ) (c : Certificate) (target : Option SecretObject) (requests : List CertificateRequest) (o : Option (List ℕ)) → asks_for_temporary c ≡ false → IsLasting (with_file now c target requests o)
of_file now c target requests None off = refl
of_file now c target requests (Some file) off =
    by_test IsLasting (fits c.spec.key file) (with_request now c file target (next_request c.status.revision requests)) Nothing (λ fit. of_request now c file target (next_request c.status.revision requests) off) (λ other. refl)

of_key : (now : ℤ) (c : Certificate) (target : Option SecretObject) (requests : List CertificateRequest) (o : Option SecretObject) → asks_for_temporary c ≡ false → IsLasting (with_key_of now c target requests o)
of_key now c target requests None off = refl
of_key now c target requests (Some k) off = of_file now c target requests (key_in k) off

of_certificate : (now : ℤ) (next : List SecretObject) (target : Option SecretObject) (requests : List CertificateRequest) (o : Option Certificate) → ((c : Certificate) → o ≡ Some c → asks_for_temporary c ≡ false)
    → IsLasting (issuing_of now next target requests o)
of_certificate now next target requests None off = refl
of_certificate now next target requests (Some c) off =
    by_test IsLasting (is_issuing c) (with_key_of now c target requests (named_key c.status.next_key next)) Nothing (λ on. of_key now c target requests (named_key c.status.next_key next) (off c refl)) (λ idle. refl)

pub none_stands_in : (seen : Views) (now : ℤ) → ((c : Certificate) → seen.certificate ≡ Some c → asks_for_temporary c ≡ false) → is_temporary_act (issuing seen now) ≡ false
unfolding issuing
none_stands_in seen now off = of_certificate now seen.next seen.secret seen.requests seen.certificate off
