-- What the plans of issuing are for: the Certificate that is seen, and the Secret that it names.
use Rattle.std.proofs.Common.{◌≡◌, ℕ, ℤ, List, [], Option, Some, None, Bool, true, false, not, ◌&&◌, refl, ap}
use Rattle.std.specs.Prelude.{length, nat_le}
use Rattle.cmc_objects.specs.declared.certificate.Certificate.{Certificate}
use Rattle.cmc_objects.specs.declared.request.CertificateRequest.{CertificateRequest}
use Rattle.cmc_objects.specs.declared.secret.Secret.{Secret as SecretObject}
use Rattle.cmc_objects.specs.declared.object.Object.TheVariants.{Cert}
use Rattle.cmc_objects.specs.declared.call.Call.{Call}
use Rattle.cmc_objects.specs.declared.role.Role.{Role}
use Rattle.cmc_objects.specs.declared.role.Role.TheVariants as roles
use Rattle.cmc_objects.specs.Objects.{key_of}
use Rattle.cmc_objects.specs.Requests.{is_denied}
use Rattle.cmc_match.specs.Facts.{key_in, fits}
use Rattle.cmc_match.specs.Marks.{asks_for_temporary}
use Rattle.cmc_match.specs.Revisions.{next_request}
use Rattle.cmc_answers.specs.Temporary.{temporary}
use Rattle.cmc_pass.specs.declared.pass.Views.{Views}
use Rattle.cmc_pass.specs.declared.pass.Desk.{Desk}
use Rattle.cmc_pass.specs.declared.pass.Act.{Act}
use Rattle.cmc_pass.specs.declared.pass.Act.TheVariants.{Nothing, Issue, Temporary}
use Rattle.cmc_rules.specs.Acts.{act}
use Rattle.cmc_rules.specs.Trigger.{is_issuing}
use Rattle.cmc_rules.specs.NextKeys.{named_key}
use Rattle.cmc_rules.specs.NextRequests.{is_wanted, is_refused}
use Rattle.cmc_rules.specs.Issuance.{failure, secret_call, issue_plan, temporary_plan, is_granted, fails_now, refusal, is_certified, is_kept_for_keys, lacks_certificate, temporary_with, while_waiting, with_granted, with_wanted, with_request, with_file, with_key_of, issuing_of, issuing}
use Rattle.cmc_rules.proofs.Lines.{by_test}
use Rattle.cmc_safety.specs.Completion.{IsPlan}

-- the Secret under the name that the Certificate gives: a new one, or the one that is seen at its version
pub record IsForTarget (stand_in : Bool) (c : Certificate) (target : Option SecretObject) (call : Call) : Type 0 where
  pub key : List ℕ
  pub certificate : List ℕ
  pub ca : List ℕ
  pub is : call ≡ secret_call stand_in c key certificate ca target

abbrev pub PlansFor : Certificate → Option SecretObject → Act → Type 0
PlansFor c target (Issue plan) = (plan.get ≡ key_of (Cert c)) × IsForTarget false c target plan.secret
PlansFor c target (Temporary plan) = (plan.get ≡ key_of (Cert c)) × IsForTarget true c target plan.secret
PlansFor c target other = Unit {0}

-- where no Certificate is seen nothing is planned
abbrev pub PlansOf : Option Certificate → Option SecretObject → Act → Type 0
PlansOf None target does = IsPlan does → ⊥
PlansOf (Some c) target does = PlansFor c target does

-- ---- line by line

failing : (c : Certificate) (target : Option SecretObject) (now : ℤ) (reason : List ℕ) → PlansFor c target (failure now reason c)
unfolding failure
failing c target now reason = tt

issues : (c : Certificate) (target : Option SecretObject) (now : ℤ) (file : List ℕ) (r : CertificateRequest) → PlansFor c target (Issue (issue_plan now c file r target))
unfolding issue_plan
issues c target now file r = (refl, record { key = file; certificate = r.status.certificate; ca = r.status.ca; is = refl })

stands_in : (c : Certificate) (target : Option SecretObject) (file certificate : List ℕ) → PlansFor c target (Temporary (temporary_plan c file certificate target))
unfolding temporary_plan
stands_in c target file certificate = (refl, record { key = file; certificate = certificate; ca = []; is = refl })

made_for : (c : Certificate) (target : Option SecretObject) (file : List ℕ) (made : Option (List ℕ)) → PlansFor c target (temporary_with c file target made)
made_for c target file None = tt
made_for c target file (Some certificate) =
    by_test (PlansFor c target) (nat_le (length certificate) 16777216) (Temporary (temporary_plan c file certificate target)) Nothing (λ small. stands_in c target file certificate) (λ large. tt)

waiting_for : (c : Certificate) (target : Option SecretObject) (now : ℤ) (file : List ℕ) (r : CertificateRequest) → PlansFor c target (while_waiting now c file target r)
waiting_for c target now file r =
    by_test (PlansFor c target) (asks_for_temporary c && (not (is_denied r) && (not (is_kept_for_keys target) && lacks_certificate file target))) _ _
    (λ on. made_for c target file (temporary r.spec.request file now)) (λ off. tt)

granted_for : (c : Certificate) (target : Option SecretObject) (now : ℤ) (file : List ℕ) (r : CertificateRequest) → PlansFor c target (with_granted now c file target r)
granted_for c target now file r =
    by_test (PlansFor c target) (is_certified file r.status.certificate) _ _
    (λ read. by_test (PlansFor c target) (is_kept_for_keys target) Nothing (Issue (issue_plan now c file r target)) (λ kept. tt) (λ free. issues c target now file r))
    (λ foreign. failing c target now _)

wanted_for : (c : Certificate) (target : Option SecretObject) (now : ℤ) (file : List ℕ) (r : CertificateRequest) → PlansFor c target (with_wanted now c file target r)
wanted_for c target now file r =
    by_test (PlansFor c target) (is_refused r) _ _
    (λ refused. by_test (PlansFor c target) (fails_now c r r.status.failure) (failure now (refusal r) c) Nothing (λ now_. failing c target now (refusal r)) (λ before. tt))
    (λ open_. by_test (PlansFor c target) (is_granted r) _ _ (λ granted. granted_for c target now file r) (λ waits. waiting_for c target now file r))

request_for : (c : Certificate) (target : Option SecretObject) (now : ℤ) (file : List ℕ) (next : Option CertificateRequest) → PlansFor c target (with_request now c file target next)
request_for c target now file None = tt
request_for c target now file (Some r) = by_test (PlansFor c target) (is_wanted c file r) _ _ (λ on. wanted_for c target now file r) (λ off. tt)

file_for : (c : Certificate) (target : Option SecretObject) (now : ℤ) (requests : List CertificateRequest) (file : Option (List ℕ)) → PlansFor c target (with_file now c target requests file)
file_for c target now requests None = tt
file_for c target now requests (Some file) =
    by_test (PlansFor c target) (fits c.spec.key file) _ _ (λ fit. request_for c target now file (next_request c.status.revision requests)) (λ off. tt)

key_for : (c : Certificate) (target : Option SecretObject) (now : ℤ) (requests : List CertificateRequest) (key : Option SecretObject) → PlansFor c target (with_key_of now c target requests key)
key_for c target now requests None = tt
key_for c target now requests (Some k) = file_for c target now requests (key_in k)

of_certificate : (now : ℤ) (next : List SecretObject) (target : Option SecretObject) (requests : List CertificateRequest) (o : Option Certificate) → PlansOf o target (issuing_of now next target requests o)
of_certificate now next target requests None = λ is. is
of_certificate now next target requests (Some c) =
    by_test (PlansFor c target) (is_issuing c) _ _ (λ on. key_for c target now requests (named_key c.status.next_key next)) (λ off. tt)

pub plans : (seen : Views) (now : ℤ) → PlansOf seen.certificate seen.secret (issuing seen now)
unfolding issuing
plans seen now = of_certificate now seen.next seen.secret seen.requests seen.certificate

-- ---- the act of a pass of issuing

pub act_of_issuing : (role : Role) (seen : Views) (since : ℤ) (d : Desk) → role ≡ roles.Issuing → act role seen since d ≡ issuing seen since
unfolding act
act_of_issuing role seen since d is = ap (λ (r : Role). act r seen since d) is
