-- After a failed issuance the trigger has nothing to do at that moment.
use Rattle.std.proofs.Common.{◌≡◌, ◌-◌, ◌*◌, ◌<◌, ℕ, ℤ, pos, List, Bool, true, false, not, Option, Some, None, refl, ap, ◌∙◌, int_lt, ◌+ℤ◌, arith}
use Rattle.std.specs.Prelude.{if◌then◌else◌, ◌&&◌, min}
use Rattle.std.proofs.lemmas.Int.{ints}
use Rattle.std.proofs.lemmas.Nat.{pow_pos}
use Rattle.cmc_objects.specs.declared.certificate.Certificate.{Certificate}
use Rattle.cmc_objects.specs.declared.certificate.CertStatus.{CertStatus}
use Rattle.cmc_objects.specs.declared.request.CertificateRequest.{CertificateRequest}
use Rattle.cmc_policies.specs.declared.facts.Reason.{Reason}
use Rattle.cmc_policies.specs.Renewal.{backoff_hours}
use Rattle.cmc_pass.specs.declared.pass.Views.{Views}
use Rattle.cmc_pass.specs.declared.pass.Act.{Act}
use Rattle.cmc_pass.specs.declared.pass.Act.TheVariants.{Nothing}
use Rattle.cmc_match.specs.Matches.{matches}
use Rattle.cmc_match.specs.Revisions.{next_request}
use Rattle.cmc_rules.specs.Chains.{trigger_reason}
use Rattle.cmc_rules.specs.Trigger.{trigger, for_certificate, for_reason, frame_of, is_issuing, is_backing_off, is_in_back_off, is_outrun, issue_call}
use Rattle.std.proofs.lemmas.Bool.{and_parts}
use Rattle.cmc_match.specs.Matches.{has_key}
use Rattle.cmc_rules.specs.Issuance.{failed_status, failure, issuing}
use Rattle.cmc_run_laws.proofs.Going.{acts, going}
use Rattle.cmc_run_laws.specs.Issuances.{certificate_restated, with_certificate}

later : (now : ℤ) (hours : ℕ) → 0 < hours → int_lt now (now +ℤ pos (hours * 3600)) ≡ true
later now hours some = grind (arith, ints)

some_hours : (attempts : Option ℕ) → 0 < backoff_hours attempts
some_hours None = grind (arith)
some_hours (Some attempts) = pow_pos (min (attempts - 1) 5)

backs_off : (now : ℤ) (reason : List ℕ) (status : CertStatus) → is_backing_off (failed_status now reason status) now ≡ true
unfolding failed_status
backs_off now reason status = later now (backoff_hours (failed_status now reason status).attempts) (some_hours (failed_status now reason status).attempts)

-- with nothing outrun, what is in the back-off is left alone
idle_for : (now : ℤ) (requests : List CertificateRequest) (c : Certificate) (reason : Option Reason) → is_in_back_off now requests c ≡ true → for_reason now requests c reason ≡ Nothing
idle_for now requests c None held = refl
idle_for now requests c (Some reason) held = ap (λ (b : Bool). if b then Nothing else issue_call now reason c) held

idle_by : (b : Bool) (a : Act) → a ≡ Nothing → (if b then Nothing else a) ≡ Nothing
idle_by true a is = refl
idle_by false a is = is

not_outrun : (c : Certificate) (r : CertificateRequest) (next : Option CertificateRequest) → next ≡ Some r → matches c.spec r ≡ true → not (is_outrun c.spec next) ≡ true
not_outrun c r next is same = ap (λ (o : Option CertificateRequest). not (is_outrun c.spec o)) is ∙ ap (λ (b : Bool). not (not b)) same

held_after : (seen : Views) (now : ℤ) (reason : List ℕ) (version : ℕ) (c : Certificate) (r : CertificateRequest) → next_request c.status.revision seen.requests ≡ Some r → matches c.spec r ≡ true
    → trigger (with_certificate (certificate_restated version (failed_status now reason c.status) c) seen) now ≡ Nothing
unfolding trigger for_certificate failed_status
held_after seen now reason version c r stands same =
    let later : Certificate = certificate_restated version (failed_status now reason c.status) c in
    let held : is_in_back_off now seen.requests later ≡ true =
    ap (λ (b : Bool). b && not (is_outrun c.spec (next_request c.status.revision seen.requests))) (backs_off now reason c.status) ∙ not_outrun c r (next_request c.status.revision seen.requests) stands same in
    idle_by (is_issuing later) _ (idle_for now seen.requests later (trigger_reason (frame_of now later) later seen.secret seen.requests) held)

acts_then : (now : ℤ) (reason : List ℕ) (c : Certificate) (a : Act) → a ≡ failure now reason c → acts a ≡ true
unfolding failure
acts_then now reason c a is = ap acts is

pub nothing_after_failure : (now : ℤ) (seen : Views) (c : Certificate) (reason : List ℕ) (version : ℕ) → issuing (with_certificate c seen) now ≡ failure now reason c
    → trigger (with_certificate (certificate_restated version (failed_status now reason c.status) c) seen) now ≡ Nothing
nothing_after_failure now seen c reason version is =
    let on = (going now seen c (acts_then now reason c (issuing (with_certificate c seen) now) is)).1 in
    held_after seen now reason version c on.request on.stands (and_parts (matches c.spec on.request) (has_key on.request on.file) on.wanted).0
