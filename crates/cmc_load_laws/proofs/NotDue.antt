-- What was signed at the moment for a usual request is not due for renewal.
use Rattle.std.proofs.Common.{◌≡◌, ◌≤◌, ◌<◌, ◌+◌, ◌==◌, ◌&&◌, ℕ, ℤ, pos, ◌+ℤ◌, ◌-ℤ◌, min, List, [], ◌∷◌, Bool, true, false, Option, Some, None, ap, subst, ◌∙◌, arith, int_lt}
use Rattle.std.proofs.lemmas.Bool.{and_parts, eqb-true, or_parts}
use Rattle.std.proofs.lemmas.Bool.Decides.{nat_tests}
use Rattle.std.specs.Prelude.{codes, nat_lt}
use Rattle.cmc_der.specs.Keys.{CertificateFields}
use Rattle.cmc_meta.specs.PairLists.{text_by_key}
use Rattle.cmc_objects.specs.declared.certificate.Certificate.{Certificate}
use Rattle.cmc_objects.specs.declared.certificate.CertSpec.{CertSpec}
use Rattle.cmc_objects.specs.declared.request.CertificateRequest.{CertificateRequest}
use Rattle.cmc_objects.specs.declared.request.RequestSpec.{RequestSpec}
use Rattle.cmc_objects.specs.declared.secret.Secret.{Secret as SecretObject}
use Rattle.cmc_objects.specs.Defaults.{certificate_duration}
use Rattle.cmc_objects.specs.KeyPairs.{begins, ends}
use Rattle.cmc_policies.specs.Renewal.{lead, renewal}
use Rattle.cmc_policies.specs.declared.renewal.Renew.{Renew}
use Rattle.cmc_match.specs.Facts.{certificate_file_in, key_in}
use Rattle.cmc_match.specs.Matches.{asks_for_names, has_key, has_terms, is_same_flag, is_same_issuer, matches}
use Rattle.cmc_match.specs.Sets.{is_same_set}
use Rattle.cmc_model.specs.Admission.{certificate_rules, has_both_renewals, has_no_name, is_common_name_long, is_duration_outside, is_key_size_wrong, is_outside_limits, is_percent_wrong, is_renewal_long, is_renewal_short, keeps_no_request, least_failing}
use Rattle.cmc_rules.specs.NextRequests.{is_wanted}
use Rattle.cmc_rules.specs.Trigger.{frame_of}
use Rattle.cmc_run_laws.specs.Issuances.{IsNotDue}
use Rattle.cmc_run_laws.proofs.Issued.{IsFilled, filled_certificate, filled_key, secret_pair}
use Rattle.cmc_x509.specs.ReadCertificates.{request_fields_at}
use Rattle.cmc_load_laws.proofs.AnsweredRequests.{IsSignedAt}
use Rattle.cmc_load_laws.proofs.GoodRequests.{IsGoodRequest}
use Rattle.cmc_load_laws.proofs.OldRequests.{next_rule}
use Rattle.cmc_load_laws.proofs.ReadCertificates.{pair_is}

-- what lasts longer than the lead of its renewal is not due as it begins
abbrev pub LastsBeyondLead : Type 0
LastsBeyondLead = (now : ℤ) (before life : ℕ) (renew : Renew) → lead life renew + before < life → int_lt now (renewal (now -ℤ pos before) ((now -ℤ pos before) +ℤ pos life) renew) ≡ true

abbrev pub LeadsBelow : Type 0
LeadsBelow = (life : ℕ) (renew : Renew) → 100 ≤ life → lead life renew < life

-- ---- how long it lasts

third : (a b c : ℕ × Bool) (rest : List (ℕ × Bool)) → least_failing (a ∷ b ∷ c ∷ rest) ≡ None → c.1 ≡ false
third a b c rest none =
    let after_a = (next_rule a (b ∷ c ∷ rest) none).1 in
    let after_b = (next_rule b (c ∷ rest) after_a).1 in
    (next_rule c rest after_b).0

not_outside : (c : Certificate) → least_failing (certificate_rules c false) ≡ None → is_duration_outside c.spec ≡ false
not_outside c none =
    third (1, has_no_name c.spec) (2, is_common_name_long c.spec) (3, is_duration_outside c.spec)
    ((4, is_renewal_short c.spec) ∷ (5, is_renewal_long c.spec) ∷ (6, is_key_size_wrong c.spec) ∷ (7, false) ∷ (12, keeps_no_request c.spec) ∷ (13, is_outside_limits c) ∷ (15, has_both_renewals c.spec) ∷ (16, is_percent_wrong c.spec) ∷ []) none

long_by : (n : ℕ) → nat_lt n 3600 ≡ false → 3600 ≤ n
long_by n is = grind (arith, nat_tests)

an_hour : (c : Certificate) → least_failing (certificate_rules c false) ≡ None → 3600 ≤ certificate_duration c.spec.duration
an_hour c none = long_by (certificate_duration c.spec.duration) (or_parts (nat_lt (certificate_duration c.spec.duration) 3600) (nat_lt 3153600000 (certificate_duration c.spec.duration)) (not_outside c none)).0

terms_duration : (spec : CertSpec) (r : RequestSpec) → has_terms spec r ≡ true → certificate_duration spec.duration ≡ certificate_duration r.duration
unfolding has_terms
terms_duration spec r is =
    let rest = (and_parts (is_same_issuer spec.issuer r.issuer) ((certificate_duration spec.duration == certificate_duration r.duration) && (is_same_flag spec.is_ca r.is_ca && is_same_set spec.usages r.usages)) is).1 in
    eqb-true (certificate_duration spec.duration) (certificate_duration r.duration) (and_parts (certificate_duration spec.duration == certificate_duration r.duration) (is_same_flag spec.is_ca r.is_ca && is_same_set spec.usages r.usages) rest).0

same_duration : (spec : CertSpec) (r : CertificateRequest) → matches spec r ≡ true → certificate_duration spec.duration ≡ certificate_duration r.spec.duration
unfolding matches
same_duration spec r is = terms_duration spec r.spec (and_parts (asks_for_names spec (request_fields_at r.spec.request)) (has_terms spec r.spec) is).1

long_enough : (n : ℕ) → 3600 ≤ n → 100 ≤ min n 3153600000
long_enough n long = omega (arith, long)

-- ---- so it is not due

pub not_due : LastsBeyondLead → LeadsBelow → (now : ℤ) (c : Certificate) (file : List ℕ) (r : CertificateRequest) (k : SecretObject) → least_failing (certificate_rules c false) ≡ None → IsGoodRequest r → IsSignedAt now r → is_wanted c file r ≡ true
    → IsFilled c file r.status.certificate r.status.ca k → IsNotDue now c k
not_due lasts leads now c file r k meets good is wanted has =
    let wants = and_parts (matches c.spec r) (has_key r file) wanted in
    let holds : key_in k ≡ Some file = ap (λ (l : List (List ℕ × List ℕ)). text_by_key l (codes "tls.key")) has.parts ∙ filled_key file r.status.certificate r.status.ca has.old in
    let certificate : certificate_file_in k ≡ Some r.status.certificate = ap (λ (l : List (List ℕ × List ℕ)). text_by_key l (codes "tls.crt")) has.parts ∙ filled_certificate file r.status.certificate r.status.ca has.old in
    let pair = secret_pair k file r.status.certificate holds certificate ∙ pair_is now r file good is wants.1 in
    let life : ℕ = min (certificate_duration r.spec.duration) 3153600000 in
    let renew : Renew = (frame_of now c).renew in
    let long : 100 ≤ life = long_enough (certificate_duration r.spec.duration) (subst (λ (n : ℕ). 3600 ≤ n) (same_duration c.spec r wants.0) (an_hour c meets)) in
    ap (λ (o : Option CertificateFields). int_lt now (renewal (begins o) (ends o) renew)) pair ∙ lasts now 0 life renew (omega (arith, leads life renew long))
