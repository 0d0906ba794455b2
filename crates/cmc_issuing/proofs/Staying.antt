-- Where issuing has nothing to do it has nothing to do later: it looks at the moment only in the size of a stand-in certificate.
use Rattle.std.proofs.Common.{◌≡◌, ◌&&◌, ◌≤◌, ℕ, ℤ, List, Option, Some, None, Bool, true, false, not, refl, ap, int_le, arith}
use Rattle.std.specs.Prelude.{length, nat_le, if◌then◌else◌}
use Rattle.std.proofs.lemmas.Bool.Decides.{nat_tests}
use Rattle.cmc_der.specs.Keys.{PublicKey, RequestFields}
use Rattle.cmc_x509.specs.ReadKeys.{key_file_at}
use Rattle.cmc_x509.specs.ReadCertificates.{request_fields_at}
use Rattle.cmc_objects.specs.declared.certificate.Certificate.{Certificate}
use Rattle.cmc_objects.specs.declared.request.CertificateRequest.{CertificateRequest}
use Rattle.cmc_objects.specs.declared.secret.Secret.{Secret as SecretObject}
use Rattle.cmc_objects.specs.Requests.{is_denied}
use Rattle.cmc_match.specs.Facts.{key_in, fits}
use Rattle.cmc_match.specs.Marks.{asks_for_temporary}
use Rattle.cmc_match.specs.Revisions.{next_request}
use Rattle.cmc_answers.specs.Signings.{certificate_of_plan}
use Rattle.cmc_answers.specs.Temporary.{temporary_cert_plan as stand_in_plan, temporary_of}
use Rattle.cmc_pass.specs.declared.pass.Views.{Views}
use Rattle.cmc_pass.specs.declared.pass.TemporaryPlan.{TemporaryPlan}
use Rattle.cmc_pass.specs.declared.pass.Act.{Act}
use Rattle.cmc_pass.specs.declared.pass.Act.TheVariants.{Nothing, Temporary}
use Rattle.cmc_rules.specs.Trigger.{is_issuing}
use Rattle.cmc_rules.specs.NextKeys.{named_key}
use Rattle.cmc_rules.specs.NextRequests.{is_wanted, is_refused}
use Rattle.cmc_rules.specs.Issuance.{failure, is_granted, fails_now, is_certified, is_kept_for_keys, lacks_certificate, temporary_with, while_waiting, with_granted, with_wanted, with_request, with_file, with_key_of, issuing_of, issuing}
use Rattle.cmc_rules.proofs.Lines.{by_both}
use Rattle.cmc_issuing.proofs.Sizes.{stand_in_grows}

abbrev Stays : Act → Act → Type 0
Stays a b = a ≡ Nothing → b ≡ Nothing

failure_stays : (t u : ℤ) (reason : List ℕ) (c : Certificate) → Stays (failure t reason c) (failure u reason c)
unfolding failure
failure_stays t u reason c is = absurd (cc is)

-- what is too long stays too long
large_stays : (small later : Bool) (p q : TemporaryPlan) → (later ≡ true → small ≡ true) → Stays (if small then Temporary p else Nothing) (if later then Temporary q else Nothing)
large_stays true later p q f is = absurd (cc is)
large_stays false true p q f is = absurd (let e : false ≡ true = f refl in cc e)
large_stays false false p q f is = refl

still_small : (n m : ℕ) → n ≤ m → nat_le m 16777216 ≡ true → nat_le n 16777216 ≡ true
still_small n m h is = grind (arith, nat_tests)

stand_in_stays : (t u : ℤ) (c : Certificate) (file : List ℕ) (target : Option SecretObject) (csr : Option RequestFields) (key : Option PublicKey) → int_le t u ≡ true
    → Stays (temporary_with c file target (temporary_of t csr key)) (temporary_with c file target (temporary_of u csr key))
stand_in_stays t u c file target None key le is = refl
stand_in_stays t u c file target (Some csr) None le is = refl
stand_in_stays t u c file target (Some csr) (Some key) le is =
    large_stays (nat_le (length (certificate_of_plan (stand_in_plan t) csr.names key)) 16777216) (nat_le (length (certificate_of_plan (stand_in_plan u) csr.names key)) 16777216) _ _
    (still_small _ _ (stand_in_grows t u csr.names key le)) is

waiting_stays : (t u : ℤ) (c : Certificate) (file : List ℕ) (target : Option SecretObject) (r : CertificateRequest) → int_le t u ≡ true → Stays (while_waiting t c file target r) (while_waiting u c file target r)
waiting_stays t u c file target r le =
    by_both Stays (asks_for_temporary c && (not (is_denied r) && (not (is_kept_for_keys target) && lacks_certificate file target))) _ _ _ _
    (λ on. stand_in_stays t u c file target (request_fields_at r.spec.request) (key_file_at file) le) (λ off is. is)

granted_stays : (t u : ℤ) (c : Certificate) (file : List ℕ) (target : Option SecretObject) (r : CertificateRequest) → Stays (with_granted t c file target r) (with_granted u c file target r)
granted_stays t u c file target r =
    by_both Stays (is_certified file r.status.certificate) _ _ _ _
    (λ read. by_both Stays (is_kept_for_keys target) _ _ _ _ (λ kept is. is) (λ free is. absurd (cc is)))
    (λ foreign. failure_stays t u _ c)

wanted_stays : (t u : ℤ) (c : Certificate) (file : List ℕ) (target : Option SecretObject) (r : CertificateRequest) → int_le t u ≡ true → Stays (with_wanted t c file target r) (with_wanted u c file target r)
wanted_stays t u c file target r le =
    by_both Stays (is_refused r) _ _ _ _
    (λ refused. by_both Stays (fails_now c r r.status.failure) _ _ _ _ (λ now_. failure_stays t u _ c) (λ before is. is))
    (λ open_. by_both Stays (is_granted r) _ _ _ _ (λ granted. granted_stays t u c file target r) (λ waits. waiting_stays t u c file target r le))

request_stays : (t u : ℤ) (c : Certificate) (file : List ℕ) (target : Option SecretObject) (next : Option CertificateRequest) → int_le t u ≡ true → Stays (with_request t c file target next) (with_request u c file target next)
request_stays t u c file target None le = λ is. refl
request_stays t u c file target (Some r) le =
    by_both Stays (is_wanted c file r) _ _ _ _ (λ on. wanted_stays t u c file target r le) (λ off is. is)

file_stays : (t u : ℤ) (c : Certificate) (target : Option SecretObject) (requests : List CertificateRequest) (file : Option (List ℕ)) → int_le t u ≡ true → Stays (with_file t c target requests file) (with_file u c target requests file)
file_stays t u c target requests None le = λ is. refl
file_stays t u c target requests (Some file) le =
    by_both Stays (fits c.spec.key file) _ _ _ _ (λ fit. request_stays t u c file target (next_request c.status.revision requests) le) (λ off is. is)

key_stays : (t u : ℤ) (c : Certificate) (target : Option SecretObject) (requests : List CertificateRequest) (key : Option SecretObject) → int_le t u ≡ true → Stays (with_key_of t c target requests key) (with_key_of u c target requests key)
key_stays t u c target requests None le = λ is. refl
key_stays t u c target requests (Some k) le = file_stays t u c target requests (key_in k) le

of_stays : (t u : ℤ) (next : List SecretObject) (target : Option SecretObject) (requests : List CertificateRequest) (o : Option Certificate) → int_le t u ≡ true → Stays (issuing_of t next target requests o) (issuing_of u next target requests o)
of_stays t u next target requests None le = λ is. refl
of_stays t u next target requests (Some c) le =
    by_both Stays (is_issuing c) _ _ _ _ (λ on. key_stays t u c target requests (named_key c.status.next_key next) le) (λ off is. is)

pub stays : (seen : Views) (t u : ℤ) → int_le t u ≡ true → issuing seen t ≡ Nothing → issuing seen u ≡ Nothing
unfolding issuing
stays seen t u le is = of_stays t u seen.next seen.secret seen.requests seen.certificate le is

-- ---- nothing without a Certificate

pub none : (seen : Views) (now : ℤ) → seen.certificate ≡ None → issuing seen now ≡ Nothing
unfolding issuing
none seen now is = ap (issuing_of now seen.next seen.secret seen.requests) is
