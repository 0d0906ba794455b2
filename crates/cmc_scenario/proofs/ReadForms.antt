-- What is read of an object has the form of one: texts of its issuer and its durations are within their bounds, and the
-- texts of its subject are of their kinds.
use Rattle.std.proofs.Common.{◌≡◌, ℕ, ◌+◌, ◌≤◌, inl, inr, List, [], ◌∷◌, length, Bool, true, false, Ok, Err, Option, Some, None, refl, codes, arith}
use Rattle.std.specs.Prelude.{if◌then◌else◌, decimal, nat_le, ◌&&◌}
use Rattle.std.specs.List.{list_all}
use Rattle.std.specs.Str.{bytes_eq}
use Rattle.std.proofs.lemmas.Bool.Decides.{nat_tests}
use Rattle.std.proofs.lemmas.Str.{chars-nil}
use Rattle.std.proofs.lemmas.Bool.{and_from}
use Rattle.serde_json.specs.Data.{Data, null, boolean, number, string, array, object, Items, no_items, item}
use Rattle.cmc_meta.specs.Wordings.{is_clean, is_printable_name}
use Rattle.cmc_time.specs.Durations.{longest, IsDuration}
use Rattle.cmc_time.specs.DurationTexts.{duration_seconds}
use Rattle.cmc_time.proofs.DurationLaws.{duration_found}
use Rattle.cmc_objects.specs.declared.certificate.CertSpec.{CertSpec}
use Rattle.cmc_objects.specs.declared.issuer.IssuerRef.{IssuerRef}
use Rattle.cmc_objects.specs.declared.key_spec.Algorithm.TheVariants.{Rsa, Ecdsa}
use Rattle.cmc_objects.specs.declared.key_spec.Encoding.TheVariants.{Pkcs1, Pkcs8}
use Rattle.cmc_objects.specs.declared.request.RequestSpec.{RequestSpec}
use Rattle.cmc_objects.specs.Requests.{is_short_text, is_short_option, is_issuer_form, is_duration_form}
use Rattle.cmc_setup.specs.ObjectForms.{is_address_text, are_subject_names, are_certificate_terms, is_object_form}
use Rattle.cmc_cursor.specs.Members.{Read, ◌>>=◌, under, Field, fields_at, optional_at, required_at, at_end}
use Rattle.cmc_cursor.specs.Readers.{found, text_at, word_at, name_at, flag_at, bytes_at, small_count_at, parts_at, passes, text_member, short_text_at}
use Rattle.cmc_codec.specs.Given.{worded_at, list_from, text_list_at, clean_text_at, duration_at, choice_at, given_at, member_at, next_member_or, needed_at}
use Rattle.cmc_codec.specs.MetadataForm.{head_at}
use Rattle.cmc_codec.specs.CertificateForm.{api_at, issuer_at, no_key, key_spec_at, subject_in, signing_in, terms_in, old_terms_in, spec_of, emails_name, uris_name, api_terms_in, target_in, spec_at, request_spec_at, old_request_spec_at, api_request_spec_at}
use Rattle.cmc_codec.specs.ObjectForm.{status_last, applied_certificate_in, applied_request_in, applied_secret_in, any_version_at, stranger_in, object_in, applied_at}
use Rattle.cmc_codec.specs.declared.given.Wording.{Wording}
use Rattle.cmc_codec.specs.declared.given.Wording.TheVariants.{Any, Printable, Address}
use Rattle.cmc_codec.specs.declared.certificate_in.Api.{Api}
use Rattle.cmc_codec.specs.declared.certificate_in.Api.TheVariants.{V1, V1Alpha2}
use Rattle.cmc_codec.specs.declared.certificate_in.Subject.{Subject}
use Rattle.cmc_codec.specs.declared.certificate_in.Signing.{Signing}
use Rattle.cmc_codec.specs.declared.certificate_in.Terms.{Terms}
use Rattle.cmc_codec.specs.declared.certificate_in.Target.{Target}
use Rattle.cmc_codec.specs.declared.object_in.Applied.{Applied}
use Rattle.cmc_codec.proofs.ValuesAgain.{member_or_so, needed_so}
use Rattle.cmc_cursor.proofs.Always.{Always, so, failed, next, after, below, either, where_true}

-- ---- members

of_given : {A : Type 0} (P : A → Type 0) (Q : Option A → Type 0) (read : Data → Read A) (name : List ℕ) (given : Option Data) → Q None → ((x : A) → P x → Q (Some x)) → ((d : Data) → Always P (read d)) → Always Q (given_at read name given)
of_given P Q read name None none some each = so none
of_given P Q read name (Some d) none some each = after P Q (under name (read d)) (λ x. Ok (Some x)) (below P name (read d) (each d)) (λ x is. so (some x is))

of_member : {A : Type 0} (P : A → Type 0) (Q : Option A → Type 0) (read : Data → Read A) (name : List ℕ) (fs : List Field) → Q None → ((x : A) → P x → Q (Some x)) → ((d : Data) → Always P (read d))
    → Always (λ (p : Option A × List Field). Q p.0) (member_at read name fs)
of_member {A = A} P Q read name fs none some each =
    next (λ (p : Option A × List Field). Q p.0) (optional_at name fs) _ (λ p. after Q (λ (q : Option A × List Field). Q q.0) (given_at read name p.0) _ (of_given P Q read name p.0 none some each) (λ x is. so is))

-- ---- short texts

abbrev IsShort : List ℕ → Type 0
IsShort text = is_short_text text ≡ true

abbrev IsShortMember : Option (List ℕ) × List Field → Type 0
IsShortMember p = is_short_option p.0 ≡ true

abbrev IsShortNeeded : List ℕ × List Field → Type 0
IsShortNeeded p = is_short_text p.0 ≡ true

of_short_text : (d : Data) → Always IsShort (short_text_at 253 d)
of_short_text d = next IsShort (text_at d) (λ t. if nat_le (length t) 253 then Ok t else Err []) (λ t. where_true IsShort (nat_le (length t) 253) (Ok t) [] (λ e. so e))

of_short_member : (name : List ℕ) (fs : List Field) → Always IsShortMember (member_at (short_text_at 253) name fs)
of_short_member name fs = of_member IsShort (λ (o : Option (List ℕ)). is_short_option o ≡ true) (short_text_at 253) name fs refl (λ x is. is) of_short_text

-- ---- texts of the subject

-- a text that is read only where it passes a test passes it
of_tested : (test : List ℕ → Bool) (d : Data) → Always (λ t. test t ≡ true) (text_at d >>= (λ t. if test t then Ok t else Err []))
of_tested test d = next (λ t. test t ≡ true) (text_at d) (λ t. if test t then Ok t else Err []) (λ t. where_true (λ u. test u ≡ true) (test t) (Ok t) [] (λ e. so e))

abbrev IsClean : List ℕ → Type 0
IsClean text = is_clean text ≡ true

pub empty_is_clean : is_clean [] ≡ true
empty_is_clean = rw (chars-nil) refl

of_clean_text : (d : Data) → Always IsClean (clean_text_at d)
of_clean_text d = of_tested is_clean d

of_printable : (d : Data) → Always (λ t. is_printable_name t ≡ true) (worded_at Printable d)
of_printable d = of_tested is_printable_name d

of_address : (d : Data) → Always (λ t. is_address_text t ≡ true) (worded_at Address d)
of_address d = of_tested is_address_text d

-- each text of a list passes the test that each of its wording passes
of_texts_from : (wording : Wording) (test : List ℕ → Bool) → ((d : Data) → Always (λ t. test t ≡ true) (worded_at wording d)) → (n : ℕ) (ds : Items) → Always (λ ts. list_all test ts ≡ true) (list_from wording n ds)
of_texts_from wording test each n no_items = so refl
of_texts_from wording test each n (item d ds) =
    after (λ t. test t ≡ true) (λ ts. list_all test ts ≡ true) (under (decimal n) (worded_at wording d)) (λ t. list_from wording (n + 1) ds >>= (λ ts. Ok (t ∷ ts))) (below (λ t. test t ≡ true) (decimal n) (worded_at wording d) (each d))
    (λ t first. after (λ ts. list_all test ts ≡ true) (λ ts. list_all test ts ≡ true) (list_from wording (n + 1) ds) (λ ts. Ok (t ∷ ts)) (of_texts_from wording test each (n + 1) ds) (λ ts rest. so (and_from (test t) (list_all test ts) first rest)))

of_texts : (wording : Wording) (test : List ℕ → Bool) → ((d : Data) → Always (λ t. test t ≡ true) (worded_at wording d)) → (d : Data) → Always (λ ts. list_all test ts ≡ true) (text_list_at wording d)
of_texts wording test each (array ds) = of_texts_from wording test each 0 ds
of_texts wording test each null = failed []
of_texts wording test each (boolean b) = failed []
of_texts wording test each (number n) = failed []
of_texts wording test each (string s) = failed []
of_texts wording test each (object ms) = failed []

-- a list that is left out is empty
of_texts_member : (wording : Wording) (test : List ℕ → Bool) → ((d : Data) → Always (λ t. test t ≡ true) (worded_at wording d)) → (name : List ℕ) (fs : List Field)
    → Always (λ (p : List (List ℕ) × List Field). list_all test p.0 ≡ true) (next_member_or [] (text_list_at wording) name fs)
of_texts_member wording test each name fs = member_or_so (λ ts. list_all test ts ≡ true) [] (text_list_at wording) name fs refl (of_texts wording test each)

-- ---- durations

abbrev IsDurationMember : Option ℕ × List Field → Type 0
IsDurationMember p = is_duration_form p.0 ≡ true

is_no_longer : (n : ℕ) → n ≤ longest → nat_le n 3599999996400 ≡ true
is_no_longer n is = grind (arith, nat_tests)

within : (text : List ℕ) (n : ℕ) → IsDuration text n → n ≤ longest
within text n (inl none) = omega (arith, none.1)
within text n (inr parts) = parts.within

of_seconds : (text : List ℕ) (o : Option ℕ) → duration_seconds text ≡ o → Always (λ n. nat_le n 3599999996400 ≡ true) (found o)
of_seconds text None is = failed []
of_seconds text (Some n) is = so (is_no_longer n (within text n (duration_found text n is)))

of_duration : (d : Data) → Always (λ n. nat_le n 3599999996400 ≡ true) (duration_at d)
of_duration d = next (λ n. nat_le n 3599999996400 ≡ true) (text_at d) (λ t. found (duration_seconds t)) (λ t. of_seconds t (duration_seconds t) refl)

of_duration_member : (name : List ℕ) (fs : List Field) → Always IsDurationMember (member_at duration_at name fs)
of_duration_member name fs = of_member (λ (n : ℕ). nat_le n 3599999996400 ≡ true) (λ (o : Option ℕ). is_duration_form o ≡ true) duration_at name fs refl (λ n is. is) of_duration

-- ---- issuers

abbrev IsIssuer : IssuerRef → Type 0
IsIssuer issuer = is_issuer_form issuer ≡ true

of_issuer : (d : Data) → Always IsIssuer (issuer_at d)
unfolding issuer_at
of_issuer d = next IsIssuer (fields_at d) _ (λ fs. after IsShortMember IsIssuer (member_at (short_text_at 253) (codes "group") fs) _ (of_short_member (codes "group") fs) (λ group is_group. after IsShortMember IsIssuer (member_at (short_text_at 253) (codes "kind") group.1) _ (of_short_member (codes "kind") group.1) (λ kind is_kind. after IsShortNeeded IsIssuer (needed_at (short_text_at 253) (codes "name") kind.1) _ (needed_so IsShort (short_text_at 253) (codes "name") kind.1 of_short_text) (λ name is_name. next IsIssuer (at_end name.1) _ (λ end. so (and_from (is_short_text name.0) (is_short_option kind.0 && is_short_option group.0) is_name (and_from (is_short_option kind.0) (is_short_option group.0) is_kind is_group)))))))

abbrev IsSigning : Signing × List Field → Type 0
IsSigning p = is_issuer_form p.0.issuer ≡ true

of_signing : (fs : List Field) → Always IsSigning (signing_in fs)
unfolding signing_in
of_signing fs = next IsSigning (next_member_or false flag_at (codes "isCA") fs) _ (λ is_ca. after (λ (p : IssuerRef × List Field). IsIssuer p.0) IsSigning (needed_at issuer_at (codes "issuerRef") is_ca.1) _ (needed_so IsIssuer issuer_at (codes "issuerRef") is_ca.1 of_issuer) (λ issuer is. so is))

-- ---- Certificates

record IsSubjectForm (subject : Subject) : Type 0 where
  common : is_clean subject.common_name ≡ true
  dns : list_all is_printable_name subject.dns_names ≡ true
  duration : is_duration_form subject.duration ≡ true
  emails : list_all is_printable_name subject.emails ≡ true
  addresses : list_all is_address_text subject.ip_addresses ≡ true

abbrev IsSubject : Subject × List Field → Type 0
IsSubject p = IsSubjectForm p.0

of_subject : (emails : List ℕ) (fs : List Field) → Always IsSubject (subject_in emails fs)
unfolding subject_in
of_subject emails fs =
    after _ IsSubject (next_member_or [] clean_text_at (codes "commonName") fs) _ (member_or_so IsClean [] clean_text_at (codes "commonName") fs empty_is_clean of_clean_text)
    (λ common clean. after _ IsSubject (next_member_or [] (text_list_at Printable) (codes "dnsNames") common.1) _ (of_texts_member Printable is_printable_name of_printable (codes "dnsNames") common.1)
    (λ dns are_dns. after IsDurationMember IsSubject (member_at duration_at (codes "duration") dns.1) _ (of_duration_member (codes "duration") dns.1)
    (λ duration is_short. after _ IsSubject (next_member_or [] (text_list_at Printable) emails duration.1) _ (of_texts_member Printable is_printable_name of_printable emails duration.1)
    (λ mails are_mails. after _ IsSubject (next_member_or [] (text_list_at Address) (codes "ipAddresses") mails.1) _ (of_texts_member Address is_address_text of_address (codes "ipAddresses") mails.1)
    (λ addresses are_addresses. so (record { common = clean; dns = are_dns; duration = is_short; emails = are_mails; addresses = are_addresses }))))))

abbrev IsTerms : Terms × List Field → Type 0
IsTerms p = is_duration_form p.0.renew_before ≡ true

of_new_terms : (fs : List Field) → Always IsTerms (terms_in fs)
unfolding terms_in
of_new_terms fs =
    next IsTerms (next_member_or no_key key_spec_at (codes "privateKey") fs) _
    (λ key. after IsDurationMember IsTerms (member_at duration_at (codes "renewBefore") key.1) _ (of_duration_member (codes "renewBefore") key.1)
    (λ before is. next IsTerms (member_at small_count_at (codes "renewBeforePercentage") before.1) _ (λ percent. next IsTerms (member_at small_count_at (codes "revisionHistoryLimit") percent.1) _ (λ limit. so is))))

of_old_terms : (fs : List Field) → Always IsTerms (old_terms_in fs)
unfolding old_terms_in
of_old_terms fs =
    next IsTerms (member_at (choice_at (codes "rsa") Rsa (codes "ecdsa") Ecdsa) (codes "keyAlgorithm") fs) _
    (λ algorithm. next IsTerms (member_at (choice_at (codes "pkcs1") Pkcs1 (codes "pkcs8") Pkcs8) (codes "keyEncoding") algorithm.1) _
    (λ encoding. next IsTerms (member_at small_count_at (codes "keySize") encoding.1) _
    (λ size. after IsDurationMember IsTerms (member_at duration_at (codes "renewBefore") size.1) _ (of_duration_member (codes "renewBefore") size.1) (λ before is. so is))))

of_terms : (api : Api) (fs : List Field) → Always IsTerms (api_terms_in api fs)
of_terms V1 fs = of_new_terms fs
of_terms V1Alpha2 fs = of_old_terms fs

abbrev IsTarget : Target × List Field → Type 0
IsTarget p = list_all is_printable_name p.0.uris ≡ true

of_target : (name : List ℕ) (fs : List Field) → Always IsTarget (target_in name fs)
unfolding target_in
of_target name fs =
    next IsTarget (needed_at name_at (codes "secretName") fs) _
    (λ secret. after _ IsTarget (next_member_or [] (text_list_at Printable) name secret.1) _ (of_texts_member Printable is_printable_name of_printable name secret.1)
    (λ uris are_uris. next IsTarget (next_member_or [] (text_list_at Any) (codes "usages") uris.1) _ (λ usages. so are_uris)))

abbrev IsSpec : CertSpec → Type 0
IsSpec spec = (are_certificate_terms spec && are_subject_names spec) ≡ true

names_formed : (subject : Subject) (signing : Signing) (terms : Terms) (target : Target) → IsSubjectForm subject → list_all is_printable_name target.uris ≡ true → are_subject_names (spec_of subject signing terms target) ≡ true
names_formed subject signing terms target is uris =
    and_from (is_clean subject.common_name) _ is.common
    (and_from (list_all is_printable_name subject.dns_names) _ is.dns
    (and_from (list_all is_address_text subject.ip_addresses) _ is.addresses
    (and_from (list_all is_printable_name target.uris) (list_all is_printable_name subject.emails) uris is.emails)))

spec_formed : (subject : Subject) (signing : Signing) (terms : Terms) (target : Target)
    → IsSubjectForm subject → is_issuer_form signing.issuer ≡ true → is_duration_form terms.renew_before ≡ true → list_all is_printable_name target.uris ≡ true → IsSpec (spec_of subject signing terms target)
spec_formed subject signing terms target is issuer before uris =
    let spec = spec_of subject signing terms target in
    and_from (are_certificate_terms spec) (are_subject_names spec)
    (and_from (is_issuer_form signing.issuer) (is_duration_form subject.duration && is_duration_form terms.renew_before) issuer (and_from (is_duration_form subject.duration) (is_duration_form terms.renew_before) is.duration before))
    (names_formed subject signing terms target is uris)

of_spec : (api : Api) (d : Data) → Always IsSpec (spec_at api d)
unfolding spec_at
of_spec api d =
    next IsSpec (fields_at d) _
    (λ fs. after IsSubject IsSpec (subject_in (emails_name api) fs) _ (of_subject (emails_name api) fs)
    (λ subject is_subject. after IsSigning IsSpec (signing_in subject.1) _ (of_signing subject.1)
    (λ signing is_signing. after IsTerms IsSpec (api_terms_in api signing.1) _ (of_terms api signing.1)
    (λ terms is_terms. after IsTarget IsSpec (target_in (uris_name api) terms.1) _ (of_target (uris_name api) terms.1)
    (λ target is_target. next IsSpec (at_end target.1) _ (λ end. so (spec_formed subject.0 signing.0 terms.0 target.0 is_subject is_signing is_terms is_target)))))))

-- ---- CertificateRequests

abbrev IsRequestSpec : RequestSpec → Type 0
IsRequestSpec spec = (is_issuer_form spec.issuer && is_duration_form spec.duration) ≡ true

of_new_request : (d : Data) → Always IsRequestSpec (request_spec_at d)
unfolding request_spec_at
of_new_request d = next IsRequestSpec (fields_at d) _ (λ fs. after IsDurationMember IsRequestSpec (member_at duration_at (codes "duration") fs) _ (of_duration_member (codes "duration") fs) (λ duration is_duration. after IsSigning IsRequestSpec (signing_in duration.1) _ (of_signing duration.1) (λ signing is_signing. next IsRequestSpec (needed_at bytes_at (codes "request") signing.1) _ (λ request. next IsRequestSpec (next_member_or [] (text_list_at Any) (codes "usages") request.1) _ (λ usages. next IsRequestSpec (at_end usages.1) _ (λ end. so (and_from (is_issuer_form signing.0.issuer) (is_duration_form duration.0) is_signing is_duration)))))))

of_old_request : (d : Data) → Always IsRequestSpec (old_request_spec_at d)
unfolding old_request_spec_at
of_old_request d = next IsRequestSpec (fields_at d) _ (λ fs. next IsRequestSpec (needed_at bytes_at (codes "csr") fs) _ (λ request. after IsDurationMember IsRequestSpec (member_at duration_at (codes "duration") request.1) _ (of_duration_member (codes "duration") request.1) (λ duration is_duration. after IsSigning IsRequestSpec (signing_in duration.1) _ (of_signing duration.1) (λ signing is_signing. next IsRequestSpec (next_member_or [] (text_list_at Any) (codes "usages") signing.1) _ (λ usages. next IsRequestSpec (at_end usages.1) _ (λ end. so (and_from (is_issuer_form signing.0.issuer) (is_duration_form duration.0) is_signing is_duration)))))))

of_request_spec : (api : Api) (d : Data) → Always IsRequestSpec (api_request_spec_at api d)
of_request_spec V1 d = of_new_request d
of_request_spec V1Alpha2 d = of_old_request d

-- ---- objects

-- what is applied has the form of an object
abbrev pub IsApplied : Applied → Type 0
IsApplied applied = is_object_form applied.object ≡ true

of_certificate : (fs : List Field) → Always IsApplied (applied_certificate_in fs)
unfolding applied_certificate_in
of_certificate fs = next IsApplied (needed_at api_at (codes "apiVersion") fs) _ (λ api. next IsApplied (required_at (codes "kind") api.1) _ (λ kind. next IsApplied (needed_at head_at (codes "metadata") kind.1) _ (λ head. after (λ (p : CertSpec × List Field). IsSpec p.0) IsApplied (needed_at (spec_at api.0) (codes "spec") head.1) _ (needed_so IsSpec (spec_at api.0) (codes "spec") head.1 (of_spec api.0)) (λ spec is. next IsApplied (status_last spec.1) _ (λ end. so is)))))

of_request : (fs : List Field) → Always IsApplied (applied_request_in fs)
unfolding applied_request_in
of_request fs = next IsApplied (needed_at api_at (codes "apiVersion") fs) _ (λ api. next IsApplied (required_at (codes "kind") api.1) _ (λ kind. next IsApplied (needed_at head_at (codes "metadata") kind.1) _ (λ head. after (λ (p : RequestSpec × List Field). IsRequestSpec p.0) IsApplied (needed_at (api_request_spec_at api.0) (codes "spec") head.1) _ (needed_so IsRequestSpec (api_request_spec_at api.0) (codes "spec") head.1 (of_request_spec api.0)) (λ spec is. next IsApplied (status_last spec.1) _ (λ end. so is)))))

of_secret : (fs : List Field) → Always IsApplied (applied_secret_in fs)
unfolding applied_secret_in
of_secret fs = next IsApplied (needed_at (word_at (codes "v1")) (codes "apiVersion") fs) _ (λ api. next IsApplied (next_member_or [] parts_at (codes "data") api.1) _ (λ parts. next IsApplied (required_at (codes "kind") parts.1) _ (λ kind. next IsApplied (needed_at head_at (codes "metadata") kind.1) _ (λ head. next IsApplied (optional_at (codes "status") head.1) _ (λ status. next IsApplied (passes (codes "status") status.0) _ (λ dropped. next IsApplied (next_member_or (codes "Opaque") text_at (codes "type") status.1) _ (λ kind_text. next IsApplied (at_end kind_text.1) _ (λ end. so refl))))))))

of_stranger : (fs : List Field) → Always IsApplied (stranger_in fs)
unfolding stranger_in
of_stranger fs = next IsApplied (needed_at any_version_at (codes "apiVersion") fs) _ (λ api. next IsApplied (optional_at (codes "data") api.1) _ (λ given. next IsApplied (passes (codes "data") given.0) _ (λ passed. next IsApplied (required_at (codes "kind") given.1) _ (λ kind. failed (codes "kind" ∷ [])))))

of_object : (kind : Option (List ℕ)) (fs : List Field) → Always IsApplied (object_in kind fs)
of_object None fs = of_stranger fs
of_object (Some kind) fs =
    either IsApplied (bytes_eq kind (codes "Certificate")) (applied_certificate_in fs) (if bytes_eq kind (codes "CertificateRequest") then applied_request_in fs else (if bytes_eq kind (codes "Secret") then applied_secret_in fs else stranger_in fs)) (of_certificate fs)
    (either IsApplied (bytes_eq kind (codes "CertificateRequest")) (applied_request_in fs) (if bytes_eq kind (codes "Secret") then applied_secret_in fs else stranger_in fs) (of_request fs)
    (either IsApplied (bytes_eq kind (codes "Secret")) (applied_secret_in fs) (stranger_in fs) (of_secret fs) (of_stranger fs)))

-- each object that is read
pub of_applied : (d : Data) → Always IsApplied (applied_at d)
unfolding applied_at
of_applied d = next IsApplied (fields_at d) (object_in (text_member (codes "kind") d)) (λ fs. of_object (text_member (codes "kind") d) fs)
