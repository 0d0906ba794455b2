-- A spec that is read is printed as one that is read again.
use Rattle.std.proofs.Common.{◌≡◌, ℕ, List, [], false, Ok, refl}
use Rattle.std.specs.Prelude.{codes, IfSome}
use Rattle.std.proofs.lemmas.Str.{chars-nil}
use Rattle.serde_json.specs.Data.{Data, string}
use Rattle.cmc_objects.specs.declared.key_spec.Algorithm.TheVariants.{Rsa, Ecdsa}
use Rattle.cmc_objects.specs.declared.key_spec.Encoding.TheVariants.{Pkcs1, Pkcs8}
use Rattle.cmc_objects.specs.declared.key_spec.Rotation.TheVariants.{Always, Never}
use Rattle.cmc_objects.specs.declared.key_spec.KeySpec.{KeySpec}
use Rattle.cmc_objects.specs.declared.request.RequestSpec.{RequestSpec}
use Rattle.cmc_cursor.specs.Members.{Field, fields_at, at_end}
use Rattle.cmc_cursor.specs.Readers.{name_at, short_text_at, small_count_at, flag_at, bytes_at}
use Rattle.cmc_print.specs.Trees.{natural}
use Rattle.cmc_print.specs.Puts.{strings, base64_text}
use Rattle.cmc_print.specs.Printed.{duration_tree}
use Rattle.cmc_codec.specs.Given.{text_list_at, clean_text_at, duration_at, choice_at, member_at, next_member_or, needed_at}
use Rattle.cmc_codec.specs.declared.given.Wording.{Wording}
use Rattle.cmc_codec.specs.declared.given.Wording.TheVariants.{Any, Printable, Address}
use Rattle.cmc_codec.specs.declared.certificate_in.Api.{Api}
use Rattle.cmc_codec.specs.declared.certificate_in.Api.TheVariants.{V1, V1Alpha2}
use Rattle.cmc_codec.specs.declared.certificate_in.Subject.{Subject}
use Rattle.cmc_codec.specs.declared.certificate_in.Signing.{Signing}
use Rattle.cmc_codec.specs.declared.certificate_in.Terms.{Terms}
use Rattle.cmc_codec.specs.declared.certificate_in.Target.{Target}
use Rattle.cmc_codec.specs.CertificateForm.{issuer_at, no_key, key_spec_at, subject_in, signing_in, terms_in, old_terms_in, api_terms_in, target_in, spec_at, emails_name, uris_name, request_spec_at, old_request_spec_at, api_request_spec_at}
use Rattle.cmc_codec.proofs.ValuesAgain as values
use Rattle.cmc_cursor.proofs.Always as readings
use Rattle.cmc_cursor.proofs.Always.{so, next, after}
use Rattle.cmc_codec.proofs.ValuesAgain.{member_or_so, member_so, needed_so}
use Rattle.cmc_codec.proofs.PrintedSpecs.{IsIssuer, IsSize, IsSpec, IsRequestSpec}

abbrev IsShort : List ℕ → Type 0
IsShort t = short_text_at 253 (string t) ≡ Ok t

abbrev IsNumber : ℕ → Type 0
IsNumber n = small_count_at (natural n) ≡ Ok n

abbrev IsSeconds : ℕ → Type 0
IsSeconds n = duration_at (duration_tree n) ≡ Ok n

abbrev IsListOf : Wording → List (List ℕ) → Type 0
IsListOf wording ts = text_list_at wording (strings ts) ≡ Ok ts

issuer_so : (d : Data) → readings.Always IsIssuer (issuer_at d)
unfolding issuer_at
issuer_so d =
    next IsIssuer (fields_at d) _ (λ fs. after _ IsIssuer (member_at (short_text_at 253) (codes "group") fs) _ (member_so IsShort (short_text_at 253) (codes "group") fs (values.short_text_again 253))
    (λ group is_group. after _ IsIssuer (member_at (short_text_at 253) (codes "kind") group.1) _ (member_so IsShort (short_text_at 253) (codes "kind") group.1 (values.short_text_again 253))
    (λ kind is_kind. after _ IsIssuer (needed_at (short_text_at 253) (codes "name") kind.1) _ (needed_so IsShort (short_text_at 253) (codes "name") kind.1 (values.short_text_again 253))
    (λ name is_name. next IsIssuer (at_end name.1) _ (λ end. so (record { name = is_name; kind = is_kind; group = is_group }))))))

abbrev HasSize : KeySpec → Type 0
HasSize k = IsSize k.size

key_so : (d : Data) → readings.Always HasSize (key_spec_at d)
unfolding key_spec_at
key_so d =
    next HasSize (fields_at d) _ (λ fs. next HasSize (member_at (choice_at (codes "RSA") Rsa (codes "ECDSA") Ecdsa) (codes "algorithm") fs) _
    (λ algorithm. next HasSize (member_at (choice_at (codes "PKCS1") Pkcs1 (codes "PKCS8") Pkcs8) (codes "encoding") algorithm.1) _
    (λ encoding. next HasSize (member_at (choice_at (codes "Always") Always (codes "Never") Never) (codes "rotationPolicy") encoding.1) _
    (λ rotation. after _ HasSize (member_at small_count_at (codes "size") rotation.1) _ (member_so IsNumber small_count_at (codes "size") rotation.1 values.small_count_again)
    (λ size is_size. next HasSize (at_end size.1) _ (λ end. so is_size))))))

empty_again : clean_text_at (string []) ≡ Ok []
empty_again = rw (chars-nil) refl

record IsSubject (p : Subject × List Field) : Type 0 where
  common : clean_text_at (string p.0.common_name) ≡ Ok p.0.common_name
  dns : IsListOf Printable p.0.dns_names
  duration : IfSome p.0.duration IsSeconds
  emails : IsListOf Printable p.0.emails
  addresses : IsListOf Address p.0.ip_addresses

subject_so : (n : List ℕ) (fs : List Field) → readings.Always IsSubject (subject_in n fs)
unfolding subject_in
subject_so n fs =
    after _ IsSubject (next_member_or [] clean_text_at (codes "commonName") fs) _ (member_or_so (λ t. clean_text_at (string t) ≡ Ok t) [] clean_text_at (codes "commonName") fs empty_again values.clean_text_again)
    (λ common is_common. after _ IsSubject (next_member_or [] (text_list_at Printable) (codes "dnsNames") common.1) _ (member_or_so (IsListOf Printable) [] (text_list_at Printable) (codes "dnsNames") common.1 refl (values.list_again Printable))
    (λ dns is_dns. after _ IsSubject (member_at duration_at (codes "duration") dns.1) _ (member_so IsSeconds duration_at (codes "duration") dns.1 values.duration_is_again)
    (λ duration is_duration. after _ IsSubject (next_member_or [] (text_list_at Printable) n duration.1) _ (member_or_so (IsListOf Printable) [] (text_list_at Printable) n duration.1 refl (values.list_again Printable))
    (λ emails is_emails. after _ IsSubject (next_member_or [] (text_list_at Address) (codes "ipAddresses") emails.1) _ (member_or_so (IsListOf Address) [] (text_list_at Address) (codes "ipAddresses") emails.1 refl (values.list_again Address))
    (λ addresses is_addresses. so (record { common = is_common; dns = is_dns; duration = is_duration; emails = is_emails; addresses = is_addresses }))))))

abbrev IsSigning : Signing × List Field → Type 0
IsSigning p = IsIssuer p.0.issuer

pub signing_so : (fs : List Field) → readings.Always IsSigning (signing_in fs)
unfolding signing_in
signing_so fs = next IsSigning (next_member_or false flag_at (codes "isCA") fs) _
    (λ is_ca. after _ IsSigning (needed_at issuer_at (codes "issuerRef") is_ca.1) _ (needed_so IsIssuer issuer_at (codes "issuerRef") is_ca.1 issuer_so) (λ issuer is_issuer. so is_issuer))

record IsTerms (p : Terms × List Field) : Type 0 where
  size : IfSome p.0.key.size IsNumber
  before : IfSome p.0.renew_before IsSeconds
  percent : IfSome p.0.renew_percent IsNumber
  limit : IfSome p.0.history_limit IsNumber

terms_so : (fs : List Field) → readings.Always IsTerms (terms_in fs)
unfolding terms_in
terms_so fs =
    after _ IsTerms (next_member_or no_key key_spec_at (codes "privateKey") fs) _ (member_or_so HasSize no_key key_spec_at (codes "privateKey") fs tt key_so)
    (λ key is_key. after _ IsTerms (member_at duration_at (codes "renewBefore") key.1) _ (member_so IsSeconds duration_at (codes "renewBefore") key.1 values.duration_is_again)
    (λ before is_before. after _ IsTerms (member_at small_count_at (codes "renewBeforePercentage") before.1) _ (member_so IsNumber small_count_at (codes "renewBeforePercentage") before.1 values.small_count_again)
    (λ percent is_percent. after _ IsTerms (member_at small_count_at (codes "revisionHistoryLimit") percent.1) _ (member_so IsNumber small_count_at (codes "revisionHistoryLimit") percent.1 values.small_count_again)
    (λ limit is_limit. so (record { size = is_key; before = is_before; percent = is_percent; limit = is_limit })))))

old_terms_so : (fs : List Field) → readings.Always IsTerms (old_terms_in fs)
unfolding old_terms_in
old_terms_so fs =
    next IsTerms (member_at (choice_at (codes "rsa") Rsa (codes "ecdsa") Ecdsa) (codes "keyAlgorithm") fs) _
    (λ algorithm. next IsTerms (member_at (choice_at (codes "pkcs1") Pkcs1 (codes "pkcs8") Pkcs8) (codes "keyEncoding") algorithm.1) _
    (λ encoding. after _ IsTerms (member_at small_count_at (codes "keySize") encoding.1) _ (member_so IsNumber small_count_at (codes "keySize") encoding.1 values.small_count_again)
    (λ size is_size. after _ IsTerms (member_at duration_at (codes "renewBefore") size.1) _ (member_so IsSeconds duration_at (codes "renewBefore") size.1 values.duration_is_again)
    (λ before is_before. so (record { size = is_size; before = is_before; percent = tt; limit = tt })))))

api_terms_so : (api : Api) (fs : List Field) → readings.Always IsTerms (api_terms_in api fs)
api_terms_so V1 fs = terms_so fs
api_terms_so V1Alpha2 fs = old_terms_so fs

record IsTarget (p : Target × List Field) : Type 0 where
  secret : name_at (string p.0.secret_name) ≡ Ok p.0.secret_name
  uris : IsListOf Printable p.0.uris
  usages : IsListOf Any p.0.usages

target_so : (n : List ℕ) (fs : List Field) → readings.Always IsTarget (target_in n fs)
unfolding target_in
target_so n fs =
    after _ IsTarget (needed_at name_at (codes "secretName") fs) _ (needed_so (λ t. name_at (string t) ≡ Ok t) name_at (codes "secretName") fs values.name_again)
    (λ secret is_secret. after _ IsTarget (next_member_or [] (text_list_at Printable) n secret.1) _ (member_or_so (IsListOf Printable) [] (text_list_at Printable) n secret.1 refl (values.list_again Printable))
    (λ uris is_uris. after _ IsTarget (next_member_or [] (text_list_at Any) (codes "usages") uris.1) _ (member_or_so (IsListOf Any) [] (text_list_at Any) (codes "usages") uris.1 refl (values.list_again Any))
    (λ usages is_usages. so (record { secret = is_secret; uris = is_uris; usages = is_usages }))))

pub spec_so : (api : Api) (d : Data) → readings.Always IsSpec (spec_at api d)
unfolding spec_at
spec_so api d =
    next IsSpec (fields_at d) _ (λ fs. after _ IsSpec (subject_in (emails_name api) fs) _ (subject_so (emails_name api) fs)
    (λ subject is_subject. after _ IsSpec (signing_in subject.1) _ (signing_so subject.1)
    (λ signing is_signing. after _ IsSpec (api_terms_in api signing.1) _ (api_terms_so api signing.1)
    (λ terms is_terms. after _ IsSpec (target_in (uris_name api) terms.1) _ (target_so (uris_name api) terms.1)
    (λ target is_target. next IsSpec (at_end target.1) _ (λ end. so (record {
      common = is_subject.common;
      dns = is_subject.dns;
      duration = is_subject.duration;
      emails = is_subject.emails;
      addresses = is_subject.addresses;
      issuer = is_signing;
      size = is_terms.size;
      before = is_terms.before;
      percent = is_terms.percent;
      limit = is_terms.limit;
      secret = is_target.secret;
      uris = is_target.uris;
      usages = is_target.usages;
    })))))))

abbrev pub HasBytes : RequestSpec → Type 0
HasBytes s = bytes_at (base64_text s.request) ≡ Ok s.request

abbrev pub IsRequest : RequestSpec → Type 0
IsRequest s = HasBytes s → IsRequestSpec s

request_so : (d : Data) → readings.Always IsRequest (request_spec_at d)
unfolding request_spec_at
request_so d =
    next IsRequest (fields_at d) _ (λ fs. after _ IsRequest (member_at duration_at (codes "duration") fs) _ (member_so IsSeconds duration_at (codes "duration") fs values.duration_is_again)
    (λ duration is_duration. after _ IsRequest (signing_in duration.1) _ (signing_so duration.1)
    (λ signing is_signing. next IsRequest (needed_at bytes_at (codes "request") signing.1) _
    (λ request. after _ IsRequest (next_member_or [] (text_list_at Any) (codes "usages") request.1) _ (member_or_so (IsListOf Any) [] (text_list_at Any) (codes "usages") request.1 refl (values.list_again Any))
    (λ usages is_usages. next IsRequest (at_end usages.1) _ (λ end. so (λ bytes. record { duration = is_duration; issuer = is_signing; request = bytes; usages = is_usages })))))))

old_request_so : (d : Data) → readings.Always IsRequest (old_request_spec_at d)
unfolding old_request_spec_at
old_request_so d =
    next IsRequest (fields_at d) _ (λ fs. next IsRequest (needed_at bytes_at (codes "csr") fs) _
    (λ request. after _ IsRequest (member_at duration_at (codes "duration") request.1) _ (member_so IsSeconds duration_at (codes "duration") request.1 values.duration_is_again)
    (λ duration is_duration. after _ IsRequest (signing_in duration.1) _ (signing_so duration.1)
    (λ signing is_signing. after _ IsRequest (next_member_or [] (text_list_at Any) (codes "usages") signing.1) _ (member_or_so (IsListOf Any) [] (text_list_at Any) (codes "usages") signing.1 refl (values.list_again Any))
    (λ usages is_usages. next IsRequest (at_end usages.1) _ (λ end. so (λ bytes. record { duration = is_duration; issuer = is_signing; request = bytes; usages = is_usages })))))))

pub api_request_so : (api : Api) (d : Data) → readings.Always IsRequest (api_request_spec_at api d)
api_request_so V1 d = request_so d
api_request_so V1Alpha2 d = old_request_so d
