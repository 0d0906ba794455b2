-- The forms of the specs of Certificates and CertificateRequests that are read. Only the members named here may stand.
use Rattle.std.specs.Prelude.{ℕ, List, [], codes, false, Ok, None}
use Rattle.serde_json.specs.Data.{Data}
use Rattle.cmc_objects.specs.declared.issuer.IssuerRef.{IssuerRef}
use Rattle.cmc_objects.specs.declared.key_spec.Algorithm.TheVariants.{Rsa, Ecdsa}
use Rattle.cmc_objects.specs.declared.key_spec.Encoding.TheVariants.{Pkcs1, Pkcs8}
use Rattle.cmc_objects.specs.declared.key_spec.Rotation.TheVariants.{Always, Never}
use Rattle.cmc_objects.specs.declared.key_spec.KeySpec.{KeySpec}
use Rattle.cmc_objects.specs.declared.certificate.CertSpec.{CertSpec}
use Rattle.cmc_objects.specs.declared.request.RequestSpec.{RequestSpec}
use Rattle.cmc_cursor.specs.Members.{Read, ◌>>=◌, Field, fields_at, at_end}
use Rattle.cmc_cursor.specs.Readers.{name_at, short_text_at, small_count_at, flag_at, bytes_at}
use Rattle.cmc_codec.specs.Given.{text_list_at, clean_text_at, duration_at, choice_at, member_at, next_member_or, needed_at}
use Rattle.cmc_codec.specs.declared.given.Wording.TheVariants.{Any, Printable, Address}
use Rattle.cmc_codec.specs.declared.certificate_in.Api.{Api}
use Rattle.cmc_codec.specs.declared.certificate_in.Api.TheVariants.{V1, V1Alpha2}
use Rattle.cmc_codec.specs.declared.certificate_in.Subject.{Subject}
use Rattle.cmc_codec.specs.declared.certificate_in.Signing.{Signing}
use Rattle.cmc_codec.specs.declared.certificate_in.Terms.{Terms}
use Rattle.cmc_codec.specs.declared.certificate_in.Target.{Target}

-- The API version of a Certificate or a CertificateRequest.
abbrev pub api_at : Data → Read Api
api_at = choice_at (codes "cert-manager.io/v1") V1 (codes "cert-manager.io/v1alpha2") V1Alpha2

-- The issuer that is named.
unfoldable pub issuer_at : Data → Read IssuerRef
issuer_at d = do
  fs ← fields_at d
  group ← member_at (short_text_at 253) (codes "group") fs
  kind ← member_at (short_text_at 253) (codes "kind") group.1
  name ← needed_at (short_text_at 253) (codes "name") kind.1
  end ← at_end name.1
  Ok (record { name = name.0; kind = kind.0; group = group.0 })

abbrev pub no_key : KeySpec
no_key = record { algorithm = None; size = None; encoding = None; rotation = None }

-- The private key that is asked for; an empty one equals an absent one.
unfoldable pub key_spec_at : Data → Read KeySpec
key_spec_at d = do
  fs ← fields_at d
  algorithm ← member_at (choice_at (codes "RSA") Rsa (codes "ECDSA") Ecdsa) (codes "algorithm") fs
  encoding ← member_at (choice_at (codes "PKCS1") Pkcs1 (codes "PKCS8") Pkcs8) (codes "encoding") algorithm.1
  rotation ← member_at (choice_at (codes "Always") Always (codes "Never") Never) (codes "rotationPolicy") encoding.1
  size ← member_at small_count_at (codes "size") rotation.1
  end ← at_end size.1
  Ok (record { algorithm = algorithm.0; size = size.0; encoding = encoding.0; rotation = rotation.0 })

-- ---- the spec of a Certificate, in parts as its members come

-- What the certificate is asked for. The member with the email addresses has this name.
unfoldable pub subject_in : List ℕ → List Field → Read (Subject × List Field)
subject_in emails_name fs = do
  common ← next_member_or [] clean_text_at (codes "commonName") fs
  dns ← next_member_or [] (text_list_at Printable) (codes "dnsNames") common.1
  duration ← member_at duration_at (codes "duration") dns.1
  emails ← next_member_or [] (text_list_at Printable) emails_name duration.1
  addresses ← next_member_or [] (text_list_at Address) (codes "ipAddresses") emails.1
  Ok (record { common_name = common.0; dns_names = dns.0; duration = duration.0; emails = emails.0; ip_addresses = addresses.0 }, addresses.1)

-- Who signs it, and whether it is a CA's.
unfoldable pub signing_in : List Field → Read (Signing × List Field)
signing_in fs = do
  is_ca ← next_member_or false flag_at (codes "isCA") fs
  issuer ← needed_at issuer_at (codes "issuerRef") is_ca.1
  Ok (record { is_ca = is_ca.0; issuer = issuer.0 }, issuer.1)

-- Its key, when it is renewed, and how many requests are kept.
unfoldable pub terms_in : List Field → Read (Terms × List Field)
terms_in fs = do
  key ← next_member_or no_key key_spec_at (codes "privateKey") fs
  before ← member_at duration_at (codes "renewBefore") key.1
  percent ← member_at small_count_at (codes "renewBeforePercentage") before.1
  limit ← member_at small_count_at (codes "revisionHistoryLimit") percent.1
  Ok (record { key = key.0; renew_before = before.0; renew_percent = percent.0; history_limit = limit.0 }, limit.1)

-- The same of v1alpha2, which has the key's members in the spec.
unfoldable pub old_terms_in : List Field → Read (Terms × List Field)
old_terms_in fs = do
  algorithm ← member_at (choice_at (codes "rsa") Rsa (codes "ecdsa") Ecdsa) (codes "keyAlgorithm") fs
  encoding ← member_at (choice_at (codes "pkcs1") Pkcs1 (codes "pkcs8") Pkcs8) (codes "keyEncoding") algorithm.1
  size ← member_at small_count_at (codes "keySize") encoding.1
  before ← member_at duration_at (codes "renewBefore") size.1
  Ok (
    record {
      key = record { algorithm = algorithm.0; size = size.0; encoding = encoding.0; rotation = None };
      renew_before = before.0;
      renew_percent = None;
      history_limit = None;
    },
    before.1,
  )

-- Where it goes, and what it is for. The member with the URIs has this name.
unfoldable pub target_in : List ℕ → List Field → Read (Target × List Field)
target_in uris_name fs = do
  secret ← needed_at name_at (codes "secretName") fs
  uris ← next_member_or [] (text_list_at Printable) uris_name secret.1
  usages ← next_member_or [] (text_list_at Any) (codes "usages") uris.1
  Ok (record { secret_name = secret.0; uris = uris.0; usages = usages.0 }, usages.1)

abbrev pub spec_of : Subject → Signing → Terms → Target → CertSpec
spec_of subject signing terms target = record {
  secret_name = target.secret_name;
  issuer = signing.issuer;
  common_name = subject.common_name;
  dns_names = subject.dns_names;
  ip_addresses = subject.ip_addresses;
  uris = target.uris;
  emails = subject.emails;
  is_ca = signing.is_ca;
  usages = target.usages;
  duration = subject.duration;
  renew_before = terms.renew_before;
  renew_percent = terms.renew_percent;
  key = terms.key;
  history_limit = terms.history_limit;
}

-- The members that v1alpha2 names in another way.
abbrev pub emails_name : Api → List ℕ
emails_name V1 = codes "emailAddresses"
emails_name V1Alpha2 = codes "emailSANs"

abbrev pub uris_name : Api → List ℕ
uris_name V1 = codes "uris"
uris_name V1Alpha2 = codes "uriSANs"

abbrev pub api_terms_in : Api → List Field → Read (Terms × List Field)
api_terms_in V1 fs = terms_in fs
api_terms_in V1Alpha2 fs = old_terms_in fs

unfoldable pub spec_at : Api → Data → Read CertSpec
spec_at api d = do
  fs ← fields_at d
  subject ← subject_in (emails_name api) fs
  signing ← signing_in subject.1
  terms ← api_terms_in api signing.1
  target ← target_in (uris_name api) terms.1
  end ← at_end target.1
  Ok (spec_of subject.0 signing.0 terms.0 target.0)

-- ---- the spec of a CertificateRequest

unfoldable pub request_spec_at : Data → Read RequestSpec
request_spec_at d = do
  fs ← fields_at d
  duration ← member_at duration_at (codes "duration") fs
  signing ← signing_in duration.1
  request ← needed_at bytes_at (codes "request") signing.1
  usages ← next_member_or [] (text_list_at Any) (codes "usages") request.1
  end ← at_end usages.1
  Ok (record { issuer = signing.0.issuer; duration = duration.0; is_ca = signing.0.is_ca; usages = usages.0; request = request.0 })

-- The same of v1alpha2, which names the request `csr`.
unfoldable pub old_request_spec_at : Data → Read RequestSpec
old_request_spec_at d = do
  fs ← fields_at d
  request ← needed_at bytes_at (codes "csr") fs
  duration ← member_at duration_at (codes "duration") request.1
  signing ← signing_in duration.1
  usages ← next_member_or [] (text_list_at Any) (codes "usages") signing.1
  end ← at_end usages.1
  Ok (record { issuer = signing.0.issuer; duration = duration.0; is_ca = signing.0.is_ca; usages = usages.0; request = request.0 })

abbrev pub api_request_spec_at : Api → Data → Read RequestSpec
api_request_spec_at V1 d = request_spec_at d
api_request_spec_at V1Alpha2 d = old_request_spec_at d
