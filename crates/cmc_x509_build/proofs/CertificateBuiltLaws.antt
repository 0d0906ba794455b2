-- The certificate that is built is read with the fields that it was built of.
use Rattle.std.proofs.Common.{◌≡◌, ◌≢◌, Bool, true, false, cond, nat_lt, ℕ, ◌%◌, List, [], ◌∷◌, ◌++◌, Option, Some, None, ℤ, ◌≤ℤ◌, refl, sym, subst, arith, append_assoc}
use Rattle.std.specs.Int.{w64, to_be_bytes}
use Rattle.cmc_der.specs.Builders.{value}
use Rattle.cmc_der.specs.Integers.{is_integer}
use Rattle.cmc_der.specs.Keys.{PublicKey, CertificateFields, SubjectNames}
use Rattle.cmc_der.proofs.Shortest.{integer_is}
use Rattle.cmc_time.specs.Asn1.{IsCertificateTime, asn1_tag, asn1_text}
use Rattle.cmc_time.specs.Moment.{moment_of}
use Rattle.cmc_time.proofs.Printed.{asn1_is_text}
use Rattle.cmc_x509.specs.Options.{BeginsOtherwise, BeginsWithOptional}
use Rattle.cmc_x509.specs.Lists.{IsValueList}
use Rattle.cmc_x509.specs.Times.{BeginsWithTime}
use Rattle.cmc_x509.specs.Certificates.{IsTbsCertificate, IsCertificate, BeginsWithValidity, AreExtensions}
use Rattle.cmc_x509_build.specs.declared.oids.TheConstants.{ECDSA_WITH_SHA256}
use Rattle.cmc_x509_build.specs.declared.certificates.CertPlan.{CertPlan}
use Rattle.cmc_x509_build.specs.Keys.{IsWritable}
use Rattle.cmc_x509_build.specs.Octets.{signature_algorithm, signed_octets, name_octets, spki_octets, alternative_extension}
use Rattle.cmc_x509_build.specs.Certificates.{time_octets, validity_octets, serial_octets, fields_of_plan, head_octets, subject_octets, names_extensions, certificate_body, IsCertificateBody}
use Rattle.cmc_der.proofs.SmallValues.{IsSmall, contents_small, front_small, back_small, value_is, value_first, value_last}
use Rattle.cmc_x509_build.proofs.ValueLaws.{is_otherwise}
use Rattle.cmc_x509_build.proofs.BuiltKeyLaws.{spki_first}
use Rattle.cmc_x509_build.proofs.BuiltNameLaws.{name_first, extension_list}
use Rattle.cmc_x509_build.proofs.RequestLaws.{signature_algorithm_is, signed_is}

-- the tag of a time is a low one
low_utc_time : 23 % 32 ≢ 31
low_utc_time e = omega arith

low_generalized_time : 24 % 32 ≢ 31
low_generalized_time e = omega arith

low_choice : (early : Bool) → cond {A = ℕ} early 23 24 % 32 ≢ 31
low_choice true = low_utc_time
low_choice false = low_generalized_time

low_tag : (at : ℤ) → asn1_tag at % 32 ≢ 31
unfolding asn1_tag
low_tag at = low_choice (nat_lt (moment_of at).year 2050)

time_first : (at : ℤ) (rest : List ℕ) → IsCertificateTime at → IsSmall (time_octets at ++ rest) → BeginsWithTime (time_octets at ++ rest) at rest
time_first at rest h small =
    let is = asn1_is_text at h in
    (asn1_tag at, asn1_text at, value_first (asn1_tag at) (asn1_text at) rest (low_tag at) small, is)

time_last : (at : ℤ) → IsCertificateTime at → IsSmall (time_octets at) → BeginsWithTime (time_octets at) at []
time_last at h small =
    let is = asn1_is_text at h in
    (asn1_tag at, asn1_text at, value_last (asn1_tag at) (asn1_text at) (low_tag at) small, is)

validity_first : (not_before not_after : ℤ) (rest : List ℕ) → IsCertificateTime not_before → IsCertificateTime not_after → not_before ≤ℤ not_after → IsSmall (validity_octets not_before not_after ++ rest) → BeginsWithValidity (validity_octets not_before not_after ++ rest) not_before not_after rest
validity_first not_before not_after rest h k ordered small =
    let times = time_octets not_before ++ time_octets not_after in
    let inside = contents_small 48 times (front_small (value 48 times) rest small) in
    record {
      body = times;
      inner = time_octets not_after;
      whole = value_first 48 times rest (λ e. omega arith) small;
      first = time_first not_before (time_octets not_after) h inside;
      second = time_last not_after k (back_small (time_octets not_before) (time_octets not_after) inside);
      ordered = ordered;
    }

-- extensions stand under [3] alone
extensions_otherwise : (tag : ℕ) (names : List ℕ) → 163 ≢ tag → BeginsOtherwise tag (names_extensions names)
extensions_otherwise tag [] differ = tt
extensions_otherwise tag (b ∷ bs) differ = is_otherwise tag 163 (value 48 (alternative_extension (b ∷ bs))) differ

abbrev extensions_found : List ℕ → Option (List ℕ)
extensions_found [] = None
extensions_found (b ∷ bs) = Some (value 48 (alternative_extension (b ∷ bs)))

extensions_stand : (names : List ℕ) → IsSmall (names_extensions names) → BeginsWithOptional (names_extensions names) 163 (extensions_found names) []
extensions_stand [] small = (refl, tt)
extensions_stand (b ∷ bs) small = value_last 163 (value 48 (alternative_extension (b ∷ bs))) (λ e. omega arith) small

extensions_give : (names : List ℕ) → IsValueList names → IsSmall (value 48 (alternative_extension names)) → AreExtensions (Some (value 48 (alternative_extension names))) names
extensions_give names are small =
    let extension = alternative_extension names in
    (extension, Some names, value_is 48 extension (λ e. omega arith) small, extension_list names are (contents_small 48 extension small), refl)

extensions_are : (names : List ℕ) → IsValueList names → IsSmall (names_extensions names) → AreExtensions (extensions_found names) names
extensions_are [] are small = refl
extensions_are (b ∷ bs) are small = extensions_give (b ∷ bs) are (contents_small 163 (value 48 (alternative_extension (b ∷ bs))) small)

-- the parts, each behind the one before it
abbrev chained : List ℕ → CertificateFields → List ℕ
chained issuer fields =
    value 160 (value 2 (2 ∷ [])) ++ (value 2 fields.serial ++ (signature_algorithm ++ (name_octets (Some issuer)
    ++ (validity_octets fields.not_before fields.not_after ++ subject_octets fields.names fields.key))))

regrouped : (a b c d e f : List ℕ) → ((a ++ (b ++ c)) ++ (d ++ e)) ++ f ≡ a ++ (b ++ (c ++ (d ++ (e ++ f))))
regrouped a b c d e f = simp append_assoc

-- what the fields of a certificate that is built have in common
pub record IsBuildable (fields : CertificateFields) : Type 0 where
  pub serial_is : is_integer fields.serial ≡ true
  pub begins_in_range : IsCertificateTime fields.not_before
  pub ends_in_range : IsCertificateTime fields.not_after
  pub ordered : fields.not_before ≤ℤ fields.not_after
  pub key_is : IsWritable fields.key
  pub names_are : IsValueList fields.names.alternative

chained_is : (issuer : List ℕ) (fields : CertificateFields) → IsBuildable fields → IsSmall (chained issuer fields) → IsTbsCertificate (chained issuer fields) fields
chained_is issuer fields h small =
    let version = value 2 (2 ∷ []) in
    let extensions = names_extensions fields.names.alternative in
    let key = spki_octets fields.key ++ extensions in
    let subject = name_octets fields.names.common ++ key in
    let times = validity_octets fields.not_before fields.not_after ++ subject in
    let issued = name_octets (Some issuer) ++ times in
    let algorithm = signature_algorithm ++ issued in
    let serial = value 2 fields.serial ++ algorithm in
    let serial_small = back_small (value 160 version) serial small in
    let algorithm_small = back_small (value 2 fields.serial) algorithm serial_small in
    let issued_small = back_small signature_algorithm issued algorithm_small in
    let times_small = back_small (name_octets (Some issuer)) times issued_small in
    let subject_small = back_small (validity_octets fields.not_before fields.not_after) subject times_small in
    let key_small = back_small (name_octets fields.names.common) key subject_small in
    let extensions_small = back_small (spki_octets fields.key) extensions key_small in
    let version_small = contents_small 160 version (front_small (value 160 version) serial small) in
    record {
      r0 = serial;
      r1 = algorithm;
      r2 = issued;
      r3 = times;
      r4 = subject;
      r5 = key;
      r6 = extensions;
      r7 = extensions;
      r8 = extensions;
      version = Some version;
      signature = record { oid = ECDSA_WITH_SHA256; parameter = None };
      issuer = Some issuer;
      issuer_id = None;
      subject_id = None;
      extensions = extensions_found fields.names.alternative;
      version_stands = value_first 160 version serial (λ e. omega arith) small;
      version_is = value_is 2 (2 ∷ []) (λ e. omega arith) version_small;
      serial_is = (value_first 2 fields.serial algorithm (λ e. omega arith) serial_small, h.serial_is);
      signature_is = signature_algorithm_is issued algorithm_small;
      issuer_is = name_first (Some issuer) times issued_small;
      validity_is = validity_first fields.not_before fields.not_after subject h.begins_in_range h.ends_in_range h.ordered times_small;
      subject_is = name_first fields.names.common key subject_small;
      key_is = spki_first fields.key extensions h.key_is key_small;
      issuer_id_stands = (refl, extensions_otherwise 129 fields.names.alternative (λ e. omega arith));
      issuer_id_is = tt;
      subject_id_stands = (refl, extensions_otherwise 130 fields.names.alternative (λ e. omega arith));
      subject_id_is = tt;
      extensions_stand = extensions_stand fields.names.alternative extensions_small;
      extensions_are = extensions_are fields.names.alternative h.names_are extensions_small;
    }

pub certificate_body_is : (issuer : List ℕ) (fields : CertificateFields) → IsBuildable fields → IsSmall (certificate_body issuer fields) → IsCertificateBody (certificate_body issuer fields) fields
unfolding certificate_body
certificate_body_is issuer fields h small =
    let contents = head_octets fields.serial issuer fields.not_before fields.not_after ++ subject_octets fields.names fields.key in
    let same : contents ≡ chained issuer fields =
    regrouped (value 160 (value 2 (2 ∷ []))) (value 2 fields.serial) signature_algorithm (name_octets (Some issuer)) (validity_octets fields.not_before fields.not_after) (subject_octets fields.names fields.key) in
    let inside : IsSmall (chained issuer fields) = subst IsSmall same (contents_small 48 contents small) in
    (contents, value_is 48 contents (λ e. omega arith) small, subst (λ (octets : List ℕ). IsTbsCertificate octets fields) (sym same) (chained_is issuer fields h inside))

serial_is_integer : (serial : ℕ) → is_integer (serial_octets serial) ≡ true
serial_is_integer serial = (integer_is (to_be_bytes w64 serial)).shortest

-- of a plan
pub planned_body_is : (plan : CertPlan) (names : SubjectNames) (key : PublicKey) → IsCertificateTime plan.not_before → IsCertificateTime plan.not_after → plan.not_before ≤ℤ plan.not_after → IsWritable key → IsValueList names.alternative → IsSmall (certificate_body plan.issuer (fields_of_plan plan names key)) → IsCertificateBody (certificate_body plan.issuer (fields_of_plan plan names key)) (fields_of_plan plan names key)
planned_body_is plan names key begins ends ordered writable are small =
    certificate_body_is plan.issuer (fields_of_plan plan names key) (record {
      serial_is = serial_is_integer plan.serial;
      begins_in_range = begins;
      ends_in_range = ends;
      ordered = ordered;
      key_is = writable;
      names_are = are;
    }) small

pub certificate_is : (body signature : List ℕ) (fields : CertificateFields) → IsCertificateBody body fields → IsSmall (signed_octets body signature) → IsCertificate (signed_octets body signature) fields
certificate_is body signature fields h small =
    record { within = small; body = h.0; signed = signed_is body h.0 signature h.1 small; is = h.2 }
