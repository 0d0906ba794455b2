-- Reading certificates and certification requests from the left.
use Rattle.std.specs.Prelude.{ℕ, ℤ, int_le, nat_le, cond, List, [], length, Option, Some, None}
use Rattle.cmc_der.specs.Keys.{CertificateFields, RequestFields}
use Rattle.cmc_x509.specs.declared.certificates.Front.{Front}
use Rattle.cmc_x509.specs.declared.taking.TheConstants.{MAX_INPUT}
use Rattle.cmc_x509.specs.Options.{◌>>=◌, take_at, end_at, only_at, optional_value_at}
use Rattle.cmc_x509.specs.Lists.{first_at}
use Rattle.cmc_x509.specs.Certificates.{or_none}
use Rattle.cmc_x509.specs.ReadKeys.{algorithm_at, integer_at, version_at, bits_of, spki_at}
use Rattle.cmc_x509.specs.ReadNames.{distinguished_name_at, extension_of, request_attribute_of}
use Rattle.cmc_x509.specs.Times.{time_at}

-- the body of what is signed
unfoldable pub signed_at : List ℕ → Option (List ℕ)
signed_at bs = do
  parts ← only_at 48 bs
  body ← take_at 48 parts
  algorithm ← algorithm_at body.1
  string ← only_at 3 algorithm.1
  signature ← bits_of string
  Some body.0

abbrev pub version_field_of : Option (List ℕ) → Option ℕ
version_field_of None = Some 0
version_field_of (Some bs) = version_at 2 bs >>= end_at

unfoldable pub validity_at : List ℕ → Option ((ℤ × ℤ) × List ℕ)
validity_at bs = do
  whole ← take_at 48 bs
  first ← time_at whole.0
  second ← time_at first.1
  end ← end_at second.1
  cond (int_le first.0 second.0) (Some ((first.0, second.0), whole.1)) None

abbrev pub unique_id_of : Option (List ℕ) → Option ℕ
unique_id_of None = Some 0
unique_id_of (Some bs) = bits_of bs >>= (λ bits. Some 0)

abbrev pub extensions_in : Option (List ℕ) → Option (List ℕ)
extensions_in None = Some []
extensions_in (Some bs) = only_at 48 bs >>= (λ body. first_at extension_of body >>= (λ found. Some (or_none found)))

-- serial number, times and what comes after them
pub record Head : Type 0 where
  pub serial : List ℕ
  pub times : ℤ × ℤ

abbrev pub head_shown : Front → Head
head_shown f = record { serial = f.serial.now; times = (f.validity.not_before, f.validity.not_after) }

unfoldable pub tbs_head_at : List ℕ → Option (Head × List ℕ)
tbs_head_at bs = do
  version ← optional_value_at 160 bs
  ok ← version_field_of version.0
  serial ← integer_at version.1
  signature ← algorithm_at serial.1
  issuer ← distinguished_name_at signature.1
  validity ← validity_at issuer.1
  Some (record { serial = serial.0; times = validity.0 }, validity.1)

-- the alternative names, after the key
unfoldable pub tail_at : List ℕ → Option (List ℕ)
tail_at bs = do
  issuer_id ← optional_value_at 129 bs
  first ← unique_id_of issuer_id.0
  subject_id ← optional_value_at 130 issuer_id.1
  second ← unique_id_of subject_id.0
  extensions ← optional_value_at 163 subject_id.1
  end ← end_at extensions.1
  extensions_in extensions.0

unfoldable pub tbs_certificate_at : List ℕ → Option CertificateFields
tbs_certificate_at bs = do
  head ← tbs_head_at bs
  subject ← distinguished_name_at head.1
  key ← spki_at subject.1
  alternative ← tail_at key.1
  Some (record { serial = head.0.serial; not_before = head.0.times.0; not_after = head.0.times.1; key = key.0; names = record { common = subject.0; alternative = alternative } })

unfoldable pub request_info_at : List ℕ → Option RequestFields
request_info_at bs = do
  rest ← version_at 0 bs
  subject ← distinguished_name_at rest
  key ← spki_at subject.1
  attributes ← only_at 160 key.1
  found ← first_at request_attribute_of attributes
  Some (record { key = key.0; names = record { common = subject.0; alternative = or_none found } })

-- a certificate
unfoldable pub certificate_fields_at : List ℕ → Option CertificateFields
certificate_fields_at bs = cond (nat_le (length bs) MAX_INPUT) (signed_at bs >>= tbs_certificate_at) None

-- a certification request
unfoldable pub request_fields_at : List ℕ → Option RequestFields
request_fields_at bs = cond (nat_le (length bs) MAX_INPUT) (signed_at bs >>= request_info_at) None
