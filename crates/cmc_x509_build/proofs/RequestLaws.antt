-- The request that is built is read with the fields that it was built of.
use Rattle.std.proofs.Common.{◌≡◌, ℕ, List, [], ◌∷◌, ◌++◌, None, refl, arith}
use Rattle.cmc_der.specs.Values.{IsDerValue}
use Rattle.cmc_der.specs.Builders.{value}
use Rattle.cmc_der.specs.Keys.{PublicKey, RequestFields}
use Rattle.cmc_x509.specs.Lists.{IsValueList}
use Rattle.cmc_x509.specs.PublicKeys.{BeginsWithAlgorithm}
use Rattle.cmc_x509.specs.Certificates.{IsSignedSequence, IsRequest, or_none}
use Rattle.cmc_x509_build.specs.declared.oids.TheConstants.{ECDSA_WITH_SHA256}
use Rattle.cmc_x509_build.specs.declared.requests.NameSet.{NameSet}
use Rattle.cmc_x509_build.specs.Keys.{IsWritable}
use Rattle.cmc_x509_build.specs.Octets.{signature_algorithm, signed_octets, name_octets, spki_octets}
use Rattle.cmc_x509_build.specs.Requests.{attributes_of, request_body, IsRequestBody, names_of}
use Rattle.cmc_der.proofs.SmallValues.{IsSmall, contents_small, front_small, back_small, value_is, value_first, value_last}
use Rattle.cmc_x509_build.proofs.BuiltKeyLaws.{spki_first}
use Rattle.cmc_x509_build.proofs.BuiltNameLaws.{name_first, alternative_values, names_found, attributes_list, names_small}

names_or_none : (names : List ℕ) → names ≡ or_none (names_found names)
names_or_none [] = refl
names_or_none (b ∷ bs) = refl

pub request_body_is : (fields : RequestFields) → IsWritable fields.key → IsValueList fields.names.alternative → IsSmall (request_body fields) → IsRequestBody (request_body fields) fields
unfolding request_body
request_body_is fields writable are small =
    let attributes = attributes_of fields.names.alternative in
    let tail = value 160 attributes in
    let after_subject = spki_octets fields.key ++ tail in
    let after_version = name_octets fields.names.common ++ after_subject in
    let contents = value 2 (0 ∷ []) ++ after_version in
    let inside = contents_small 48 contents small in
    let subject_small = back_small (value 2 (0 ∷ [])) after_version inside in
    let key_small = back_small (name_octets fields.names.common) after_subject subject_small in
    let tail_small = back_small (spki_octets fields.key) tail key_small in (
      contents,
      value_is 48 contents (λ e. omega arith) small,
      record {
        r0 = after_version;
        r1 = after_subject;
        r2 = tail;
        attributes = attributes;
        found = names_found fields.names.alternative;
        version = value_first 2 (0 ∷ []) after_version (λ e. omega arith) inside;
        subject_is = name_first fields.names.common after_subject subject_small;
        key_is = spki_first fields.key tail writable key_small;
        attributes_stand = value_is 160 attributes (λ e. omega arith) tail_small;
        attributes_are = attributes_list fields.names.alternative are (contents_small 160 attributes tail_small);
        alternative_is = names_or_none fields.names.alternative;
      },
    )

-- the algorithm of signatures, with no parameter
pub signature_algorithm_is : (rest : List ℕ) → IsSmall (signature_algorithm ++ rest) → BeginsWithAlgorithm (signature_algorithm ++ rest) (record { oid = ECDSA_WITH_SHA256; parameter = None }) rest
signature_algorithm_is rest small =
    let inside = contents_small 48 (value 6 ECDSA_WITH_SHA256) (front_small signature_algorithm rest small) in
    record {
      body = value 6 ECDSA_WITH_SHA256;
      inner = [];
      whole = value_first 48 (value 6 ECDSA_WITH_SHA256) rest (λ e. omega arith) small;
      algorithm = value_last 6 ECDSA_WITH_SHA256 (λ e. omega arith) inside;
      parameters = refl;
    }

-- a body and its signature
pub signed_is : (body contents signature : List ℕ) → IsDerValue body 48 contents → IsSmall (signed_octets body signature) → IsSignedSequence (signed_octets body signature) contents
unfolding signed_octets
signed_is body contents signature h small =
    let string = value 3 (0 ∷ signature) in
    let rest = signature_algorithm ++ string in
    let parts = body ++ rest in
    let inside = contents_small 48 parts small in
    let rest_small = back_small body rest inside in
    record {
      parts = parts;
      r0 = rest;
      r1 = string;
      algorithm = record { oid = ECDSA_WITH_SHA256; parameter = None };
      signature = signature;
      whole = value_is 48 parts (λ e. omega arith) small;
      body_is = (body, h, refl);
      algorithm_is = signature_algorithm_is string rest_small;
      signature_is = value_is 3 (0 ∷ signature) (λ e. omega arith) (back_small signature_algorithm string rest_small);
    }

pub request_is : (body signature : List ℕ) (fields : RequestFields) → IsRequestBody body fields → IsSmall (signed_octets body signature) → IsRequest (signed_octets body signature) fields
request_is body signature fields h small =
    record { within = small; body = h.0; signed = signed_is body h.0 signature h.1 small; is = h.2 }

-- the alternative names stand within the body
alternative_small : (fields : RequestFields) → IsSmall (request_body fields) → IsSmall fields.names.alternative
unfolding request_body
alternative_small fields small =
    let attributes = attributes_of fields.names.alternative in
    let tail = value 160 attributes in
    let after_subject = spki_octets fields.key ++ tail in
    let after_version = name_octets fields.names.common ++ after_subject in
    let inside = contents_small 48 (value 2 (0 ∷ []) ++ after_version) small in
    let key_small = back_small (name_octets fields.names.common) after_subject (back_small (value 2 (0 ∷ [])) after_version inside) in
    names_small fields.names.alternative (contents_small 160 attributes (back_small (spki_octets fields.key) tail key_small))

-- of a set of names
pub built_body_is : (key : PublicKey) (names : NameSet) → IsWritable key → IsSmall (request_body (record { key = key; names = names_of names })) → IsRequestBody (request_body (record { key = key; names = names_of names })) (record { key = key; names = names_of names })
built_body_is key names writable small =
    request_body_is (record { key = key; names = names_of names }) writable (alternative_values names (alternative_small (record { key = key; names = names_of names }) small)) small
