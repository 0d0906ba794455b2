-- A certificate or a request that is read is in the grammar, and one of the grammar is read.
use Rattle.std.proofs.Common.{◌≡◌, ℕ, ℤ, Bool, true, false, leb, List, [], ◌∷◌, length, Option, Some, None, Result, Ok, Err, refl, sym, ap, subst, ◌∙◌, arith}
use Rattle.std.specs.Prelude.{◌↔◌, IfOk, IsErr, int_le, ◌≤ℤ◌}
use Rattle.std.proofs.lemmas.Bool.{leb-true, le-leb}
use borrow.Author.Differences.{le-false}
use Rattle.std.proofs.lemmas.Int.{ints}
use Rattle.cmc_der.specs.declared.fields.CertFields.{CertFields}
use Rattle.cmc_der.specs.declared.fields.CsrFields.{CsrFields}
use Rattle.cmc_der.specs.Values.{IsDerValue}
use Rattle.cmc_der.specs.Keys.{CertificateFields, RequestFields, cert_shown, csr_shown}
use Rattle.cmc_time.specs.TimeTexts.{asn1_seconds}
use Rattle.cmc_time.proofs.Asn1Laws.{asn1_found, asn1_again}
use Rattle.cmc_x509.specs.declared.taking.NotForm.{NotForm}
use Rattle.cmc_x509.specs.declared.taking.TheConstants.{MAX_INPUT}
use Rattle.cmc_x509.specs.Options.{Gives, BeginsWithOptional, ◌>>=◌, value_at, take_at, end_at, only_at, optional_value_at}
use Rattle.cmc_x509.specs.Lists.{IsValueList, first_at}
use Rattle.cmc_x509.specs.PublicKeys.{AlgorithmIdentifier, BeginsWithAlgorithm, BeginsWithInteger}
use Rattle.cmc_x509.specs.Names.{BeginsWithName, IsExtension, IsRequestAttribute}
use Rattle.cmc_x509.specs.Times.{BeginsWithTime, time_at}
use Rattle.cmc_x509.specs.Certificates.{IsSignedSequence, IsVersionField, BeginsWithValidity, IsUniqueId, or_none, AreExtensions, IsTbsCertificate, IsCertificate, IsRequestInfo, IsRequest}
use Rattle.cmc_x509.specs.ReadKeys.{algorithm_at, integer_at, version_at, bits_of, spki_at}
use Rattle.cmc_x509.specs.ReadNames.{distinguished_name_at, extension_of, request_attribute_of}
use Rattle.cmc_x509.specs.ReadCertificates.{signed_at, version_field_of, validity_at, unique_id_of, extensions_in, Head, tbs_head_at, tail_at, tbs_certificate_at, request_info_at, certificate_fields_at, request_fields_at}
use Rattle.cmc_x509.proofs.TakingLaws.{some, some_is, bind_some, guard_some, take_found, take_again, value_found, value_again, end_found, end_again, only_found, only_again, optional_found, optional_again, begins_from_whole, whole_from_begins}
use Rattle.cmc_x509.proofs.ListLaws.{list_found, list_again}
use Rattle.cmc_x509.proofs.NameLaws.{name_found, name_again, extension_found, extension_again, request_attribute_found, request_attribute_again, AreValues, extension_values, attribute_values}
use Rattle.cmc_x509.proofs.KeyLaws.{algorithm_found, algorithm_again, integer_found, integer_again, version_found, version_again, bits_found, bits_again, spki_front_found, spki_front_again}

-- ---- what is signed

signed_found : (bs body : List ℕ) → signed_at bs ≡ Some body → IsSignedSequence bs body
unfolding signed_at
signed_found bs body e =
    let p = bind_some (only_at 48 bs) _ body e in
    let b = bind_some (take_at 48 p.0) _ body p.2 in
    let a = bind_some (algorithm_at b.0.1) _ body b.2 in
    let s = bind_some (only_at 3 a.0.1) _ body a.2 in
    let g = bind_some (bits_of s.0) _ body s.2 in
    subst (λ (y : List ℕ). IsSignedSequence bs y) (some_is b.0.0 body g.2) (record {
      parts = p.0;
      r0 = b.0.1;
      r1 = a.0.1;
      algorithm = a.0.0;
      signature = g.0;
      whole = only_found 48 bs p.0 p.1;
      body_is = take_found 48 p.0 b.0 b.1;
      algorithm_is = algorithm_found b.0.1 a.0 a.1;
      signature_is = subst (λ (y : List ℕ). IsDerValue a.0.1 3 y) (bits_found s.0 g.0 g.1) (only_found 3 a.0.1 s.0 s.1);
    })

signed_again : (bs body : List ℕ) → IsSignedSequence bs body → signed_at bs ≡ Some body
unfolding signed_at
signed_again bs body h =
    rw (only_again 48 bs h.parts h.whole, take_again 48 h.parts body h.r0 h.body_is, algorithm_again h.r0 h.algorithm h.r1 h.algorithm_is, only_again 3 h.r1 (0 ∷ h.signature) h.signature_is, bits_again h.signature) refl

-- ---- times

abbrev Timed : Type 0
Timed = ℤ × List ℕ

time_found : (bs : List ℕ) (x : Timed) → time_at bs ≡ Some x → BeginsWithTime bs x.0 x.1
unfolding time_at
time_found bs x e =
    let v = bind_some (value_at bs) _ x e in
    let t = bind_some (asn1_seconds v.0.0 v.0.1) _ x v.2 in
    subst (λ (y : Timed). BeginsWithTime bs y.0 y.1) (some_is (t.0, v.0.2) x t.2) (v.0.0, v.0.1, value_found bs v.0 v.1, asn1_found v.0.0 v.0.1 t.0 t.1)

time_again : (bs : List ℕ) (at : ℤ) (rest : List ℕ) → BeginsWithTime bs at rest → time_at bs ≡ Some (at, rest)
unfolding time_at
time_again bs at rest h = rw (value_again bs h.0 h.1 rest h.2, asn1_again h.0 h.1 at h.3) refl

not_after_found : (a b : ℤ) → int_le a b ≡ true → a ≤ℤ b
not_after_found a b e = grind (arith, ints)

not_after_again : (a b : ℤ) → a ≤ℤ b → int_le a b ≡ true
not_after_again a b h = go (int_le a b) refl
  where
    go : (t : Bool) → int_le a b ≡ t → int_le a b ≡ true
    go true e = e
    go false e = absurd (omega (arith, ints, h, le-false a b e))

abbrev Times : Type 0
Times = (ℤ × ℤ) × List ℕ

validity_found : (bs : List ℕ) (x : Times) → validity_at bs ≡ Some x → BeginsWithValidity bs x.0.0 x.0.1 x.1
unfolding validity_at
validity_found bs x e =
    let w = bind_some (take_at 48 bs) _ x e in
    let f = bind_some (time_at w.0.0) _ x w.2 in
    let s = bind_some (time_at f.0.1) _ x f.2 in
    let n = bind_some (end_at s.0.1) _ x s.2 in
    let g = guard_some (int_le f.0.0 s.0.0) (Some ((f.0.0, s.0.0), w.0.1)) x n.2 in
    let last : BeginsWithTime f.0.1 s.0.0 [] = subst (λ (r : List ℕ). BeginsWithTime f.0.1 s.0.0 r) (end_found s.0.1 n.0 n.1) (time_found f.0.1 s.0 s.1) in
    subst (λ (y : Times). BeginsWithValidity bs y.0.0 y.0.1 y.1) (some_is ((f.0.0, s.0.0), w.0.1) x g.1)
    (record { body = w.0.0; inner = f.0.1; whole = take_found 48 bs w.0 w.1; first = time_found w.0.0 f.0 f.1; second = last; ordered = not_after_found f.0.0 s.0.0 g.0 })

validity_again : (bs : List ℕ) (a b : ℤ) (rest : List ℕ) → BeginsWithValidity bs a b rest → validity_at bs ≡ Some ((a, b), rest)
unfolding validity_at
validity_again bs a b rest h = rw (take_again 48 bs h.body rest h.whole, time_again h.body a h.inner h.first, time_again h.inner b [] h.second, end_again, not_after_again a b h.ordered) refl

-- ---- the parts of a TBSCertificate

version_in_found : (o : Option (List ℕ)) (n : ℕ) → version_field_of o ≡ Some n → IsVersionField o
version_in_found None n e = tt
version_in_found (Some bs) n e =
    let v = bind_some (version_at 2 bs) end_at n e in
    whole_from_begins bs 2 (2 ∷ []) v.0 (version_found 2 bs v.0 v.1) (end_found v.0 n v.2)

version_in_again : (o : Option (List ℕ)) → IsVersionField o → version_field_of o ≡ Some 0
version_in_again None h = refl
version_in_again (Some bs) h = rw (version_again 2 bs [] (begins_from_whole bs 2 (2 ∷ []) h)) end_again

unique_found : (o : Option (List ℕ)) (n : ℕ) → unique_id_of o ≡ Some n → IsUniqueId o
unique_found None n e = tt
unique_found (Some bs) n e = let b = bind_some (bits_of bs) _ n e in (b.0, bits_found bs b.0 b.1)

unique_again : (o : Option (List ℕ)) → IsUniqueId o → unique_id_of o ≡ Some 0
unique_again None h = refl
unique_again (Some bs) h = rw (h.1, bits_again h.0) refl

extensions_found : (o : Option (List ℕ)) (names : List ℕ) → extensions_in o ≡ Some names → AreExtensions o names
extensions_found None names e = sym (some_is [] names e)
extensions_found (Some bs) names e =
    let b = bind_some (only_at 48 bs) _ names e in
    let f = bind_some (first_at extension_of b.0) _ names b.2 in
    (b.0, f.0, only_found 48 bs b.0 b.1, list_found extension_of IsExtension extension_found b.0 f.0 f.1, sym (some_is (or_none f.0) names f.2))

extensions_again : (o : Option (List ℕ)) (names : List ℕ) → AreExtensions o names → extensions_in o ≡ Some names
extensions_again None names h = ap some (sym h)
extensions_again (Some bs) names h = rw (only_again 48 bs h.0 h.2, list_again extension_of IsExtension extension_again h.0 h.1 h.3, h.4) refl

-- before the subject
record IsHead (octets : List ℕ) (h : Head) (rest : List ℕ) : Type 0 where
  pub r0 : List ℕ
  pub r1 : List ℕ
  pub r2 : List ℕ
  pub r3 : List ℕ
  pub version : Option (List ℕ)
  pub signature : AlgorithmIdentifier
  pub issuer : Option (List ℕ)
  pub version_stands : BeginsWithOptional octets 160 version r0
  pub version_is : IsVersionField version
  pub serial_is : BeginsWithInteger r0 h.serial r1
  pub signature_is : BeginsWithAlgorithm r1 signature r2
  pub issuer_is : BeginsWithName r2 issuer r3
  pub validity_is : BeginsWithValidity r3 h.times.0 h.times.1 rest

abbrev Headed : Type 0
Headed = Head × List ℕ

head_found : (bs : List ℕ) (x : Headed) → tbs_head_at bs ≡ Some x → IsHead bs x.0 x.1
unfolding tbs_head_at
head_found bs x e =
    let v = bind_some (optional_value_at 160 bs) _ x e in
    let k = bind_some (version_field_of v.0.0) _ x v.2 in
    let s = bind_some (integer_at v.0.1) _ x k.2 in
    let a = bind_some (algorithm_at s.0.1) _ x s.2 in
    let i = bind_some (distinguished_name_at a.0.1) _ x a.2 in
    let t = bind_some (validity_at i.0.1) _ x i.2 in
    subst (λ (y : Headed). IsHead bs y.0 y.1) (some_is _ x t.2) (record {
      r0 = v.0.1;
      r1 = s.0.1;
      r2 = a.0.1;
      r3 = i.0.1;
      version = v.0.0;
      signature = a.0.0;
      issuer = i.0.0;
      version_stands = optional_found 160 bs v.0 v.1;
      version_is = version_in_found v.0.0 k.0 k.1;
      serial_is = integer_found v.0.1 s.0 s.1;
      signature_is = algorithm_found s.0.1 a.0 a.1;
      issuer_is = name_found a.0.1 i.0 i.1;
      validity_is = validity_found i.0.1 t.0 t.1;
    })

-- behind the key
record IsTail (octets alternative : List ℕ) : Type 0 where
  pub r7 : List ℕ
  pub r8 : List ℕ
  pub issuer_id : Option (List ℕ)
  pub subject_id : Option (List ℕ)
  pub extensions : Option (List ℕ)
  pub issuer_id_stands : BeginsWithOptional octets 129 issuer_id r7
  pub issuer_id_is : IsUniqueId issuer_id
  pub subject_id_stands : BeginsWithOptional r7 130 subject_id r8
  pub subject_id_is : IsUniqueId subject_id
  pub extensions_stand : BeginsWithOptional r8 163 extensions []
  pub extensions_are : AreExtensions extensions alternative

tail_found : (bs names : List ℕ) → tail_at bs ≡ Some names → IsTail bs names
unfolding tail_at
tail_found bs names e =
    let i = bind_some (optional_value_at 129 bs) _ names e in
    let j = bind_some (unique_id_of i.0.0) _ names i.2 in
    let s = bind_some (optional_value_at 130 i.0.1) _ names j.2 in
    let t = bind_some (unique_id_of s.0.0) _ names s.2 in
    let x = bind_some (optional_value_at 163 s.0.1) _ names t.2 in
    let n = bind_some (end_at x.0.1) _ names x.2 in
    let last : BeginsWithOptional s.0.1 163 x.0.0 [] = subst (λ (r : List ℕ). BeginsWithOptional s.0.1 163 x.0.0 r) (end_found x.0.1 n.0 n.1) (optional_found 163 s.0.1 x.0 x.1) in
    record {
      r7 = i.0.1;
      r8 = s.0.1;
      issuer_id = i.0.0;
      subject_id = s.0.0;
      extensions = x.0.0;
      issuer_id_stands = optional_found 129 bs i.0 i.1;
      issuer_id_is = unique_found i.0.0 j.0 j.1;
      subject_id_stands = optional_found 130 i.0.1 s.0 s.1;
      subject_id_is = unique_found s.0.0 t.0 t.1;
      extensions_stand = last;
      extensions_are = extensions_found x.0.0 names n.2;
    }

tbs_found : (bs : List ℕ) (c : CertificateFields) → tbs_certificate_at bs ≡ Some c → IsTbsCertificate bs c
unfolding tbs_certificate_at
tbs_found bs c e =
    let h = bind_some (tbs_head_at bs) _ c e in
    let s = bind_some (distinguished_name_at h.0.1) _ c h.2 in
    let k = bind_some (spki_at s.0.1) _ c s.2 in
    let t = bind_some (tail_at k.0.1) _ c k.2 in
    let head = head_found bs h.0 h.1 in
    let tail = tail_found k.0.1 t.0 t.1 in
    subst (λ (y : CertificateFields). IsTbsCertificate bs y) (some_is _ c t.2) (record {
      r0 = head.r0;
      r1 = head.r1;
      r2 = head.r2;
      r3 = head.r3;
      r4 = h.0.1;
      r5 = s.0.1;
      r6 = k.0.1;
      r7 = tail.r7;
      r8 = tail.r8;
      version = head.version;
      signature = head.signature;
      issuer = head.issuer;
      issuer_id = tail.issuer_id;
      subject_id = tail.subject_id;
      extensions = tail.extensions;
      version_stands = head.version_stands;
      version_is = head.version_is;
      serial_is = head.serial_is;
      signature_is = head.signature_is;
      issuer_is = head.issuer_is;
      validity_is = head.validity_is;
      subject_is = name_found h.0.1 s.0 s.1;
      key_is = spki_front_found s.0.1 k.0 k.1;
      issuer_id_stands = tail.issuer_id_stands;
      issuer_id_is = tail.issuer_id_is;
      subject_id_stands = tail.subject_id_stands;
      subject_id_is = tail.subject_id_is;
      extensions_stand = tail.extensions_stand;
      extensions_are = tail.extensions_are;
    })

head_again : (bs : List ℕ) (c : CertificateFields) (h : IsTbsCertificate bs c) → tbs_head_at bs ≡ Some (record { serial = c.serial; times = (c.not_before, c.not_after) }, h.r4)
unfolding tbs_head_at
head_again bs c h =
    rw (
      optional_again 160 bs h.version h.r0 h.version_stands,
      version_in_again h.version h.version_is,
      integer_again h.r0 c.serial h.r1 h.serial_is,
      algorithm_again h.r1 h.signature h.r2 h.signature_is,
      name_again h.r2 h.issuer h.r3 h.issuer_is,
      validity_again h.r3 c.not_before c.not_after h.r4 h.validity_is,
    ) refl

tail_again : (bs : List ℕ) (c : CertificateFields) (h : IsTbsCertificate bs c) → tail_at h.r6 ≡ Some c.names.alternative
unfolding tail_at
tail_again bs c h =
    rw (
      optional_again 129 h.r6 h.issuer_id h.r7 h.issuer_id_stands,
      unique_again h.issuer_id h.issuer_id_is,
      optional_again 130 h.r7 h.subject_id h.r8 h.subject_id_stands,
      unique_again h.subject_id h.subject_id_is,
      optional_again 163 h.r8 h.extensions [] h.extensions_stand,
      end_again,
    ) (extensions_again h.extensions c.names.alternative h.extensions_are)

tbs_again : (bs : List ℕ) (c : CertificateFields) → IsTbsCertificate bs c → tbs_certificate_at bs ≡ Some c
unfolding tbs_certificate_at
tbs_again bs c h = rw (head_again bs c h, name_again h.r4 c.names.common h.r5 h.subject_is, spki_front_again h.r5 c.key h.r6 h.key_is, tail_again bs c h) refl

pub certificate_found : (bs : List ℕ) (c : CertificateFields) → certificate_fields_at bs ≡ Some c → IsCertificate bs c
unfolding certificate_fields_at
certificate_found bs c e =
    let g = guard_some (leb (length bs) MAX_INPUT) (signed_at bs >>= tbs_certificate_at) c e in
    let b = bind_some (signed_at bs) tbs_certificate_at c g.1 in
    record { within = leb-true (length bs) MAX_INPUT g.0; body = b.0; signed = signed_found bs b.0 b.1; is = tbs_found b.0 c b.2 }

pub certificate_again : (bs : List ℕ) (c : CertificateFields) → IsCertificate bs c → certificate_fields_at bs ≡ Some c
unfolding certificate_fields_at
certificate_again bs c h = rw (le-leb (length bs) MAX_INPUT h.within, signed_again bs h.body h.signed) (tbs_again h.body c h.is)

-- ---- requests

info_found : (bs : List ℕ) (c : RequestFields) → request_info_at bs ≡ Some c → IsRequestInfo bs c
unfolding request_info_at
info_found bs c e =
    let v = bind_some (version_at 0 bs) _ c e in
    let s = bind_some (distinguished_name_at v.0) _ c v.2 in
    let k = bind_some (spki_at s.0.1) _ c s.2 in
    let a = bind_some (only_at 160 k.0.1) _ c k.2 in
    let f = bind_some (first_at request_attribute_of a.0) _ c a.2 in
    subst (λ (y : RequestFields). IsRequestInfo bs y) (some_is _ c f.2) (record {
      r0 = v.0;
      r1 = s.0.1;
      r2 = k.0.1;
      attributes = a.0;
      found = f.0;
      version = version_found 0 bs v.0 v.1;
      subject_is = name_found v.0 s.0 s.1;
      key_is = spki_front_found s.0.1 k.0 k.1;
      attributes_stand = only_found 160 k.0.1 a.0 a.1;
      attributes_are = list_found request_attribute_of IsRequestAttribute request_attribute_found a.0 f.0 f.1;
      alternative_is = refl;
    })

info_again : (bs : List ℕ) (c : RequestFields) → IsRequestInfo bs c → request_info_at bs ≡ Some c
unfolding request_info_at
info_again bs c h =
    rw (
      version_again 0 bs h.r0 h.version,
      name_again h.r0 c.names.common h.r1 h.subject_is,
      spki_front_again h.r1 c.key h.r2 h.key_is,
      only_again 160 h.r2 h.attributes h.attributes_stand,
      list_again request_attribute_of IsRequestAttribute request_attribute_again h.attributes h.found h.attributes_are,
      ← h.alternative_is,
    ) refl

pub request_found : (bs : List ℕ) (c : RequestFields) → request_fields_at bs ≡ Some c → IsRequest bs c
unfolding request_fields_at
request_found bs c e =
    let g = guard_some (leb (length bs) MAX_INPUT) (signed_at bs >>= request_info_at) c e in
    let b = bind_some (signed_at bs) request_info_at c g.1 in
    record { within = leb-true (length bs) MAX_INPUT g.0; body = b.0; signed = signed_found bs b.0 b.1; is = info_found b.0 c b.2 }

pub request_again : (bs : List ℕ) (c : RequestFields) → IsRequest bs c → request_fields_at bs ≡ Some c
unfolding request_fields_at
request_again bs c h = rw (le-leb (length bs) MAX_INPUT h.within, signed_again bs h.body h.signed) (info_again h.body c h.is)

-- ---- alternative names are a list of values

or_none_values : (found : Option (List ℕ)) → AreValues found → IsValueList (or_none found)
or_none_values None h = ([], refl)
or_none_values (Some names) h = h

extensions_names : (o : Option (List ℕ)) (names : List ℕ) → AreExtensions o names → IsValueList names
extensions_names None names h = subst IsValueList (sym h) ([], refl)
extensions_names (Some bs) names h = subst IsValueList (sym h.4) (or_none_values h.1 (extension_values h.0 h.1 h.3))

pub certificate_names : (bs : List ℕ) (c : CertificateFields) → IsCertificate bs c → IsValueList c.names.alternative
certificate_names bs c h = extensions_names h.is.extensions c.names.alternative h.is.extensions_are

pub request_names : (bs : List ℕ) (c : RequestFields) → IsRequest bs c → IsValueList c.names.alternative
request_names bs c h = subst IsValueList (sym h.is.alternative_is) (or_none_values h.is.found (attribute_values h.is.attributes h.is.found h.is.attributes_are))

-- ---- what the code answers

pub cert_answer_found : (r : Result CertFields NotForm) (bs : List ℕ) → Gives cert_shown r (certificate_fields_at bs) → IfOk r (λ c. IsCertificate bs (cert_shown c))
cert_answer_found (Ok c) bs e = certificate_found bs (cert_shown c) e
cert_answer_found (Err d) bs e = tt

pub cert_answer_only : (r : Result CertFields NotForm) (bs : List ℕ) → Gives cert_shown r (certificate_fields_at bs) → (c : CertificateFields) → IsCertificate bs c → Gives cert_shown r (Some c)
cert_answer_only r bs e c h = rw (certificate_again bs c h) at e

pub csr_answer_found : (r : Result CsrFields NotForm) (bs : List ℕ) → Gives csr_shown r (request_fields_at bs) → IfOk r (λ c. IsRequest bs (csr_shown c))
csr_answer_found (Ok c) bs e = request_found bs (csr_shown c) e
csr_answer_found (Err d) bs e = tt

pub csr_answer_only : (r : Result CsrFields NotForm) (bs : List ℕ) → Gives csr_shown r (request_fields_at bs) → (c : RequestFields) → IsRequest bs c → Gives csr_shown r (Some c)
csr_answer_only r bs e c h = rw (request_again bs c h) at e

pub cert_answer_names : (r : Result CertFields NotForm) (bs : List ℕ) → Gives cert_shown r (certificate_fields_at bs) → IfOk r (λ c. IsValueList c.names.alternative.now)
cert_answer_names (Ok c) bs e = certificate_names bs (cert_shown c) (certificate_found bs (cert_shown c) e)
cert_answer_names (Err d) bs e = tt

pub csr_answer_names : (r : Result CsrFields NotForm) (bs : List ℕ) → Gives csr_shown r (request_fields_at bs) → IfOk r (λ c. IsValueList c.names.alternative.now)
csr_answer_names (Ok c) bs e = request_names bs (csr_shown c) (request_found bs (csr_shown c) e)
csr_answer_names (Err d) bs e = tt

abbrev one : {A : Type 0} → A → Option A
one x = Some x

abbrev nothing : {A : Type 0} → Option A
nothing = None

none_is_not : {A : Type 0} (x : A) (r : Option A) → r ≡ nothing → r ≡ one x → ⊥
none_is_not x r e f = let z : nothing ≡ one x = sym e ∙ f in cc

pub cert_answer_refused : (r : Result CertFields NotForm) (bs : List ℕ) → Gives cert_shown r (certificate_fields_at bs) → IsErr r ↔ ((c : CertificateFields) → IsCertificate bs c → ⊥)
cert_answer_refused (Ok c) bs e = (λ h. absurd cc, λ h. absurd (h (cert_shown c) (certificate_found bs (cert_shown c) e)))
cert_answer_refused (Err d) bs e = (λ h c k. none_is_not c (certificate_fields_at bs) e (certificate_again bs c k), λ h. refl)

pub csr_answer_refused : (r : Result CsrFields NotForm) (bs : List ℕ) → Gives csr_shown r (request_fields_at bs) → IsErr r ↔ ((c : RequestFields) → IsRequest bs c → ⊥)
csr_answer_refused (Ok c) bs e = (λ h. absurd cc, λ h. absurd (h (csr_shown c) (request_found bs (csr_shown c) e)))
csr_answer_refused (Err d) bs e = (λ h c k. none_is_not c (request_fields_at bs) e (request_again bs c k), λ h. refl)
