-- The tests of matching say what they are to say.
use Rattle.std.proofs.Common.{◌≡◌, ℕ, Bool, true, false, List, [], ◌∷◌, Option, Some, None, refl, sym, ap, subst, ◌∙◌, arith, inl, inr}
use Rattle.std.specs.Prelude.{◌↔◌, IsTrue, Contains}
use Rattle.std.specs.List.{cons_option}
use Rattle.std.proofs.lemmas.Bool.{eqb-true, eq-eqb, false≢true, and_from, and_parts}
use Rattle.std.proofs.lemmas.Slice.Eq.{bytes_eq-Decides}
use Rattle.cmc_der.specs.Keys.{PublicKey, RequestFields, SubjectNames}
use Rattle.cmc_x509.specs.Options.{Value}
use Rattle.cmc_x509.specs.Lists.{IsValues, IsValueList}
use Rattle.cmc_x509.specs.Certificates.{IsRequest}
use Rattle.cmc_x509.specs.ReadCertificates.{request_fields_at}
use Rattle.cmc_x509.specs.KeyFiles.{IsKeyFile}
use Rattle.cmc_x509.specs.ReadKeys.{key_file_at}
use Rattle.cmc_x509.proofs.CertificateLaws.{request_found, request_again}
use Rattle.cmc_x509.proofs.FileLaws.{key_file_found, key_file_again}
use Rattle.cmc_x509_build.specs.Addresses.{IsAddress, address_at}
use Rattle.cmc_x509_build.proofs.AddressLaws.{address_found, address_again}
use Rattle.cmc_x509_build.proofs.ServeLaws.{request_serves}
use Rattle.cmc_objects.specs.declared.issuer.IssuerRef.{IssuerRef}
use Rattle.cmc_objects.specs.declared.certificate.CertSpec.{CertSpec}
use Rattle.cmc_objects.specs.declared.request.RequestSpec.{RequestSpec}
use Rattle.cmc_objects.specs.declared.request.CertificateRequest.{CertificateRequest}
use Rattle.cmc_objects.specs.Defaults.{certificate_duration}
use Rattle.cmc_objects.proofs.KeyLaws.{key_found, key_itself}
use Rattle.cmc_match.specs.Sets.{IsSameSet}
use Rattle.cmc_match.specs.SubjectNames.{names_tagged, addresses, Writes, HasSubjectNames, values_of, addresses_written, has_names}
use Rattle.cmc_match.specs.Matches.{IsSameIssuer, Matches, HasKey, is_same_issuer, is_same_flag, has_terms, asks_for_names, matches, is_one_of, has_key}
use Rattle.cmc_match.proofs.SetLaws.{contains_here, contains_later, contains_cases, sets}
use Rattle.cmc_match.proofs.NameLaws.{values_are}

abbrev some : {A : Type 0} → A → Option A
some x = Some x

-- ---- addresses that texts write

in_option : (o : Option (List ℕ)) (others : List (List ℕ)) (octets : List ℕ) → Contains others octets → Contains (cons_option o others) octets
in_option None others octets h = h
in_option (Some x) others octets h = contains_later x octets others h

first_writes : (text : List ℕ) (texts others : List (List ℕ)) (octets : List ℕ) (o : Option (List ℕ)) → address_at text ≡ o → (Contains others octets → Writes texts octets) → Contains (cons_option o others) octets → Writes (text ∷ texts) octets
first_writes text texts others octets None e rest h =
    let w = rest h in
    (w.0, contains_later text w.0 texts w.1, w.2)
first_writes text texts others octets (Some x) e rest h =
    elim (contains_cases x octets others h) [
      | inl same ↦ (text, contains_here text texts, address_found text octets (e ∙ ap some same))
      | inr later ↦ let w = rest later in (w.0, contains_later text w.0 texts w.1, w.2)
    ]

writes_found : (texts : List (List ℕ)) (octets : List ℕ) → Contains (addresses_written texts) octets → Writes texts octets
writes_found [] octets h = absurd (no_text octets h)
  where
    no_text : (octets : List ℕ) → Contains [] octets → ⊥
    no_text octets h = omega (arith, h.1)
writes_found (text ∷ texts) octets h = first_writes text texts (addresses_written texts) octets (address_at text) refl (writes_found texts octets) h

writes_again : (texts : List (List ℕ)) (octets text : List ℕ) → Contains texts text → IsAddress text octets → Contains (addresses_written texts) octets
writes_again [] octets text c h = absurd (omega (arith, c.1))
writes_again (first ∷ texts) octets text c h =
    elim (contains_cases first text texts c) [
      | inl same ↦ rw (same, address_again text octets h) (contains_here octets (addresses_written texts))
      | inr later ↦ in_option (address_at first) (addresses_written texts) octets (writes_again texts octets text later h)
    ]

-- ---- names

names_found : (spec : CertSpec) (names : SubjectNames) → IsValueList names.alternative → has_names spec names ≡ true → HasSubjectNames spec names
unfolding has_names
names_found spec names list h =
    let values = values_of names.alternative in
    let P : List Value → Type 0 = λ vs. IsValues names.alternative vs in
    let all = (and_parts _ _ h).1 in
    let others = (and_parts _ _ all).1 in
    let last = (and_parts _ _ others).1 in
    let same_addresses = (sets (addresses_written spec.ip_addresses) (addresses values)).0 (and_parts _ _ others).0 in
    record {
      values = values;
      are = subst P (sym (values_are names.alternative list.0 list.1)) list.1;
      common = (bytes_eq-Decides _ _).0 (and_parts _ _ h).0;
      dns = (sets spec.dns_names (names_tagged 130 values)).0 (and_parts _ _ all).0;
      ips = λ octets. (λ w. (same_addresses octets).0 (writes_again spec.ip_addresses octets w.0 w.1 w.2), λ c. writes_found spec.ip_addresses octets ((same_addresses octets).1 c));
      uris = (sets spec.uris (names_tagged 134 values)).0 (and_parts _ _ last).0;
      emails = (sets spec.emails (names_tagged 129 values)).0 (and_parts _ _ last).1;
    }

names_again : (spec : CertSpec) (names : SubjectNames) → HasSubjectNames spec names → has_names spec names ≡ true
unfolding has_names
names_again spec names h =
    let same = values_are names.alternative h.values h.are in
    let given = λ (octets : List ℕ) (c : Contains (addresses_written spec.ip_addresses) octets). (h.ips octets).0 (writes_found spec.ip_addresses octets c) in
    let asked = λ (octets : List ℕ) (c : Contains (addresses h.values) octets). let w = (h.ips octets).1 c in writes_again spec.ip_addresses octets w.0 w.1 w.2 in
    rw same
    (and_from _ _ ((bytes_eq-Decides _ _).1 h.common)
    (and_from _ _ ((sets spec.dns_names (names_tagged 130 h.values)).1 h.dns)
    (and_from _ _ ((sets (addresses_written spec.ip_addresses) (addresses h.values)).1 (λ octets. (given octets, asked octets)))
    (and_from _ _ ((sets spec.uris (names_tagged 134 h.values)).1 h.uris) ((sets spec.emails (names_tagged 129 h.values)).1 h.emails)))))

-- ---- the other terms

flag_found : (left right : Bool) → is_same_flag left right ≡ true → left ≡ right
flag_found true right h = sym h
flag_found false true h = absurd (false≢true h)
flag_found false false h = refl

flag_again : (left right : Bool) → left ≡ right → is_same_flag left right ≡ true
flag_again true right h = sym h
flag_again false right h = rw (← h) refl

issuer_found : (left right : IssuerRef) → is_same_issuer left right ≡ true → IsSameIssuer left right
issuer_found left right h =
    let rest = (and_parts _ _ h).1 in
    record { name = (bytes_eq-Decides _ _).0 (and_parts _ _ h).0; kind = (bytes_eq-Decides _ _).0 (and_parts _ _ rest).0; group = (bytes_eq-Decides _ _).0 (and_parts _ _ rest).1 }

issuer_again : (left right : IssuerRef) → IsSameIssuer left right → is_same_issuer left right ≡ true
issuer_again left right h = and_from _ _ ((bytes_eq-Decides _ _).1 h.name) (and_from _ _ ((bytes_eq-Decides _ _).1 h.kind) ((bytes_eq-Decides _ _).1 h.group))

record HasTerms (spec : CertSpec) (request : RequestSpec) : Type 0 where
  pub issuer : IsSameIssuer spec.issuer request.issuer
  pub duration : certificate_duration spec.duration ≡ certificate_duration request.duration
  pub is_ca : spec.is_ca ≡ request.is_ca
  pub usages : IsSameSet spec.usages request.usages

terms_found : (spec : CertSpec) (request : RequestSpec) → has_terms spec request ≡ true → HasTerms spec request
unfolding has_terms
terms_found spec request h =
    let rest = (and_parts _ _ h).1 in
    let last = (and_parts _ _ rest).1 in
    record {
      issuer = issuer_found spec.issuer request.issuer (and_parts _ _ h).0;
      duration = eqb-true _ _ (and_parts _ _ rest).0;
      is_ca = flag_found spec.is_ca request.is_ca (and_parts _ _ last).0;
      usages = (sets spec.usages request.usages).0 (and_parts _ _ last).1;
    }

terms_again : (spec : CertSpec) (request : RequestSpec) → HasTerms spec request → has_terms spec request ≡ true
unfolding has_terms
terms_again spec request h =
    and_from _ _ (issuer_again spec.issuer request.issuer h.issuer)
    (and_from _ _ (eq-eqb _ _ h.duration)
    (and_from _ _ (flag_again spec.is_ca request.is_ca h.is_ca) ((sets spec.usages request.usages).1 h.usages)))

-- ---- requests

record AsksForNames (spec : CertSpec) (octets : List ℕ) : Type 0 where
  pub fields : RequestFields
  pub readable : IsRequest octets fields
  pub names : HasSubjectNames spec fields.names

asked_found : (spec : CertSpec) (octets : List ℕ) (read : Option RequestFields) → request_fields_at octets ≡ read → asks_for_names spec read ≡ true → AsksForNames spec octets
asked_found spec octets None e h = absurd (false≢true h)
asked_found spec octets (Some fields) e h =
    let readable = request_found octets fields e in
    record { fields = fields; readable = readable; names = names_found spec fields.names (request_serves octets fields readable).0 h }

asked_again : (spec : CertSpec) (octets : List ℕ) (fields : RequestFields) → IsRequest octets fields → HasSubjectNames spec fields.names → asks_for_names spec (request_fields_at octets) ≡ true
asked_again spec octets fields readable h = rw (request_again octets fields readable) (names_again spec fields.names h)

pub matching : (spec : CertSpec) (request : CertificateRequest) → IsTrue (matches spec request) ↔ Matches spec request
unfolding matches
matching spec request =
    (λ h. joined (asked_found spec request.spec.request (request_fields_at request.spec.request) refl (and_parts _ _ h).0) (terms_found spec request.spec (and_parts _ _ h).1), λ h. and_from _ _ (asked_again spec request.spec.request h.fields h.readable h.names) (terms_again spec request.spec (record { issuer = h.issuer; duration = h.duration; is_ca = h.is_ca; usages = h.usages })))
  where
    joined : AsksForNames spec request.spec.request → HasTerms spec request.spec → Matches spec request
    joined a t = record { fields = a.fields; readable = a.readable; names = a.names; issuer = t.issuer; duration = t.duration; is_ca = t.is_ca; usages = t.usages }

-- ---- public keys

has_key_found : (request : CertificateRequest) (file : List ℕ) (key : Option PublicKey) (read : Option RequestFields) → key_file_at file ≡ key → request_fields_at request.spec.request ≡ read → is_one_of key read ≡ true → HasKey request file
has_key_found request file None read e f h = absurd (false≢true h)
has_key_found request file (Some key) None e f h = absurd (false≢true h)
has_key_found request file (Some key) (Some fields) e f h =
    let P : PublicKey → Type 0 = λ k. IsKeyFile file k in
    record { fields = fields; readable = request_found request.spec.request fields f; key_is = subst P (key_found key fields.key h) (key_file_found file key e) }

pub keys_match : (request : CertificateRequest) (file : List ℕ) → IsTrue (has_key request file) ↔ HasKey request file
unfolding has_key
keys_match request file =
    (λ h. has_key_found request file (key_file_at file) (request_fields_at request.spec.request) refl refl h, λ h. rw (key_file_again file h.fields.key h.key_is, request_again request.spec.request h.fields h.readable) (key_itself h.fields.key))
