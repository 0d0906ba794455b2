-- The specs that are printed are read again.
use Rattle.std.proofs.Common.{◌≡◌, ℕ, List, [], ◌∷◌, Option, Some, None, Ok, refl, ap, sym, ◌∙◌, drop}
use Rattle.std.specs.Prelude.{codes, IfSome}
use Rattle.serde_json.specs.Data.{Data, string, object, Members, no_members, member}
use Rattle.cmc_objects.specs.declared.issuer.IssuerRef.{IssuerRef}
use Rattle.cmc_objects.specs.declared.key_spec.Algorithm.{Algorithm}
use Rattle.cmc_objects.specs.declared.key_spec.Algorithm.TheVariants.{Rsa, Ecdsa}
use Rattle.cmc_objects.specs.declared.key_spec.Encoding.{Encoding}
use Rattle.cmc_objects.specs.declared.key_spec.Encoding.TheVariants.{Pkcs1, Pkcs8}
use Rattle.cmc_objects.specs.declared.key_spec.Rotation.{Rotation}
use Rattle.cmc_objects.specs.declared.key_spec.Rotation.TheVariants.{Always, Never}
use Rattle.cmc_objects.specs.declared.key_spec.KeySpec.{KeySpec}
use Rattle.cmc_objects.specs.declared.certificate.CertSpec.{CertSpec}
use Rattle.cmc_objects.specs.declared.request.RequestSpec.{RequestSpec}
use Rattle.cmc_cursor.specs.Members.{Field, fields_of}
use Rattle.cmc_cursor.specs.Readers.{name_at, short_text_at, small_count_at, bytes_at}
use Rattle.cmc_print.specs.Trees.{natural}
use Rattle.cmc_print.specs.Words.{algorithm_name, encoding_name, rotation_name}
use Rattle.cmc_print.specs.Puts.{strings, base64_text}
use Rattle.cmc_print.specs.Printed.{duration_tree, issuer_tree, key_members, put_references, put_names, put_terms, spec_tree, request_tree}
use Rattle.cmc_codec.specs.Given.{text_list_at, clean_text_at, duration_at, choice_at, given_or}
use Rattle.cmc_codec.specs.declared.given.Wording.TheVariants.{Any, Printable, Address}
use Rattle.cmc_codec.specs.CertificateForm.{issuer_at, no_key, key_spec_at, subject_in, signing_in, terms_in, target_in, spec_at, request_spec_at}
use Rattle.cmc_codec.specs.declared.certificate_in.Api.TheVariants.{V1}
use Rattle.cmc_codec.specs.declared.certificate_in.Subject.{Subject}
use Rattle.cmc_codec.specs.declared.certificate_in.Signing.{Signing}
use Rattle.cmc_codec.specs.declared.certificate_in.Terms.{Terms}
use Rattle.cmc_codec.specs.declared.certificate_in.Target.{Target}
use Rattle.cmc_codec.proofs.Slots.{slots, start, Stands, bind, member_or_is, needed_is, option_next, list_next, true_next, put_is, some_option, put_option_is, some_list, put_list_is, some_true, put_true_is, some_object, put_object_is}

abbrev pub Places : Type 0
Places = List (List ℕ × Option Data)

-- ---- issuers

-- what is printed of an issuer is of its form
pub record IsIssuer (i : IssuerRef) : Type 0 where
  pub name : short_text_at 253 (string i.name) ≡ Ok i.name
  pub kind : IfSome i.kind (λ t. short_text_at 253 (string t) ≡ Ok t)
  pub group : IfSome i.group (λ t. short_text_at 253 (string t) ≡ Ok t)

abbrev pub issuer_places : Option Data → Option Data → Option Data → Places
issuer_places group kind name = (codes "group", group) ∷ (codes "kind", kind) ∷ (codes "name", name) ∷ []

pub issuer_printed : (i : IssuerRef) → issuer_tree i ≡ object (slots (issuer_places (some_option string i.group) (some_option string i.kind) (Some (string i.name))))
unfolding issuer_tree
issuer_printed i =
    let name = put_is (codes "name") (string i.name) (start {ss = issuer_places None None None} refl) refl in
    let kind = put_option_is string (codes "kind") i.kind name refl in
    let group = put_option_is string (codes "group") i.group kind refl in
    ap object group.same

pub issuer_again : (i : IssuerRef) → IsIssuer i → issuer_at (issuer_tree i) ≡ Ok i
unfolding issuer_at
issuer_again i is =
    let ps = issuer_places (some_option string i.group) (some_option string i.kind) (Some (string i.name)) in
    rw (issuer_printed i)
    (bind _ _ _ _ (option_next (short_text_at 253) string (codes "group") i.group (drop 1 ps) refl is.group)
    (bind _ _ _ _ (option_next (short_text_at 253) string (codes "kind") i.kind (drop 2 ps) refl is.kind)
    (bind _ _ _ _ (needed_is (short_text_at 253) (codes "name") (string i.name) [] i.name refl is.name) refl)))

abbrev Equal : KeySpec → KeySpec → Type 0
Equal a b = a ≡ b

-- ---- private keys

pub algorithm_again : (a : Algorithm) → choice_at (codes "RSA") Rsa (codes "ECDSA") Ecdsa (string (algorithm_name a)) ≡ Ok a
algorithm_again Rsa = refl
algorithm_again Ecdsa = refl

pub encoding_again : (a : Encoding) → choice_at (codes "PKCS1") Pkcs1 (codes "PKCS8") Pkcs8 (string (encoding_name a)) ≡ Ok a
encoding_again Pkcs1 = refl
encoding_again Pkcs8 = refl

pub rotation_again : (a : Rotation) → choice_at (codes "Always") Always (codes "Never") Never (string (rotation_name a)) ≡ Ok a
rotation_again Always = refl
rotation_again Never = refl

pub always_some : {A : Type 0} (P : A → Type 0) (o : Option A) → ((x : A) → P x) → IfSome o P
always_some P None each = tt
always_some P (Some x) each = each x

abbrev pub key_places : Option Data → Option Data → Option Data → Option Data → Places
key_places algorithm encoding rotation size = (codes "algorithm", algorithm) ∷ (codes "encoding", encoding) ∷ (codes "rotationPolicy", rotation) ∷ (codes "size", size) ∷ []

abbrev pub places_of_key : KeySpec → Places
places_of_key k = key_places (some_option (λ a. string (algorithm_name a)) k.algorithm) (some_option (λ e. string (encoding_name e)) k.encoding)
    (some_option (λ r. string (rotation_name r)) k.rotation) (some_option natural k.size)

pub key_printed : (k : KeySpec) → key_members k ≡ slots (places_of_key k)
unfolding key_members
key_printed k =
    let algorithm = put_option_is (λ a. string (algorithm_name a)) (codes "algorithm") k.algorithm (start {ss = key_places None None None None} refl) refl in
    let size = put_option_is natural (codes "size") k.size algorithm refl in
    let encoding = put_option_is (λ e. string (encoding_name e)) (codes "encoding") k.encoding size refl in
    let rotation = put_option_is (λ r. string (rotation_name r)) (codes "rotationPolicy") k.rotation encoding refl in
    rotation.same

abbrev pub IsSize : Option ℕ → Type 0
IsSize o = IfSome o (λ n. small_count_at (natural n) ≡ Ok n)

key_again : (k : KeySpec) → IsSize k.size → key_spec_at (object (key_members k)) ≡ Ok k
unfolding key_spec_at
key_again k size =
    let ps = places_of_key k in
    rw (key_printed k)
    (bind _ _ _ _ (option_next (choice_at (codes "RSA") Rsa (codes "ECDSA") Ecdsa) (λ a. string (algorithm_name a)) (codes "algorithm") k.algorithm (drop 1 ps) refl (always_some _ k.algorithm algorithm_again))
    (bind _ _ _ _ (option_next (choice_at (codes "PKCS1") Pkcs1 (codes "PKCS8") Pkcs8) (λ e. string (encoding_name e)) (codes "encoding") k.encoding (drop 2 ps) refl (always_some _ k.encoding encoding_again))
    (bind _ _ _ _ (option_next (choice_at (codes "Always") Always (codes "Never") Never) (λ r. string (rotation_name r)) (codes "rotationPolicy") k.rotation (drop 3 ps) refl (always_some _ k.rotation rotation_again))
    (bind _ _ _ _ (option_next small_count_at natural (codes "size") k.size [] refl size) refl))))

bare_key : (ms : Members) (k : KeySpec) → key_spec_at (object ms) ≡ Ok k → (ms ≡ no_members → k ≡ no_key) → given_or no_key key_spec_at (codes "privateKey") (some_object ms) ≡ Ok k
bare_key no_members k e none = ap (λ x. Ok x) (sym (none refl))
bare_key (member n d ms) k e none = rw e refl

no_member : {n : List ℕ} {d : Data} {ms : Members} → member n d ms ≡ no_members → ⊥
no_member h = cc

absurd_empty : {A : Type 0} {n : List ℕ} {d : Data} {ms : Members} → member n d ms ≡ no_members → A
absurd_empty h = absurd (no_member h)

-- nothing is printed of no key alone
pub empty_key : (a : Option Algorithm) (s : Option ℕ) (e : Option Encoding) (r : Option Rotation) → slots (places_of_key (record { algorithm = a; size = s; encoding = e; rotation = r })) ≡ no_members
    → Equal (record { algorithm = a; size = s; encoding = e; rotation = r }) no_key
empty_key None None None None h = refl
empty_key (Some a) s e r h = absurd_empty h
empty_key None s (Some e) r h = absurd_empty h
empty_key None s None (Some r) h = absurd_empty h
empty_key None (Some s) None None h = absurd_empty h

key_given : (k : KeySpec) → IsSize k.size → given_or no_key key_spec_at (codes "privateKey") (some_object (key_members k)) ≡ Ok k
key_given k size = bare_key (key_members k) k (key_again k size) (λ h. empty_key k.algorithm k.size k.encoding k.rotation (sym (key_printed k) ∙ h))

-- ---- the spec of a Certificate

abbrev pub IsDurationText : Option ℕ → Type 0
IsDurationText o = IfSome o (λ n. duration_at (duration_tree n) ≡ Ok n)

-- what is printed of a spec is of its form
pub record IsSpec (s : CertSpec) : Type 0 where
  pub common : clean_text_at (string s.common_name) ≡ Ok s.common_name
  pub dns : text_list_at Printable (strings s.dns_names) ≡ Ok s.dns_names
  pub duration : IsDurationText s.duration
  pub emails : text_list_at Printable (strings s.emails) ≡ Ok s.emails
  pub addresses : text_list_at Address (strings s.ip_addresses) ≡ Ok s.ip_addresses
  pub issuer : IsIssuer s.issuer
  pub size : IsSize s.key.size
  pub before : IsDurationText s.renew_before
  pub percent : IsSize s.renew_percent
  pub limit : IsSize s.history_limit
  pub secret : name_at (string s.secret_name) ≡ Ok s.secret_name
  pub uris : text_list_at Printable (strings s.uris) ≡ Ok s.uris
  pub usages : text_list_at Any (strings s.usages) ≡ Ok s.usages

-- the places of a spec from its references, names and terms
pub record Placed : Type 0 where
  pub common : Option Data
  pub dns : Option Data
  pub duration : Option Data
  pub emails : Option Data
  pub addresses : Option Data
  pub is_ca : Option Data
  pub issuer : Option Data
  pub key : Option Data
  pub before : Option Data
  pub percent : Option Data
  pub limit : Option Data
  pub secret : Option Data
  pub uris : Option Data
  pub usages : Option Data

abbrev pub spec_places : Placed → Places
spec_places p = (codes "commonName", p.common) ∷ (codes "dnsNames", p.dns) ∷ (codes "duration", p.duration) ∷ (codes "emailAddresses", p.emails)
    ∷ (codes "ipAddresses", p.addresses) ∷ (codes "isCA", p.is_ca) ∷ (codes "issuerRef", p.issuer) ∷ (codes "privateKey", p.key)
    ∷ (codes "renewBefore", p.before) ∷ (codes "renewBeforePercentage", p.percent) ∷ (codes "revisionHistoryLimit", p.limit)
    ∷ (codes "secretName", p.secret) ∷ (codes "uris", p.uris) ∷ (codes "usages", p.usages) ∷ []

abbrev pub nowhere : Placed
nowhere = record { common = None; dns = None; duration = None; emails = None; addresses = None; is_ca = None; issuer = None; key = None; before = None; percent = None; limit = None; secret = None; uris = None; usages = None }

abbrev pub places_of : CertSpec → Placed
places_of s = record {
  common = some_list string s.common_name;
  dns = some_list strings s.dns_names;
  duration = some_option duration_tree s.duration;
  emails = some_list strings s.emails;
  addresses = some_list strings s.ip_addresses;
  is_ca = some_true s.is_ca;
  issuer = Some (issuer_tree s.issuer);
  key = some_object (key_members s.key);
  before = some_option duration_tree s.renew_before;
  percent = some_option natural s.renew_percent;
  limit = some_option natural s.history_limit;
  secret = Some (string s.secret_name);
  uris = some_list strings s.uris;
  usages = some_list strings s.usages;
}

references_put : (s : CertSpec) → Stands (spec_places (record nowhere { secret = Some (string s.secret_name); issuer = Some (issuer_tree s.issuer); key = some_object (key_members s.key) })) (put_references s no_members)
unfolding put_references
references_put s =
    let secret = put_is (codes "secretName") (string s.secret_name) (start {ss = spec_places nowhere} refl) refl in
    let issuer = put_is (codes "issuerRef") (issuer_tree s.issuer) secret refl in
    put_object_is (codes "privateKey") (key_members s.key) issuer refl

with_names : (s : CertSpec) (ms : Members)
    → Stands (spec_places (record nowhere { secret = Some (string s.secret_name); issuer = Some (issuer_tree s.issuer); key = some_object (key_members s.key) })) ms
    → Stands (spec_places (record (places_of s) { duration = None; is_ca = None; before = None; percent = None; limit = None; usages = None })) (put_names s ms)
unfolding put_names
with_names s ms is =
    let common = put_list_is string (codes "commonName") s.common_name is refl in
    let dns = put_list_is strings (codes "dnsNames") s.dns_names common refl in
    let emails = put_list_is strings (codes "emailAddresses") s.emails dns refl in
    let addresses = put_list_is strings (codes "ipAddresses") s.ip_addresses emails refl in
    put_list_is strings (codes "uris") s.uris addresses refl

with_terms : (s : CertSpec) (ms : Members)
    → Stands (spec_places (record (places_of s) { duration = None; is_ca = None; before = None; percent = None; limit = None; usages = None })) ms
    → Stands (spec_places (record (places_of s) { is_ca = None; usages = None })) (put_terms s ms)
unfolding put_terms
with_terms s ms is =
    let duration = put_option_is duration_tree (codes "duration") s.duration is refl in
    let before = put_option_is duration_tree (codes "renewBefore") s.renew_before duration refl in
    let percent = put_option_is natural (codes "renewBeforePercentage") s.renew_percent before refl in
    put_option_is natural (codes "revisionHistoryLimit") s.history_limit percent refl

pub spec_printed : (s : CertSpec) → spec_tree s ≡ object (slots (spec_places (places_of s)))
unfolding spec_tree
spec_printed s =
    let terms = with_terms s _ (with_names s _ (references_put s)) in
    let is_ca = put_true_is (codes "isCA") s.is_ca terms refl in
    let usages = put_list_is strings (codes "usages") s.usages is_ca refl in
    ap object usages.same

abbrev pub subject_of : CertSpec → Subject
subject_of s = record { common_name = s.common_name; dns_names = s.dns_names; duration = s.duration; emails = s.emails; ip_addresses = s.ip_addresses }

abbrev pub signing_of : CertSpec → Signing
signing_of s = record { is_ca = s.is_ca; issuer = s.issuer }

abbrev pub terms_of : CertSpec → Terms
terms_of s = record { key = s.key; renew_before = s.renew_before; renew_percent = s.renew_percent; history_limit = s.history_limit }

abbrev pub target_of : CertSpec → Target
target_of s = record { secret_name = s.secret_name; uris = s.uris; usages = s.usages }

abbrev pub behind : ℕ → CertSpec → List Field
behind n s = fields_of (slots (drop n (spec_places (places_of s))))

subject_again : (s : CertSpec) → IsSpec s → subject_in (codes "emailAddresses") (behind 0 s) ≡ Ok (subject_of s, behind 5 s)
unfolding subject_in
subject_again s is =
    let ps = spec_places (places_of s) in
    (bind _ _ _ _ (list_next clean_text_at string (codes "commonName") s.common_name (drop 1 ps) refl is.common)
    (bind _ _ _ _ (list_next (text_list_at Printable) strings (codes "dnsNames") s.dns_names (drop 2 ps) refl is.dns)
    (bind _ _ _ _ (option_next duration_at duration_tree (codes "duration") s.duration (drop 3 ps) refl is.duration)
    (bind _ _ _ _ (list_next (text_list_at Printable) strings (codes "emailAddresses") s.emails (drop 4 ps) refl is.emails)
    (bind _ _ _ _ (list_next (text_list_at Address) strings (codes "ipAddresses") s.ip_addresses (drop 5 ps) refl is.addresses) refl)))))

signing_again : (s : CertSpec) → IsSpec s → signing_in (behind 5 s) ≡ Ok (signing_of s, behind 7 s)
unfolding signing_in
signing_again s is =
    let ps = spec_places (places_of s) in
    (bind _ _ _ _ (true_next (codes "isCA") s.is_ca (drop 6 ps) refl)
    (bind _ _ _ _ (needed_is issuer_at (codes "issuerRef") (issuer_tree s.issuer) (drop 7 ps) s.issuer refl (issuer_again s.issuer is.issuer)) refl))

terms_again : (s : CertSpec) → IsSpec s → terms_in (behind 7 s) ≡ Ok (terms_of s, behind 11 s)
unfolding terms_in
terms_again s is =
    let ps = spec_places (places_of s) in
    (bind _ _ _ _ (member_or_is no_key key_spec_at (codes "privateKey") (some_object (key_members s.key)) (drop 8 ps) s.key refl (key_given s.key is.size))
    (bind _ _ _ _ (option_next duration_at duration_tree (codes "renewBefore") s.renew_before (drop 9 ps) refl is.before)
    (bind _ _ _ _ (option_next small_count_at natural (codes "renewBeforePercentage") s.renew_percent (drop 10 ps) refl is.percent)
    (bind _ _ _ _ (option_next small_count_at natural (codes "revisionHistoryLimit") s.history_limit (drop 11 ps) refl is.limit) refl))))

target_again : (s : CertSpec) → IsSpec s → target_in (codes "uris") (behind 11 s) ≡ Ok (target_of s, [])
unfolding target_in
target_again s is =
    let ps = spec_places (places_of s) in
    (bind _ _ _ _ (needed_is name_at (codes "secretName") (string s.secret_name) (drop 12 ps) s.secret_name refl is.secret)
    (bind _ _ _ _ (list_next (text_list_at Printable) strings (codes "uris") s.uris (drop 13 ps) refl is.uris)
    (bind _ _ _ _ (list_next (text_list_at Any) strings (codes "usages") s.usages [] refl is.usages) refl)))

pub spec_again : (s : CertSpec) → IsSpec s → spec_at V1 (spec_tree s) ≡ Ok s
unfolding spec_at
spec_again s is =
    rw (spec_printed s)
    (bind _ _ _ _ (subject_again s is)
    (bind _ _ _ _ (signing_again s is)
    (bind _ _ _ _ (terms_again s is)
    (bind _ _ _ _ (target_again s is) refl))))

-- ---- the spec of a CertificateRequest

pub record IsRequestSpec (s : RequestSpec) : Type 0 where
  pub duration : IsDurationText s.duration
  pub issuer : IsIssuer s.issuer
  pub request : bytes_at (base64_text s.request) ≡ Ok s.request
  pub usages : text_list_at Any (strings s.usages) ≡ Ok s.usages

abbrev pub request_places : Option Data → Option Data → Option Data → Option Data → Option Data → Places
request_places duration is_ca issuer request usages = (codes "duration", duration) ∷ (codes "isCA", is_ca) ∷ (codes "issuerRef", issuer) ∷ (codes "request", request) ∷ (codes "usages", usages) ∷ []

abbrev pub places_of_request : RequestSpec → Places
places_of_request s = request_places (some_option duration_tree s.duration) (some_true s.is_ca) (Some (issuer_tree s.issuer)) (Some (base64_text s.request)) (some_list strings s.usages)

pub request_printed : (s : RequestSpec) → request_tree s ≡ object (slots (places_of_request s))
unfolding request_tree
request_printed s =
    let request = put_is (codes "request") (base64_text s.request) (start {ss = request_places None None None None None} refl) refl in
    let issuer = put_is (codes "issuerRef") (issuer_tree s.issuer) request refl in
    let duration = put_option_is duration_tree (codes "duration") s.duration issuer refl in
    let is_ca = put_true_is (codes "isCA") s.is_ca duration refl in
    let usages = put_list_is strings (codes "usages") s.usages is_ca refl in
    ap object usages.same

request_signing : (s : RequestSpec) → IsRequestSpec s → signing_in (fields_of (slots (drop 1 (places_of_request s)))) ≡ Ok (record { is_ca = s.is_ca; issuer = s.issuer }, fields_of (slots (drop 3 (places_of_request s))))
unfolding signing_in
request_signing s is =
    let ps = places_of_request s in
    (bind _ _ _ _ (true_next (codes "isCA") s.is_ca (drop 2 ps) refl)
    (bind _ _ _ _ (needed_is issuer_at (codes "issuerRef") (issuer_tree s.issuer) (drop 3 ps) s.issuer refl (issuer_again s.issuer is.issuer)) refl))

pub request_again : (s : RequestSpec) → IsRequestSpec s → request_spec_at (request_tree s) ≡ Ok s
unfolding request_spec_at
request_again s is =
    let ps = places_of_request s in
    rw (request_printed s)
    (bind _ _ _ _ (option_next duration_at duration_tree (codes "duration") s.duration (drop 1 ps) refl is.duration)
    (bind _ _ _ _ (request_signing s is)
    (bind _ _ _ _ (needed_is bytes_at (codes "request") (base64_text s.request) (drop 4 ps) s.request refl is.request)
    (bind _ _ _ _ (list_next (text_list_at Any) strings (codes "usages") s.usages [] refl is.usages) refl))))
