-- The request that the request manager makes is wanted, and a key that is made fits.
use Rattle.std.proofs.Common.{◌≡◌, ℕ, ℤ, ◌≤◌, List, [], ◌∷◌, ◌++◌, length, Option, Some, None, Bool, true, false, refl, sym, ap, subst, ◌∙◌}
use Rattle.std.proofs.lemmas.Bool.Decides.{Decides-eqb}
use Rattle.std.specs.Prelude.{if◌then◌else◌}
use Rattle.cmc_der.specs.Builders.{value}
use Rattle.cmc_der.specs.Keys.{PublicKey, RequestFields}
use Rattle.cmc_der.proofs.SmallValues.{IsSmall, contents_small, front_small, back_small}
use Rattle.cmc_x509.specs.Certificates.{IsRequest}
use Rattle.cmc_x509.specs.ReadCertificates.{request_fields_at}
use Rattle.cmc_x509.specs.ReadKeys.{key_file_at}
use Rattle.cmc_x509.proofs.CertificateLaws.{request_again}
use Rattle.cmc_x509.proofs.FileLaws.{key_file_found}
use Rattle.cmc_x509_build.specs.Octets.{name_octets, signature_algorithm, signed_octets, spki_octets}
use Rattle.cmc_x509_build.specs.Requests.{alternative_of, attributes_of, names_of, request_body}
use Rattle.cmc_x509_build.proofs.BuiltNameLaws.{names_small}
use Rattle.cmc_x509_build.proofs.RequestLaws.{built_body_is, request_is}
use Rattle.cmc_x509_build.proofs.ServeLaws.{key_file_serves}
use Rattle.cmc_objects.specs.declared.certificate.CertSpec.{CertSpec}
use Rattle.cmc_objects.specs.declared.certificate.Certificate.{Certificate}
use Rattle.cmc_objects.specs.declared.issuer.IssuerRef.{IssuerRef}
use Rattle.cmc_objects.specs.declared.key_spec.Rotation.{Rotation}
use Rattle.cmc_objects.specs.declared.key_spec.Rotation.TheVariants.{Always, Never}
use Rattle.cmc_objects.specs.declared.object.Object.TheVariants.{Request}
use Rattle.cmc_objects.specs.declared.call.Call.TheVariants.{Create}
use Rattle.cmc_objects.specs.declared.orders.KeyOrder.{KeyOrder}
use Rattle.cmc_objects.specs.declared.orders.Order.{Order}
use Rattle.cmc_objects.specs.declared.orders.Order.TheVariants.{Key as KeyOf}
use Rattle.cmc_objects.specs.declared.request.CertificateRequest.{CertificateRequest}
use Rattle.cmc_objects.specs.declared.request.RequestSpec.{RequestSpec}
use Rattle.cmc_objects.specs.declared.role.Role.TheVariants.{KeyManager, RequestManager}
use Rattle.cmc_objects.specs.declared.secret.Secret.{Secret as SecretObject}
use Rattle.cmc_objects.specs.Defaults.{certificate_duration, issuer_group, issuer_kind, key_algorithm, key_size}
use Rattle.cmc_objects.specs.declared.key_spec.Algorithm.{Algorithm}
use Rattle.cmc_keys.specs.Kinds.{is_key_of}
use Rattle.cmc_keys.specs.Values.{IsKeyValue}
use Rattle.cmc_keys.proofs.KindLaws.{is_key_means}
use Rattle.cmc_match.specs.Facts.{fits, key_in}
use Rattle.cmc_match.specs.Matches.{HasKey, asks_for_names, has_key, has_terms, is_same_flag, is_same_issuer, matches}
use Rattle.cmc_match.proofs.MatchLaws.{keys_match}
use Rattle.cmc_pass.specs.declared.pass.Act.{Act}
use Rattle.cmc_pass.specs.declared.pass.Act.TheVariants.{Nothing, Call as Calls, Ask as Asks}
use Rattle.cmc_pass.specs.declared.pass.Desk.{Desk}
use Rattle.cmc_pass.specs.declared.pass.Views.{Views}
use Rattle.cmc_pass.specs.Values.{IsValue}
use Rattle.cmc_pass.specs.declared.value.Value.{Value}
use Rattle.cmc_pass.specs.declared.value.Value.TheVariants.{Made, Signed}
use Rattle.cmc_rules.specs.Acts.{act, call_after}
use Rattle.cmc_rules.specs.KeyManager as keys
use Rattle.cmc_rules.specs.KeyManager.{ask_key, drop_call, key_manager, key_order, make_call, name_call}
use Rattle.cmc_rules.specs.NextKeys.{named_key}
use Rattle.cmc_rules.specs.NextRequests.{is_wanted}
use Rattle.cmc_rules.specs.RequestManager.{body_of, make_request, name_set, new_request, request_after, request_from, request_spec, signed_by, signed_for, signed_in, signed_with}
use Rattle.cmc_rules.specs.Trigger as triggering
use Rattle.cmc_run_laws.proofs.OwnNames.{and_two, itself, names_again, same_itself}

-- ---- what the request asks for besides its names

same_flag : (b : Bool) → is_same_flag b b ≡ true
same_flag true = refl
same_flag false = refl

same_issuer : (issuer : IssuerRef) → is_same_issuer issuer issuer ≡ true
same_issuer issuer = rw (itself issuer.name, itself (issuer_kind issuer), itself (issuer_group issuer)) refl

own_terms : (spec : CertSpec) (octets : List ℕ) → has_terms spec (request_spec spec octets) ≡ true
unfolding has_terms request_spec
own_terms spec octets =
    let duration : ℕ = certificate_duration spec.duration in
    rw (same_issuer spec.issuer, (Decides-eqb duration duration).1 refl, same_flag spec.is_ca, same_itself spec.usages) refl

-- ---- its octets are read again

abbrev fields_of : CertSpec → PublicKey → RequestFields
fields_of spec key = record { key = key; names = names_of (name_set spec) }

body_small : (body signature : List ℕ) → IsSmall (signed_octets body signature) → IsSmall body
unfolding signed_octets
body_small body signature small = front_small body (signature_algorithm ++ value 3 (0 ∷ signature)) (contents_small 48 (body ++ (signature_algorithm ++ value 3 (0 ∷ signature))) small)

alternative_small : (fields : RequestFields) → IsSmall (request_body fields) → IsSmall fields.names.alternative
unfolding request_body
alternative_small fields small =
    let attributes = attributes_of fields.names.alternative in
    let tail = value 160 attributes in
    let after_subject = spki_octets fields.key ++ tail in
    let after_version = name_octets fields.names.common ++ after_subject in
    let inside = contents_small 48 (value 2 (0 ∷ []) ++ after_version) small in
    let key_small = back_small (name_octets fields.names.common) after_subject (back_small (value 2 (0 ∷ [])) after_version inside) in
    names_small fields.names.alternative (contents_small 160 attributes (back_small (spki_octets fields.key) tail key_small))

pub own_is_read : (spec : CertSpec) (file : List ℕ) (key : PublicKey) (signature : List ℕ) → key_file_at file ≡ Some key → IsSmall (signed_octets (body_of spec key) signature)
    → IsRequest (signed_octets (body_of spec key) signature) (fields_of spec key)
unfolding body_of
own_is_read spec file key signature reads small =
    let body = request_body (fields_of spec key) in
    request_is body signature (fields_of spec key) (built_body_is key (name_set spec) (key_file_serves file key (key_file_found file key reads)) (body_small body signature small)) small

own_names_small : (spec : CertSpec) (key : PublicKey) (signature : List ℕ) → IsSmall (signed_octets (body_of spec key) signature) → IsSmall (alternative_of (name_set spec))
unfolding body_of
own_names_small spec key signature small = alternative_small (fields_of spec key) (body_small (request_body (fields_of spec key)) signature small)

-- ---- it is wanted

wanted_by : (spec : CertSpec) (file : List ℕ) (key : PublicKey) (signature : List ℕ) (r : CertificateRequest) → key_file_at file ≡ Some key → r.spec ≡ request_spec spec (signed_octets (body_of spec key) signature)
    → IsSmall (signed_octets (body_of spec key) signature) → (matches spec r ≡ true) × (has_key r file ≡ true)
unfolding matches request_spec
wanted_by spec file key signature r reads is small =
    let octets = signed_octets (body_of spec key) signature in
    let same : r.spec.request ≡ octets = ap (λ (s : RequestSpec). s.request) is in
    let read = own_is_read spec file key signature reads small in
    let names : asks_for_names spec (request_fields_at r.spec.request) ≡ true =
    ap (asks_for_names spec) (ap request_fields_at same ∙ request_again octets (fields_of spec key) read) ∙ names_again spec (own_names_small spec key signature small) in
    let terms : has_terms spec r.spec ≡ true = ap (has_terms spec) is ∙ own_terms spec octets in
    let held : HasKey r file = record {
      fields = fields_of spec key;
      readable = subst (λ (o : List ℕ). IsRequest o (fields_of spec key)) (sym same) read;
      key_is = key_file_found file key reads;
    } in
    (and_two (asks_for_names spec (request_fields_at r.spec.request)) (has_terms spec r.spec) names terms, (keys_match r file).1 held)

request_octets : (spec : CertSpec) (octets : List ℕ) (s : RequestSpec) → s ≡ request_spec spec octets → s.request ≡ octets
unfolding request_spec
request_octets spec octets s is = ap (λ (t : RequestSpec). t.request) is

made_by : (c : Certificate) (k : SecretObject) (file : List ℕ) (key : Option PublicKey) (signature : List ℕ) (r : CertificateRequest) → key_file_at file ≡ key → signed_by c k key signature ≡ Some (Create (Request r) true)
    → length r.spec.request ≤ 16777216 → is_wanted c file r ≡ true
unfolding make_request new_request
made_by c k file None signature r reads is small = absurd (cc is)
made_by c k file (Some key) signature r reads is small =
    let octets = signed_octets (body_of c.spec key) signature in
    let same : new_request c k octets ≡ r = cc is in
    let spec : r.spec ≡ request_spec c.spec octets = ap (λ (q : CertificateRequest). q.spec) (sym same) in
    let octets_are : r.spec.request ≡ octets = request_octets c.spec octets r.spec spec in
    let both = wanted_by c.spec file key signature r reads spec (subst (λ (o : List ℕ). length o ≤ 16777216) octets_are small) in
    and_two (matches c.spec r) (has_key r file) both.0 both.1

signed_call : (seen : Views) (value : Value) (c : Certificate) (k : SecretObject) (file : List ℕ) (r : CertificateRequest) → seen.certificate ≡ Some c → named_key c.status.next_key seen.next ≡ Some k → key_in k ≡ Some file
    → request_from seen value ≡ Some (Create (Request r) true) → length r.spec.request ≤ 16777216 → is_wanted c file r ≡ true
signed_call seen (Signed signature) c k file r sees named held is small =
    let by_key : signed_for seen.certificate seen.next signature ≡ signed_by c k (key_file_at file) signature =
    ap (λ (o : Option Certificate). signed_for o seen.next signature) sees ∙ ap (λ (o : Option SecretObject). signed_with c o signature) named ∙ ap (λ (o : Option (List ℕ)). signed_in c k o signature) held in
    made_by c k file (key_file_at file) signature r refl (sym by_key ∙ is) small
signed_call seen other c k file r sees named held is small = absurd (cc is)

pub own_is_wanted : (seen : Views) (now : ℤ) (order : Order) (value : Value) (c : Certificate) (k : SecretObject) (file : List ℕ) (r : CertificateRequest) → seen.certificate ≡ Some c
    → named_key c.status.next_key seen.next ≡ Some k → key_in k ≡ Some file → call_after RequestManager seen now order value ≡ Some (Create (Request r) true) → length r.spec.request ≤ 16777216 → is_wanted c file r ≡ true
unfolding call_after request_after
own_is_wanted seen now order value c k file r sees named held is small = signed_call seen value c k file r sees named held is small

-- ---- a key that is made fits

-- each question is one for a key of the kind that the specification asks for
abbrev AsksFor : Certificate → Act → Type 0
AsksFor c (Asks (KeyOf order)) = (order.algorithm ≡ key_algorithm c.spec.key) × (order.size ≡ key_size c.spec.key)
AsksFor c other = Unit {0}

either : (c : Certificate) (b : Bool) (x y : Act) → AsksFor c x → AsksFor c y → AsksFor c (if b then x else y)
either c true x y one other = one
either c false x y one other = other

asked : (c : Certificate) (desk : Desk) → AsksFor c (ask_key c desk)
unfolding ask_key key_order
asked c desk = (refl, refl)

reused : (c : Certificate) (desk : Desk) (file : Option (List ℕ)) → AsksFor c (keys.reused c desk file)
reused c desk None = asked c desk
reused c desk (Some file) = either c _ _ (ask_key c desk) (either c (fits c.spec.key file) (Calls (make_call c file)) Nothing tt tt) (asked c desk)

rotated : (c : Certificate) (desk : Desk) (file : Option (List ℕ)) (rotation : Rotation) → AsksFor c (keys.rotated c desk file rotation)
rotated c desk file Always = asked c desk
rotated c desk file Never = reused c desk file

only : (c : Certificate) (k : SecretObject) → AsksFor c (keys.only_key c k)
unfolding name_call drop_call
only c k = search either

dropped : (c : Certificate) (k : Option SecretObject) → AsksFor c (keys.dropped k)
unfolding drop_call
dropped c None = tt
dropped c (Some k) = tt

while_issuing : (c : Certificate) (desk : Desk) (target : Option SecretObject) (next : List SecretObject) → AsksFor c (keys.while_issuing c desk target next)
while_issuing c desk target [] = rotated c desk (keys.target_key target) _
while_issuing c desk target (k ∷ []) = only c k
while_issuing c desk target (k ∷ j ∷ ks) = dropped c _

unnamed : (c : Certificate) (name : Option (List ℕ)) → AsksFor c (keys.unnamed c name)
unfolding name_call
unnamed c None = tt
unnamed c (Some name) = tt

while_idle : (c : Certificate) (next : List SecretObject) → AsksFor c (keys.while_idle c next)
unfolding drop_call
while_idle c [] = unnamed c c.status.next_key
while_idle c (k ∷ ks) = tt

asks_for : (c : Certificate) (desk : Desk) (target : Option SecretObject) (next : List SecretObject) → AsksFor c (keys.keys_for c desk target next)
asks_for c desk target next = either c (triggering.is_issuing c) (keys.while_issuing c desk target next) (keys.while_idle c next) (while_issuing c desk target next) (while_idle c next)

managed : (seen : Views) (now : ℤ) (desk : Desk) (c : Certificate) (does : Act) → seen.certificate ≡ Some c → act KeyManager seen now desk ≡ does → AsksFor c does
unfolding act key_manager
managed seen now desk c does sees is =
    subst (AsksFor c) (sym (ap (λ (o : Option Certificate). keys.keys_of o desk seen.secret seen.next) sees) ∙ is) (asks_for c desk seen.secret seen.next)

key_fits : (c : Certificate) (order : KeyOrder) (file : List ℕ) → (order.algorithm ≡ key_algorithm c.spec.key) × (order.size ≡ key_size c.spec.key) → IsKeyValue order file → fits c.spec.key file ≡ true
key_fits c order file asks is =
    let of_order : is_key_of order.algorithm order.size file ≡ true = (is_key_means order.algorithm order.size file).1 is.is_key in
    ap (λ (a : Algorithm). is_key_of a (key_size c.spec.key) file) (sym asks.0) ∙ ap (λ (n : ℕ). is_key_of order.algorithm n file) (sym asks.1) ∙ of_order

pub made_fits : (seen : Views) (now : ℤ) (desk : Desk) (c : Certificate) (order : KeyOrder) (file : List ℕ) → seen.certificate ≡ Some c → act KeyManager seen now desk ≡ Asks (KeyOf order) → IsValue (KeyOf order) (Made file)
    → fits c.spec.key file ≡ true
made_fits seen now desk c order file sees is right = key_fits c order file (managed seen now desk c (Asks (KeyOf order)) sees is) right
