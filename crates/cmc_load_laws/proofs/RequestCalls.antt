-- What the request manager calls, line by line of its table.
use Rattle.std.proofs.Common.{◌≡◌, ◌≤◌, ◌⊎◌, ◌==◌, ℕ, List, [], ◌∷◌, length, Option, Some, None, true, false, refl, sym, subst, inl, inr, arith}
use Rattle.std.proofs.lemmas.Bool.{eqb-true}
use Rattle.std.specs.List.{last_or}
use Rattle.std.specs.Prelude.{if◌then◌else◌}
use Rattle.cmc_der.specs.Keys.{PublicKey}
use Rattle.cmc_x509.specs.ReadKeys.{key_file_at}
use Rattle.cmc_objects.specs.declared.certificate.Certificate.{Certificate}
use Rattle.cmc_objects.specs.declared.request.CertificateRequest.{CertificateRequest}
use Rattle.cmc_objects.specs.declared.secret.Secret.{Secret as SecretObject}
use Rattle.cmc_objects.specs.declared.object.Object.TheVariants.{Request}
use Rattle.cmc_objects.specs.declared.orders.Order.{Order}
use Rattle.cmc_objects.specs.declared.call.Call.{Call}
use Rattle.cmc_objects.specs.declared.call.Call.TheVariants.{Delete}
use Rattle.cmc_objects.specs.Objects.{key_of}
use Rattle.cmc_match.specs.Facts.{fits, key_in}
use Rattle.cmc_pass.specs.declared.pass.Views.{Views}
use Rattle.cmc_pass.specs.declared.pass.Act.{Act}
use Rattle.cmc_pass.specs.declared.pass.Act.TheVariants.{Nothing, Call as Calls, Ask as Asks, Issue, Temporary}
use Rattle.cmc_rules.specs.Causes.{IsFirstCall}
use Rattle.cmc_rules.specs.NextKeys.{named_key}
use Rattle.cmc_rules.specs.NextRequests.{next_requests}
use Rattle.cmc_rules.specs.RequestManager as requests
use Rattle.cmc_rules.specs.RequestManager.{ask_signature, request_manager, stale_request}
use Rattle.cmc_rules.specs.RevisionManager.{delete_call, delete_of}
use Rattle.cmc_rules.specs.Trigger.{is_issuing}
use Rattle.cmc_rules.proofs.Lines.{by_test}

-- the named key and its file
pub record HasNamedKey (seen : Views) (c : Certificate) : Type 0 where
  pub issuing : is_issuing c ≡ true
  pub key : SecretObject
  pub file : List ℕ
  pub named : named_key c.status.next_key seen.next ≡ Some key
  pub holds : key_in key ≡ Some file
  pub fit : fits c.spec.key file ≡ true

-- one that is stale goes
pub record IsStaleDrop (seen : Views) (c : Certificate) (call : Call) : Type 0 where
  pub has : HasNamedKey seen c
  pub request : CertificateRequest
  pub found : stale_request c has.file seen.requests ≡ Some request
  pub is : call ≡ Delete (key_of (Request request)) (Some request.meta.version)

-- where there are two or more, one goes
pub record IsLastDrop (seen : Views) (c : Certificate) (call : Call) : Type 0 where
  pub many : 2 ≤ length (next_requests c seen.requests)
  pub request : CertificateRequest
  pub is : call ≡ Delete (key_of (Request request)) (Some request.meta.version)

abbrev pub IsRequestCall : Views → Certificate → Call → Type 0
IsRequestCall seen c call = IsStaleDrop seen c call ⊎ IsLastDrop seen c call

-- there is none, and a signature is asked for
pub record IsAskingOne (seen : Views) (c : Certificate) : Type 0 where
  pub has : HasNamedKey seen c
  pub none : next_requests c seen.requests ≡ []

abbrev OfRequests : Views → Certificate → Act → Type 0
OfRequests seen c Nothing = Unit {0}
OfRequests seen c (Calls call) = IsRequestCall seen c call
OfRequests seen c (Asks order) = IsAskingOne seen c
OfRequests seen c (Issue plan) = ⊥
OfRequests seen c (Temporary plan) = ⊥

-- ---- line by line

no_length : {A : Type 0} (xs : List A) → length xs ≡ 0 → xs ≡ []
no_length [] is = refl
no_length (x ∷ xs) is = absurd (omega (arith, is))

two_or_more : {A : Type 0} (xs : List A) → (length xs == 0) ≡ false → (length xs == 1) ≡ false → 2 ≤ length xs
two_or_more [] none one = absurd (cc none)
two_or_more (x ∷ []) none one = absurd (cc one)
two_or_more (x ∷ y ∷ xs) none one = omega arith

of_ask : (seen : Views) (c : Certificate) (has : HasNamedKey seen c) (key : Option PublicKey) → next_requests c seen.requests ≡ [] → OfRequests seen c (requests.ask_with c has.file key)
unfolding ask_signature
of_ask seen c has None none = tt
of_ask seen c has (Some key) none = record { has = has; none = none }

of_last : (seen : Views) (c : Certificate) (r : Option CertificateRequest) → 2 ≤ length (next_requests c seen.requests) → OfRequests seen c (delete_of r)
unfolding delete_call
of_last seen c None many = tt
of_last seen c (Some r) many = inr (record { many = many; request = r; is = refl })

of_count : (seen : Views) (c : Certificate) (has : HasNamedKey seen c) → OfRequests seen c (requests.by_count c has.file (next_requests c seen.requests))
of_count seen c has =
    let next : List CertificateRequest = next_requests c seen.requests in
    by_test (OfRequests seen c) (length next == 0) (requests.ask_with c has.file (key_file_at has.file)) (if length next == 1 then Nothing else delete_of (last_or None next))
    (λ zero. of_ask seen c has (key_file_at has.file) (no_length next (eqb-true (length next) 0 zero)))
    (λ some. by_test (OfRequests seen c) (length next == 1) Nothing (delete_of (last_or None next)) (λ one. tt) (λ more. of_last seen c (last_or None next) (two_or_more next some more)))

of_stale : (seen : Views) (c : Certificate) (has : HasNamedKey seen c) (stale : Option CertificateRequest) → stale_request c has.file seen.requests ≡ stale → OfRequests seen c (requests.by_stale c has.file seen.requests stale)
unfolding delete_call
of_stale seen c has None is = of_count seen c has
of_stale seen c has (Some r) is = inl (record { has = has; request = r; found = is; is = refl })

of_file : (seen : Views) (c : Certificate) (k : SecretObject) (file : Option (List ℕ)) → is_issuing c ≡ true → named_key c.status.next_key seen.next ≡ Some k → key_in k ≡ file → OfRequests seen c (requests.with_request_file c seen.requests file)
of_file seen c k None on named holds = tt
of_file seen c k (Some file) on named holds =
    by_test (OfRequests seen c) (fits c.spec.key file) (requests.by_stale c file seen.requests (stale_request c file seen.requests)) Nothing
    (λ fit. let has : HasNamedKey seen c = record { issuing = on; key = k; file = file; named = named; holds = holds; fit = fit } in of_stale seen c has (stale_request c file seen.requests) refl) (λ off. tt)

of_key : (seen : Views) (c : Certificate) (k : Option SecretObject) → is_issuing c ≡ true → named_key c.status.next_key seen.next ≡ k → OfRequests seen c (requests.with_key c seen.requests k)
of_key seen c None on named = tt
of_key seen c (Some k) on named = of_file seen c k (key_in k) on named refl

of_certificate : (seen : Views) (c : Certificate) → OfRequests seen c (requests.request_act_for c seen.next seen.requests)
of_certificate seen c =
    by_test (OfRequests seen c) (is_issuing c) (requests.with_key c seen.requests (named_key c.status.next_key seen.next)) Nothing (λ on. of_key seen c (named_key c.status.next_key seen.next) on refl) (λ off. tt)

-- ---- the first call, and the question

first_by : (seen : Views) (c : Certificate) (does : Act) (call : Call) → OfRequests seen c does → IsFirstCall does call → IsRequestCall seen c call
first_by seen c Nothing call of first = absurd first
first_by seen c (Calls made) call of first = subst (IsRequestCall seen c) (sym first) of
first_by seen c (Asks order) call of first = absurd first
first_by seen c (Issue plan) call of first = absurd of
first_by seen c (Temporary plan) call of first = absurd of

pub record IsRequestManaging (seen : Views) (P : Certificate → Type 0) : Type 0 where
  pub certificate : Certificate
  pub sees : seen.certificate ≡ Some certificate
  pub so : P certificate

first_of : (seen : Views) (o : Option Certificate) (call : Call) → seen.certificate ≡ o → IsFirstCall (requests.request_of o seen.next seen.requests) call → IsRequestManaging seen (λ c. IsRequestCall seen c call)
first_of seen None call sees first = absurd first
first_of seen (Some c) call sees first = record { certificate = c; sees = sees; so = first_by seen c (requests.request_act_for c seen.next seen.requests) call (of_certificate seen c) first }

pub first_request : (seen : Views) (call : Call) → IsFirstCall (request_manager seen) call → IsRequestManaging seen (λ c. IsRequestCall seen c call)
unfolding request_manager
first_request seen call first = first_of seen seen.certificate call refl first

asked_of : (seen : Views) (o : Option Certificate) (order : Order) → seen.certificate ≡ o → requests.request_of o seen.next seen.requests ≡ Asks order → IsRequestManaging seen (λ c. IsAskingOne seen c)
asked_of seen None order sees asks = absurd (cc asks)
asked_of seen (Some c) order sees asks = record { certificate = c; sees = sees; so = subst (OfRequests seen c) asks (of_certificate seen c) }

pub request_asked : (seen : Views) (order : Order) → request_manager seen ≡ Asks order → IsRequestManaging seen (λ c. IsAskingOne seen c)
unfolding request_manager
request_asked seen order asks = asked_of seen seen.certificate order refl asks
