-- The table of the request manager, line by line.
use Rattle.std.proofs.Common.{◌≡◌, ◌∙◌, ◌==◌, ◌&&◌, ℕ, ℤ, List, Option, Some, None, Bool, refl, ap}
use Rattle.std.specs.Prelude.{length}
use Rattle.std.specs.List.{last_or}
use Rattle.cmc_der.specs.Keys.{PublicKey}
use Rattle.cmc_x509.specs.ReadKeys.{key_file_at}
use Rattle.cmc_x509_build.specs.Octets.{signed_octets}
use Rattle.cmc_objects.specs.declared.certificate.Certificate.{Certificate}
use Rattle.cmc_objects.specs.declared.orders.CsrOrder.{CsrOrder}
use Rattle.cmc_objects.specs.declared.request.CertificateRequest.{CertificateRequest}
use Rattle.cmc_objects.specs.declared.secret.Secret.{Secret as SecretObject}
use Rattle.cmc_objects.specs.declared.orders.Order.TheVariants as orders
use Rattle.cmc_objects.specs.declared.role.Role.TheVariants.{RequestManager}
use Rattle.cmc_match.specs.Facts.{key_in, fits}
use Rattle.cmc_pass.specs.declared.pass.Views.{Views}
use Rattle.cmc_pass.specs.declared.pass.Act.{Act}
use Rattle.cmc_pass.specs.declared.pass.Act.TheVariants.{Nothing}
use Rattle.cmc_pass.specs.declared.value.Value.{Value}
use Rattle.cmc_pass.specs.declared.value.Value.TheVariants.{Made, Signed, Answered, Judged}
use Rattle.cmc_pass.specs.Values.{IsValue}
use Rattle.cmc_rules.specs.Trigger.{is_issuing}
use Rattle.cmc_rules.specs.RevisionManager.{delete_of}
use Rattle.cmc_rules.specs.NextKeys.{named_key}
use Rattle.cmc_rules.specs.NextRequests.{is_next, next_requests}
use Rattle.cmc_rules.specs.RequestManager.{body_of, ask_signature, make_request, is_stale, stale_request, ask_with, by_count, by_stale, with_request_file, with_key, request_of, request_manager, signed_by, signed_in, signed_with, signed_for, request_after}
use Rattle.cmc_rules.specs.SeenObjects.{IsAmong}
use Rattle.cmc_rules.specs.Sound.{IsFollowed, IsWithin}
use Rattle.cmc_rules.proofs.Sights.{found_among, left_among, last_among}
use Rattle.cmc_rules.proofs.Lines.{by_test}
use Rattle.cmc_requestmanager.proofs.Writes.{dropping, making}

abbrev Is : Views → ℤ → Act → Type 0
Is seen now a = IsWithin RequestManager (request_after seen now) seen now a

-- the lines that are reached with a Certificate, a key and its file
record IsReached (seen : Views) (c : Certificate) (k : SecretObject) (file : List ℕ) : Type 0 where
  sees : seen.certificate ≡ Some c
  key : named_key c.status.next_key seen.next ≡ Some k
  is_file : key_in k ≡ Some file

-- ---- the question, and what follows its signature

-- the call that follows is the create of the request
follows : (seen : Views) (c : Certificate) (k : SecretObject) (file signature : List ℕ) (key : PublicKey) → IsReached seen c k file → key_file_at file ≡ Some key
    → signed_for seen.certificate seen.next signature ≡ Some (make_request c k (signed_octets (body_of c.spec key) signature))
follows seen c k file signature key r is =
    ap (λ (o : Option Certificate). signed_for o seen.next signature) r.sees
    ∙ ap (λ (o : Option SecretObject). signed_with c o signature) r.key
    ∙ ap (λ (o : Option (List ℕ)). signed_in c k o signature) r.is_file
    ∙ ap (λ (o : Option PublicKey). signed_by c k o signature) is

followed : (seen : Views) (now : ℤ) (c : Certificate) (k : SecretObject) (file : List ℕ) (key : PublicKey) (order : CsrOrder) → IsReached seen c k file → key_file_at file ≡ Some key → (value : Value)
    → IsValue (orders.Csr order) value → IsFollowed RequestManager (request_after seen now) seen now (orders.Csr order) value
unfolding request_after
followed seen now c k file key order r is (Made bytes) right = absurd right
followed seen now c k file key order r is (Signed signature) right = record {
  call = make_request c k (signed_octets (body_of c.spec key) signature);
  follows = follows seen c k file signature key r is;
  on = making seen now (Signed signature) c k (signed_octets (body_of c.spec key) signature) r.sees;
}
followed seen now c k file key order r is (Answered answer) right = absurd right
followed seen now c k file key order r is (Judged approved) right = absurd right

asked : (seen : Views) (now : ℤ) (c : Certificate) (k : SecretObject) (file : List ℕ) (key : PublicKey) → IsReached seen c k file → key_file_at file ≡ Some key → Is seen now (ask_signature c file key)
unfolding ask_signature
asked seen now c k file key r is = (refl, followed seen now c k file key (record { key = file; body = body_of c.spec key }) r is)

ask_is : (seen : Views) (now : ℤ) (c : Certificate) (k : SecretObject) (file : List ℕ) (o : Option PublicKey) → IsReached seen c k file → key_file_at file ≡ o → Is seen now (ask_with c file o)
ask_is seen now c k file None r is = tt
ask_is seen now c k file (Some key) r is = asked seen now c k file key r is

-- ---- each act is within

delete_is : (seen : Views) (now : ℤ) (o : Option CertificateRequest) → ((r : CertificateRequest) → o ≡ Some r → IsAmong r seen.requests) → Is seen now (delete_of o)
delete_is seen now None among = tt
delete_is seen now (Some r) among = dropping seen now r (among r refl)

count_is : (seen : Views) (now : ℤ) (c : Certificate) (k : SecretObject) (file : List ℕ) → IsReached seen c k file → Is seen now (by_count c file (next_requests c seen.requests))
count_is seen now c k file r =
    let next : List CertificateRequest = next_requests c seen.requests in
    by_test (Is seen now) (length next == 0) _ _ (λ none. ask_is seen now c k file (key_file_at file) r refl)
    (λ some. by_test (Is seen now) (length next == 1) _ _ (λ one. tt) (λ more. delete_is seen now (last_or None next) (λ q is. left_among (is_next c) seen.requests q (last_among next q is))))

stale_is : (seen : Views) (now : ℤ) (c : Certificate) (k : SecretObject) (file : List ℕ) (o : Option CertificateRequest) → IsReached seen c k file → stale_request c file seen.requests ≡ o
    → Is seen now (by_stale c file seen.requests o)
stale_is seen now c k file None r is = count_is seen now c k file r
stale_is seen now c k file (Some stale) r is =
    let wrong : CertificateRequest → Bool = λ q. is_next c q && is_stale c file q in
    dropping seen now stale (found_among wrong seen.requests stale is)

file_is : (seen : Views) (now : ℤ) (c : Certificate) (k : SecretObject) (o : Option (List ℕ)) → seen.certificate ≡ Some c → named_key c.status.next_key seen.next ≡ Some k → key_in k ≡ o
    → Is seen now (with_request_file c seen.requests o)
file_is seen now c k None sees key is = tt
file_is seen now c k (Some file) sees key is =
    by_test (Is seen now) (fits c.spec.key file) _ _ (λ on. stale_is seen now c k file (stale_request c file seen.requests) (record { sees = sees; key = key; is_file = is }) refl) (λ off. tt)

key_is : (seen : Views) (now : ℤ) (c : Certificate) (o : Option SecretObject) → seen.certificate ≡ Some c → named_key c.status.next_key seen.next ≡ o → Is seen now (with_key c seen.requests o)
key_is seen now c None sees is = tt
key_is seen now c (Some k) sees is = file_is seen now c k (key_in k) sees is refl

of_is : (seen : Views) (now : ℤ) (o : Option Certificate) → seen.certificate ≡ o → Is seen now (request_of o seen.next seen.requests)
of_is seen now None sees = tt
of_is seen now (Some c) sees = by_test (Is seen now) (is_issuing c) _ _ (λ on. key_is seen now c (named_key c.status.next_key seen.next) sees refl) (λ off. tt)

pub within : (seen : Views) (now : ℤ) → Is seen now (request_manager seen)
unfolding request_manager
within seen now = of_is seen now seen.certificate refl

-- ---- nothing without a Certificate

pub none : (seen : Views) → seen.certificate ≡ None → request_manager seen ≡ Nothing
unfolding request_manager
none seen is = ap (λ (o : Option Certificate). request_of o seen.next seen.requests) is
