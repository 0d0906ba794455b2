-- What the request manager makes is a certification request with the key that it sees, and it is short.
use Rattle.std.proofs.Common.{◌≡◌, ◌⊎◌, ◌≤◌, ℕ, ℤ, List, [], length, Option, Some, None, refl, sym, ap, subst, ◌∙◌, inl, inr}
use Rattle.cmc_der.specs.Keys.{PublicKey}
use Rattle.cmc_x509.specs.ReadKeys.{key_file_at}
use Rattle.cmc_x509_build.specs.Octets.{signed_octets}
use Rattle.cmc_objects.specs.declared.certificate.Certificate.{Certificate}
use Rattle.cmc_objects.specs.declared.secret.Secret.{Secret as SecretObject}
use Rattle.cmc_objects.specs.declared.call.Call.{Call}
use Rattle.cmc_objects.specs.declared.entry.Entry.{Entry}
use Rattle.cmc_objects.specs.declared.orders.Order.{Order}
use Rattle.cmc_objects.specs.declared.orders.Order.TheVariants as orders
use Rattle.cmc_objects.specs.declared.role.Role.TheVariants.{RequestManager}
use Rattle.cmc_keys.proofs.SignatureLaws.{signature_size}
use Rattle.cmc_pass.specs.Values.{IsValue}
use Rattle.cmc_pass.specs.declared.pass.Act.TheVariants.{Ask as Asks}
use Rattle.cmc_pass.specs.declared.pass.Desk.{Desk}
use Rattle.cmc_pass.specs.declared.pass.Views.{Views}
use Rattle.cmc_pass.specs.declared.value.Value.{Value}
use Rattle.cmc_pass.specs.declared.value.Value.TheVariants as values
use Rattle.cmc_model.specs.Histories.{Setting}
use Rattle.cmc_rules.specs.declared.progress.Stage.{Stage}
use Rattle.cmc_rules.specs.declared.progress.Stage.TheVariants.{Fresh, Asked, Given, Read, Saved, Wrote, Refused, Barred}
use Rattle.cmc_rules.specs.Acts.{act, call_after}
use Rattle.cmc_rules.specs.Causes.{IsNextCall}
use Rattle.cmc_rules.specs.NextRequests.{next_requests}
use Rattle.cmc_rules.specs.RequestManager as requests
use Rattle.cmc_rules.specs.RequestManager.{body_of, make_request, new_request, request_after, request_spec}
use Rattle.cmc_safety.proofs.Course.{HasCome}
use Rattle.cmc_safety.proofs.NextCalls.{IsCallAt}
use Rattle.cmc_load_laws.specs.Loads.{IsUsual}
use Rattle.cmc_load_laws.specs.LoadRuns.{IsSmallRequest}
use Rattle.cmc_load_laws.proofs.AskedActs.{HoldsOfQuestion, IsOfAct}
use Rattle.cmc_load_laws.proofs.RequestCalls.{HasNamedKey, IsAskingOne, IsRequestCall, IsRequestManaging, first_request, request_asked}
use Rattle.cmc_load_laws.proofs.ShortRequests.{request_short}

-- there is none, and one with the named key is made
pub record IsSigned (seen : Views) (c : Certificate) (call : Call) : Type 0 where
  pub has : HasNamedKey seen c
  pub none : next_requests c seen.requests ≡ []
  pub key : PublicKey
  pub reads : key_file_at has.file ≡ Some key
  pub signature : List ℕ
  pub size : length signature ≡ 32
  pub is : call ≡ make_request c has.key (signed_octets (body_of c.spec key) signature)

abbrev pub IsManagersCall : Views → Certificate → Call → Type 0
IsManagersCall seen c call = IsRequestCall seen c call ⊎ IsSigned seen c call

-- ---- what follows a signature

record IsMadeWith (c : Certificate) (k : SecretObject) (o : Option PublicKey) (signature : List ℕ) (call : Call) : Type 0 where
  key : PublicKey
  reads : o ≡ Some key
  is : call ≡ make_request c k (signed_octets (body_of c.spec key) signature)

signed_one : (c : Certificate) (k : SecretObject) (o : Option PublicKey) (signature : List ℕ) (call : Call) → requests.signed_by c k o signature ≡ Some call → IsMadeWith c k o signature call
signed_one c k None signature call is = absurd (cc is)
signed_one c k (Some key) signature call is =
    record { key = key; reads = refl; is = sym (let same : make_request c k (signed_octets (body_of c.spec key) signature) ≡ call = cc is in same) }

signed_with : (seen : Views) (c : Certificate) (has : HasNamedKey seen c) (signature : List ℕ) (call : Call) → seen.certificate ≡ Some c → requests.signed_for seen.certificate seen.next signature ≡ Some call
    → IsMadeWith c has.key (key_file_at has.file) signature call
signed_with seen c has signature call sees is =
    signed_one c has.key (key_file_at has.file) signature call
    (sym (ap (λ (o : Option (List ℕ)). requests.signed_in c has.key o signature) has.holds)
    ∙ sym (ap (λ (o : Option SecretObject). requests.signed_with c o signature) has.named)
    ∙ sym (ap (λ (o : Option Certificate). requests.signed_for o seen.next signature) sees) ∙ is)

right_size : (order : Order) (signature : List ℕ) → IsValue order (values.Signed signature) → length signature ≡ 32
right_size (orders.Csr order) signature is = ap length is ∙ signature_size order.body
right_size (orders.Key order) signature is = absurd is
right_size (orders.Sign order) signature is = absurd is
right_size (orders.Judge order) signature is = absurd is

of_value : (seen : Views) (since : ℤ) (order : Order) (value : Value) (c : Certificate) (asks : IsAskingOne seen c) (call : Call) → seen.certificate ≡ Some c → IsValue order value → call_after RequestManager seen since order value ≡ Some call
    → IsSigned seen c call
unfolding call_after request_after
of_value seen since order (values.Signed signature) c asks call sees right is =
    let made = signed_with seen c asks.has signature call sees is in
    record { has = asks.has; none = asks.none; key = made.key; reads = made.reads; signature = signature; size = right_size order signature right; is = made.is }
of_value seen since order (values.Made file) c asks call sees right is = absurd (cc is)
of_value seen since order (values.Answered answer) c asks call sees right is = absurd (cc is)
of_value seen since order (values.Judged approved) c asks call sees right is = absurd (cc is)

-- ---- all its calls

first_call : (seen : Views) (since : ℤ) (d : Desk) (call : Call) → IsNextCall Fresh (act RequestManager seen since d) (call_after RequestManager seen since) call → IsRequestManaging seen (λ c. IsRequestCall seen c call)
unfolding act
first_call seen since d call next = first_request seen call next

asks_one : (seen : Views) (since : ℤ) (d : Desk) (order : Order) → act RequestManager seen since d ≡ Asks order → IsRequestManaging seen (λ c. IsAskingOne seen c)
unfolding act
asks_one seen since d order asks = request_asked seen order asks

on_first : (seen : Views) (call : Call) → IsRequestManaging seen (λ c. IsRequestCall seen c call) → IsRequestManaging seen (λ c. IsManagersCall seen c call)
on_first seen call is = record { certificate = is.certificate; sees = is.sees; so = inl is.so }

on_given : (seen : Views) (since : ℤ) (order : Order) (value : Value) (call : Call) → IsValue order value → IsRequestManaging seen (λ c. IsAskingOne seen c) → call_after RequestManager seen since order value ≡ Some call
    → IsRequestManaging seen (λ c. IsManagersCall seen c call)
on_given seen since order value call right by is = record { certificate = by.certificate; sees = by.sees; so = inr (of_value seen since order value by.certificate by.so call by.sees right is) }

pub managers_call : (s : Setting) (h : List Entry) (n : ℕ) (seen : Views) (since : ℤ) (d : Desk) (stage : Stage) (call : Call) → HoldsOfQuestion stage (IsOfAct s RequestManager seen since) → HasCome h n RequestManager seen since stage
    → IsNextCall stage (act RequestManager seen since d) (call_after RequestManager seen since) call → IsCallAt stage RequestManager seen since call → IsRequestManaging seen (λ c. IsManagersCall seen c call)
managers_call s h n seen since d Fresh call asked come next at = on_first seen call (first_call seen since d call next)
managers_call s h n seen since d (Given order value) call asked come next at = on_given seen since order value call come.right (asks_one seen since asked.its_desk order asked.asks) next
managers_call s h n seen since d Read call asked come next (inl at) = absurd (cc at.issues.issuing)
managers_call s h n seen since d Read call asked come next (inr at) = absurd (cc at.stands_in.issuing)
managers_call s h n seen since d Saved call asked come next at = absurd (cc at.issues.issuing)
managers_call s h n seen since d (Asked order) call asked come next at = absurd next
managers_call s h n seen since d Wrote call asked come next at = absurd next
managers_call s h n seen since d (Refused entry obstacle) call asked come next at = absurd next
managers_call s h n seen since d Barred call asked come next at = absurd next

-- ---- they are short

pub octets_short : (seen : Views) (c : Certificate) (call : Call) → IsUsual c → (w : IsSigned seen c call) → length (signed_octets (body_of c.spec w.key) w.signature) ≤ 16777216
octets_short seen c call usual w = request_short c.spec w.has.file w.key w.signature usual.curve usual.addresses usual.names w.reads w.has.fit w.size

small_made : (c : Certificate) (k : SecretObject) (octets : List ℕ) → length octets ≤ 16777216 → IsSmallRequest (make_request c k octets)
unfolding make_request new_request request_spec
small_made c k octets short = short

pub small_call : (seen : Views) (c : Certificate) (call : Call) → IsUsual c → IsManagersCall seen c call → IsSmallRequest call
small_call seen c call usual (inl (inl w)) = subst IsSmallRequest (sym w.is) tt
small_call seen c call usual (inl (inr w)) = subst IsSmallRequest (sym w.is) tt
small_call seen c call usual (inr w) = subst IsSmallRequest (sym w.is) (small_made c w.has.key (signed_octets (body_of c.spec w.key) w.signature) (octets_short seen c call usual w))
