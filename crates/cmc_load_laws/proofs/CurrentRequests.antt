-- The writes of the request manager lower the measure, where it sees what there is to see, and one next request at most.
use Rattle.std.proofs.Common.{◌≡◌, ◌≤◌, ◌⊎◌, ◌+◌, ◌<◌, ◌^◌, ◌∷◌, ◌&&◌, [], ℕ, ℤ, List, length, Bool, true, false, Option, Some, None, refl, sym, ap, subst, ◌∙◌, inl, inr, arith}
use Rattle.std.proofs.lemmas.Bool.{and_from, and_parts}
use Rattle.std.proofs.lemmas.Slice.Eq.{bytes_eq-Decides}
use Rattle.std.specs.Prelude.{find, unwrap_or, if◌then◌else◌}
use Rattle.std.specs.Str.{bytes_eq}
use Rattle.cmc_der.specs.Keys.{PublicKey}
use Rattle.cmc_meta.specs.declared.key.Key.{Key}
use Rattle.cmc_meta.specs.declared.key.Kind.TheVariants as kinds
use Rattle.cmc_meta.proofs.DecimalLaws.{number_again}
use Rattle.cmc_x509.specs.ReadKeys.{key_file_at}
use Rattle.cmc_objects.specs.declared.certificate.Certificate.{Certificate}
use Rattle.cmc_objects.specs.declared.request.CertificateRequest.{CertificateRequest}
use Rattle.cmc_objects.specs.declared.secret.Secret.{Secret as SecretObject}
use Rattle.cmc_objects.specs.declared.object.Object.{Object}
use Rattle.cmc_objects.specs.declared.object.Object.TheVariants.{Cert, Request}
use Rattle.cmc_objects.specs.declared.call.Call.{Call}
use Rattle.cmc_objects.specs.declared.call.Call.TheVariants.{Create, Delete}
use Rattle.cmc_objects.specs.declared.call.Reply.{Reply}
use Rattle.cmc_objects.specs.declared.call.Reply.TheVariants.{Ok, Unchanged, Found, Conflict, NotFound, AlreadyExists, Invalid, Unavailable}
use Rattle.cmc_objects.specs.declared.entry.Entry.{Entry}
use Rattle.cmc_objects.specs.declared.entry.Entry.TheVariants.{Call as Called}
use Rattle.cmc_objects.specs.declared.entry.Who.TheVariants.{Pass}
use Rattle.cmc_objects.specs.declared.orders.Order.{Order}
use Rattle.cmc_objects.specs.declared.role.Role.{Role}
use Rattle.cmc_objects.specs.declared.role.Role.TheVariants.{RequestManager}
use Rattle.cmc_objects.specs.Objects.{key_of, no_request_status}
use Rattle.cmc_match.specs.Facts.{key_in}
use Rattle.cmc_pass.specs.declared.pass.Act.TheVariants.{Ask as Asks}
use Rattle.cmc_pass.specs.declared.pass.Desk.{Desk}
use Rattle.cmc_pass.specs.declared.pass.Views.{Views}
use Rattle.cmc_pass.specs.declared.value.Value.{Value}
use Rattle.cmc_pass.specs.declared.value.Value.TheVariants as values
use Rattle.cmc_model.specs.Acceptance.{IsFounded}
use Rattle.cmc_model.specs.Generated.{named}
use Rattle.cmc_model.specs.Objects.{Objects, object_at}
use Rattle.cmc_model.specs.Replies.{is_accepted, key_of_call, put_at, settled, stored}
use Rattle.cmc_model.specs.Stored.{created}
use Rattle.cmc_model.specs.Histories.{Setting, moment, objects, accepted}
use Rattle.cmc_model.specs.Writes.{writes}
use Rattle.cmc_informer.specs.Caches.{names}
use Rattle.cmc_rules.specs.declared.progress.OpenPass.{OpenPass}
use Rattle.cmc_rules.specs.declared.progress.Stage.{Stage}
use Rattle.cmc_rules.specs.declared.progress.Stage.TheVariants.{Fresh, Asked, Given, Read, Saved, Wrote, Refused, Barred}
use Rattle.cmc_rules.specs.Acts.{act, call_after}
use Rattle.cmc_rules.specs.Causes.{IsNextCall}
use Rattle.cmc_rules.specs.Desks.{desk}
use Rattle.cmc_rules.specs.Legality.{IsLegal}
use Rattle.cmc_rules.specs.NextKeys.{named_key}
use Rattle.cmc_rules.specs.NextRequests.{HasNextRevision, is_next, is_wanted, next_requests, next_revision}
use Rattle.cmc_rules.specs.Owners.{owned_meta, owner_of}
use Rattle.cmc_rules.specs.Passes.{open_pass}
use Rattle.cmc_rules.specs.RequestManager as requests
use Rattle.cmc_rules.specs.RequestManager.{is_stale, make_request, new_request, request_after, request_marks}
use Rattle.cmc_rules.specs.SeenObjects.{IsAmong}
use Rattle.cmc_rules.specs.Views.{is_owned, views_in, views_of}
use Rattle.cmc_rules.proofs.Sighted.{AreKnown, stands_as_seen}
use Rattle.cmc_rules.proofs.Sights.{found_among, seen_owned}
use Rattle.cmc_rules.proofs.Versions.{version_keyed}
use Rattle.cmc_safety.proofs.Course.{of_open}
use Rattle.cmc_safety.proofs.NextCalls.{IsCallAt}
use Rattle.cmc_load_laws.specs.Frame.{part_for, seen_of}
use Rattle.cmc_load_laws.specs.LoadRuns.{HasFewRequests, IsSmallRequest, LowersMeasure, SeesAll}
use Rattle.cmc_load_laws.proofs.AskedActs.{AskedByAct, HoldsOfQuestion, IsOfAct, asked_act}
use Rattle.cmc_load_laws.proofs.Belonging.{certificate_of}
use Rattle.cmc_load_laws.proofs.CurrentHistories.{IsOfLoad}
use Rattle.cmc_load_laws.proofs.CurrentStatuses.{sees_part}
use Rattle.cmc_load_laws.proofs.LoadHistories.{IsForOneIn}
use Rattle.cmc_load_laws.proofs.MeasureLowers.{LowersOver, lowers_measure}
use Rattle.cmc_load_laws.proofs.Outdated.{outdated_falls}
use Rattle.cmc_load_laws.proofs.OwnedRequests.{dropped_over, made_over}
use Rattle.cmc_load_laws.proofs.PassRights.{IsAcceptedBy, call_as, next_as}
use Rattle.cmc_load_laws.proofs.RequestCalls.{HasNamedKey, IsAskingOne, IsRequestCall, IsRequestManaging, IsStaleDrop, first_request, request_asked}
use Rattle.cmc_load_laws.proofs.Requested.{own_fresh, own_fresh_for, own_revision, requested_falls}
use Rattle.cmc_load_laws.proofs.Restated.{has_by, matches_by}
use Rattle.cmc_load_laws.proofs.WritesForOne.{own_uid}

-- each request that the request manager makes is wanted
abbrev pub OwnRequestsAreWanted : Type 0
OwnRequestsAreWanted =
    (seen : Views) (now : ℤ) (order : Order) (value : Value) (c : Certificate) (k : SecretObject) (file : List ℕ) (made : CertificateRequest) → seen.certificate ≡ Some c → named_key c.status.next_key seen.next ≡ Some k → key_in k ≡ Some file
    → call_after RequestManager seen now order value ≡ Some (Create (Request made) true) → length made.spec.request ≤ 16777216 → is_wanted c file made ≡ true

-- ---- its calls

-- there is none, and one that is wanted is made
pub record IsRequesting (seen : Views) (c : Certificate) (call : Call) : Type 0 where
  pub asks : IsAskingOne seen c
  pub octets : List ℕ
  pub is : call ≡ make_request c asks.has.key octets
  pub wanted : is_wanted c asks.has.file (new_request c asks.has.key octets) ≡ true

first_call : (seen : Views) (since : ℤ) (d : Desk) (call : Call) → IsNextCall Fresh (act RequestManager seen since d) (call_after RequestManager seen since) call → IsRequestManaging seen (λ c. IsRequestCall seen c call)
unfolding act
first_call seen since d call next = first_request seen call next

asks_one : (seen : Views) (since : ℤ) (d : Desk) (order : Order) → act RequestManager seen since d ≡ Asks order → IsRequestManaging seen (λ c. IsAskingOne seen c)
unfolding act
asks_one seen since d order asks = request_asked seen order asks

of_octets : (c : Certificate) (k : SecretObject) (octets : List ℕ) (call : Call) → Some (make_request c k octets) ≡ Some call → (o : List ℕ) × (call ≡ make_request c k o)
of_octets c k octets call is = (octets, sym (let same : make_request c k octets ≡ call = cc is in same))

signed_one : (c : Certificate) (k : SecretObject) (key : Option PublicKey) (signature : List ℕ) (call : Call) → requests.signed_by c k key signature ≡ Some call → (octets : List ℕ) × (call ≡ make_request c k octets)
signed_one c k None signature call is = absurd (cc is)
signed_one c k (Some key) signature call is = of_octets c k _ call is

signed_with : (seen : Views) (c : Certificate) (has : HasNamedKey seen c) (signature : List ℕ) (call : Call) → seen.certificate ≡ Some c → requests.signed_for seen.certificate seen.next signature ≡ Some call
    → (octets : List ℕ) × (call ≡ make_request c has.key octets)
signed_with seen c has signature call sees is =
    signed_one c has.key (key_file_at has.file) signature call
    (sym (ap (λ (o : Option (List ℕ)). requests.signed_in c has.key o signature) has.holds)
    ∙ sym (ap (λ (o : Option SecretObject). requests.signed_with c o signature) has.named)
    ∙ sym (ap (λ (o : Option Certificate). requests.signed_for o seen.next signature) sees) ∙ is)

of_value : (seen : Views) (since : ℤ) (order : Order) (value : Value) (c : Certificate) (has : HasNamedKey seen c) (call : Call) → seen.certificate ≡ Some c → call_after RequestManager seen since order value ≡ Some call
    → (octets : List ℕ) × (call ≡ make_request c has.key octets)
unfolding call_after request_after
of_value seen since order (values.Signed signature) c has call sees is = signed_with seen c has signature call sees is
of_value seen since order (values.Made file) c has call sees is = absurd (cc is)
of_value seen since order (values.Answered answer) c has call sees is = absurd (cc is)
of_value seen since order (values.Judged approved) c has call sees is = absurd (cc is)

small_one : (c : Certificate) (k : SecretObject) (octets : List ℕ) → IsSmallRequest (make_request c k octets) → length (new_request c k octets).spec.request ≤ 16777216
unfolding make_request
small_one c k octets small = small

made_one : (c : Certificate) (k : SecretObject) (octets : List ℕ) → make_request c k octets ≡ Create (Request (new_request c k octets)) true
unfolding make_request
made_one c k octets = refl

given_call : OwnRequestsAreWanted → (seen : Views) (since : ℤ) (d : Desk) (order : Order) (value : Value) (call : Call) → act RequestManager seen since d ≡ Asks order → IsSmallRequest call → call_after RequestManager seen since order value ≡ Some call
    → IsRequestManaging seen (λ c. IsRequesting seen c call)
given_call wanted seen since d order value call asks small is =
    let by = asks_one seen since d order asks in
    let c : Certificate = by.certificate in
    let has : HasNamedKey seen c = by.so.has in
    let made = of_value seen since order value c has call by.sees is in
    let call_is : call_after RequestManager seen since order value ≡ Some (Create (Request (new_request c has.key made.0)) true) = is ∙ ap Some (made.1 ∙ made_one c has.key made.0) in
    record {
      certificate = c;
      sees = by.sees;
      so = record {
        asks = by.so;
        octets = made.0;
        is = made.1;
        wanted = wanted seen since order value c has.key has.file (new_request c has.key made.0) by.sees has.named has.holds call_is (small_one c has.key made.0 (subst IsSmallRequest made.1 small));
      };
    }

-- a call of either kind
abbrev IsItsCall : Views → Certificate → Call → Type 0
IsItsCall seen c call = IsRequestCall seen c call ⊎ IsRequesting seen c call

on_first : (seen : Views) (call : Call) → IsRequestManaging seen (λ c. IsRequestCall seen c call) → IsRequestManaging seen (λ c. IsItsCall seen c call)
on_first seen call is = record { certificate = is.certificate; sees = is.sees; so = inl is.so }

on_given : (seen : Views) (call : Call) → IsRequestManaging seen (λ c. IsRequesting seen c call) → IsRequestManaging seen (λ c. IsItsCall seen c call)
on_given seen call is = record { certificate = is.certificate; sees = is.sees; so = inr is.so }

request_call_at : OwnRequestsAreWanted → (s : Setting) (seen : Views) (since : ℤ) (d : Desk) (stage : Stage) (call : Call) → IsSmallRequest call → HoldsOfQuestion stage (IsOfAct s RequestManager seen since)
    → IsNextCall stage (act RequestManager seen since d) (call_after RequestManager seen since) call → IsCallAt stage RequestManager seen since call → IsRequestManaging seen (λ c. IsItsCall seen c call)
request_call_at wanted s seen since d Fresh call small asked next at = on_first seen call (first_call seen since d call next)
request_call_at wanted s seen since d (Given order value) call small asked next at = on_given seen call (given_call wanted seen since asked.its_desk order value call asked.asks small next)
request_call_at wanted s seen since d Read call small asked next (inl at) = absurd (cc at.issues.issuing)
request_call_at wanted s seen since d Read call small asked next (inr at) = absurd (cc at.stands_in.issuing)
request_call_at wanted s seen since d Saved call small asked next at = absurd (cc at.issues.issuing)
request_call_at wanted s seen since d (Asked order) call small asked next at = absurd next
request_call_at wanted s seen since d Wrote call small asked next at = absurd next
request_call_at wanted s seen since d (Refused entry obstacle) call small asked next at = absurd next
request_call_at wanted s seen since d Barred call small asked next at = absurd next

-- ---- what it deletes and makes

find_by : (b : Bool) (p : CertificateRequest → Bool) (x r : CertificateRequest) (rest : Option CertificateRequest) → p x ≡ b → (rest ≡ Some r → p r ≡ true) → (if b then Some x else rest) ≡ Some r → p r ≡ true
find_by true p x r rest on below is = let same : x ≡ r = cc is in ap p (sym same) ∙ on
find_by false p x r rest on below is = below is

found_is : (p : CertificateRequest → Bool) (xs : List CertificateRequest) (r : CertificateRequest) → find p xs ≡ Some r → p r ≡ true
found_is p [] r is = absurd (cc is)
found_is p (x ∷ xs) r is = find_by (p x) p x r (find p xs) refl (λ rest. found_is p xs r rest) is

pub record IsDroppedRequest (s : Setting) (h : List Entry) (call : Call) (reply : Reply) (r : CertificateRequest) : Type 0 where
  pub key : key_of_call (settled call reply) ≡ key_of (Request r)
  pub was : object_at (objects s h) (key_of (Request r)) ≡ Some (Request r)
  pub is : stored (accepted s h + 1) (moment s h) (objects s h) (settled call reply) ≡ None

dropped_by : (s : Setting) (h : List Entry) (seen : Views) (reply : Reply) (r : CertificateRequest) → IsLegal s h → AreKnown (writes s h) seen → IsAmong r seen.requests
    → IsFounded (objects s h) (settled (Delete (key_of (Request r)) (Some r.meta.version)) reply) → IsDroppedRequest s h (Delete (key_of (Request r)) (Some r.meta.version)) reply r
unfolding settled IsFounded
dropped_by s h seen reply r legal known among on =
    let same : Request r ≡ on.0 = stands_as_seen s h seen (key_of (Request r)) r.meta.version (Request r) on.0 legal known (seen_owned seen r among) refl on.1 on.2 in
    record { key = refl; was = on.1 ∙ ap Some (sym same); is = refl }

pub is_dropped_request : (s : Setting) (h : List Entry) (seen : Views) (call : Call) (reply : Reply) (r : CertificateRequest) → IsLegal s h → AreKnown (writes s h) seen → IsAmong r seen.requests → IsFounded (objects s h) (settled call reply)
    → call ≡ Delete (key_of (Request r)) (Some r.meta.version) → IsDroppedRequest s h call reply r
is_dropped_request s h seen call reply r legal known among on is =
    subst (λ (x : Call). IsDroppedRequest s h x reply r) (sym is) (dropped_by s h seen reply r legal known among (subst (λ (x : Call). IsFounded (objects s h) (settled x reply)) is on))

-- a new request of the Certificate
pub record IsNewRequest (s : Setting) (h : List Entry) (call : Call) (reply : Reply) (c : Certificate) (k : SecretObject) (octets : List ℕ) : Type 0 where
  pub made : CertificateRequest
  pub kind : (key_of_call (settled call reply)).kind ≡ kinds.CertificateRequest
  pub none : object_at (objects s h) (key_of_call (settled call reply)) ≡ None
  pub is : stored (accepted s h + 1) (moment s h) (objects s h) (settled call reply) ≡ Some (Request made)
  pub owned : is_owned c made.meta ≡ true
  pub marks : made.meta.annotations ≡ request_marks c k
  pub spec : made.spec ≡ (new_request c k octets).spec
  pub status : made.status ≡ no_request_status
  pub namespace : made.meta.namespace ≡ c.meta.namespace
  pub owners : made.meta.owners ≡ owner_of c ∷ []

owns_made : (c : Certificate) → (bytes_eq c.meta.namespace c.meta.namespace && names c.meta.uid (owner_of c ∷ [])) ≡ true
owns_made c =
    and_from (bytes_eq c.meta.namespace c.meta.namespace) (names c.meta.uid (owner_of c ∷ [])) ((bytes_eq-Decides c.meta.namespace c.meta.namespace).1 refl)
    (own_uid c c (record { namespace = refl; uid = refl; secret_name = refl }))

new_request_by : (s : Setting) (h : List Entry) (reply : Reply) (c : Certificate) (k : SecretObject) (octets : List ℕ) → is_accepted reply ≡ true → IsFounded (objects s h) (settled (make_request c k octets) reply)
    → IsNewRequest s h (make_request c k octets) reply c k octets
unfolding make_request settled IsFounded new_request owned_meta created named
new_request_by s h (Ok version name) c k octets ok on = record { made = _; kind = refl; none = on.0; is = refl; owned = owns_made c; marks = refl; spec = refl; status = refl; namespace = refl; owners = refl }
new_request_by s h (Unchanged version) c k octets ok on = absurd (cc ok)
new_request_by s h (Found object) c k octets ok on = absurd (cc ok)
new_request_by s h (Conflict at have) c k octets ok on = absurd (cc ok)
new_request_by s h (NotFound at) c k octets ok on = absurd (cc ok)
new_request_by s h (AlreadyExists have) c k octets ok on = absurd (cc ok)
new_request_by s h (Invalid rule) c k octets ok on = absurd (cc ok)
new_request_by s h (Unavailable number) c k octets ok on = absurd (cc ok)

pub is_new_request : (s : Setting) (h : List Entry) (call : Call) (reply : Reply) (c : Certificate) (k : SecretObject) (octets : List ℕ) → is_accepted reply ≡ true → IsFounded (objects s h) (settled call reply) → call ≡ make_request c k octets
    → IsNewRequest s h call reply c k octets
is_new_request s h call reply c k octets ok on is =
    subst (λ (x : Call). IsNewRequest s h x reply c k octets) (sym is) (new_request_by s h reply c k octets ok (subst (λ (x : Call). IsFounded (objects s h) (settled x reply)) is on))

wanted_by : (c : Certificate) (file : List ℕ) (r made : CertificateRequest) → made.spec ≡ r.spec → is_wanted c file r ≡ true → is_wanted c file made ≡ true
wanted_by c file r made spec wanted = rw (matches_by c.spec r made spec, has_by file r made spec) wanted

pub low_revision : (c : Certificate) (o : Option Certificate) → o ≡ Some c → HasNextRevision o → next_revision c < 2 ^ 64
low_revision c o sees has = let low : unwrap_or c.status.revision 0 < 2 ^ 63 = subst HasNextRevision sees has in omega (arith, low)

-- ---- the measure

module _ (s : Setting) (h : List Entry) (n : ℕ) (call : Call) (reply : Reply) (a : IsAcceptedBy s h n call reply) (is_role : a.caller.pass.role ≡ RequestManager) (current : SeesAll s h a.caller.pass) (c : Certificate) (sees : a.caller.pass.seen.certificate ≡ Some c)
    (one : IsForOneIn (objects s h) (key_of_call (settled call reply)) (stored (accepted s h + 1) (moment s h) (objects s h) (settled call reply))) where
  key_is : key_of (Cert c) ≡ a.caller.pass.key
  key_is = version_keyed s h a.caller.pass.key (Cert c) a.legal (a.caller.version c sees)

  part : a.caller.pass.seen ≡ part_for RequestManager (seen_of (objects s h) a.caller.pass.key)
  part = sees_part s h a.caller.pass RequestManager refl is_role current

  present : object_at (objects s h) (key_of (Cert c)) ≡ Some (Cert c)
  unfolding views_in views_of
  present = ap (object_at (objects s h)) key_is ∙ certificate_of (object_at (objects s h) a.caller.pass.key) c (sym (ap (λ (v : Views). v.certificate) part) ∙ sees)

  next_is : (seen_of (objects s h) (key_of (Cert c))).next ≡ a.caller.pass.seen.next
  next_is = ap (λ (k : Key). (seen_of (objects s h) k).next) key_is ∙ sym (ap (λ (v : Views). v.next) part)

  requests_are : (seen_of (objects s h) (key_of (Cert c))).requests ≡ a.caller.pass.seen.requests
  requests_are = ap (λ (k : Key). (seen_of (objects s h) k).requests) key_is ∙ sym (ap (λ (v : Views). v.requests) part)

  named_there : (k : SecretObject) → named_key c.status.next_key a.caller.pass.seen.next ≡ Some k → named_key c.status.next_key (seen_of (objects s h) (key_of (Cert c))).next ≡ Some k
  named_there k is = ap (named_key c.status.next_key) next_is ∙ is

  stale : IsStaleDrop a.caller.pass.seen c call → LowersMeasure s h (Called (Pass n) call reply)
  stale w =
      let m : Objects = objects s h in
      let r : CertificateRequest = w.request in
      let among : IsAmong r a.caller.pass.seen.requests = found_among (λ x. is_next c x && is_stale c w.has.file x) a.caller.pass.seen.requests r w.found in
      let both = and_parts (is_next c r) (is_stale c w.has.file r) (found_is (λ x. is_next c x && is_stale c w.has.file x) a.caller.pass.seen.requests r w.found) in
      let d = is_dropped_request s h a.caller.pass.seen call reply r a.legal a.caller.saw.known among a.founded w.is in
      let new : Option Object = stored (accepted s h + 1) (moment s h) m (settled call reply) in
      let here = subst (λ (x : Option Object). IsForOneIn m (key_of (Request r)) x) d.is (subst (λ (q : Key). IsForOneIn m q new) d.key one) in
      let over = dropped_over s (moment s h) m c r here present d.was (a.caller.saw.well.request_owned c r sees among)
      (λ desk due first rest are. outdated_falls desk due (moment s h) (seen_of m (key_of (Cert c))) c first rest r w.has.key w.has.file w.has.issuing (named_there w.has.key w.has.named) w.has.holds both.0 both.1)
      in
      lowers_measure s h n call reply a.ok
      (subst (λ (q : Key). LowersOver s (moment s h) m (put_at m q new)) (sym d.key) (subst (λ (x : Option Object). LowersOver s (moment s h) m (put_at m (key_of (Request r)) x)) (sym d.is) over))

  requesting : HasNextRevision a.caller.pass.seen.certificate → IsRequesting a.caller.pass.seen c call → LowersMeasure s h (Called (Pass n) call reply)
  requesting revision w =
      let m : Objects = objects s h in
      let v : Views = seen_of m (key_of (Cert c)) in
      let has : HasNamedKey a.caller.pass.seen c = w.asks.has in
      let q = is_new_request s h call reply c has.key w.octets a.ok a.founded w.is in
      let key : Key = key_of_call (settled call reply) in
      let next : is_next c q.made ≡ true = own_revision c has.key q.made q.marks (number_again (next_revision c) (low_revision c a.caller.pass.seen.certificate sees revision)) in
      let wanted : is_wanted c has.file q.made ≡ true = wanted_by c has.file (new_request c has.key w.octets) q.made q.spec w.wanted in
      let over = made_over s (moment s h) m key c q.made (subst (λ (x : Option Object). IsForOneIn m key x) q.is one) q.kind present q.none q.owned
      (λ desk due first rest are.
      requested_falls desk due (moment s h) v c first rest q.made has.issuing (ap (next_requests c) (sym are ∙ requests_are) ∙ w.asks.none) next
      (own_fresh_for c first rest q.made v.next has.key has.file (named_there has.key has.named) has.holds has.fit (own_fresh c has.file q.made next wanted q.status)))
      in
      lowers_measure s h n call reply a.ok (subst (λ (x : Option Object). LowersOver s (moment s h) m (put_at m key x)) (sym q.is) over)

  pub request_lowers_by : HasNextRevision a.caller.pass.seen.certificate → HasFewRequests a.caller.pass.seen → IsItsCall a.caller.pass.seen c call → LowersMeasure s h (Called (Pass n) call reply)
  request_lowers_by revision few (inl (inl w)) = stale w
  request_lowers_by revision few (inl (inr w)) = absurd (omega (arith, few c sees, w.many))
  request_lowers_by revision few (inr w) = requesting revision w

pub request_manager_lowers : OwnRequestsAreWanted → (s : Setting) (h : List Entry) (n : ℕ) (call : Call) (reply : Reply) (a : IsAcceptedBy s h n call reply) → IsOfLoad s h → HasNextRevision a.caller.pass.seen.certificate
    → a.caller.pass.role ≡ RequestManager → SeesAll s h a.caller.pass → HasFewRequests a.caller.pass.seen → IsSmallRequest call
    → IsForOneIn (objects s h) (key_of_call (settled call reply)) (stored (accepted s h + 1) (moment s h) (objects s h) (settled call reply)) → LowersMeasure s h (Called (Pass n) call reply)
request_manager_lowers wanted s h n call reply a load revision is current few small one =
    let p : OpenPass = a.caller.pass in
    let asked = of_open (AskedByAct s) (open_pass s h n) p a.caller.opened (asked_act s h n load.played.caused) in
    let by = request_call_at wanted s p.seen p.since (desk s h p.role p.seen) p.stage call small (subst (λ (r : Role). HoldsOfQuestion p.stage (IsOfAct s r p.seen p.since)) is asked) (next_as s h n call reply a RequestManager is) (call_as s h n call reply a RequestManager is) in
    request_lowers_by s h n call reply a is current by.certificate by.sees one revision few by.so
