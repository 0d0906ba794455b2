-- The table of issuing, line by line.
use Rattle.std.proofs.Common.{◌≡◌, ◌&&◌, ◌==◌, eqb-true, ℕ, ℤ, List, [], ◌∷◌, Option, Some, None, Bool, true, false, not, refl, sym, ap, ◌∙◌}
use Rattle.std.proofs.lemmas.Slice.Eq.{bytes_eq-Decides}
use Rattle.std.specs.Prelude.{codes, find, length, nat_le, if◌then◌else◌}
use Rattle.std.specs.Str.{bytes_eq}
use Rattle.std.proofs.lemmas.Bool.{and_parts}
use Rattle.cmc_meta.specs.declared.conditions.Condition.{Condition}
use Rattle.cmc_meta.specs.declared.conditions.ConditionKind.{ConditionKind}
use Rattle.cmc_meta.specs.declared.conditions.ConditionKind.TheVariants as kinds
use Rattle.cmc_meta.specs.declared.conditions.Tri.{Tri}
use Rattle.cmc_meta.specs.declared.conditions.Tri.TheVariants.{True, False, Unknown}
use Rattle.cmc_meta.specs.ConditionLists.{condition_rank, condition_at, tri_eq}
use Rattle.cmc_objects.specs.declared.certificate.Certificate.{Certificate}
use Rattle.cmc_objects.specs.declared.request.CertificateRequest.{CertificateRequest}
use Rattle.cmc_objects.specs.declared.secret.Secret.{Secret as SecretObject}
use Rattle.cmc_objects.specs.declared.role.Role.TheVariants.{Issuing}
use Rattle.cmc_objects.specs.declared.orders.Order.{Order}
use Rattle.cmc_objects.specs.declared.call.Call.{Call}
use Rattle.cmc_objects.specs.Requests.{is_approved, is_denied}
use Rattle.cmc_match.specs.Facts.{key_in, fits}
use Rattle.cmc_match.specs.Marks.{asks_for_temporary}
use Rattle.cmc_match.specs.Matches.{matches, has_key}
use Rattle.cmc_match.specs.Revisions.{next_request}
use Rattle.cmc_match.proofs.MatchLaws.{matching}
use Rattle.cmc_answers.specs.Temporary.{temporary}
use Rattle.cmc_pass.specs.declared.pass.Views.{Views}
use Rattle.cmc_pass.specs.declared.pass.Act.{Act}
use Rattle.cmc_pass.specs.declared.pass.Act.TheVariants.{Nothing, Issue, Temporary}
use Rattle.cmc_pass.specs.declared.value.Value.{Value}
use Rattle.cmc_rules.specs.Trigger.{is_issuing}
use Rattle.cmc_rules.specs.NextKeys.{is_named, named_key}
use Rattle.cmc_rules.specs.NextRequests.{is_wanted, is_refused}
use Rattle.cmc_rules.specs.Issuance.{issued_status, failure, issue_plan, temporary_plan, says_issued, is_granted, fails_now, refusal, is_certified, is_kept_for_keys, lacks_certificate, temporary_with, while_waiting, with_granted, with_wanted, with_request, with_file, with_key_of, issuing_of, issuing}
use Rattle.cmc_rules.specs.Safety.{IsIssued}
use Rattle.cmc_rules.specs.SeenObjects.{IsWellSeen}
use Rattle.cmc_rules.specs.Sound.{IsReadyToIssue, IsSigned, IsMarked, IsIssuance, IsTemporaryPlan, IsWithin}
use Rattle.cmc_rules.proofs.Sights.{found_among}
use Rattle.cmc_rules.proofs.Lines.{by_test}
use Rattle.cmc_issuing.proofs.StatusWrites.{failing, raising, is_status}
use Rattle.cmc_issuing.proofs.SecretWrites.{secret_written, secret_unmarked, secret_marked}
use Rattle.cmc_issuing.proofs.Targets.{stands_in, signed_of, marked_of}

abbrev After : Type 0
After = Order → Value → Option Call

abbrev Is : After → Views → ℤ → Act → Type 0
Is after seen now a = IsWithin Issuing after seen now a

is_not : (b : Bool) → not b ≡ true → b ≡ false
is_not true h = absurd (cc h)
is_not false h = refl

-- ---- the key that the status names

passes_by : {A : Type 0} (b : Bool) (f : A → Bool) (x : A) (xs : List A) (a : A) → f x ≡ b → (if b then Some x else find f xs) ≡ Some a → (find f xs ≡ Some a → f a ≡ true) → f a ≡ true
passes_by true f x xs a e is later = let same : x ≡ a = cc is in ap f (sym same) ∙ e
passes_by false f x xs a e is later = later is

found_passes : {A : Type 0} (f : A → Bool) (xs : List A) (a : A) → find f xs ≡ Some a → f a ≡ true
found_passes f [] a is = absurd (cc is)
found_passes f (x ∷ xs) a is = passes_by (f x) f x xs a refl is (found_passes f xs a)

named_by : (name : Option (List ℕ)) (k : SecretObject) → is_named name k ≡ true → name ≡ Some k.meta.name
named_by None k is = absurd (cc is)
named_by (Some name) k is = ap (λ (text : List ℕ). Some text) (sym ((bytes_eq-Decides k.meta.name name).0 is))

-- ---- the issuer has issued

kind_is : (k : ConditionKind) → condition_rank k ≡ condition_rank kinds.Ready → k ≡ kinds.Ready
kind_is kinds.Ready is = refl
kind_is kinds.Issuing is = absurd (cc is)
kind_is kinds.Approved is = absurd (cc is)
kind_is kinds.Denied is = absurd (cc is)
kind_is kinds.InvalidRequest is = absurd (cc is)

true_is : (t : Tri) → tri_eq t True ≡ true → t ≡ True
true_is True is = refl
true_is False is = absurd (cc is)
true_is Unknown is = absurd (cc is)

issued_by : (r : CertificateRequest) (ready : Option Condition) → condition_at r.status.conditions kinds.Ready ≡ ready → says_issued ready ≡ true → IsIssued r
issued_by r None e is = absurd (cc is)
issued_by r (Some ready) e is =
    let parts = and_parts (tri_eq ready.status True) (bytes_eq ready.reason (codes "Issued")) is in
    let kind : ready.kind ≡ kinds.Ready = kind_is ready.kind (eqb-true (condition_rank ready.kind) (condition_rank kinds.Ready) (found_passes (λ (c : Condition). condition_rank c.kind == condition_rank kinds.Ready) r.status.conditions ready e)) in
    let status : ready.status ≡ True = true_is ready.status parts.0 in
    let reason : ready.reason ≡ codes "Issued" = (bytes_eq-Decides ready.reason (codes "Issued")).0 parts.1 in
    record {
      since = ready.since;
      message = ready.message;
      ready = e ∙ (λ i. Some (record { kind = kind i; status = status i; reason = reason i; message = ready.message; since = ready.since }));
    }

-- ---- the lines, as they are reached

record IsReached (seen : Views) (c : Certificate) : Type 0 where
  well : IsWellSeen seen
  sees : seen.certificate ≡ Some c

-- with the key that the status names, which fits
record HasKeyFile (seen : Views) (c : Certificate) (k : SecretObject) (file : List ℕ) : Type 0 where
  named : named_key c.status.next_key seen.next ≡ Some k
  is_key : key_in k ≡ Some file
  fit : fits c.spec.key file ≡ true

-- and the request of the next revision, which asks for what the Certificate asks for, with that key
record HasRequest (seen : Views) (c : Certificate) (file : List ℕ) (r : CertificateRequest) : Type 0 where
  next : next_request c.status.revision seen.requests ≡ Some r
  matches : matches c.spec r ≡ true
  has : has_key r file ≡ true

prepared : (seen : Views) (c : Certificate) (k : SecretObject) (file : List ℕ) (r : CertificateRequest) → IsReached seen c → HasKeyFile seen c k file → HasRequest seen c file r → IsReadyToIssue seen c r k file
prepared seen c k file r reached key request = record {
  sees = reached.sees;
  next = request.next;
  matches = (matching c.spec r).0 request.matches;
  named = named_by c.status.next_key k (found_passes (is_named c.status.next_key) seen.next k key.named);
  among = found_among (is_named c.status.next_key) seen.next k key.named;
  is_key = key.is_key;
}

-- ---- the plans

issuance : (seen : Views) (now : ℤ) (c : Certificate) (k : SecretObject) (file : List ℕ) (r : CertificateRequest) → IsReached seen c → HasKeyFile seen c k file → HasRequest seen c file r
    → is_granted r ≡ true → is_certified file r.status.certificate ≡ true → is_kept_for_keys seen.secret ≡ false → IsIssuance Issuing seen now (issue_plan now c file r seen.secret)
unfolding issue_plan
issuance seen now c k file r reached key request granted read free =
    let parts = and_parts (says_issued (condition_at r.status.conditions kinds.Ready)) (is_approved r && not (is_denied r)) granted in record {
      issuing = refl;
      certificate = c;
      request = r;
      key = k;
      file = file;
      prepared = prepared seen c k file r reached key request;
      approved = (and_parts (is_approved r) (not (is_denied r)) parts.1).0;
      issued = issued_by r (condition_at r.status.conditions kinds.Ready) refl parts.0;
      get = refl;
      version = refl;
      is_secret = secret_unmarked c file r.status.certificate r.status.ca seen.secret;
      secret = secret_written (IsSigned c r file) seen now false c file r.status.certificate r.status.ca seen.secret reached.well reached.sees refl free (signed_of c r file read key.fit request.has);
      is_status = is_status (issued_status now c.status) c;
      status = raising seen now c reached.sees;
    }

standing : (seen : Views) (now : ℤ) (c : Certificate) (k : SecretObject) (file certificate : List ℕ) (r : CertificateRequest) → IsReached seen c → HasKeyFile seen c k file → HasRequest seen c file r
    → asks_for_temporary c ≡ true → is_denied r ≡ false → is_kept_for_keys seen.secret ≡ false → temporary r.spec.request file now ≡ Some certificate → nat_le (length certificate) 16777216 ≡ true
    → IsTemporaryPlan Issuing seen now (temporary_plan c file certificate seen.secret)
unfolding temporary_plan
standing seen now c k file certificate r reached key request asks granted free is small = record {
  issuing = refl;
  certificate = c;
  request = r;
  key = k;
  file = file;
  prepared = prepared seen c k file r reached key request;
  get = refl;
  version = refl;
  is_marked = secret_marked c file certificate [] seen.secret;
  secret =
      secret_written (IsMarked c r file now) seen now true c file certificate [] seen.secret reached.well reached.sees refl free
      (marked_of c r file certificate now (stands_in r.spec.request file certificate now is small) is asks granted key.fit request.has);
}

-- ---- each act is within

stand_in_is : (after : After) (seen : Views) (now : ℤ) (c : Certificate) (k : SecretObject) (file : List ℕ) (r : CertificateRequest) (made : Option (List ℕ)) → IsReached seen c → HasKeyFile seen c k file → HasRequest seen c file r
    → asks_for_temporary c ≡ true → is_denied r ≡ false → is_kept_for_keys seen.secret ≡ false → temporary r.spec.request file now ≡ made → Is after seen now (temporary_with c file seen.secret made)
stand_in_is after seen now c k file r None reached key request asks granted free is = tt
stand_in_is after seen now c k file r (Some certificate) reached key request asks granted free is =
    by_test (Is after seen now) (nat_le (length certificate) 16777216) (Temporary (temporary_plan c file certificate seen.secret)) Nothing
    (λ small. standing seen now c k file certificate r reached key request asks granted free is small) (λ large. tt)

waiting_is : (after : After) (seen : Views) (now : ℤ) (c : Certificate) (k : SecretObject) (file : List ℕ) (r : CertificateRequest) → IsReached seen c → HasKeyFile seen c k file → HasRequest seen c file r
    → Is after seen now (while_waiting now c file seen.secret r)
waiting_is after seen now c k file r reached key request =
    by_test (Is after seen now) (asks_for_temporary c && (not (is_denied r) && (not (is_kept_for_keys seen.secret) && lacks_certificate file seen.secret))) _ _
    (λ on.
    let asks = and_parts (asks_for_temporary c) (not (is_denied r) && (not (is_kept_for_keys seen.secret) && lacks_certificate file seen.secret)) on in
    let granted = and_parts (not (is_denied r)) (not (is_kept_for_keys seen.secret) && lacks_certificate file seen.secret) asks.1 in
    let free = and_parts (not (is_kept_for_keys seen.secret)) (lacks_certificate file seen.secret) granted.1 in
    stand_in_is after seen now c k file r (temporary r.spec.request file now) reached key request asks.0 (is_not (is_denied r) granted.0) (is_not (is_kept_for_keys seen.secret) free.0) refl) (λ off. tt)

granted_is : (after : After) (seen : Views) (now : ℤ) (c : Certificate) (k : SecretObject) (file : List ℕ) (r : CertificateRequest) → IsReached seen c → HasKeyFile seen c k file → HasRequest seen c file r
    → is_granted r ≡ true → Is after seen now (with_granted now c file seen.secret r)
granted_is after seen now c k file r reached key request granted =
    by_test (Is after seen now) (is_certified file r.status.certificate) _ _
    (λ read. by_test (Is after seen now) (is_kept_for_keys seen.secret) Nothing (Issue (issue_plan now c file r seen.secret)) (λ kept. tt) (λ free. issuance seen now c k file r reached key request granted read free))
    (λ foreign. failing after seen now (codes "InvalidCertificate") c reached.sees)

wanted_is : (after : After) (seen : Views) (now : ℤ) (c : Certificate) (k : SecretObject) (file : List ℕ) (r : CertificateRequest) → IsReached seen c → HasKeyFile seen c k file → HasRequest seen c file r
    → Is after seen now (with_wanted now c file seen.secret r)
wanted_is after seen now c k file r reached key request =
    by_test (Is after seen now) (is_refused r) _ _
    (λ refused. by_test (Is after seen now) (fails_now c r r.status.failure) (failure now (refusal r) c) Nothing (λ now_. failing after seen now (refusal r) c reached.sees) (λ before. tt))
    (λ open_. by_test (Is after seen now) (is_granted r) _ _ (λ granted. granted_is after seen now c k file r reached key request granted) (λ waits. waiting_is after seen now c k file r reached key request))

request_is : (after : After) (seen : Views) (now : ℤ) (c : Certificate) (k : SecretObject) (file : List ℕ) (next : Option CertificateRequest) → IsReached seen c → HasKeyFile seen c k file
    → next_request c.status.revision seen.requests ≡ next → Is after seen now (with_request now c file seen.secret next)
request_is after seen now c k file None reached key is = tt
request_is after seen now c k file (Some r) reached key is =
    by_test (Is after seen now) (is_wanted c file r) _ _
    (λ on. let parts = and_parts (matches c.spec r) (has_key r file) on in wanted_is after seen now c k file r reached key (record { next = is; matches = parts.0; has = parts.1 })) (λ off. tt)

file_is : (after : After) (seen : Views) (now : ℤ) (c : Certificate) (k : SecretObject) (file : Option (List ℕ)) → IsReached seen c → named_key c.status.next_key seen.next ≡ Some k → key_in k ≡ file
    → Is after seen now (with_file now c seen.secret seen.requests file)
file_is after seen now c k None reached named is = tt
file_is after seen now c k (Some file) reached named is =
    by_test (Is after seen now) (fits c.spec.key file) _ _
    (λ fit. request_is after seen now c k file (next_request c.status.revision seen.requests) reached (record { named = named; is_key = is; fit = fit }) refl) (λ off. tt)

key_is : (after : After) (seen : Views) (now : ℤ) (c : Certificate) (key : Option SecretObject) → IsReached seen c → named_key c.status.next_key seen.next ≡ key
    → Is after seen now (with_key_of now c seen.secret seen.requests key)
key_is after seen now c None reached named = tt
key_is after seen now c (Some k) reached named = file_is after seen now c k (key_in k) reached named refl

of_is : (after : After) (seen : Views) (now : ℤ) (o : Option Certificate) → IsWellSeen seen → seen.certificate ≡ o → Is after seen now (issuing_of now seen.next seen.secret seen.requests o)
of_is after seen now None well sees = tt
of_is after seen now (Some c) well sees =
    by_test (Is after seen now) (is_issuing c) _ _
    (λ on. key_is after seen now c (named_key c.status.next_key seen.next) (record { well = well; sees = sees }) refl) (λ off. tt)

pub within : (after : After) (seen : Views) (now : ℤ) → IsWellSeen seen → Is after seen now (issuing seen now)
unfolding issuing
within after seen now well = of_is after seen now seen.certificate well refl
