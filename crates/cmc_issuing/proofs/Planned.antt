-- What the writes of a plan are, where it is known that there is one.
use Rattle.std.proofs.Common.{◌≡◌, ◌∙◌, ◌&&◌, ℤ, List, Option, Some, None, Bool, true, false, not, refl, sym, ap, subst, IfOk, Result, Bor}
use Rattle.std.proofs.lemmas.Result.{IfOk-weaker}
use Rattle.std.specs.Option.{option_copied}
use Rattle.std.specs.declared.alloc.AllocError.{AllocError}
use Rattle.std.specs.Prelude.{ℕ, [], IsSome, length, nat_le, codes, if◌then◌else◌}
use Rattle.cmc_objects.specs.declared.call.Call.{Call}
use Rattle.cmc_objects.specs.declared.certificate.Certificate.{Certificate}
use Rattle.cmc_objects.specs.declared.certificate.CertStatus.{CertStatus}
use Rattle.cmc_objects.specs.declared.request.CertificateRequest.{CertificateRequest}
use Rattle.cmc_objects.specs.declared.secret.Secret.{Secret as SecretObject}
use Rattle.cmc_objects.specs.Requests.{is_denied}
use Rattle.cmc_match.specs.Facts.{key_in, fits}
use Rattle.cmc_match.specs.Marks.{asks_for_temporary}
use Rattle.cmc_match.specs.Revisions.{next_request}
use Rattle.cmc_answers.specs.Temporary.{temporary}
use Rattle.cmc_pass.specs.declared.pass.Act.{Act}
use Rattle.cmc_pass.specs.declared.pass.Act.TheVariants.{Nothing, Issue, Temporary}
use Rattle.cmc_pass.specs.declared.pass.Views.{Views}
use Rattle.cmc_rules.specs.Trigger.{is_issuing}
use Rattle.cmc_rules.specs.NextKeys.{named_key}
use Rattle.cmc_rules.specs.NextRequests.{is_wanted, is_refused}
use Rattle.cmc_rules.specs.Issuance.{issued_status, status_call, failure, secret_call, issue_plan, temporary_plan, is_granted, fails_now, refusal, is_certified, is_kept_for_keys, lacks_certificate, temporary_with, while_waiting, with_granted, with_wanted, with_request, with_file, with_key_of, issuing_of, issuing}
use Rattle.cmc_rules.proofs.Lines.{by_test}
use Rattle.cmc_issuing.specs.PlanCalls.{secret_call_of, status_call_of}

-- ---- the Secret

-- where the act has a write of the Secret it is this one
abbrev Saves : Call → Act → Type 0
Saves call a = IsSome (secret_call_of a) → secret_call_of a ≡ Some call

failure_saves : (call : Call) (m : ℤ) (reason : List ℕ) (c : Certificate) → Saves call (failure m reason c)
unfolding failure
failure_saves call m reason c some = absurd (cc some)

never : (b : Bool) → b ≡ true → b ≡ false → ⊥
never b on off = absurd (cc (on, off))

-- of an issuance
issues_it : (m : ℤ) (c : Certificate) (file : List ℕ) (target : Option SecretObject) (r : CertificateRequest) → Saves (secret_call false c file r.status.certificate r.status.ca target) (Issue (issue_plan m c file r target))
unfolding issue_plan
issues_it m c file target r some = refl

granted_saves : (m : ℤ) (c : Certificate) (file : List ℕ) (target : Option SecretObject) (r : CertificateRequest) → Saves (secret_call false c file r.status.certificate r.status.ca target) (with_granted m c file target r)
granted_saves m c file target r =
    by_test (Saves (secret_call false c file r.status.certificate r.status.ca target)) (is_certified file r.status.certificate) _ _
    (λ read. by_test (Saves (secret_call false c file r.status.certificate r.status.ca target)) (is_kept_for_keys target) Nothing (Issue (issue_plan m c file r target)) (λ kept some. absurd (cc some)) (λ free. issues_it m c file target r))
    (λ foreign. failure_saves _ m (codes "InvalidCertificate") c)

-- of a certificate that stands in
marks_it : (c : Certificate) (file certificate : List ℕ) (target : Option SecretObject) → Saves (secret_call true c file certificate [] target) (Temporary (temporary_plan c file certificate target))
unfolding temporary_plan
marks_it c file certificate target some = refl

stand_in_saves : (c : Certificate) (file certificate : List ℕ) (target : Option SecretObject) (made : Option (List ℕ)) → made ≡ Some certificate → Saves (secret_call true c file certificate [] target) (temporary_with c file target made)
stand_in_saves c file certificate target None is = absurd (cc is)
stand_in_saves c file certificate target (Some other) is =
    let same : other ≡ certificate = cc is in
    subst (λ (octets : List ℕ). Saves (secret_call true c file octets [] target) (temporary_with c file target (Some other))) same
    (by_test (Saves (secret_call true c file other [] target)) (nat_le (length other) 16777216) (Temporary (temporary_plan c file other target)) Nothing (λ small. marks_it c file other target) (λ large some. absurd (cc some)))

waiting_saves : (m : ℤ) (c : Certificate) (file certificate : List ℕ) (target : Option SecretObject) (r : CertificateRequest) → temporary r.spec.request file m ≡ Some certificate
    → Saves (secret_call true c file certificate [] target) (while_waiting m c file target r)
waiting_saves m c file certificate target r is =
    by_test (Saves (secret_call true c file certificate [] target)) (asks_for_temporary c && (not (is_denied r) && (not (is_kept_for_keys target) && lacks_certificate file target))) _ _
    (λ on. stand_in_saves c file certificate target (temporary r.spec.request file m) is) (λ off some. absurd (cc some))

-- of each
wanted_saves : (call : Call) (m : ℤ) (c : Certificate) (file : List ℕ) (target : Option SecretObject) (r : CertificateRequest) → (is_granted r ≡ true → Saves call (with_granted m c file target r))
    → (is_granted r ≡ false → Saves call (while_waiting m c file target r)) → Saves call (with_wanted m c file target r)
wanted_saves call m c file target r granted waits =
    by_test (Saves call) (is_refused r) _ _
    (λ refused. by_test (Saves call) (fails_now c r r.status.failure) (failure m (refusal r) c) Nothing (λ now_. failure_saves call m (refusal r) c) (λ before some. absurd (cc some)))
    (λ open_. by_test (Saves call) (is_granted r) _ _ granted waits)

pub issued_secret : (m : ℤ) (c : Certificate) (file : List ℕ) (target : Option SecretObject) (r : CertificateRequest) → is_granted r ≡ true → IsSome (secret_call_of (with_wanted m c file target r))
    → secret_call_of (with_wanted m c file target r) ≡ Some (secret_call false c file r.status.certificate r.status.ca target)
issued_secret m c file target r granted =
    wanted_saves _ m c file target r (λ on. granted_saves m c file target r) (λ off. absurd (never (is_granted r) granted off))

pub marked_secret : (m : ℤ) (c : Certificate) (file certificate : List ℕ) (target : Option SecretObject) (r : CertificateRequest) → is_granted r ≡ false → temporary r.spec.request file m ≡ Some certificate
    → IsSome (secret_call_of (with_wanted m c file target r)) → secret_call_of (with_wanted m c file target r) ≡ Some (secret_call true c file certificate [] target)
marked_secret m c file certificate target r waits is =
    wanted_saves _ m c file target r (λ on. absurd (never (is_granted r) on waits)) (λ off. waiting_saves m c file certificate target r is)

-- what is made of these octets at this moment is made of the request with the key
pub made_of : (octets key : List ℕ) (n m : ℤ) (file : List ℕ) (r : CertificateRequest) (made found : Option (List ℕ)) → octets ≡ r.spec.request → key ≡ file → n ≡ m → made ≡ temporary octets key n → made ≡ found
    → temporary r.spec.request file m ≡ found
made_of octets key n m file r made found is_octets is_key same is has = (λ i. temporary (sym is_octets i) (sym is_key i) (sym same i)) ∙ sym is ∙ has

-- ---- a plan needs a certificate that stands in, a request and a key

abbrev HasNone : Act → Type 0
HasNone a = IsSome (secret_call_of a) → ⊥

failure_none : (m : ℤ) (reason : List ℕ) (c : Certificate) → HasNone (failure m reason c)
unfolding failure
failure_none m reason c some = absurd (cc some)

stand_in_none : (c : Certificate) (file : List ℕ) (target : Option SecretObject) (made : Option (List ℕ)) → made ≡ None → HasNone (temporary_with c file target made)
stand_in_none c file target None is = λ some. absurd (cc some)
stand_in_none c file target (Some other) is = absurd (cc is)

pub no_stand_in : (m : ℤ) (c : Certificate) (file : List ℕ) (target : Option SecretObject) (r : CertificateRequest) → is_granted r ≡ false → temporary r.spec.request file m ≡ None → IsSome (secret_call_of (with_wanted m c file target r)) → ⊥
no_stand_in m c file target r waits is =
    by_test HasNone (is_refused r) _ _
    (λ refused. by_test HasNone (fails_now c r r.status.failure) (failure m (refusal r) c) Nothing (λ now_. failure_none m (refusal r) c) (λ before some. absurd (cc some)))
    (λ open_. by_test HasNone (is_granted r) _ _ (λ on. absurd (never (is_granted r) on waits))
    (λ off. by_test HasNone (asks_for_temporary c && (not (is_denied r) && (not (is_kept_for_keys target) && lacks_certificate file target))) _ _
    (λ asks. stand_in_none c file target (temporary r.spec.request file m) is) (λ no some. absurd (cc some))))

-- what is done behind a test is done
behind : (b : Bool) (a : Act) → IsSome (secret_call_of (if b then a else Nothing)) → (if b then a else Nothing) ≡ a
behind true a some = refl
behind false a some = absurd (cc some)

pub no_request : (m : ℤ) (c : Certificate) (target : Option SecretObject) (requests : List CertificateRequest) (file : List ℕ) → next_request c.status.revision requests ≡ None
    → IsSome (secret_call_of (with_file m c target requests (Some file))) → ⊥
no_request m c target requests file none some =
    let is = behind (fits c.spec.key file) (with_request m c file target (next_request c.status.revision requests)) some in
    let left : IsSome (secret_call_of Nothing) = subst (λ (a : Act). IsSome (secret_call_of a)) (is ∙ ap (λ (o : Option CertificateRequest). with_request m c file target o) none) some in
    absurd (cc left)

with_one : (m : ℤ) (c : Certificate) (target : Option SecretObject) (requests : List CertificateRequest) (file : List ℕ) (r : CertificateRequest) → next_request c.status.revision requests ≡ Some r
    → IsSome (secret_call_of (with_file m c target requests (Some file))) → with_file m c target requests (Some file) ≡ with_wanted m c file target r
with_one m c target requests file r found some =
    let is : with_file m c target requests (Some file) ≡ with_request m c file target (Some r) =
    behind (fits c.spec.key file) (with_request m c file target (next_request c.status.revision requests)) some ∙ ap (λ (o : Option CertificateRequest). with_request m c file target o) found in
    is ∙ behind (is_wanted c file r) (with_wanted m c file target r) (subst (λ (a : Act). IsSome (secret_call_of a)) is some)

-- the next request by the status, wherever that was read
pub asked : (status read : CertStatus) (requests : List CertificateRequest) (r : CertificateRequest) → read ≡ status → next_request read.revision requests ≡ Some r → next_request status.revision requests ≡ Some r
asked status read requests r is found = subst (λ (t : CertStatus). next_request t.revision requests ≡ Some r) is found

-- and so is the act for the key file and the request that are found
pub with_found : (m : ℤ) (c : Certificate) (target : Option SecretObject) (requests : List CertificateRequest) (given : Option (Bor (List ℕ))) (file : Bor (List ℕ)) (r s : CertificateRequest) → given ≡ Some file
    → next_request c.status.revision requests ≡ Some r → s ≡ r → IsSome (secret_call_of (with_file m c target requests (option_copied given))) → with_file m c target requests (option_copied given) ≡ with_wanted m c file.now target s
with_found m c target requests given file r s is found same some =
    let here : with_file m c target requests (option_copied given) ≡ with_file m c target requests (Some file.now) = ap (λ (o : Option (Bor (List ℕ))). with_file m c target requests (option_copied o)) is in
    here
    ∙ with_one m c target requests file.now r found (subst (λ (a : Act). IsSome (secret_call_of a)) here some)
    ∙ ap (λ (q : CertificateRequest). with_wanted m c file.now target q) (sym same)

pub no_certificate : (seen : Views) (m : ℤ) → seen.certificate ≡ None → IsSome (secret_call_of (issuing seen m)) → ⊥
unfolding issuing
no_certificate seen m none some =
    let left : IsSome (secret_call_of Nothing) = subst (λ (o : Option Certificate). IsSome (secret_call_of (issuing_of m seen.next seen.secret seen.requests o))) none some in
    absurd (cc left)

with_key : (seen : Views) (m : ℤ) (c : Certificate) → seen.certificate ≡ Some c → IsSome (secret_call_of (issuing seen m)) → issuing seen m ≡ with_key_of m c seen.secret seen.requests (named_key c.status.next_key seen.next)
unfolding issuing
with_key seen m c found some =
    let is : issuing_of m seen.next seen.secret seen.requests seen.certificate ≡ issuing_of m seen.next seen.secret seen.requests (Some c) = ap (λ (o : Option Certificate). issuing_of m seen.next seen.secret seen.requests o) found in
    is ∙ behind (is_issuing c) (with_key_of m c seen.secret seen.requests (named_key c.status.next_key seen.next)) (subst (λ (a : Act). IsSome (secret_call_of a)) is some)

pub with_named : (seen : Views) (m : ℤ) (c d : Certificate) (next : List SecretObject) (requests : List CertificateRequest) (key : Option SecretObject) → seen.certificate ≡ Some c → d ≡ c → next ≡ seen.next → requests ≡ seen.requests
    → key ≡ named_key d.status.next_key next → IsSome (secret_call_of (issuing seen m)) → issuing seen m ≡ with_key_of m d seen.secret requests key
with_named seen m c d next requests key found same is_next is_requests is some =
    let named : key ≡ named_key c.status.next_key seen.next = is ∙ (λ i. named_key (same i).status.next_key (is_next i)) in
    with_key seen m c found some ∙ sym (λ i. with_key_of m (same i) seen.secret (is_requests i) (named i))

-- a call at the same moment is asked for the same act, and what it gives is that act's
pub asked_for : (f : ℤ → Act) (n m : ℤ) (a : Act) → n ≡ m → a ≡ f m → IsSome (secret_call_of a) → IsSome (secret_call_of (f n))
asked_for f n m a same is some = subst (λ (x : Act). IsSome (secret_call_of x)) (is ∙ sym (ap f same)) some

pub passed_on : (f : ℤ → Act) (n m : ℤ) (a : Act) (r : Result Call AllocError) → n ≡ m → a ≡ f m → IfOk r (λ call. secret_call_of (f n) ≡ Some call) → IfOk r (λ call. secret_call_of a ≡ Some call)
passed_on f n m a r same is found = IfOk-weaker r _ _ (λ call has. ap secret_call_of (is ∙ sym (ap f same)) ∙ has) found

-- a call that is the one is given
pub is_given : (o : Option Call) (call : Call) (r : Result Call AllocError) → o ≡ Some call → IfOk r (λ c. c ≡ call) → IfOk r (λ c. o ≡ Some c)
is_given o call r is found = IfOk-weaker r _ _ (λ c same. is ∙ ap (λ (x : Call). Some x) (sym same)) found

-- ---- the status

abbrev Ends : Call → Act → Type 0
Ends call a = IsSome (status_call_of a) → status_call_of a ≡ Some call

failure_ends : (call : Call) (m : ℤ) (reason : List ℕ) (c : Certificate) → Ends call (failure m reason c)
unfolding failure
failure_ends call m reason c some = absurd (cc some)

issue_ends : (m : ℤ) (c : Certificate) (file : List ℕ) (target : Option SecretObject) (r : CertificateRequest) → Ends (status_call (issued_status m c.status) c) (Issue (issue_plan m c file r target))
unfolding issue_plan
issue_ends m c file target r some = refl

stand_in_ends : (call : Call) (c : Certificate) (file : List ℕ) (target : Option SecretObject) (made : Option (List ℕ)) → Ends call (temporary_with c file target made)
stand_in_ends call c file target None = λ some. absurd (cc some)
stand_in_ends call c file target (Some other) =
    by_test (Ends call) (nat_le (length other) 16777216) (Temporary (temporary_plan c file other target)) Nothing (λ small some. absurd (cc some)) (λ large some. absurd (cc some))

waiting_ends : (call : Call) (m : ℤ) (c : Certificate) (file : List ℕ) (target : Option SecretObject) (r : CertificateRequest) → Ends call (while_waiting m c file target r)
waiting_ends call m c file target r =
    by_test (Ends call) (asks_for_temporary c && (not (is_denied r) && (not (is_kept_for_keys target) && lacks_certificate file target))) _ _
    (λ on. stand_in_ends call c file target (temporary r.spec.request file m)) (λ off some. absurd (cc some))

wanted_ends : (m : ℤ) (c : Certificate) (file : List ℕ) (target : Option SecretObject) (r : CertificateRequest) → Ends (status_call (issued_status m c.status) c) (with_wanted m c file target r)
wanted_ends m c file target r =
    let call = status_call (issued_status m c.status) c in
    by_test (Ends call) (is_refused r) _ _
    (λ refused. by_test (Ends call) (fails_now c r r.status.failure) (failure m (refusal r) c) Nothing (λ now_. failure_ends call m (refusal r) c) (λ before some. absurd (cc some)))
    (λ open_. by_test (Ends call) (is_granted r) _ _
    (λ granted. by_test (Ends call) (is_certified file r.status.certificate) _ _
    (λ read. by_test (Ends call) (is_kept_for_keys target) Nothing (Issue (issue_plan m c file r target)) (λ kept some. absurd (cc some)) (λ free. issue_ends m c file target r))
    (λ foreign. failure_ends call m (codes "InvalidCertificate") c)) (λ waits. waiting_ends call m c file target r))

request_ends : (m : ℤ) (c : Certificate) (file : List ℕ) (target : Option SecretObject) (next : Option CertificateRequest) → Ends (status_call (issued_status m c.status) c) (with_request m c file target next)
request_ends m c file target None = λ some. absurd (cc some)
request_ends m c file target (Some r) =
    by_test (Ends (status_call (issued_status m c.status) c)) (is_wanted c file r) _ _ (λ on. wanted_ends m c file target r) (λ off some. absurd (cc some))

file_ends : (m : ℤ) (c : Certificate) (target : Option SecretObject) (requests : List CertificateRequest) (file : Option (List ℕ)) → Ends (status_call (issued_status m c.status) c) (with_file m c target requests file)
file_ends m c target requests None = λ some. absurd (cc some)
file_ends m c target requests (Some file) =
    by_test (Ends (status_call (issued_status m c.status) c)) (fits c.spec.key file) _ _ (λ fit. request_ends m c file target (next_request c.status.revision requests)) (λ off some. absurd (cc some))

key_ends : (m : ℤ) (c : Certificate) (target : Option SecretObject) (requests : List CertificateRequest) (key : Option SecretObject) → Ends (status_call (issued_status m c.status) c) (with_key_of m c target requests key)
key_ends m c target requests None = λ some. absurd (cc some)
key_ends m c target requests (Some k) = file_ends m c target requests (key_in k)

-- where the act has a write of the status, it is that of the next revision at this moment
pub status_is : (seen : Views) (m : ℤ) (c : Certificate) → seen.certificate ≡ Some c → IsSome (status_call_of (issuing seen m)) → status_call_of (issuing seen m) ≡ Some (status_call (issued_status m c.status) c)
unfolding issuing
status_is seen m c found =
    subst (λ (o : Option Certificate). Ends (status_call (issued_status m c.status) c) (issuing_of m seen.next seen.secret seen.requests o)) (sym found)
    (by_test (Ends (status_call (issued_status m c.status) c)) (is_issuing c) _ _ (λ on. key_ends m c seen.secret seen.requests (named_key c.status.next_key seen.next)) (λ off some. absurd (cc some)))

pub status_given : (seen : Views) (n m : ℤ) (c d : Certificate) (r : Result Call AllocError) → n ≡ m → d ≡ c → seen.certificate ≡ Some c → IsSome (status_call_of (issuing seen m))
    → IfOk r (λ call. call ≡ status_call (issued_status n d.status) d) → IfOk r (λ call. status_call_of (issuing seen m) ≡ Some call)
status_given seen n m c d r same is found some given =
    is_given (status_call_of (issuing seen m)) (status_call (issued_status n d.status) d) r (status_is seen m c found some ∙ (λ i. Some (status_call (issued_status (sym same i) (sym is i).status) (sym is i)))) given

pub no_status : (seen : Views) (m : ℤ) → seen.certificate ≡ None → IsSome (status_call_of (issuing seen m)) → ⊥
unfolding issuing
no_status seen m none some =
    let left : IsSome (status_call_of Nothing) = subst (λ (o : Option Certificate). IsSome (status_call_of (issuing_of m seen.next seen.secret seen.requests o))) none some in
    absurd (cc left)
