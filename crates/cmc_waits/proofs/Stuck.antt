-- A Certificate on which no role has anything to do is Ready, or waits for something that has a name.
use Rattle.std.proofs.Common.{◌≡◌, ◌⊎◌, ◌==◌, ◌&&◌, ◌||◌, ℕ, suc, ℤ, pos, ◌-ℤ◌, List, [], ◌∷◌, length, Option, Some, None, Bool, true, false, not, cond, refl, sym, ap, subst, ◌∙◌, inl, inr, arith}
use Rattle.std.proofs.lemmas.Bool.Decides.{nat_tests}
use Rattle.std.proofs.lemmas.Int.{ints}
use Rattle.std.proofs.lemmas.Slice.Eq.{bytes_eq-Decides}
use Rattle.std.specs.Prelude.{IfSome, IsSome, codes, find, filter, int_lt, is_some, if◌then◌else◌}
use Rattle.std.specs.List.{last_or}
use Rattle.std.specs.Str.{bytes_eq}
use Rattle.std.proofs.lemmas.Bool.{and_from, and_parts, or_parts}
use Rattle.cmc_meta.specs.declared.conditions.Condition.{Condition}
use Rattle.cmc_meta.specs.declared.conditions.ConditionKind.TheVariants.{Ready}
use Rattle.cmc_meta.specs.declared.conditions.Tri.{Tri}
use Rattle.cmc_meta.specs.declared.conditions.Tri.TheVariants.{True, False}
use Rattle.cmc_meta.specs.ConditionLists.{condition_rank, condition_at, tri_eq}
use Rattle.cmc_der.specs.Keys.{PublicKey, CertificateFields}
use Rattle.cmc_x509.specs.ReadKeys.{key_file_at}
use Rattle.cmc_objects.specs.declared.certificate.Certificate.{Certificate}
use Rattle.cmc_objects.specs.declared.request.CertificateRequest.{CertificateRequest}
use Rattle.cmc_objects.specs.declared.secret.Secret.{Secret as SecretObject}
use Rattle.cmc_objects.specs.declared.key_spec.Algorithm.{Algorithm}
use Rattle.cmc_objects.specs.declared.key_spec.KeySpec.{KeySpec}
use Rattle.cmc_objects.specs.Requests.{is_stated, is_approved, is_denied}
use Rattle.cmc_summary.specs.declared.summary.WaitName.TheVariants as names
use Rattle.cmc_policies.specs.declared.facts.Frame.{Frame}
use Rattle.cmc_policies.specs.declared.facts.Reason.{Reason}
use Rattle.cmc_policies.specs.declared.facts.Reason.TheVariants.{DoesNotExist, MissingData, InvalidKeyPair, IncorrectIssuer, IncorrectCertificate, SecretMismatch, RequestChanged, Renewing, Expired}
use Rattle.cmc_policies.specs.declared.renewal.Renew.{Renew}
use Rattle.cmc_policies.specs.Reasons.{Known, first_of}
use Rattle.cmc_policies.specs.Renewal.{lead, lifetime, renewal}
use Rattle.cmc_keys.specs.Kinds.{is_key_of, is_public_of}
use Rattle.cmc_match.specs.Facts.{key_in, fits, pair_at}
use Rattle.cmc_match.specs.Revisions.{is_of_revision, only_of, next_request}
use Rattle.cmc_pass.specs.declared.pass.Desk.{Desk}
use Rattle.cmc_pass.specs.declared.pass.IssuePlan.{IssuePlan}
use Rattle.cmc_pass.specs.declared.pass.Act.{Act}
use Rattle.cmc_pass.specs.declared.pass.Act.TheVariants.{Nothing, Call as Calls, Issue}
use Rattle.cmc_rules.specs.Chains.{trigger_chain, readiness_chain, trigger_reason, readiness_reason}
use Rattle.cmc_rules.specs.Trigger.{is_issuing, is_backing_off, issue_call, for_reason, for_certificate, frame_of}
use Rattle.cmc_rules.specs.KeyManager.{dropped, while_issuing, name_call, drop_call}
use Rattle.cmc_rules.specs.NextKeys.{is_named, named_key, is_fitting, has_fitting_key}
use Rattle.cmc_rules.specs.NextRequests.{next_requests, is_next, is_wanted, says_refused, is_refused, failed_before}
use Rattle.cmc_rules.specs.RequestManager as managing
use Rattle.cmc_rules.specs.RequestManager.{ask_signature, is_stale, stale_request}
use Rattle.cmc_rules.specs.RevisionManager.{delete_call, delete_of}
use Rattle.cmc_rules.specs.Issuer as granting
use Rattle.cmc_rules.specs.Issuer.{gives}
use Rattle.cmc_rules.specs.Issuance as issuance
use Rattle.cmc_rules.specs.Issuance.{says_issued, is_granted, is_kept_for_keys, is_certified, failure, issue_plan, fails_now}
use Rattle.cmc_rules.specs.Readiness.{ready_condition, ready_by, ready_call, is_settled, says, ready_of}
use Rattle.cmc_rules.specs.SeenObjects.{IsAmong}
use Rattle.cmc_rules.proofs.Sights.{left_among}
use Rattle.cmc_waits.specs.Waits.{is_unanswered, wait_of_request}
use Rattle.cmc_waits.proofs.Outcomes.{IsOutcome, HasOutcome}

-- ---- booleans and lists

turned : (b : Bool) → not b ≡ false → b ≡ true
turned true off = refl
turned false off = absurd (cc off)

-- what a search does not find is nowhere
none_by : {A : Type 0} (b : Bool) (p : A → Bool) (x : A) (xs : List A) (a : A) → p x ≡ b → (if b then Some x else find p xs) ≡ None → (find p xs ≡ None → IsAmong a xs → p a ≡ false) → IsAmong a (x ∷ xs) → p a ≡ false
none_by true p x xs a at none below there = absurd (cc none)
none_by {A} false p x xs a at none below (inl here) = subst (λ (y : A). p y ≡ false) here at
none_by false p x xs a at none below (inr there) = below none there

none_found : {A : Type 0} (p : A → Bool) (xs : List A) (a : A) → find p xs ≡ None → IsAmong a xs → p a ≡ false
none_found p [] a none there = absurd there
none_found p (x ∷ xs) a none there = none_by (p x) p x xs a refl none (none_found p xs a) there

-- the first of those that a filter leaves is found
first_by : {A : Type 0} (b : Bool) (p : A → Bool) (x : A) (xs : List A) (r : A) (rs : List A) → p x ≡ b → cond b (x ∷ filter p xs) (filter p xs) ≡ r ∷ rs
    → (filter p xs ≡ r ∷ rs → (find p xs ≡ Some r) × (p r ≡ true)) → ((if b then Some x else find p xs) ≡ Some r) × (p r ≡ true)
first_by {A} true p x xs r rs at is below = let same : x ≡ r = cc is in (ap (λ (y : A). Some y) same, subst (λ (y : A). p y ≡ true) same at)
first_by false p x xs r rs at is below = below is

first_found : {A : Type 0} (p : A → Bool) (xs : List A) (r : A) (rs : List A) → filter p xs ≡ r ∷ rs → (find p xs ≡ Some r) × (p r ≡ true)
first_found p [] r rs is = absurd (cc is)
first_found p (x ∷ xs) r rs is = first_by (p x) p x xs r rs refl is (first_found p xs r rs)

-- ---- where it is not being issued

held_by : (b other : Bool) (moment : ℤ) (c : Certificate) (reason : Reason) → (if b && other then Nothing else issue_call moment reason c) ≡ Nothing → b ≡ true
unfolding issue_call
held_by true other moment c reason is = refl
held_by false other moment c reason is = absurd (cc is)

backs_off : (moment : ℤ) (list : List CertificateRequest) (c : Certificate) (reason : Option Reason) → for_reason moment list c reason ≡ Nothing → (reason ≡ None → ⊥) → is_backing_off c.status moment ≡ true
backs_off moment list c None is some = absurd (some refl)
backs_off moment list c (Some reason) is some = held_by (is_backing_off c.status moment) _ moment c reason is

-- what need not be renewed has not expired
before_end : (now after : ℤ) (lasts : ℕ) → int_lt now (after -ℤ pos lasts) ≡ true → int_lt now after ≡ true
before_end now after lasts before = grind (arith, ints)

over : {x y : Option Reason} (b : Bool) (reason : Reason) → (x ≡ None → y ≡ None) → (if b then Some reason else x) ≡ None → (if b then Some reason else y) ≡ None
over true reason on h = h
over false reason on h = on h

skip : {x y : Option Reason} (b : Bool) (reason : Reason) → (x ≡ None → y ≡ None) → (if b then Some reason else x) ≡ None → y ≡ None
skip true reason on h = absurd (cc h)
skip false reason on h = on h

last_by : (b : Bool) (now after : ℤ) (lasts : ℕ) → int_lt now (after -ℤ pos lasts) ≡ b → (if not b then Some Renewing else None) ≡ None → (if not (int_lt now after) then Some Expired else None) ≡ None
last_by true now after lasts is h = let on : int_lt now after ≡ true = before_end now after lasts is in rw on refl
last_by false now after lasts is h = absurd (cc h)

-- where nothing is to be issued the Certificate is ready
none_ready : (frame : Frame) (facts : Known) → first_of trigger_chain frame facts ≡ None → first_of readiness_chain frame facts ≡ None
none_ready frame facts h =
    over (not facts.secret) DoesNotExist
    (over (not facts.filled) MissingData
    (over (not facts.pair) InvalidKeyPair
    (skip (not facts.issuer) IncorrectIssuer
    (skip (not facts.owner) IncorrectCertificate
    (over (not facts.kind) SecretMismatch
    (over (not facts.request) RequestChanged
    (last_by (int_lt frame.now (renewal facts.not_before facts.not_after frame.renew)) frame.now facts.not_after (lead (lifetime facts.not_before facts.not_after) frame.renew) refl))))))) h

-- and its status says so
said_by : (b : Bool) (c new : Condition) (cs : List Condition) → (condition_rank c.kind == 0) ≡ b → new.status ≡ True → says (if b then Some c else condition_at cs Ready) new ≡ true
    → (says (condition_at cs Ready) new ≡ true → is_stated Ready cs ≡ true) → ((b && tri_eq c.status True) || is_stated Ready cs) ≡ true
said_by true c new cs is on said below =
    let same : tri_eq c.status new.status ≡ true = (and_parts (tri_eq c.status new.status) _ said).0 in
    let stated : tri_eq c.status True ≡ true = subst (λ (t : Tri). tri_eq c.status t ≡ true) on same in
    ap (λ (b : Bool). b || is_stated Ready cs) stated
said_by false c new cs is on said below = below said

said : (cs : List Condition) (new : Condition) → new.status ≡ True → says (condition_at cs Ready) new ≡ true → is_stated Ready cs ≡ true
said [] new on is = absurd (cc is)
said (c ∷ cs) new on is = said_by (condition_rank c.kind == 0) c new cs refl on is (said cs new on)

settled_by : (b : Bool) (condition : Condition) (renew : Renew) (pair : Option CertificateFields) (c : Certificate) → (if b then Nothing else ready_call condition renew pair c) ≡ Nothing → b ≡ true
unfolding ready_call
settled_by true condition renew pair c is = refl
settled_by false condition renew pair c is = absurd (cc is)

says_so : (condition : Condition) (renew : Renew) (pair : Option CertificateFields) (c : Certificate) → condition.status ≡ True → is_settled condition renew pair c.status ≡ true → is_stated Ready c.status.conditions ≡ true
unfolding is_settled
says_so condition renew pair c on is = said c.status.conditions condition on (and_parts (says (condition_at c.status.conditions Ready) condition) _ is).0

ready_by_none : (moment : ℤ) (reason : Option Reason) (renew : Renew) (pair : Option CertificateFields) (c : Certificate) → reason ≡ None → ready_by (ready_condition moment reason) renew pair c ≡ Nothing
    → is_stated Ready c.status.conditions ≡ true
unfolding ready_condition
ready_by_none moment reason renew pair c none is =
    let idle : ready_by (ready_condition moment None) renew pair c ≡ Nothing = subst (λ (x : Option Reason). ready_by (ready_condition moment x) renew pair c ≡ Nothing) none is in
    says_so (ready_condition moment None) renew pair c refl (settled_by (is_settled (ready_condition moment None) renew pair c.status) (ready_condition moment None) renew pair c idle)

pub waits_to_try : (moment : ℤ) (secret : Option SecretObject) (list : List CertificateRequest) (c : Certificate) → is_issuing c ≡ false → for_certificate moment secret list c ≡ Nothing
    → ready_of moment secret list (Some c) ≡ Nothing → is_stated Ready c.status.conditions ≡ false → is_backing_off c.status moment ≡ true
unfolding for_certificate
waits_to_try moment secret list c off idle settled waiting =
    let reason : Option Reason = trigger_reason (frame_of moment c) c secret list in
    let quiet : for_reason moment list c reason ≡ Nothing = subst (λ (b : Bool). (if b then Nothing else for_reason moment list c reason) ≡ Nothing) off idle in
    backs_off moment list c reason quiet
    (λ none. let ready = ready_by_none moment (readiness_reason (frame_of moment c) c secret list) (frame_of moment c).renew (pair_at secret) c (none_ready (frame_of moment c) _ none) settled in absurd (cc (ready, waiting)))

-- ---- the next key

-- the one that the status names has a fitting key
pub record HasNextKey (c : Certificate) (next : List SecretObject) : Type 0 where
  pub key : SecretObject
  pub file : List ℕ
  pub named : named_key c.status.next_key next ≡ Some key
  pub holds : key_in key ≡ Some file
  pub fitting : fits c.spec.key file ≡ true

only_by : (a b : Bool) (c : Certificate) (k : SecretObject) → (if a then (if b then Nothing else name_call (Some k.meta.name) c) else drop_call k) ≡ Nothing → (a ≡ true) × (b ≡ true)
unfolding name_call drop_call
only_by true true c k is = (refl, refl)
only_by true false c k is = absurd (cc is)
only_by false b c k is = absurd (cc is)

file_of : (spec : KeySpec) (x : Option (List ℕ)) → is_fitting spec x ≡ true → (file : List ℕ) × (x ≡ Some file) × (fits spec file ≡ true)
file_of spec None is = absurd (cc is)
file_of spec (Some file) is = (file, refl, is)

dropped_none : (x : Option SecretObject) → dropped x ≡ Nothing → x ≡ None
unfolding drop_call
dropped_none None is = refl
dropped_none (Some k) is = absurd (cc is)

name_is : (name : Option (List ℕ)) (k : SecretObject) → is_named name k ≡ true → name ≡ Some k.meta.name
name_is None k is = absurd (cc is)
name_is (Some name) k is = ap (λ (text : List ℕ). Some text) (sym ((bytes_eq-Decides k.meta.name name).0 is))

one_name : (name : Option (List ℕ)) (k j : SecretObject) → is_named name k ≡ true → is_named name j ≡ true → k.meta.name ≡ j.meta.name
one_name name k j one two = let some : Some k.meta.name ≡ Some j.meta.name = sym (name_is name k one) ∙ name_is name j two in cc some

pub has_key : (c : Certificate) (desk : Desk) (target : Option SecretObject) (next : List SecretObject) → ((k j : SecretObject) (ks : List SecretObject) → next ≡ k ∷ j ∷ ks → k.meta.name ≡ j.meta.name → ⊥)
    → while_issuing c desk target next ≡ Nothing → ((length next == 0) ≡ true) ⊎ HasNextKey c next
has_key c desk target [] apart idle = inl refl
has_key c desk target (k ∷ []) apart idle =
    let parts = only_by (has_fitting_key c.spec.key k) (is_named c.status.next_key k) c k idle in
    let file = file_of c.spec.key (key_in k) parts.0 in
    inr (record { key = k; file = file.0; named = ap (λ (b : Bool). if b then Some k else None) parts.1; holds = file.1; fitting = file.2 })
has_key c desk target (k ∷ j ∷ ks) apart idle =
    let none = dropped_none (find (λ o. not (is_named c.status.next_key o)) (k ∷ j ∷ ks)) idle in
    let one = turned (is_named c.status.next_key k) (none_found (λ o. not (is_named c.status.next_key o)) (k ∷ j ∷ ks) k none (inl refl)) in
    let two = turned (is_named c.status.next_key j) (none_found (λ o. not (is_named c.status.next_key o)) (k ∷ j ∷ ks) j none (inr (inl refl))) in
    absurd (apart k j ks refl (one_name c.status.next_key k j one two))

-- ---- the next request

-- there is one, for what the specification asks for and with the next key, and it did not fail before
pub record HasNextRequest (c : Certificate) (file : List ℕ) (list : List CertificateRequest) : Type 0 where
  pub request : CertificateRequest
  pub among : IsAmong request list
  pub next : next_request c.status.revision list ≡ Some request
  pub wanted : is_wanted c file request ≡ true
  pub fresh : (is_refused request && failed_before c request) ≡ false

readable_by : (algorithm : Algorithm) (size : ℕ) (key : Option PublicKey) → is_public_of algorithm size key ≡ true → is_some key ≡ true
readable_by algorithm size None is = absurd (cc is)
readable_by algorithm size (Some key) is = refl

readable : (algorithm : Algorithm) (size : ℕ) (file : List ℕ) → is_key_of algorithm size file ≡ true → is_some (key_file_at file) ≡ true
unfolding is_key_of
readable algorithm size file is = readable_by algorithm size (key_file_at file) is

asked : (c : Certificate) (file : List ℕ) (key : Option PublicKey) → is_some key ≡ true → managing.ask_with c file key ≡ Nothing → ⊥
unfolding ask_signature
asked c file None some is = absurd (cc some)
asked c file (Some key) some is = absurd (cc is)

last_goes : (r : CertificateRequest) (rs : List CertificateRequest) → delete_of (last_or (Some r) rs) ≡ Nothing → ⊥
unfolding delete_call
last_goes r [] is = absurd (cc is)
last_goes r (q ∷ rs) is = last_goes q rs is

more_than_none : (n : ℕ) → (suc (suc n) == 0) ≡ false
more_than_none n = grind (arith, nat_tests)

more_than_one : (n : ℕ) → (suc (suc n) == 1) ≡ false
more_than_one n = grind (arith, nat_tests)

of_several : (none one : Bool) (x y : Act) → none ≡ false → one ≡ false → (if none then x else (if one then Nothing else y)) ≡ Nothing → y ≡ Nothing
of_several true one x y off other is = absurd (cc off)
of_several false true x y off other is = absurd (cc other)
of_several false false x y off other is = is

counted : (c : Certificate) (file : List ℕ) (next : List CertificateRequest) → is_some (key_file_at file) ≡ true → managing.by_count c file next ≡ Nothing → (r : CertificateRequest) × (next ≡ r ∷ [])
counted c file [] some is = absurd (asked c file (key_file_at file) some is)
counted c file (r ∷ []) some is = (r, refl)
counted c file (r ∷ q ∷ rs) some is =
    absurd (last_goes q rs (of_several (length (r ∷ q ∷ rs) == 0) (length (r ∷ q ∷ rs) == 1) (managing.ask_with c file (key_file_at file)) (delete_of (last_or None (r ∷ q ∷ rs))) (more_than_none (length rs)) (more_than_one (length rs)) is))

deleted : (r : CertificateRequest) → delete_call r ≡ Nothing → ⊥
unfolding delete_call
deleted r is = absurd (cc is)

-- the only one of a revision
only_one : (revision : ℕ) (list : List CertificateRequest) (r : CertificateRequest) → filter (λ q. is_of_revision revision q) list ≡ r ∷ [] → only_of revision list ≡ Some r
unfolding only_of
only_one revision list r is =
    ap (λ (l : List CertificateRequest). if length l == 1 then find (λ q. is_of_revision revision q) list else None) is ∙ (first_found (λ q. is_of_revision revision q) list r [] is).0

fresh_by : (next wanted other : Bool) → next ≡ true → (next && (not wanted || other)) ≡ false → (wanted ≡ true) × (other ≡ false)
fresh_by true wanted other is off = let parts = or_parts (not wanted) other off in (turned wanted parts.0, parts.1)
fresh_by false wanted other is off = absurd (cc is)

found_request : (c : Certificate) (file : List ℕ) (list : List CertificateRequest) (r : CertificateRequest) → stale_request c file list ≡ None → next_requests c list ≡ r ∷ [] → HasNextRequest c file list
found_request c file list r none is =
    let found = first_found (is_next c) list r [] is in
    let among : IsAmong r list = left_among (is_next c) list r (subst (λ (l : List CertificateRequest). IsAmong r l) (sym is) (inl refl)) in
    let parts = fresh_by (is_next c r) (is_wanted c file r) (is_refused r && failed_before c r) found.1 (none_found (λ q. is_next c q && is_stale c file q) list r none among) in
    record { request = r; among = among; next = only_one _ list r is; wanted = parts.0; fresh = parts.1 }

by_stale : (c : Certificate) (file : List ℕ) (list : List CertificateRequest) (x : Option CertificateRequest) → stale_request c file list ≡ x → is_some (key_file_at file) ≡ true → managing.by_stale c file list x ≡ Nothing
    → HasNextRequest c file list
by_stale c file list (Some r) at some is = absurd (deleted r is)
by_stale c file list None at some is = let one = counted c file (next_requests c list) some is in found_request c file list one.0 at one.1

pub has_request : (c : Certificate) (next : List SecretObject) (list : List CertificateRequest) → (k : HasNextKey c next) → managing.with_key c list (named_key c.status.next_key next) ≡ Nothing → HasNextRequest c k.file list
has_request c next list k idle =
    let named : managing.with_request_file c list (key_in k.key) ≡ Nothing = subst (λ (x : Option SecretObject). managing.with_key c list x ≡ Nothing) k.named idle in
    let filed : managing.with_request_file c list (Some k.file) ≡ Nothing = subst (λ (x : Option (List ℕ)). managing.with_request_file c list x ≡ Nothing) k.holds named in
    let stale : managing.by_stale c k.file list (stale_request c k.file list) ≡ Nothing =
    subst (λ (b : Bool). (if b then managing.by_stale c k.file list (stale_request c k.file list) else Nothing) ≡ Nothing) k.fitting filed in
    by_stale c k.file list (stale_request c k.file list) refl (readable _ _ k.file k.fitting) stale

-- ---- what the request says

-- it is issued, or not yet answered, or refused since a moment
abbrev IsIssued : Option Condition → Type 0
IsIssued o = (says_issued o ≡ true) × (says_refused o ≡ false) × (gives (codes "Denied") o ≡ false)

abbrev IsOpen : Option Condition → Type 0
IsOpen o = (is_unanswered o ≡ true) × (says_refused o ≡ false) × (gives (codes "Denied") o ≡ false)

abbrev IsRefused : Option ℤ → Option Condition → Type 0
IsRefused failure o = (says_refused o ≡ true) × (is_some failure ≡ true)

texts : (a b : List ℕ) → a ≡ b → bytes_eq a b ≡ true
texts a b is = (bytes_eq-Decides a b).1 is

or_first : (a b : Bool) → a ≡ true → (a || b) ≡ true
or_first true b is = refl
or_first false b is = absurd (cc is)

or_second : (a b : Bool) → b ≡ true → (a || b) ≡ true
or_second true b is = refl
or_second false b is = is

no_first : (a b : Bool) → a ≡ false → (a && b) ≡ false
no_first true b is = absurd (cc is)
no_first false b is = refl

no_second : (a b : Bool) → b ≡ false → (a && b) ≡ false
no_second true b is = is
no_second false b is = refl

status_is : (ready : Condition) (t : Tri) → ready.status ≡ t → (u : Tri) → tri_eq ready.status u ≡ tri_eq t u
status_is ready t is u = ap (λ (x : Tri). tri_eq x u) is

reason_is : (ready : Condition) (text other : List ℕ) → ready.reason ≡ text → bytes_eq ready.reason other ≡ bytes_eq text other
reason_is ready text other is = ap (λ (x : List ℕ). bytes_eq x other) is

what_it_says : (failure : Option ℤ) (o : Option Condition) → IfSome o (IsOutcome failure) → IsIssued o ⊎ (IsOpen o ⊎ IsRefused failure o)
what_it_says failure None is = inr (inl (refl, refl, refl))
what_it_says failure (Some ready) (inl issued) =
    inl (and_from _ _ (status_is ready True issued.0 True) (texts ready.reason (codes "Issued") issued.1), no_first _ _ (status_is ready True issued.0 False), reason_is ready (codes "Issued") (codes "Denied") issued.1)
what_it_says failure (Some ready) (inr (inl pending)) =
    inr (inl (
      texts ready.reason (codes "Pending") pending.1,
      no_second _ _ (or_off (bytes_eq ready.reason (codes "Failed")) (bytes_eq ready.reason (codes "Denied")) (reason_is ready (codes "Pending") (codes "Failed") pending.1) (reason_is ready (codes "Pending") (codes "Denied") pending.1)),
      reason_is ready (codes "Pending") (codes "Denied") pending.1,
    )) where
      or_off : (a b : Bool) → a ≡ false → b ≡ false → (a || b) ≡ false
      or_off true b one two = absurd (cc one)
      or_off false b one two = two
what_it_says failure (Some ready) (inr (inr ((off, inl failed), some))) =
    inr (inr (and_from _ _ (status_is ready False off False) (or_first _ _ (texts ready.reason (codes "Failed") failed)), some))
what_it_says failure (Some ready) (inr (inr ((off, inr denied), some))) =
    inr (inr (and_from _ _ (status_is ready False off False) (or_second _ _ (texts ready.reason (codes "Denied") denied)), some))

-- ---- what it waits for

-- a request that is refused now makes the issuance fail
refused_fails : (refused fails : Bool) (moment : ℤ) (reason : List ℕ) (c : Certificate) (x : Act) → refused ≡ true → fails ≡ true → (if refused then (if fails then failure moment reason c else Nothing) else x) ≡ Nothing → ⊥
unfolding failure
refused_fails true true moment reason c x one two is = absurd (cc is)
refused_fails true false moment reason c x one two is = absurd (cc two)
refused_fails false fails moment reason c x one two is = absurd (cc one)

fails_by : (c : Certificate) (r : CertificateRequest) (at : Option ℤ) → is_some at ≡ true → failed_before c r ≡ false → fails_now c r at ≡ true
fails_by c r None some before = absurd (cc some)
fails_by c r (Some at) some before = ap not before

-- what is granted is written, unless the Secret of that name holds a next key
granted_kept : (refused granted certified kept : Bool) (moment : ℤ) (reason : List ℕ) (c : Certificate) (plan : IssuePlan) (x y : Act) → refused ≡ false → granted ≡ true
    → (if refused then x else (if granted then (if certified then (if kept then Nothing else Issue plan) else failure moment reason c) else y)) ≡ Nothing → kept ≡ true
unfolding failure
granted_kept true granted certified kept moment reason c plan x y one two is = absurd (cc one)
granted_kept false false certified kept moment reason c plan x y one two is = absurd (cc two)
granted_kept false true true true moment reason c plan x y one two is = refl
granted_kept false true true false moment reason c plan x y one two is = absurd (cc is)
granted_kept false true false kept moment reason c plan x y one two is = absurd (cc is)

-- what is denied is marked so
denied_marked : (denied marked : Bool) (moment : ℤ) (r : CertificateRequest) (x : Act) → marked ≡ false → (if denied then (if marked then Nothing else Calls (granting.status_call (granting.denied_status r.status moment) r)) else x) ≡ Nothing
    → denied ≡ false
denied_marked true true moment r x off is = absurd (cc off)
denied_marked true false moment r x off is = absurd (cc is)
denied_marked false marked moment r x off is = refl

-- one of the three
some_wait : (approved denied named waiting : Bool) → denied ≡ false → (approved ≡ true → (named || waiting) ≡ true)
    → IsSome (if not approved && not denied then Some names.Unapproved else (if named then Some names.Name else (if approved && waiting then Some names.Pending else None)))
some_wait approved true named waiting off one = absurd (cc off)
some_wait false false named waiting off one = refl
some_wait true false true waiting off one = refl
some_wait true false false true off one = refl
some_wait true false false false off one = absurd (let no : false ≡ true = one refl in cc no)

pub request_waits : (moment : ℤ) (desk : Desk) (c : Certificate) (file : List ℕ) (target : Option SecretObject) (r : CertificateRequest) → (is_refused r && failed_before c r) ≡ false → HasOutcome r.status
    → issuance.with_wanted moment c file target r ≡ Nothing → granting.grant_one moment desk r ≡ Nothing → IsSome (wait_of_request target r)
request_waits moment desk c file target r fresh outcome idle quiet = by (what_it_says r.status.failure (condition_at r.status.conditions Ready) outcome) where
  not_before : (refused before : Bool) → refused ≡ true → (refused && before) ≡ false → before ≡ false
  not_before true before is off = off
  not_before false before is off = absurd (cc is)

  granted : (issued approved denied : Bool) → issued ≡ true → approved ≡ true → denied ≡ false → (issued && (approved && not denied)) ≡ true
  granted true true true one two three = absurd (cc three)
  granted true true false one two three = refl
  granted true false denied one two three = absurd (cc two)
  granted false approved denied one two three = absurd (cc one)

  by : IsIssued (condition_at r.status.conditions Ready) ⊎ (IsOpen (condition_at r.status.conditions Ready) ⊎ IsRefused r.status.failure (condition_at r.status.conditions Ready)) → IsSome (wait_of_request target r)
  by (inl issued) =
      let denied = denied_marked (is_denied r) (gives (codes "Denied") (condition_at r.status.conditions Ready)) moment r (granting.grant moment desk r) issued.2 quiet in
      some_wait (is_approved r) (is_denied r) (says_issued (condition_at r.status.conditions Ready) && is_kept_for_keys target) (is_unanswered (condition_at r.status.conditions Ready)) denied
      (λ approved. or_first _ _ (and_from _ _ issued.0
      (granted_kept (is_refused r) (is_granted r) (is_certified file r.status.certificate) (is_kept_for_keys target) moment (codes "InvalidCertificate") c (issue_plan moment c file r target) _ _ issued.1
      (granted (says_issued (condition_at r.status.conditions Ready)) (is_approved r) (is_denied r) issued.0 approved denied) idle)))
  by (inr (inl waits)) =
      let denied = denied_marked (is_denied r) (gives (codes "Denied") (condition_at r.status.conditions Ready)) moment r (granting.grant moment desk r) waits.2 quiet in
      some_wait (is_approved r) (is_denied r) (says_issued (condition_at r.status.conditions Ready) && is_kept_for_keys target) (is_unanswered (condition_at r.status.conditions Ready)) denied
      (λ approved. or_second _ _ waits.0)
  by (inr (inr refused)) =
      absurd (refused_fails (is_refused r) (fails_now c r r.status.failure) moment (issuance.refusal r) c _ refused.0 (fails_by c r r.status.failure refused.1 (not_before (is_refused r) (failed_before c r) refused.0 fresh)) idle)
