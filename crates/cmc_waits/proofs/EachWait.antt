-- Where no role has anything to do on what stands, each Certificate that is not Ready waits for something that has a name.
use Rattle.std.proofs.Common.{◌≡◌, ◌⊎◌, ◌==◌, ◌&&◌, ℕ, ℤ, List, length, Option, Some, None, Bool, true, false, not, refl, sym, ap, subst, ◌∙◌, inl, inr, option_and_then}
use Rattle.std.specs.Prelude.{IfSome, IsSome, if◌then◌else◌}
use Rattle.std.specs.FinMap as map
use Rattle.cmc_meta.specs.declared.key.Key.{Key}
use Rattle.cmc_meta.specs.declared.conditions.ConditionKind.TheVariants.{Ready}
use Rattle.cmc_objects.specs.declared.certificate.Certificate.{Certificate}
use Rattle.cmc_objects.specs.declared.request.CertificateRequest.{CertificateRequest}
use Rattle.cmc_objects.specs.declared.secret.Secret.{Secret as SecretObject}
use Rattle.cmc_objects.specs.declared.object.Object.{Object}
use Rattle.cmc_objects.specs.declared.object.Object.TheVariants.{Cert, Request, Secret}
use Rattle.cmc_objects.specs.declared.role.Role.{Role}
use Rattle.cmc_objects.specs.declared.role.Role.TheVariants.{Trigger, KeyManager, RequestManager, Issuer, Issuing, Readiness}
use Rattle.cmc_objects.specs.declared.entry.Entry.{Entry}
use Rattle.cmc_objects.specs.Requests.{is_stated}
use Rattle.cmc_summary.specs.declared.summary.WaitName.{WaitName}
use Rattle.cmc_summary.specs.declared.summary.WaitName.TheVariants as names
use Rattle.cmc_match.specs.Facts.{key_in}
use Rattle.cmc_match.specs.Revisions.{next_request}
use Rattle.cmc_pass.specs.declared.pass.Desk.{Desk}
use Rattle.cmc_pass.specs.declared.pass.Act.TheVariants.{Nothing}
use Rattle.cmc_model.specs.Objects.{Objects, object_at}
use Rattle.cmc_model.specs.Histories.{Setting, moment, objects}
use Rattle.cmc_rules.specs.Acts.{act}
use Rattle.cmc_rules.specs.Causes.{IsCaused}
use Rattle.cmc_rules.specs.Desks.{desk}
use Rattle.cmc_rules.specs.UserSteps.{Follows}
use Rattle.cmc_rules.specs.Legality.{IsLegal}
use Rattle.cmc_rules.specs.Rest.{IsIdle}
use Rattle.cmc_rules.specs.SeenObjects.{IsAmong}
use Rattle.cmc_rules.specs.Views.{Caches, certificate_in, request_in, certificate_at, request_at, target_at, next_of, requests_of, owned_in, is_owned, of_certificate, views_of, views_in, present_views}
use Rattle.cmc_rules.specs.Trigger.{trigger, for_option, for_certificate, is_issuing, is_backing_off}
use Rattle.cmc_rules.specs.KeyManager.{key_manager, keys_of, while_issuing, while_idle}
use Rattle.cmc_rules.specs.NextKeys.{named_key}
use Rattle.cmc_rules.specs.RequestManager as managing
use Rattle.cmc_rules.specs.RequestManager.{request_manager}
use Rattle.cmc_rules.specs.Issuer.{issuer, grant_of, grant_one}
use Rattle.cmc_rules.specs.Issuance as issuance
use Rattle.cmc_rules.specs.Issuance.{issuing}
use Rattle.cmc_rules.specs.Readiness.{readiness, ready_of}
use Rattle.cmc_rules.proofs.Sighted.{stands_among, picked}
use Rattle.cmc_waits.specs.Waits.{wait_of, wait_of_next, wait_of_request, wait_of_seen, wait_in}
use Rattle.cmc_safety.proofs.Carried.{standing_has}
use Rattle.cmc_waits.proofs.Outcomes.{HasOutcome, IsAnswered}
use Rattle.cmc_waits.proofs.OutcomesStand.{all_answered}
use Rattle.cmc_waits.proofs.NextApart.{next_apart}
use Rattle.cmc_waits.proofs.Stuck.{HasNextKey, HasNextRequest, waits_to_try, has_key, has_request, request_waits}

-- no role has anything to do on what stands
abbrev pub IsStill : Setting → List Entry → Type 0
IsStill s h = (role : Role) (key : Key) (o : Object) → object_at (objects s h) key ≡ Some o → IsIdle s h role (present_views s h role key)

-- ---- what each role does not do

pub trigger_rests : (s : Setting) (h : List Entry) (key : Key) (c : Certificate) → certificate_at (objects s h) key ≡ Some c → IsIdle s h Trigger (present_views s h Trigger key)
    → for_certificate (moment s h) (target_at (objects s h) c) (requests_of (objects s h) c) c ≡ Nothing
unfolding act trigger views_in views_of
trigger_rests s h key c is idle =
    subst (λ (x : Option Certificate). for_option (moment s h) (option_and_then (target_at (objects s h)) x) (of_certificate (requests_of (objects s h)) x) x ≡ Nothing) is idle

pub readiness_rests : (s : Setting) (h : List Entry) (key : Key) (c : Certificate) → certificate_at (objects s h) key ≡ Some c → IsIdle s h Readiness (present_views s h Readiness key)
    → ready_of (moment s h) (target_at (objects s h) c) (requests_of (objects s h) c) (Some c) ≡ Nothing
unfolding act readiness views_in views_of
readiness_rests s h key c is idle =
    subst (λ (x : Option Certificate). ready_of (moment s h) (option_and_then (target_at (objects s h)) x) (of_certificate (requests_of (objects s h)) x) x ≡ Nothing) is idle

pub keys_rest : (s : Setting) (h : List Entry) (key : Key) (c : Certificate) → certificate_at (objects s h) key ≡ Some c → IsIdle s h KeyManager (present_views s h KeyManager key)
    → keys_of (Some c) (desk s h KeyManager (present_views s h KeyManager key)) (target_at (objects s h) c) (next_of (objects s h) c) ≡ Nothing
unfolding act key_manager views_in views_of
keys_rest s h key c is idle =
    subst (λ (x : Option Certificate). keys_of x (desk s h KeyManager (present_views s h KeyManager key)) (option_and_then (target_at (objects s h)) x) (of_certificate (next_of (objects s h)) x) ≡ Nothing) is idle

pub requests_rest : (s : Setting) (h : List Entry) (key : Key) (c : Certificate) → certificate_at (objects s h) key ≡ Some c → IsIdle s h RequestManager (present_views s h RequestManager key)
    → managing.request_of (Some c) (next_of (objects s h) c) (requests_of (objects s h) c) ≡ Nothing
unfolding act request_manager views_in views_of
requests_rest s h key c is idle =
    subst (λ (x : Option Certificate). managing.request_of x (of_certificate (next_of (objects s h)) x) (of_certificate (requests_of (objects s h)) x) ≡ Nothing) is idle

pub issuing_rests : (s : Setting) (h : List Entry) (key : Key) (c : Certificate) → certificate_at (objects s h) key ≡ Some c → IsIdle s h Issuing (present_views s h Issuing key)
    → issuance.issuing_of (moment s h) (next_of (objects s h) c) (target_at (objects s h) c) (requests_of (objects s h) c) (Some c) ≡ Nothing
unfolding act issuing views_in views_of
issuing_rests s h key c is idle =
    subst (λ (x : Option Certificate).
    issuance.issuing_of (moment s h) (of_certificate (next_of (objects s h)) x) (option_and_then (target_at (objects s h)) x) (of_certificate (requests_of (objects s h)) x) x ≡ Nothing) is idle

pub issuer_rests : (s : Setting) (h : List Entry) (key : Key) (r : CertificateRequest) → request_at (objects s h) key ≡ Some r → IsIdle s h Issuer (present_views s h Issuer key)
    → grant_one (moment s h) (desk s h Issuer (present_views s h Issuer key)) r ≡ Nothing
unfolding act issuer views_in views_of
issuer_rests s h key r is idle = subst (λ (x : Option CertificateRequest). grant_of (moment s h) (desk s h Issuer (present_views s h Issuer key)) x ≡ Nothing) is idle

-- ---- the requests of a Certificate stand

owned_by : (owns : Bool) (q r : CertificateRequest) → (if owns then Some q else None) ≡ Some r → Request q ≡ Request r
owned_by true q r is = ap Request (cc is)
owned_by false q r is = absurd (cc is)

owned_is : (c : Certificate) (o : Object) (r : CertificateRequest) → owned_in c o ≡ Some r → o ≡ Request r
owned_is c (Cert d) r is = absurd (cc is)
owned_is c (Secret k) r is = absurd (cc is)
owned_is c (Request q) r is = owned_by (is_owned c q.meta) q r is

pub owned_stands : (m : Objects) (c : Certificate) (r : CertificateRequest) → IsAmong r (requests_of m c) → (key : Key) × (object_at m key ≡ Some (Request r))
owned_stands m c r among =
    let p = picked (λ (e : Key × Object). owned_in c e.1) (map.entries m) r among in (p.0.0, stands_among m p.0 p.1 ∙ ap Some (owned_is c p.0.1 r p.2))

-- ---- what issuing does with the request that it finds

pub where_wanted : (moment : ℤ) (c : Certificate) (next : List SecretObject) (target : Option SecretObject) (list : List CertificateRequest) → is_issuing c ≡ true → (k : HasNextKey c next) → (r : HasNextRequest c k.file list)
    → issuance.issuing_of moment next target list (Some c) ≡ Nothing → issuance.with_wanted moment c k.file target r.request ≡ Nothing
where_wanted moment c next target list on k r idle =
    let keyed : issuance.with_key_of moment c target list (named_key c.status.next_key next) ≡ Nothing =
    subst (λ (b : Bool). (if b then issuance.with_key_of moment c target list (named_key c.status.next_key next) else Nothing) ≡ Nothing) on idle in
    let named : issuance.with_file moment c target list (key_in k.key) ≡ Nothing = subst (λ (x : Option SecretObject). issuance.with_key_of moment c target list x ≡ Nothing) k.named keyed in
    let filed : issuance.with_file moment c target list (Some k.file) ≡ Nothing = subst (λ (x : Option (List ℕ)). issuance.with_file moment c target list x ≡ Nothing) k.holds named in
    let fitting : issuance.with_request moment c k.file target (next_request c.status.revision list) ≡ Nothing =
    subst (λ (b : Bool). (if b then issuance.with_request moment c k.file target (next_request c.status.revision list) else Nothing) ≡ Nothing) k.fitting filed in
    let found : issuance.with_request moment c k.file target (Some r.request) ≡ Nothing = subst (λ (x : Option CertificateRequest). issuance.with_request moment c k.file target x ≡ Nothing) r.next fitting in
    subst (λ (b : Bool). (if b then issuance.with_wanted moment c k.file target r.request else Nothing) ≡ Nothing) r.wanted found

-- ---- the name of the wait

tries_again : (issuing backing : Bool) (rest : Option WaitName) → issuing ≡ false → backing ≡ true → IsSome (if not issuing && backing then Some names.Backoff else rest)
tries_again true backing rest off on = absurd (cc off)
tries_again false true rest off on = refl
tries_again false false rest off on = absurd (cc on)

wants_key : (issuing backing none : Bool) (rest : Option WaitName) → issuing ≡ true → none ≡ true
    → IsSome (if not issuing && backing then Some names.Backoff else (if issuing && none then Some names.Key else rest))
wants_key true backing true rest on empty = refl
wants_key true backing false rest on empty = absurd (cc empty)
wants_key false backing none rest on empty = absurd (cc on)

wants_more : (issuing backing none : Bool) (rest : Option WaitName) → issuing ≡ true → IsSome rest → IsSome (if not issuing && backing then Some names.Backoff else (if issuing && none then Some names.Key else rest))
wants_more true backing true rest on some = refl
wants_more true backing false rest on some = some
wants_more false backing none rest on some = absurd (cc on)

-- what there is to see of a Certificate as issuing sees it
abbrev present : Setting → List Entry → Caches
present s h = record { certificates = objects s h; requests = objects s h; secrets = objects s h }

pub request_waits_on : (s : Setting) (h : List Entry) (c : Certificate) (k : HasNextKey c (next_of (objects s h) c)) (r : HasNextRequest c k.file (requests_of (objects s h) c)) → IsCaused s h → Follows s h → IsStill s h → is_issuing c ≡ true
    → issuance.issuing_of (moment s h) (next_of (objects s h) c) (target_at (objects s h) c) (requests_of (objects s h) c) (Some c) ≡ Nothing → IsSome (wait_of_request (target_at (objects s h) c) r.request)
request_waits_on s h c k r caused follows still on idle =
    let there = owned_stands (objects s h) c r.request r.among in
    let outcome : HasOutcome r.request.status = subst (λ (x : Option Object). IfSome x IsAnswered) there.1 (standing_has IsAnswered s h there.0 (all_answered s h caused follows)) in
    request_waits (moment s h) (desk s h Issuer (present_views s h Issuer there.0)) c k.file (target_at (objects s h) c) r.request r.fresh outcome
    (where_wanted (moment s h) c (next_of (objects s h) c) (target_at (objects s h) c) (requests_of (objects s h) c) on k r idle)
    (issuer_rests s h there.0 r.request (ap (option_and_then request_in) there.1) (still Issuer there.0 (Request r.request) there.1))

waits_issuing : (s : Setting) (h : List Entry) (key : Key) (c : Certificate) → IsLegal s h → IsCaused s h → Follows s h → IsStill s h → object_at (objects s h) key ≡ Some (Cert c) → is_issuing c ≡ true
    → ((length (next_of (objects s h) c) == 0) ≡ true) ⊎ HasNextKey c (next_of (objects s h) c) → IsSome (wait_of (moment s h) (views_of Issuing (present s h) (Some c) None) c)
unfolding views_of
waits_issuing s h key c legal caused follows still is on (inl empty) = wants_key (is_issuing c) (is_backing_off c.status (moment s h)) (length (next_of (objects s h) c) == 0) _ on empty
waits_issuing s h key c legal caused follows still is on (inr k) =
    let seen : certificate_at (objects s h) key ≡ Some c = ap (option_and_then certificate_in) is in
    let asks : managing.with_key c (requests_of (objects s h) c) (named_key c.status.next_key (next_of (objects s h) c)) ≡ Nothing =
    subst (λ (b : Bool). (if b then managing.with_key c (requests_of (objects s h) c) (named_key c.status.next_key (next_of (objects s h) c)) else Nothing) ≡ Nothing) on (requests_rest s h key c seen (still RequestManager key (Cert c) is)) in
    let r = has_request c (next_of (objects s h) c) (requests_of (objects s h) c) k asks in
    wants_more (is_issuing c) (is_backing_off c.status (moment s h)) (length (next_of (objects s h) c) == 0) (wait_of_next (target_at (objects s h) c) (next_request c.status.revision (requests_of (objects s h) c))) on
    (subst (λ (x : Option CertificateRequest). IsSome (wait_of_next (target_at (objects s h) c) x)) (sym r.next)
    (request_waits_on s h c k r caused follows still on (issuing_rests s h key c seen (still Issuing key (Cert c) is))))

waits_by : (b : Bool) (s : Setting) (h : List Entry) (key : Key) (c : Certificate) → is_issuing c ≡ b → IsLegal s h → IsCaused s h → Follows s h → IsStill s h → object_at (objects s h) key ≡ Some (Cert c)
    → is_stated Ready c.status.conditions ≡ false → IsSome (wait_of (moment s h) (views_of Issuing (present s h) (Some c) None) c)
waits_by true s h key c on legal caused follows still is waiting =
    let seen : certificate_at (objects s h) key ≡ Some c = ap (option_and_then certificate_in) is in
    let by : Desk = desk s h KeyManager (present_views s h KeyManager key) in
    let idle : while_issuing c by (target_at (objects s h) c) (next_of (objects s h) c) ≡ Nothing =
    subst (λ (b : Bool). (if b then while_issuing c by (target_at (objects s h) c) (next_of (objects s h) c) else while_idle c (next_of (objects s h) c)) ≡ Nothing) on (keys_rest s h key c seen (still KeyManager key (Cert c) is)) in
    waits_issuing s h key c legal caused follows still is on (has_key c by (target_at (objects s h) c) (next_of (objects s h) c) (λ k j ks. next_apart s h c k j ks legal) idle)
waits_by false s h key c off legal caused follows still is waiting =
    let seen : certificate_at (objects s h) key ≡ Some c = ap (option_and_then certificate_in) is in
    tries_again (is_issuing c) (is_backing_off c.status (moment s h)) _ off
    (waits_to_try (moment s h) (target_at (objects s h) c) (requests_of (objects s h) c) c off (trigger_rests s h key c seen (still Trigger key (Cert c) is)) (readiness_rests s h key c seen (still Readiness key (Cert c) is)) waiting)

pub waits_where_still : (s : Setting) (h : List Entry) (key : Key) (c : Certificate) → IsLegal s h → IsCaused s h → Follows s h → IsStill s h → object_at (objects s h) key ≡ Some (Cert c)
    → is_stated Ready c.status.conditions ≡ false → IsSome (wait_in (moment s h) (present_views s h Issuing key))
unfolding views_in views_of
waits_where_still s h key c legal caused follows still is waiting =
    subst (λ (x : Option Certificate). IsSome (wait_of_seen (moment s h) (views_of Issuing (present s h) x None) x)) (sym (ap (option_and_then certificate_in) is))
    (waits_by (is_issuing c) s h key c refl legal caused follows still is waiting)
