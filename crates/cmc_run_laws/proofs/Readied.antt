-- At rest a Certificate that can be issued is Ready.
use Rattle.std.proofs.Common.{◌≡◌, ◌⊎◌, ◌==◌, ◌&&◌, ◌||◌, ℕ, ℤ, List, [], ◌∷◌, length, Option, Some, None, Bool, true, false, not, refl, ap, subst, inl, inr, option_and_then, arith}
use Rattle.std.proofs.lemmas.Bool.{and_parts}
use Rattle.std.proofs.lemmas.Bool.Decides.{Decides-eqb}
use Rattle.std.proofs.lemmas.Slice.Eq.{bytes_eq-Decides}
use Rattle.std.specs.Prelude.{IfSome, IsSome, codes, is_some, if◌then◌else◌}
use Rattle.std.specs.Str.{bytes_eq}
use Rattle.cmc_meta.specs.declared.key.Key.{Key}
use Rattle.cmc_meta.specs.declared.conditions.Condition.{Condition}
use Rattle.cmc_meta.specs.declared.conditions.ConditionKind.TheVariants.{Ready}
use Rattle.cmc_meta.specs.ConditionLists.{condition_at}
use Rattle.cmc_x509.specs.ReadKeys.{key_file_at}
use Rattle.cmc_objects.specs.declared.certificate.Certificate.{Certificate}
use Rattle.cmc_objects.specs.declared.issuer.IssuerRef.{IssuerRef}
use Rattle.cmc_objects.specs.declared.key_spec.Rotation.{Rotation}
use Rattle.cmc_objects.specs.declared.key_spec.Rotation.TheVariants.{Always, Never}
use Rattle.cmc_objects.specs.declared.orders.Rules.{Rules}
use Rattle.cmc_objects.specs.declared.request.CertificateRequest.{CertificateRequest}
use Rattle.cmc_objects.specs.declared.secret.Secret.{Secret as SecretObject}
use Rattle.cmc_objects.specs.declared.object.Object.TheVariants.{Cert, Request}
use Rattle.cmc_objects.specs.declared.role.Role.TheVariants.{KeyManager, RequestManager, Approver, Issuer, Issuing}
use Rattle.cmc_objects.specs.declared.entry.Entry.{Entry}
use Rattle.cmc_objects.specs.Defaults.{issuer_group, issuer_kind, key_rotation}
use Rattle.cmc_objects.specs.Requests.{is_stated, is_approved, is_denied}
use Rattle.cmc_summary.specs.declared.summary.WaitName.TheVariants as names
use Rattle.cmc_pass.specs.declared.pass.Act.TheVariants.{Nothing, Call as Calls}
use Rattle.cmc_pass.specs.declared.pass.Desk.{Desk}
use Rattle.cmc_match.specs.Facts.{fits}
use Rattle.cmc_match.specs.Matches.{matches, has_terms, is_same_issuer}
use Rattle.cmc_match.specs.Revisions.{next_request}
use Rattle.cmc_model.specs.Objects.{object_at}
use Rattle.cmc_model.specs.Histories.{Setting, moment, objects}
use Rattle.cmc_rules.specs.Acts.{act}
use Rattle.cmc_rules.specs.Approver.{approver, ask_judgement, is_covered, is_listed_issuer, judge_of, judge_one}
use Rattle.cmc_rules.specs.Desks.{desk}
use Rattle.cmc_rules.specs.Issuer.{ask_issuer, denied_status, gives, grant_one, is_own, is_request_waiting, status_call}
use Rattle.cmc_rules.specs.Issuance.{is_kept_for_keys, issuing_of, says_issued}
use Rattle.cmc_rules.specs.KeyManager.{ask_key, make_call, rotated, target_key, while_idle, while_issuing}
use Rattle.cmc_rules.specs.NextKeys.{named_key}
use Rattle.cmc_rules.specs.NextRequests.{is_wanted}
use Rattle.cmc_rules.specs.RequestManager as managing
use Rattle.cmc_rules.specs.Rest.{IsAtRest, IsIdle}
use Rattle.cmc_rules.specs.Runs.{IsRun}
use Rattle.cmc_rules.specs.Trigger.{is_issuing}
use Rattle.cmc_rules.specs.Views.{certificate_at, next_of, present_views, request_at, request_in, requests_of, target_at, views_in, views_of}
use Rattle.cmc_waits.specs.Waits.{is_stopped, is_unanswered, wait_of_request}
use Rattle.cmc_waits.proofs.EachNamed.{still}
use Rattle.cmc_waits.proofs.EachWait.{IsStill, issuer_rests, issuing_rests, keys_rest, owned_stands, request_waits_on, requests_rest}
use Rattle.cmc_waits.proofs.NextApart.{next_apart}
use Rattle.cmc_waits.proofs.Stuck.{HasNextKey, HasNextRequest, has_key, has_request}
use Rattle.cmc_run_laws.specs.Settled.{CanBeIssued, IsReadyOrUnderWay, keeps_unfit}
use Rattle.cmc_run_laws.proofs.Settling.{settled, stands}

-- ---- a key can be had

kept_or_made : (readable fitting : Bool) (c : Certificate) (desk : Desk) (file : List ℕ) → (readable && not fitting) ≡ false
    → (if readable then (if fitting then Calls (make_call c file) else Nothing) else ask_key c desk) ≡ Nothing → ⊥
unfolding ask_key make_call
kept_or_made true true c desk file fits idle = absurd (cc idle)
kept_or_made true false c desk file fits idle = absurd (cc fits)
kept_or_made false fitting c desk file fits idle = absurd (cc idle)

key_is_had : (c : Certificate) (desk : Desk) (rotation : Rotation) (file : Option (List ℕ)) → keeps_unfit c rotation file ≡ false → rotated c desk file rotation ≡ Nothing → ⊥
unfolding ask_key
key_is_had c desk Always file fit idle = absurd (cc idle)
key_is_had c desk Never None fit idle = absurd (cc idle)
key_is_had c desk Never (Some file) fit idle = kept_or_made (is_some (key_file_at file)) (fits c.spec.key file) c desk file fit idle

no_key : (c : Certificate) (desk : Desk) (target : Option SecretObject) (next : List SecretObject) → keeps_unfit c (key_rotation c.spec.key) (target_key target) ≡ false
    → while_issuing c desk target next ≡ Nothing → (length next == 0) ≡ true → ⊥
no_key c desk target [] fit idle none = key_is_had c desk (key_rotation c.spec.key) (target_key target) fit idle
no_key c desk target (k ∷ ks) fit idle none = omega (arith, (Decides-eqb (length (k ∷ ks)) 0).0 none)

-- ---- its request gets a verdict and an answer

same_issuer : (a b : IssuerRef) → is_same_issuer a b ≡ true → (a.name ≡ b.name) × (issuer_group a ≡ issuer_group b)
same_issuer a b is =
    let all = and_parts (bytes_eq a.name b.name) (bytes_eq (issuer_kind a) (issuer_kind b) && bytes_eq (issuer_group a) (issuer_group b)) is in
    let rest = and_parts (bytes_eq (issuer_kind a) (issuer_kind b)) (bytes_eq (issuer_group a) (issuer_group b)) all.1 in
    ((bytes_eq-Decides a.name b.name).0 all.0, (bytes_eq-Decides (issuer_group a) (issuer_group b)).0 rest.1)

covers : (rules : Rules) (c : Certificate) (r : CertificateRequest) (file : List ℕ) → is_wanted c file r ≡ true → is_covered rules c.spec.issuer ≡ true → is_covered rules r.spec.issuer ≡ true
unfolding matches has_terms
covers rules c r file wanted on =
    let match = and_parts (matches c.spec r) _ wanted in
    let terms = and_parts _ (has_terms c.spec r.spec) match.0 in
    let same = same_issuer c.spec.issuer r.spec.issuer (and_parts (is_same_issuer c.spec.issuer r.spec.issuer) _ terms.1).0 in
    subst (λ (name : List ℕ). (bytes_eq (issuer_group r.spec.issuer) (codes "cert-manager.io") && is_listed_issuer name rules.issuers) ≡ true) same.0
    (subst (λ (group : List ℕ). (bytes_eq group (codes "cert-manager.io") && is_listed_issuer c.spec.issuer.name rules.issuers) ≡ true) same.1 on)

approver_rests : (s : Setting) (h : List Entry) (key : Key) (r : CertificateRequest) → request_at (objects s h) key ≡ Some r → IsIdle s h Approver (present_views s h Approver key) → judge_one s.rules r ≡ Nothing
unfolding act approver views_in views_of
approver_rests s h key r is idle = subst (λ (x : Option CertificateRequest). judge_of s.rules x ≡ Nothing) is idle

has_verdict : (approved denied covered : Bool) (r : CertificateRequest) (rules : Rules) → covered ≡ true → (if approved || denied then Nothing else (if covered then ask_judgement r rules else Nothing)) ≡ Nothing
    → (not approved && not denied) ≡ false
unfolding ask_judgement
has_verdict true denied covered r rules on idle = refl
has_verdict false true covered r rules on idle = refl
has_verdict false false true r rules on idle = absurd (cc idle)
has_verdict false false false r rules on idle = absurd (cc on)

-- what the issuer has not answered it is asked
unanswered_is_open : (o : Option Condition) → is_unanswered o ≡ true → (gives (codes "Issued") o ≡ false) × ((gives (codes "Failed") o ≡ false) × (gives (codes "Denied") o ≡ false))
unanswered_is_open None is = (refl, (refl, refl))
unanswered_is_open (Some ready) is =
    let text : ready.reason ≡ codes "Pending" = (bytes_eq-Decides ready.reason (codes "Pending")).0 is in
    (ap (λ (t : List ℕ). bytes_eq t (codes "Issued")) text, (ap (λ (t : List ℕ). bytes_eq t (codes "Failed")) text, ap (λ (t : List ℕ). bytes_eq t (codes "Denied")) text))

asked_by : (denied marked approved issued failed own waiting : Bool) (now : ℤ) (desk : Desk) (r : CertificateRequest) → approved ≡ true → marked ≡ false → issued ≡ false → failed ≡ false → own ≡ true → waiting ≡ false
    → (if denied then (if marked then Nothing else Calls (status_call (denied_status r.status now) r)) else (if approved && (not issued && (not failed && own)) then (if waiting then Nothing else ask_issuer now desk r) else Nothing)) ≡ Nothing → ⊥
unfolding ask_issuer
asked_by true false approved issued failed own waiting now desk r a m i f o w idle = absurd (cc idle)
asked_by true true approved issued failed own waiting now desk r a m i f o w idle = absurd (cc m)
asked_by false marked true false false true false now desk r a m i f o w idle = absurd (cc idle)
asked_by false marked true false false true true now desk r a m i f o w idle = absurd (cc w)
asked_by false marked true false false false waiting now desk r a m i f o w idle = absurd (cc o)
asked_by false marked true false true own waiting now desk r a m i f o w idle = absurd (cc f)
asked_by false marked true true failed own waiting now desk r a m i f o w idle = absurd (cc i)
asked_by false marked false issued failed own waiting now desk r a m i f o w idle = absurd (cc a)

no_wait_by : (verdict kept approved asked : Bool) (o : Option Condition) → verdict ≡ false → kept ≡ false → (approved ≡ true → asked ≡ true → ⊥)
    → (if verdict then Some names.Unapproved else (if says_issued o && kept then Some names.Name else (if approved && asked then Some names.Pending else None))) ≡ None
no_wait_by true kept approved asked o one two three = absurd (cc one)
no_wait_by false true approved asked o one two three = absurd (cc two)
no_wait_by false false approved asked o one two three = by (says_issued o) approved asked three where
  by : (b approved asked : Bool) → (approved ≡ true → asked ≡ true → ⊥) → (if b && false then Some names.Name else (if approved && asked then Some names.Pending else None)) ≡ None
  by true true true three = absurd (three refl refl)
  by true true false three = refl
  by true false asked three = refl
  by false true true three = absurd (three refl refl)
  by false true false three = refl
  by false false asked three = refl

no_wait : (s : Setting) (h : List Entry) (by : Desk) (target : Option SecretObject) (r : CertificateRequest) → judge_one s.rules r ≡ Nothing → grant_one (moment s h) by r ≡ Nothing
    → is_covered s.rules r.spec.issuer ≡ true → is_kept_for_keys target ≡ false → is_request_waiting (moment s h) r ≡ false → wait_of_request target r ≡ None
no_wait s h by target r judged granted covered free answered =
    no_wait_by (not (is_approved r) && not (is_denied r)) (is_kept_for_keys target) (is_approved r) (is_unanswered (condition_at r.status.conditions Ready)) (condition_at r.status.conditions Ready)
    (has_verdict (is_approved r) (is_denied r) (is_covered s.rules r.spec.issuer) r s.rules covered judged) free
    (λ approved asked.
    let none = unanswered_is_open (condition_at r.status.conditions Ready) asked in
    asked_by (is_denied r) (gives (codes "Denied") (condition_at r.status.conditions Ready)) (is_approved r) (gives (codes "Issued") (condition_at r.status.conditions Ready)) (gives (codes "Failed") (condition_at r.status.conditions Ready)) (is_own r.spec.issuer) (is_request_waiting (moment s h) r)
    (moment s h) by r approved none.1.1 none.0 none.1.0 (and_parts (is_own r.spec.issuer) _ covered).0 answered granted)

-- ---- so nothing is left to wait for

none_some : {A : Type 0} (x : Option A) → x ≡ None → IsSome x → ⊥
none_some None is some = absurd (cc some)
none_some (Some a) is some = absurd (cc is)

-- nothing stands in its way, in the parts that issuing sees
record IsFree (s : Setting) (h : List Entry) (c : Certificate) : Type 0 where
  makable : keeps_unfit c (key_rotation c.spec.key) (target_key (target_at (objects s h) c)) ≡ false
  free : is_kept_for_keys (target_at (objects s h) c) ≡ false
  covered : is_covered s.rules c.spec.issuer ≡ true
  answered : IfSome (next_request c.status.revision (requests_of (objects s h) c)) (λ r. is_request_waiting (moment s h) r ≡ false)

free_of : (s : Setting) (h : List Entry) (key : Key) (c : Certificate) → certificate_at (objects s h) key ≡ Some c → CanBeIssued s h (present_views s h Issuing key) c → IsFree s h c
unfolding views_in views_of
free_of s h key c is can =
    let same : CanBeIssued s h (views_of Issuing (record { certificates = objects s h; requests = objects s h; secrets = objects s h }) (Some c) None) c =
    subst (λ (x : Option Certificate). CanBeIssued s h (views_of Issuing (record { certificates = objects s h; requests = objects s h; secrets = objects s h }) x None) c) is can in
    record { makable = same.makable; free = same.free; covered = same.covered; answered = same.answered }

with_next : (s : Setting) (h : List Entry) (c : Certificate) (k : HasNextKey c (next_of (objects s h) c)) (r : HasNextRequest c k.file (requests_of (objects s h) c)) → IsRun s h → IsStill s h → IsFree s h c → is_issuing c ≡ true
    → issuing_of (moment s h) (next_of (objects s h) c) (target_at (objects s h) c) (requests_of (objects s h) c) (Some c) ≡ Nothing → ⊥
with_next s h c k r run still free on idle =
    let there = owned_stands (objects s h) c r.request r.among in
    let stands : request_at (objects s h) there.0 ≡ Some r.request = ap (option_and_then request_in) there.1 in
    let answered : is_request_waiting (moment s h) r.request ≡ false = subst (λ (x : Option CertificateRequest). IfSome x (λ r. is_request_waiting (moment s h) r ≡ false)) r.next free.answered in
    none_some (wait_of_request (target_at (objects s h) c) r.request)
    (no_wait s h (desk s h Issuer (present_views s h Issuer there.0)) (target_at (objects s h) c) r.request
    (approver_rests s h there.0 r.request stands (still Approver there.0 (Request r.request) there.1))
    (issuer_rests s h there.0 r.request stands (still Issuer there.0 (Request r.request) there.1))
    (covers s.rules c r.request k.file r.wanted free.covered) free.free answered)
    (request_waits_on s h c k r run.caused run.follows still on idle)

not_waiting : (s : Setting) (h : List Entry) (key : Key) (c : Certificate) → IsRun s h → IsStill s h → IsFree s h c → certificate_at (objects s h) key ≡ Some c → is_issuing c ≡ true → ⊥
not_waiting s h key c run still free is on =
    let there : object_at (objects s h) key ≡ Some (Cert c) = stands s h key c is in
    let by : Desk = desk s h KeyManager (present_views s h KeyManager key) in
    let keys : while_issuing c by (target_at (objects s h) c) (next_of (objects s h) c) ≡ Nothing =
    subst (λ (b : Bool). (if b then while_issuing c by (target_at (objects s h) c) (next_of (objects s h) c) else while_idle c (next_of (objects s h) c)) ≡ Nothing) on (keys_rest s h key c is (still KeyManager key (Cert c) there)) in
    let asks : managing.with_key c (requests_of (objects s h) c) (named_key c.status.next_key (next_of (objects s h) c)) ≡ Nothing =
    subst (λ (b : Bool). (if b then managing.with_key c (requests_of (objects s h) c) (named_key c.status.next_key (next_of (objects s h) c)) else Nothing) ≡ Nothing) on (requests_rest s h key c is (still RequestManager key (Cert c) there)) in
    by_key keys asks (has_key c by (target_at (objects s h) c) (next_of (objects s h) c) (λ k j ks. next_apart s h c k j ks run.legal) keys) where
      by_key : while_issuing c (desk s h KeyManager (present_views s h KeyManager key)) (target_at (objects s h) c) (next_of (objects s h) c) ≡ Nothing
          → managing.with_key c (requests_of (objects s h) c) (named_key c.status.next_key (next_of (objects s h) c)) ≡ Nothing
          → ((length (next_of (objects s h) c) == 0) ≡ true) ⊎ HasNextKey c (next_of (objects s h) c) → ⊥
      by_key keys asks (inl none) = no_key c (desk s h KeyManager (present_views s h KeyManager key)) (target_at (objects s h) c) (next_of (objects s h) c) free.makable keys none
      by_key keys asks (inr k) =
          with_next s h c k (has_request c (next_of (objects s h) c) (requests_of (objects s h) c) k asks) run still free on
          (issuing_rests s h key c is (still Issuing key (Cert c) (stands s h key c is)))

ready_by : (s : Setting) (h : List Entry) (key : Key) (c : Certificate) → IsRun s h → IsAtRest s h → is_stopped s h ≡ false → certificate_at (objects s h) key ≡ Some c → CanBeIssued s h (present_views s h Issuing key) c
    → IsReadyOrUnderWay (moment s h) (present_views s h Issuing key) c → is_stated Ready c.status.conditions ≡ true
ready_by s h key c run rest free is can (inl ready) = ready
ready_by s h key c run rest free is can (inr (inl waits)) = absurd (cc (waits.waits, can.tried))
ready_by s h key c run rest free is can (inr (inr way)) = absurd (not_waiting s h key c run (still s h run rest free) (free_of s h key c is can) is way.issuing)

pub ready : (s : Setting) (h : List Entry) → IsRun s h → IsAtRest s h → is_stopped s h ≡ false → (key : Key) (c : Certificate) → certificate_at (objects s h) key ≡ Some c
    → CanBeIssued s h (present_views s h Issuing key) c → is_stated Ready c.status.conditions ≡ true
ready s h run rest free key c is can = ready_by s h key c run rest free is can (settled s h run rest free key c is)
