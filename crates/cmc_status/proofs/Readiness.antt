-- The record of laws of the readiness controller.
use Rattle.std.proofs.Common.{◌≡◌, ℤ, Bool, true, false, List, Option, Some, None, refl, sym, ap, subst, int_le, arith}
use Rattle.std.proofs.lemmas.Int.{ints}
use Rattle.std.specs.Prelude.{not, ◌&&◌, if◌then◌else◌, int_lt}
use Rattle.cmc_meta.specs.declared.conditions.Condition.{Condition}
use Rattle.cmc_meta.specs.declared.conditions.ConditionKind.TheVariants.{Ready}
use Rattle.cmc_meta.specs.ConditionLists.{condition_at}
use Rattle.cmc_der.specs.Keys.{CertificateFields}
use Rattle.cmc_objects.specs.declared.certificate.Certificate.{Certificate}
use Rattle.cmc_objects.specs.declared.certificate.CertStatus.{CertStatus}
use Rattle.cmc_objects.specs.declared.request.CertificateRequest.{CertificateRequest as RequestObject}
use Rattle.cmc_objects.specs.declared.secret.Secret.{Secret as SecretObject}
use Rattle.cmc_objects.specs.declared.object.Object.TheVariants.{Cert}
use Rattle.cmc_objects.specs.declared.role.Role.TheVariants.{Readiness}
use Rattle.cmc_policies.specs.declared.facts.Reason.{Reason}
use Rattle.cmc_policies.specs.declared.facts.Reason.TheVariants.{DoesNotExist, MissingData, SecretMismatch, RequestChanged, Expired}
use Rattle.cmc_policies.specs.declared.facts.Frame.{Frame}
use Rattle.cmc_policies.specs.declared.renewal.Renew.{Renew}
use Rattle.cmc_policies.specs.Reasons.{Known, first_of}
use Rattle.cmc_policies.specs.Renewal.{IsCertificateTime}
use Rattle.cmc_objects.specs.KeyPairs.{is_paired, begins, ends}
use Rattle.cmc_match.specs.Facts.{pair_in, pair_at, known_for}
use Rattle.cmc_match.proofs.PairLaws.{HasValidity, pair_found, pair_validity}
use Rattle.cmc_pass.specs.declared.pass.Views.{Views}
use Rattle.cmc_pass.specs.declared.pass.Desk.{Desk}
use Rattle.cmc_pass.specs.declared.pass.Act.{Act}
use Rattle.cmc_pass.specs.declared.pass.Act.TheVariants.{Nothing}
use Rattle.cmc_model.proofs.Admission.{certificate_status_passes}
use Rattle.cmc_objects.specs.Objects.{numbered}
use Rattle.cmc_model.specs.Stored.{with_status}
use Rattle.cmc_rules.specs.Rights.{other_conditions}
use Rattle.cmc_rules.specs.Dates.{IsDatedOption, IsDatedStatus}
use Rattle.cmc_rules.specs.Chains.{readiness_chain, readiness_reason}
use Rattle.cmc_rules.specs.Trigger.{frame_of}
use Rattle.cmc_rules.specs.Readiness.{ready_condition, ready_status, begins_at, ends_at, renews_at, is_same_moment, says, is_settled, ready_call, ready_by, ready_of, readiness}
use Rattle.cmc_rules.specs.Acts.{act, call_after}
use Rattle.cmc_rules.specs.SeenObjects.{OnSeen}
use Rattle.cmc_rules.specs.Sound.{IsWithin, IsExpiry, views_shown, IsSound}
use Rattle.cmc_rules.proofs.Sights.{seen_certificate}
use Rattle.cmc_rules.proofs.Conditions.{others-transitioned}
use Rattle.cmc_rules.proofs.Dating.{dated_transitioned, dated_renewal}
use Rattle.cmc_rules.proofs.Lines.{by_test}

-- ---- the call

abbrev Is : Views → ℤ → Act → Type 0
Is seen now a = IsWithin Readiness (call_after Readiness seen now) seen now a

others : (condition : Condition) (renew : Renew) (pair : Option CertificateFields) (status : CertStatus) → condition.kind ≡ Ready
    → other_conditions Ready (ready_status condition renew pair status).conditions ≡ other_conditions Ready status.conditions
unfolding ready_status
others condition renew pair status is =
    subst (λ k. other_conditions k (ready_status condition renew pair status).conditions ≡ other_conditions k status.conditions) is (others-transitioned status.conditions condition)

rest : (condition : Condition) (renew : Renew) (pair : Option CertificateFields) (status : CertStatus)
    → ready_status condition renew pair status ≡ record status {
      conditions = (ready_status condition renew pair status).conditions;
      not_before = (ready_status condition renew pair status).not_before;
      not_after = (ready_status condition renew pair status).not_after;
      renewal = (ready_status condition renew pair status).renewal;
    }
unfolding ready_status
rest condition renew pair status = refl

-- the certificate of a pair has a validity, so its renewal lies between its two times
abbrev HasTimes : Option CertificateFields → Type 0
HasTimes None = Unit {0}
HasTimes (Some fields) = HasValidity fields.not_before fields.not_after

pair_times : (secret : SecretObject) (pair : Option CertificateFields) → pair_in secret ≡ pair → HasTimes pair
pair_times secret None is = tt
pair_times secret (Some fields) is = pair_validity secret fields (pair_found secret fields is)

times_at : (secret : Option SecretObject) → HasTimes (pair_at secret)
times_at None = tt
times_at (Some secret) = pair_times secret (pair_in secret) refl

dated_begins : (pair : Option CertificateFields) → HasTimes pair → IsDatedOption (begins_at pair)
dated_begins None times = tt
dated_begins (Some fields) times = times.begins

dated_ends : (pair : Option CertificateFields) → HasTimes pair → IsDatedOption (ends_at pair)
dated_ends None times = tt
dated_ends (Some fields) times = times.ends

dated_renews : (renew : Renew) (pair : Option CertificateFields) → HasTimes pair → IsDatedOption (renews_at renew pair)
dated_renews renew None times = tt
dated_renews renew (Some fields) times = dated_renewal fields.not_before fields.not_after renew times.begins times.ends times.ordered

dated_ready : (condition : Condition) (renew : Renew) (pair : Option CertificateFields) (status : CertStatus) → HasTimes pair → IsCertificateTime condition.since → IsDatedStatus status
    → IsDatedStatus (ready_status condition renew pair status)
unfolding ready_status
dated_ready condition renew pair status times timed dated = record {
  conditions = dated_transitioned status.conditions condition dated.conditions timed;
  last_failure = dated.last_failure;
  not_before = dated_begins pair times;
  not_after = dated_ends pair times;
  renewal = dated_renews renew pair times;
}

same : (condition : Condition) (renew : Renew) (pair : Option CertificateFields) (status : CertStatus) → (ready_status condition renew pair status).revision ≡ status.revision
unfolding ready_status
same condition renew pair status = refl

-- the condition is of the kind Ready, and its moment is now
record IsReadyAt (now : ℤ) (condition : Condition) : Type 0 where
  pub kind : condition.kind ≡ Ready
  pub since : condition.since ≡ now

ready_at : (moment : ℤ) (reason : Option Reason) → IsReadyAt moment (ready_condition moment reason)
unfolding ready_condition
ready_at moment None = record { kind = refl; since = refl }
ready_at moment (Some reason) = record { kind = refl; since = refl }

call_is : (seen : Views) (now : ℤ) (condition : Condition) (renew : Renew) (pair : Option CertificateFields) (c : Certificate) → IsReadyAt now condition → HasTimes pair → seen.certificate ≡ Some c
    → Is seen now (ready_call condition renew pair c)
unfolding ready_call OnSeen numbered with_status
call_is seen now condition renew pair c is times sees = record {
  old = Cert c;
  sees = seen_certificate seen c sees;
  key = refl;
  version = refl;
  changes = λ next. record { rights = (refl, refl, record { rest = rest condition renew pair c.status; others = others condition renew pair c.status is.kind }); dated = λ timed dated. dated_ready condition renew pair c.status times (subst IsCertificateTime (sym is.since) timed) dated; revision = same condition renew pair c.status; no_secret = λ written issuing is. absurd (cc issuing); no_approval = λ o n approver b a x y. absurd (cc approver); no_request = λ made before after. absurd (cc before) };
  passes = λ taken. certificate_status_passes (Some (Cert c)) _ taken;
}

by_is : (seen : Views) (now : ℤ) (condition : Condition) (renew : Renew) (pair : Option CertificateFields) (c : Certificate) → IsReadyAt now condition → HasTimes pair → seen.certificate ≡ Some c
    → Is seen now (ready_by condition renew pair c)
by_is seen now condition renew pair c is times sees = by_test (Is seen now) (is_settled condition renew pair c.status) _ _ (λ on. tt) (λ off. call_is seen now condition renew pair c is times sees)

of_is : (seen : Views) (now : ℤ) (o : Option Certificate) → seen.certificate ≡ o → Is seen now (ready_of now seen.secret seen.requests o)
of_is seen now None sees = tt
of_is seen now (Some c) sees = by_is seen now _ _ _ c (ready_at now (readiness_reason (frame_of now c) c seen.secret seen.requests)) (times_at seen.secret) sees

within : (seen : Views) (now : ℤ) (desk : Desk) → Is seen now (readiness seen now)
unfolding readiness
within seen now desk = of_is seen now seen.certificate refl

-- ---- nothing stays nothing until the certificate expires

abbrev Quiet : (ℤ → Type 0) → ℤ → ℤ → Type 0
Quiet P t u = (at : ℤ) → P at → int_le at t ≡ false → int_le at u ≡ true → ⊥

expired : (b c : Bool) (t u at : ℤ) → int_lt t at ≡ b → int_lt u at ≡ c → int_le t u ≡ true → (int_le at t ≡ false → int_le at u ≡ true → ⊥) → b ≡ c
expired true true t u at e f later quiet = refl
expired false false t u at e f later quiet = refl
expired true false t u at e f later quiet = absurd (quiet (grind (arith, ints)) (grind (arith, ints)))
expired false true t u at e f later quiet = absurd (grind (arith, ints))

abbrev known_by : (stands filled issuer owner kind request : Bool) → Option CertificateFields → Known
known_by stands filled issuer owner kind request pair = record {
  secret = stands;
  filled = filled;
  pair = is_paired pair;
  issuer = issuer;
  owner = owner;
  kind = kind;
  request = request;
  not_before = begins pair;
  not_after = ends pair;
}

abbrev frame : ℤ → Renew → Frame
frame at renew = record { now = at; renew = renew }

same_reason : (s f i o k r : Bool) (pair : Option CertificateFields) (renew : Renew) (t u : ℤ) → Quiet (IsExpiry pair) t u → int_le t u ≡ true
    → first_of readiness_chain (frame t renew) (known_by s f i o k r pair) ≡ first_of readiness_chain (frame u renew) (known_by s f i o k r pair)
same_reason s f i o k r None renew t u quiet later = refl
same_reason s f i o k r (Some fields) renew t u quiet later =
    let same = expired (int_lt t fields.not_after) (int_lt u fields.not_after) t u fields.not_after refl refl later (quiet fields.not_after refl) in
    ap (λ (b : Bool). if not s then Some DoesNotExist else (if not f then Some MissingData else (if not k then Some SecretMismatch else (if not r then Some RequestChanged else (if not b then Some Expired else None))))) same

-- the same is said at both moments
same_says : (old : Option Condition) (t u : ℤ) (reason : Option Reason) → says old (ready_condition t reason) ≡ says old (ready_condition u reason)
unfolding ready_condition
same_says None t u reason = refl
same_says (Some old) t u None = refl
same_says (Some old) t u (Some reason) = refl

same_settled : (t u : ℤ) (reason : Option Reason) (renew : Renew) (pair : Option CertificateFields) (status : CertStatus)
    → is_settled (ready_condition t reason) renew pair status ≡ is_settled (ready_condition u reason) renew pair status
unfolding is_settled
same_settled t u reason renew pair status =
    ap (λ (b : Bool). b && (is_same_moment status.not_before (begins_at pair) && (is_same_moment status.not_after (ends_at pair) && is_same_moment status.renewal (renews_at renew pair))))
    (same_says (condition_at status.conditions Ready) t u reason)

called : (condition : Condition) (renew : Renew) (pair : Option CertificateFields) (c : Certificate) → ready_call condition renew pair c ≡ Nothing → ⊥
unfolding ready_call
called condition renew pair c e = absurd (cc e)

by_settled : (b : Bool) (one other : Act) → (one ≡ Nothing → ⊥) → (if b then Nothing else one) ≡ Nothing → (if b then Nothing else other) ≡ Nothing
by_settled true one other acts idle = refl
by_settled false one other acts idle = absurd (acts idle)

stays_by : (t u : ℤ) (p q : Option Reason) (renew : Renew) (pair : Option CertificateFields) (c : Certificate) → p ≡ q
    → ready_by (ready_condition t p) renew pair c ≡ Nothing → ready_by (ready_condition u q) renew pair c ≡ Nothing
stays_by t u p q renew pair c same idle =
    let there = by_settled (is_settled (ready_condition t p) renew pair c.status) (ready_call (ready_condition t p) renew pair c) (ready_call (ready_condition u p) renew pair c) (called _ renew pair c) idle in
    subst (λ (r : Option Reason). ready_by (ready_condition u r) renew pair c ≡ Nothing) same
    (subst (λ (b : Bool). (if b then Nothing else ready_call (ready_condition u p) renew pair c) ≡ Nothing) (same_settled t u p renew pair c.status) there)

stays : (o : Option Certificate) (t u : ℤ) (secret : Option SecretObject) (requests : List RequestObject) → Quiet (IsExpiry (pair_at secret)) t u → int_le t u ≡ true
    → ready_of t secret requests o ≡ Nothing → ready_of u secret requests o ≡ Nothing
stays None t u secret requests quiet later idle = refl
stays (Some c) t u secret requests quiet later idle =
    let k = known_for c secret requests in
    stays_by t u (readiness_reason (frame_of t c) c secret requests) (readiness_reason (frame_of u c) c secret requests) (frame_of t c).renew (pair_at secret) c
    (same_reason k.secret k.filled k.issuer k.owner k.kind k.request (pair_at secret) (frame_of t c).renew t u quiet later) idle

-- ---- the record

told : (seen : Views) (now : ℤ) (desk : Desk) → act Readiness seen now desk ≡ act Readiness (views_shown Readiness seen) now desk
unfolding act readiness
told seen now desk = refl

none : (seen : Views) (now : ℤ) → seen.certificate ≡ None → readiness seen now ≡ Nothing
unfolding readiness
none seen now is = ap (λ (o : Option Certificate). ready_of now seen.secret seen.requests o) is

idle : (seen : Views) (t u : ℤ) → Quiet (IsExpiry (pair_at seen.secret)) t u → int_le t u ≡ true → readiness seen t ≡ Nothing → readiness seen u ≡ Nothing
unfolding readiness
idle seen t u quiet later is = stays seen.certificate t u seen.secret seen.requests quiet later is

pub readiness_sound : IsSound Readiness
unfolding act
readiness_sound = record {
  within = λ seen now desk well. within seen now desk;
  told = told;
  absent = λ seen now desk is. none seen now is.certificate;
  idle = λ seen t u d e rules quiet le is. idle seen t u quiet le is;
}
