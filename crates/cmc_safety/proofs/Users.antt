-- A user leaves what each object says of its revision.
use Rattle.std.proofs.Common.{◌≡◌, ◌==◌, ℕ, ℤ, ◌+◌, List, [], ◌∷◌, Option, Some, None, Bool, refl, ap, subst, ◌∙◌, true, false, option_and_then}
use Rattle.std.specs.Prelude.{codes, find, option_map}
use Rattle.std.specs.FinMap as finite
use Rattle.cmc_meta.specs.declared.key.Key.{Key}
use Rattle.cmc_meta.specs.declared.conditions.ConditionKind.{ConditionKind}
use Rattle.cmc_meta.specs.declared.conditions.ConditionKind.TheVariants.{Approved, Denied}
use Rattle.cmc_meta.specs.ConditionLists.{condition_rank, transitioned}
use Rattle.cmc_objects.specs.declared.certificate.Certificate.{Certificate}
use Rattle.cmc_objects.specs.declared.certificate.CertStatus.{CertStatus}
use Rattle.cmc_objects.specs.declared.request.CertificateRequest.{CertificateRequest}
use Rattle.cmc_objects.specs.declared.object.Object.{Object}
use Rattle.cmc_objects.specs.declared.object.Object.TheVariants.{Cert, Request, Secret}
use Rattle.cmc_objects.specs.declared.call.Call.{Call}
use Rattle.cmc_objects.specs.declared.call.Call.TheVariants.{Create, Update, UpdateStatus, Delete, Get}
use Rattle.cmc_objects.specs.declared.call.Reply.{Reply}
use Rattle.cmc_objects.specs.declared.rows.SignRow.{SignRow}
use Rattle.cmc_objects.specs.declared.entry.Step.{Step}
use Rattle.cmc_objects.specs.declared.entry.Step.TheVariants as steps
use Rattle.cmc_objects.specs.declared.entry.Entry.{Entry}
use Rattle.cmc_objects.specs.declared.entry.Entry.TheVariants.{Script}
use Rattle.cmc_objects.specs.Objects.{key_of, meta_of, version_of, numbered}
use Rattle.cmc_model.specs.Objects.{Objects, object_at}
use Rattle.cmc_model.specs.Stored.{created, updated, with_status, generation_after}
use Rattle.cmc_model.specs.Replies.{IsReply, is_accepted, settled}
use Rattle.cmc_model.specs.Acceptance.{IsFounded}
use Rattle.cmc_model.specs.Histories.{Setting, moment, state, objects, accepted}
use Rattle.cmc_model.proofs.Accepting.{accepted_found}
use Rattle.cmc_model.proofs.Writing.{IsCallOf}
use Rattle.cmc_rules.specs.declared.effect.Effect.{Effect}
use Rattle.cmc_rules.specs.declared.effect.Effect.TheVariants as effects
use Rattle.cmc_rules.specs.Legality.{IsLegal}
use Rattle.cmc_rules.specs.Revisions.{stated_revision, KeepsRevision}
use Rattle.cmc_rules.specs.Scripts.{step_at}
use Rattle.cmc_rules.specs.UserWrites.{as_request, is_object_for, request_for, verdict, judge_call, answer_call, manual_condition, renew_call, renewal_of}
use Rattle.cmc_rules.specs.UserSteps.{apply_call, call_of, call_or, effect_of, owed}
use Rattle.cmc_rules.proofs.Sights.{found_among}
use Rattle.cmc_rules.proofs.Sighted.{stands_among}
use Rattle.cmc_rules.proofs.Versions.{stands_is_version, version_keyed}
use Rattle.cmc_safety.proofs.LastVersions.{one_object}

-- ---- what the store makes of an object

stated-numbered : (v g : ℕ) (o : Object) → stated_revision (numbered v g o) ≡ stated_revision o
unfolding numbered
stated-numbered v g (Cert c) = refl
stated-numbered v g (Request r) = refl
stated-numbered v g (Secret k) = refl

stated-created : (v : ℕ) (now : ℤ) (o : Object) → stated_revision (created v now o) ≡ None
unfolding created
stated-created v now (Cert c) = refl
stated-created v now (Request r) = refl
stated-created v now (Secret k) = refl

stated-updated : (old new : Object) → stated_revision (updated old new) ≡ stated_revision old
unfolding updated
stated-updated (Cert a) (Cert b) = refl
stated-updated (Request a) (Request b) = refl
stated-updated (Secret a) (Secret b) = refl
stated-updated old other = refl

-- the status of a request says nothing of a revision
stated-answered : (old : Object) (r : CertificateRequest) → stated_revision (with_status old (Request r)) ≡ stated_revision old
unfolding with_status
stated-answered (Cert a) r = refl
stated-answered (Request a) r = refl
stated-answered (Secret a) r = refl

-- ---- what the script has a user call

-- the request that a step speaks of stands
as_is : (o : Object) (r : CertificateRequest) → as_request o ≡ Some r → o ≡ Request r
as_is (Request q) r is = ap Request (cc is)
as_is (Cert c) r is = absurd (cc is)
as_is (Secret k) r is = absurd (cc is)

found_stands : (m : Objects) (test : Key × Object → Bool) (x : Option (Key × Object)) (r : CertificateRequest) → find test (finite.entries m) ≡ x → option_and_then (λ (e : Key × Object). as_request e.1) x ≡ Some r
    → (key : Key) × (object_at m key ≡ Some (Request r))
found_stands m test None r at is = absurd (cc is)
found_stands m test (Some e) r at is = (e.0, stands_among m e (found_among test (finite.entries m) e at) ∙ ap Some (as_is e.1 r is))

pub request_stands : (m : Objects) (certificate : Key) (revision : ℕ) (r : CertificateRequest) → request_for m certificate revision ≡ Some r → (key : Key) × (object_at m key ≡ Some (Request r))
request_stands m certificate revision r is =
    found_stands m (λ e. is_object_for certificate revision e.1) (find (λ e. is_object_for certificate revision e.1) (finite.entries m)) r refl is

-- what is true of each call that a step of the script may make at this moment on these objects: of an object that one applies, of a deletion,
-- of a verdict and of an answer on a request that stands, and of a Certificate that stands and is to be issued anew
pub record IsOfSteps (script : List Step) (now : ℤ) (m : Objects) (Q : Call → Type 0) : Type 0 where
  pub applies : (number : ℕ) (object : Object) (version : Option ℕ) → step_at script number ≡ Some (steps.Apply object version) → Q (Create object false) × ((named : ℕ) → Q (Update object named))
  pub deletes : (key : Key) (version : Option ℕ) → Q (Delete key version)
  pub judges : (kind : ConditionKind) (message : List ℕ) → (condition_rank kind == 0) ≡ false → (key : Key) (r : CertificateRequest) → object_at m key ≡ Some (Request r)
      → Q (judge_call (verdict kind message now) r)
  pub answers : (row : SignRow) (key : Key) (r : CertificateRequest) → object_at m key ≡ Some (Request r) → Q (answer_call row now r)
  pub renews : (key : Key) (c : Certificate) → object_at m key ≡ Some (Cert c) → Q (renew_call now c)

abbrev OfEffect : (Call → Type 0) → Option Effect → Type 0
OfEffect Q (Some (effects.Call call)) = Q call
OfEffect Q other = Unit {0}

of_apply : (Q : Call → Type 0) (object : Object) (version : Option ℕ) (old : Option Object) → Q (Create object false) × ((named : ℕ) → Q (Update object named)) → Q (apply_call object version old)
of_apply Q object (Some version) old is = is.1 version
of_apply Q object None None is = is.0
of_apply Q object None (Some old) is = is.1 (version_of old)

of_request : (Q : Call → Type 0) (m : Objects) (certificate : Key) (revision : ℕ) (call : CertificateRequest → Call) → ((key : Key) (r : CertificateRequest) → object_at m key ≡ Some (Request r) → Q (call r))
    → OfEffect Q (call_or (option_map call (request_for m certificate revision)) None)
of_request Q m certificate revision call each = by (request_for m certificate revision) refl where
  by : (x : Option CertificateRequest) → request_for m certificate revision ≡ x → OfEffect Q (call_or (option_map call x) None)
  by None is = tt
  by (Some r) is = let there = request_stands m certificate revision r is in each there.0 r there.1

of_renewal : (Q : Call → Type 0) (now : ℤ) (old : Option Object) → ((c : Certificate) → old ≡ Some (Cert c) → Q (renew_call now c)) → OfEffect Q (call_or (renewal_of now old) None)
of_renewal Q now (Some (Cert c)) each = each c refl
of_renewal Q now other each = tt

of_step : (Q : Call → Type 0) (s : Setting) (h : List Entry) (number : ℕ) (step : Option Step) → IsOfSteps s.script (moment s h) (objects s h) Q → step_at s.script number ≡ step
    → OfEffect Q (option_and_then (effect_of s h) step)
unfolding call_of
of_step Q s h number (Some (steps.Apply object version)) of there = of_apply Q object version (object_at (objects s h) (key_of object)) (of.applies number object version there)
of_step Q s h number (Some (steps.Delete key version)) of there = of.deletes key version
of_step Q s h number (Some (steps.Approve certificate revision)) of there = of_request Q (objects s h) certificate revision _ (of.judges Approved (codes "approved by the script") refl)
of_step Q s h number (Some (steps.Deny certificate revision)) of there = of_request Q (objects s h) certificate revision _ (of.judges Denied (codes "denied by the script") refl)
of_step Q s h number (Some (steps.Answer certificate revision row)) of there = of_request Q (objects s h) certificate revision _ (of.answers row)
of_step Q s h number (Some (steps.Renew certificate)) of there = of_renewal Q (moment s h) (object_at (objects s h) certificate) (of.renews certificate)
of_step Q s h number other of there = tt

of_owed : (Q : Call → Type 0) (s : Setting) (h : List Entry) → IsOfSteps s.script (moment s h) (objects s h) Q → OfEffect Q (owed s h)
of_owed Q s [] of = tt
of_owed Q s (Script step ∷ h) of = of_step Q s h step (step_at s.script step) of refl
of_owed Q s (other ∷ h) of = tt

-- it is true of the call that is owed
pub of_steps : (Q : Call → Type 0) (s : Setting) (h : List Entry) (call : Call) → IsOfSteps s.script (moment s h) (objects s h) Q → owed s h ≡ Some (effects.Call call) → Q call
of_steps Q s h call of is = subst (OfEffect Q) is (of_owed Q s h of)

-- ---- what they say of the revision

-- a status that a user writes says of the revision what the one says that stands; other calls leave the status
abbrev pub IsUsers : Objects → Call → Type 0
IsUsers objects (UpdateStatus object named) = (old : Object) → object_at objects (key_of object) ≡ Some old → stated_revision (with_status old object) ≡ stated_revision old
IsUsers objects other = Unit {0}

-- a Certificate that is to be issued anew keeps its revision
renewed : (objects : Objects) (c : Certificate) (status : CertStatus) → object_at objects (key_of (Cert c)) ≡ Some (Cert c) → status.revision ≡ c.status.revision → (old : Object)
    → object_at objects (key_of (Cert c)) ≡ Some old → stated_revision (with_status old (Cert (record c { status = status }))) ≡ stated_revision old
unfolding with_status
renewed objects c status stands same old there =
    subst (λ (o : Object). stated_revision (with_status o (Cert (record c { status = status }))) ≡ stated_revision o)
    (one_object (Cert c) old (object_at objects (key_of (Cert c))) stands there) same

-- what stands has its key
stands_keyed : (s : Setting) (h : List Entry) (key : Key) (o : Object) → IsLegal s h → object_at (objects s h) key ≡ Some o → object_at (objects s h) (key_of o) ≡ Some o
stands_keyed s h key o legal is = ap (object_at (objects s h)) (version_keyed s h key o legal (stands_is_version s h key o is)) ∙ is

users_steps : (s : Setting) (h : List Entry) → IsLegal s h → IsOfSteps s.script (moment s h) (objects s h) (IsUsers (objects s h))
unfolding judge_call answer_call renew_call
users_steps s h legal = record {
  applies = λ number object version there. (tt, λ named. tt);
  deletes = λ key version. tt;
  judges = λ kind message other key r stands old there. stated-answered old _;
  answers = λ row key r stands old there. stated-answered old _;
  renews = λ key c stands.
      renewed (objects s h) c (record c.status { conditions = transitioned c.status.conditions (manual_condition (moment s h)) }) (stands_keyed s h key (Cert c) legal stands) refl;
}

users_settled : (objects : Objects) (call : Call) (reply : Reply) → IsUsers objects call → IsUsers objects (settled call reply)
unfolding settled
users_settled objects (Create object generate) reply is = tt
users_settled objects other reply is = is

-- ---- the law

users_call : (s : Setting) (h : List Entry) (call : Call) → IsUsers (objects s h) call → IsFounded (objects s h) call → IsCallOf KeepsRevision s h call
unfolding IsFounded
users_call s h (Create object generate) is on = rw on.0 (stated-created (accepted s h + 1) (moment s h) object)
users_call s h (Update object named) is on =
    rw on.1 (stated-numbered (accepted s h + 1) (generation_after on.0 (updated on.0 object)) (updated on.0 object) ∙ stated-updated on.0 object)
users_call s h (UpdateStatus object named) is on =
    let same = is on.0 on.1 in
    rw on.1 (stated-numbered (accepted s h + 1) (meta_of on.0).generation (with_status on.0 object) ∙ same)
users_call s h (Delete key named) is on = tt
users_call s h (Get key) is on = absurd on

-- what the script has a user call, once it is accepted, keeps the revision of what stood
pub users_keep : (s : Setting) (h : List Entry) (call : Call) (reply : Reply) → IsLegal s h → owed s h ≡ Some (effects.Call call) → IsReply s.faults (state s h) call reply → is_accepted reply ≡ true
    → IsCallOf KeepsRevision s h (settled call reply)
users_keep s h call reply legal owes right ok =
    users_call s h (settled call reply) (users_settled (objects s h) call reply (of_steps (IsUsers (objects s h)) s h call (users_steps s h legal) owes))
    (accepted_found s.faults (state s h) call reply right ok)
