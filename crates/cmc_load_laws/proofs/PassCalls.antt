-- Which call of a pass makes a request or a Secret.
use Rattle.std.proofs.Common.{◌≡◌, ◌+◌, ℤ, List, Option, Some, None, true, refl, sym, subst, inl, inr}
use Rattle.cmc_objects.specs.declared.certificate.Certificate.{Certificate}
use Rattle.cmc_objects.specs.declared.request.CertificateRequest.{CertificateRequest}
use Rattle.cmc_objects.specs.declared.secret.Secret.{Secret as SecretObject}
use Rattle.cmc_objects.specs.declared.object.Object.{Object}
use Rattle.cmc_objects.specs.declared.object.Object.TheVariants.{Cert, Request, Secret}
use Rattle.cmc_objects.specs.declared.call.Call.{Call}
use Rattle.cmc_objects.specs.declared.call.Reply.{Reply}
use Rattle.cmc_objects.specs.declared.entry.Entry.{Entry}
use Rattle.cmc_objects.specs.declared.role.Role.TheVariants.{KeyManager, RequestManager, Issuing}
use Rattle.cmc_pass.specs.declared.pass.Views.{Views}
use Rattle.cmc_pass.specs.declared.pass.Desk.{Desk}
use Rattle.cmc_model.specs.Objects.{object_at}
use Rattle.cmc_model.specs.Replies.{key_of_call, is_accepted, settled, stored}
use Rattle.cmc_model.specs.Acceptance.{IsFounded}
use Rattle.cmc_model.specs.Histories.{Setting, moment, objects, accepted}
use Rattle.cmc_model.specs.Writes.{writes}
use Rattle.cmc_rules.specs.declared.progress.Stage.{Stage}
use Rattle.cmc_rules.specs.declared.progress.Stage.TheVariants.{Fresh, Asked, Given, Read, Saved, Wrote, Refused, Barred}
use Rattle.cmc_rules.specs.Acts.{act, call_after}
use Rattle.cmc_rules.specs.Causes.{IsNextCall}
use Rattle.cmc_rules.specs.Legality.{IsLegal}
use Rattle.cmc_rules.specs.Rights.{MayChange}
use Rattle.cmc_rules.specs.SeenObjects.{OnSeen}
use Rattle.cmc_rules.specs.Sound.{IsOrdinary, IsRaiseOf}
use Rattle.cmc_rules.proofs.Sighted.{AreKnown, as_seen}
use Rattle.cmc_safety.proofs.InProgress.{not_accepted}
use Rattle.cmc_safety.proofs.NextCalls.{IsCallAt, IsIssuingCall}
use Rattle.cmc_load_laws.proofs.TargetWrites.{IsTargetWrite, target_write}
use Rattle.cmc_load_laws.proofs.MadeCalls.{IsMakingCall, first_key_call, next_key_call, next_request_call}
use Rattle.cmc_load_laws.proofs.RolesKeep.{certificate_later}

-- an accepted call, what was there and what it stores
pub record IsAccepted (s : Setting) (h : List Entry) (seen : Views) (call : Call) (reply : Reply) (old new : Option Object) : Type 0 where
  pub legal : IsLegal s h
  pub known : AreKnown (writes s h) seen
  pub ok : is_accepted reply ≡ true
  pub founded : IsFounded (objects s h) (settled call reply)
  pub was : object_at (objects s h) (key_of_call (settled call reply)) ≡ old
  pub is : stored (accepted s h + 1) (moment s h) (objects s h) (settled call reply) ≡ new

on_stored : (P : Option Object → Option Object → Type 0) (s : Setting) (h : List Entry) (seen : Views) (call : Call) (reply : Reply) (old new : Option Object) → IsAccepted s h seen call reply old new → OnSeen P seen call → P old new
on_stored P s h seen call reply old new a on =
    subst (λ (x : Option Object). P old x) a.is
    (subst (λ (x : Option Object). P x (stored (accepted s h + 1) (moment s h) (objects s h) (settled call reply))) a.was (as_seen P s h seen call reply a.legal a.known a.ok a.founded on))

-- ---- the request that the request manager makes

pub making_request : (s : Setting) (h : List Entry) (seen : Views) (since : ℤ) (desk : Desk) (stage : Stage) (call : Call) (reply : Reply) (r : CertificateRequest) → IsAccepted s h seen call reply None (Some (Request r))
    → IsNextCall stage (act RequestManager seen since desk) (call_after RequestManager seen since) call → IsCallAt stage RequestManager seen since call → IsMakingCall seen call
making_request s h seen since desk Fresh call reply r a next (inl on) = absurd ((on_stored (IsOrdinary RequestManager since) s h seen call reply None (Some (Request r)) a on).no_request r refl refl)
making_request s h seen since desk Fresh call reply r a next (inr live) = absurd (cc live.issuing)
making_request s h seen since desk (Given order value) call reply r a next at = next_request_call seen since order value call next
making_request s h seen since desk Read call reply r a next (inl at) = absurd (cc at.issues.issuing)
making_request s h seen since desk Read call reply r a next (inr at) = absurd (cc at.stands_in.issuing)
making_request s h seen since desk Saved call reply r a next at = absurd (cc at.issues.issuing)
making_request s h seen since desk (Asked order) call reply r a next at = absurd next
making_request s h seen since desk Wrote call reply r a next at = absurd next
making_request s h seen since desk (Refused entry obstacle) call reply r a next at = absurd next
making_request s h seen since desk Barred call reply r a next at = absurd next

-- ---- the key that the key manager makes

pub making_key : (seen : Views) (since : ℤ) (desk : Desk) (stage : Stage) (call : Call) → IsNextCall stage (act KeyManager seen since desk) (call_after KeyManager seen since) call → IsCallAt stage KeyManager seen since call
    → IsMakingCall seen call
making_key seen since desk Fresh call next at = first_key_call seen since desk call next
making_key seen since desk (Given order value) call next at = next_key_call seen since order value call next
making_key seen since desk Read call next (inl at) = absurd (cc at.issues.issuing)
making_key seen since desk Read call next (inr at) = absurd (cc at.stands_in.issuing)
making_key seen since desk Saved call next at = absurd (cc at.issues.issuing)
making_key seen since desk (Asked order) call next at = absurd next
making_key seen since desk Wrote call next at = absurd next
making_key seen since desk (Refused entry obstacle) call next at = absurd next
making_key seen since desk Barred call next at = absurd next

-- ---- the Secret that issuing writes

no_raise : (since : ℤ) (c : Certificate) (old : Option Object) (k : SecretObject) → IsRaiseOf c since old (Some (Secret k)) → ⊥
no_raise since c old k is =
    let later = certificate_later Issuing c (Some (Secret k)) (subst (λ (x : Option Object). MayChange Issuing x (Some (Secret k))) is.of_it is.rights) in
    absurd (let same : Some (Secret k) ≡ Some (Cert later.later) = later.is in cc same)

status_writes_none : (s : Setting) (h : List Entry) (seen : Views) (since : ℤ) (call : Call) (reply : Reply) (old : Option Object) (k : SecretObject) → IsAccepted s h seen call reply old (Some (Secret k))
    → IsIssuingCall Issuing seen since call (λ plan. plan.status) → ⊥
status_writes_none s h seen since call reply old k a at =
    let on : OnSeen (IsRaiseOf at.issues.certificate since) seen call = subst (OnSeen (IsRaiseOf at.issues.certificate since) seen) (sym at.planned) at.issues.status in
    no_raise since at.issues.certificate old k (on_stored (IsRaiseOf at.issues.certificate since) s h seen call reply old (Some (Secret k)) a on)

none_after : (seen : Views) (since : ℤ) (call : Call) → None ≡ Some call → ⊥
none_after seen since call is = absurd (cc is)

pub writing_target : (s : Setting) (h : List Entry) (seen : Views) (since : ℤ) (desk : Desk) (stage : Stage) (call : Call) (reply : Reply) (old : Option Object) (k : SecretObject)
    → IsAccepted s h seen call reply old (Some (Secret k)) → IsNextCall stage (act Issuing seen since desk) (call_after Issuing seen since) call → IsCallAt stage Issuing seen since call → IsTargetWrite seen call
unfolding act call_after
writing_target s h seen since desk Fresh call reply old k a next (inl on) = absurd ((on_stored (IsOrdinary Issuing since) s h seen call reply old (Some (Secret k)) a on).no_secret k refl refl)
writing_target s h seen since desk Fresh call reply old k a next (inr live) = absurd (not_accepted (objects s h) Issuing seen call reply live a.founded)
writing_target s h seen since desk (Given order value) call reply old k a next at = absurd (none_after seen since call next)
writing_target s h seen since desk Read call reply old k a next at = target_write seen since call next
writing_target s h seen since desk Saved call reply old k a next at = absurd (status_writes_none s h seen since call reply old k a at)
writing_target s h seen since desk (Asked order) call reply old k a next at = absurd next
writing_target s h seen since desk Wrote call reply old k a next at = absurd next
writing_target s h seen since desk (Refused entry obstacle) call reply old k a next at = absurd next
writing_target s h seen since desk Barred call reply old k a next at = absurd next
