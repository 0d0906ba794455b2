-- What an accepted call of a pass does, whichever role the pass is of and however far it has come.
use Rattle.std.proofs.Common.{◌≡◌, ◌⊎◌, ℕ, ℤ, List, ◌∷◌, Option, Some, None, true, sym, subst, ◌∙◌, inl, inr}
use Rattle.cmc_objects.specs.declared.certificate.Certificate.{Certificate}
use Rattle.cmc_objects.specs.declared.request.CertificateRequest.{CertificateRequest}
use Rattle.cmc_objects.specs.declared.secret.Secret.{Secret as SecretObject}
use Rattle.cmc_objects.specs.declared.object.Object.{Object}
use Rattle.cmc_objects.specs.declared.object.Object.TheVariants.{Cert, Request}
use Rattle.cmc_objects.specs.declared.call.Call.{Call}
use Rattle.cmc_objects.specs.declared.call.Reply.{Reply}
use Rattle.cmc_objects.specs.declared.role.Role.{Role}
use Rattle.cmc_objects.specs.declared.role.Role.TheVariants as roles
use Rattle.cmc_objects.specs.declared.entry.Who.TheVariants.{Pass}
use Rattle.cmc_objects.specs.declared.entry.Entry.{Entry}
use Rattle.cmc_objects.specs.declared.entry.Entry.TheVariants.{Call as Called}
use Rattle.cmc_pass.specs.declared.pass.Views.{Views}
use Rattle.cmc_pass.specs.declared.value.Value.{Value}
use Rattle.cmc_model.specs.Replies.{IsReply, is_accepted, settled}
use Rattle.cmc_model.specs.Histories.{Setting, state, objects}
use Rattle.cmc_model.specs.Writes.{writes}
use Rattle.cmc_model.proofs.Accepting.{accepted_found}
use Rattle.cmc_model.proofs.Writing.{IsCallOf}
use Rattle.cmc_rules.specs.declared.progress.OpenPass.{OpenPass}
use Rattle.cmc_rules.specs.declared.progress.Stage.{Stage}
use Rattle.cmc_rules.specs.declared.progress.Stage.TheVariants.{Fresh, Asked, Given, Read, Saved, Wrote, Refused, Barred}
use Rattle.cmc_rules.specs.Passes.{open_pass}
use Rattle.cmc_rules.specs.Dates.{StaysDated}
use Rattle.cmc_rules.specs.Legality.{IsLegal}
use Rattle.cmc_rules.specs.Causes.{IsCaused}
use Rattle.cmc_rules.specs.Revisions.{KeepsRevision, RaisesRevision}
use Rattle.cmc_rules.specs.Rights.{MayChange}
use Rattle.cmc_rules.specs.SeenObjects.{OnSeen}
use Rattle.cmc_rules.specs.Sound.{IsOrdinary, IsWriteAfterValue, WritesTarget, IsSigned, IsMarked, IsRaiseOf, WhereMade, IsOfCertificate}
use Rattle.cmc_rules.proofs.Sighted.{AreKnown, as_seen}
use Rattle.cmc_safety.specs.Formed.{IsFormed}
use Rattle.cmc_safety.proofs.NextCalls.{IsLiveCall, IsCallAt, on_less}
use Rattle.cmc_safety.proofs.Course.{AreSound, of_open}
use Rattle.cmc_safety.proofs.InProgress.{IsCaller, caller_of, not_accepted, IsPlayed, played_below}
use Rattle.cmc_safety.proofs.Moments.{BeganInRun, began_in_run}

-- the write keeps the rights of the role and the years of a last failure, and a revision or raises it by one; a request that it makes is
-- for the Certificate that is seen
pub record IsPassWrite (role : Role) (seen : Views) (since : ℤ) (old new : Option Object) : Type 0 where
  pub rights : MayChange role old new
  pub dated : StaysDated since old new
  pub revision : KeepsRevision old new ⊎ RaisesRevision old new
  pub made : WhereMade old new (IsOfCertificate seen)

-- ---- each kind of call

of_ordinary : (role : Role) (seen : Views) (since : ℤ) (old new : Option Object) → IsOrdinary role since old new → IsPassWrite role seen since old new
of_ordinary role seen since old new is =
    record { rights = is.rights; dated = is.dated; revision = inl is.revision; made = λ made before after. absurd (is.no_request made before after) }

of_answer : (role : Role) (seen : Views) (since : ℤ) (value : Value) (old new : Option Object) → IsWriteAfterValue role seen since value old new → IsPassWrite role seen since old new
of_answer role seen since value old new is = record { rights = is.rights; dated = is.dated; revision = inl is.revision; made = is.made }

-- issuing makes no request
no_request : (made : CertificateRequest) → MayChange roles.Issuing None (Some (Request made)) → ⊥
no_request made (inl is) = is
no_request made (inr (inl is)) = is
no_request made (inr (inr is)) = is

of_target : (role : Role) (seen : Views) (since : ℤ) (P : SecretObject → Type 0) (old new : Option Object) → role ≡ roles.Issuing → WritesTarget role since P old new → IsPassWrite role seen since old new
of_target role seen since P old new issuing is = record {
  rights = is.rights;
  dated = is.dated;
  revision = inl is.revision;
  made = λ made before after.
      let rights : MayChange roles.Issuing old new = subst (λ (r : Role). MayChange r old new) issuing is.rights in
      let there : MayChange roles.Issuing old (Some (Request made)) = subst (λ (x : Option Object). MayChange roles.Issuing old x) after rights in
      absurd (no_request made (subst (λ (x : Option Object). MayChange roles.Issuing x (Some (Request made))) before there));
}

of_raise : (role : Role) (seen : Views) (since : ℤ) (c : Certificate) (old new : Option Object) → role ≡ roles.Issuing → IsRaiseOf c since old new → IsPassWrite role seen since old new
of_raise role seen since c old new issuing is = record {
  rights = subst (λ (r : Role). MayChange r old new) (sym issuing) is.rights;
  dated = is.dated;
  revision = inr is.raises;
  made = λ made before after. absurd (let stood : None ≡ Some (Cert c) = sym before ∙ is.of_it in cc stood);
}

-- ---- by how far the pass has come

-- the call of a pass is a write for what was seen, or the live read
pub writes_at : (stage : Stage) (role : Role) (seen : Views) (since : ℤ) (call : Call) → IsCallAt stage role seen since call → OnSeen (IsPassWrite role seen since) seen call ⊎ IsLiveCall role seen call
writes_at Fresh role seen since call (inl on) = inl (on_less (IsOrdinary role since) (IsPassWrite role seen since) seen call (λ old new is. of_ordinary role seen since old new is) on)
writes_at Fresh role seen since call (inr live) = inr live
writes_at (Given order value) role seen since call at =
    inl (on_less (IsWriteAfterValue role seen since value) (IsPassWrite role seen since) seen call (λ old new is. of_answer role seen since value old new is) at)
writes_at Read role seen since call (inl at) =
    let i = at.issues in
    let P = IsSigned i.certificate i.request i.file in
    inl (subst (OnSeen (IsPassWrite role seen since) seen) (sym at.planned)
    (on_less (WritesTarget role since P) (IsPassWrite role seen since) seen at.plan.secret (λ old new is. of_target role seen since P old new i.issuing is) i.secret))
writes_at Read role seen since call (inr at) =
    let i = at.stands_in in
    let P = IsMarked i.certificate i.request i.file since in
    inl (subst (OnSeen (IsPassWrite role seen since) seen) (sym at.planned)
    (on_less (WritesTarget role since P) (IsPassWrite role seen since) seen at.plan.secret (λ old new is. of_target role seen since P old new i.issuing is) i.secret))
writes_at Saved role seen since call at =
    let i = at.issues in
    inl (subst (OnSeen (IsPassWrite role seen since) seen) (sym at.planned)
    (on_less (IsRaiseOf i.certificate since) (IsPassWrite role seen since) seen at.plan.status (λ old new is. of_raise role seen since i.certificate old new i.issuing is) i.status))
writes_at (Asked order) role seen since call at = absurd at
writes_at Wrote role seen since call at = absurd at
writes_at (Refused entry obstacle) role seen since call at = absurd at
writes_at Barred role seen since call at = absurd at

-- ---- once it is accepted

-- of what stood and is stored
pub pass_write : (s : Setting) (h : List Entry) (m : ℕ) (call : Call) (reply : Reply) → IsLegal s h → IsReply s.faults (state s h) call reply → is_accepted reply ≡ true → (c : IsCaller s h m call)
    → IsCallOf (IsPassWrite c.pass.role c.pass.seen c.pass.since) s h (settled call reply)
pass_write s h m call reply legal right ok c = by (writes_at c.pass.stage c.pass.role c.pass.seen c.pass.since call c.at) where
  by : OnSeen (IsPassWrite c.pass.role c.pass.seen c.pass.since) c.pass.seen call ⊎ IsLiveCall c.pass.role c.pass.seen call → IsCallOf (IsPassWrite c.pass.role c.pass.seen c.pass.since) s h (settled call reply)
  by (inl on) = as_seen (IsPassWrite c.pass.role c.pass.seen c.pass.since) s h c.pass.seen call reply legal c.saw.known ok (accepted_found s.faults (state s h) call reply right ok) on
  by (inr live) = absurd (not_accepted (objects s h) c.pass.role c.pass.seen call reply live (accepted_found s.faults (state s h) call reply right ok))

-- a pass whose call was accepted
pub record IsWriter (s : Setting) (h : List Entry) (call : Call) (reply : Reply) : Type 0 where
  pub pass : OpenPass
  pub known : AreKnown (writes s h) pass.seen
  pub began : BeganInRun pass
  pub write : IsCallOf (IsPassWrite pass.role pass.seen pass.since) s h (settled call reply)

pub writer_of : AreSound → (s : Setting) (h : List Entry) (m : ℕ) (call : Call) (reply : Reply) → IsFormed s → IsPlayed s (Called (Pass m) call reply ∷ h) → is_accepted reply ≡ true → IsWriter s h call reply
unfolding IsLegal IsCaused
writer_of sound s h m call reply formed o ok =
    let under = played_below s (Called (Pass m) call reply) h o in
    let c = caller_of sound s h m call under.legal under.caused o.caused.0 in
    record {
      pass = c.pass;
      known = c.saw.known;
      began = of_open BeganInRun (open_pass s h m) c.pass c.opened (began_in_run s h m formed under.legal under.follows);
      write = pass_write s h m call reply under.legal o.legal.0.0 ok c;
    }
