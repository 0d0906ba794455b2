-- The caller of an accepted call of a pass, and what it may change.
use Rattle.std.proofs.Common.{◌≡◌, ◌∷◌, ℕ, List, Option, true, subst}
use Rattle.cmc_objects.specs.declared.call.Call.{Call}
use Rattle.cmc_objects.specs.declared.call.Reply.{Reply}
use Rattle.cmc_objects.specs.declared.entry.Who.TheVariants.{Pass}
use Rattle.cmc_objects.specs.declared.entry.Entry.{Entry}
use Rattle.cmc_objects.specs.declared.entry.Entry.TheVariants.{Call as Called}
use Rattle.cmc_objects.specs.declared.role.Role.{Role}
use Rattle.cmc_model.specs.Replies.{IsReply, is_accepted, settled}
use Rattle.cmc_model.specs.Histories.{Setting, state, objects}
use Rattle.cmc_model.specs.Acceptance.{IsFounded}
use Rattle.cmc_model.proofs.Accepting.{accepted_found}
use Rattle.cmc_model.proofs.Writing.{IsCallOf}
use Rattle.cmc_rules.specs.Acts.{act, call_after}
use Rattle.cmc_rules.specs.Causes.{IsCaused, IsNextCall, MayCall, act_of, after_of}
use Rattle.cmc_rules.specs.Desks.{desk}
use Rattle.cmc_rules.specs.Legality.{IsLegal}
use Rattle.cmc_rules.specs.declared.progress.OpenPass.{OpenPass}
use Rattle.cmc_safety.proofs.Course.{AreSound}
use Rattle.cmc_safety.proofs.InProgress.{IsCaller, IsPlayed, caller_of, played_below}
use Rattle.cmc_safety.proofs.NextCalls.{IsCallAt}
use Rattle.cmc_safety.proofs.PassWrites.{IsPassWrite, pass_write}

-- an accepted call of an open pass: the reply is right, the call is the next one of the pass, and it found what it was for
pub record IsAcceptedBy (s : Setting) (h : List Entry) (m : ℕ) (call : Call) (reply : Reply) : Type 0 where
  pub legal : IsLegal s h
  pub right : IsReply s.faults (state s h) call reply
  pub ok : is_accepted reply ≡ true
  pub caller : IsCaller s h m call
  pub next : IsNextCall caller.pass.stage (act_of s h caller.pass) (after_of caller.pass) call
  pub founded : IsFounded (objects s h) (settled call reply)
  pub write : IsCallOf (IsPassWrite caller.pass.role caller.pass.seen caller.pass.since) s h (settled call reply)

pub accepted_by : AreSound → (s : Setting) (h : List Entry) (m : ℕ) (call : Call) (reply : Reply) → IsPlayed s (Called (Pass m) call reply ∷ h) → is_accepted reply ≡ true → IsAcceptedBy s h m call reply
unfolding IsLegal IsCaused
accepted_by sound s h m call reply o ok =
    let under = played_below s (Called (Pass m) call reply) h o in
    let c = caller_of sound s h m call under.legal under.caused o.caused.0 in
    record {
      legal = under.legal;
      right = o.legal.0.0;
      ok = ok;
      caller = c;
      next = subst (λ (x : Option OpenPass). MayCall s h x call) c.opened o.caused.0;
      founded = accepted_found s.faults (state s h) call reply o.legal.0.0 ok;
      write = pass_write s h m call reply under.legal o.legal.0.0 ok c;
    }

-- the caller and its next call, where its role is known
pub next_as : (s : Setting) (h : List Entry) (m : ℕ) (call : Call) (reply : Reply) (a : IsAcceptedBy s h m call reply) (role : Role) → a.caller.pass.role ≡ role
    → IsNextCall a.caller.pass.stage (act role a.caller.pass.seen a.caller.pass.since (desk s h a.caller.pass.role a.caller.pass.seen)) (call_after role a.caller.pass.seen a.caller.pass.since) call
next_as s h m call reply a role is =
    subst (λ (x : Role). IsNextCall a.caller.pass.stage (act x a.caller.pass.seen a.caller.pass.since (desk s h a.caller.pass.role a.caller.pass.seen)) (call_after x a.caller.pass.seen a.caller.pass.since) call) is a.next

pub call_as : (s : Setting) (h : List Entry) (m : ℕ) (call : Call) (reply : Reply) (a : IsAcceptedBy s h m call reply) (role : Role) → a.caller.pass.role ≡ role
    → IsCallAt a.caller.pass.stage role a.caller.pass.seen a.caller.pass.since call
call_as s h m call reply a role is = subst (λ (x : Role). IsCallAt a.caller.pass.stage x a.caller.pass.seen a.caller.pass.since call) is a.caller.at
