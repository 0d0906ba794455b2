-- A run of an orderly script starts no role that runs.
use Rattle.std.proofs.Common.{◌≡◌, ℕ, ◌+◌, ◌-◌, ◌<◌, List, [], ◌∷◌, length, drop, get_or, slice_get, Option, Some, None, option_and_then, Bool, true, false, refl, sym, ap, subst, ◌∙◌, arith}
use Rattle.std.proofs.lemmas.List.{drop_more}
use Rattle.std.proofs.lemmas.Option.{slice_get-get_or}
use Rattle.std.specs.Prelude.{if◌then◌else◌}
use Rattle.cmc_objects.specs.declared.call.Call.{Call}
use Rattle.cmc_objects.specs.declared.role.Role.{Role}
use Rattle.cmc_objects.specs.declared.entry.Step.{Step}
use Rattle.cmc_objects.specs.declared.entry.Step.TheVariants as steps
use Rattle.cmc_objects.specs.declared.entry.Who.TheVariants.{User, Pass}
use Rattle.cmc_objects.specs.declared.entry.Entry.{Entry}
use Rattle.cmc_objects.specs.declared.entry.Entry.TheVariants.{Script, Call as Called, Deliver, List as Listed, Stop, Start, Tick}
use Rattle.cmc_rules.specs.declared.effect.Effect.{Effect}
use Rattle.cmc_rules.specs.declared.effect.Effect.TheVariants as effects
use Rattle.cmc_model.specs.Histories.{Setting, moment, objects, runs, role_eq}
use Rattle.cmc_rules.specs.Scripts.{scripted, step_at}
use Rattle.cmc_rules.specs.UserSteps.{call_of, call_or, effect_of, owed, IsNextStep, Follows}
use Rattle.cmc_setup.specs.Setups.{Setup, is_among, without_role, IsOrderlyFrom}
use Rattle.cmc_setup.proofs.Orderly.{among_after}
use Rattle.cmc_kernel.specs.Kept.{setting_of}
use Rattle.cmc_world.proofs.Starting.{StartsStopped}

-- ---- what runs once what is owed is done

abbrev runs_after : Option Effect → Role → Bool → Bool
runs_after None r before = before
runs_after (Some (effects.Call call)) r before = before
runs_after (Some (effects.Tick now)) r before = before
runs_after (Some (effects.Stop role)) r before = if role_eq role r then false else before
runs_after (Some (effects.Start role at)) r before = if role_eq role r then true else before

-- a start that is owed is of a role that does not run
abbrev OwesStopped : (Role → Bool) → Option Effect → Type 0
OwesStopped running None = Unit {0}
OwesStopped running (Some (effects.Call call)) = Unit {0}
OwesStopped running (Some (effects.Tick now)) = Unit {0}
OwesStopped running (Some (effects.Stop role)) = Unit {0}
OwesStopped running (Some (effects.Start role at)) = running role ≡ false

-- once what is owed is done these roles run, and the steps that are left are orderly from there
record IsOrderlyAfter (running : Role → Bool) (owes : Option Effect) (left : List Step) : Type 0 where
  roles : List Role
  same : (r : Role) → is_among roles r ≡ runs_after owes r (running r)
  stopped : OwesStopped running owes
  ahead : IsOrderlyFrom roles left

-- what is owed is done
done : (running : Role → Bool) (owes effect : Option Effect) (left : List Step) → owes ≡ effect → IsOrderlyAfter running owes left
    → IsOrderlyAfter (λ r. runs_after effect r (running r)) None left
done running owes effect left is o = record {
  roles = o.roles;
  same = λ r. o.same r ∙ ap (λ (e : Option Effect). runs_after e r (running r)) is;
  stopped = tt;
  ahead = o.ahead;
}

-- ---- a step

-- a call changes nothing of it
after_call : (running : Role → Bool) (call : Option Call) (roles : List Role) (left : List Step) → ((r : Role) → is_among roles r ≡ running r)
    → IsOrderlyFrom roles left → IsOrderlyAfter running (call_or call None) left
after_call running None roles left same ahead = record { roles = roles; same = same; stopped = tt; ahead = ahead }
after_call running (Some call) roles left same ahead = record { roles = roles; same = same; stopped = tt; ahead = ahead }

next_step : (s : Setting) (h : List Entry) (step : Step) (roles : List Role) (left : List Step) → ((r : Role) → is_among roles r ≡ runs s h r)
    → IsOrderlyFrom roles (step ∷ left) → IsOrderlyAfter (runs s h) (effect_of s h step) left
unfolding call_of
next_step s h (steps.Stop role) roles left same ahead = record {
  roles = without_role roles role;
  same = λ r. among_after roles role false r ∙ ap (λ (b : Bool). if role_eq role r then false else b) (same r);
  stopped = tt;
  ahead = ahead.1;
}
next_step s h (steps.Start role behind) roles left same ahead = record {
  roles = role ∷ roles;
  same = λ r. among_after roles role true r ∙ ap (λ (b : Bool). if role_eq role r then true else b) (same r);
  stopped = sym (same role) ∙ ahead.0;
  ahead = ahead.1;
}
next_step s h (steps.Apply object version) roles left same ahead = record { roles = roles; same = same; stopped = tt; ahead = ahead.1 }
next_step s h (steps.Delete key version) roles left same ahead = record { roles = roles; same = same; stopped = tt; ahead = ahead.1 }
next_step s h (steps.Tick seconds) roles left same ahead = record { roles = roles; same = same; stopped = tt; ahead = ahead.1 }
next_step s h (steps.Hold role kind) roles left same ahead = record { roles = roles; same = same; stopped = tt; ahead = ahead.1 }
next_step s h (steps.Release role kind) roles left same ahead = record { roles = roles; same = same; stopped = tt; ahead = ahead.1 }
next_step s h (steps.Until role kind writes) roles left same ahead = record { roles = roles; same = same; stopped = tt; ahead = ahead.1 }
next_step s h steps.Settle roles left same ahead = record { roles = roles; same = same; stopped = tt; ahead = ahead.1 }
next_step s h (steps.Approve certificate revision) roles left same ahead =
    after_call (runs s h) (call_of (moment s h) (objects s h) (steps.Approve certificate revision)) roles left same ahead.1
next_step s h (steps.Deny certificate revision) roles left same ahead =
    after_call (runs s h) (call_of (moment s h) (objects s h) (steps.Deny certificate revision)) roles left same ahead.1
next_step s h (steps.Answer certificate revision row) roles left same ahead =
    after_call (runs s h) (call_of (moment s h) (objects s h) (steps.Answer certificate revision row)) roles left same ahead.1
next_step s h (steps.Renew certificate) roles left same ahead =
    after_call (runs s h) (call_of (moment s h) (objects s h) (steps.Renew certificate)) roles left same ahead.1

over_script : (s : Setting) (h : List Entry) (number : ℕ) → IsNextStep s h number → IsOrderlyAfter (runs s h) (owed s h) (drop (scripted h) s.script)
    → IsOrderlyAfter (runs s h) (option_and_then (effect_of s h) (step_at s.script number)) (drop (scripted h + 1) s.script)
over_script s h number next o =
    let step : Step = get_or s.script (scripted h) steps.Settle in
    let within : scripted h < length s.script = omega (arith, next.numbered, next.stands) in
    let place : number - 1 ≡ scripted h = omega (arith, next.numbered) in
    let stands : step_at s.script number ≡ Some step = ap (slice_get s.script) place ∙ slice_get-get_or s.script (scripted h) steps.Settle within in
    let settled : IsOrderlyAfter (runs s h) None (drop (scripted h) s.script) = done (runs s h) (owed s h) None (drop (scripted h) s.script) next.settled o in
    let ahead : IsOrderlyFrom settled.roles (step ∷ drop (scripted h + 1) s.script) =
    subst (IsOrderlyFrom settled.roles) (drop_more s.script (scripted h) steps.Settle within) settled.ahead in
    subst (λ (found : Option Step). IsOrderlyAfter (runs s h) (option_and_then (effect_of s h) found) (drop (scripted h + 1) s.script)) (sym stands)
    (next_step s h step settled.roles (drop (scripted h + 1) s.script) settled.same ahead)

-- ---- a history

over_entry : (s : Setting) (h : List Entry) (effect : Option Effect) → owed s h ≡ effect → IsOrderlyAfter (runs s h) (owed s h) (drop (scripted h) s.script)
    → IsOrderlyAfter (λ r. runs_after effect r (runs s h r)) None (drop (scripted h) s.script)
over_entry s h effect is o = done (runs s h) (owed s h) effect (drop (scripted h) s.script) is o

-- what runs after a history is what the steps that were made leave running
orderly_after : (s : Setting) (h : List Entry) → IsOrderlyFrom s.roles s.script → Follows s h → IsOrderlyAfter (runs s h) (owed s h) (drop (scripted h) s.script)
unfolding Follows
orderly_after s [] orderly follows = record { roles = s.roles; same = λ r. refl; stopped = tt; ahead = orderly }
orderly_after s (Script step ∷ h) orderly follows = over_script s h step follows.0 (orderly_after s h orderly follows.1)
orderly_after s (Called User call reply ∷ h) orderly follows = over_entry s h (Some (effects.Call call)) follows.0 (orderly_after s h orderly follows.1)
orderly_after s (Called (Pass pass) call reply ∷ h) orderly follows = over_entry s h None follows.0 (orderly_after s h orderly follows.1)
orderly_after s (Deliver role kind to ∷ h) orderly follows = over_entry s h None follows.0.settled (orderly_after s h orderly follows.1)
orderly_after s (Listed role kind to ∷ h) orderly follows = over_entry s h None follows.0.settled (orderly_after s h orderly follows.1)
orderly_after s (Stop role ∷ h) orderly follows = over_entry s h (Some (effects.Stop role)) follows.0 (orderly_after s h orderly follows.1)
orderly_after s (Start role at ∷ h) orderly follows = over_entry s h (Some (effects.Start role at)) follows.0 (orderly_after s h orderly follows.1)
orderly_after s (Tick now ∷ h) orderly follows = over_entry s h (Some (effects.Tick now)) follows.0 (orderly_after s h orderly follows.1)
orderly_after s (other ∷ h) orderly follows = over_entry s h None follows.0 (orderly_after s h orderly follows.1)

owed_is_stopped : (s : Setting) (h : List Entry) (role : Role) (at : ℕ) → IsOrderlyFrom s.roles s.script → Follows s h → owed s h ≡ Some (effects.Start role at) → runs s h role ≡ false
owed_is_stopped s h role at orderly follows is = subst (OwesStopped (runs s h)) is (orderly_after s h orderly follows).stopped

-- each start stands directly after its step, whose role did not run when its turn came
stopped_starts : (s : Setting) (h : List Entry) → IsOrderlyFrom s.roles s.script → Follows s h → StartsStopped s h
unfolding Follows StartsStopped
stopped_starts s [] orderly follows = tt
stopped_starts s (Start role at ∷ h) orderly follows = (owed_is_stopped s h role at orderly follows.1 follows.0, stopped_starts s h orderly follows.1)
stopped_starts s (other ∷ h) orderly follows = (tt, stopped_starts s h orderly follows.1)

-- the same of what a scenario gives
pub starts_stopped : (u : Setup) (h : List Entry) → IsOrderlyFrom u.roles u.script → Follows (setting_of u) h → StartsStopped (setting_of u) h
starts_stopped u h orderly follows = stopped_starts (setting_of u) h orderly follows
