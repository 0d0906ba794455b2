-- In a run each version of a request has an outcome, or none yet.
use Rattle.std.proofs.Common.{◌≡◌, List, [], ◌∷◌, Option, Some, None, sym, subst}
use Rattle.std.specs.Prelude.{IfSome, if◌then◌else◌}
use Rattle.cmc_objects.specs.declared.object.Object.TheVariants.{Request}
use Rattle.cmc_objects.specs.declared.orders.Order.{Order}
use Rattle.cmc_objects.specs.declared.call.Call.{Call}
use Rattle.cmc_objects.specs.declared.call.Reply.{Reply}
use Rattle.cmc_objects.specs.declared.entry.Who.TheVariants.{User, Pass}
use Rattle.cmc_objects.specs.declared.entry.Entry.{Entry}
use Rattle.cmc_objects.specs.declared.entry.Entry.TheVariants.{Call as Called}
use Rattle.cmc_pass.specs.declared.pass.Views.{Views}
use Rattle.cmc_pass.specs.declared.pass.Act.{Act}
use Rattle.cmc_pass.specs.declared.pass.Act.TheVariants.{Call as Calls, Issue, Temporary}
use Rattle.cmc_pass.specs.declared.value.Value.{Value}
use Rattle.cmc_answers.specs.Signings.{signing_of}
use Rattle.cmc_model.specs.declared.write.Write.{Write}
use Rattle.cmc_model.specs.Replies.{is_accepted}
use Rattle.cmc_model.specs.Histories.{Setting, moment, objects}
use Rattle.cmc_model.specs.Writes.{writes}
use Rattle.cmc_rules.specs.declared.progress.OpenPass.{OpenPass}
use Rattle.cmc_rules.specs.declared.progress.Stage.{Stage}
use Rattle.cmc_rules.specs.declared.progress.Stage.TheVariants.{Fresh, Given, Read, Saved}
use Rattle.cmc_rules.specs.Causes.{IsFirstCall, IsSecretCall, IsStatusCall, IsNextCall, MayCall, IsCaused, act_of, after_of}
use Rattle.cmc_rules.specs.Desks.{desk}
use Rattle.cmc_rules.specs.Passes.{open_pass}
use Rattle.cmc_rules.specs.UserWrites.{verdict, judge_call, answer_call, renew_call}
use Rattle.cmc_rules.specs.UserSteps.{Follows}
use Rattle.cmc_rules.proofs.Sights.{seen_request}
use Rattle.cmc_rules.proofs.Sighted.{AreKnown, SawKnown, saw_known}
use Rattle.cmc_safety.proofs.Users.{IsOfSteps, of_steps}
use Rattle.cmc_safety.proofs.Carried.{EachVersion, no_version, stands_so, seen_has, newest, where_accepted}
use Rattle.cmc_safety.proofs.Kept.{kept_more}
use Rattle.cmc_waits.proofs.Outcomes.{IsAnswered, IsAnsweredCall, other_outcome, outcome_answered, answered_kept}
use Rattle.cmc_waits.proofs.OutcomesWritten.{IsAnsweredAct, SeesAnswered, answered_act, answered_after_value}

-- ---- calls of passes

first_answered : (does : Act) (call : Call) → IsAnsweredAct does → IsFirstCall does call → IsAnsweredCall call
first_answered (Calls first) call is next = subst IsAnsweredCall (sym next) is
first_answered (Issue plan) call is next = subst IsAnsweredCall (sym next) tt
first_answered (Temporary plan) call is next = subst IsAnsweredCall (sym next) tt
first_answered other call is next = absurd next

secret_answered : (does : Act) (call : Call) → IsAnsweredAct does → IsSecretCall does call → IsAnsweredCall call
secret_answered (Issue plan) call is next = subst IsAnsweredCall (sym next) is.0
secret_answered (Temporary plan) call is next = subst IsAnsweredCall (sym next) is
secret_answered other call is next = absurd next

status_answered : (does : Act) (call : Call) → IsAnsweredAct does → IsStatusCall does call → IsAnsweredCall call
status_answered (Issue plan) call is next = subst IsAnsweredCall (sym next) is.1
status_answered other call is next = absurd next

next_answered : (stage : Stage) (does : Act) (after : Order → Value → Option Call) (call : Call) → IsAnsweredAct does → ((order : Order) (value : Value) → after order value ≡ Some call → IsAnsweredCall call)
    → IsNextCall stage does after call → IsAnsweredCall call
next_answered Fresh does after call is later next = first_answered does call is next
next_answered (Given order value) does after call is later next = later order value next
next_answered Read does after call is later next = secret_answered does call is next
next_answered Saved does after call is later next = status_answered does call is next
next_answered other does after call is later next = absurd next

sees_answered : (ws : List Write) (seen : Views) → EachVersion IsAnswered ws → AreKnown ws seen → SeesAnswered seen
sees_answered ws seen each known r is = seen_has IsAnswered ws seen (Request r) each known (seen_request seen r is)

pass_answered : (s : Setting) (h : List Entry) (p : Option OpenPass) (call : Call) → EachVersion IsAnswered (writes s h) → IfSome p (SawKnown (writes s h)) → MayCall s h p call → IsAnsweredCall call
pass_answered s h None call each known next = absurd next
pass_answered s h (Some p) call each known next =
    next_answered p.stage (act_of s h p) (after_of p) call (answered_act p.role p.seen p.since (desk s h p.role p.seen))
    (λ order value is. answered_after_value p.role p.seen p.since order value call (sees_answered (writes s h) p.seen each known) is) next

-- ---- calls of users

answered_steps : (s : Setting) (h : List Entry) → EachVersion IsAnswered (writes s h) → IsOfSteps s.script (moment s h) (objects s h) IsAnsweredCall
unfolding judge_call answer_call renew_call verdict
answered_steps s h each = record {
  applies = λ number object version there. (tt, λ named. tt);
  deletes = λ key version. tt;
  judges = λ kind message other key r stands. other_outcome r.status.conditions (verdict kind message (moment s h)) r.status.failure other (stands_so IsAnswered s h key (Request r) each stands);
  answers = λ row key r stands. outcome_answered r.status (signing_of row 1 r (moment s h)) (moment s h);
  renews = λ key c stands. tt;
}

-- ---- histories

after_call : (s : Setting) (h : List Entry) (call : Call) (reply : Reply) → EachVersion IsAnswered (writes s h) → IsAnsweredCall call
    → EachVersion IsAnswered (if is_accepted reply then newest s h call reply ∷ writes s h else writes s h)
after_call s h call reply each is =
    where_accepted (EachVersion IsAnswered) (is_accepted reply) (newest s h call reply) (writes s h) (λ ok. kept_more s h call reply (answered_kept (moment s h)) is) each

pub all_answered : (s : Setting) (h : List Entry) → IsCaused s h → Follows s h → EachVersion IsAnswered (writes s h)
unfolding IsCaused Follows
all_answered s [] caused follows = no_version IsAnswered
all_answered s (Called User call reply ∷ h) caused follows =
    let each = all_answered s h caused.1 follows.1 in after_call s h call reply each (of_steps IsAnsweredCall s h call (answered_steps s h each) follows.0)
all_answered s (Called (Pass m) call reply ∷ h) caused follows =
    let each = all_answered s h caused.1 follows.1 in after_call s h call reply each (pass_answered s h (open_pass s h m) call each (saw_known s h m) caused.0)
all_answered s (other ∷ h) caused follows = all_answered s h caused.1 follows.1
