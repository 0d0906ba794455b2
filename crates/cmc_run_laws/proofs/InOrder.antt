-- The conditions of each version of a Certificate are in order.
use Rattle.std.proofs.Common.{◌≡◌, ℕ, ℤ, List, [], ◌∷◌, Option, Some, None, sym, subst}
use Rattle.std.specs.Prelude.{IfSome, if◌then◌else◌}
use Rattle.std.specs.List.Sorted.{IsStrictlySortedBy}
use Rattle.cmc_der.specs.Keys.{PublicKey}
use Rattle.cmc_meta.specs.ConditionLists.{IsInOrder}
use Rattle.cmc_objects.specs.declared.certificate.Certificate.{Certificate}
use Rattle.cmc_objects.specs.declared.certificate.CertStatus.{CertStatus}
use Rattle.cmc_objects.specs.declared.request.CertificateRequest.{CertificateRequest}
use Rattle.cmc_objects.specs.declared.request.RequestStatus.{RequestStatus}
use Rattle.cmc_objects.specs.declared.secret.Secret.{Secret as SecretObject}
use Rattle.cmc_objects.specs.declared.object.Object.TheVariants.{Cert}
use Rattle.cmc_objects.specs.declared.orders.Order.{Order}
use Rattle.cmc_objects.specs.declared.orders.Order.TheVariants as orders
use Rattle.cmc_objects.specs.declared.call.Call.{Call}
use Rattle.cmc_objects.specs.declared.call.Reply.{Reply}
use Rattle.cmc_objects.specs.declared.role.Role.{Role}
use Rattle.cmc_objects.specs.declared.role.Role.TheVariants.{KeyManager, RequestManager, Approver, Issuer}
use Rattle.cmc_objects.specs.declared.entry.Who.TheVariants.{User, Pass}
use Rattle.cmc_objects.specs.declared.entry.Entry.{Entry}
use Rattle.cmc_objects.specs.declared.entry.Entry.TheVariants.{Call as Called}
use Rattle.cmc_meta.specs.declared.conditions.Condition.{Condition}
use Rattle.cmc_pass.specs.declared.pass.Views.{Views}
use Rattle.cmc_pass.specs.declared.pass.Act.{Act}
use Rattle.cmc_pass.specs.declared.pass.Act.TheVariants.{Call as Calls, Issue, Temporary}
use Rattle.cmc_pass.specs.declared.value.Value.{Value}
use Rattle.cmc_pass.specs.declared.value.Value.TheVariants as values
use Rattle.cmc_model.specs.declared.write.Write.{Write}
use Rattle.cmc_model.specs.Replies.{is_accepted}
use Rattle.cmc_model.specs.Histories.{Setting, moment, objects}
use Rattle.cmc_model.specs.Writes.{writes}
use Rattle.cmc_rules.specs.declared.progress.OpenPass.{OpenPass}
use Rattle.cmc_rules.specs.declared.progress.Stage.{Stage}
use Rattle.cmc_rules.specs.declared.progress.Stage.TheVariants.{Fresh, Given, Read, Saved}
use Rattle.cmc_rules.specs.Acts.{call_after}
use Rattle.cmc_rules.specs.Approver as approving
use Rattle.cmc_rules.specs.Approver.{judged_after, verdict_call, verdict_of}
use Rattle.cmc_rules.specs.Causes.{IsFirstCall, IsSecretCall, IsStatusCall, IsNextCall, MayCall, IsCaused, act_of, after_of}
use Rattle.cmc_rules.specs.Desks.{desk}
use Rattle.cmc_rules.specs.UserSteps.{Follows}
use Rattle.cmc_rules.specs.Issuer as granting
use Rattle.cmc_rules.specs.Issuer.{answered_after}
use Rattle.cmc_rules.specs.KeyManager as keys
use Rattle.cmc_rules.specs.KeyManager.{key_after, make_call}
use Rattle.cmc_rules.specs.NextKeys.{named_key}
use Rattle.cmc_rules.specs.Passes.{open_pass}
use Rattle.cmc_rules.specs.RequestManager as requests
use Rattle.cmc_rules.specs.RequestManager.{request_after, make_request}
use Rattle.cmc_rules.specs.UserWrites as user
use Rattle.cmc_rules.specs.UserWrites.{verdict, answer_call, renew_call, manual_condition}
use Rattle.cmc_rules.proofs.Sights.{seen_certificate}
use Rattle.cmc_rules.proofs.Sighted.{AreKnown, SawKnown, saw_known}
use Rattle.cmc_safety.proofs.Carried.{EachVersion, no_version, stands_so, seen_has, newest, where_accepted}
use Rattle.cmc_safety.proofs.Kept.{Any, Brings, IsKept, kept_more, status_kept}
use Rattle.cmc_safety.proofs.Users.{IsOfSteps, of_steps}
use Rattle.cmc_run_laws.proofs.NewConditions.{transitioned_in_order}
use Rattle.cmc_run_laws.proofs.TablesChange.{IsOrderly, IsProperAct, SeesInOrder, proper_act}

-- the call brings no Certificate whose conditions are not in order
abbrev IsOrderlyCall : Call → Type 0
IsOrderlyCall call = Brings Any IsOrderly call

-- ---- what follows a value

abbrev IsOrderlyOption : Option Call → Type 0
IsOrderlyOption None = Unit {0}
IsOrderlyOption (Some call) = IsOrderlyCall call

kept_one : (c : Option Certificate) (value : Value) → IsOrderlyOption (keys.kept_for c value)
unfolding make_call
kept_one (Some c) (values.Made file) = tt
kept_one c value = tt

signed_one : (c : Certificate) (k : SecretObject) (key : Option PublicKey) (signature : List ℕ) → IsOrderlyOption (requests.signed_by c k key signature)
unfolding make_request
signed_one c k None signature = tt
signed_one c k (Some key) signature = tt

signed_file : (c : Certificate) (k : SecretObject) (file : Option (List ℕ)) (signature : List ℕ) → IsOrderlyOption (requests.signed_in c k file signature)
signed_file c k None signature = tt
signed_file c k (Some file) signature = signed_one c k _ signature

signed_key : (c : Certificate) (k : Option SecretObject) (signature : List ℕ) → IsOrderlyOption (requests.signed_with c k signature)
signed_key c None signature = tt
signed_key c (Some k) signature = signed_file c k _ signature

signed_all : (c : Option Certificate) (next : List SecretObject) (signature : List ℕ) → IsOrderlyOption (requests.signed_for c next signature)
signed_all None next signature = tt
signed_all (Some c) next signature = signed_key c (named_key c.status.next_key next) signature

requested : (seen : Views) (value : Value) → IsOrderlyOption (requests.request_from seen value)
requested seen (values.Signed signature) = signed_all seen.certificate seen.next signature
requested seen other = tt

judged : (r : Option CertificateRequest) (verdict : Option Condition) → IsOrderlyOption (approving.judged_for r verdict)
unfolding verdict_call
judged (Some r) (Some verdict) = tt
judged r verdict = tt

answered_value : (moment : ℤ) (r : CertificateRequest) (value : Value) → IsOrderlyOption (granting.answered_with moment r value)
unfolding granting.status_call
answered_value moment r (values.Answered answer) = tt
answered_value moment r other = tt

answered_one : (moment : ℤ) (r : Option CertificateRequest) (order : Order) (value : Value) → IsOrderlyOption (granting.answered_to moment r order value)
answered_one moment (Some r) (orders.Sign order) value = answered_value moment r value
answered_one moment None (orders.Sign order) value = tt
answered_one moment r other value = tt

after_value : (role : Role) (seen : Views) (moment : ℤ) (order : Order) (value : Value) → IsOrderlyOption (call_after role seen moment order value)
unfolding call_after key_after request_after judged_after answered_after
after_value KeyManager seen moment order value = kept_one seen.certificate value
after_value RequestManager seen moment order value = requested seen value
after_value Approver seen moment order value = judged seen.request (verdict_of moment order value)
after_value Issuer seen moment order value = answered_one moment seen.request order value
after_value other seen moment order value = tt

-- ---- calls of passes

first_orderly : (seen : Views) (does : Act) (call : Call) → IsProperAct seen does → IsFirstCall does call → IsOrderlyCall call
first_orderly seen (Calls first) call is next = subst IsOrderlyCall (sym next) is.orderly
first_orderly seen (Issue plan) call is next = subst IsOrderlyCall (sym next) tt
first_orderly seen (Temporary plan) call is next = subst IsOrderlyCall (sym next) tt
first_orderly seen other call is next = absurd next

secret_orderly : (seen : Views) (does : Act) (call : Call) → IsProperAct seen does → IsSecretCall does call → IsOrderlyCall call
secret_orderly seen (Issue plan) call is next = subst IsOrderlyCall (sym next) is.0
secret_orderly seen (Temporary plan) call is next = subst IsOrderlyCall (sym next) is
secret_orderly seen other call is next = absurd next

status_orderly : (seen : Views) (does : Act) (call : Call) → IsProperAct seen does → IsStatusCall does call → IsOrderlyCall call
status_orderly seen (Issue plan) call is next = subst IsOrderlyCall (sym next) is.1.orderly
status_orderly seen other call is next = absurd next

next_orderly : (stage : Stage) (seen : Views) (does : Act) (after : Order → Value → Option Call) (call : Call) → IsProperAct seen does → ((order : Order) (value : Value) → after order value ≡ Some call → IsOrderlyCall call)
    → IsNextCall stage does after call → IsOrderlyCall call
next_orderly Fresh seen does after call is later next = first_orderly seen does call is next
next_orderly (Given order value) seen does after call is later next = later order value next
next_orderly Read seen does after call is later next = secret_orderly seen does call is next
next_orderly Saved seen does after call is later next = status_orderly seen does call is next
next_orderly other seen does after call is later next = absurd next

-- what is seen is in order where all versions are
pub sees_in_order : (ws : List Write) (seen : Views) → EachVersion IsOrderly ws → AreKnown ws seen → SeesInOrder seen
sees_in_order ws seen each known c is = seen_has IsOrderly ws seen (Cert c) each known (seen_certificate seen c is)

pass_orderly : (s : Setting) (h : List Entry) (p : Option OpenPass) (call : Call) → EachVersion IsOrderly (writes s h) → IfSome p (SawKnown (writes s h)) → MayCall s h p call → IsOrderlyCall call
pass_orderly s h None call each known next = absurd next
pass_orderly s h (Some p) call each known next =
    next_orderly p.stage p.seen (act_of s h p) (after_of p) call (proper_act p.role p.seen p.since (desk s h p.role p.seen) (sees_in_order (writes s h) p.seen each known))
    (λ order value is. subst IsOrderlyOption is (after_value p.role p.seen p.since order value)) next

-- ---- calls of users

orderly_steps : (s : Setting) (h : List Entry) → EachVersion IsOrderly (writes s h) → IsOfSteps s.script (moment s h) (objects s h) IsOrderlyCall
unfolding user.judge_call answer_call renew_call verdict
orderly_steps s h each = record {
  applies = λ number object version there. (tt, λ named. tt);
  deletes = λ key version. tt;
  judges = λ kind message other key r stands. tt;
  answers = λ row key r stands. tt;
  renews = λ key c stands. transitioned_in_order c.status.conditions (manual_condition (moment s h)) (stands_so IsOrderly s h key (Cert c) each stands);
}

-- ---- histories

none_in_order : IsInOrder []
unfolding IsStrictlySortedBy
none_in_order = tt

orderly_kept : (now : ℤ) → IsKept now IsOrderly Any IsOrderly
orderly_kept now = status_kept (λ (status : CertStatus). IsInOrder status.conditions) (λ (status : RequestStatus). Unit {0}) now none_in_order tt

after_call : (s : Setting) (h : List Entry) (call : Call) (reply : Reply) → EachVersion IsOrderly (writes s h) → IsOrderlyCall call
    → EachVersion IsOrderly (if is_accepted reply then newest s h call reply ∷ writes s h else writes s h)
after_call s h call reply each is =
    where_accepted (EachVersion IsOrderly) (is_accepted reply) (newest s h call reply) (writes s h) (λ ok. kept_more s h call reply (orderly_kept (moment s h)) is) each

pub all_in_order : (s : Setting) (h : List Entry) → IsCaused s h → Follows s h → EachVersion IsOrderly (writes s h)
unfolding IsCaused Follows
all_in_order s [] caused follows = no_version IsOrderly
all_in_order s (Called User call reply ∷ h) caused follows =
    let each = all_in_order s h caused.1 follows.1 in after_call s h call reply each (of_steps IsOrderlyCall s h call (orderly_steps s h each) follows.0)
all_in_order s (Called (Pass m) call reply ∷ h) caused follows =
    let each = all_in_order s h caused.1 follows.1 in after_call s h call reply each (pass_orderly s h (open_pass s h m) call each (saw_known s h m) caused.0)
all_in_order s (other ∷ h) caused follows = all_in_order s h caused.1 follows.1
