-- What the next call of a pass is, by how far the pass has come; and which call is answered Found.
use Rattle.std.proofs.Common.{◌≡◌, ◌==◌, ◌⊎◌, ℕ, ℤ, ◌+◌, List, Option, Some, None, Bool, true, false, sym, ap, subst, ◌∙◌, inl, inr}
use Rattle.std.specs.Prelude.{MatchBool}
use Rattle.std.specs.List.{list_any}
use Rattle.cmc_objects.specs.declared.certificate.Certificate.{Certificate}
use Rattle.cmc_objects.specs.declared.object.Object.{Object}
use Rattle.cmc_objects.specs.declared.object.Object.TheVariants.{Cert, Secret}
use Rattle.cmc_objects.specs.declared.call.Call.{Call}
use Rattle.cmc_objects.specs.declared.call.Call.TheVariants.{Create, Update, UpdateStatus, Delete, Get}
use Rattle.cmc_objects.specs.declared.call.Reply.TheVariants.{Ok, Found, Conflict, Unavailable}
use Rattle.cmc_objects.specs.declared.orders.Order.{Order}
use Rattle.cmc_objects.specs.declared.role.Role.{Role}
use Rattle.cmc_objects.specs.declared.role.Role.TheVariants as roles
use Rattle.cmc_objects.specs.Objects.{key_of, name_of, version_of}
use Rattle.cmc_pass.specs.declared.value.Value.{Value}
use Rattle.cmc_pass.specs.declared.pass.Views.{Views}
use Rattle.cmc_pass.specs.declared.pass.IssuePlan.{IssuePlan}
use Rattle.cmc_pass.specs.declared.pass.TemporaryPlan.{TemporaryPlan}
use Rattle.cmc_pass.specs.declared.pass.Act.{Act}
use Rattle.cmc_pass.specs.declared.pass.Act.TheVariants.{Nothing, Call as Calls, Ask as Asks, Issue, Temporary}
use Rattle.cmc_model.specs.Objects.{Objects, object_at}
use Rattle.cmc_model.specs.Stored.{created, updated, with_status, revised, restated}
use Rattle.cmc_model.specs.Admission.{is_taken, refusing_rule}
use Rattle.cmc_model.specs.Generated.{named, free_named}
use Rattle.cmc_model.specs.Replies.{State, IsReply, IsServed, IsCreated, IsUpdated, IsRestated, IsDeleted, IsGot, IsChange, IsAdmitted}
use Rattle.cmc_rules.specs.declared.progress.Stage.{Stage}
use Rattle.cmc_rules.specs.declared.progress.Stage.TheVariants.{Fresh, Asked, Given, Read, Saved, Wrote, Refused, Barred}
use Rattle.cmc_rules.specs.Passes.{is_temporary_act, writes_temporary}
use Rattle.cmc_rules.specs.Safety.{IsSecretWrite}
use Rattle.cmc_rules.specs.Causes.{IsFirstCall, IsSecretCall, IsStatusCall, IsNextCall}
use Rattle.cmc_rules.specs.SeenObjects.{ForNone, OnSeen}
use Rattle.cmc_rules.specs.Sound.{IsOrdinary, IsWriteAfterValue, IsIssuance, IsTemporaryPlan, IsFollowed, IsWithin}

-- ---- the call by the act

-- the live read of the Certificate that issuing sees
pub record IsLiveCall (role : Role) (seen : Views) (call : Call) : Type 0 where
  pub issuing : role ≡ roles.Issuing
  pub certificate : Certificate
  pub sees : seen.certificate ≡ Some certificate
  pub get : call ≡ Get (key_of (Cert certificate))

pub record IsIssuingCall (role : Role) (seen : Views) (since : ℤ) (call : Call) (part : IssuePlan → Call) : Type 0 where
  pub plan : IssuePlan
  pub issues : IsIssuance role seen since plan
  pub planned : call ≡ part plan

pub record IsStandInCall (role : Role) (seen : Views) (since : ℤ) (call : Call) : Type 0 where
  pub plan : TemporaryPlan
  pub stands_in : IsTemporaryPlan role seen since plan
  pub planned : call ≡ plan.secret

-- what the call is at this stage
abbrev pub IsCallAt : Stage → Role → Views → ℤ → Call → Type 0
IsCallAt Fresh role seen since call = OnSeen (IsOrdinary role since) seen call ⊎ IsLiveCall role seen call
IsCallAt (Asked order) role seen since call = ⊥
IsCallAt (Given order value) role seen since call = OnSeen (IsWriteAfterValue role seen since value) seen call
IsCallAt Read role seen since call = IsIssuingCall role seen since call (λ plan. plan.secret) ⊎ IsStandInCall role seen since call
IsCallAt Saved role seen since call = IsIssuingCall role seen since call (λ plan. plan.status)
IsCallAt Wrote role seen since call = ⊥
IsCallAt (Refused entry obstacle) role seen since call = ⊥
IsCallAt Barred role seen since call = ⊥

first_call : (role : Role) (after : Order → Value → Option Call) (seen : Views) (since : ℤ) (does : Act) (call : Call) → IsWithin role after seen since does → IsFirstCall does call → IsCallAt Fresh role seen since call
first_call role after seen since Nothing call within next = absurd next
first_call role after seen since (Calls first) call within next = inl (subst (OnSeen (IsOrdinary role since) seen) (sym next) within)
first_call role after seen since (Asks order) call within next = absurd next
first_call role after seen since (Issue plan) call within next =
    inr (record { issuing = within.issuing; certificate = within.certificate; sees = within.prepared.sees; get = next ∙ ap Get within.get })
first_call role after seen since (Temporary plan) call within next =
    inr (record { issuing = within.issuing; certificate = within.certificate; sees = within.prepared.sees; get = next ∙ ap Get within.get })

secret_call : (role : Role) (after : Order → Value → Option Call) (seen : Views) (since : ℤ) (does : Act) (call : Call) → IsWithin role after seen since does → IsSecretCall does call → IsCallAt Read role seen since call
secret_call role after seen since Nothing call within next = absurd next
secret_call role after seen since (Calls first) call within next = absurd next
secret_call role after seen since (Asks order) call within next = absurd next
secret_call role after seen since (Issue plan) call within next = inl (record { plan = plan; issues = within; planned = next })
secret_call role after seen since (Temporary plan) call within next = inr (record { plan = plan; stands_in = within; planned = next })

status_call : (role : Role) (after : Order → Value → Option Call) (seen : Views) (since : ℤ) (does : Act) (call : Call) → IsWithin role after seen since does → IsStatusCall does call → IsCallAt Saved role seen since call
status_call role after seen since Nothing call within next = absurd next
status_call role after seen since (Calls first) call within next = absurd next
status_call role after seen since (Asks order) call within next = absurd next
status_call role after seen since (Issue plan) call within next = record { plan = plan; issues = within; planned = next }
status_call role after seen since (Temporary plan) call within next = absurd next

-- a Secret is marked exactly where the plan is one of a stand-in certificate
unmarked : (call : Call) → IsSecretWrite call → writes_temporary call ≡ false
unmarked (Create (Secret k) generate) is = is
unmarked (Update (Secret k) named) is = is
unmarked other is = absurd is

pub marked_by : (role : Role) (after : Order → Value → Option Call) (seen : Views) (since : ℤ) (does : Act) (call : Call) → IsWithin role after seen since does → IsSecretCall does call → (role ≡ roles.Issuing) × (writes_temporary call ≡ is_temporary_act does)
marked_by role after seen since Nothing call within next = absurd next
marked_by role after seen since (Calls first) call within next = absurd next
marked_by role after seen since (Asks order) call within next = absurd next
marked_by role after seen since (Issue plan) call within next = (within.issuing, ap writes_temporary next ∙ unmarked plan.secret within.is_secret)
marked_by role after seen since (Temporary plan) call within next = (within.issuing, ap writes_temporary next ∙ within.is_marked)

-- the call that follows is the one that is for what was seen
pub following_call : (role : Role) (after : Order → Value → Option Call) (seen : Views) (since : ℤ) (order : Order) (value : Value) (call : Call) → IsFollowed role after seen since order value → after order value ≡ Some call
    → OnSeen (IsWriteAfterValue role seen since value) seen call
following_call role after seen since order value call followed next =
    let some : Some followed.call ≡ Some call = sym followed.follows ∙ next in
    let same : followed.call ≡ call = cc some in
    subst (OnSeen (IsWriteAfterValue role seen since value) seen) same followed.on

-- a value that was given is followed
abbrev pub IsFollowedAt : Stage → Role → (Order → Value → Option Call) → Views → ℤ → Type 0
IsFollowedAt (Given order value) role after seen since = IsFollowed role after seen since order value
IsFollowedAt other role after seen since = Unit {0}

pub call_at : (stage : Stage) (role : Role) (after : Order → Value → Option Call) (seen : Views) (since : ℤ) (does : Act) (call : Call) → IsWithin role after seen since does → IsFollowedAt stage role after seen since
    → IsNextCall stage does after call → IsCallAt stage role seen since call
call_at Fresh role after seen since does call within followed next = first_call role after seen since does call within next
call_at (Asked order) role after seen since does call within followed next = absurd next
call_at (Given order value) role after seen since does call within followed next = following_call role after seen since order value call followed next
call_at Read role after seen since does call within followed next = secret_call role after seen since does call within next
call_at Saved role after seen since does call within followed next = status_call role after seen since does call within next
call_at Wrote role after seen since does call within followed next = absurd next
call_at (Refused entry obstacle) role after seen since does call within followed next = absurd next
call_at Barred role after seen since does call within followed next = absurd next

-- ---- what holds of a call for what was seen, where less is asked of it

weaker_none : (P Q : Option Object → Option Object → Type 0) (object : Object) → ((old new : Option Object) → P old new → Q old new) → ForNone P object → ForNone Q object
weaker_none P Q object gives on = record { makes = λ next now. gives None (Some (created next now object)) (on.makes next now); passes = on.passes }

pub on_less : (P Q : Option Object → Option Object → Type 0) (seen : Views) (call : Call) → ((old new : Option Object) → P old new → Q old new) → OnSeen P seen call → OnSeen Q seen call
unfolding OnSeen
on_less P Q seen (Create object false) gives on = weaker_none P Q object gives on
on_less P Q seen (Create object true) gives on = λ name. weaker_none P Q (named name object) gives (on name)
on_less P Q seen (Update object at) gives on = record {
  old = on.old;
  sees = on.sees;
  key = on.key;
  version = on.version;
  changes = λ next. gives (Some on.old) (Some (revised next on.old object)) (on.changes next);
  passes = on.passes;
}
on_less P Q seen (UpdateStatus object at) gives on = record {
  old = on.old;
  sees = on.sees;
  key = on.key;
  version = on.version;
  changes = λ next. gives (Some on.old) (Some (restated next on.old object)) (on.changes next);
  passes = on.passes;
}
on_less P Q seen (Delete key None) gives on = absurd on
on_less P Q seen (Delete key (Some at)) gives on = record {
  old = on.old;
  sees = on.sees;
  key = on.key;
  version = on.version;
  changes = λ next. gives (Some on.old) None (on.changes next);
  passes = on.passes;
}
on_less P Q seen (Get key) gives on = absurd on

-- ---- only a read is answered Found

-- the call reads this object
abbrev pub ReadsObject : Objects → Call → Object → Type 0
ReadsObject objects (Get key) found = object_at objects key ≡ Some found
ReadsObject objects other found = ⊥

not_admitted : (rule : Option ℕ) (served : Type 0) (o : Object) → (served → ⊥) → IsAdmitted rule served (Found o) → ⊥
not_admitted None served o off right = off right
not_admitted (Some rule) served o off right = absurd (cc right)

not_change : (n : ℕ) (name : List ℕ) (old new o : Object) → IsChange n name old new (Found o) → ⊥
not_change n name old new o (inl same) = absurd (let no = same.1 in cc no)
not_change n name old new o (inr other) = absurd (let no = other.1 in cc no)

not_at : (at : Bool) (named : ℕ) (old : Object) (served : Type 0) (o : Object) → (served → ⊥) → MatchBool at served (Found o ≡ Conflict named (version_of old)) → ⊥
not_at true named old served o off right = off right
not_at false named old served o off right = absurd (cc right)

not_created : (n : ℕ) (taken : Bool) (object : Object) (old : Option Object) (o : Object) → IsCreated n taken object old (Found o) → ⊥
not_created n taken object (Some old) o right = absurd (cc right)
not_created n taken object None o right = not_admitted (refusing_rule None object false taken) (Found o ≡ Ok (n + 1) (name_of object)) o (λ is. absurd (cc is)) right

not_updated : (n : ℕ) (taken : Bool) (object : Object) (named : ℕ) (old : Option Object) (o : Object) → IsUpdated n taken object named old (Found o) → ⊥
not_updated n taken object named None o right = absurd (cc right)
not_updated n taken object named (Some old) o right =
    not_at (named == version_of old) named old (IsAdmitted (refusing_rule (Some old) object false taken) (IsChange n (name_of object) old (updated old object) (Found o)) (Found o)) o
    (λ is. not_admitted (refusing_rule (Some old) object false taken) (IsChange n (name_of object) old (updated old object) (Found o)) o (λ c. not_change n (name_of object) old (updated old object) o c) is) right

not_restated : (n : ℕ) (object : Object) (named : ℕ) (old : Option Object) (o : Object) → IsRestated n object named old (Found o) → ⊥
not_restated n object named None o right = absurd (cc right)
not_restated n object named (Some old) o right =
    not_at (named == version_of old) named old (IsAdmitted (refusing_rule (Some old) object true false) (IsChange n (name_of object) old (with_status old object) (Found o)) (Found o)) o
    (λ is. not_admitted (refusing_rule (Some old) object true false) (IsChange n (name_of object) old (with_status old object) (Found o)) o (λ c. not_change n (name_of object) old (with_status old object) o c) is) right

not_deleted : (n : ℕ) (named : Option ℕ) (name : List ℕ) (old : Option Object) (o : Object) → IsDeleted n named name old (Found o) → ⊥
not_deleted n None name None o right = absurd (cc right)
not_deleted n (Some named) name None o right = absurd (cc right)
not_deleted n None name (Some old) o right = absurd (cc right)
not_deleted n (Some named) name (Some old) o right = not_at (named == version_of old) named old (Found o ≡ Ok (n + 1) name) o (λ is. absurd (cc is)) right

got : (n : ℕ) (old : Option Object) (o : Object) → IsGot n old (Found o) → old ≡ Some o
got n None o right = absurd (cc right)
got n (Some old) o right = ap Some (let same : o ≡ old = cc right in sym same)

served_read : (n : ℕ) (objects : Objects) (call : Call) (o : Object) → IsServed n objects call (Found o) → ReadsObject objects call o
served_read n objects (Create object false) o right = not_created n (is_taken objects object) object (object_at objects (key_of object)) o right
served_read n objects (Create object true) o right =
    let made = free_named (n + 1) objects object in not_created n (is_taken objects made) made (object_at objects (key_of made)) o right
served_read n objects (Update object named) o right = not_updated n (is_taken objects object) object named (object_at objects (key_of object)) o right
served_read n objects (UpdateStatus object named) o right = not_restated n object named (object_at objects (key_of object)) o right
served_read n objects (Delete key named) o right = not_deleted n named key.name (object_at objects key) o right
served_read n objects (Get key) o right = got n (object_at objects key) o right

read_by : (fails : Bool) (st : State) (call : Call) (o : Object) → MatchBool fails (Found o ≡ Unavailable (st.calls + 1)) (IsServed st.accepted st.objects call (Found o)) → ReadsObject st.objects call o
read_by true st call o right = absurd (cc right)
read_by false st call o right = served_read st.accepted st.objects call o right

pub found_is_read : (faults : List ℕ) (st : State) (call : Call) (o : Object) → IsReply faults st call (Found o) → ReadsObject st.objects call o
found_is_read faults st call o right = read_by (list_any (λ n. n == st.calls + 1) faults) st call o right

-- and a read is no write
pub no_read : (P : Option Object → Option Object → Type 0) (objects : Objects) (seen : Views) (call : Call) (o : Object) → ReadsObject objects call o → OnSeen P seen call → ⊥
unfolding OnSeen
no_read P objects seen (Get key) o is on = on
no_read P objects seen other o is on = is
