-- Each pass keeps to its course: what stands in the history of an open pass can be gone on with by its stage.
use Rattle.std.proofs.Common.{◌≡◌, ◌==◌, ◌⊎◌, ◌++◌, ℕ, ℤ, ◌+◌, ◌<◌, ◌≤◌, List, [], ◌∷◌, length, Option, Some, None, Bool, true, false, refl, sym, ap, subst, ◌∙◌, inl, inr, arith}
use Rattle.std.specs.Prelude.{if◌then◌else◌, IfSome, MatchBool}
use Rattle.std.specs.List.{list_any}
use Rattle.cmc_meta.specs.declared.key.Key.{Key}
use Rattle.cmc_meta.specs.declared.key.Kind.{Kind}
use Rattle.cmc_objects.specs.declared.certificate.Certificate.{Certificate}
use Rattle.cmc_objects.specs.declared.object.Object.{Object}
use Rattle.cmc_objects.specs.declared.call.Call.{Call}
use Rattle.cmc_objects.specs.declared.call.Call.TheVariants.{Get}
use Rattle.cmc_objects.specs.declared.call.Reply.{Reply}
use Rattle.cmc_objects.specs.declared.call.Reply.TheVariants.{Ok, Unchanged, Found, Conflict, NotFound, AlreadyExists, Invalid, Unavailable}
use Rattle.cmc_objects.specs.declared.orders.Order.{Order}
use Rattle.cmc_objects.specs.declared.role.Role.{Role}
use Rattle.cmc_objects.specs.declared.role.Role.TheVariants as roles
use Rattle.cmc_objects.specs.declared.entry.Cause.{Cause}
use Rattle.cmc_objects.specs.declared.entry.Cause.TheVariants as causes
use Rattle.cmc_objects.specs.declared.entry.Positions.{Positions}
use Rattle.cmc_objects.specs.declared.entry.Who.TheVariants.{User, Pass}
use Rattle.cmc_objects.specs.declared.entry.Entry.{Entry}
use Rattle.cmc_objects.specs.declared.entry.Entry.TheVariants.{Script, Call as Called, Deliver, List as Listed, Begin, Ask, Made, Signed, Answered, Judged, End, Stop, Start, Tick}
use Rattle.cmc_objects.specs.Objects.{version_of}
use Rattle.cmc_pass.specs.declared.value.Value.{Value}
use Rattle.cmc_pass.specs.declared.value.Value.TheVariants as values
use Rattle.cmc_pass.specs.declared.pass.Views.{Views}
use Rattle.cmc_pass.specs.declared.pass.Act.{Act}
use Rattle.cmc_pass.specs.declared.pass.Act.TheVariants.{Nothing, Call as Calls, Ask as Asks, Issue, Temporary}
use Rattle.cmc_model.specs.Objects.{Objects, object_at}
use Rattle.cmc_model.specs.Replies.{State, IsReply, IsGot, key_of_call}
use Rattle.cmc_model.specs.Replies as replies
use Rattle.cmc_model.specs.Histories.{Setting, state, objects}
use Rattle.cmc_model.specs.Writes.{writes, last_under}
use Rattle.cmc_rules.specs.declared.progress.OpenPass.{OpenPass}
use Rattle.cmc_rules.specs.declared.progress.Stage.{Stage}
use Rattle.cmc_rules.specs.declared.progress.Stage.TheVariants.{Fresh, Asked, Given, Read, Saved, Wrote, Refused, Barred}
use Rattle.cmc_rules.specs.Acts.{call_after}
use Rattle.cmc_rules.specs.Issuance.{issuing}
use Rattle.cmc_rules.specs.Desks.{desk}
use Rattle.cmc_rules.specs.Views.{views}
use Rattle.cmc_rules.specs.Origins.{begun}
use Rattle.cmc_rules.specs.Passes.{open_pass, given, gone_on, is_as_seen, is_temporary_act, stage_read, stage_written, stage_by, stage_after, stage_given, new_pass, with_stage}
use Rattle.cmc_rules.specs.Legality.{IsLegal, IsOpen}
use Rattle.cmc_rules.specs.Causes.{act_of, after_of, IsNextCall, MayCall, IsCaused, IsAsked, AsksBy, MayAsk, IsGivenBy, MayGive, EndsBy, MayEnd}
use Rattle.cmc_rules.specs.Safety.{IsServedReply}
use Rattle.cmc_rules.specs.Sound.{IsOrdinary, IsWriteAfterValue, WritesTarget, IsSigned, IsMarked, IsRaiseOf, IsWithin}
use Rattle.cmc_rules.proofs.Passes.{closed_beyond}
use Rattle.cmc_rules.proofs.Carrying.{over_end, over_stop}
use Rattle.cmc_rules.proofs.WellSeen.{SawAll, saw_all}
use Rattle.cmc_safety.specs.Courses.{is_entry_of, Placed, course_of, GivesValue, IsEnding, lets_on, AreCalls, IsFollowing, IsAnswering, IsCourseBy, IsCourse, HaveCourses}
use Rattle.cmc_safety.proofs.Plans.{act_of_issuing}
use Rattle.cmc_safety.proofs.NextCalls.{IsCallAt, ReadsObject, found_is_read, no_read}
use Rattle.cmc_safety.proofs.Completing.{own_number, legal_below}
use Rattle.cmc_safety.proofs.Course.{AreSound, of_open, with_equation, over_own_entry, same_number, HasComeTo, has_come, within_act, next_call}

-- ---- what may come after a stage

-- the calls of a plan that are left after the live read, and after the Secret
abbrev after_read : Act → List Call
after_read (Issue plan) = plan.secret ∷ plan.status ∷ []
after_read (Temporary plan) = plan.secret ∷ []
after_read other = []

abbrev after_secret : Act → List Call
after_secret (Issue plan) = plan.status ∷ []
after_secret other = []

abbrev GoesOn : Setting → ℕ → Role → Views → ℤ → Stage → List Placed → Type 0
GoesOn s n role seen since Fresh es = IsCourse s n role seen since es
GoesOn s n role seen since (Asked order) es = IsAnswering n seen.certificate (call_after role seen since) order es
GoesOn s n role seen since (Given order value) es = IsFollowing n seen.certificate (call_after role seen since order value) es
GoesOn s n role seen since Read es = AreCalls n seen.certificate (after_read (issuing seen since)) es
GoesOn s n role seen since Saved es = AreCalls n seen.certificate (after_secret (issuing seen since)) es
GoesOn s n role seen since Wrote es = IsEnding n causes.Wrote es
GoesOn s n role seen since (Refused entry obstacle) es = IsEnding n (causes.Stopper entry) es
GoesOn s n role seen since Barred es = es ≡ []

-- it may always end there, as a history may
no_calls : (n : ℕ) (seen : Option Certificate) (calls : List Call) → AreCalls n seen calls []
no_calls n seen [] = tt
no_calls n seen (call ∷ calls) = tt

nothing_follows : (n : ℕ) (seen : Option Certificate) (call : Option Call) → IsFollowing n seen call []
nothing_follows n seen None = refl
nothing_follows n seen (Some call) = tt

pauses : (s : Setting) (n : ℕ) (role : Role) (seen : Views) (since : ℤ) (stage : Stage) → GoesOn s n role seen since stage []
pauses s n role seen since Fresh = tt
pauses s n role seen since (Asked order) = tt
pauses s n role seen since (Given order value) = nothing_follows n seen.certificate (call_after role seen since order value)
pauses s n role seen since Read = no_calls n seen.certificate (after_read (issuing seen since))
pauses s n role seen since Saved = no_calls n seen.certificate (after_secret (issuing seen since))
pauses s n role seen since Wrote = tt
pauses s n role seen since (Refused entry obstacle) = tt
pauses s n role seen since Barred = refl

-- ---- calls

-- a read is answered with what stands, or that nothing does
not_got : (n : ℕ) (old : Option Object) (reply : Reply) → IsGot n old reply → IsServedReply reply → ⊥
not_got n None (Ok version name) got served = absurd (cc got)
not_got n None (Unchanged version) got served = absurd (cc got)
not_got n None other got served = served
not_got n (Some old) (Ok version name) got served = absurd (cc got)
not_got n (Some old) (Unchanged version) got served = absurd (cc got)
not_got n (Some old) other got served = served

not_failed : (number : ℕ) (reply : Reply) → reply ≡ Unavailable number → IsServedReply reply → ⊥
not_failed number (Ok version name) is served = absurd (cc is)
not_failed number (Unchanged version) is served = absurd (cc is)
not_failed number other is served = served

not_served : (fails : Bool) (st : State) (key : Key) (reply : Reply) → MatchBool fails (reply ≡ Unavailable (st.calls + 1)) (replies.IsServed st.accepted st.objects (Get key) reply) → IsServedReply reply → ⊥
not_served true st key reply right served = not_failed (st.calls + 1) reply right served
not_served false st key reply right served = not_got st.accepted (object_at st.objects key) reply right served

read_is_no_write : (faults : List ℕ) (st : State) (call : Call) (key : Key) (reply : Reply) → call ≡ Get key → IsReply faults st call reply → IsServedReply reply → ⊥
read_is_no_write faults st call key reply is right served =
    not_served (list_any (λ n. n == st.calls + 1) faults) st key reply (subst (λ (c : Call). IsReply faults st c reply) is right) served

-- the reply is that of a call after which these are left
by_reply : (s : Setting) (n : ℕ) (role : Role) (seen : Views) (since : ℤ) (stand_in : Bool) (stage : Stage) (entry : ℕ) (kind : Kind) (last : ℕ) (reply : Reply) (calls : List Call) (es : List Placed)
    → (IsServedReply reply → GoesOn s n role seen since (stage_written stand_in stage) es → AreCalls n seen.certificate calls es)
    → ((o : Object) → reply ≡ Found o → GoesOn s n role seen since Read es → AreCalls n seen.certificate calls es)
    → GoesOn s n role seen since (stage_by seen.certificate stand_in stage entry kind last reply) es
    → MatchBool (lets_on seen.certificate reply) (AreCalls n seen.certificate calls es) (IsEnding n (causes.Stopper entry) es)
by_reply s n role seen since stand_in stage entry kind last (Ok version name) calls es served found goes = served tt goes
by_reply s n role seen since stand_in stage entry kind last (Unchanged version) calls es served found goes = served tt goes
by_reply s n role seen since stand_in stage entry kind last (Found o) calls es served found goes = read_on (is_as_seen seen.certificate o) goes where
  read_on : (b : Bool) → GoesOn s n role seen since (stage_read b entry kind (version_of o)) es → MatchBool b (AreCalls n seen.certificate calls es) (IsEnding n (causes.Stopper entry) es)
  read_on true goes = found o refl goes
  read_on false goes = goes
by_reply s n role seen since stand_in stage entry kind last (Conflict named have) calls es served found goes = goes
by_reply s n role seen since stand_in stage entry kind last (NotFound at) calls es served found goes = goes
by_reply s n role seen since stand_in stage entry kind last (AlreadyExists have) calls es served found goes = goes
by_reply s n role seen since stand_in stage entry kind last (Invalid rule) calls es served found goes = subst (IsEnding n (causes.Stopper entry)) (sym goes) tt
by_reply s n role seen since stand_in stage entry kind last (Unavailable number) calls es served found goes = goes

-- what is known of a call of an open pass
record CallsNow (s : Setting) (h : List Entry) (n : ℕ) (p : OpenPass) (call : Call) (reply : Reply) : Type 0 where
  within : IsWithin p.role (call_after p.role p.seen p.since) p.seen p.since (act_of s h p)
  at : IsCallAt p.stage p.role p.seen p.since call
  may : IsNextCall p.stage (act_of s h p) (after_of p) call
  right : IsReply s.faults (state s h) call reply

reads : (s : Setting) (h : List Entry) (n : ℕ) (p : OpenPass) (call : Call) (reply : Reply) (o : Object) → CallsNow s h n p call reply → reply ≡ Found o → ReadsObject (objects s h) call o
reads s h n p call reply o k is = found_is_read s.faults (state s h) call o (subst (IsReply s.faults (state s h) call) is k.right)

-- only the first call reads
no_read_at : (stage : Stage) (role : Role) (seen : Views) (since : ℤ) (objects : Objects) (call : Call) (o : Object) → (stage ≡ Fresh → ⊥) → IsCallAt stage role seen since call → ReadsObject objects call o → ⊥
no_read_at Fresh role seen since objects call o later at reads = later refl
no_read_at (Asked order) role seen since objects call o later at reads = at
no_read_at (Given order value) role seen since objects call o later at reads = no_read (IsWriteAfterValue role seen since value) objects seen call o reads at
no_read_at Read role seen since objects call o later (inl at) reads =
    no_read (WritesTarget role since (IsSigned at.issues.certificate at.issues.request at.issues.file)) objects seen at.plan.secret o (subst (λ (k : Call). ReadsObject objects k o) at.planned reads) at.issues.secret
no_read_at Read role seen since objects call o later (inr at) reads =
    no_read (WritesTarget role since (IsMarked at.stands_in.certificate at.stands_in.request at.stands_in.file since)) objects seen at.plan.secret o (subst (λ (k : Call). ReadsObject objects k o) at.planned reads) at.stands_in.secret
no_read_at Saved role seen since objects call o later at reads =
    no_read (IsRaiseOf at.issues.certificate since) objects seen at.plan.status o (subst (λ (k : Call). ReadsObject objects k o) at.planned reads) at.issues.status
no_read_at Wrote role seen since objects call o later at reads = at
no_read_at (Refused entry obstacle) role seen since objects call o later at reads = at
no_read_at Barred role seen since objects call o later at reads = at

abbrev called_at : List Entry → ℕ → Call → Reply → Placed
called_at h n call reply = record { before = h; entry = Called (Pass n) call reply }

-- the first call of an act
first_goes : (s : Setting) (h : List Entry) (n : ℕ) (p : OpenPass) (call : Call) (reply : Reply) (does : Act) (es : List Placed) → p.stage ≡ Fresh → act_of s h p ≡ does → CallsNow s h n p call reply → IsNextCall Fresh does (after_of p) call
    → IsWithin p.role (call_after p.role p.seen p.since) p.seen p.since does
    → GoesOn s n p.role p.seen p.since (stage_by p.seen.certificate (is_temporary_act (issuing p.seen p.since)) Fresh (length h + 1) (key_of_call call).kind (last_under (key_of_call call) (writes s h)) reply) es
    → IsCourseBy n p.seen.certificate (call_after p.role p.seen p.since) does (called_at h n call reply ∷ es)
first_goes s h n p call reply Nothing es fresh acts k next within goes = absurd next
first_goes s h n p call reply (Asks order) es fresh acts k next within goes = absurd next
first_goes s h n p call reply (Calls first) es fresh acts k next within goes = (
  reply,
  ap (λ (c : Call). Called (Pass n) c reply) next,
  by_reply s n p.role p.seen p.since (is_temporary_act (issuing p.seen p.since)) Fresh (length h + 1) _ _ reply [] es (λ served it. it)
      (λ o is. absurd (no_read (IsOrdinary p.role p.since) (objects s h) p.seen first o (subst (λ (c : Call). ReadsObject (objects s h) c o) next (reads s h n p call reply o k is)) within)) goes,
)
first_goes s h n p call reply (Issue plan) es fresh acts k next within goes =
    let its : issuing p.seen p.since ≡ Issue plan = sym (act_of_issuing p.role p.seen p.since (desk s h p.role p.seen) within.issuing) ∙ acts in (
      reply,
      ap (λ (c : Call). Called (Pass n) c reply) next,
      by_reply s n p.role p.seen p.since (is_temporary_act (issuing p.seen p.since)) Fresh (length h + 1) _ _ reply (plan.secret ∷ plan.status ∷ []) es
          (λ served. absurd (read_is_no_write s.faults (state s h) call plan.get reply next k.right served))
          (λ o is it. subst (λ (a : Act). AreCalls n p.seen.certificate (after_read a) es) its it) goes,
    )
first_goes s h n p call reply (Temporary plan) es fresh acts k next within goes =
    let its : issuing p.seen p.since ≡ Temporary plan = sym (act_of_issuing p.role p.seen p.since (desk s h p.role p.seen) within.issuing) ∙ acts in (
      reply,
      ap (λ (c : Call). Called (Pass n) c reply) next,
      by_reply s n p.role p.seen p.since (is_temporary_act (issuing p.seen p.since)) Fresh (length h + 1) _ _ reply (plan.secret ∷ []) es
          (λ served. absurd (read_is_no_write s.faults (state s h) call plan.get reply next k.right served))
          (λ o is it. subst (λ (a : Act). AreCalls n p.seen.certificate (after_read a) es) its it) goes,
    )

-- the Secret of a plan, and its status
secret_goes : (s : Setting) (h : List Entry) (n : ℕ) (p : OpenPass) (call : Call) (reply : Reply) (does : Act) (es : List Placed) → issuing p.seen p.since ≡ does → IsNextCall Read does (after_of p) call
    → ((o : Object) → reply ≡ Found o → ⊥)
    → GoesOn s n p.role p.seen p.since (stage_by p.seen.certificate (is_temporary_act (issuing p.seen p.since)) Read (length h + 1) (key_of_call call).kind (last_under (key_of_call call) (writes s h)) reply) es
    → AreCalls n p.seen.certificate (after_read does) (called_at h n call reply ∷ es)
secret_goes s h n p call reply Nothing es its next unread goes = absurd next
secret_goes s h n p call reply (Calls first) es its next unread goes = absurd next
secret_goes s h n p call reply (Asks order) es its next unread goes = absurd next
secret_goes s h n p call reply (Issue plan) es its next unread goes = (
  reply,
  ap (λ (c : Call). Called (Pass n) c reply) next,
  by_reply s n p.role p.seen p.since (is_temporary_act (issuing p.seen p.since)) Read (length h + 1) _ _ reply (plan.status ∷ []) es
      (λ served it. subst (λ (a : Act). AreCalls n p.seen.certificate (after_secret a) es) its (subst (λ (a : Act). GoesOn s n p.role p.seen p.since (stage_written (is_temporary_act a) Read) es) its it))
      (λ o is. absurd (unread o is)) goes,
)
secret_goes s h n p call reply (Temporary plan) es its next unread goes = (
  reply,
  ap (λ (c : Call). Called (Pass n) c reply) next,
  by_reply s n p.role p.seen p.since (is_temporary_act (issuing p.seen p.since)) Read (length h + 1) _ _ reply [] es
      (λ served it. subst (λ (a : Act). GoesOn s n p.role p.seen p.since (stage_written (is_temporary_act a) Read) es) its it)
      (λ o is. absurd (unread o is)) goes,
)

status_goes : (s : Setting) (h : List Entry) (n : ℕ) (p : OpenPass) (call : Call) (reply : Reply) (does : Act) (es : List Placed) → IsNextCall Saved does (after_of p) call
    → ((o : Object) → reply ≡ Found o → ⊥)
    → GoesOn s n p.role p.seen p.since (stage_by p.seen.certificate (is_temporary_act (issuing p.seen p.since)) Saved (length h + 1) (key_of_call call).kind (last_under (key_of_call call) (writes s h)) reply) es
    → AreCalls n p.seen.certificate (after_secret does) (called_at h n call reply ∷ es)
status_goes s h n p call reply Nothing es next unread goes = absurd next
status_goes s h n p call reply (Calls first) es next unread goes = absurd next
status_goes s h n p call reply (Asks order) es next unread goes = absurd next
status_goes s h n p call reply (Temporary plan) es next unread goes = absurd next
status_goes s h n p call reply (Issue plan) es next unread goes =
    (reply, ap (λ (c : Call). Called (Pass n) c reply) next, by_reply s n p.role p.seen p.since (is_temporary_act (issuing p.seen p.since)) Saved (length h + 1) _ _ reply [] es (λ served it. it) (λ o is. absurd (unread o is)) goes)

-- the call that follows a value
following_goes : (s : Setting) (h : List Entry) (n : ℕ) (p : OpenPass) (call : Call) (reply : Reply) (order : Order) (value : Value) (found : Option Call) (es : List Placed) → found ≡ Some call
    → ((o : Object) → reply ≡ Found o → ⊥)
    → GoesOn s n p.role p.seen p.since (stage_by p.seen.certificate (is_temporary_act (issuing p.seen p.since)) (Given order value) (length h + 1) (key_of_call call).kind (last_under (key_of_call call) (writes s h)) reply) es
    → IsFollowing n p.seen.certificate found (called_at h n call reply ∷ es)
following_goes s h n p call reply order value None es is unread goes = absurd (cc is)
following_goes s h n p call reply order value (Some next) es is unread goes =
    let same : call ≡ next = (let e : next ≡ call = cc is in sym e) in
    (reply, ap (λ (c : Call). Called (Pass n) c reply) same, by_reply s n p.role p.seen p.since (is_temporary_act (issuing p.seen p.since)) (Given order value) (length h + 1) _ _ reply [] es (λ served it. it) (λ o found. absurd (unread o found)) goes)

-- after the live read and after the Secret a pass is one of issuing
issuing_now : (s : Setting) (h : List Entry) (p : OpenPass) → p.role ≡ roles.Issuing → act_of s h p ≡ issuing p.seen p.since
issuing_now s h p is = act_of_issuing p.role p.seen p.since (desk s h p.role p.seen) is

role_at_read : (role : Role) (seen : Views) (since : ℤ) (call : Call) → IsCallAt Read role seen since call → role ≡ roles.Issuing
role_at_read role seen since call (inl at) = at.issues.issuing
role_at_read role seen since call (inr at) = at.stands_in.issuing

call_goes : (s : Setting) (h : List Entry) (n : ℕ) (p : OpenPass) (call : Call) (reply : Reply) (stage : Stage) (es : List Placed) → p.stage ≡ stage → CallsNow s h n p call reply
    → GoesOn s n p.role p.seen p.since (stage_by p.seen.certificate (is_temporary_act (issuing p.seen p.since)) stage (length h + 1) (key_of_call call).kind (last_under (key_of_call call) (writes s h)) reply) es
    → GoesOn s n p.role p.seen p.since stage (called_at h n call reply ∷ es)
call_goes s h n p call reply Fresh es is k goes =
    first_goes s h n p call reply (act_of s h p) es is refl k (subst (λ (t : Stage). IsNextCall t (act_of s h p) (after_of p) call) is k.may) k.within goes
call_goes s h n p call reply (Asked order) es is k goes = absurd (subst (λ (t : Stage). IsNextCall t (act_of s h p) (after_of p) call) is k.may)
call_goes s h n p call reply (Given order value) es is k goes =
    following_goes s h n p call reply order value (call_after p.role p.seen p.since order value) es (subst (λ (t : Stage). IsNextCall t (act_of s h p) (after_of p) call) is k.may)
    (λ o found. no_read_at (Given order value) p.role p.seen p.since (objects s h) call o (λ e. absurd (cc e)) (subst (λ (t : Stage). IsCallAt t p.role p.seen p.since call) is k.at) (reads s h n p call reply o k found)) goes
call_goes s h n p call reply Read es is k goes =
    let at : IsCallAt Read p.role p.seen p.since call = subst (λ (t : Stage). IsCallAt t p.role p.seen p.since call) is k.at in
    secret_goes s h n p call reply (issuing p.seen p.since) es refl
    (subst (λ (a : Act). IsNextCall Read a (after_of p) call) (issuing_now s h p (role_at_read p.role p.seen p.since call at)) (subst (λ (t : Stage). IsNextCall t (act_of s h p) (after_of p) call) is k.may))
    (λ o found. no_read_at Read p.role p.seen p.since (objects s h) call o (λ e. absurd (cc e)) at (reads s h n p call reply o k found)) goes
call_goes s h n p call reply Saved es is k goes =
    let at : IsCallAt Saved p.role p.seen p.since call = subst (λ (t : Stage). IsCallAt t p.role p.seen p.since call) is k.at in
    status_goes s h n p call reply (issuing p.seen p.since) es
    (subst (λ (a : Act). IsNextCall Saved a (after_of p) call) (issuing_now s h p at.issues.issuing) (subst (λ (t : Stage). IsNextCall t (act_of s h p) (after_of p) call) is k.may))
    (λ o found. no_read_at Saved p.role p.seen p.since (objects s h) call o (λ e. absurd (cc e)) at (reads s h n p call reply o k found)) goes
call_goes s h n p call reply Wrote es is k goes = absurd (subst (λ (t : Stage). IsNextCall t (act_of s h p) (after_of p) call) is k.may)
call_goes s h n p call reply (Refused entry obstacle) es is k goes = absurd (subst (λ (t : Stage). IsNextCall t (act_of s h p) (after_of p) call) is k.may)
call_goes s h n p call reply Barred es is k goes = absurd (subst (λ (t : Stage). IsNextCall t (act_of s h p) (after_of p) call) is k.may)

-- ---- questions, values and ends

asking_goes : (n : ℕ) (seen : Option Certificate) (after : Order → Value → Option Call) (does : Act) (order : Order) (h : List Entry) (es : List Placed) → IsAsked does order → IsAnswering n seen after order es
    → IsCourseBy n seen after does (record { before = h; entry = Ask n order } ∷ es)
asking_goes n seen after (Asks asked) order h es is goes = (ap (Ask n) is, subst (λ (o : Order). IsAnswering n seen after o es) is goes)
asking_goes n seen after Nothing order h es is goes = absurd is
asking_goes n seen after (Calls call) order h es is goes = absurd is
asking_goes n seen after (Issue plan) order h es is goes = absurd is
asking_goes n seen after (Temporary plan) order h es is goes = absurd is

ask_goes : (s : Setting) (h : List Entry) (n : ℕ) (p : OpenPass) (order : Order) (stage : Stage) (es : List Placed) → AsksBy stage (act_of s h p) order → GoesOn s n p.role p.seen p.since (Asked order) es
    → GoesOn s n p.role p.seen p.since stage (record { before = h; entry = Ask n order } ∷ es)
ask_goes s h n p order Fresh es asks goes = asking_goes n p.seen.certificate (call_after p.role p.seen p.since) (act_of s h p) order h es asks goes
ask_goes s h n p order (Asked other) es asks goes = absurd asks
ask_goes s h n p order (Given other value) es asks goes = absurd asks
ask_goes s h n p order Read es asks goes = absurd asks
ask_goes s h n p order Saved es asks goes = absurd asks
ask_goes s h n p order Wrote es asks goes = absurd asks
ask_goes s h n p order (Refused entry obstacle) es asks goes = absurd asks
ask_goes s h n p order Barred es asks goes = absurd asks

value_goes : (s : Setting) (h : List Entry) (n : ℕ) (role : Role) (seen : Views) (since : ℤ) (value : Value) (e : Entry) (stage : Stage) (es : List Placed) → GivesValue n value e → IsGivenBy stage value
    → GoesOn s n role seen since (stage_given value stage) es → GoesOn s n role seen since stage (record { before = h; entry = e } ∷ es)
value_goes s h n role seen since value e (Asked order) es is right goes = (value, is, right, goes)
value_goes s h n role seen since value e Fresh es is right goes = absurd right
value_goes s h n role seen since value e (Given order old) es is right goes = absurd right
value_goes s h n role seen since value e Read es is right goes = absurd right
value_goes s h n role seen since value e Saved es is right goes = absurd right
value_goes s h n role seen since value e Wrote es is right goes = absurd right
value_goes s h n role seen since value e (Refused entry obstacle) es is right goes = absurd right
value_goes s h n role seen since value e Barred es is right goes = absurd right

ending : (n : ℕ) (cause due : Cause) (h : List Entry) → cause ≡ due → IsEnding n due (record { before = h; entry = End n cause } ∷ [])
ending n cause due h is = (ap (End n) is, refl)

nothing_goes : (n : ℕ) (seen : Option Certificate) (after : Order → Value → Option Call) (does : Act) (cause : Cause) (h : List Entry) → does ≡ Nothing → cause ≡ causes.Nothing
    → IsCourseBy n seen after does (record { before = h; entry = End n cause } ∷ [])
nothing_goes n seen after does cause h nothing is = subst (λ (a : Act). IsCourseBy n seen after a (record { before = h; entry = End n cause } ∷ [])) (sym nothing) (ending n cause causes.Nothing h is)

end_goes : (s : Setting) (h : List Entry) (n : ℕ) (p : OpenPass) (cause : Cause) (stage : Stage) → EndsBy stage (act_of s h p) cause → GoesOn s n p.role p.seen p.since stage (record { before = h; entry = End n cause } ∷ [])
end_goes s h n p cause Fresh ends = nothing_goes n p.seen.certificate (call_after p.role p.seen p.since) (act_of s h p) cause h ends.0 ends.1
end_goes s h n p cause (Asked order) ends = absurd ends
end_goes s h n p cause (Given order value) ends = absurd ends
end_goes s h n p cause Read ends = absurd ends
end_goes s h n p cause Saved ends = absurd ends
end_goes s h n p cause Wrote ends = ending n cause causes.Wrote h ends
end_goes s h n p cause (Refused entry obstacle) ends = ending n cause (causes.Stopper entry) h ends
end_goes s h n p cause Barred ends = absurd ends

-- ---- what is carried along a history

-- the pass is the one that began so, and its course goes on by its stage
record IsOnCourse (s : Setting) (h : List Entry) (n : ℕ) (role : Role) (seen : Views) (now : ℤ) (p : OpenPass) : Type 0 where
  role_is : p.role ≡ role
  saw : p.seen ≡ seen
  began : p.since ≡ now
  goes : (es : List Placed) → GoesOn s n p.role p.seen p.since p.stage es → IsCourse s n p.role p.seen p.since (course_of n h ++ es)

record KeepsCourse (s : Setting) (h : List Entry) (n : ℕ) (role : Role) (seen : Views) (now : ℤ) : Type 0 where
  so_far : IsCourse s n role seen now (course_of n h)
  opened : IfSome (open_pass s h n) (IsOnCourse s h n role seen now)
  numbered : n ≤ begun s h

with_nothing : (es : List Placed) → (es ++ []) ≡ es
with_nothing [] = refl
with_nothing (e ∷ es) = ap (λ (l : List Placed). e ∷ l) (with_nothing es)

one_more : (xs : List Placed) (x : Placed) (ys : List Placed) → ((xs ++ (x ∷ [])) ++ ys) ≡ (xs ++ (x ∷ ys))
one_more [] x ys = refl
one_more (y ∷ xs) x ys = ap (λ (l : List Placed). y ∷ l) (one_more xs x ys)

-- the course so far is one, since a pass may pause at each stage
course_now : (s : Setting) (h : List Entry) (n : ℕ) (role : Role) (seen : Views) (now : ℤ) (p : OpenPass) → IsOnCourse s h n role seen now p → IsCourse s n role seen now (course_of n h)
course_now s h n role seen now p on =
    let here : IsCourse s n p.role p.seen p.since (course_of n h) =
    subst (IsCourse s n p.role p.seen p.since) (with_nothing (course_of n h)) (on.goes [] (pauses s n p.role p.seen p.since p.stage)) in
    subst (λ (r : Role). IsCourse s n r seen now (course_of n h)) on.role_is
    (subst (λ (v : Views). IsCourse s n p.role v now (course_of n h)) on.saw (subst (λ (t : ℤ). IsCourse s n p.role p.seen t (course_of n h)) on.began here))

-- one entry more of the pass
one_entry : (s : Setting) (e : Entry) (h : List Entry) (n : ℕ) (role : Role) (seen : Views) (now : ℤ) (p : OpenPass) (stage : Stage) → is_entry_of n e ≡ true → IsOnCourse s h n role seen now p
    → ((es : List Placed) → GoesOn s n p.role p.seen p.since stage es → GoesOn s n p.role p.seen p.since p.stage (record { before = h; entry = e } ∷ es))
    → IsOnCourse s (e ∷ h) n role seen now (with_stage stage p)
one_entry s e h n role seen now p stage own on next = record {
  role_is = on.role_is;
  saw = on.saw;
  began = on.began;
  goes = λ es goes.
      subst (λ (b : Bool). IsCourse s n p.role p.seen p.since ((if b then course_of n h ++ (record { before = h; entry = e } ∷ []) else course_of n h) ++ es)) (sym own)
      (subst (IsCourse s n p.role p.seen p.since) (sym (one_more (course_of n h) (record { before = h; entry = e }) es)) (on.goes (record { before = h; entry = e } ∷ es) (next es goes)));
}

-- an entry of another
same_course : (e : Entry) (h : List Entry) (n : ℕ) → is_entry_of n e ≡ false → course_of n (e ∷ h) ≡ course_of n h
same_course e h n off = ap (λ (b : Bool). if b then course_of n h ++ (record { before = h; entry = e } ∷ []) else course_of n h) off

still_on : (s : Setting) (e : Entry) (h : List Entry) (n : ℕ) (role : Role) (seen : Views) (now : ℤ) (p : OpenPass) → is_entry_of n e ≡ false → IsOnCourse s h n role seen now p → IsOnCourse s (e ∷ h) n role seen now p
still_on s e h n role seen now p off on = record {
  role_is = on.role_is;
  saw = on.saw;
  began = on.began;
  goes = λ es goes. subst (λ (l : List Placed). IsCourse s n p.role p.seen p.since (l ++ es)) (sym (same_course e h n off)) (on.goes es goes);
}

all_still : (s : Setting) (e : Entry) (h : List Entry) (n : ℕ) (role : Role) (seen : Views) (now : ℤ) (x : Option OpenPass) → is_entry_of n e ≡ false → IfSome x (IsOnCourse s h n role seen now) → IfSome x (IsOnCourse s (e ∷ h) n role seen now)
all_still s e h n role seen now None off on = tt
all_still s e h n role seen now (Some p) off on = still_on s e h n role seen now p off on

still_so : (s : Setting) (e : Entry) (h : List Entry) (n : ℕ) (role : Role) (seen : Views) (now : ℤ) → is_entry_of n e ≡ false → IsCourse s n role seen now (course_of n h) → IsCourse s n role seen now (course_of n (e ∷ h))
still_so s e h n role seen now off so = subst (IsCourse s n role seen now) (sym (same_course e h n off)) so

-- an entry that may be one of the pass, which goes on then
by_entry : (s : Setting) (e : Entry) (h : List Entry) (n m : ℕ) (role : Role) (seen : Views) (now : ℤ) (stage : OpenPass → Stage) → is_entry_of n e ≡ (n == m) → IsOpen (open_pass s h m)
    → ((n == m) ≡ true → (p : OpenPass) → open_pass s h n ≡ Some p → (es : List Placed) → GoesOn s n p.role p.seen p.since (stage p) es → GoesOn s n p.role p.seen p.since p.stage (record { before = h; entry = e } ∷ es))
    → KeepsCourse s h n role seen now → IfSome (gone_on n m stage (open_pass s h n)) (IsOnCourse s (e ∷ h) n role seen now) × IsCourse s n role seen now (course_of n (e ∷ h))
by_entry s e h n m role seen now stage own is_open next keeps = split (n == m) refl where
  after : IfSome (gone_on n m stage (open_pass s h n)) (IsOnCourse s (e ∷ h) n role seen now)
  after =
      over_own_entry (λ p. (open_pass s h n ≡ Some p) × IsOnCourse s h n role seen now p) (IsOnCourse s (e ∷ h) n role seen now) n m stage (open_pass s h n)
      (λ here p on. one_entry s e h n role seen now p (stage p) (own ∙ here) on.1 (next here p on.0))
      (λ there p on. still_on s e h n role seen now p (own ∙ there) on.1)
      (with_equation (IsOnCourse s h n role seen now) (open_pass s h n) keeps.opened)

  there_is : (x : Option OpenPass) → IsOpen x → (p : OpenPass) × (x ≡ Some p)
  there_is None off = absurd off
  there_is (Some p) on = (p, refl)

  split : (b : Bool) → (n == m) ≡ b → IfSome (gone_on n m stage (open_pass s h n)) (IsOnCourse s (e ∷ h) n role seen now) × IsCourse s n role seen now (course_of n (e ∷ h))
  split false there = (after, still_so s e h n role seen now (own ∙ there) keeps.so_far)
  split true here =
      let found = there_is (open_pass s h m) is_open in
      let one : n ≡ m = same_number n m here in
      let opened : open_pass s h n ≡ Some found.0 = ap (open_pass s h) one ∙ found.1 in
      let on : IsOnCourse s h n role seen now found.0 = of_open (IsOnCourse s h n role seen now) (open_pass s h n) found.0 opened keeps.opened in
      (after, course_now s (e ∷ h) n role seen now (with_stage (stage found.0) found.0) (one_entry s e h n role seen now found.0 (stage found.0) (own ∙ here) on (next here found.0 opened)))

by_value : (s : Setting) (e : Entry) (h : List Entry) (n m : ℕ) (role : Role) (seen : Views) (now : ℤ) (value : Value) → is_entry_of n e ≡ (n == m) → GivesValue m value e → IsOpen (open_pass s h m) → MayGive (open_pass s h m) value
    → KeepsCourse s h n role seen now → IfSome (given n m value (open_pass s h n)) (IsOnCourse s (e ∷ h) n role seen now) × IsCourse s n role seen now (course_of n (e ∷ h))
by_value s e h n m role seen now value own is is_open may keeps =
    by_entry s e h n m role seen now (λ (q : OpenPass). stage_given value q.stage) own is_open
    (λ here p opened es goes.
    let one : n ≡ m = same_number n m here in
    let there : open_pass s h m ≡ Some p = ap (open_pass s h) (sym one) ∙ opened in
    value_goes s h n p.role p.seen p.since value e p.stage es (subst (λ (i : ℕ). GivesValue i value e) (sym one) is) (subst (λ (x : Option OpenPass). MayGive x value) there may) goes)
    keeps

by_end : (s : Setting) (h : List Entry) (n m : ℕ) (cause : Cause) (role : Role) (seen : Views) (now : ℤ) → MayEnd s h (open_pass s h m) cause → KeepsCourse s h n role seen now → KeepsCourse s (End m cause ∷ h) n role seen now
by_end s h n m cause role seen now may keeps = split (n == m) refl where
  there_is : (x : Option OpenPass) → MayEnd s h x cause → (p : OpenPass) × (x ≡ Some p)
  there_is None off = absurd off
  there_is (Some p) on = (p, refl)

  split : (b : Bool) → (n == m) ≡ b → KeepsCourse s (End m cause ∷ h) n role seen now
  split false there = record {
    so_far = still_so s (End m cause) h n role seen now there keeps.so_far;
    opened = over_end (IsOnCourse s (End m cause ∷ h) n role seen now) (n == m) (open_pass s h n) (all_still s (End m cause) h n role seen now (open_pass s h n) there keeps.opened);
    numbered = keeps.numbered;
  }
  split true here =
      let found = there_is (open_pass s h m) may in
      let p = found.0 in
      let one : n ≡ m = same_number n m here in
      let opened : open_pass s h n ≡ Some p = ap (open_pass s h) one ∙ found.1 in
      let on : IsOnCourse s h n role seen now p = of_open (IsOnCourse s h n role seen now) (open_pass s h n) p opened keeps.opened in
      let ends : EndsBy p.stage (act_of s h p) cause = subst (λ (x : Option OpenPass). MayEnd s h x cause) found.1 may in
      let last : IsCourse s n p.role p.seen p.since (course_of n h ++ (record { before = h; entry = End n cause } ∷ [])) = on.goes (record { before = h; entry = End n cause } ∷ []) (end_goes s h n p cause p.stage ends) in
      record {
        so_far =
            subst (λ (b : Bool). IsCourse s n role seen now (if b then course_of n h ++ (record { before = h; entry = End m cause } ∷ []) else course_of n h)) (sym here)
            (subst (λ (i : ℕ). IsCourse s n role seen now (course_of n h ++ (record { before = h; entry = End i cause } ∷ []))) one
            (subst (λ (r : Role). IsCourse s n r seen now (course_of n h ++ (record { before = h; entry = End n cause } ∷ []))) on.role_is
            (subst (λ (v : Views). IsCourse s n p.role v now (course_of n h ++ (record { before = h; entry = End n cause } ∷ []))) on.saw
            (subst (λ (t : ℤ). IsCourse s n p.role p.seen t (course_of n h ++ (record { before = h; entry = End n cause } ∷ []))) on.began last))));
        opened = subst (λ (b : Bool). IfSome (if b then None else open_pass s h n) (IsOnCourse s (End m cause ∷ h) n role seen now)) (sym here) tt;
        numbered = keeps.numbered;
      }

by_call : AreSound → (s : Setting) (h : List Entry) (n m : ℕ) (call : Call) (reply : Reply) (role : Role) (seen : Views) (now : ℤ) → IsLegal s h → IsCaused s h → IsReply s.faults (state s h) call reply → IsOpen (open_pass s h m)
    → MayCall s h (open_pass s h m) call → KeepsCourse s h n role seen now → KeepsCourse s (Called (Pass m) call reply ∷ h) n role seen now
by_call sound s h n m call reply role seen now legal caused right is_open may keeps =
    let after = by_entry s (Called (Pass m) call reply) h n m role seen now (stage_after s h call reply) refl is_open
    (λ here p opened es goes.
    let one : n ≡ m = same_number n m here in
    let there : open_pass s h m ≡ Some p = ap (open_pass s h) (sym one) ∙ opened in
    let its : MayCall s h (Some p) call = subst (λ (x : Option OpenPass). MayCall s h x call) there may in
    let saw : SawAll (writes s h) p = of_open (SawAll (writes s h)) (open_pass s h n) p opened (saw_all s h n legal) in
    let come : HasComeTo h n p = of_open (HasComeTo h n) (open_pass s h n) p opened (has_come sound s h n legal caused) in
    subst (λ (i : ℕ). GoesOn s n p.role p.seen p.since p.stage (called_at h i call reply ∷ es)) one
    (call_goes s h n p call reply p.stage es refl (record { within = within_act sound s h p saw; at = next_call sound s h n p call saw come its; may = its; right = right }) goes))
    keeps in
    record { so_far = after.1; opened = after.0; numbered = keeps.numbered }

-- an entry of no pass
by_other : (s : Setting) (e : Entry) (h : List Entry) (n : ℕ) (role : Role) (seen : Views) (now : ℤ) → is_entry_of n e ≡ false → KeepsCourse s h n role seen now
    → IfSome (open_pass s (e ∷ h) n) (IsOnCourse s (e ∷ h) n role seen now) → n ≤ begun s (e ∷ h) → KeepsCourse s (e ∷ h) n role seen now
by_other s e h n role seen now off keeps on numbered = record { so_far = still_so s e h n role seen now off keeps.so_far; opened = on; numbered = numbered }

by_begin : (s : Setting) (h : List Entry) (n pass : ℕ) (role : Role) (key : Key) (at : Positions) (now : ℤ) (r : Role) (seen : Views) (t : ℤ) → pass ≡ begun s h + 1 → KeepsCourse s h n r seen t
    → KeepsCourse s (Begin pass role key at now ∷ h) n r seen t
by_begin s h n pass role key at now r seen t numbered keeps = split (n == pass) refl where
  low : n ≤ begun s h
  low = keeps.numbered

  split : (b : Bool) → (n == pass) ≡ b → KeepsCourse s (Begin pass role key at now ∷ h) n r seen t
  split true here = absurd (let same : n ≡ pass = same_number n pass here in omega (arith, low, numbered, same))
  split false there = record {
    so_far = keeps.so_far;
    opened = subst (λ (b : Bool). IfSome (if b then Some (new_pass role key (views s h role key) now) else open_pass s h n) (IsOnCourse s (Begin pass role key at now ∷ h) n r seen t)) (sym there)
        (all_still s (Begin pass role key at now) h n r seen t (open_pass s h n) refl keeps.opened);
    numbered = omega (arith, low);
  }

-- ---- histories

keeps_on : AreSound → (s : Setting) (l : List Entry) (base : List Entry) (n : ℕ) (role : Role) (seen : Views) (now : ℤ) → IsLegal s (l ++ base) → IsCaused s (l ++ base) → KeepsCourse s base n role seen now → KeepsCourse s (l ++ base) n role seen now
unfolding IsLegal IsCaused
keeps_on sound s [] base n role seen now legal caused keeps = keeps
keeps_on sound s (Called User call reply ∷ l) base n role seen now legal caused keeps =
    let k = keeps_on sound s l base n role seen now legal.1 caused.1 keeps in
    by_other s (Called User call reply) (l ++ base) n role seen now refl k (all_still s (Called User call reply) (l ++ base) n role seen now (open_pass s (l ++ base) n) refl k.opened) k.numbered
keeps_on sound s (Called (Pass m) call reply ∷ l) base n role seen now legal caused keeps =
    by_call sound s (l ++ base) n m call reply role seen now legal.1 caused.1 legal.0.0 legal.0.1 caused.0 (keeps_on sound s l base n role seen now legal.1 caused.1 keeps)
keeps_on sound s (Begin pass r key at t ∷ l) base n role seen now legal caused keeps =
    by_begin s (l ++ base) n pass r key at t role seen now legal.0.numbered (keeps_on sound s l base n role seen now legal.1 caused.1 keeps)
keeps_on sound s (Ask pass order ∷ l) base n role seen now legal caused keeps =
    let h = l ++ base in
    let k = keeps_on sound s l base n role seen now legal.1 caused.1 keeps in
    let after = by_entry s (Ask pass order) h n pass role seen now (λ (q : OpenPass). Asked order) refl legal.0
    (λ here p opened es goes.
    let one : n ≡ pass = same_number n pass here in
    let there : open_pass s h pass ≡ Some p = ap (open_pass s h) (sym one) ∙ opened in
    subst (λ (i : ℕ). GoesOn s n p.role p.seen p.since p.stage (record { before = h; entry = Ask i order } ∷ es)) one
    (ask_goes s h n p order p.stage es (subst (λ (x : Option OpenPass). MayAsk s h x order) there caused.0) goes)) k in
    record { so_far = after.1; opened = after.0; numbered = k.numbered }
keeps_on sound s (Made pass key ∷ l) base n role seen now legal caused keeps =
    let k = keeps_on sound s l base n role seen now legal.1 caused.1 keeps in
    let after = by_value s (Made pass key) (l ++ base) n pass role seen now (values.Made key) refl refl legal.0 caused.0 k in
    record { so_far = after.1; opened = after.0; numbered = k.numbered }
keeps_on sound s (Signed pass signature ∷ l) base n role seen now legal caused keeps =
    let k = keeps_on sound s l base n role seen now legal.1 caused.1 keeps in
    let after = by_value s (Signed pass signature) (l ++ base) n pass role seen now (values.Signed signature) refl refl legal.0 caused.0 k in
    record { so_far = after.1; opened = after.0; numbered = k.numbered }
keeps_on sound s (Answered pass answer ∷ l) base n role seen now legal caused keeps =
    let k = keeps_on sound s l base n role seen now legal.1 caused.1 keeps in
    let after = by_value s (Answered pass answer) (l ++ base) n pass role seen now (values.Answered answer) refl refl legal.0 caused.0 k in
    record { so_far = after.1; opened = after.0; numbered = k.numbered }
keeps_on sound s (Judged pass approved ∷ l) base n role seen now legal caused keeps =
    let k = keeps_on sound s l base n role seen now legal.1 caused.1 keeps in
    let after = by_value s (Judged pass approved) (l ++ base) n pass role seen now (values.Judged approved) refl refl legal.0 caused.0 k in
    record { so_far = after.1; opened = after.0; numbered = k.numbered }
keeps_on sound s (End pass cause ∷ l) base n role seen now legal caused keeps = by_end s (l ++ base) n pass cause role seen now caused.0 (keeps_on sound s l base n role seen now legal.1 caused.1 keeps)
keeps_on sound s (Stop r ∷ l) base n role seen now legal caused keeps =
    let k = keeps_on sound s l base n role seen now legal.1 caused.1 keeps in
    by_other s (Stop r) (l ++ base) n role seen now refl k
    (over_stop (IsOnCourse s (Stop r ∷ (l ++ base)) n role seen now) r (open_pass s (l ++ base) n) (all_still s (Stop r) (l ++ base) n role seen now (open_pass s (l ++ base) n) refl k.opened)) k.numbered
keeps_on sound s (Script step ∷ l) base n role seen now legal caused keeps =
    let k = keeps_on sound s l base n role seen now legal.1 caused.1 keeps in
    by_other s (Script step) (l ++ base) n role seen now refl k (all_still s (Script step) (l ++ base) n role seen now (open_pass s (l ++ base) n) refl k.opened) k.numbered
keeps_on sound s (Deliver r kind to ∷ l) base n role seen now legal caused keeps =
    let k = keeps_on sound s l base n role seen now legal.1 caused.1 keeps in
    by_other s (Deliver r kind to) (l ++ base) n role seen now refl k (all_still s (Deliver r kind to) (l ++ base) n role seen now (open_pass s (l ++ base) n) refl k.opened) k.numbered
keeps_on sound s (Listed r kind to ∷ l) base n role seen now legal caused keeps =
    let k = keeps_on sound s l base n role seen now legal.1 caused.1 keeps in
    by_other s (Listed r kind to) (l ++ base) n role seen now refl k (all_still s (Listed r kind to) (l ++ base) n role seen now (open_pass s (l ++ base) n) refl k.opened) k.numbered
keeps_on sound s (Start r at ∷ l) base n role seen now legal caused keeps =
    let k = keeps_on sound s l base n role seen now legal.1 caused.1 keeps in
    by_other s (Start r at) (l ++ base) n role seen now refl k (all_still s (Start r at) (l ++ base) n role seen now (open_pass s (l ++ base) n) refl k.opened) k.numbered
keeps_on sound s (Tick t ∷ l) base n role seen now legal caused keeps =
    let k = keeps_on sound s l base n role seen now legal.1 caused.1 keeps in
    by_other s (Tick t) (l ++ base) n role seen now refl k (all_still s (Tick t) (l ++ base) n role seen now (open_pass s (l ++ base) n) refl k.opened) k.numbered

-- ---- before its Begin a pass has no entry

not_of_open : (s : Setting) (h : List Entry) (n m : ℕ) → begun s h < n → IsLegal s h → IsOpen (open_pass s h m) → (n == m) ≡ false
not_of_open s h n m less legal is_open = split (n == m) refl where
  split : (b : Bool) → (n == m) ≡ b → b ≡ false
  split false there = refl
  split true here = absurd (subst IsOpen (ap (open_pass s h) (sym (same_number n m here)) ∙ closed_beyond s h n legal less) is_open)

none_before : (s : Setting) (h : List Entry) (n : ℕ) → IsLegal s h → begun s h < n → course_of n h ≡ []
unfolding IsLegal
none_before s [] n legal less = refl
none_before s (Called User call reply ∷ h) n legal less = none_before s h n legal.1 less
none_before s (Called (Pass m) call reply ∷ h) n legal less = same_course (Called (Pass m) call reply) h n (not_of_open s h n m less legal.1 legal.0.1) ∙ none_before s h n legal.1 less
none_before s (Ask m order ∷ h) n legal less = same_course (Ask m order) h n (not_of_open s h n m less legal.1 legal.0) ∙ none_before s h n legal.1 less
none_before s (Made m key ∷ h) n legal less = same_course (Made m key) h n (not_of_open s h n m less legal.1 legal.0) ∙ none_before s h n legal.1 less
none_before s (Signed m signature ∷ h) n legal less = same_course (Signed m signature) h n (not_of_open s h n m less legal.1 legal.0) ∙ none_before s h n legal.1 less
none_before s (Answered m answer ∷ h) n legal less = same_course (Answered m answer) h n (not_of_open s h n m less legal.1 legal.0) ∙ none_before s h n legal.1 less
none_before s (Judged m approved ∷ h) n legal less = same_course (Judged m approved) h n (not_of_open s h n m less legal.1 legal.0) ∙ none_before s h n legal.1 less
none_before s (End m cause ∷ h) n legal less = same_course (End m cause) h n (not_of_open s h n m less legal.1 legal.0) ∙ none_before s h n legal.1 less
none_before s (Begin pass role key at now ∷ h) n legal less = none_before s h n legal.1 (omega (arith, less))
none_before s (other ∷ h) n legal less = none_before s h n legal.1 less

begins : (s : Setting) (h : List Entry) (n : ℕ) (role : Role) (key : Key) (at : Positions) (now : ℤ) → IsLegal s (Begin n role key at now ∷ h) → KeepsCourse s (Begin n role key at now ∷ h) n role (views s h role key) now
unfolding IsLegal
begins s h n role key at now legal =
    let numbered : n ≡ begun s h + 1 = legal.0.numbered in
    let none : course_of n h ≡ [] = none_before s h n legal.1 (omega (arith, numbered)) in
    record {
      so_far = subst (IsCourse s n role (views s h role key) now) (sym none) tt;
      opened = subst (λ (b : Bool). IfSome (if b then Some (new_pass role key (views s h role key) now) else open_pass s h n) (IsOnCourse s (Begin n role key at now ∷ h) n role (views s h role key) now)) (sym (own_number n))
          (record { role_is = refl; saw = refl; began = refl; goes = λ es goes. subst (λ (l : List Placed). IsCourse s n role (views s h role key) now (l ++ es)) (sym none) goes });
      numbered = omega (arith, numbered);
    }

pub have_courses : AreSound → (s : Setting) (h : List Entry) → IsLegal s h → IsCaused s h → HaveCourses s h
have_courses sound s whole legal caused l h n role key at now is =
    let here : IsLegal s (l ++ (Begin n role key at now ∷ h)) = subst (IsLegal s) is legal in
    let keeps = keeps_on sound s l (Begin n role key at now ∷ h) n role (views s h role key) now here (subst (IsCaused s) is caused) (begins s h n role key at now (legal_below s l (Begin n role key at now ∷ h) here)) in
    subst (λ (w : List Entry). IsCourse s n role (views s h role key) now (course_of n w)) (sym is) keeps.so_far
