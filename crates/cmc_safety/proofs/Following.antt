-- Each open pass that waits for no value can go on: a call follows the value that was given, the live read, and the Secret of an issuance.
use Rattle.std.proofs.Common.{◌≡◌, ◌==◌, ℕ, ℤ, ◌+◌, List, [], ◌∷◌, length, Option, Some, Bool, true, false, refl, sym, ap, subst, ◌∙◌}
use Rattle.std.specs.Prelude.{IfSome, IsSome}
use Rattle.cmc_meta.specs.declared.key.Kind.{Kind}
use Rattle.cmc_objects.specs.declared.certificate.Certificate.{Certificate}
use Rattle.cmc_objects.specs.declared.object.Object.{Object}
use Rattle.cmc_objects.specs.declared.call.Call.{Call}
use Rattle.cmc_objects.specs.declared.call.Reply.{Reply}
use Rattle.cmc_objects.specs.declared.call.Reply.TheVariants.{Ok, Unchanged, Found}
use Rattle.cmc_objects.specs.declared.orders.Order.{Order}
use Rattle.cmc_objects.specs.declared.role.Role.{Role}
use Rattle.cmc_objects.specs.declared.role.Role.TheVariants as roles
use Rattle.cmc_objects.specs.declared.entry.Who.TheVariants.{User, Pass}
use Rattle.cmc_objects.specs.declared.entry.Entry.{Entry}
use Rattle.cmc_objects.specs.declared.entry.Entry.TheVariants.{Call as Called, Begin, Ask, Made, Signed, Answered, Judged, End, Stop}
use Rattle.cmc_objects.specs.Objects.{version_of}
use Rattle.cmc_pass.specs.declared.pass.Views.{Views}
use Rattle.cmc_pass.specs.declared.value.Value.{Value}
use Rattle.cmc_pass.specs.declared.value.Value.TheVariants as values
use Rattle.cmc_pass.specs.declared.pass.Act.{Act}
use Rattle.cmc_pass.specs.declared.pass.Act.TheVariants.{Nothing, Call as Calls, Ask as Asks, Issue, Temporary}
use Rattle.cmc_model.specs.Objects.{Objects}
use Rattle.cmc_model.specs.Replies.{IsReply, key_of_call}
use Rattle.cmc_model.specs.Histories.{Setting, state, objects}
use Rattle.cmc_model.specs.Writes.{writes, last_under}
use Rattle.cmc_rules.specs.declared.progress.OpenPass.{OpenPass}
use Rattle.cmc_rules.specs.declared.progress.Stage.{Stage}
use Rattle.cmc_rules.specs.declared.progress.Stage.TheVariants.{Fresh, Asked, Given, Read, Saved, Wrote, Refused, Barred}
use Rattle.cmc_rules.specs.Acts.{call_after}
use Rattle.cmc_rules.specs.Issuance.{issuing}
use Rattle.cmc_rules.specs.Desks.{desk}
use Rattle.cmc_rules.specs.Views.{views}
use Rattle.cmc_rules.specs.Passes.{open_pass, gone_on, is_as_seen, new_pass, stage_read, stage_written, stage_by, stage_after, stage_given, is_temporary_act}
use Rattle.cmc_rules.specs.Legality.{IsLegal}
use Rattle.cmc_rules.specs.Causes.{act_of, after_of, IsNextCall, MayCall, IsCaused}
use Rattle.cmc_rules.specs.Runs.{IsRun}
use Rattle.cmc_rules.specs.Sound.{IsOrdinary, IsWriteAfterValue, IsWithin}
use Rattle.cmc_rules.proofs.Carrying.{over_ask, over_given, over_begin, over_end, over_stop}
use Rattle.cmc_rules.proofs.WellSeen.{SawAll, saw_all}
use Rattle.cmc_safety.proofs.Plans.{act_of_issuing}
use Rattle.cmc_safety.proofs.NextCalls.{IsFollowedAt, ReadsObject, found_is_read, following_call, no_read}
use Rattle.cmc_safety.proofs.Course.{AreSound, of_open, with_equation, over_own_entry, same_number, HasComeTo, has_come, within_act, followed_at, next_call, live_at}

-- ---- what is still to be called

-- the act writes a Secret, and a status behind it
abbrev WritesSecret : Act → Type 0
WritesSecret (Issue plan) = Unit {0}
WritesSecret (Temporary plan) = Unit {0}
WritesSecret other = ⊥

abbrev WritesStatus : Act → Type 0
WritesStatus (Issue plan) = Unit {0}
WritesStatus other = ⊥

-- Behind the live read the act writes a Secret, and behind the Secret a status. Issuing looks at no desk, so this is said of its table alone.
abbrev IsOnItsWay : Stage → Role → Act → Type 0
IsOnItsWay Read role does = (role ≡ roles.Issuing) × WritesSecret does
IsOnItsWay Saved role does = (role ≡ roles.Issuing) × WritesStatus does
IsOnItsWay other role does = Unit {0}

abbrev OnItsWay : OpenPass → Type 0
OnItsWay p = IsOnItsWay p.stage p.role (issuing p.seen p.since)

-- ---- calls

-- a call that reads an object is one of an act that writes a Secret
reads_for : (role : Role) (after : Order → Value → Option Call) (seen : Views) (since : ℤ) (does : Act) (objects : Objects) (call : Call) (o : Object) → IsWithin role after seen since does → ReadsObject objects call o
    → IsNextCall Fresh does after call → WritesSecret does
reads_for role after seen since Nothing objects call o within is next = absurd next
reads_for role after seen since (Calls first) objects call o within is next =
    absurd (no_read (IsOrdinary role since) objects seen first o (subst (λ (k : Call). ReadsObject objects k o) next is) within)
reads_for role after seen since (Asks order) objects call o within is next = absurd next
reads_for role after seen since (Issue plan) objects call o within is next = tt
reads_for role after seen since (Temporary plan) objects call o within is next = tt

secret_for : (does : Act) (after : Order → Value → Option Call) (call : Call) → IsNextCall Read does after call → WritesSecret does
secret_for Nothing after call next = absurd next
secret_for (Calls first) after call next = absurd next
secret_for (Asks order) after call next = absurd next
secret_for (Issue plan) after call next = tt
secret_for (Temporary plan) after call next = tt

status_for : (does : Act) (after : Order → Value → Option Call) (call : Call) → IsNextCall Saved does after call → WritesSecret does
status_for Nothing after call next = absurd next
status_for (Calls first) after call next = absurd next
status_for (Asks order) after call next = absurd next
status_for (Issue plan) after call next = tt
status_for (Temporary plan) after call next = absurd next

reads_at : (stage : Stage) (role : Role) (after : Order → Value → Option Call) (seen : Views) (since : ℤ) (does : Act) (objects : Objects) (call : Call) (o : Object) → IsWithin role after seen since does
    → IsFollowedAt stage role after seen since → ReadsObject objects call o → IsNextCall stage does after call → WritesSecret does
reads_at Fresh role after seen since does objects call o within followed is next = reads_for role after seen since does objects call o within is next
reads_at (Asked order) role after seen since does objects call o within followed is next = absurd next
reads_at (Given order value) role after seen since does objects call o within followed is next =
    absurd (no_read (IsWriteAfterValue role seen since value) objects seen call o is (following_call role after seen since order value call followed next))
reads_at Read role after seen since does objects call o within followed is next = secret_for does after call next
reads_at Saved role after seen since does objects call o within followed is next = status_for does after call next
reads_at Wrote role after seen since does objects call o within followed is next = absurd next
reads_at (Refused entry obstacle) role after seen since does objects call o within followed is next = absurd next
reads_at Barred role after seen since does objects call o within followed is next = absurd next

-- a Secret of a plan that is none of a stand-in certificate is followed by a status
saves_for : (does : Act) → WritesSecret does → is_temporary_act does ≡ false → WritesStatus does
saves_for (Issue plan) writes off = tt
saves_for (Temporary plan) writes off = absurd (cc off)
saves_for other writes off = absurd writes

-- ---- by the reply

written_way : (stand_in : Bool) (stage : Stage) (role : Role) (does : Act) → (stage ≡ Read → stand_in ≡ false → (role ≡ roles.Issuing) × WritesStatus does) → IsOnItsWay (stage_written stand_in stage) role does
written_way true Read role does saves = tt
written_way false Read role does saves = saves refl refl
written_way stand_in Fresh role does saves = tt
written_way stand_in (Asked order) role does saves = tt
written_way stand_in (Given order value) role does saves = tt
written_way stand_in Saved role does saves = tt
written_way stand_in Wrote role does saves = tt
written_way stand_in (Refused entry obstacle) role does saves = tt
written_way stand_in Barred role does saves = tt

read_way : (b : Bool) (entry : ℕ) (kind : Kind) (version : ℕ) (role : Role) (does : Act) → (role ≡ roles.Issuing) × WritesSecret does → IsOnItsWay (stage_read b entry kind version) role does
read_way true entry kind version role does reads = reads
read_way false entry kind version role does reads = tt

replied_way : (c : Option Certificate) (stand_in : Bool) (stage : Stage) (entry : ℕ) (kind : Kind) (last : ℕ) (reply : Reply) (role : Role) (does : Act)
    → (stage ≡ Read → stand_in ≡ false → (role ≡ roles.Issuing) × WritesStatus does) → ((o : Object) → reply ≡ Found o → (role ≡ roles.Issuing) × WritesSecret does)
    → IsOnItsWay (stage_by c stand_in stage entry kind last reply) role does
replied_way c stand_in stage entry kind last (Ok version name) role does saves reads = written_way stand_in stage role does saves
replied_way c stand_in stage entry kind last (Unchanged version) role does saves reads = written_way stand_in stage role does saves
replied_way c stand_in stage entry kind last (Found o) role does saves reads = read_way (is_as_seen c o) entry kind (version_of o) role does (reads o refl)
replied_way c stand_in stage entry kind last other role does saves reads = tt

-- what is known of the pass that calls
record CallsNow (s : Setting) (h : List Entry) (p : OpenPass) (call : Call) : Type 0 where
  saw : SawAll (writes s h) p
  done : (n : ℕ) × HasComeTo h n p
  way : OnItsWay p
  may : MayCall s h (Some p) call

at_read : (stage : Stage) (role : Role) (does : Act) → stage ≡ Read → IsOnItsWay stage role does → (role ≡ roles.Issuing) × WritesSecret does
at_read stage role does is way = subst (λ (t : Stage). IsOnItsWay t role does) is way

called_way : AreSound → (s : Setting) (h : List Entry) (p : OpenPass) (call : Call) (reply : Reply) → IsReply s.faults (state s h) call reply → CallsNow s h p call → IsOnItsWay (stage_after s h call reply p) p.role (issuing p.seen p.since)
called_way sound s h p call reply right k =
    let within = within_act sound s h p k.saw in
    let after = call_after p.role p.seen p.since in
    let its : p.role ≡ roles.Issuing → act_of s h p ≡ issuing p.seen p.since = λ is. act_of_issuing p.role p.seen p.since (desk s h p.role p.seen) is in
    replied_way p.seen.certificate (is_temporary_act (issuing p.seen p.since)) p.stage (length h + 1) (key_of_call call).kind (last_under (key_of_call call) (writes s h)) reply p.role (issuing p.seen p.since)
    (λ read off.
    let reads = at_read p.stage p.role (issuing p.seen p.since) read k.way in (reads.0, saves_for (issuing p.seen p.since) reads.1 off))
    (λ o found.
    let is_read : ReadsObject (objects s h) call o = found_is_read s.faults (state s h) call o (subst (IsReply s.faults (state s h) call) found right) in
    let live = live_at s h p.role p.seen p.since p.stage call o is_read (next_call sound s h k.done.0 p call k.saw k.done.1 k.may) in (
      live.issuing,
      subst WritesSecret (its live.issuing)
          (reads_at p.stage p.role after p.seen p.since (act_of s h p) (objects s h) call o within (followed_at h k.done.0 p.role p.seen p.since p.stage k.done.1) is_read k.may),
    ))

by_call : AreSound → (s : Setting) (h : List Entry) (n m : ℕ) (call : Call) (reply : Reply) → IsLegal s h → IsCaused s h → IsReply s.faults (state s h) call reply → MayCall s h (open_pass s h m) call
    → IfSome (open_pass s h n) OnItsWay → IfSome (gone_on n m (stage_after s h call reply) (open_pass s h n)) OnItsWay
by_call sound s h n m call reply legal caused right may way =
    over_own_entry (λ q. (open_pass s h n ≡ Some q) × OnItsWay q) OnItsWay n m (stage_after s h call reply) (open_pass s h n)
    (λ here q holds.
    let one : n ≡ m = same_number n m here in
    let its : open_pass s h m ≡ Some q = ap (open_pass s h) (sym one) ∙ holds.0 in
    called_way sound s h q call reply right (record {
      saw = of_open (SawAll (writes s h)) (open_pass s h n) q holds.0 (saw_all s h n legal);
      done = (n, of_open (HasComeTo h n) (open_pass s h n) q holds.0 (has_come sound s h n legal caused));
      way = holds.1;
      may = subst (λ (x : Option OpenPass). MayCall s h x call) its may;
    }))
    (λ there q holds. holds.1)
    (with_equation OnItsWay (open_pass s h n) way)

given_way : (value : Value) (stage : Stage) (role : Role) (does : Act) → IsOnItsWay stage role does → IsOnItsWay (stage_given value stage) role does
given_way value (Asked order) role does way = tt
given_way value Fresh role does way = tt
given_way value (Given order old) role does way = tt
given_way value Read role does way = way
given_way value Saved role does way = way
given_way value Wrote role does way = tt
given_way value (Refused entry obstacle) role does way = tt
given_way value Barred role does way = tt

by_value : (s : Setting) (h : List Entry) (n pass : ℕ) (value : Value) → IfSome (open_pass s h n) OnItsWay → IfSome (gone_on n pass (λ (q : OpenPass). stage_given value q.stage) (open_pass s h n)) OnItsWay
by_value s h n pass value way = over_given OnItsWay n pass value (open_pass s h n) (λ q was. given_way value q.stage q.role (issuing q.seen q.since) was) way

on_its_way : AreSound → (s : Setting) (h : List Entry) (n : ℕ) → IsLegal s h → IsCaused s h → IfSome (open_pass s h n) OnItsWay
unfolding IsLegal IsCaused
on_its_way sound s [] n legal caused = tt
on_its_way sound s (Called User call reply ∷ h) n legal caused = on_its_way sound s h n legal.1 caused.1
on_its_way sound s (Called (Pass m) call reply ∷ h) n legal caused = by_call sound s h n m call reply legal.1 caused.1 legal.0.0 caused.0 (on_its_way sound s h n legal.1 caused.1)
on_its_way sound s (Begin pass role key at now ∷ h) n legal caused =
    over_begin OnItsWay (n == pass) (new_pass role key (views s h role key) now) (open_pass s h n) tt (on_its_way sound s h n legal.1 caused.1)
on_its_way sound s (Ask pass order ∷ h) n legal caused = over_ask OnItsWay n pass order (open_pass s h n) (λ q was. tt) (on_its_way sound s h n legal.1 caused.1)
on_its_way sound s (Made pass key ∷ h) n legal caused = by_value s h n pass (values.Made key) (on_its_way sound s h n legal.1 caused.1)
on_its_way sound s (Signed pass signature ∷ h) n legal caused = by_value s h n pass (values.Signed signature) (on_its_way sound s h n legal.1 caused.1)
on_its_way sound s (Answered pass answer ∷ h) n legal caused = by_value s h n pass (values.Answered answer) (on_its_way sound s h n legal.1 caused.1)
on_its_way sound s (Judged pass approved ∷ h) n legal caused = by_value s h n pass (values.Judged approved) (on_its_way sound s h n legal.1 caused.1)
on_its_way sound s (End pass cause ∷ h) n legal caused = over_end OnItsWay (n == pass) (open_pass s h n) (on_its_way sound s h n legal.1 caused.1)
on_its_way sound s (Stop role ∷ h) n legal caused = over_stop OnItsWay role (open_pass s h n) (on_its_way sound s h n legal.1 caused.1)
on_its_way sound s (other ∷ h) n legal caused = on_its_way sound s h n legal.1 caused.1

-- ---- what an open pass of a run may do

open_way : AreSound → (s : Setting) (h : List Entry) (n : ℕ) (p : OpenPass) → IsRun s h → open_pass s h n ≡ Some p → OnItsWay p
open_way sound s h n p run opened = of_open OnItsWay (open_pass s h n) p opened (on_its_way sound s h n run.legal run.caused)

-- a call follows the value that was given
pub follows_value : AreSound → (s : Setting) (h : List Entry) (n : ℕ) (p : OpenPass) (order : Order) (value : Value) → IsRun s h → open_pass s h n ≡ Some p → p.stage ≡ Given order value
    → (call : Call) × (call_after p.role p.seen p.since order value ≡ Some call)
follows_value sound s h n p order value run opened is =
    let come : HasComeTo h n p = of_open (HasComeTo h n) (open_pass s h n) p opened (has_come sound s h n run.legal run.caused) in
    let followed = subst (λ (t : Stage). IsFollowedAt t p.role (call_after p.role p.seen p.since) p.seen p.since) is (followed_at h n p.role p.seen p.since p.stage come) in
    (followed.call, followed.follows)

some_of : {A : Type 0} (x : Option A) (a : A) → x ≡ Some a → IsSome x
some_of x a is = rw is refl

pub has_following : AreSound → (s : Setting) (h : List Entry) (n : ℕ) (p : OpenPass) (order : Order) (value : Value) → IsRun s h → open_pass s h n ≡ Some p → p.stage ≡ Given order value
    → IsSome (call_after p.role p.seen p.since order value)
has_following sound s h n p order value run opened is =
    let follows = follows_value sound s h n p order value run opened is in some_of (call_after p.role p.seen p.since order value) follows.0 follows.1

secret_next : (does : Act) (after : Order → Value → Option Call) → WritesSecret does → (call : Call) × IsNextCall Read does after call
secret_next Nothing after is = absurd is
secret_next (Calls first) after is = absurd is
secret_next (Asks order) after is = absurd is
secret_next (Issue plan) after is = (plan.secret, refl)
secret_next (Temporary plan) after is = (plan.secret, refl)

status_next : (does : Act) (after : Order → Value → Option Call) → WritesStatus does → (call : Call) × IsNextCall Saved does after call
status_next Nothing after is = absurd is
status_next (Calls first) after is = absurd is
status_next (Asks order) after is = absurd is
status_next (Issue plan) after is = (plan.status, refl)
status_next (Temporary plan) after is = absurd is

-- the Secret follows the live read
pub follows_read : AreSound → (s : Setting) (h : List Entry) (n : ℕ) (p : OpenPass) → IsRun s h → open_pass s h n ≡ Some p → p.stage ≡ Read → (call : Call) × IsNextCall Read (act_of s h p) (after_of p) call
follows_read sound s h n p run opened is =
    let way = subst (λ (t : Stage). IsOnItsWay t p.role (issuing p.seen p.since)) is (open_way sound s h n p run opened) in
    secret_next (act_of s h p) (after_of p) (subst WritesSecret (sym (act_of_issuing p.role p.seen p.since (desk s h p.role p.seen) way.0)) way.1)

-- and the status the Secret of an issuance
pub follows_secret : AreSound → (s : Setting) (h : List Entry) (n : ℕ) (p : OpenPass) → IsRun s h → open_pass s h n ≡ Some p → p.stage ≡ Saved → (call : Call) × IsNextCall Saved (act_of s h p) (after_of p) call
follows_secret sound s h n p run opened is =
    let way = subst (λ (t : Stage). IsOnItsWay t p.role (issuing p.seen p.since)) is (open_way sound s h n p run opened) in
    status_next (act_of s h p) (after_of p) (subst WritesStatus (sym (act_of_issuing p.role p.seen p.since (desk s h p.role p.seen) way.0)) way.1)
