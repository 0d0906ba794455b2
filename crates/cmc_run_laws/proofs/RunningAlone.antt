-- In a plain run of a calm script a pass runs alone, sees what there is to see until it writes, and is answered by it.
use Rattle.std.proofs.Common.{◌≡◌, ◌==◌, ℕ, ℤ, ◌+◌, ◌<◌, ◌≤◌, ◌^◌, List, [], ◌∷◌, length, Option, Some, None, Bool, true, false, refl, sym, ap, subst, ◌∙◌, inl, inr, arith}
use Rattle.std.proofs.lemmas.Bool.Decides.{nat_tests}
use Rattle.std.specs.Prelude.{if◌then◌else◌, option_map, nat_le}
use Rattle.cmc_meta.specs.declared.key.Key.{Key}
use Rattle.cmc_meta.specs.declared.key.Kind.{Kind}
use Rattle.cmc_objects.specs.declared.certificate.Certificate.{Certificate}
use Rattle.cmc_objects.specs.declared.object.Object.{Object}
use Rattle.cmc_objects.specs.declared.object.Object.TheVariants.{Cert}
use Rattle.cmc_objects.specs.declared.orders.Order.{Order}
use Rattle.cmc_objects.specs.declared.call.Call.{Call}
use Rattle.cmc_objects.specs.declared.call.Call.TheVariants.{Create, Update, UpdateStatus, Delete, Get}
use Rattle.cmc_objects.specs.declared.call.Reply.{Reply}
use Rattle.cmc_objects.specs.declared.call.Reply.TheVariants.{Ok, Unchanged, Found, Conflict, NotFound, AlreadyExists, Invalid, Unavailable}
use Rattle.cmc_objects.specs.declared.role.Role.{Role}
use Rattle.cmc_objects.specs.declared.role.Role.TheVariants as roles
use Rattle.cmc_objects.specs.declared.entry.Cause.{Cause}
use Rattle.cmc_objects.specs.declared.entry.Positions.{Positions}
use Rattle.cmc_objects.specs.declared.entry.Who.TheVariants.{User, Pass}
use Rattle.cmc_objects.specs.declared.entry.Entry.{Entry}
use Rattle.cmc_objects.specs.declared.entry.Entry.TheVariants.{Script, Call as Called, Deliver, List as Listed, Begin, Ask, Made, Signed, Answered, Judged, End, Stop, Start, Tick}
use Rattle.cmc_objects.specs.Objects.{key_of, version_of}
use Rattle.cmc_objects.specs.Informers.{looks_at_secret}
use Rattle.cmc_pass.specs.declared.pass.Views.{Views}
use Rattle.cmc_pass.specs.declared.pass.Act.{Act}
use Rattle.cmc_pass.specs.declared.value.Value.{Value}
use Rattle.cmc_pass.specs.declared.value.Value.TheVariants as values
use Rattle.cmc_model.specs.Histories.{Setting, state, objects, accepted, moment}
use Rattle.cmc_model.specs.Writes.{writes, last_under}
use Rattle.cmc_model.specs.Objects.{object_at}
use Rattle.cmc_model.specs.Replies.{IsReply, key_of_call}
use Rattle.cmc_rules.specs.declared.effect.Effect.{Effect}
use Rattle.cmc_rules.specs.declared.effect.Effect.TheVariants as effects
use Rattle.cmc_rules.specs.declared.progress.OpenPass.{OpenPass}
use Rattle.cmc_rules.specs.declared.progress.Stage.{Stage}
use Rattle.cmc_rules.specs.declared.progress.Stage.TheVariants.{Fresh, Asked, Given, Read, Saved, Wrote, Refused, Barred}
use Rattle.cmc_rules.specs.Views.{views, present_views}
use Rattle.cmc_rules.specs.Acts.{call_after}
use Rattle.cmc_rules.specs.Desks.{desk}
use Rattle.cmc_rules.specs.Issuance.{issuing}
use Rattle.cmc_rules.specs.Origins.{begun}
use Rattle.cmc_rules.specs.Positions.{position, positions}
use Rattle.cmc_rules.specs.Passes.{open_pass, gone_on, is_as_seen, new_pass, stage_after, stage_by, stage_given, stage_read, stage_written, is_temporary_act, unless_of, with_stage}
use Rattle.cmc_rules.specs.Legality.{IsLegal, IsOpen}
use Rattle.cmc_rules.specs.Causes.{act_of, after_of, AsksBy, IsCaused, IsGivenBy, IsNextCall, IsSecretCall, MayAsk, MayCall, MayGive}
use Rattle.cmc_rules.specs.Runs.{IsRun}
use Rattle.cmc_rules.specs.Scripts.{scripted}
use Rattle.cmc_rules.specs.Safety.{IsStatusUpdate}
use Rattle.cmc_rules.specs.SeenObjects.{IsPart, OnSeen}
use Rattle.cmc_rules.specs.Sound.{IsWriteAfterValue, IsMarked, IsOrdinary, IsRaiseOf, IsSigned, IsWithin, WritesTarget}
use Rattle.cmc_rules.proofs.Positions.{accepted_short}
use Rattle.cmc_safety.proofs.Course.{within_act}
use Rattle.cmc_safety.proofs.InProgress.{caller_of}
use Rattle.cmc_safety.proofs.NextCalls.{IsCallAt, found_is_read, no_read}
use Rattle.cmc_safety.proofs.Plans.{act_of_issuing}
use Rattle.cmc_moves.proofs.Sounds.{each_sound}
use Rattle.cmc_store_laws.specs.Names.{AreNamesFree}
use Rattle.cmc_moves.specs.Answers.{GrowsBy, next_effect, value_entry}
use Rattle.cmc_moves.specs.declared.moves.Move.{Move}
use Rattle.cmc_moves.specs.declared.moves.Move.TheVariants as moves
use Rattle.cmc_kernel.proofs.Newest.{views_newest}
use Rattle.cmc_kernel.specs.Plain.{HasNoScript}
use Rattle.cmc_world.specs.Histories.{IsOfCourse, IsPlainStep, LeadsPlainly, IsPlain}
use Rattle.cmc_world.proofs.Determined.{is_run}
use Rattle.cmc_waits.proofs.Finishing.{closed, told}
use Rattle.cmc_run_laws.specs.Calm.{is_before_writes, is_calm, RunsAlone, IsCalmReply, HasCalmReplies}
use Rattle.cmc_run_laws.proofs.CalmNames.{IsUnnamed, first_is_unnamed, following_is_unnamed}
use Rattle.cmc_run_laws.proofs.CalmReplies.{AreFreeNames, IsNewName, calm_read, calm_status, calm_write}
use Rattle.cmc_run_laws.proofs.CalmScripts.{none_is_held, none_is_ready}
use Rattle.cmc_run_laws.proofs.CalmTargets.{IsTargetWrite, leaves_certificates, new_target_name, target_write}
use Rattle.cmc_run_laws.proofs.CalmViews.{StandsSeen, stands_seen}

-- ---- a pass that is open

-- what the pass saw is what there is to see
abbrev pub Sees : Setting → List Entry → OpenPass → Type 0
Sees s h p = p.seen ≡ present_views s h p.role p.key

all_alone : (m n : ℕ) (h : List Entry) → RunsAlone m h → RunsAlone n h → m ≡ n
all_alone m n [] a b = absurd a
all_alone m n (Begin pass role key at now ∷ h) a b = a ∙ sym b
all_alone m n (Script step ∷ h) a b = absurd (cc a.0)
all_alone m n (Called who call reply ∷ h) a b = all_alone m n h a.1 b.1
all_alone m n (Deliver role kind to ∷ h) a b = absurd (cc a.0)
all_alone m n (Listed role kind to ∷ h) a b = absurd (cc a.0)
all_alone m n (Ask pass order ∷ h) a b = all_alone m n h a.1 b.1
all_alone m n (Made pass key ∷ h) a b = all_alone m n h a.1 b.1
all_alone m n (Signed pass signature ∷ h) a b = all_alone m n h a.1 b.1
all_alone m n (Answered pass answer ∷ h) a b = all_alone m n h a.1 b.1
all_alone m n (Judged pass approved ∷ h) a b = all_alone m n h a.1 b.1
all_alone m n (End pass cause ∷ h) a b = all_alone m n h a.1 b.1
all_alone m n (Stop role ∷ h) a b = absurd (cc a.0)
all_alone m n (Start role at ∷ h) a b = absurd (cc a.0)
all_alone m n (Tick now ∷ h) a b = absurd (cc a.0)

-- after the Secret of an issuance, the Certificate that the pass saw stands
abbrev KeepsCertificate : Setting → List Entry → OpenPass → Type 0
KeepsCertificate s h p = (c : Certificate) → p.seen.certificate ≡ Some c → object_at (objects s h) (key_of (Cert c)) ≡ Some (Cert c)

-- what a pass that has come to this stage may rely on
abbrev pub SeesAt : Setting → List Entry → OpenPass → Stage → Type 0
SeesAt s h p Fresh = Sees s h p
SeesAt s h p (Asked order) = Sees s h p
SeesAt s h p (Given order value) = Sees s h p
SeesAt s h p Read = Sees s h p
SeesAt s h p Saved = KeepsCertificate s h p
SeesAt s h p other = Unit {0}

pub record IsCalmPass (s : Setting) (h : List Entry) (n : ℕ) (p : OpenPass) : Type 0 where
  pub alone : RunsAlone n h
  pub sees : SeesAt s h p p.stage

pub record AreCalm (s : Setting) (h : List Entry) : Type 0 where
  pub passes : (n : ℕ) (p : OpenPass) → open_pass s h n ≡ Some p → IsCalmPass s h n p
  pub still : (n : ℕ) (p : OpenPass) → open_pass s h n ≡ Some p → HasNoScript s h
  pub replies : HasCalmReplies h

-- ---- where none is open

pub none_calm : (s : Setting) (h : List Entry) → ((n : ℕ) → open_pass s h n ≡ None) → HasCalmReplies h → AreCalm s h
none_calm s h none replies = record {
  passes = λ n p is. absurd (cc (none n, is));
  still = λ n p is. absurd (cc (none n, is));
  replies = replies;
}

pub shut_by : (x : Option OpenPass) → ((p : OpenPass) → x ≡ Some p → ⊥) → x ≡ None
shut_by None none = refl
shut_by (Some p) none = absurd (none p refl)

effect_calm : (s : Setting) (g : List Entry) (effect : Option Effect) (k : List Entry) → ((n : ℕ) → open_pass s g n ≡ None) → HasCalmReplies g → GrowsBy s g effect k → AreCalm s k
effect_calm s g None k none replies same = subst (AreCalm s) (sym same) (none_calm s g none replies)
effect_calm s g (Some (effects.Call call)) k none replies (e, (reply, right, is), same) =
    subst (AreCalm s) (sym (same ∙ ap (λ (x : Entry). x ∷ g) is)) (none_calm s (Called User call reply ∷ g) none replies)
effect_calm s g (Some (effects.Tick now)) k none replies (e, is, same) =
    subst (AreCalm s) (sym (same ∙ ap (λ (x : Entry). x ∷ g) is)) (none_calm s (Tick now ∷ g) none replies)
effect_calm s g (Some (effects.Stop role)) k none replies (e, is, same) =
    subst (AreCalm s) (sym (same ∙ ap (λ (x : Entry). x ∷ g) is)) (none_calm s (Stop role ∷ g) (λ n. ap (unless_of role) (none n)) replies)
effect_calm s g (Some (effects.Start role at)) k none replies (e, is, same) =
    subst (AreCalm s) (sym (same ∙ ap (λ (x : Entry). x ∷ g) is)) (none_calm s (Start role at ∷ g) none replies)

told_calm : (b : Bool) (s : Setting) (h : List Entry) (role : Role) (kind : Kind) (to at : ℕ) → ((n : ℕ) → open_pass s h n ≡ None) → HasCalmReplies h
    → AreCalm s ((if b then Deliver role kind to else Listed role kind at) ∷ h)
told_calm true s h role kind to at none replies = none_calm s (Deliver role kind to ∷ h) none replies
told_calm false s h role kind to at none replies = none_calm s (Listed role kind at ∷ h) none replies

-- ---- a pass begins

begun_pass : (b : Bool) (s : Setting) (h : List Entry) (n pass : ℕ) (role : Role) (key : Key) (at : Positions) (now : ℤ) (p : OpenPass) → (n == pass) ≡ b → open_pass s h n ≡ None
    → views s h role key ≡ present_views s h role key → (if b then Some (new_pass role key (views s h role key) now) else open_pass s h n) ≡ Some p → IsCalmPass s (Begin pass role key at now ∷ h) n p
begun_pass true s h n pass role key at now p e none sees is =
    let same : new_pass role key (views s h role key) now ≡ p = cc is in
    subst (IsCalmPass s (Begin pass role key at now ∷ h) n) same (record { alone = grind (arith, nat_tests); sees = sees })
begun_pass false s h n pass role key at now p e none sees is = absurd (cc (none, is))

begin_calm : (s : Setting) (h : List Entry) (pass : ℕ) (role : Role) (key : Key) (at : Positions) (now : ℤ) → is_calm s.script ≡ true → ((n : ℕ) → open_pass s h n ≡ None) → HasNoScript s h → HasCalmReplies h
    → views s h role key ≡ present_views s h role key → AreCalm s (Begin pass role key at now ∷ h)
begin_calm s h pass role key at now calm none still replies sees = record {
  passes = λ n p is. begun_pass (n == pass) s h n pass role key at now p refl (none n) sees is;
  still = λ n p is. none_is_ready s h (Begin pass role key at now ∷ h) calm refl (λ rest. absurd (cc (rest.closed n, is))) still;
  replies = replies;
}

-- ---- a pass goes on

gone_pass : (b : Bool) (s : Setting) (h : List Entry) (m n : ℕ) (f : OpenPass → Stage) (q p : OpenPass) → (m == n) ≡ b → AreCalm s h → open_pass s h n ≡ Some q
    → (if b then option_map (λ (o : OpenPass). with_stage (f o) o) (open_pass s h m) else open_pass s h m) ≡ Some p → (m ≡ n) × (with_stage (f q) q ≡ p)
gone_pass true s h m n f q p e calm is opened =
    let own : m ≡ n = grind (arith, nat_tests) in
    let there : open_pass s h m ≡ Some q = subst (λ (i : ℕ). open_pass s h i ≡ Some q) (sym own) is in
    let gone : Some (with_stage (f q) q) ≡ Some p = sym (ap (option_map (λ (o : OpenPass). with_stage (f o) o)) there) ∙ opened in
    (own, cc gone)
gone_pass false s h m n f q p e calm is opened =
    let own : m ≡ n = all_alone m n h (calm.passes m p opened).alone (calm.passes n q is).alone in
    absurd (grind (arith, nat_tests))

gone_calm : (s : Setting) (h : List Entry) (n : ℕ) (q : OpenPass) (e : Entry) (f : OpenPass → Stage) → is_calm s.script ≡ true → AreCalm s h → open_pass s h n ≡ Some q
    → ((m : ℕ) → open_pass s (e ∷ h) m ≡ gone_on m n f (open_pass s h m)) → ((m : ℕ) → (m == n) ≡ true → RunsAlone m h → RunsAlone m (e ∷ h)) → scripted (e ∷ h) ≡ scripted h
    → HasCalmReplies (e ∷ h) → SeesAt s (e ∷ h) (with_stage (f q) q) (f q) → AreCalm s (e ∷ h)
gone_calm s h n q e f script calm is form alone steps replies sees = record {
  passes = λ m p opened.
      let gone = gone_pass (m == n) s h m n f q p refl calm is (sym (form m) ∙ opened) in
      let at_n : IsCalmPass s (e ∷ h) n (with_stage (f q) q) = record { alone = alone n (own n) (calm.passes n q is).alone; sees = sees } in
      subst (IsCalmPass s (e ∷ h) m) gone.1 (subst (λ (i : ℕ). IsCalmPass s (e ∷ h) i (with_stage (f q) q)) (sym gone.0) at_n);
  still = λ m p opened. none_is_ready s h (e ∷ h) script steps (λ rest. absurd (cc (rest.closed m, opened))) (calm.still n q is);
  replies = replies;
} where
  own : (i : ℕ) → (i == i) ≡ true
  own i = grind (arith, nat_tests)

ended_pass : (b : Bool) (s : Setting) (h : List Entry) (m n : ℕ) (q p : OpenPass) → (m == n) ≡ b → AreCalm s h → open_pass s h n ≡ Some q → (if b then None else open_pass s h m) ≡ Some p → ⊥
ended_pass true s h m n q p e calm is opened = cc opened
ended_pass false s h m n q p e calm is opened =
    let own : m ≡ n = all_alone m n h (calm.passes m p opened).alone (calm.passes n q is).alone in
    grind (arith, nat_tests)

end_calm : (s : Setting) (h : List Entry) (n : ℕ) (q : OpenPass) (cause : Cause) → AreCalm s h → open_pass s h n ≡ Some q → AreCalm s (End n cause ∷ h)
end_calm s h n q cause calm is =
    none_calm s (End n cause ∷ h) (λ m. shut_by (open_pass s (End n cause ∷ h) m) (λ p opened. ended_pass (m == n) s h m n q p refl calm is opened)) calm.replies

-- ---- questions and values

asked_sees : (s : Setting) (h : List Entry) (q : OpenPass) (stage : Stage) (does : Act) (order : Order) → AsksBy stage does order → SeesAt s h q stage → Sees s h q
asked_sees s h q Fresh does order asks sees = sees
asked_sees s h q other does order asks sees = absurd asks

ask_calm : (s : Setting) (h : List Entry) (n : ℕ) (q : OpenPass) (order : Order) → is_calm s.script ≡ true → AreCalm s h → open_pass s h n ≡ Some q → MayAsk s h (open_pass s h n) order → AreCalm s (Ask n order ∷ h)
ask_calm s h n q order script calm is may =
    let asks : AsksBy q.stage (act_of s h q) order = subst (λ (x : Option OpenPass). MayAsk s h x order) is may in
    gone_calm s h n q (Ask n order) (λ o. Asked order) script calm is (λ m. refl) (λ m own alone. (own, alone)) refl calm.replies
    (asked_sees s h q q.stage (act_of s h q) order asks (calm.passes n q is).sees)

given_sees : (s : Setting) (h : List Entry) (q : OpenPass) (stage : Stage) (value : Value) → IsGivenBy stage value → SeesAt s h q stage → SeesAt s h q (stage_given value stage)
given_sees s h q (Asked order) value gives sees = sees
given_sees s h q other value gives sees = absurd gives

value_calm : (s : Setting) (h : List Entry) (n : ℕ) (q : OpenPass) (value : Value) → is_calm s.script ≡ true → AreCalm s h → open_pass s h n ≡ Some q → MayGive (open_pass s h n) value → AreCalm s (value_entry n value ∷ h)
value_calm s h n q (values.Made key) script calm is may =
    gone_calm s h n q (Made n key) (λ o. stage_given (values.Made key) o.stage) script calm is (λ m. refl) (λ m own alone. (own, alone)) refl calm.replies
    (given_sees s h q q.stage (values.Made key) (subst (λ (x : Option OpenPass). MayGive x (values.Made key)) is may) (calm.passes n q is).sees)
value_calm s h n q (values.Signed signature) script calm is may =
    gone_calm s h n q (Signed n signature) (λ o. stage_given (values.Signed signature) o.stage) script calm is (λ m. refl) (λ m own alone. (own, alone)) refl calm.replies
    (given_sees s h q q.stage (values.Signed signature) (subst (λ (x : Option OpenPass). MayGive x (values.Signed signature)) is may) (calm.passes n q is).sees)
value_calm s h n q (values.Answered answer) script calm is may =
    gone_calm s h n q (Answered n answer) (λ o. stage_given (values.Answered answer) o.stage) script calm is (λ m. refl) (λ m own alone. (own, alone)) refl calm.replies
    (given_sees s h q q.stage (values.Answered answer) (subst (λ (x : Option OpenPass). MayGive x (values.Answered answer)) is may) (calm.passes n q is).sees)
value_calm s h n q (values.Judged approved) script calm is may =
    gone_calm s h n q (Judged n approved) (λ o. stage_given (values.Judged approved) o.stage) script calm is (λ m. refl) (λ m own alone. (own, alone)) refl calm.replies
    (given_sees s h q q.stage (values.Judged approved) (subst (λ (x : Option OpenPass). MayGive x (values.Judged approved)) is may) (calm.passes n q is).sees)

-- ---- calls

-- the object of the call that issuing makes after its live read, and what a role may look at
role_looks : (role : Role) → role ≡ roles.Issuing → looks_at_secret role ≡ true
role_looks role is = ap looks_at_secret is

pub saw_certificate : (s : Setting) (h : List Entry) (seen : Views) (c : Certificate) → seen.certificate ≡ Some c → StandsSeen s h seen → object_at (objects s h) (key_of (Cert c)) ≡ Some (Cert c)
saw_certificate s h seen c sees stands = stands (Cert c) (inl (subst (λ (x : Option Certificate). IsPart Cert x (Cert c)) (sym sees) refl))

new_name : (s : Setting) (h : List Entry) (call : Call) → IsUnnamed call → IsNewName s h call
new_name s h (Create object false) is = absurd is
new_name s h (Create object true) is = tt
new_name s h (Update object named) is = tt
new_name s h (UpdateStatus object named) is = tt
new_name s h (Delete key named) is = tt
new_name s h (Get key) is = tt

issuing_now : (s : Setting) (h : List Entry) (q : OpenPass) → q.role ≡ roles.Issuing → act_of s h q ≡ issuing q.seen q.since
issuing_now s h q is = act_of_issuing q.role q.seen q.since (desk s h q.role q.seen) is

role_at_read : (role : Role) (seen : Views) (since : ℤ) (call : Call) → IsCallAt Read role seen since call → role ≡ roles.Issuing
role_at_read role seen since call (inl at) = at.issues.issuing
role_at_read role seen since call (inr at) = at.stands_in.issuing

written_at : (s : Setting) (h : List Entry) (q : OpenPass) (call : Call) → IsCallAt Read q.role q.seen q.since call → IsNextCall Read (act_of s h q) (after_of q) call → IsTargetWrite q.seen call
written_at s h q call at next =
    target_write q.seen q.since call (subst (λ (a : Act). IsSecretCall a call) (issuing_now s h q (role_at_read q.role q.seen q.since call at)) next)

-- the reply to a call of a pass, by how far the pass has come
reply_calm : (s : Setting) (h : List Entry) (q : OpenPass) (stage : Stage) (call : Call) (reply : Reply) → IsLegal s h → AreFreeNames s h → IsWithin q.role (call_after q.role q.seen q.since) q.seen q.since (act_of s h q)
    → IsNextCall stage (act_of s h q) (after_of q) call → IsCallAt stage q.role q.seen q.since call → SeesAt s h q stage → IsReply s.faults (state s h) call reply → IsCalmReply reply
reply_calm s h q Fresh call reply legal free within next (inl on) sees right =
    calm_write (IsOrdinary q.role q.since) s h q.seen call reply free (stands_seen s h q.role q.key q.seen legal sees)
    (new_name s h call (first_is_unnamed q.role q.seen q.since (desk s h q.role q.seen) call within next)) on right
reply_calm s h q Fresh call reply legal free within next (inr live) sees right =
    calm_read s h (key_of (Cert live.certificate)) (Cert live.certificate) reply (saw_certificate s h q.seen live.certificate live.sees (stands_seen s h q.role q.key q.seen legal sees))
    (subst (λ (c : Call). IsReply s.faults (state s h) c reply) live.get right)
reply_calm s h q (Asked order) call reply legal free within next at sees right = absurd next
reply_calm s h q (Given order value) call reply legal free within next on sees right =
    calm_write (IsWriteAfterValue q.role q.seen q.since value) s h q.seen call reply free (stands_seen s h q.role q.key q.seen legal sees)
    (new_name s h call (following_is_unnamed q.role q.seen q.since order value call on next)) on right
reply_calm s h q Read call reply legal free within next (inl at) sees right =
    calm_write (WritesTarget q.role q.since (IsSigned at.issues.certificate at.issues.request at.issues.file)) s h q.seen call reply free (stands_seen s h q.role q.key q.seen legal sees)
    (new_target_name s h q.role q.key q.seen call legal (role_looks q.role at.issues.issuing) sees (written_at s h q call (inl at) next))
    (subst (OnSeen (WritesTarget q.role q.since (IsSigned at.issues.certificate at.issues.request at.issues.file)) q.seen) (sym at.planned) at.issues.secret) right
reply_calm s h q Read call reply legal free within next (inr at) sees right =
    calm_write (WritesTarget q.role q.since (IsMarked at.stands_in.certificate at.stands_in.request at.stands_in.file q.since)) s h q.seen call reply free (stands_seen s h q.role q.key q.seen legal sees)
    (new_target_name s h q.role q.key q.seen call legal (role_looks q.role at.stands_in.issuing) sees (written_at s h q call (inr at) next))
    (subst (OnSeen (WritesTarget q.role q.since (IsMarked at.stands_in.certificate at.stands_in.request at.stands_in.file q.since)) q.seen) (sym at.planned) at.stands_in.secret) right
reply_calm s h q Saved call reply legal free within next at sees right =
    let plan = at.plan in
    calm_status s h q.seen q.since at.issues.certificate call reply (subst IsStatusUpdate (sym at.planned) at.issues.is_status)
    (subst (OnSeen (IsRaiseOf at.issues.certificate q.since) q.seen) (sym at.planned) at.issues.status) (sees at.issues.certificate at.issues.prepared.sees) right
reply_calm s h q Wrote call reply legal free within next at sees right = absurd next
reply_calm s h q (Refused entry obstacle) call reply legal free within next at sees right = absurd next
reply_calm s h q Barred call reply legal free within next at sees right = absurd next

-- ---- what a call leaves

pub unread : (s : Setting) (h : List Entry) (q : OpenPass) (call : Call) (o : Object) → IsCallAt Saved q.role q.seen q.since call → IsReply s.faults (state s h) call (Found o) → ⊥
unread s h q call o at right =
    no_read (IsRaiseOf at.issues.certificate q.since) (objects s h) q.seen call o (found_is_read s.faults (state s h) call o right)
    (subst (OnSeen (IsRaiseOf at.issues.certificate q.since) q.seen) (sym at.planned) at.issues.status)

found_sees : (s : Setting) (h k : List Entry) (q : OpenPass) (stage : Stage) (does : Act) (after : Order → Value → Option Call) (call : Call) (b : Bool) (entry : ℕ) (kind : Kind) (version : ℕ)
    → (stage ≡ Saved → ⊥) → IsNextCall stage does after call → (Sees s h q → Sees s k q) → SeesAt s h q stage → SeesAt s k q (stage_read b entry kind version)
found_sees s h k q stage does after call false entry kind version unsaved next keeps sees = tt
found_sees s h k q Fresh does after call true entry kind version unsaved next keeps sees = keeps sees
found_sees s h k q (Asked order) does after call true entry kind version unsaved next keeps sees = keeps sees
found_sees s h k q (Given order value) does after call true entry kind version unsaved next keeps sees = keeps sees
found_sees s h k q Read does after call true entry kind version unsaved next keeps sees = keeps sees
found_sees s h k q Saved does after call true entry kind version unsaved next keeps sees = absurd (unsaved refl)
found_sees s h k q Wrote does after call true entry kind version unsaved next keeps sees = absurd next
found_sees s h k q (Refused old obstacle) does after call true entry kind version unsaved next keeps sees = absurd next
found_sees s h k q Barred does after call true entry kind version unsaved next keeps sees = absurd next

written_sees : (s : Setting) (k : List Entry) (q : OpenPass) (stand_in : Bool) (stage : Stage) → (stage ≡ Read → KeepsCertificate s k q) → SeesAt s k q (stage_written stand_in stage)
written_sees s k q true Read keeps = tt
written_sees s k q false Read keeps = keeps refl
written_sees s k q stand_in Fresh keeps = tt
written_sees s k q stand_in (Asked order) keeps = tt
written_sees s k q stand_in (Given order value) keeps = tt
written_sees s k q stand_in Saved keeps = tt
written_sees s k q stand_in Wrote keeps = tt
written_sees s k q stand_in (Refused entry obstacle) keeps = tt
written_sees s k q stand_in Barred keeps = tt

call_sees : (s : Setting) (h : List Entry) (n : ℕ) (q : OpenPass) (stage : Stage) (call : Call) (reply : Reply) (stand_in : Bool) (entry : ℕ) (kind : Kind) (last : ℕ) → IsLegal s h
    → IsNextCall stage (act_of s h q) (after_of q) call → IsCallAt stage q.role q.seen q.since call → SeesAt s h q stage → IsReply s.faults (state s h) call reply
    → SeesAt s (Called (Pass n) call reply ∷ h) q (stage_by q.seen.certificate stand_in stage entry kind last reply)
call_sees s h n q stage call (Ok version name) stand_in entry kind last legal next at sees right =
    written_sees s (Called (Pass n) call (Ok version name) ∷ h) q stand_in stage
    (λ is c there.
    let before : Sees s h q = subst (SeesAt s h q) is sees in
    let write = written_at s h q call (subst (λ (t : Stage). IsCallAt t q.role q.seen q.since call) is at) (subst (λ (t : Stage). IsNextCall t (act_of s h q) (after_of q) call) is next) in
    leaves_certificates (objects s h) q.seen call (Ok version name) _ c write ∙ saw_certificate s h q.seen c there (stands_seen s h q.role q.key q.seen legal before))
call_sees s h n q stage call (Unchanged version) stand_in entry kind last legal next at sees right =
    written_sees s (Called (Pass n) call (Unchanged version) ∷ h) q stand_in stage
    (λ is c there. saw_certificate s h q.seen c there (stands_seen s h q.role q.key q.seen legal (subst (SeesAt s h q) is sees)))
call_sees s h n q stage call (Found o) stand_in entry kind last legal next at sees right =
    found_sees s h (Called (Pass n) call (Found o) ∷ h) q stage (act_of s h q) (after_of q) call (is_as_seen q.seen.certificate o) entry kind (version_of o)
    (λ is. unread s h q call o (subst (λ (t : Stage). IsCallAt t q.role q.seen q.since call) is at) right) next (λ same. same) sees
call_sees s h n q stage call (Conflict named have) stand_in entry kind last legal next at sees right = tt
call_sees s h n q stage call (NotFound found) stand_in entry kind last legal next at sees right = tt
call_sees s h n q stage call (AlreadyExists have) stand_in entry kind last legal next at sees right = tt
call_sees s h n q stage call (Invalid rule) stand_in entry kind last legal next at sees right = tt
call_sees s h n q stage call (Unavailable number) stand_in entry kind last legal next at sees right = tt

call_calm : (s : Setting) (h : List Entry) (n : ℕ) (call : Call) (reply : Reply) → is_calm s.script ≡ true → IsLegal s h → IsCaused s h → AreFreeNames s h → AreCalm s h → MayCall s h (open_pass s h n) call
    → IsReply s.faults (state s h) call reply → AreCalm s (Called (Pass n) call reply ∷ h)
call_calm s h n call reply script legal caused free calm may right =
    let c = caller_of each_sound s h n call legal caused may in
    let q = c.pass in
    let next : IsNextCall q.stage (act_of s h q) (after_of q) call = subst (λ (x : Option OpenPass). MayCall s h x call) c.opened may in
    let sees = (calm.passes n q c.opened).sees in
    gone_calm s h n q (Called (Pass n) call reply) (stage_after s h call reply) script calm c.opened (λ m. refl) (λ m own alone. (own, alone)) refl
    (reply_calm s h q q.stage call reply legal free (within_act each_sound s h q c.saw) next c.at sees right, calm.replies)
    (call_sees s h n q q.stage call reply (is_temporary_act (issuing q.seen q.since)) (length h + 1) (key_of_call call).kind (last_under (key_of_call call) (writes s h)) legal next c.at sees right)

-- ---- all moves

open_one : (s : Setting) (h : List Entry) (n : ℕ) (x : Option OpenPass) → open_pass s h n ≡ x → IsOpen x → (q : OpenPass) × (open_pass s h n ≡ Some q)
open_one s h n None is on = absurd on
open_one s h n (Some q) is on = (q, is)

course_calm : (s : Setting) (h : List Entry) (n : ℕ) (q : OpenPass) (e : Entry) → is_calm s.script ≡ true → IsLegal s h → IsCaused s h → AreFreeNames s h → AreCalm s h → open_pass s h n ≡ Some q
    → IsOfCourse s h n e → AreCalm s (e ∷ h)
course_calm s h n q e script legal caused free calm opened (inl (inl (call, may, (reply, right, is)))) =
    subst (λ (x : Entry). AreCalm s (x ∷ h)) (sym is) (call_calm s h n call reply script legal caused free calm may right)
course_calm s h n q e script legal caused free calm opened (inl (inr (cause, may, is))) = subst (λ (x : Entry). AreCalm s (x ∷ h)) (sym is) (end_calm s h n q cause calm opened)
course_calm s h n q e script legal caused free calm opened (inr (inl (order, may, is))) = subst (λ (x : Entry). AreCalm s (x ∷ h)) (sym is) (ask_calm s h n q order script calm opened may)
course_calm s h n q e script legal caused free calm opened (inr (inr (value, may, is))) = subst (λ (x : Entry). AreCalm s (x ∷ h)) (sym is) (value_calm s h n q value script calm opened may)

pub step_calm : (s : Setting) (h : List Entry) (move : Move) (k : List Entry) → is_calm s.script ≡ true → IsLegal s h → IsCaused s h → AreFreeNames s h → AreCalm s h → IsPlainStep s h move k → AreCalm s k
step_calm s h moves.Script k script legal caused free calm step =
    effect_calm s (Script (scripted h + 1) ∷ h) (next_effect s h) k (λ n. shut_by (open_pass s h n) (λ p is. calm.still n p is step.plain.1)) calm.replies step.grows
step_calm s h (moves.Deliver role kind to) k script legal caused free calm step =
    let none = closed s h step.plain.1.1 in
    subst (AreCalm s) (sym step.grows) (told_calm (nat_le (accepted s h) (position h role kind + s.window)) s h role kind to (accepted s h) none calm.replies)
step_calm s h (moves.Begin role key) k script legal caused free calm step =
    let none = closed s h step.plain.1.1 in
    let fits = step.plain.1.3.fits in
    subst (AreCalm s) (sym step.grows)
    (begin_calm s h (begun s h + 1) role key (positions h role) (moment s h) script none step.plain.1.0 calm.replies
    (views_newest s h role key legal (λ kind informed. told s h step.plain.1.2 role kind fits.may.running informed (none_is_held s h role kind script))))
step_calm s h (moves.Next n named) k script legal caused free calm step =
    let opened = open_one s h n (open_pass s h n) refl step.plain.1.1.stands in
    subst (AreCalm s) (sym step.grows.2) (course_calm s h n opened.0 step.grows.0 script legal caused free calm opened.1 step.grows.1)
step_calm s h (moves.Give n named given) k script legal caused free calm step = absurd step.plain.1
step_calm s h (moves.Decide n named d) k script legal caused free calm step = absurd step.plain.1

-- each history has free names enough: it has fewer entries than there are numbers
abbrev pub NamesAreFree : Setting → Type 0
NamesAreFree s = (h : List Entry) → AreNamesFree s h

-- the law of generated names
abbrev pub NamesLaw : Type 0
NamesLaw = (s : Setting) (h : List Entry) → AreNamesFree s h

pub free_names : (s : Setting) (h : List Entry) → NamesAreFree s → s.events < 2 ^ 64 → length h ≤ s.events → AreFreeNames s h
free_names s h free room short object reply right = free h (omega (arith, accepted_short s h, short, room)) object reply right

led_calm : (s : Setting) (ms : List Move) (h k : List Entry) → is_calm s.script ≡ true → NamesAreFree s → s.events < 2 ^ 64 → IsRun s h → AreCalm s h → LeadsPlainly s ms h k → AreCalm s k
led_calm s [] h k script free room run calm same = subst (AreCalm s) (sym same) calm
led_calm s (move ∷ ms) h k script free room run calm (g, step, rest) =
    led_calm s ms g k script free room step.run (step_calm s h move g script run.legal run.caused (free_names s h free room run.short) calm step) rest

plain_is_calm : (s : Setting) (h : List Entry) → is_calm s.script ≡ true → NamesAreFree s → s.events < 2 ^ 64 → IsPlain s h → AreCalm s h
plain_is_calm s h script free room (ms, led) = led_calm s ms [] h script free room (is_run s [] ([], refl)) (none_calm s [] (λ n. refl) tt) led

-- ---- the law

sees_before : (s : Setting) (h : List Entry) (p : OpenPass) (stage : Stage) → is_before_writes stage ≡ true → SeesAt s h p stage → Sees s h p
sees_before s h p Fresh before sees = sees
sees_before s h p (Asked order) before sees = sees
sees_before s h p (Given order value) before sees = sees
sees_before s h p Read before sees = sees
sees_before s h p Saved before sees = absurd (cc before)
sees_before s h p Wrote before sees = absurd (cc before)
sees_before s h p (Refused entry obstacle) before sees = absurd (cc before)
sees_before s h p Barred before sees = absurd (cc before)

pub alone : NamesLaw → (s : Setting) (h : List Entry) → IsPlain s h → is_calm s.script ≡ true → s.events < 2 ^ 64 → (n : ℕ) (p : OpenPass) → open_pass s h n ≡ Some p → RunsAlone n h
alone free s h plain script room n p is = ((plain_is_calm s h script (free s) room plain).passes n p is).alone

pub sees : NamesLaw → (s : Setting) (h : List Entry) → IsPlain s h → is_calm s.script ≡ true → s.events < 2 ^ 64 → (n : ℕ) (p : OpenPass) → open_pass s h n ≡ Some p → is_before_writes p.stage ≡ true
    → p.seen ≡ present_views s h p.role p.key
sees free s h plain script room n p is before = sees_before s h p p.stage before ((plain_is_calm s h script (free s) room plain).passes n p is).sees

pub served : NamesLaw → (s : Setting) (h : List Entry) → IsPlain s h → is_calm s.script ≡ true → s.events < 2 ^ 64 → HasCalmReplies h
served free s h plain script room = (plain_is_calm s h script (free s) room plain).replies
