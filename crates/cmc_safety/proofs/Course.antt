-- What stands in the history of an open pass, by how far it has come.
use Rattle.std.proofs.Common.{◌≡◌, ◌==◌, ℕ, ℤ, ◌+◌, List, [], ◌∷◌, length, Option, Some, None, Bool, true, false, refl, sym, ap, subst, ◌∙◌, inl, inr}
use Rattle.std.proofs.lemmas.Bool.Decides.{Decides-eqb}
use Rattle.std.specs.Prelude.{◌≢◌, ◌⊎◌, if◌then◌else◌, option_map, IfSome}
use Rattle.cmc_meta.specs.declared.key.Kind.{Kind}
use Rattle.cmc_objects.specs.declared.certificate.Certificate.{Certificate}
use Rattle.cmc_objects.specs.declared.object.Object.{Object}
use Rattle.cmc_objects.specs.declared.object.Object.TheVariants.{Cert}
use Rattle.cmc_objects.specs.declared.call.Call.{Call}
use Rattle.cmc_objects.specs.declared.call.Call.TheVariants.{Get}
use Rattle.cmc_objects.specs.declared.call.Reply.{Reply}
use Rattle.cmc_objects.specs.declared.call.Reply.TheVariants.{Ok, Unchanged, Found, Conflict, NotFound, AlreadyExists, Invalid, Unavailable}
use Rattle.cmc_objects.specs.declared.orders.Order.{Order}
use Rattle.cmc_objects.specs.declared.role.Role.{Role}
use Rattle.cmc_objects.specs.declared.entry.Who.TheVariants.{User, Pass}
use Rattle.cmc_objects.specs.declared.entry.Entry.{Entry}
use Rattle.cmc_objects.specs.declared.entry.Entry.TheVariants.{Script, Call as Called, Deliver, List as Listed, Begin, Ask, Made, Signed, Answered, Judged, End, Stop, Start, Tick}
use Rattle.cmc_objects.specs.Objects.{key_of, version_of}
use Rattle.cmc_pass.specs.Values.{IsValue}
use Rattle.cmc_pass.specs.declared.value.Value.{Value}
use Rattle.cmc_pass.specs.declared.value.Value.TheVariants as values
use Rattle.cmc_pass.specs.declared.pass.Views.{Views}
use Rattle.cmc_pass.specs.declared.pass.Act.{Act}
use Rattle.cmc_pass.specs.declared.pass.Act.TheVariants.{Nothing, Call as Calls, Ask as Asks, Issue, Temporary}
use Rattle.cmc_model.specs.Replies.{IsReply, key_of_call}
use Rattle.cmc_model.specs.Histories.{Setting, state, objects}
use Rattle.cmc_model.specs.Writes.{writes, last_under}
use Rattle.cmc_rules.specs.declared.progress.OpenPass.{OpenPass}
use Rattle.cmc_rules.specs.declared.progress.Stage.{Stage}
use Rattle.cmc_rules.specs.declared.progress.Stage.TheVariants.{Fresh, Asked, Given, Read, Saved, Wrote, Refused, Barred}
use Rattle.cmc_rules.specs.Acts.{call_after}
use Rattle.cmc_rules.specs.Issuance.{issuing}
use Rattle.cmc_rules.specs.Desks.{desk}
use Rattle.cmc_rules.specs.Views.{views}
use Rattle.cmc_rules.specs.Passes.{open_pass, asking, given, gone_on, is_as_seen, is_temporary_act, writes_temporary, stage_read, stage_written, stage_by, stage_after, stage_given, new_pass, with_stage}
use Rattle.cmc_rules.specs.Legality.{IsLegal}
use Rattle.cmc_rules.specs.Causes.{act_of, after_of, IsNextCall, IsSecretCall, MayCall, IsCaused, IsAsked, AsksBy, MayAsk, IsGivenBy, MayGive}
use Rattle.cmc_rules.specs.Safety.{HasEntry, LastAsks, IsLiveRead, IsSecretWrite, IsServedReply, IsSecretSaved}
use Rattle.cmc_rules.specs.Sound.{IsOrdinary, IsWriteAfterValue, WritesTarget, IsSigned, IsMarked, IsRaiseOf, IsQuestion, IsFollowed, IsWithin, IsSound}
use Rattle.cmc_rules.proofs.Carrying.{over_begin, over_end, over_stop}
use Rattle.cmc_rules.proofs.Sights.{seen_certificate}
use Rattle.cmc_rules.proofs.Sighted.{AreKnown, stands_as_seen}
use Rattle.cmc_rules.proofs.WellSeen.{SawAll, saw_all}
use Rattle.cmc_safety.specs.Courses.{GivesValue}
use Rattle.cmc_safety.proofs.Plans.{act_of_issuing}
use Rattle.cmc_safety.proofs.NextCalls.{IsLiveCall, IsCallAt, IsFollowedAt, ReadsObject, call_at, found_is_read, no_read, marked_by}

-- the tables of all roles are sound
abbrev pub AreSound : Type 0
AreSound = (role : Role) → IsSound role

-- ---- an open pass

pub of_open : (P : OpenPass → Type 0) (x : Option OpenPass) (p : OpenPass) → x ≡ Some p → IfSome x P → P p
of_open P x p is holds = subst (λ (y : Option OpenPass). IfSome y P) is holds

-- with what holds of it
pub with_equation : (P : OpenPass → Type 0) (x : Option OpenPass) → IfSome x P → IfSome x (λ q. (x ≡ Some q) × P q)
with_equation P None holds = tt
with_equation P (Some p) holds = (refl, holds)

entry_by : (P Q : OpenPass → Type 0) (own : Bool) (stage : OpenPass → Stage) (x : Option OpenPass) → (own ≡ true → (q : OpenPass) → P q → Q (with_stage (stage q) q))
    → (own ≡ false → (q : OpenPass) → P q → Q q) → IfSome x P → IfSome (if own then option_map (λ (q : OpenPass). with_stage (stage q) q) x else x) Q
entry_by P Q true stage None here there holds = tt
entry_by P Q true stage (Some p) here there holds = here refl p holds
entry_by P Q false stage None here there holds = tt
entry_by P Q false stage (Some p) here there holds = there refl p holds

-- an entry of the pass of number m, for the pass of number n
pub over_own_entry : (P Q : OpenPass → Type 0) (n m : ℕ) (stage : OpenPass → Stage) (x : Option OpenPass) → ((n == m) ≡ true → (q : OpenPass) → P q → Q (with_stage (stage q) q))
    → ((n == m) ≡ false → (q : OpenPass) → P q → Q q) → IfSome x P → IfSome (gone_on n m stage x) Q
over_own_entry P Q n m stage x here there holds = entry_by P Q (n == m) stage x here there holds

pub same_number : (n m : ℕ) → (n == m) ≡ true → n ≡ m
same_number n m is = (Decides-eqb n m).0 is

-- ---- what has happened

-- it is the last question of the pass and the role's, and a call follows each right value of it
pub record HasAsked (h : List Entry) (pass : ℕ) (role : Role) (seen : Views) (since : ℤ) (order : Order) : Type 0 where
  pub asked : LastAsks pass (λ o. o ≡ order) h
  pub question : IsQuestion role seen order
  pub followed : (value : Value) → IsValue order value → IsFollowed role (call_after role seen since) seen since order value

-- the value was given when the last question of the pass was one of these
abbrev pub IsGivenOn : ℕ → (Order → Type 0) → Value → List Entry → Type 0
IsGivenOn pass P value [] = ⊥
IsGivenOn pass P value (e ∷ h) = (GivesValue pass value e × LastAsks pass P h) ⊎ IsGivenOn pass P value h

pub record HasValue (h : List Entry) (pass : ℕ) (role : Role) (seen : Views) (since : ℤ) (order : Order) (value : Value) : Type 0 where
  pub question : IsQuestion role seen order
  pub followed : IsFollowed role (call_after role seen since) seen since order value
  pub given : IsGivenOn pass (λ o. o ≡ order) value h
  pub right : IsValue order value

pub record HasReadLive (h : List Entry) (pass : ℕ) (seen : Views) : Type 0 where
  pub certificate : Certificate
  pub sees : seen.certificate ≡ Some certificate
  pub read : HasEntry (IsLiveRead pass certificate) h

abbrev pub HasCome : List Entry → ℕ → Role → Views → ℤ → Stage → Type 0
HasCome h pass role seen since Fresh = Unit {0}
HasCome h pass role seen since (Asked order) = HasAsked h pass role seen since order
HasCome h pass role seen since (Given order value) = HasValue h pass role seen since order value
HasCome h pass role seen since Read = HasReadLive h pass seen
HasCome h pass role seen since Saved = HasEntry (IsSecretSaved pass) h
HasCome h pass role seen since Wrote = Unit {0}
HasCome h pass role seen since (Refused entry obstacle) = Unit {0}
HasCome h pass role seen since Barred = Unit {0}

abbrev pub HasComeTo : List Entry → ℕ → OpenPass → Type 0
HasComeTo h pass p = HasCome h pass p.role p.seen p.since p.stage

-- the entry is no question of the pass
abbrev pub IsNoAskOf : ℕ → Entry → Type 0
IsNoAskOf pass (Ask m order) = m ≢ pass
IsNoAskOf pass other = Unit {0}

last_more : (pass : ℕ) (P : Order → Type 0) (e : Entry) (h : List Entry) → IsNoAskOf pass e → LastAsks pass P h → LastAsks pass P (e ∷ h)
last_more pass P (Ask m order) h off has = inr (off, has)
last_more pass P other h off has = has

asked_more : (e : Entry) (h : List Entry) (pass : ℕ) (role : Role) (seen : Views) (since : ℤ) (order : Order) → IsNoAskOf pass e → HasAsked h pass role seen since order → HasAsked (e ∷ h) pass role seen since order
asked_more e h pass role seen since order off has = record { asked = last_more pass (λ o. o ≡ order) e h off has.asked; question = has.question; followed = has.followed }

come_more : (e : Entry) (h : List Entry) (pass : ℕ) (role : Role) (seen : Views) (since : ℤ) (stage : Stage) → IsNoAskOf pass e → HasCome h pass role seen since stage → HasCome (e ∷ h) pass role seen since stage
come_more e h pass role seen since Fresh off has = has
come_more e h pass role seen since (Asked order) off has = asked_more e h pass role seen since order off has
come_more e h pass role seen since (Given order value) off has = record { question = has.question; followed = has.followed; given = inr has.given; right = has.right }
come_more e h pass role seen since Read off has = record { certificate = has.certificate; sees = has.sees; read = inr has.read }
come_more e h pass role seen since Saved off has = inr has
come_more e h pass role seen since Wrote off has = has
come_more e h pass role seen since (Refused entry obstacle) off has = has
come_more e h pass role seen since Barred off has = has

so_more : (e : Entry) (h : List Entry) (n : ℕ) (q : OpenPass) → IsNoAskOf n e → HasComeTo h n q → HasComeTo (e ∷ h) n q
so_more e h n q off has = come_more e h n q.role q.seen q.since q.stage off has

come_longer : (e : Entry) (h : List Entry) (n : ℕ) (x : Option OpenPass) → IsNoAskOf n e → IfSome x (HasComeTo h n) → IfSome x (HasComeTo (e ∷ h) n)
come_longer e h n None off has = tt
come_longer e h n (Some p) off has = so_more e h n p off has

other_number : (n m : ℕ) → (n == m) ≡ false → m ≢ n
other_number n m off same = absurd (let on : (n == m) ≡ true = (Decides-eqb n m).1 (sym same) in cc (off, on))

no_ask_given : (n pass : ℕ) (value : Value) (e : Entry) → GivesValue pass value e → IsNoAskOf n e
no_ask_given n pass (values.Made key) e is = subst (IsNoAskOf n) (sym is) tt
no_ask_given n pass (values.Signed signature) e is = subst (IsNoAskOf n) (sym is) tt
no_ask_given n pass (values.Answered answer) e is = subst (IsNoAskOf n) (sym is) tt
no_ask_given n pass (values.Judged approved) e is = subst (IsNoAskOf n) (sym is) tt

-- ---- the act of a pass, and its next call

pub within_act : AreSound → (s : Setting) (h : List Entry) (p : OpenPass) → SawAll (writes s h) p → IsWithin p.role (call_after p.role p.seen p.since) p.seen p.since (act_of s h p)
within_act sound s h p saw = (sound p.role).within p.seen p.since (desk s h p.role p.seen) saw.well

pub followed_at : (h : List Entry) (pass : ℕ) (role : Role) (seen : Views) (since : ℤ) (stage : Stage) → HasCome h pass role seen since stage → IsFollowedAt stage role (call_after role seen since) seen since
followed_at h pass role seen since (Given order value) has = has.followed
followed_at h pass role seen since other has = tt

pub next_call : AreSound → (s : Setting) (h : List Entry) (n : ℕ) (p : OpenPass) (call : Call) → SawAll (writes s h) p → HasComeTo h n p → MayCall s h (Some p) call → IsCallAt p.stage p.role p.seen p.since call
next_call sound s h n p call saw has may =
    call_at p.stage p.role (call_after p.role p.seen p.since) p.seen p.since (act_of s h p) call (within_act sound s h p saw) (followed_at h n p.role p.seen p.since p.stage has) may

-- after the live read the Secret has a mark exactly where the plan is one of a stand-in certificate
pub marked_as_planned : AreSound → (s : Setting) (h : List Entry) (p : OpenPass) (call : Call) → SawAll (writes s h) p → MayCall s h (Some p) call → p.stage ≡ Read → writes_temporary call ≡ is_temporary_act (issuing p.seen p.since)
marked_as_planned sound s h p call saw may read =
    let next : IsSecretCall (act_of s h p) call = subst (λ (t : Stage). IsNextCall t (act_of s h p) (after_of p) call) read may in
    let is = marked_by p.role (call_after p.role p.seen p.since) p.seen p.since (act_of s h p) call (within_act sound s h p saw) next in
    is.1 ∙ ap is_temporary_act (act_of_issuing p.role p.seen p.since (desk s h p.role p.seen) is.0)

-- ---- a question and its value

asked_by : (h : List Entry) (pass : ℕ) (role : Role) (seen : Views) (since : ℤ) (does : Act) (order : Order) → LastAsks pass (λ o. o ≡ order) h → IsWithin role (call_after role seen since) seen since does → IsAsked does order
    → HasAsked h pass role seen since order
asked_by h pass role seen since Nothing order stands within is = absurd is
asked_by h pass role seen since (Calls call) order stands within is = absurd is
asked_by h pass role seen since (Asks asked) order stands within is = record {
  asked = stands;
  question = subst (IsQuestion role seen) (sym is) within.0;
  followed = subst (λ (o : Order). (value : Value) → IsValue o value → IsFollowed role (call_after role seen since) seen since o value) (sym is) within.1;
}
asked_by h pass role seen since (Issue plan) order stands within is = absurd is
asked_by h pass role seen since (Temporary plan) order stands within is = absurd is

asked_at : (h : List Entry) (pass : ℕ) (role : Role) (seen : Views) (since : ℤ) (stage : Stage) (does : Act) (order : Order) → LastAsks pass (λ o. o ≡ order) h → IsWithin role (call_after role seen since) seen since does
    → AsksBy stage does order → HasAsked h pass role seen since order
asked_at h pass role seen since Fresh does order stands within is = asked_by h pass role seen since does order stands within is
asked_at h pass role seen since (Asked asked) does order stands within is = absurd is
asked_at h pass role seen since (Given asked value) does order stands within is = absurd is
asked_at h pass role seen since Read does order stands within is = absurd is
asked_at h pass role seen since Saved does order stands within is = absurd is
asked_at h pass role seen since Wrote does order stands within is = absurd is
asked_at h pass role seen since (Refused entry obstacle) does order stands within is = absurd is
asked_at h pass role seen since Barred does order stands within is = absurd is

-- what a pass asks, in the history with the question
pub question_of : AreSound → (s : Setting) (h : List Entry) (n : ℕ) (q : OpenPass) (order : Order) → SawAll (writes s h) q → MayAsk s h (Some q) order → HasAsked (Ask n order ∷ h) n q.role q.seen q.since order
question_of sound s h n q order saw may = asked_at (Ask n order ∷ h) n q.role q.seen q.since q.stage (act_of s h q) order (inl (refl, refl)) (within_act sound s h q saw) may

come_asking : AreSound → (s : Setting) (h : List Entry) (n pass : ℕ) (order : Order) → IsLegal s h → MayAsk s h (open_pass s h pass) order → IfSome (open_pass s h n) (HasComeTo h n)
    → IfSome (asking n pass order (open_pass s h n)) (HasComeTo (Ask pass order ∷ h) n)
come_asking sound s h n pass order legal may has =
    over_own_entry (λ q. (open_pass s h n ≡ Some q) × HasComeTo h n q) (HasComeTo (Ask pass order ∷ h) n) n pass (λ (q : OpenPass). Asked order) (open_pass s h n)
    (λ here q holds.
    let one : n ≡ pass = same_number n pass here in
    let its : open_pass s h pass ≡ Some q = ap (open_pass s h) (sym one) ∙ holds.0 in
    let saw : SawAll (writes s h) q = of_open (SawAll (writes s h)) (open_pass s h n) q holds.0 (saw_all s h n legal) in
    subst (λ (m : ℕ). HasAsked (Ask m order ∷ h) n q.role q.seen q.since order) one (question_of sound s h n q order saw (subst (λ (x : Option OpenPass). MayAsk s h x order) its may)))
    (λ there q holds. so_more (Ask pass order) h n q (other_number n pass there) holds.1)
    (with_equation (HasComeTo h n) (open_pass s h n) has)

given_at : (e : Entry) (h : List Entry) (n : ℕ) (value : Value) (role : Role) (seen : Views) (since : ℤ) (stage : Stage) → GivesValue n value e → IsGivenBy stage value → HasCome h n role seen since stage
    → HasCome (e ∷ h) n role seen since (stage_given value stage)
given_at e h n value role seen since Fresh is may has = absurd may
given_at e h n value role seen since (Asked order) is may has = record { question = has.question; followed = has.followed value may; given = inl (is, has.asked); right = may }
given_at e h n value role seen since (Given order old) is may has = absurd may
given_at e h n value role seen since Read is may has = absurd may
given_at e h n value role seen since Saved is may has = absurd may
given_at e h n value role seen since Wrote is may has = absurd may
given_at e h n value role seen since (Refused entry obstacle) is may has = absurd may
given_at e h n value role seen since Barred is may has = absurd may

come_giving : (s : Setting) (e : Entry) (h : List Entry) (n pass : ℕ) (value : Value) → GivesValue pass value e → MayGive (open_pass s h pass) value → IfSome (open_pass s h n) (HasComeTo h n)
    → IfSome (given n pass value (open_pass s h n)) (HasComeTo (e ∷ h) n)
come_giving s e h n pass value is may has =
    over_own_entry (λ q. (open_pass s h n ≡ Some q) × HasComeTo h n q) (HasComeTo (e ∷ h) n) n pass (λ (q : OpenPass). stage_given value q.stage) (open_pass s h n)
    (λ here q holds.
    let one : n ≡ pass = same_number n pass here in
    let its : open_pass s h pass ≡ Some q = ap (open_pass s h) (sym one) ∙ holds.0 in
    given_at e h n value q.role q.seen q.since q.stage (subst (λ (m : ℕ). GivesValue m value e) (sym one) is) (subst (λ (x : Option OpenPass). MayGive x value) its may) holds.1)
    (λ there q holds. so_more e h n q (no_ask_given n pass value e is) holds.1)
    (with_equation (HasComeTo h n) (open_pass s h n) has)

-- ---- calls

as_seen_version : (seen : Option Certificate) (c : Certificate) (o : Object) → seen ≡ Some c → is_as_seen seen o ≡ true → version_of o ≡ c.meta.version
as_seen_version None c o sees same = absurd (cc sees)
as_seen_version (Some d) c o sees same =
    let one : d ≡ c = cc sees in
    (Decides-eqb (version_of o) d.meta.version).0 same ∙ ap (λ (x : Certificate). x.meta.version) one

-- what a live read found at the version that was seen is what was seen
pub live_object : (s : Setting) (h : List Entry) (role : Role) (seen : Views) (call : Call) (o : Object) → IsLegal s h → AreKnown (writes s h) seen → (live : IsLiveCall role seen call) → ReadsObject (objects s h) call o
    → is_as_seen seen.certificate o ≡ true → Cert live.certificate ≡ o
live_object s h role seen call o legal known live is same =
    let c = live.certificate in
    stands_as_seen s h seen (key_of (Cert c)) c.meta.version (Cert c) o legal known (seen_certificate seen c live.sees) refl
    (subst (λ (k : Call). ReadsObject (objects s h) k o) live.get is) (as_seen_version seen.certificate c o live.sees same)

-- the call that read an object is the live read
pub live_at : (s : Setting) (h : List Entry) (role : Role) (seen : Views) (since : ℤ) (stage : Stage) (call : Call) (o : Object) → ReadsObject (objects s h) call o → IsCallAt stage role seen since call → IsLiveCall role seen call
live_at s h role seen since Fresh call o is (inl on) = absurd (no_read (IsOrdinary role since) (objects s h) seen call o is on)
live_at s h role seen since Fresh call o is (inr live) = live
live_at s h role seen since (Asked order) call o is at = absurd at
live_at s h role seen since (Given order value) call o is at = absurd (no_read (IsWriteAfterValue role seen since value) (objects s h) seen call o is at)
live_at s h role seen since Read call o is (inl at) =
    absurd (no_read (WritesTarget role since (IsSigned at.issues.certificate at.issues.request at.issues.file)) (objects s h) seen at.plan.secret o
    (subst (λ (k : Call). ReadsObject (objects s h) k o) at.planned is) at.issues.secret)
live_at s h role seen since Read call o is (inr at) =
    absurd (no_read (WritesTarget role since (IsMarked at.stands_in.certificate at.stands_in.request at.stands_in.file since)) (objects s h) seen at.plan.secret o
    (subst (λ (k : Call). ReadsObject (objects s h) k o) at.planned is) at.stands_in.secret)
live_at s h role seen since Saved call o is at =
    absurd (no_read (IsRaiseOf at.issues.certificate since) (objects s h) seen at.plan.status o (subst (λ (k : Call). ReadsObject (objects s h) k o) at.planned is) at.issues.status)
live_at s h role seen since Wrote call o is at = absurd at
live_at s h role seen since (Refused entry obstacle) call o is at = absurd at
live_at s h role seen since Barred call o is at = absurd at

-- what is saved without the mark is the Secret of an issuance
saves_secret : (role : Role) (seen : Views) (since : ℤ) (call : Call) → IsCallAt Read role seen since call → writes_temporary call ≡ false → IsSecretWrite call
saves_secret role seen since call (inl at) off = subst IsSecretWrite (sym at.planned) at.issues.is_secret
saves_secret role seen since call (inr at) off =
    absurd (let on : writes_temporary call ≡ true = ap writes_temporary at.planned ∙ at.stands_in.is_marked in cc (off, on))

come_written : (e : Entry) (h : List Entry) (n : ℕ) (role : Role) (seen : Views) (since : ℤ) (stand_in : Bool) (stage : Stage) → (stage ≡ Read → stand_in ≡ false → IsSecretSaved n e)
    → HasCome (e ∷ h) n role seen since (stage_written stand_in stage)
come_written e h n role seen since true Read saves = tt
come_written e h n role seen since false Read saves = inl (saves refl refl)
come_written e h n role seen since stand_in Fresh saves = tt
come_written e h n role seen since stand_in (Asked order) saves = tt
come_written e h n role seen since stand_in (Given order value) saves = tt
come_written e h n role seen since stand_in Saved saves = tt
come_written e h n role seen since stand_in Wrote saves = tt
come_written e h n role seen since stand_in (Refused entry obstacle) saves = tt
come_written e h n role seen since stand_in Barred saves = tt

come_found : (b : Bool) (entry : ℕ) (kind : Kind) (version : ℕ) (h : List Entry) (n : ℕ) (role : Role) (seen : Views) (since : ℤ) → (b ≡ true → HasReadLive h n seen) → HasCome h n role seen since (stage_read b entry kind version)
come_found true entry kind version h n role seen since reads = reads refl
come_found false entry kind version h n role seen since reads = tt

saved_by : (n : ℕ) (e : Entry) (call : Call) (reply : Reply) (stage : Stage) (role : Role) (seen : Views) (since : ℤ) (stand_in : Bool) → e ≡ Called (Pass n) call reply → IsServedReply reply → IsCallAt stage role seen since call
    → (stage ≡ Read → writes_temporary call ≡ stand_in) → stage ≡ Read → stand_in ≡ false → IsSecretSaved n e
saved_by n e call reply stage role seen since stand_in is served at marked read off =
    (call, reply, is, saves_secret role seen since call (subst (λ (t : Stage). IsCallAt t role seen since call) read at) (marked read ∙ off), served)

-- by the reply
come_replied : (s : Setting) (h : List Entry) (n : ℕ) (role : Role) (seen : Views) (since : ℤ) (stage : Stage) (stand_in : Bool) (entry : ℕ) (kind : Kind) (last : ℕ) (call : Call) (reply : Reply) (e : Entry) → IsLegal s h → AreKnown (writes s h) seen
    → IsReply s.faults (state s h) call reply → e ≡ Called (Pass n) call reply → IsCallAt stage role seen since call → (stage ≡ Read → writes_temporary call ≡ stand_in)
    → HasCome (e ∷ h) n role seen since (stage_by seen.certificate stand_in stage entry kind last reply)
come_replied s h n role seen since stage stand_in entry kind last call (Ok version name) e legal known right is at marked =
    come_written e h n role seen since stand_in stage (saved_by n e call (Ok version name) stage role seen since stand_in is tt at marked)
come_replied s h n role seen since stage stand_in entry kind last call (Unchanged version) e legal known right is at marked =
    come_written e h n role seen since stand_in stage (saved_by n e call (Unchanged version) stage role seen since stand_in is tt at marked)
come_replied s h n role seen since stage stand_in entry kind last call (Found o) e legal known right is at marked =
    come_found (is_as_seen seen.certificate o) entry kind (version_of o) (e ∷ h) n role seen since
    (λ same.
    let read = found_is_read s.faults (state s h) call o right in
    let live = live_at s h role seen since stage call o read at in
    let found = live_object s h role seen call o legal known live read same in
    record {
      certificate = live.certificate;
      sees = live.sees;
      read = inl (key_of (Cert live.certificate), is ∙ ap (λ (k : Call). Called (Pass n) k (Found o)) live.get ∙ ap (λ (x : Object). Called (Pass n) (Get (key_of (Cert live.certificate))) (Found x)) (sym found));
    })
come_replied s h n role seen since stage stand_in entry kind last call (Conflict named have) e legal known right is at marked = tt
come_replied s h n role seen since stage stand_in entry kind last call (NotFound seen_at) e legal known right is at marked = tt
come_replied s h n role seen since stage stand_in entry kind last call (AlreadyExists have) e legal known right is at marked = tt
come_replied s h n role seen since stage stand_in entry kind last call (Invalid rule) e legal known right is at marked = tt
come_replied s h n role seen since stage stand_in entry kind last call (Unavailable number) e legal known right is at marked = tt

come_calling : AreSound → (s : Setting) (h : List Entry) (n m : ℕ) (call : Call) (reply : Reply) → IsLegal s h → IsReply s.faults (state s h) call reply → MayCall s h (open_pass s h m) call → IfSome (open_pass s h n) (HasComeTo h n)
    → IfSome (gone_on n m (stage_after s h call reply) (open_pass s h n)) (HasComeTo (Called (Pass m) call reply ∷ h) n)
come_calling sound s h n m call reply legal right may has =
    over_own_entry (λ q. (open_pass s h n ≡ Some q) × HasComeTo h n q) (HasComeTo (Called (Pass m) call reply ∷ h) n) n m (stage_after s h call reply) (open_pass s h n)
    (λ here q holds.
    let one : n ≡ m = same_number n m here in
    let its : open_pass s h m ≡ Some q = ap (open_pass s h) (sym one) ∙ holds.0 in
    let saw : SawAll (writes s h) q = of_open (SawAll (writes s h)) (open_pass s h n) q holds.0 (saw_all s h n legal) in
    come_replied s h n q.role q.seen q.since q.stage (is_temporary_act (issuing q.seen q.since)) (length h + 1) (key_of_call call).kind (last_under (key_of_call call) (writes s h)) call reply (Called (Pass m) call reply) legal saw.known right
    (ap (λ (i : ℕ). Called (Pass i) call reply) (sym one))
    (next_call sound s h n q call saw holds.1 (subst (λ (x : Option OpenPass). MayCall s h x call) its may))
    (marked_as_planned sound s h q call saw (subst (λ (x : Option OpenPass). MayCall s h x call) its may)))
    (λ there q holds. so_more (Called (Pass m) call reply) h n q tt holds.1)
    (with_equation (HasComeTo h n) (open_pass s h n) has)

-- ---- histories

-- each open pass has done what brought it where it is
pub has_come : AreSound → (s : Setting) (h : List Entry) (n : ℕ) → IsLegal s h → IsCaused s h → IfSome (open_pass s h n) (HasComeTo h n)
unfolding IsLegal IsCaused
has_come sound s [] n legal caused = tt
has_come sound s (Called User call reply ∷ h) n legal caused = come_longer (Called User call reply) h n (open_pass s h n) tt (has_come sound s h n legal.1 caused.1)
has_come sound s (Called (Pass m) call reply ∷ h) n legal caused = come_calling sound s h n m call reply legal.1 legal.0.0 caused.0 (has_come sound s h n legal.1 caused.1)
has_come sound s (Begin pass role key at now ∷ h) n legal caused =
    over_begin (HasComeTo (Begin pass role key at now ∷ h) n) (n == pass) (new_pass role key (views s h role key) now) (open_pass s h n) tt
    (come_longer (Begin pass role key at now) h n (open_pass s h n) tt (has_come sound s h n legal.1 caused.1))
has_come sound s (Ask pass order ∷ h) n legal caused = come_asking sound s h n pass order legal.1 caused.0 (has_come sound s h n legal.1 caused.1)
has_come sound s (Made pass key ∷ h) n legal caused = come_giving s (Made pass key) h n pass (values.Made key) refl caused.0 (has_come sound s h n legal.1 caused.1)
has_come sound s (Signed pass signature ∷ h) n legal caused = come_giving s (Signed pass signature) h n pass (values.Signed signature) refl caused.0 (has_come sound s h n legal.1 caused.1)
has_come sound s (Answered pass answer ∷ h) n legal caused = come_giving s (Answered pass answer) h n pass (values.Answered answer) refl caused.0 (has_come sound s h n legal.1 caused.1)
has_come sound s (Judged pass approved ∷ h) n legal caused = come_giving s (Judged pass approved) h n pass (values.Judged approved) refl caused.0 (has_come sound s h n legal.1 caused.1)
has_come sound s (End pass cause ∷ h) n legal caused =
    over_end (HasComeTo (End pass cause ∷ h) n) (n == pass) (open_pass s h n) (come_longer (End pass cause) h n (open_pass s h n) tt (has_come sound s h n legal.1 caused.1))
has_come sound s (Stop role ∷ h) n legal caused =
    over_stop (HasComeTo (Stop role ∷ h) n) role (open_pass s h n) (come_longer (Stop role) h n (open_pass s h n) tt (has_come sound s h n legal.1 caused.1))
has_come sound s (Script step ∷ h) n legal caused = come_longer (Script step) h n (open_pass s h n) tt (has_come sound s h n legal.1 caused.1)
has_come sound s (Deliver role kind to ∷ h) n legal caused = come_longer (Deliver role kind to) h n (open_pass s h n) tt (has_come sound s h n legal.1 caused.1)
has_come sound s (Listed role kind to ∷ h) n legal caused = come_longer (Listed role kind to) h n (open_pass s h n) tt (has_come sound s h n legal.1 caused.1)
has_come sound s (Start role at ∷ h) n legal caused = come_longer (Start role at) h n (open_pass s h n) tt (has_come sound s h n legal.1 caused.1)
has_come sound s (Tick now ∷ h) n legal caused = come_longer (Tick now) h n (open_pass s h n) tt (has_come sound s h n legal.1 caused.1)
