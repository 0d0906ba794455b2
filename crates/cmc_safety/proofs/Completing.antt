-- An issuance that nothing disturbs does all that it planned, and says so.
use Rattle.std.proofs.Common.{◌≡◌, ◌≢◌, ◌==◌, ◌++◌, ℕ, ℤ, ◌+◌, ◌≤◌, List, [], ◌∷◌, length, Option, Some, None, Bool, true, false, refl, sym, ap, subst, ◌∙◌, inl, inr, arith}
use Rattle.std.proofs.lemmas.Bool.Decides.{Decides-eqb}
use Rattle.std.specs.Prelude.{if◌then◌else◌, MatchBool, IfSome, option_map, unwrap_or, option_and_then}
use Rattle.std.specs.List.{list_any}
use Rattle.cmc_meta.specs.declared.key.Key.{Key}
use Rattle.cmc_meta.specs.declared.key.Kind.TheVariants as kinds
use Rattle.cmc_objects.specs.declared.certificate.Certificate.{Certificate}
use Rattle.cmc_objects.specs.declared.secret.Secret.{Secret as SecretObject}
use Rattle.cmc_objects.specs.declared.object.Object.{Object}
use Rattle.cmc_objects.specs.declared.object.Object.TheVariants.{Cert, Request, Secret}
use Rattle.cmc_objects.specs.declared.call.Call.{Call}
use Rattle.cmc_objects.specs.declared.call.Call.TheVariants.{Create, Update, UpdateStatus, Delete, Get}
use Rattle.cmc_objects.specs.declared.call.Reply.{Reply}
use Rattle.cmc_objects.specs.declared.call.Reply.TheVariants.{Ok, Unchanged, Found, Unavailable}
use Rattle.cmc_objects.specs.declared.role.Role.TheVariants as roles
use Rattle.cmc_objects.specs.declared.orders.Order.{Order}
use Rattle.cmc_objects.specs.declared.entry.Cause.{Cause}
use Rattle.cmc_objects.specs.declared.entry.Cause.TheVariants as causes
use Rattle.cmc_objects.specs.declared.entry.Positions.{Positions}
use Rattle.cmc_objects.specs.declared.entry.Who.TheVariants.{User, Pass}
use Rattle.cmc_objects.specs.declared.entry.Entry.{Entry}
use Rattle.cmc_objects.specs.declared.entry.Entry.TheVariants.{Script, Call as Called, Deliver, List as Listed, Begin, Ask, Made, Signed, Answered, Judged, End, Stop, Start, Tick}
use Rattle.cmc_objects.specs.Objects.{key_of, name_of, version_of, numbered}
use Rattle.cmc_pass.specs.declared.pass.Views.{Views}
use Rattle.cmc_pass.specs.declared.pass.Act.{Act}
use Rattle.cmc_pass.specs.declared.pass.Act.TheVariants.{Nothing, Call as Calls, Ask as Asks, Issue, Temporary}
use Rattle.cmc_pass.specs.declared.pass.IssuePlan.{IssuePlan}
use Rattle.cmc_pass.specs.declared.pass.TemporaryPlan.{TemporaryPlan}
use Rattle.cmc_pass.specs.declared.value.Value.{Value}
use Rattle.cmc_pass.specs.declared.value.Value.TheVariants as values
use Rattle.cmc_model.specs.Objects.{Objects, object_at}
use Rattle.cmc_model.specs.Stored.{with_status, restated}
use Rattle.cmc_model.specs.Admission.{refusing_rule}
use Rattle.cmc_model.specs.Replies.{State, IsReply, IsServed as IsServedBy, IsRestated, IsGot, IsChange, is_accepted, key_of_call, settled}
use Rattle.cmc_model.specs.Histories.{Setting, state, objects, accepted}
use Rattle.cmc_model.specs.Writes.{writes}
use Rattle.cmc_rules.specs.declared.progress.OpenPass.{OpenPass}
use Rattle.cmc_rules.specs.declared.progress.Stage.{Stage}
use Rattle.cmc_rules.specs.declared.progress.Stage.TheVariants.{Fresh, Asked, Given, Read, Saved, Wrote, Refused, Barred}
use Rattle.cmc_rules.specs.Acts.{act}
use Rattle.cmc_rules.specs.Causes.{act_of, after_of, IsNextCall, MayCall, AsksBy, MayAsk, IsGivenBy, MayGive, EndsBy, MayEnd, IsCausedEntry, IsCaused}
use Rattle.cmc_rules.specs.Desks.{desk}
use Rattle.cmc_rules.specs.Issuance.{issuing}
use Rattle.cmc_rules.specs.Legality.{IsLegalEntry, IsLegal}
use Rattle.cmc_rules.specs.Origins.{begun}
use Rattle.cmc_rules.specs.Passes.{open_pass, is_as_seen, is_temporary_act, stage_read, stage_written, stage_after, stage_given, new_pass, with_stage, given}
use Rattle.cmc_rules.specs.Revisions.{RaisesRevision}
use Rattle.cmc_rules.specs.Safety.{HasEntry, IsStatusUpdate, IsServedReply}
use Rattle.cmc_rules.specs.SeenObjects.{OnSeen, IsWellSeen}
use Rattle.cmc_rules.specs.Sound.{IsRaiseOf, IsSigned, IsMarked, WritesTarget}
use Rattle.cmc_rules.specs.Views.{certificate_in, secret_in, certificate_at, target_at, views_of, views_in, views, present_views}
use Rattle.cmc_rules.proofs.Carrying.{over_end, over_stop}
use Rattle.cmc_rules.proofs.Sighted.{AreKnown}
use Rattle.cmc_rules.proofs.Versions.{stands_is_version, version_keyed}
use Rattle.cmc_rules.proofs.WellSeen.{SawAll, saw_all, views_well}
use Rattle.cmc_safety.specs.Completion.{IsApart, IsQuietEntry, AreQuiet, IsLeftAlone, IsUndisturbed, IsServedCall, IsCarriedOut, IsPlan, HasCompleted, CompletesIssuing}
use Rattle.cmc_safety.proofs.Course.{AreSound, of_open, with_equation, over_own_entry, same_number}
use Rattle.cmc_safety.proofs.Plans.{PlansFor, PlansOf, plans, act_of_issuing}
use Rattle.cmc_safety.proofs.Undisturbed.{target_key, IsNamed, IsTargetCall, for_target, target_settled, target_called, keeps_at, AreThere, StandsAt, IsScene, GoesWell, well_more, longer, at_version, target_served}

-- ---- the status that ends an issuance

one_more : (x : Option ℕ) → x ≡ Some (unwrap_or x 0 + 1) → ⊥
one_more None is = cc is
one_more (Some n) is = let same : n ≡ n + 1 = cc is in omega (arith, same)

-- a status that raises the revision is another one
raises_status : (next : ℕ) (generation : ℕ) (c : Certificate) (new : Object) → new ≡ Cert c → RaisesRevision (Some (Cert c)) (Some (numbered next generation new)) → ⊥
unfolding numbered
raises_status next generation c new same raises =
    one_more c.status.revision (subst (λ (o : Object). RaisesRevision (Some (Cert c)) (Some (numbered next generation o))) same raises)

restated_accepted : (n : ℕ) (object : Object) (c : Certificate) (named : ℕ) (x : Option Object) (reply : Reply) → x ≡ Some (Cert c) → version_of (Cert c) ≡ named → (with_status (Cert c) object ≡ Cert c → ⊥)
    → refusing_rule (Some (Cert c)) object true false ≡ None → IsRestated n object named x reply → is_accepted reply ≡ true
restated_accepted n object c named x reply there same other passes right =
    let made : IsRestated n object named (Some (Cert c)) reply = subst (λ (o : Option Object). IsRestated n object named o reply) there right in
    by (at_version (named == version_of (Cert c)) n named (name_of object) (Cert c) (with_status (Cert c) object) (refusing_rule (Some (Cert c)) object true false) reply refl same passes made) where
      by : IsChange n (name_of object) (Cert c) (with_status (Cert c) object) reply → is_accepted reply ≡ true
      by (inl is) = absurd (other is.0)
      by (inr is) = ap is_accepted is.1

some_one : (d c : Certificate) (x : Option Certificate) → x ≡ Some d → x ≡ Some c → d ≡ c
some_one d c x one other = let is : Some d ≡ Some c = sym one ∙ other in cc is

certificate_one : (old : Object) (d : Certificate) → Some old ≡ Some (Cert d) → old ≡ Cert d
certificate_one old d is = cc is

-- the status of an issuance is accepted where the Certificate stands as it was seen
status_accepted : (n : ℕ) (m : Objects) (seen : Views) (since : ℤ) (c : Certificate) (call : Call) (reply : Reply) → IsStatusUpdate call → OnSeen (IsRaiseOf c since) seen call → object_at m (key_of (Cert c)) ≡ Some (Cert c)
    → IsServedBy n m call reply → is_accepted reply ≡ true
unfolding OnSeen
status_accepted n m seen since c (Create object generate) reply status on there right = absurd status
status_accepted n m seen since c (Update object named) reply status on there right = absurd status
status_accepted n m seen since c (Delete key named) reply status on there right = absurd status
status_accepted n m seen since c (Get key) reply status on there right = absurd status
status_accepted n m seen since c (UpdateStatus object named) reply status on there right =
    let same : on.old ≡ Cert c = certificate_one on.old c (on.changes 0).of_it in
    let under : key_of object ≡ key_of (Cert c) = sym on.key ∙ ap key_of same in
    let raises : RaisesRevision (Some (Cert c)) (Some (restated 0 (Cert c) object)) = subst (λ (o : Object). RaisesRevision (Some o) (Some (restated 0 o object))) same (on.changes 0).raises in
    restated_accepted n object c named (object_at m (key_of object)) reply (ap (object_at m) under ∙ there) (ap version_of (sym same) ∙ on.version)
    (λ is. raises_status 0 c.meta.generation c (with_status (Cert c) object) is raises)
    (subst (λ (o : Object). refusing_rule (Some o) object true false ≡ None) same (on.passes false)) right

-- ---- the calls of the pass itself

-- what issuing makes of what it saw is the act of the scene
issuing_as : (seen : Views) (since : ℤ) (c : Certificate) (does : Act) (s : Setting) (h k : List Entry) (n : ℕ) (q : OpenPass) → IsScene s seen since c does → GoesWell s h k n seen since c does q → issuing q.seen q.since ≡ does
issuing_as seen since c does s h k n q scene g = ap (λ (v : Views). issuing v q.since) g.saw ∙ ap (λ (t : ℤ). issuing seen t) g.began ∙ scene.acts

-- the act of an open pass that goes well
its_act : (s : Setting) (h k : List Entry) (n : ℕ) (seen : Views) (since : ℤ) (c : Certificate) (does : Act) (q : OpenPass) → IsScene s seen since c does → GoesWell s h k n seen since c does q → act_of s h q ≡ does
its_act s h k n seen since c does q scene g =
    act_of_issuing q.role q.seen q.since (desk s h q.role q.seen) g.issuing ∙ issuing_as seen since c does s h k n q scene g

-- what the reply in the next entry makes of it
well_after : (s : Setting) (e : Entry) (h k : List Entry) (n : ℕ) (seen : Views) (since : ℤ) (c : Certificate) (does : Act) (call : Call) (reply : Reply) (q : OpenPass) (stage : Stage) → GoesWell s h k n seen since c does q
    → stage_after s h call reply q ≡ stage → StandsAt s (e ∷ h) (e ∷ k) n c seen.secret does stage → GoesWell s (e ∷ h) (e ∷ k) n seen since c does (with_stage (stage_after s h call reply q) q)
well_after s e h k n seen since c does call reply q stage g is stands =
    record { issuing = g.issuing; saw = g.saw; began = g.began; stands = subst (StandsAt s (e ∷ h) (e ∷ k) n c seen.secret does) (sym is) stands }

as_seen_itself : (seen : Option Certificate) (c : Certificate) → seen ≡ Some c → is_as_seen seen (Cert c) ≡ true
as_seen_itself None c is = absurd (cc is)
as_seen_itself (Some d) c is = let one : c ≡ d = (let e : d ≡ c = cc is in sym e) in (Decides-eqb c.meta.version d.meta.version).1 (ap (λ (x : Certificate). x.meta.version) one)

-- the reply is the one of the objects
got : (n : ℕ) (m : Objects) (c : Certificate) (key : Key) (call : Call) (reply : Reply) → call ≡ Get key → key ≡ key_of (Cert c) → object_at m (key_of (Cert c)) ≡ Some (Cert c) → IsServedBy n m call reply → reply ≡ Found (Cert c)
got n m c key call reply is same there right =
    let found : IsGot n (object_at m key) reply = subst (λ (k : Call). IsServedBy n m k reply) is right in
    subst (λ (o : Option Object). IsGot n o reply) (ap (object_at m) same ∙ there) found

-- the live read
own_read : (s : Setting) (h k : List Entry) (n : ℕ) (seen : Views) (since : ℤ) (c : Certificate) (does : Act) (q : OpenPass) (call : Call) (reply : Reply) (key : Key) → GoesWell s h k n seen since c does q → seen.certificate ≡ Some c
    → q.stage ≡ Fresh → AreThere s h c seen.secret → call ≡ Get key → key ≡ key_of (Cert c) → IsServedBy (accepted s h) (objects s h) call reply
    → GoesWell s (Called (Pass n) call reply ∷ h) (Called (Pass n) call reply ∷ k) n seen since c does (with_stage (stage_after s h call reply q) q)
own_read s h k n seen since c does q call reply key g sees stage there is same right =
    let found : reply ≡ Found (Cert c) = got (accepted s h) (objects s h) c key call reply is same there.0 right in
    let no_write : is_accepted reply ≡ false = ap is_accepted found in
    let read : stage_after s h call reply q ≡ Read =
    ap (λ (r : Reply). stage_after s h call r q) found
    ∙ ap (λ (t : Bool). stage_read t (length h + 1) (key_of_call call).kind c.meta.version) (as_seen_itself q.seen.certificate c (ap (λ (v : Views). v.certificate) g.saw ∙ sees)) in
    well_after s (Called (Pass n) call reply) h k n seen since c does call reply q Read g read (
      keeps_at s h (settled call reply) (is_accepted reply) (key_of (Cert c)) (λ ok. absurd (cc (ok, no_write))) ∙ there.0,
      keeps_at s h (settled call reply) (is_accepted reply) (target_key c) (λ ok. absurd (cc (ok, no_write))) ∙ there.1,
    )

written_stage : (s : Setting) (h : List Entry) (call : Call) (reply : Reply) (q : OpenPass) → IsServedReply reply → stage_after s h call reply q ≡ stage_written (is_temporary_act (issuing q.seen q.since)) q.stage
written_stage s h call (Ok version name) q served = refl
written_stage s h call (Unchanged version) q served = refl
written_stage s h call (Found object) q served = absurd served
written_stage s h call other q served = absurd served

kinds_apart : (c : Certificate) → target_key c ≡ key_of (Cert c) → ⊥
kinds_apart c is = let kinds_ : kinds.Secret ≡ kinds.Certificate = ap (λ (k : Key). k.kind) is in cc kinds_

-- the Secret of either plan
own_save : (P : Option Object → Option Object → Type 0) (s : Setting) (h k : List Entry) (n : ℕ) (seen : Views) (since : ℤ) (c : Certificate) (does : Act) (q : OpenPass) (call planned : Call) (reply : Reply) (stand_in : Bool) → IsLegal s h
    → AreKnown (writes s h) seen → GoesWell s h k n seen since c does q → q.stage ≡ Read → AreThere s h c seen.secret → call ≡ planned → OnSeen P seen planned → IsTargetCall c seen.secret planned → issuing q.seen q.since ≡ does → is_temporary_act does ≡ stand_in
    → IsServedBy (accepted s h) (objects s h) call reply
    → (object_at (objects s (Called (Pass n) call reply ∷ h)) (key_of (Cert c)) ≡ Some (Cert c) → HasEntry (IsServedCall n planned) (Called (Pass n) call reply ∷ k)
    → StandsAt s (Called (Pass n) call reply ∷ h) (Called (Pass n) call reply ∷ k) n c seen.secret does (stage_written stand_in Read))
    → GoesWell s (Called (Pass n) call reply ∷ h) (Called (Pass n) call reply ∷ k) n seen since c does (with_stage (stage_after s h call reply q) q)
own_save P s h k n seen since c does q call planned reply stand_in legal known g stage there is on fits acts marked right gives =
    let fitting : IsTargetCall c seen.secret call = subst (IsTargetCall c seen.secret) (sym is) fits in
    let served : IsServedReply reply = target_served P s h seen c seen.secret call reply legal known refl (subst (OnSeen P seen) (sym is) on) fitting there.1 right in
    let saved : stage_after s h call reply q ≡ stage_written stand_in Read =
    written_stage s h call reply q served ∙ ap (λ (b : Bool). stage_written b q.stage) (ap is_temporary_act acts ∙ marked) ∙ ap (stage_written stand_in) stage in
    well_after s (Called (Pass n) call reply) h k n seen since c does call reply q (stage_written stand_in Read) g saved
    (gives (keeps_at s h (settled call reply) (is_accepted reply) (key_of (Cert c)) (λ ok same. kinds_apart c (sym (target_settled c seen.secret call reply fitting) ∙ same)) ∙ there.0)
    (inl (reply, ap (λ (x : Call). Called (Pass n) x reply) is, served)))

-- by the act and by how far it has come
own_issue : (s : Setting) (h k : List Entry) (n : ℕ) (seen : Views) (since : ℤ) (c : Certificate) (plan : IssuePlan) (q : OpenPass) (call : Call) (reply : Reply) (after : Order → Value → Option Call) (stage : Stage) → IsLegal s h
    → AreKnown (writes s h) seen → IsScene s seen since c (Issue plan) → GoesWell s h k n seen since c (Issue plan) q → q.stage ≡ stage → StandsAt s h k n c seen.secret (Issue plan) stage → IsNextCall stage (Issue plan) after call
    → IsServedBy (accepted s h) (objects s h) call reply → GoesWell s (Called (Pass n) call reply ∷ h) (Called (Pass n) call reply ∷ k) n seen since c (Issue plan) (with_stage (stage_after s h call reply q) q)
own_issue s h k n seen since c plan q call reply after Fresh legal known scene g at stands next right =
    own_read s h k n seen since c (Issue plan) q call reply plan.get g scene.sees at stands next scene.planned.0 right
own_issue s h k n seen since c plan q call reply after Read legal known scene g at stands next right =
    own_save (WritesTarget roles.Issuing since (IsSigned scene.within.certificate scene.within.request scene.within.file)) s h k n seen since c (Issue plan) q call plan.secret reply false legal known g at stands next scene.within.secret
    (for_target false c seen.secret plan.secret scene.named scene.planned.1) (issuing_as seen since c (Issue plan) s h k n q scene g) refl right (λ certificate saved. (certificate, saved))
own_issue s h k n seen since c plan q call reply after Saved legal known scene g at stands next right =
    let one : scene.within.certificate ≡ c = some_one scene.within.certificate c seen.certificate scene.within.prepared.sees scene.sees in
    let on : OnSeen (IsRaiseOf c since) seen call = subst (OnSeen (IsRaiseOf c since) seen) (sym next) (subst (λ (x : Certificate). OnSeen (IsRaiseOf x since) seen plan.status) one scene.within.status) in
    let ok : is_accepted reply ≡ true = status_accepted (accepted s h) (objects s h) seen since c call reply (subst IsStatusUpdate (sym next) scene.within.is_status) on stands.0 right in
    well_after s (Called (Pass n) call reply) h k n seen since c (Issue plan) call reply q Wrote g
    (written_stage s h call reply q (accepted_served reply ok) ∙ ap (stage_written (is_temporary_act (issuing q.seen q.since))) at)
    (inr stands.1, inl (reply, ap (λ (x : Call). Called (Pass n) x reply) next, ok)) where
      accepted_served : (reply : Reply) → is_accepted reply ≡ true → IsServedReply reply
      accepted_served (Ok version name) ok = tt
      accepted_served (Unchanged version) ok = tt
      accepted_served other ok = absurd (cc ok)
own_issue s h k n seen since c plan q call reply after Wrote legal known scene g at stands next right = absurd next
own_issue s h k n seen since c plan q call reply after other legal known scene g at stands next right = absurd stands

own_stand_in : (s : Setting) (h k : List Entry) (n : ℕ) (seen : Views) (since : ℤ) (c : Certificate) (plan : TemporaryPlan) (q : OpenPass) (call : Call) (reply : Reply) (after : Order → Value → Option Call) (stage : Stage) → IsLegal s h
    → AreKnown (writes s h) seen → IsScene s seen since c (Temporary plan) → GoesWell s h k n seen since c (Temporary plan) q → q.stage ≡ stage → StandsAt s h k n c seen.secret (Temporary plan) stage
    → IsNextCall stage (Temporary plan) after call → IsServedBy (accepted s h) (objects s h) call reply
    → GoesWell s (Called (Pass n) call reply ∷ h) (Called (Pass n) call reply ∷ k) n seen since c (Temporary plan) (with_stage (stage_after s h call reply q) q)
own_stand_in s h k n seen since c plan q call reply after Fresh legal known scene g at stands next right =
    own_read s h k n seen since c (Temporary plan) q call reply plan.get g scene.sees at stands next scene.planned.0 right
own_stand_in s h k n seen since c plan q call reply after Read legal known scene g at stands next right =
    own_save (WritesTarget roles.Issuing since (IsMarked scene.within.certificate scene.within.request scene.within.file since)) s h k n seen since c (Temporary plan) q call plan.secret reply true legal known g at stands next
    scene.within.secret (for_target true c seen.secret plan.secret scene.named scene.planned.1) (issuing_as seen since c (Temporary plan) s h k n q scene g) refl right (λ certificate saved. saved)
own_stand_in s h k n seen since c plan q call reply after Saved legal known scene g at stands next right = absurd next
own_stand_in s h k n seen since c plan q call reply after Wrote legal known scene g at stands next right = absurd next
own_stand_in s h k n seen since c plan q call reply after other legal known scene g at stands next right = absurd stands

own_call : (s : Setting) (h k : List Entry) (n : ℕ) (seen : Views) (since : ℤ) (c : Certificate) (does : Act) (q : OpenPass) (call : Call) (reply : Reply) (after : Order → Value → Option Call) → IsLegal s h
    → AreKnown (writes s h) seen → IsScene s seen since c does → GoesWell s h k n seen since c does q → IsNextCall q.stage does after call → IsServedBy (accepted s h) (objects s h) call reply
    → GoesWell s (Called (Pass n) call reply ∷ h) (Called (Pass n) call reply ∷ k) n seen since c does (with_stage (stage_after s h call reply q) q)
own_call s h k n seen since c (Issue plan) q call reply after legal known scene g next right = own_issue s h k n seen since c plan q call reply after q.stage legal known scene g refl g.stands next right
own_call s h k n seen since c (Temporary plan) q call reply after legal known scene g next right = own_stand_in s h k n seen since c plan q call reply after q.stage legal known scene g refl g.stands next right
own_call s h k n seen since c Nothing q call reply after legal known scene g next right = absurd scene.plan
own_call s h k n seen since c (Calls first) q call reply after legal known scene g next right = absurd scene.plan
own_call s h k n seen since c (Asks order) q call reply after legal known scene g next right = absurd scene.plan

-- ---- entries

-- a call that does not fail is answered by the objects
served_now : (faults : List ℕ) (st : State) (call : Call) (reply : Reply) → list_any (λ i. i == st.calls + 1) faults ≡ false → IsReply faults st call reply → IsServedBy st.accepted st.objects call reply
served_now faults st call reply free right = subst (λ (b : Bool). MatchBool b (reply ≡ Unavailable (st.calls + 1)) (IsServedBy st.accepted st.objects call reply)) free right

no_question : (stage : Stage) (does : Act) (order : Order) → IsPlan does → AsksBy stage does order → ⊥
no_question Fresh (Issue plan) order is asks = asks
no_question Fresh (Temporary plan) order is asks = asks
no_question Fresh Nothing order is asks = is
no_question Fresh (Calls call) order is asks = is
no_question Fresh (Asks asked) order is asks = is
no_question (Asked asked) does order is asks = asks
no_question (Given asked value) does order is asks = asks
no_question Read does order is asks = asks
no_question Saved does order is asks = asks
no_question Wrote does order is asks = asks
no_question (Refused entry obstacle) does order is asks = asks
no_question Barred does order is asks = asks

no_value : (s : Setting) (h k : List Entry) (n : ℕ) (c : Certificate) (target : Option SecretObject) (does : Act) (stage : Stage) (value : Value) → StandsAt s h k n c target does stage → IsGivenBy stage value → ⊥
no_value s h k n c target does (Asked order) value stands gives = stands
no_value s h k n c target does Fresh value stands gives = gives
no_value s h k n c target does (Given order old) value stands gives = gives
no_value s h k n c target does Read value stands gives = gives
no_value s h k n c target does Saved value stands gives = gives
no_value s h k n c target does Wrote value stands gives = gives
no_value s h k n c target does (Refused entry obstacle) value stands gives = gives
no_value s h k n c target does Barred value stands gives = gives

-- all that is said of the pass of this number
abbrev AllWell : Setting → List Entry → List Entry → ℕ → Views → ℤ → Certificate → Act → Type 0
AllWell s h k n seen since c does = IfSome (open_pass s h n) (GoesWell s h k n seen since c does)

quiet_apart : (a b : Key) (x y : Key) (ok : Bool) → x ≡ a → y ≡ b → (call : Call) → (ok ≡ true → IsApart a b call) → (ok ≡ true → key_of_call call ≢ x) × (ok ≡ true → key_of_call call ≢ y)
quiet_apart a b x y ok same_a same_b call quiet = (λ is same. (quiet is).0 (same ∙ same_a), λ is same. (quiet is).1 (same ∙ same_b))

-- the two keys are those of the plan
record AreKeys (c : Certificate) (a b : Key) : Type 0 where
  certificate : key_of (Cert c) ≡ a
  target : target_key c ≡ b

called_well : (s : Setting) (h k : List Entry) (m n : ℕ) (seen : Views) (since : ℤ) (c : Certificate) (does : Act) (a b : Key) (call : Call) (reply : Reply) (own : Bool) → (n == m) ≡ own → AreKeys c a b → IsLegal s h
    → IsScene s seen since c does → MayCall s h (open_pass s h m) call → IsReply s.faults (state s h) call reply
    → MatchBool own (list_any (λ i. i == (state s h).calls + 1) s.faults ≡ false) (is_accepted reply ≡ true → IsApart a b (settled call reply))
    → AllWell s h k n seen since c does → AllWell s (Called (Pass m) call reply ∷ h) (Called (Pass m) call reply ∷ k) n seen since c does
called_well s h k m n seen since c does a b call reply true e keys legal scene may right quiet well =
    let one : n ≡ m = same_number n m e in
    over_own_entry (λ q. (open_pass s h n ≡ Some q) × GoesWell s h k n seen since c does q) (GoesWell s (Called (Pass m) call reply ∷ h) (Called (Pass m) call reply ∷ k) n seen since c does) n m (stage_after s h call reply) (open_pass s h n)
    (λ here q holds.
    let its : open_pass s h m ≡ Some q = ap (open_pass s h) (sym one) ∙ holds.0 in
    let next : IsNextCall q.stage (act_of s h q) (after_of q) call = subst (λ (x : Option OpenPass). MayCall s h x call) its may in
    let saw : SawAll (writes s h) q = of_open (SawAll (writes s h)) (open_pass s h n) q holds.0 (saw_all s h n legal) in
    subst (λ (i : ℕ). GoesWell s (Called (Pass i) call reply ∷ h) (Called (Pass i) call reply ∷ k) n seen since c does (with_stage (stage_after s h call reply q) q)) one
    (own_call s h k n seen since c does q call reply (after_of q) legal (subst (AreKnown (writes s h)) holds.1.saw saw.known) scene holds.1
    (subst (λ (d : Act). IsNextCall q.stage d (after_of q) call) (its_act s h k n seen since c does q scene holds.1) next)
    (served_now s.faults (state s h) call reply quiet right)))
    (λ there. absurd (cc (e, there)))
    (with_equation (GoesWell s h k n seen since c does) (open_pass s h n) well)
called_well s h k m n seen since c does a b call reply false e keys legal scene may right quiet well =
    let apart = quiet_apart a b (key_of (Cert c)) (target_key c) (is_accepted reply) keys.certificate keys.target (settled call reply) quiet in
    over_own_entry (GoesWell s h k n seen since c does) (GoesWell s (Called (Pass m) call reply ∷ h) (Called (Pass m) call reply ∷ k) n seen since c does) n m (stage_after s h call reply) (open_pass s h n)
    (λ here. absurd (cc (e, here)))
    (λ there q g.
    well_more s (Called (Pass m) call reply) h k n seen since c does q (keeps_at s h (settled call reply) (is_accepted reply) (key_of (Cert c)) apart.0)
    (keeps_at s h (settled call reply) (is_accepted reply) (target_key c) apart.1) g)
    well

asked_well : (s : Setting) (h k : List Entry) (pass n : ℕ) (seen : Views) (since : ℤ) (c : Certificate) (does : Act) (order : Order) → IsScene s seen since c does → MayAsk s h (open_pass s h pass) order
    → AllWell s h k n seen since c does → AllWell s (Ask pass order ∷ h) (Ask pass order ∷ k) n seen since c does
asked_well s h k pass n seen since c does order scene may well =
    over_own_entry (λ q. (open_pass s h n ≡ Some q) × GoesWell s h k n seen since c does q) (GoesWell s (Ask pass order ∷ h) (Ask pass order ∷ k) n seen since c does) n pass (λ (q : OpenPass). Asked order) (open_pass s h n)
    (λ here q holds.
    let one : n ≡ pass = same_number n pass here in
    let its : open_pass s h pass ≡ Some q = ap (open_pass s h) (sym one) ∙ holds.0 in
    let asks : AsksBy q.stage (act_of s h q) order = subst (λ (x : Option OpenPass). MayAsk s h x order) its may in
    absurd (no_question q.stage does order scene.plan (subst (λ (d : Act). AsksBy q.stage d order) (its_act s h k n seen since c does q scene holds.1) asks)))
    (λ there q holds. well_more s (Ask pass order) h k n seen since c does q refl refl holds.1)
    (with_equation (GoesWell s h k n seen since c does) (open_pass s h n) well)

given_well : (s : Setting) (e : Entry) (h k : List Entry) (pass n : ℕ) (seen : Views) (since : ℤ) (c : Certificate) (does : Act) (value : Value)
    → object_at (objects s (e ∷ h)) (key_of (Cert c)) ≡ object_at (objects s h) (key_of (Cert c)) → object_at (objects s (e ∷ h)) (target_key c) ≡ object_at (objects s h) (target_key c)
    → MayGive (open_pass s h pass) value → AllWell s h k n seen since c does → IfSome (given n pass value (open_pass s h n)) (GoesWell s (e ∷ h) (e ∷ k) n seen since c does)
given_well s e h k pass n seen since c does value x y may well =
    over_own_entry (λ q. (open_pass s h n ≡ Some q) × GoesWell s h k n seen since c does q) (GoesWell s (e ∷ h) (e ∷ k) n seen since c does) n pass (λ (q : OpenPass). stage_given value q.stage) (open_pass s h n)
    (λ here q holds.
    let one : n ≡ pass = same_number n pass here in
    let its : open_pass s h pass ≡ Some q = ap (open_pass s h) (sym one) ∙ holds.0 in
    absurd (no_value s h k n c seen.secret does q.stage value holds.1.stands (subst (λ (z : Option OpenPass). MayGive z value) its may)))
    (λ there q holds. well_more s e h k n seen since c does q x y holds.1)
    (with_equation (GoesWell s h k n seen since c does) (open_pass s h n) well)

-- ---- histories

-- it was begun, so that no later pass has its number
begun_more : (s : Setting) (e : Entry) (h : List Entry) (n : ℕ) → n ≤ begun s h → n ≤ begun s (e ∷ h)
begun_more s (Begin pass role key at now) h n low = omega (arith, low)
begun_more s other h n low = low

not_begun : (s : Setting) (n pass : ℕ) (h : List Entry) → n ≤ begun s h → pass ≡ begun s h + 1 → (n == pass) ≡ true → ⊥
not_begun s n pass h low numbered same = omega (arith, low, numbered, same_number n pass same)

begun_low : (s : Setting) (k base : List Entry) (n : ℕ) → n ≤ begun s base → n ≤ begun s (k ++ base)
begun_low s [] base n low = low
begun_low s (e ∷ k) base n low = begun_more s e (k ++ base) n (begun_low s k base n low)

-- the pass that begins here is another one
begun_well : (own : Bool) (P : OpenPass → Type 0) (new : OpenPass) (x : Option OpenPass) → (own ≡ true → ⊥) → IfSome x P → IfSome (if own then Some new else x) P
begun_well true P new x other well = absurd (other refl)
begun_well false P new x other well = well

goes : (s : Setting) (base : List Entry) (n : ℕ) (seen : Views) (since : ℤ) (c : Certificate) (does : Act) (a b : Key) (k : List Entry) → IsScene s seen since c does → AreKeys c a b → n ≤ begun s base
    → AllWell s base [] n seen since c does → AreQuiet s base n a b k → IsLegal s (k ++ base) → IsCaused s (k ++ base) → AllWell s (k ++ base) k n seen since c does
unfolding IsLegal IsCaused AreQuiet
goes s base n seen since c does a b [] scene keys low start quiet legal caused = start
goes s base n seen since c does a b (e ∷ k) scene keys low start quiet legal caused =
    step e quiet.0 legal.0 caused.0 (goes s base n seen since c does a b k scene keys low start quiet.1 legal.1 caused.1) where
      h : List Entry
      h = k ++ base

      more : (e : Entry) → object_at (objects s (e ∷ h)) (key_of (Cert c)) ≡ object_at (objects s h) (key_of (Cert c)) → object_at (objects s (e ∷ h)) (target_key c) ≡ object_at (objects s h) (target_key c)
          → AllWell s h k n seen since c does → IfSome (open_pass s h n) (GoesWell s (e ∷ h) (e ∷ k) n seen since c does)
      more e x y well = longer s e h k n seen since c does (open_pass s h n) x y well

      step : (e : Entry) → IsQuietEntry s h n a b e → IsLegalEntry s h e → IsCausedEntry s h e → AllWell s h k n seen since c does → AllWell s (e ∷ h) (e ∷ k) n seen since c does
      step (Called User call reply) q l d well =
          let apart = quiet_apart a b (key_of (Cert c)) (target_key c) (is_accepted reply) keys.certificate keys.target (settled call reply) q in
          more (Called User call reply) (keeps_at s h (settled call reply) (is_accepted reply) (key_of (Cert c)) apart.0) (keeps_at s h (settled call reply) (is_accepted reply) (target_key c) apart.1) well
      step (Called (Pass m) call reply) q l d well = called_well s h k m n seen since c does a b call reply (n == m) refl keys legal.1 scene d l.0 q well
      step (Begin pass role key at now) q l d well =
          begun_well (n == pass) (GoesWell s (Begin pass role key at now ∷ h) (Begin pass role key at now ∷ k) n seen since c does) (new_pass role key (views s h role key) now) (open_pass s h n)
          (λ same. not_begun s n pass h (begun_low s k base n low) l.numbered same) (more (Begin pass role key at now) refl refl well)
      step (Ask pass order) q l d well = asked_well s h k pass n seen since c does order scene d well
      step (Made pass key) q l d well = given_well s (Made pass key) h k pass n seen since c does (values.Made key) refl refl d well
      step (Signed pass signature) q l d well = given_well s (Signed pass signature) h k pass n seen since c does (values.Signed signature) refl refl d well
      step (Answered pass answer) q l d well = given_well s (Answered pass answer) h k pass n seen since c does (values.Answered answer) refl refl d well
      step (Judged pass approved) q l d well = given_well s (Judged pass approved) h k pass n seen since c does (values.Judged approved) refl refl d well
      step (End pass cause) q l d well = over_end (GoesWell s (End pass cause ∷ h) (End pass cause ∷ k) n seen since c does) (n == pass) (open_pass s h n) (more (End pass cause) refl refl well)
      step (Stop role) q l d well = over_stop (GoesWell s (Stop role ∷ h) (Stop role ∷ k) n seen since c does) role (open_pass s h n) (more (Stop role) refl refl well)
      step (Script x) q l d well = more (Script x) refl refl well
      step (Deliver role kind to) q l d well = more (Deliver role kind to) refl refl well
      step (Listed role kind to) q l d well = more (Listed role kind to) refl refl well
      step (Start role at) q l d well = more (Start role at) refl refl well
      step (Tick now) q l d well = more (Tick now) refl refl well

-- ---- the end

-- with its last stage it has done all
ends : (s : Setting) (h k : List Entry) (n : ℕ) (c : Certificate) (target : Option SecretObject) (does : Act) (stage : Stage) (cause : Cause) → IsPlan does → StandsAt s h k n c target does stage → EndsBy stage does cause
    → IsCarriedOut k n does × (cause ≡ causes.Wrote)
ends s h k n c target does Fresh cause plan stands by = absurd (subst IsPlan by.0 plan)
ends s h k n c target does (Asked order) cause plan stands by = absurd by
ends s h k n c target does (Given order value) cause plan stands by = absurd by
ends s h k n c target does Read cause plan stands by = absurd by
ends s h k n c target does Saved cause plan stands by = absurd by
ends s h k n c target does Wrote cause plan stands by = (stands, by)
ends s h k n c target does (Refused entry obstacle) cause plan stands by = absurd stands
ends s h k n c target does Barred cause plan stands by = absurd by

ended : (s : Setting) (h k : List Entry) (n : ℕ) (seen : Views) (since : ℤ) (c : Certificate) (does : Act) (cause : Cause) (x : Option OpenPass) → IsScene s seen since c does → IfSome x (GoesWell s h k n seen since c does)
    → MayEnd s h x cause → IsCarriedOut k n does × (cause ≡ causes.Wrote)
ended s h k n seen since c does cause None scene well may = absurd may
ended s h k n seen since c does cause (Some q) scene well may =
    ends s h k n c seen.secret does q.stage cause scene.plan well.stands (subst (λ (d : Act). EndsBy q.stage d cause) (its_act s h k n seen since c does q scene well) may)

-- ---- what the pass saw is what stood

is_certificate : (x : Option Object) (c : Certificate) → option_and_then certificate_in x ≡ Some c → x ≡ Some (Cert c)
is_certificate None c is = absurd (cc is)
is_certificate (Some (Cert d)) c is = ap (λ (x : Certificate). Some (Cert x)) (let one : d ≡ c = cc is in one)
is_certificate (Some (Request r)) c is = absurd (cc is)
is_certificate (Some (Secret k)) c is = absurd (cc is)

-- under the key of a Secret nothing else stands
is_secret : (key : Key) (x : Option Object) (target : Option SecretObject) → key.kind ≡ kinds.Secret → ((o : Object) → x ≡ Some o → key_of o ≡ key) → target ≡ option_and_then secret_in x → x ≡ option_map Secret target
is_secret key None target kind keyed is = ap (option_map Secret) (sym is)
is_secret key (Some (Secret k)) target kind keyed is = ap (option_map Secret) (sym is)
is_secret key (Some (Cert c)) target kind keyed is =
    absurd (let other : kinds.Certificate ≡ kinds.Secret = ap (λ (q : Key). q.kind) (keyed (Cert c) refl) ∙ kind in cc other)
is_secret key (Some (Request r)) target kind keyed is =
    absurd (let other : kinds.CertificateRequest ≡ kinds.Secret = ap (λ (q : Key). q.kind) (keyed (Request r) refl) ∙ kind in cc other)

present_certificate : (s : Setting) (h : List Entry) (key : Key) → (present_views s h roles.Issuing key).certificate ≡ certificate_at (objects s h) key
unfolding views_in views_of
present_certificate s h key = refl

present_target : (s : Setting) (h : List Entry) (key : Key) → (present_views s h roles.Issuing key).secret ≡ option_and_then (target_at (objects s h)) (certificate_at (objects s h) key)
unfolding views_in views_of
present_target s h key = refl

named_target : (seen : Views) (c : Certificate) (target : Option SecretObject) → seen.secret ≡ target → seen.certificate ≡ Some c → IsWellSeen seen → IsNamed c target
named_target seen c None is sees well = tt
named_target seen c (Some k) is sees well =
    λ i. record { kind = kinds.Secret; namespace = (well.target_namespace c k sees is) i; name = (well.target_name c k sees is) i }

-- ---- the law

scene_of : (s : Setting) (h : List Entry) (key : Key) (now : ℤ) (c : Certificate) → AreSound → IsLegal s h → (views s h roles.Issuing key).certificate ≡ Some c → IsPlan (issuing (views s h roles.Issuing key) now)
    → IsScene s (views s h roles.Issuing key) now c (issuing (views s h roles.Issuing key) now)
unfolding act
scene_of s h key now c sound legal sees plan =
    let seen : Views = views s h roles.Issuing key in
    let well : IsWellSeen seen = views_well s h roles.Issuing key legal in record {
      acts = refl;
      plan = plan;
      sees = sees;
      within = (sound roles.Issuing).within seen now (desk s h roles.Issuing seen) well;
      planned = subst (λ (x : Option Certificate). PlansOf x seen.secret (issuing seen now)) sees (plans seen now);
      named = named_target seen c seen.secret refl sees well;
    }

-- the Certificate and the target stand at the Begin as they are seen
there_of : (s : Setting) (h : List Entry) (key : Key) (c : Certificate) → IsLegal s h → (views s h roles.Issuing key).certificate ≡ Some c
    → (views s h roles.Issuing key).certificate ≡ (present_views s h roles.Issuing key).certificate → (views s h roles.Issuing key).secret ≡ (present_views s h roles.Issuing key).secret
    → AreThere s h c (views s h roles.Issuing key).secret
there_of s h key c legal sees certificate target =
    let at : certificate_at (objects s h) key ≡ Some c = sym (present_certificate s h key) ∙ sym certificate ∙ sees in
    let stood : object_at (objects s h) key ≡ Some (Cert c) = is_certificate (object_at (objects s h) key) c at in
    let own : key_of (Cert c) ≡ key = version_keyed s h key (Cert c) legal (stands_is_version s h key (Cert c) stood) in
    let secret : (views s h roles.Issuing key).secret ≡ target_at (objects s h) c = target ∙ present_target s h key ∙ ap (option_and_then (target_at (objects s h))) at in (
      ap (object_at (objects s h)) own ∙ stood,
      is_secret (target_key c) (object_at (objects s h) (target_key c)) (views s h roles.Issuing key).secret refl
          (λ o is. version_keyed s h (target_key c) o legal (stands_is_version s h (target_key c) o is)) secret,
    )

-- the keys of the plan
keys_of_plan : (s : Setting) (base k : List Entry) (n : ℕ) (c : Certificate) (target : Option SecretObject) (does : Act) → IsPlan does → IsNamed c target → PlansFor c target does → IsLeftAlone s base n k does
    → (a : Key) × (b : Key) × AreKeys c a b × AreQuiet s base n a b k
keys_of_plan s base k n c target (Issue plan) is named planned left =
    (plan.get, key_of_call plan.secret, record { certificate = sym planned.0; target = sym (target_called c target plan.secret (for_target false c target plan.secret named planned.1)) }, left)
keys_of_plan s base k n c target (Temporary plan) is named planned left =
    (plan.get, key_of_call plan.secret, record { certificate = sym planned.0; target = sym (target_called c target plan.secret (for_target true c target plan.secret named planned.1)) }, left)
keys_of_plan s base k n c target Nothing is named planned left = absurd is
keys_of_plan s base k n c target (Calls call) is named planned left = absurd is
keys_of_plan s base k n c target (Asks order) is named planned left = absurd is

pub own_number : (n : ℕ) → (n == n) ≡ true
own_number n = (Decides-eqb n n).1 refl

some_by : (x : Option Certificate) (target : Option SecretObject) (does : Act) → PlansOf x target does → IsPlan does → (c : Certificate) × (x ≡ Some c)
some_by None target does of is = absurd (of is)
some_by (Some c) target does of is = (c, refl)

pub legal_below : (s : Setting) (k base : List Entry) → IsLegal s (k ++ base) → IsLegal s base
unfolding IsLegal
legal_below s [] base legal = legal
legal_below s (e ∷ k) base legal = legal_below s k base legal.1

pub caused_below : (s : Setting) (k base : List Entry) → IsCaused s (k ++ base) → IsCaused s base
unfolding IsCaused
caused_below s [] base caused = caused
caused_below s (e ∷ k) base caused = caused_below s k base caused.1

-- a pass of issuing that ends, with a plan and undisturbed since its Begin, is complete
one_completes : AreSound → (s : Setting) (h k : List Entry) (n : ℕ) (key : Key) (at : Positions) (now : ℤ) (cause : Cause)
    → IsLegal s (End n cause ∷ (k ++ (Begin n roles.Issuing key at now ∷ h))) → IsCaused s (End n cause ∷ (k ++ (Begin n roles.Issuing key at now ∷ h)))
    → IsPlan (issuing (views s h roles.Issuing key) now) → IsUndisturbed s h k n key at now → HasCompleted s h k n key now cause
unfolding IsLegal IsCaused
one_completes sound s h k n key at now cause legal caused plan u =
    let seen : Views = views s h roles.Issuing key in
    let does : Act = issuing seen now in
    let base : List Entry = Begin n roles.Issuing key at now ∷ h in
    let one = some_by seen.certificate seen.secret does (plans seen now) plan in
    let below : IsLegal s base = legal_below s k base legal.1 in
    let scene : IsScene s seen now one.0 does = scene_of s h key now one.0 sound below.1 one.1 plan in
    let keys = keys_of_plan s base k n one.0 seen.secret does plan scene.named scene.planned u.left_alone in
    let opened : open_pass s base n ≡ Some (new_pass roles.Issuing key seen now) = ap (λ (x : Bool). if x then Some (new_pass roles.Issuing key seen now) else open_pass s h n) (own_number n) in
    let start : AllWell s base [] n seen now one.0 does =
    subst (λ (x : Option OpenPass). IfSome x (GoesWell s base [] n seen now one.0 does)) (sym opened)
    (record { issuing = refl; saw = refl; began = refl; stands = there_of s h key one.0 below.1 one.1 u.certificate u.target }) in
    let well : AllWell s (k ++ base) k n seen now one.0 does = goes s base n seen now one.0 does keys.0 keys.1 k scene keys.2 (omega (arith, below.0.numbered)) start keys.3 legal.1 caused.1 in
    let done = ended s (k ++ base) k n seen now one.0 does cause (open_pass s (k ++ base) n) scene well caused.0 in
    record { done = done.0; wrote = done.1 }

pub completes : AreSound → (s : Setting) (whole : List Entry) → IsLegal s whole → IsCaused s whole → CompletesIssuing s whole
completes sound s whole legal caused l k h n key at now cause is plan u =
    let top : List Entry = End n cause ∷ (k ++ (Begin n roles.Issuing key at now ∷ h)) in
    one_completes sound s h k n key at now cause (legal_below s l top (subst (IsLegal s) is legal)) (caused_below s l top (subst (IsCaused s) is caused)) plan u
