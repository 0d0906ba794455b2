-- No rule refuses a call of a pass, and so no open pass is barred.
use Rattle.std.proofs.Common.{◌≡◌, ◌==◌, ◌⊎◌, ◌+◌, ℕ, List, [], ◌∷◌, length, Option, Some, None, Bool, true, false, refl, sym, subst, inl, inr, arith}
use Rattle.std.proofs.lemmas.Bool.Decides.{nat_tests}
use Rattle.std.specs.Prelude.{MatchBool, IfSome}
use Rattle.std.specs.List.{list_any}
use Rattle.cmc_meta.specs.declared.key.Key.{Key}
use Rattle.cmc_meta.specs.declared.key.Kind.{Kind}
use Rattle.cmc_objects.specs.declared.certificate.Certificate.{Certificate}
use Rattle.cmc_objects.specs.declared.object.Object.{Object}
use Rattle.cmc_objects.specs.declared.object.Object.TheVariants.{Cert}
use Rattle.cmc_objects.specs.declared.call.Call.{Call}
use Rattle.cmc_objects.specs.declared.call.Call.TheVariants.{Create, Update, UpdateStatus, Delete, Get}
use Rattle.cmc_objects.specs.declared.call.Reply.{Reply}
use Rattle.cmc_objects.specs.declared.call.Reply.TheVariants.{Ok, Unchanged, Found, Conflict, NotFound, AlreadyExists, Invalid, Unavailable}
use Rattle.cmc_objects.specs.declared.entry.Who.TheVariants.{User, Pass}
use Rattle.cmc_objects.specs.declared.entry.Entry.{Entry}
use Rattle.cmc_objects.specs.declared.entry.Entry.TheVariants.{Call as Called, Begin, Ask, Made, Signed, Answered, Judged, End, Stop}
use Rattle.cmc_objects.specs.Objects.{key_of, name_of, version_of}
use Rattle.cmc_pass.specs.declared.pass.Views.{Views}
use Rattle.cmc_pass.specs.declared.value.Value.{Value}
use Rattle.cmc_pass.specs.declared.value.Value.TheVariants as values
use Rattle.cmc_model.specs.Objects.{Objects, object_at}
use Rattle.cmc_model.specs.Stored.{updated, with_status}
use Rattle.cmc_model.specs.Admission.{is_taken, refusing_rule}
use Rattle.cmc_model.specs.Generated.{free_named}
use Rattle.cmc_model.specs.Replies.{State, IsReply, IsServed, IsCreated, IsCreatedIn, IsUpdated, IsRestated, IsDeleted, IsGot, IsChange, IsAdmitted, key_of_call}
use Rattle.cmc_model.specs.Histories.{Setting, accepted, objects, state}
use Rattle.cmc_model.specs.Writes.{writes, last_under}
use Rattle.cmc_rules.specs.declared.progress.OpenPass.{OpenPass}
use Rattle.cmc_rules.specs.declared.progress.Stage.{Stage}
use Rattle.cmc_rules.specs.declared.progress.Stage.TheVariants.{Fresh, Asked, Given, Read, Saved, Wrote, Refused, Barred}
use Rattle.cmc_rules.specs.Views.{views}
use Rattle.cmc_rules.specs.Issuance.{issuing}
use Rattle.cmc_rules.specs.Passes.{open_pass, is_as_seen, new_pass, stage_read, stage_by, stage_after, stage_given, stage_written, is_temporary_act}
use Rattle.cmc_rules.specs.Legality.{IsLegal}
use Rattle.cmc_rules.specs.Causes.{IsCaused, MayCall}
use Rattle.cmc_rules.specs.SeenObjects.{OnSeen}
use Rattle.cmc_rules.proofs.Carrying.{over_call, over_ask, over_given, over_begin, over_end, over_stop}
use Rattle.cmc_rules.proofs.Sighted.{AreKnown, stands_as_seen}
use Rattle.cmc_safety.specs.MayAct.{IsUnbarred, IsNotBarred, IsNotInvalid, IsNeverInvalid}
use Rattle.cmc_safety.proofs.NextCalls.{IsLiveCall}
use Rattle.cmc_safety.proofs.Course.{AreSound}
use Rattle.cmc_safety.proofs.InProgress.{IsCaller, caller_of}
use Rattle.cmc_safety.proofs.PassWrites.{IsPassWrite, writes_at}

-- ---- right replies

-- the reply names no rule that refuses
abbrev pub IsPassed : Reply → Type 0
IsPassed (Invalid rule) = ⊥
IsPassed other = Unit {0}

replied : (reply right : Reply) → IsPassed right → reply ≡ right → IsPassed reply
replied reply right passed is = subst IsPassed (sym is) passed

-- where no rule refuses the call is served
no_rule : (rule : Option ℕ) (served : Type 0) (reply : Reply) → rule ≡ None → IsAdmitted rule served reply → served
no_rule None served reply passes right = right
no_rule (Some rule) served reply passes right = absurd (cc passes)

passed_created : (n : ℕ) (taken : Bool) (object : Object) (old : Option Object) (reply : Reply) → refusing_rule None object false taken ≡ None → IsCreated n taken object old reply → IsPassed reply
passed_created n taken object (Some old) reply passes right = replied reply (AlreadyExists (version_of old)) tt right
passed_created n taken object None reply passes right =
    replied reply (Ok (n + 1) (name_of object)) tt (no_rule (refusing_rule None object false taken) (reply ≡ Ok (n + 1) (name_of object)) reply passes right)

passed_made : (n : ℕ) (objects : Objects) (object : Object) (reply : Reply) → ((taken : Bool) → refusing_rule None object false taken ≡ None) → IsCreatedIn n objects object reply → IsPassed reply
passed_made n objects object reply passes right = passed_created n (is_taken objects object) object (object_at objects (key_of object)) reply (passes (is_taken objects object)) right

passed_change : (n : ℕ) (name : List ℕ) (old new : Object) (reply : Reply) → IsChange n name old new reply → IsPassed reply
passed_change n name old new reply (inl same) = replied reply (Unchanged (version_of old)) tt same.1
passed_change n name old new reply (inr other) = replied reply (Ok (n + 1) name) tt other.1

-- a write of what was seen, where that is what stands at the version
passed_at : (at : Bool) (n named : ℕ) (name : List ℕ) (old new : Object) (rule : Option ℕ) (reply : Reply) → (named == version_of old) ≡ at → (version_of old ≡ named → rule ≡ None)
    → MatchBool at (IsAdmitted rule (IsChange n name old new reply) reply) (reply ≡ Conflict named (version_of old)) → IsPassed reply
passed_at true n named name old new rule reply test passes right =
    let same : version_of old ≡ named = grind (arith, nat_tests) in
    passed_change n name old new reply (no_rule rule (IsChange n name old new reply) reply (passes same) right)
passed_at false n named name old new rule reply test passes right = replied reply (Conflict named (version_of old)) tt right

passed_delete_at : (at : Bool) (n named : ℕ) (name : List ℕ) (old : Object) (reply : Reply)
    → MatchBool at (reply ≡ Ok (n + 1) name) (reply ≡ Conflict named (version_of old)) → IsPassed reply
passed_delete_at true n named name old reply right = replied reply (Ok (n + 1) name) tt right
passed_delete_at false n named name old reply right = replied reply (Conflict named (version_of old)) tt right

passed_deleted : (n : ℕ) (named : Option ℕ) (name : List ℕ) (old : Option Object) (reply : Reply) → IsDeleted n named name old reply → IsPassed reply
passed_deleted n None name None reply right = replied reply (NotFound n) tt right
passed_deleted n (Some named) name None reply right = replied reply (NotFound n) tt right
passed_deleted n None name (Some old) reply right = replied reply (Ok (n + 1) name) tt right
passed_deleted n (Some named) name (Some old) reply right = passed_delete_at (named == version_of old) n named name old reply right

passed_updated : (n : ℕ) (taken : Bool) (object : Object) (named : ℕ) (old : Option Object) (reply : Reply)
    → ((stood : Object) → old ≡ Some stood → version_of stood ≡ named → refusing_rule (Some stood) object false taken ≡ None) → IsUpdated n taken object named old reply → IsPassed reply
passed_updated n taken object named None reply passes right = replied reply (NotFound n) tt right
passed_updated n taken object named (Some old) reply passes right =
    passed_at (named == version_of old) n named (name_of object) old (updated old object) (refusing_rule (Some old) object false taken) reply refl (passes old refl) right

passed_restated : (n : ℕ) (object : Object) (named : ℕ) (old : Option Object) (reply : Reply)
    → ((stood : Object) → old ≡ Some stood → version_of stood ≡ named → refusing_rule (Some stood) object true false ≡ None) → IsRestated n object named old reply → IsPassed reply
passed_restated n object named None reply passes right = replied reply (NotFound n) tt right
passed_restated n object named (Some old) reply passes right =
    passed_at (named == version_of old) n named (name_of object) old (with_status old object) (refusing_rule (Some old) object true false) reply refl (passes old refl) right

-- the call that is for what was seen is served
passed_served : (P : Option Object → Option Object → Type 0) (s : Setting) (h : List Entry) (seen : Views) (call : Call) (reply : Reply) → IsLegal s h → AreKnown (writes s h) seen
    → OnSeen P seen call → IsServed (accepted s h) (objects s h) call reply → IsPassed reply
unfolding OnSeen free_named
passed_served P s h seen (Create object false) reply legal known on right = passed_made (accepted s h) (objects s h) object reply on.passes right
passed_served P s h seen (Create object true) reply legal known on right =
    passed_made (accepted s h) (objects s h) (free_named (accepted s h + 1) (objects s h) object) reply (on _).passes right
passed_served P s h seen (Update object named) reply legal known on right =
    let taken = is_taken (objects s h) object in
    passed_updated (accepted s h) taken object named (object_at (objects s h) (key_of object)) reply
    (λ stood there at.
    subst (λ (o : Object). refusing_rule (Some o) object false taken ≡ None) (stands_as_seen s h seen (key_of object) named on.old stood legal known on.sees on.version there at) (on.passes taken))
    right
passed_served P s h seen (UpdateStatus object named) reply legal known on right =
    passed_restated (accepted s h) object named (object_at (objects s h) (key_of object)) reply
    (λ stood there at.
    subst (λ (o : Object). refusing_rule (Some o) object true false ≡ None) (stands_as_seen s h seen (key_of object) named on.old stood legal known on.sees on.version there at) (on.passes false))
    right
passed_served P s h seen (Delete key named) reply legal known on right = passed_deleted (accepted s h) named key.name (object_at (objects s h) key) reply right
passed_served P s h seen (Get key) reply legal known on right = absurd on

passed_by : (fails : Bool) (st : State) (call : Call) (reply : Reply) → (IsServed st.accepted st.objects call reply → IsPassed reply)
    → MatchBool fails (reply ≡ Unavailable (st.calls + 1)) (IsServed st.accepted st.objects call reply) → IsPassed reply
passed_by true st call reply passes right = replied reply (Unavailable (st.calls + 1)) tt right
passed_by false st call reply passes right = passes right

passed_got : (n : ℕ) (old : Option Object) (reply : Reply) → IsGot n old reply → IsPassed reply
passed_got n None reply right = replied reply (NotFound n) tt right
passed_got n (Some old) reply right = replied reply (Found old) tt right

-- and so is the live read
passed_read : (s : Setting) (h : List Entry) (call : Call) (key : Key) (reply : Reply) → call ≡ Get key → IsServed (accepted s h) (objects s h) call reply → IsPassed reply
passed_read s h call key reply is right = passed_got (accepted s h) (object_at (objects s h) key) reply (subst (λ (c : Call). IsServed (accepted s h) (objects s h) c reply) is right)

-- no right reply to a pass names a rule
passed_reply : (s : Setting) (h : List Entry) (m : ℕ) (call : Call) (reply : Reply) → IsLegal s h → IsCaller s h m call → IsReply s.faults (state s h) call reply → IsPassed reply
passed_reply s h m call reply legal c right =
    passed_by (list_any (λ n. n == (state s h).calls + 1) s.faults) (state s h) call reply (λ served. by served (writes_at c.pass.stage c.pass.role c.pass.seen c.pass.since call c.at)) right where
      by : IsServed (accepted s h) (objects s h) call reply → OnSeen (IsPassWrite c.pass.role c.pass.seen c.pass.since) c.pass.seen call ⊎ IsLiveCall c.pass.role c.pass.seen call → IsPassed reply
      by served (inl on) = passed_served (IsPassWrite c.pass.role c.pass.seen c.pass.since) s h c.pass.seen call reply legal c.saw.known on served
      by served (inr live) = passed_read s h call (key_of (Cert live.certificate)) reply live.get served

pub passed_call : AreSound → (s : Setting) (h : List Entry) (m : ℕ) (call : Call) (reply : Reply) → IsLegal s h → IsCaused s h → MayCall s h (open_pass s h m) call → IsReply s.faults (state s h) call reply → IsPassed reply
passed_call sound s h m call reply legal caused may right = passed_reply s h m call reply legal (caller_of sound s h m call legal caused may) right

-- ---- how far passes have come

unbarred_written : (stand_in : Bool) (stage : Stage) → IsUnbarred (stage_written stand_in stage)
unbarred_written true Read = tt
unbarred_written false Read = tt
unbarred_written stand_in other = tt

unbarred_read : (b : Bool) (entry : ℕ) (kind : Kind) (version : ℕ) → IsUnbarred (stage_read b entry kind version)
unbarred_read true entry kind version = tt
unbarred_read false entry kind version = tt

unbarred_by : (c : Option Certificate) (stand_in : Bool) (stage : Stage) (entry : ℕ) (kind : Kind) (last : ℕ) (reply : Reply) → IsPassed reply → IsUnbarred (stage_by c stand_in stage entry kind last reply)
unbarred_by c stand_in stage entry kind last (Ok version name) passed = unbarred_written stand_in stage
unbarred_by c stand_in stage entry kind last (Unchanged version) passed = unbarred_written stand_in stage
unbarred_by c stand_in stage entry kind last (Found object) passed = unbarred_read (is_as_seen c object) entry kind (version_of object)
unbarred_by c stand_in stage entry kind last (Invalid rule) passed = absurd passed
unbarred_by c stand_in stage entry kind last other passed = tt

unbarred_after : (s : Setting) (h : List Entry) (call : Call) (reply : Reply) (p : OpenPass) → IsPassed reply → IsUnbarred (stage_after s h call reply p)
unbarred_after s h call reply p passed =
    unbarred_by p.seen.certificate (is_temporary_act (issuing p.seen p.since)) p.stage (length h + 1) (key_of_call call).kind (last_under (key_of_call call) (writes s h)) reply passed

unbarred_given : (value : Value) (stage : Stage) → IsUnbarred stage → IsUnbarred (stage_given value stage)
unbarred_given value Fresh is = tt
unbarred_given value (Asked order) is = tt
unbarred_given value (Given order old) is = tt
unbarred_given value Read is = tt
unbarred_given value Saved is = tt
unbarred_given value Wrote is = tt
unbarred_given value (Refused entry obstacle) is = tt
unbarred_given value Barred is = absurd is

-- no open pass is barred
pub never_barred : AreSound → (s : Setting) (h : List Entry) (n : ℕ) → IsLegal s h → IsCaused s h → IfSome (open_pass s h n) IsNotBarred
unfolding IsLegal IsCaused
never_barred sound s [] n legal caused = tt
never_barred sound s (Called User call reply ∷ h) n legal caused = never_barred sound s h n legal.1 caused.1
never_barred sound s (Called (Pass m) call reply ∷ h) n legal caused =
    let passed = passed_call sound s h m call reply legal.1 caused.1 caused.0 legal.0.0 in
    over_call IsNotBarred n (Pass m) (stage_after s h call reply) (open_pass s h n) (λ p is. unbarred_after s h call reply p passed) (never_barred sound s h n legal.1 caused.1)
never_barred sound s (Begin pass role key at now ∷ h) n legal caused =
    over_begin IsNotBarred (n == pass) (new_pass role key (views s h role key) now) (open_pass s h n) tt (never_barred sound s h n legal.1 caused.1)
never_barred sound s (Ask pass order ∷ h) n legal caused = over_ask IsNotBarred n pass order (open_pass s h n) (λ p is. tt) (never_barred sound s h n legal.1 caused.1)
never_barred sound s (Made pass key ∷ h) n legal caused =
    over_given IsNotBarred n pass (values.Made key) (open_pass s h n) (λ p is. unbarred_given (values.Made key) p.stage is) (never_barred sound s h n legal.1 caused.1)
never_barred sound s (Signed pass signature ∷ h) n legal caused =
    over_given IsNotBarred n pass (values.Signed signature) (open_pass s h n) (λ p is. unbarred_given (values.Signed signature) p.stage is) (never_barred sound s h n legal.1 caused.1)
never_barred sound s (Answered pass answer ∷ h) n legal caused =
    over_given IsNotBarred n pass (values.Answered answer) (open_pass s h n) (λ p is. unbarred_given (values.Answered answer) p.stage is) (never_barred sound s h n legal.1 caused.1)
never_barred sound s (Judged pass approved ∷ h) n legal caused =
    over_given IsNotBarred n pass (values.Judged approved) (open_pass s h n) (λ p is. unbarred_given (values.Judged approved) p.stage is) (never_barred sound s h n legal.1 caused.1)
never_barred sound s (End pass cause ∷ h) n legal caused = over_end IsNotBarred (n == pass) (open_pass s h n) (never_barred sound s h n legal.1 caused.1)
never_barred sound s (Stop role ∷ h) n legal caused = over_stop IsNotBarred role (open_pass s h n) (never_barred sound s h n legal.1 caused.1)
never_barred sound s (other ∷ h) n legal caused = never_barred sound s h n legal.1 caused.1

-- ---- entries

not_invalid : (m : ℕ) (reply : Reply) → IsPassed reply → IsNotInvalid (Pass m) reply
not_invalid m (Invalid rule) passed = absurd passed
not_invalid m other passed = tt

-- no call of a pass is answered that a rule refuses it
pub never_invalid : AreSound → (s : Setting) (h : List Entry) → IsLegal s h → IsCaused s h → IsNeverInvalid h
unfolding IsLegal IsCaused
never_invalid sound s [] legal caused = tt
never_invalid sound s (Called User call reply ∷ h) legal caused = (tt, never_invalid sound s h legal.1 caused.1)
never_invalid sound s (Called (Pass m) call reply ∷ h) legal caused =
    (not_invalid m reply (passed_call sound s h m call reply legal.1 caused.1 caused.0 legal.0.0), never_invalid sound s h legal.1 caused.1)
never_invalid sound s (other ∷ h) legal caused = (tt, never_invalid sound s h legal.1 caused.1)
