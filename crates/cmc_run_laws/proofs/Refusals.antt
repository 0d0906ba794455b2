-- A pass that is refused was refused for a write of which its role has not been told.
use Rattle.std.proofs.Common.{◌≡◌, ◌==◌, ℕ, ℤ, ◌+◌, ◌<◌, List, length, Option, Some, None, Bool, true, false, refl, sym, ap, subst, ◌∙◌, inl, inr, arith}
use Rattle.std.proofs.lemmas.Bool.Decides.{Decides-eqb, nat_tests}
use Rattle.std.specs.Prelude.{MatchBool, nat_le}
use Rattle.std.specs.List.{list_any}
use Rattle.cmc_meta.specs.declared.key.Key.{Key}
use Rattle.cmc_meta.specs.declared.key.Kind.{Kind}
use Rattle.cmc_meta.specs.declared.key.Kind.TheVariants as kinds
use Rattle.cmc_objects.specs.declared.certificate.Certificate.{Certificate}
use Rattle.cmc_objects.specs.declared.secret.Secret.{Secret as SecretObject}
use Rattle.cmc_objects.specs.declared.object.Object.{Object}
use Rattle.cmc_objects.specs.declared.object.Object.TheVariants.{Cert}
use Rattle.cmc_objects.specs.declared.call.Call.{Call}
use Rattle.cmc_objects.specs.declared.call.Call.TheVariants.{Create, Update, UpdateStatus, Delete, Get}
use Rattle.cmc_objects.specs.declared.call.Reply.{Reply}
use Rattle.cmc_objects.specs.declared.call.Reply.TheVariants.{Ok, Unchanged, Found, Conflict, NotFound, AlreadyExists, Invalid, Unavailable}
use Rattle.cmc_objects.specs.declared.role.Role.{Role}
use Rattle.cmc_objects.specs.declared.role.Role.TheVariants as roles
use Rattle.cmc_objects.specs.declared.entry.Entry.{Entry}
use Rattle.cmc_objects.specs.declared.entry.Positions.{Positions}
use Rattle.cmc_objects.specs.Objects.{key_of, name_of, version_of}
use Rattle.cmc_objects.specs.Informers.{looks_at_secret}
use Rattle.cmc_pass.specs.declared.pass.Views.{Views}
use Rattle.cmc_pass.specs.declared.pass.Act.{Act}
use Rattle.cmc_model.specs.Admission.{is_taken, refusing_rule}
use Rattle.cmc_model.specs.Generated.{free_named}
use Rattle.cmc_model.specs.Histories.{Setting, state, objects}
use Rattle.cmc_model.specs.Objects.{Objects, object_at}
use Rattle.cmc_model.specs.Replies.{State, IsReply, IsServed, IsCreated, IsUpdated, IsRestated, IsDeleted, IsGot, IsChange, IsAdmitted, key_of_call}
use Rattle.cmc_model.specs.Stored.{updated, with_status}
use Rattle.cmc_model.specs.Writes.{writes, last_under}
use Rattle.cmc_rules.specs.declared.progress.OpenPass.{OpenPass}
use Rattle.cmc_rules.specs.declared.progress.Stage.{Stage}
use Rattle.cmc_rules.specs.declared.progress.Stage.TheVariants.{Fresh, Asked, Given, Read, Saved, Wrote, Refused, Barred}
use Rattle.cmc_rules.specs.Acts.{call_after}
use Rattle.cmc_rules.specs.Causes.{act_of, after_of, IsNextCall, IsSecretCall}
use Rattle.cmc_rules.specs.Desks.{desk}
use Rattle.cmc_rules.specs.Issuance.{issuing, secret_call, new_target}
use Rattle.cmc_rules.specs.Legality.{IsLegal}
use Rattle.cmc_rules.specs.Passes.{is_as_seen, stage_after, stage_by, stage_read, stage_written, is_temporary_act}
use Rattle.cmc_rules.specs.Positions.{cache, position_of, positions}
use Rattle.cmc_rules.specs.Safety.{IsStatusUpdate}
use Rattle.cmc_rules.specs.Sameness.{IsStillBehind}
use Rattle.cmc_rules.specs.SeenObjects.{IsPart, OnSeen}
use Rattle.cmc_rules.specs.Sound.{IsWriteAfterValue, IsMarked, IsOrdinary, IsRaiseOf, IsSigned, IsWithin, WritesTarget}
use Rattle.cmc_rules.specs.Views.{caches, views}
use Rattle.cmc_rules.proofs.Seen.{seen_is_version}
use Rattle.cmc_rules.proofs.Versions.{version_keyed}
use Rattle.cmc_store_laws.specs.Names.{IsFresh}
use Rattle.cmc_safety.proofs.Course.{live_at}
use Rattle.cmc_safety.proofs.NextCalls.{IsCallAt, IsLiveCall, ReadsObject, found_is_read}
use Rattle.cmc_safety.proofs.Plans.{act_of_issuing}
use Rattle.cmc_run_laws.specs.Begins.{is_accepted_or_failed}
use Rattle.cmc_run_laws.specs.Calm.{IsCalmReply}
use Rattle.cmc_run_laws.proofs.CalmNames.{IsUnnamed, first_is_unnamed, following_is_unnamed}
use Rattle.cmc_run_laws.proofs.CalmReplies.{AreFreeNames, IsNewName, StandsUnder, calm_read, calm_under}
use Rattle.cmc_run_laws.proofs.CalmTargets.{target_write}
use Rattle.cmc_run_laws.proofs.CalmViews.{none_there, target_key}
use Rattle.cmc_run_laws.proofs.Unmoved.{IsToldOf, stands_where_told, unmoved, version_is_last}

-- ---- a reply names the last write under the key of its call

-- the version that the reply names of what stands, if any, is this
abbrev pub NamesLast : ℕ → Reply → Type 0
NamesLast n (Found object) = version_of object ≡ n
NamesLast n (Conflict named have) = have ≡ n
NamesLast n (AlreadyExists have) = have ≡ n
NamesLast n other = Unit {0}

abbrev IsLastObject : ℕ → Option Object → Type 0
IsLastObject n None = Unit {0}
IsLastObject n (Some old) = version_of old ≡ n

replied : (n : ℕ) (reply right : Reply) → NamesLast n right → reply ≡ right → NamesLast n reply
replied n reply right last is = subst (NamesLast n) (sym is) last

last_admitted : (n : ℕ) (rule : Option ℕ) (served : Type 0) (reply : Reply) → (served → NamesLast n reply) → IsAdmitted rule served reply → NamesLast n reply
last_admitted n None served reply last right = last right
last_admitted n (Some rule) served reply last right = replied n reply (Invalid rule) tt right

last_created : (n m : ℕ) (taken : Bool) (object : Object) (old : Option Object) (reply : Reply) → IsLastObject n old → IsCreated m taken object old reply → NamesLast n reply
last_created n m taken object (Some old) reply last right = replied n reply (AlreadyExists (version_of old)) last right
last_created n m taken object None reply last right =
    last_admitted n (refusing_rule None object false taken) (reply ≡ Ok (m + 1) (name_of object)) reply (λ ok. replied n reply (Ok (m + 1) (name_of object)) tt ok) right

-- under a generated name nothing stands
last_generated : (n m : ℕ) (taken : Bool) (stored : Objects) (object made : Object) (old : Option Object) (reply : Reply) → IsFresh stored object reply → IsCreated m taken made old reply → NamesLast n reply
last_generated n m taken stored object made (Some old) reply fresh right = absurd (subst (IsFresh stored object) right fresh)
last_generated n m taken stored object made None reply fresh right = last_created n m taken made None reply tt right

last_change : (n m : ℕ) (name : List ℕ) (old new : Object) (reply : Reply) → IsChange m name old new reply → NamesLast n reply
last_change n m name old new reply (inl same) = replied n reply (Unchanged (version_of old)) tt same.1
last_change n m name old new reply (inr other) = replied n reply (Ok (m + 1) name) tt other.1

last_at : (at : Bool) (n named : ℕ) (old : Object) (served : Type 0) (reply : Reply) → version_of old ≡ n → (served → NamesLast n reply) → MatchBool at served (reply ≡ Conflict named (version_of old)) → NamesLast n reply
last_at true n named old served reply last goes right = goes right
last_at false n named old served reply last goes right = replied n reply (Conflict named (version_of old)) last right

last_updated : (n m : ℕ) (taken : Bool) (object : Object) (named : ℕ) (old : Option Object) (reply : Reply) → IsLastObject n old → IsUpdated m taken object named old reply → NamesLast n reply
last_updated n m taken object named None reply last right = replied n reply (NotFound m) tt right
last_updated n m taken object named (Some old) reply last right =
    last_at (named == version_of old) n named old (IsAdmitted (refusing_rule (Some old) object false taken) (IsChange m (name_of object) old (updated old object) reply) reply) reply last
    (λ is. last_admitted n (refusing_rule (Some old) object false taken) (IsChange m (name_of object) old (updated old object) reply) reply (last_change n m (name_of object) old (updated old object) reply) is) right

last_restated : (n m : ℕ) (object : Object) (named : ℕ) (old : Option Object) (reply : Reply) → IsLastObject n old → IsRestated m object named old reply → NamesLast n reply
last_restated n m object named None reply last right = replied n reply (NotFound m) tt right
last_restated n m object named (Some old) reply last right =
    last_at (named == version_of old) n named old (IsAdmitted (refusing_rule (Some old) object true false) (IsChange m (name_of object) old (with_status old object) reply) reply) reply last
    (λ is. last_admitted n (refusing_rule (Some old) object true false) (IsChange m (name_of object) old (with_status old object) reply) reply (last_change n m (name_of object) old (with_status old object) reply) is) right

last_deleted : (n m : ℕ) (named : Option ℕ) (name : List ℕ) (old : Option Object) (reply : Reply) → IsLastObject n old → IsDeleted m named name old reply → NamesLast n reply
last_deleted n m None name None reply last right = replied n reply (NotFound m) tt right
last_deleted n m (Some named) name None reply last right = replied n reply (NotFound m) tt right
last_deleted n m None name (Some old) reply last right = replied n reply (Ok (m + 1) name) tt right
last_deleted n m (Some named) name (Some old) reply last right =
    last_at (named == version_of old) n named old (reply ≡ Ok (m + 1) name) reply last (λ ok. replied n reply (Ok (m + 1) name) tt ok) right

last_got : (n m : ℕ) (old : Option Object) (reply : Reply) → IsLastObject n old → IsGot m old reply → NamesLast n reply
last_got n m None reply last right = replied n reply (NotFound m) tt right
last_got n m (Some old) reply last right = replied n reply (Found old) last right

last_served : (n m : ℕ) (stored : Objects) (call : Call) (reply : Reply) → ((object : Object) → call ≡ Create object true → IsFresh stored object reply) → IsLastObject n (object_at stored (key_of_call call))
    → IsServed m stored call reply → NamesLast n reply
unfolding free_named
last_served n m stored (Create object false) reply fresh last right = last_created n m (is_taken stored object) object (object_at stored (key_of object)) reply last right
last_served n m stored (Create object true) reply fresh last right =
    let made : Object = free_named (m + 1) stored object in
    last_generated n m (is_taken stored made) stored object made (object_at stored (key_of made)) reply (fresh object refl) right
last_served n m stored (Update object named) reply fresh last right = last_updated n m (is_taken stored object) object named (object_at stored (key_of object)) reply last right
last_served n m stored (UpdateStatus object named) reply fresh last right = last_restated n m object named (object_at stored (key_of object)) reply last right
last_served n m stored (Delete key named) reply fresh last right = last_deleted n m named key.name (object_at stored key) reply last right
last_served n m stored (Get key) reply fresh last right = last_got n m (object_at stored key) reply last right

last_by : (fails : Bool) (n : ℕ) (st : State) (call : Call) (reply : Reply) → ((object : Object) → call ≡ Create object true → IsFresh st.objects object reply) → IsLastObject n (object_at st.objects (key_of_call call))
    → MatchBool fails (reply ≡ Unavailable (st.calls + 1)) (IsServed st.accepted st.objects call reply) → NamesLast n reply
last_by true n st call reply fresh last right = replied n reply (Unavailable (st.calls + 1)) tt right
last_by false n st call reply fresh last right = last_served n st.accepted st.objects call reply fresh last right

last_object : (s : Setting) (h : List Entry) (key : Key) (old : Option Object) → IsLegal s h → object_at (objects s h) key ≡ old → IsLastObject (last_under key (writes s h)) old
last_object s h key None legal is = tt
last_object s h key (Some o) legal is = version_is_last s h key o legal is

names_last : (s : Setting) (h : List Entry) (call : Call) (reply : Reply) → IsLegal s h → AreFreeNames s h → IsReply s.faults (state s h) call reply → NamesLast (last_under (key_of_call call) (writes s h)) reply
names_last s h call reply legal free right =
    last_by (list_any (λ n. n == (state s h).calls + 1) s.faults) (last_under (key_of_call call) (writes s h)) (state s h) call reply
    (λ object made. free object reply (subst (λ (c : Call). IsReply s.faults (state s h) c reply) made right))
    (last_object s h (key_of_call call) (object_at (objects s h) (key_of_call call)) legal refl) right

-- ---- the stage after a reply

-- a pass that was refused was refused for what its role has not been told at these positions; and it has not written
abbrev pub IsUntold : Positions → Stage → Type 0
IsUntold at (Refused entry obstacle) = IsStillBehind obstacle at
IsUntold at Wrote = ⊥
IsUntold at other = Unit {0}

untold_read : (b : Bool) (at : Positions) (entry : ℕ) (kind : Kind) (version : ℕ) → position_of kind at < version → IsUntold at (stage_read b entry kind version)
untold_read true at entry kind version low = tt
untold_read false at entry kind version low = low

-- where the role has not been told of the last write under the key
newer_reply : (at : Positions) (c : Option Certificate) (stand_in : Bool) (stage : Stage) (entry : ℕ) (kind : Kind) (last : ℕ) (reply : Reply) → (is_accepted_or_failed reply ≡ true → ⊥)
    → ((version : ℕ) → reply ≡ Unchanged version → IsUntold at (stage_written stand_in stage)) → NamesLast last reply → position_of kind at < last → IsUntold at (stage_by c stand_in stage entry kind last reply)
newer_reply at c stand_in stage entry kind last (Ok version name) none goes names low = absurd (none refl)
newer_reply at c stand_in stage entry kind last (Unchanged version) none goes names low = goes version refl
newer_reply at c stand_in stage entry kind last (Found o) none goes names low =
    untold_read (is_as_seen c o) at entry kind (version_of o) (subst (λ (n : ℕ). position_of kind at < n) (sym names) low)
newer_reply at c stand_in stage entry kind last (Conflict named have) none goes names low = subst (λ (n : ℕ). position_of kind at < n) (sym names) low
newer_reply at c stand_in stage entry kind last (NotFound found) none goes names low = low
newer_reply at c stand_in stage entry kind last (AlreadyExists have) none goes names low = subst (λ (n : ℕ). position_of kind at < n) (sym names) low
newer_reply at c stand_in stage entry kind last (Invalid rule) none goes names low = tt
newer_reply at c stand_in stage entry kind last (Unavailable number) none goes names low = absurd (none refl)

-- where the reply says that what was seen stands
calm_reply : (at : Positions) (c : Option Certificate) (stand_in : Bool) (stage : Stage) (entry : ℕ) (kind : Kind) (last : ℕ) (reply : Reply) → (is_accepted_or_failed reply ≡ true → ⊥)
    → ((version : ℕ) → reply ≡ Unchanged version → IsUntold at (stage_written stand_in stage)) → IsCalmReply reply → ((o : Object) → reply ≡ Found o → is_as_seen c o ≡ true) → IsUntold at (stage_by c stand_in stage entry kind last reply)
calm_reply at c stand_in stage entry kind last (Ok version name) none goes calm found = absurd (none refl)
calm_reply at c stand_in stage entry kind last (Unchanged version) none goes calm found = goes version refl
calm_reply at c stand_in stage entry kind last (Found o) none goes calm found = subst (λ (b : Bool). IsUntold at (stage_read b entry kind (version_of o))) (sym (found o refl)) tt
calm_reply at c stand_in stage entry kind last (Conflict named have) none goes calm found = absurd calm
calm_reply at c stand_in stage entry kind last (NotFound at_version) none goes calm found = absurd calm
calm_reply at c stand_in stage entry kind last (AlreadyExists have) none goes calm found = absurd calm
calm_reply at c stand_in stage entry kind last (Invalid rule) none goes calm found = absurd calm
calm_reply at c stand_in stage entry kind last (Unavailable number) none goes calm found = absurd (none refl)

-- ---- where the role has been told of the last write under the key of the call

-- the pass saw what its role still sees, and its role was told of the last write under the key of the call
record IsInformed (s : Setting) (h : List Entry) (q : OpenPass) (call : Call) : Type 0 where
  sees : q.seen ≡ views s h q.role q.key
  told : IsToldOf s h q.role (key_of_call call)

stands : (s : Setting) (h : List Entry) (q : OpenPass) (call : Call) → IsLegal s h → IsInformed s h q call → StandsUnder s h q.seen (key_of_call call)
stands s h q call legal i = subst (λ (v : Views). StandsUnder s h v (key_of_call call)) (sym i.sees) (stands_where_told s h q.role q.key (key_of_call call) legal i.told)

live_stands : (s : Setting) (h : List Entry) (q : OpenPass) (call : Call) → IsLegal s h → IsInformed s h q call → (live : IsLiveCall q.role q.seen call) → object_at (objects s h) (key_of (Cert live.certificate)) ≡ Some (Cert live.certificate)
live_stands s h q call legal i live =
    stands s h q call legal i (Cert live.certificate) (inl (subst (λ (x : Option Certificate). IsPart Cert x (Cert live.certificate)) (sym live.sees) refl)) (sym (ap key_of_call live.get))

named : (s : Setting) (h : List Entry) (call : Call) → IsUnnamed call → IsNewName s h call
named s h (Create object false) is = absurd is
named s h (Create object true) is = tt
named s h (Update object at) is = tt
named s h (UpdateStatus object at) is = tt
named s h (Delete key at) is = tt
named s h (Get key) is = tt

status_named : (s : Setting) (h : List Entry) (call : Call) → IsStatusUpdate call → IsNewName s h call
status_named s h (UpdateStatus object at) is = tt
status_named s h other is = absurd is

target_named : (s : Setting) (h : List Entry) (role : Role) (stand_in : Bool) (c : Certificate) (key signed ca : List ℕ) (target : Option SecretObject) → (target ≡ None → object_at (cache s h role kinds.Secret) (target_key c) ≡ None)
    → IsToldOf s h role (key_of_call (secret_call stand_in c key signed ca target)) → IsNewName s h (secret_call stand_in c key signed ca target)
unfolding secret_call new_target
target_named s h role stand_in c key signed ca None none told = unmoved s h role (target_key c) told ∙ none refl
target_named s h role stand_in c key signed ca (Some k) none told = tt

role_at_read : (role : Role) (seen : Views) (since : ℤ) (call : Call) → IsCallAt Read role seen since call → role ≡ roles.Issuing
role_at_read role seen since call (inl at) = at.issues.issuing
role_at_read role seen since call (inr at) = at.stands_in.issuing

-- the Secret of an issuance is made anew only where none is there
secret_named : (s : Setting) (h : List Entry) (q : OpenPass) (call : Call) → IsLegal s h → IsInformed s h q call → IsCallAt Read q.role q.seen q.since call → IsNextCall Read (act_of s h q) (after_of q) call → IsNewName s h call
secret_named s h q call legal i at next =
    let issuing_now : act_of s h q ≡ issuing q.seen q.since = act_of_issuing q.role q.seen q.since (desk s h q.role q.seen) (role_at_read q.role q.seen q.since call at) in
    let w = target_write q.seen q.since call (subst (λ (a : Act). IsSecretCall a call) issuing_now next) in
    let looks : looks_at_secret q.role ≡ true = ap looks_at_secret (role_at_read q.role q.seen q.since call at) in
    subst (IsNewName s h) (sym w.is)
    (target_named s h q.role w.stand_in w.certificate w.key w.signed w.ca q.seen.secret
    (λ none. none_there q.role (caches s h q.role) q.key q.seen w.certificate (λ o is. version_keyed s h (target_key w.certificate) o legal (seen_is_version s h q.role kinds.Secret (target_key w.certificate) o is)) looks i.sees w.sees none)
    (subst (λ (c : Call). IsToldOf s h q.role (key_of_call c)) w.is i.told))

-- so the store answers by what was seen
informed_calm : (s : Setting) (h : List Entry) (q : OpenPass) (stage : Stage) (call : Call) (reply : Reply) → IsLegal s h → AreFreeNames s h → IsWithin q.role (call_after q.role q.seen q.since) q.seen q.since (act_of s h q)
    → IsNextCall stage (act_of s h q) (after_of q) call → IsCallAt stage q.role q.seen q.since call → IsInformed s h q call → IsReply s.faults (state s h) call reply → IsCalmReply reply
informed_calm s h q Fresh call reply legal free within next (inl on) i right =
    calm_under (IsOrdinary q.role q.since) s h q.seen call reply free (stands s h q call legal i) (named s h call (first_is_unnamed q.role q.seen q.since (desk s h q.role q.seen) call within next)) on right
informed_calm s h q Fresh call reply legal free within next (inr live) i right =
    calm_read s h (key_of (Cert live.certificate)) (Cert live.certificate) reply (live_stands s h q call legal i live) (subst (λ (c : Call). IsReply s.faults (state s h) c reply) live.get right)
informed_calm s h q (Given order value) call reply legal free within next on i right =
    calm_under (IsWriteAfterValue q.role q.seen q.since value) s h q.seen call reply free (stands s h q call legal i) (named s h call (following_is_unnamed q.role q.seen q.since order value call on next)) on right
informed_calm s h q Read call reply legal free within next (inl at) i right =
    let P = WritesTarget q.role q.since (IsSigned at.issues.certificate at.issues.request at.issues.file) in
    calm_under P s h q.seen call reply free (stands s h q call legal i) (secret_named s h q call legal i (inl at) next) (subst (OnSeen P q.seen) (sym at.planned) at.issues.secret) right
informed_calm s h q Read call reply legal free within next (inr at) i right =
    let P = WritesTarget q.role q.since (IsMarked at.stands_in.certificate at.stands_in.request at.stands_in.file q.since) in
    calm_under P s h q.seen call reply free (stands s h q call legal i) (secret_named s h q call legal i (inr at) next) (subst (OnSeen P q.seen) (sym at.planned) at.stands_in.secret) right
informed_calm s h q Saved call reply legal free within next at i right =
    let P = IsRaiseOf at.issues.certificate q.since in
    calm_under P s h q.seen call reply free (stands s h q call legal i) (status_named s h call (subst IsStatusUpdate (sym at.planned) at.issues.is_status)) (subst (OnSeen P q.seen) (sym at.planned) at.issues.status) right
informed_calm s h q (Asked order) call reply legal free within next at i right = absurd next
informed_calm s h q Wrote call reply legal free within next at i right = absurd next
informed_calm s h q (Refused entry obstacle) call reply legal free within next at i right = absurd next
informed_calm s h q Barred call reply legal free within next at i right = absurd next

-- and a live read finds it
found_as_seen : (s : Setting) (h : List Entry) (q : OpenPass) (stage : Stage) (call : Call) (o : Object) → IsLegal s h → IsCallAt stage q.role q.seen q.since call → IsInformed s h q call → IsReply s.faults (state s h) call (Found o)
    → is_as_seen q.seen.certificate o ≡ true
found_as_seen s h q stage call o legal at i right =
    let reads = found_is_read s.faults (state s h) call o right in
    let live = live_at s h q.role q.seen q.since stage call o reads at in
    let there : object_at (objects s h) (key_of (Cert live.certificate)) ≡ Some o = subst (λ (c : Call). ReadsObject (objects s h) c o) live.get reads in
    let some : Some o ≡ Some (Cert live.certificate) = sym there ∙ live_stands s h q call legal i live in
    let same : o ≡ Cert live.certificate = cc some in
    ap (λ (x : Option Certificate). is_as_seen x o) live.sees
    ∙ ap (λ (x : Object). version_of x == live.certificate.meta.version) same
    ∙ (Decides-eqb live.certificate.meta.version live.certificate.meta.version).1 refl

-- ---- the law of refusals

by_told : (b : Bool) (s : Setting) (h : List Entry) (q : OpenPass) (call : Call) (reply : Reply) → nat_le (last_under (key_of_call call) (writes s h)) (position_of (key_of_call call).kind (positions h q.role)) ≡ b
    → IsLegal s h → AreFreeNames s h → IsWithin q.role (call_after q.role q.seen q.since) q.seen q.since (act_of s h q) → IsNextCall q.stage (act_of s h q) (after_of q) call → IsCallAt q.stage q.role q.seen q.since call
    → q.seen ≡ views s h q.role q.key → IsReply s.faults (state s h) call reply → (is_accepted_or_failed reply ≡ true → ⊥)
    → ((version : ℕ) → reply ≡ Unchanged version → IsUntold (positions h q.role) (stage_written (is_temporary_act (issuing q.seen q.since)) q.stage)) → IsUntold (positions h q.role) (stage_after s h call reply q)
by_told true s h q call reply e legal free within next at sees right none goes =
    let i : IsInformed s h q call = record { sees = sees; told = grind (arith, nat_tests) } in
    calm_reply (positions h q.role) q.seen.certificate (is_temporary_act (issuing q.seen q.since)) q.stage (length h + 1) (key_of_call call).kind (last_under (key_of_call call) (writes s h)) reply none goes
    (informed_calm s h q q.stage call reply legal free within next at i right)
    (λ o is. found_as_seen s h q q.stage call o legal at i (subst (IsReply s.faults (state s h) call) is right))
by_told false s h q call reply e legal free within next at sees right none goes =
    newer_reply (positions h q.role) q.seen.certificate (is_temporary_act (issuing q.seen q.since)) q.stage (length h + 1) (key_of_call call).kind (last_under (key_of_call call) (writes s h)) reply none goes
    (names_last s h call reply legal free right) (grind (arith, nat_tests))

-- a call of a pass whose role still sees what the pass saw
pub refused_untold : (s : Setting) (h : List Entry) (q : OpenPass) (call : Call) (reply : Reply) → IsLegal s h → AreFreeNames s h → IsWithin q.role (call_after q.role q.seen q.since) q.seen q.since (act_of s h q)
    → IsNextCall q.stage (act_of s h q) (after_of q) call → IsCallAt q.stage q.role q.seen q.since call → q.seen ≡ views s h q.role q.key → IsReply s.faults (state s h) call reply → (is_accepted_or_failed reply ≡ true → ⊥)
    → ((version : ℕ) → reply ≡ Unchanged version → IsUntold (positions h q.role) (stage_written (is_temporary_act (issuing q.seen q.since)) q.stage)) → IsUntold (positions h q.role) (stage_after s h call reply q)
refused_untold s h q call reply legal free within next at sees right none goes =
    by_told (nat_le (last_under (key_of_call call) (writes s h)) (position_of (key_of_call call).kind (positions h q.role))) s h q call reply refl legal free within next at sees right none goes
