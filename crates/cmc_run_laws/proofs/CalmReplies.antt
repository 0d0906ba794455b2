-- The store answers a call by what its pass saw, where that stands.
use Rattle.std.proofs.Common.{◌≡◌, ◌==◌, ℕ, ℤ, ◌+◌, List, Option, Some, None, Bool, true, false, refl, sym, ap, subst, ◌∙◌, inl, inr, arith}
use Rattle.std.proofs.lemmas.Bool.Decides.{nat_tests}
use Rattle.std.specs.Prelude.{MatchBool}
use Rattle.std.specs.List.{list_any}
use Rattle.cmc_meta.specs.declared.key.Key.{Key}
use Rattle.cmc_objects.specs.declared.certificate.Certificate.{Certificate}
use Rattle.cmc_objects.specs.declared.object.Object.{Object}
use Rattle.cmc_objects.specs.declared.object.Object.TheVariants.{Cert}
use Rattle.cmc_objects.specs.declared.call.Call.{Call}
use Rattle.cmc_objects.specs.declared.call.Call.TheVariants.{Create, Update, UpdateStatus, Delete, Get}
use Rattle.cmc_objects.specs.declared.call.Reply.{Reply}
use Rattle.cmc_objects.specs.declared.call.Reply.TheVariants.{Ok, Conflict, Unavailable}
use Rattle.cmc_objects.specs.declared.entry.Entry.{Entry}
use Rattle.cmc_objects.specs.Objects.{key_of, version_of, name_of}
use Rattle.cmc_pass.specs.declared.pass.Views.{Views}
use Rattle.cmc_model.specs.Admission.{refusing_rule, is_taken}
use Rattle.cmc_model.specs.Generated.{named, free_named}
use Rattle.cmc_model.specs.Objects.{Objects, object_at}
use Rattle.cmc_model.specs.Replies.{IsAdmitted, IsChange, IsCreated, IsUpdated, IsRestated, IsDeleted, IsGot, IsServed, IsReply, key_of_call}
use Rattle.cmc_model.specs.Stored.{updated, with_status}
use Rattle.cmc_model.specs.Histories.{Setting, state, objects, accepted}
use Rattle.cmc_rules.specs.Safety.{IsStatusUpdate}
use Rattle.cmc_rules.specs.SeenObjects.{IsSeen, OnSeen}
use Rattle.cmc_rules.specs.Sound.{IsRaiseOf}
use Rattle.cmc_store_laws.specs.Names.{IsFresh}
use Rattle.cmc_run_laws.specs.Calm.{IsCalmReply}
use Rattle.cmc_run_laws.proofs.CalmViews.{StandsSeen}

admitted : (rule : Option ℕ) (served : Type 0) (reply : Reply) → rule ≡ None → IsAdmitted rule served reply → served
admitted None served reply passes right = right
admitted (Some rule) served reply passes right = absurd (cc passes)

changed : (n : ℕ) (name : List ℕ) (old new : Object) (reply : Reply) → IsChange n name old new reply → IsCalmReply reply
changed n name old new reply (inl same) = subst IsCalmReply (sym same.1) tt
changed n name old new reply (inr other) = subst IsCalmReply (sym other.1) tt

at_version : (at : Bool) (named : ℕ) (old : Object) (served : Type 0) (reply : Reply) → (named == version_of old) ≡ at → version_of old ≡ named → MatchBool at served (reply ≡ Conflict named (version_of old)) → served
at_version true named old served reply e same right = right
at_version false named old served reply e same right = absurd (grind (arith, nat_tests))

-- ---- each kind of call

created : (n : ℕ) (taken : Bool) (object : Object) (old : Option Object) (reply : Reply) → old ≡ None → refusing_rule None object false taken ≡ None → IsCreated n taken object old reply → IsCalmReply reply
created n taken object None reply none passes right =
    subst IsCalmReply (sym (admitted (refusing_rule None object false taken) (reply ≡ Ok (n + 1) (name_of object)) reply passes right)) tt
created n taken object (Some old) reply none passes right = absurd (cc none)

updated_calm : (n : ℕ) (taken : Bool) (object old : Object) (named : ℕ) (x : Option Object) (reply : Reply) → x ≡ Some old → version_of old ≡ named → refusing_rule (Some old) object false taken ≡ None
    → IsUpdated n taken object named x reply → IsCalmReply reply
updated_calm n taken object old named x reply there same passes right =
    let made : IsUpdated n taken object named (Some old) reply = subst (λ (o : Option Object). IsUpdated n taken object named o reply) there right in
    changed n (name_of object) old (updated old object) reply
    (admitted (refusing_rule (Some old) object false taken) (IsChange n (name_of object) old (updated old object) reply) reply passes (at_version (named == version_of old) named old _ reply refl same made))

restated_calm : (n : ℕ) (object old : Object) (named : ℕ) (x : Option Object) (reply : Reply) → x ≡ Some old → version_of old ≡ named → refusing_rule (Some old) object true false ≡ None
    → IsRestated n object named x reply → IsCalmReply reply
restated_calm n object old named x reply there same passes right =
    let made : IsRestated n object named (Some old) reply = subst (λ (o : Option Object). IsRestated n object named o reply) there right in
    changed n (name_of object) old (with_status old object) reply
    (admitted (refusing_rule (Some old) object true false) (IsChange n (name_of object) old (with_status old object) reply) reply passes (at_version (named == version_of old) named old _ reply refl same made))

deleted_calm : (n : ℕ) (named : ℕ) (name : List ℕ) (old : Object) (x : Option Object) (reply : Reply) → x ≡ Some old → version_of old ≡ named → IsDeleted n (Some named) name x reply → IsCalmReply reply
deleted_calm n named name old x reply there same right =
    let made : IsDeleted n (Some named) name (Some old) reply = subst (λ (o : Option Object). IsDeleted n (Some named) name o reply) there right in
    subst IsCalmReply (sym (at_version (named == version_of old) named old (reply ≡ Ok (n + 1) name) reply refl same made)) tt

-- ---- calls on what is seen

-- what is seen under the key stands there
abbrev pub StandsUnder : Setting → List Entry → Views → Key → Type 0
StandsUnder s h seen key = (o : Object) → IsSeen seen o → key_of o ≡ key → object_at (objects s h) (key_of o) ≡ Some o

-- under the name of a create with a name of its own nothing stands
abbrev pub IsNewName : Setting → List Entry → Call → Type 0
IsNewName s h (Create object false) = object_at (objects s h) (key_of object) ≡ None
IsNewName s h other = Unit {0}

-- a generated name is free, and no rule refuses its object
fresh_calm : (stored : Objects) (object : Object) (reply : Reply) (n : ℕ) (taken : Bool) (made : Object) (old : Option Object) → IsFresh stored object reply → refusing_rule None made false taken ≡ None
    → IsCreated n taken made old reply → IsCalmReply reply
fresh_calm stored object reply n taken made None fresh passes right = created n taken made None reply refl passes right
fresh_calm stored object reply n taken made (Some old) fresh passes right = absurd (subst (IsFresh stored object) right fresh)

served : (P : Option Object → Option Object → Type 0) (s : Setting) (h : List Entry) (seen : Views) (call : Call) (reply : Reply) → StandsUnder s h seen (key_of_call call) → IsNewName s h call
    → ((object : Object) → call ≡ Create object true → IsFresh (objects s h) object reply) → OnSeen P seen call → IsServed (accepted s h) (objects s h) call reply → IsCalmReply reply
unfolding OnSeen free_named
served P s h seen (Create object false) reply stands new fresh on right =
    let taken = is_taken (objects s h) object in
    created (accepted s h) taken object (object_at (objects s h) (key_of object)) reply new (on.passes taken) right
served P s h seen (Create object true) reply stands new fresh on right =
    let made = free_named (accepted s h + 1) (objects s h) object in
    let taken = is_taken (objects s h) made in
    fresh_calm (objects s h) object reply (accepted s h) taken made (object_at (objects s h) (key_of made)) (fresh object refl) ((on _).passes taken) right
served P s h seen (Update object at) reply stands new fresh on right =
    let taken = is_taken (objects s h) object in
    let there : object_at (objects s h) (key_of object) ≡ Some on.old = sym (ap (object_at (objects s h)) on.key) ∙ stands on.old on.sees on.key in
    updated_calm (accepted s h) taken object on.old at (object_at (objects s h) (key_of object)) reply there on.version (on.passes taken) right
served P s h seen (UpdateStatus object at) reply stands new fresh on right =
    let there : object_at (objects s h) (key_of object) ≡ Some on.old = sym (ap (object_at (objects s h)) on.key) ∙ stands on.old on.sees on.key in
    restated_calm (accepted s h) object on.old at (object_at (objects s h) (key_of object)) reply there on.version (on.passes false) right
served P s h seen (Delete key None) reply stands new fresh on right = absurd on
served P s h seen (Delete key (Some at)) reply stands new fresh on right =
    let there : object_at (objects s h) key ≡ Some on.old = sym (ap (object_at (objects s h)) on.key) ∙ stands on.old on.sees on.key in
    deleted_calm (accepted s h) at key.name on.old (object_at (objects s h) key) reply there on.version right
served P s h seen (Get key) reply stands new fresh on right = absurd on

by_fault : (fails : Bool) (number : ℕ) (right : Type 0) (reply : Reply) → (right → IsCalmReply reply) → MatchBool fails (reply ≡ Unavailable number) right → IsCalmReply reply
by_fault true number right reply calm is = subst IsCalmReply (sym is) tt
by_fault false number right reply calm is = calm is

-- each generated name is free
abbrev pub AreFreeNames : Setting → List Entry → Type 0
AreFreeNames s h = (object : Object) (reply : Reply) → IsReply s.faults (state s h) (Create object true) reply → IsFresh (objects s h) object reply

-- the reply to a write for what is seen, where that stands under the key of the call
pub calm_under : (P : Option Object → Option Object → Type 0) (s : Setting) (h : List Entry) (seen : Views) (call : Call) (reply : Reply) → AreFreeNames s h → StandsUnder s h seen (key_of_call call) → IsNewName s h call
    → OnSeen P seen call → IsReply s.faults (state s h) call reply → IsCalmReply reply
calm_under P s h seen call reply free stands new on right =
    by_fault (list_any (λ n. n == (state s h).calls + 1) s.faults) ((state s h).calls + 1) (IsServed (accepted s h) (objects s h) call reply) reply
    (λ is. served P s h seen call reply stands new (λ object made. free object reply (subst (λ (c : Call). IsReply s.faults (state s h) c reply) made right)) on is) right

-- and where all that is seen stands
pub calm_write : (P : Option Object → Option Object → Type 0) (s : Setting) (h : List Entry) (seen : Views) (call : Call) (reply : Reply) → AreFreeNames s h → StandsSeen s h seen → IsNewName s h call
    → OnSeen P seen call → IsReply s.faults (state s h) call reply → IsCalmReply reply
calm_write P s h seen call reply free stands new on right = calm_under P s h seen call reply free (λ o is under. stands o is) new on right

-- the status that ends an issuance, where its Certificate stands
status_served : (s : Setting) (h : List Entry) (seen : Views) (since : ℤ) (c : Certificate) (call : Call) (reply : Reply) → IsStatusUpdate call → OnSeen (IsRaiseOf c since) seen call
    → object_at (objects s h) (key_of (Cert c)) ≡ Some (Cert c) → IsServed (accepted s h) (objects s h) call reply → IsCalmReply reply
unfolding OnSeen
status_served s h seen since c (UpdateStatus object at) reply status on there right =
    let some : Some on.old ≡ Some (Cert c) = (on.changes 0).of_it in
    let same : on.old ≡ Cert c = cc some in
    let stands : object_at (objects s h) (key_of object) ≡ Some on.old = ap (object_at (objects s h)) (sym on.key ∙ ap key_of same) ∙ there ∙ ap Some (sym same) in
    restated_calm (accepted s h) object on.old at (object_at (objects s h) (key_of object)) reply stands on.version (on.passes false) right
status_served s h seen since c (Create object generate) reply status on there right = absurd status
status_served s h seen since c (Update object at) reply status on there right = absurd status
status_served s h seen since c (Delete key at) reply status on there right = absurd status
status_served s h seen since c (Get key) reply status on there right = absurd status

pub calm_status : (s : Setting) (h : List Entry) (seen : Views) (since : ℤ) (c : Certificate) (call : Call) (reply : Reply) → IsStatusUpdate call → OnSeen (IsRaiseOf c since) seen call
    → object_at (objects s h) (key_of (Cert c)) ≡ Some (Cert c) → IsReply s.faults (state s h) call reply → IsCalmReply reply
calm_status s h seen since c call reply status on there right =
    by_fault (list_any (λ n. n == (state s h).calls + 1) s.faults) ((state s h).calls + 1) (IsServed (accepted s h) (objects s h) call reply) reply
    (λ is. status_served s h seen since c call reply status on there is) right

-- the live read of a Certificate that stands
got : (n : ℕ) (o : Object) (x : Option Object) (reply : Reply) → x ≡ Some o → IsGot n x reply → IsCalmReply reply
got n o None reply there right = absurd (cc there)
got n o (Some p) reply there right = subst IsCalmReply (sym right) tt

pub calm_read : (s : Setting) (h : List Entry) (key : Key) (o : Object) (reply : Reply) → object_at (objects s h) key ≡ Some o → IsReply s.faults (state s h) (Get key) reply → IsCalmReply reply
calm_read s h key o reply there right =
    by_fault (list_any (λ n. n == (state s h).calls + 1) s.faults) ((state s h).calls + 1) _ reply (λ is. got (accepted s h) o (object_at (objects s h) key) reply there is) right
