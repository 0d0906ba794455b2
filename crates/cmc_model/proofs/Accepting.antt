-- An accepted call found what it names.
use Rattle.std.proofs.Common.{◌≡◌, ◌≢◌, ◌==◌, ◌+◌, ℕ, List, Option, Some, None, Bool, true, false, refl, inl, inr, arith}
use Rattle.std.proofs.lemmas.Bool.Decides.{nat_tests}
use Rattle.std.specs.Prelude.{MatchBool, if◌then◌else◌}
use Rattle.std.specs.List.{list_any}
use Rattle.cmc_objects.specs.declared.object.Object.{Object}
use Rattle.cmc_objects.specs.declared.call.Call.{Call}
use Rattle.cmc_objects.specs.declared.call.Call.TheVariants.{Create, Update, UpdateStatus, Delete, Get}
use Rattle.cmc_objects.specs.declared.call.Reply.{Reply}
use Rattle.cmc_objects.specs.declared.call.Reply.TheVariants.{Ok, Unchanged, Found, Conflict, NotFound, AlreadyExists, Invalid, Unavailable}
use Rattle.cmc_objects.specs.Objects.{key_of, name_of, version_of}
use Rattle.cmc_model.specs.Objects.{Objects, object_at}
use Rattle.cmc_model.specs.Stored.{updated, with_status}
use Rattle.cmc_model.specs.Admission.{is_taken, refusing_rule}
use Rattle.cmc_model.specs.Replies.{State, IsReply, IsServed, IsCreated, IsUpdated, IsRestated, IsDeleted, IsGot, IsChange, IsAdmitted, is_accepted, under_reply, settled}
use Rattle.cmc_model.proofs.Settling.{refused, settled_served}
use Rattle.cmc_model.specs.Acceptance.{IsNamedVersion, IsOnVersion, IsFounded}

changed : (n : ℕ) (name : List ℕ) (old new : Object) (reply : Reply) → IsChange n name old new reply → is_accepted reply ≡ true → new ≢ old
changed n name old new reply (inl same) ok = absurd (refused reply (Unchanged (version_of old)) refl ok same.1)
changed n name old new reply (inr other) ok = other.0

admitted : (rule : Option ℕ) (served : Type 0) (reply : Reply) → IsAdmitted rule served reply → is_accepted reply ≡ true → served × (rule ≡ None)
admitted None served reply right ok = (right, refl)
admitted (Some rule) served reply right ok = absurd (refused reply (Invalid rule) refl ok right)

on_version : (at : Bool) (n named : ℕ) (name : List ℕ) (old new : Object) (rule : Option ℕ) (reply : Reply) → (named == version_of old) ≡ at
    → MatchBool at (IsAdmitted rule (IsChange n name old new reply) reply) (reply ≡ Conflict named (version_of old)) → is_accepted reply ≡ true → IsOnVersion old new named rule
on_version true n named name old new rule reply same right ok =
    let passed = admitted rule (IsChange n name old new reply) reply right ok in
    record { version = grind (arith, nat_tests); change = changed n name old new reply passed.0 ok; passed = passed.1 }
on_version false n named name old new rule reply same right ok = absurd (refused reply (Conflict named (version_of old)) refl ok right)

by_update : (n : ℕ) (taken : Bool) (object : Object) (named : ℕ) (old : Option Object) (reply : Reply) → IsUpdated n taken object named old reply → is_accepted reply ≡ true
    → (o : Object) × (old ≡ Some o) × IsOnVersion o (updated o object) named (refusing_rule (Some o) object false taken)
by_update n taken object named None reply right ok = absurd (refused reply (NotFound n) refl ok right)
by_update n taken object named (Some old) reply right ok =
    (old, refl, on_version (named == version_of old) n named (name_of object) old (updated old object) (refusing_rule (Some old) object false taken) reply refl right ok)

by_status : (n : ℕ) (object : Object) (named : ℕ) (old : Option Object) (reply : Reply) → IsRestated n object named old reply → is_accepted reply ≡ true
    → (o : Object) × (old ≡ Some o) × IsOnVersion o (with_status o object) named (refusing_rule (Some o) object true false)
by_status n object named None reply right ok = absurd (refused reply (NotFound n) refl ok right)
by_status n object named (Some old) reply right ok =
    (old, refl, on_version (named == version_of old) n named (name_of object) old (with_status old object) (refusing_rule (Some old) object true false) reply refl right ok)

by_create : (n : ℕ) (taken : Bool) (object : Object) (old : Option Object) (reply : Reply) → IsCreated n taken object old reply → is_accepted reply ≡ true
    → (old ≡ None) × (refusing_rule None object false taken ≡ None)
by_create n taken object None reply right ok = (refl, (admitted (refusing_rule None object false taken) (reply ≡ Ok (n + 1) (name_of object)) reply right ok).1)
by_create n taken object (Some old) reply right ok = absurd (refused reply (AlreadyExists (version_of old)) refl ok right)

delete_at : (at : Bool) (n named : ℕ) (name : List ℕ) (old : Object) (reply : Reply) → (named == version_of old) ≡ at
    → MatchBool at (reply ≡ Ok (n + 1) name) (reply ≡ Conflict named (version_of old)) → is_accepted reply ≡ true → version_of old ≡ named
delete_at true n named name old reply same right ok = grind (arith, nat_tests)
delete_at false n named name old reply same right ok = absurd (refused reply (Conflict named (version_of old)) refl ok right)

by_delete : (n : ℕ) (named : Option ℕ) (name : List ℕ) (old : Option Object) (reply : Reply) → IsDeleted n named name old reply → is_accepted reply ≡ true
    → (o : Object) × (old ≡ Some o) × IsNamedVersion named o
by_delete n None name None reply right ok = absurd (refused reply (NotFound n) refl ok right)
by_delete n (Some named) name None reply right ok = absurd (refused reply (NotFound n) refl ok right)
by_delete n None name (Some old) reply right ok = (old, refl, tt)
by_delete n (Some named) name (Some old) reply right ok = (old, refl, delete_at (named == version_of old) n named name old reply refl right ok)

by_get : (n : ℕ) (old : Option Object) (reply : Reply) → IsGot n old reply → is_accepted reply ≡ true → ⊥
by_get n None reply right ok = refused reply (NotFound n) refl ok right
by_get n (Some old) reply right ok = refused reply (Found old) refl ok right

pub founded : (n : ℕ) (objects : Objects) (call : Call) (reply : Reply) → IsServed n objects call reply → is_accepted reply ≡ true → IsFounded objects (settled call reply)
unfolding IsFounded settled
founded n objects (Create object generate) reply right ok =
    let made : Object = if generate then under_reply object reply else object in
    by_create n (is_taken objects made) made (object_at objects (key_of made)) reply (settled_served n objects (Create object generate) reply right ok) ok
founded n objects (Update object named) reply right ok = by_update n (is_taken objects object) object named (object_at objects (key_of object)) reply right ok
founded n objects (UpdateStatus object named) reply right ok = by_status n object named (object_at objects (key_of object)) reply right ok
founded n objects (Delete key named) reply right ok = by_delete n named key.name (object_at objects key) reply right ok
founded n objects (Get key) reply right ok = absurd (by_get n (object_at objects key) reply right ok)

pub served_by : (fails : Bool) (st : State) (call : Call) (reply : Reply) → MatchBool fails (reply ≡ Unavailable (st.calls + 1)) (IsServed st.accepted st.objects call reply)
    → is_accepted reply ≡ true → IsServed st.accepted st.objects call reply
served_by true st call reply right ok = absurd (refused reply (Unavailable (st.calls + 1)) refl ok right)
served_by false st call reply right ok = right

-- an accepted call found what it names
pub accepted_found : (faults : List ℕ) (st : State) (call : Call) (reply : Reply) → IsReply faults st call reply → is_accepted reply ≡ true → IsFounded st.objects (settled call reply)
accepted_found faults st call reply right ok = founded st.accepted st.objects call reply (served_by (list_any (λ n. n == st.calls + 1) faults) st call reply right ok) ok
