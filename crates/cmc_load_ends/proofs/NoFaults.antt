-- Where no call is to fail, none is answered Unavailable.
use Rattle.std.proofs.Common.{◌≡◌, ◌==◌, ℕ, ◌+◌, List, [], Option, Some, None, Bool, true, false, subst, inl, inr}
use Rattle.std.specs.Prelude.{MatchBool}
use Rattle.cmc_objects.specs.declared.object.Object.{Object}
use Rattle.cmc_objects.specs.declared.call.Call.{Call}
use Rattle.cmc_objects.specs.declared.call.Call.TheVariants.{Create, Update, UpdateStatus, Delete, Get}
use Rattle.cmc_objects.specs.declared.call.Reply.TheVariants.{Ok, Conflict, Unavailable}
use Rattle.cmc_objects.specs.Objects.{key_of, name_of, version_of}
use Rattle.cmc_model.specs.Admission.{is_taken, refusing_rule}
use Rattle.cmc_model.specs.Generated.{free_named}
use Rattle.cmc_model.specs.Objects.{Objects, object_at}
use Rattle.cmc_model.specs.Replies.{State, IsReply, IsServed, IsCreated, IsUpdated, IsRestated, IsDeleted, IsGot, IsChange, IsAdmitted}
use Rattle.cmc_model.specs.Stored.{updated, with_status}

admitted : (rule : Option ℕ) (served : Type 0) (k : ℕ) → IsAdmitted rule served (Unavailable k) → served
admitted None served k right = right
admitted (Some rule) served k right = absurd (cc right)

not_changed : (n : ℕ) (name : List ℕ) (old new : Object) (k : ℕ) → IsChange n name old new (Unavailable k) → ⊥
not_changed n name old new k (inl same) = absurd (let no = same.1 in cc no)
not_changed n name old new k (inr other) = absurd (let no = other.1 in cc no)

at_version : (at : Bool) (named : ℕ) (old : Object) (served : Type 0) (k : ℕ) → MatchBool at served (Unavailable k ≡ Conflict named (version_of old)) → served
at_version true named old served k right = right
at_version false named old served k right = absurd (cc right)

created : (n : ℕ) (taken : Bool) (object : Object) (old : Option Object) (k : ℕ) → IsCreated n taken object old (Unavailable k) → ⊥
created n taken object (Some old) k right = absurd (cc right)
created n taken object None k right = absurd (let no = admitted (refusing_rule None object false taken) (Unavailable k ≡ Ok (n + 1) (name_of object)) k right in cc no)

updates : (n : ℕ) (taken : Bool) (object : Object) (named : ℕ) (x : Option Object) (k : ℕ) → IsUpdated n taken object named x (Unavailable k) → ⊥
updates n taken object named None k right = absurd (cc right)
updates n taken object named (Some old) k right =
    not_changed n (name_of object) old (updated old object) k
    (admitted (refusing_rule (Some old) object false taken) (IsChange n (name_of object) old (updated old object) (Unavailable k)) k
    (at_version (named == version_of old) named old (IsAdmitted (refusing_rule (Some old) object false taken) (IsChange n (name_of object) old (updated old object) (Unavailable k)) (Unavailable k)) k right))

restates : (n : ℕ) (object : Object) (named : ℕ) (x : Option Object) (k : ℕ) → IsRestated n object named x (Unavailable k) → ⊥
restates n object named None k right = absurd (cc right)
restates n object named (Some old) k right =
    not_changed n (name_of object) old (with_status old object) k
    (admitted (refusing_rule (Some old) object true false) (IsChange n (name_of object) old (with_status old object) (Unavailable k)) k
    (at_version (named == version_of old) named old (IsAdmitted (refusing_rule (Some old) object true false) (IsChange n (name_of object) old (with_status old object) (Unavailable k)) (Unavailable k)) k right))

deletes : (n : ℕ) (named : Option ℕ) (name : List ℕ) (x : Option Object) (k : ℕ) → IsDeleted n named name x (Unavailable k) → ⊥
deletes n None name None k right = absurd (cc right)
deletes n (Some named) name None k right = absurd (cc right)
deletes n None name (Some old) k right = absurd (cc right)
deletes n (Some named) name (Some old) k right = absurd (let no = at_version (named == version_of old) named old (Unavailable k ≡ Ok (n + 1) name) k right in cc no)

gets : (n : ℕ) (x : Option Object) (k : ℕ) → IsGot n x (Unavailable k) → ⊥
gets n None k right = absurd (cc right)
gets n (Some old) k right = absurd (cc right)

serves : (n : ℕ) (stored : Objects) (call : Call) (k : ℕ) → IsServed n stored call (Unavailable k) → ⊥
serves n stored (Create object false) k right = created n (is_taken stored object) object (object_at stored (key_of object)) k right
serves n stored (Create object true) k right =
    let made = free_named (n + 1) stored object in created n (is_taken stored made) made (object_at stored (key_of made)) k right
serves n stored (Update object named) k right = updates n (is_taken stored object) object named (object_at stored (key_of object)) k right
serves n stored (UpdateStatus object named) k right = restates n object named (object_at stored (key_of object)) k right
serves n stored (Delete key named) k right = deletes n named key.name (object_at stored key) k right
serves n stored (Get key) k right = gets n (object_at stored key) k right

pub never_unavailable : (faults : List ℕ) (st : State) (call : Call) (k : ℕ) → faults ≡ [] → IsReply faults st call (Unavailable k) → ⊥
never_unavailable faults st call k none right = serves st.accepted st.objects call k (subst (λ (f : List ℕ). IsReply f st call (Unavailable k)) none right)
