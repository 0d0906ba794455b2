-- A store has one right reply to a call.
use Rattle.std.proofs.Common.{◌≡◌, ◌∙◌, ℕ, ◌+◌, ◌==◌, Bool, true, false, List, Option, Some, None, MatchBool, inl, inr, sym}
use Rattle.std.specs.Prelude.{if◌then◌else◌}
use Rattle.std.specs.List.{list_any}
use Rattle.cmc_objects.specs.declared.object.Object.{Object}
use Rattle.cmc_objects.specs.declared.call.Call.{Call}
use Rattle.cmc_objects.specs.declared.call.Call.TheVariants.{Create, Update, UpdateStatus, Delete, Get}
use Rattle.cmc_objects.specs.declared.call.Reply.{Reply}
use Rattle.cmc_objects.specs.declared.call.Reply.TheVariants.{Ok, Conflict, Unavailable}
use Rattle.cmc_objects.specs.Objects.{key_of, name_of, version_of}
use Rattle.cmc_model.specs.Objects.{Objects, object_at}
use Rattle.cmc_model.specs.Stored.{updated, with_status}
use Rattle.cmc_model.specs.Admission.{is_taken, refusing_rule}
use Rattle.cmc_model.specs.Generated.{free_named}
use Rattle.cmc_model.specs.Replies.{State, IsAdmitted, IsChange, IsCreated, IsAtVersion, IsUpdated, IsRestated, IsDeleted, IsGot, IsServed, IsReply}

-- a test that is the same for both replies leaves the same line for both
by_test : (b : Bool) (A B C D : Type 0) (r q : Reply) → (A → B → r ≡ q) → (C → D → r ≡ q) → MatchBool b A C → MatchBool b B D → r ≡ q
by_test true A B C D r q one other x y = one x y
by_test false A B C D r q one other x y = other x y

one_admitted : (o : Option ℕ) (A B : Type 0) (r q : Reply) → (A → B → r ≡ q) → IsAdmitted o A r → IsAdmitted o B q → r ≡ q
one_admitted None A B r q one x y = one x y
one_admitted (Some rule) A B r q one x y = x ∙ sym y

one_at_version : (named : ℕ) (old : Object) (A B : Type 0) (r q : Reply) → (A → B → r ≡ q) → IsAtVersion named old A r → IsAtVersion named old B q → r ≡ q
one_at_version named old A B r q one x y =
    by_test (named == version_of old) A B (r ≡ Conflict named (version_of old)) (q ≡ Conflict named (version_of old)) r q one (λ e f. e ∙ sym f) x y

one_change : (accepted : ℕ) (name : List ℕ) (old new : Object) (r q : Reply) → IsChange accepted name old new r → IsChange accepted name old new q → r ≡ q
one_change accepted name old new r q (inl x) (inl y) = x.1 ∙ sym y.1
one_change accepted name old new r q (inl x) (inr y) = absurd (y.0 x.0)
one_change accepted name old new r q (inr x) (inl y) = absurd (x.0 y.0)
one_change accepted name old new r q (inr x) (inr y) = x.1 ∙ sym y.1

one_created : (accepted : ℕ) (taken : Bool) (object : Object) (o : Option Object) (r q : Reply) → IsCreated accepted taken object o r → IsCreated accepted taken object o q → r ≡ q
one_created accepted taken object None r q x y =
    one_admitted (refusing_rule None object false taken) (r ≡ Ok (accepted + 1) (name_of object)) (q ≡ Ok (accepted + 1) (name_of object)) r q (λ e f. e ∙ sym f) x y
one_created accepted taken object (Some old) r q x y = x ∙ sym y

-- a write in place of the old object: a rule refuses it, or it changes the object or not
one_written : (accepted : ℕ) (rule : Option ℕ) (name : List ℕ) (named : ℕ) (old new : Object) (r q : Reply)
    → IsAtVersion named old (IsAdmitted rule (IsChange accepted name old new r) r) r
    → IsAtVersion named old (IsAdmitted rule (IsChange accepted name old new q) q) q
    → r ≡ q
one_written accepted rule name named old new r q x y =
    one_at_version named old (IsAdmitted rule (IsChange accepted name old new r) r) (IsAdmitted rule (IsChange accepted name old new q) q) r q
    (one_admitted rule (IsChange accepted name old new r) (IsChange accepted name old new q) r q (one_change accepted name old new r q)) x y

one_updated : (accepted : ℕ) (taken : Bool) (object : Object) (named : ℕ) (o : Option Object) (r q : Reply) → IsUpdated accepted taken object named o r → IsUpdated accepted taken object named o q → r ≡ q
one_updated accepted taken object named None r q x y = x ∙ sym y
one_updated accepted taken object named (Some old) r q x y = one_written accepted (refusing_rule (Some old) object false taken) (name_of object) named old (updated old object) r q x y

one_restated : (accepted : ℕ) (object : Object) (named : ℕ) (o : Option Object) (r q : Reply) → IsRestated accepted object named o r → IsRestated accepted object named o q → r ≡ q
one_restated accepted object named None r q x y = x ∙ sym y
one_restated accepted object named (Some old) r q x y = one_written accepted (refusing_rule (Some old) object true false) (name_of object) named old (with_status old object) r q x y

one_deleted : (accepted : ℕ) (named : Option ℕ) (name : List ℕ) (o : Option Object) (r q : Reply) → IsDeleted accepted named name o r → IsDeleted accepted named name o q → r ≡ q
one_deleted accepted named name None r q x y = x ∙ sym y
one_deleted accepted None name (Some old) r q x y = x ∙ sym y
one_deleted accepted (Some named) name (Some old) r q x y =
    one_at_version named old (r ≡ Ok (accepted + 1) name) (q ≡ Ok (accepted + 1) name) r q (λ e f. e ∙ sym f) x y

one_got : (accepted : ℕ) (o : Option Object) (r q : Reply) → IsGot accepted o r → IsGot accepted o q → r ≡ q
one_got accepted None r q x y = x ∙ sym y
one_got accepted (Some old) r q x y = x ∙ sym y

one_served : (accepted : ℕ) (objects : Objects) (call : Call) (r q : Reply) → IsServed accepted objects call r → IsServed accepted objects call q → r ≡ q
one_served accepted objects (Create object generate) r q x y =
    let made : Object = if generate then free_named (accepted + 1) objects object else object in
    one_created accepted (is_taken objects made) made (object_at objects (key_of made)) r q x y
one_served accepted objects (Update object named) r q x y = one_updated accepted (is_taken objects object) object named (object_at objects (key_of object)) r q x y
one_served accepted objects (UpdateStatus object named) r q x y = one_restated accepted object named (object_at objects (key_of object)) r q x y
one_served accepted objects (Delete key named) r q x y = one_deleted accepted named key.name (object_at objects key) r q x y
one_served accepted objects (Get key) r q x y = one_got accepted (object_at objects key) r q x y

-- of two right replies to one call of one state the one is the other
pub one_reply : (faults : List ℕ) (st : State) (call : Call) (r q : Reply) → IsReply faults st call r → IsReply faults st call q → r ≡ q
one_reply faults st call r q x y =
    by_test (list_any (λ n. n == st.calls + 1) faults) (r ≡ Unavailable (st.calls + 1)) (q ≡ Unavailable (st.calls + 1)) (IsServed st.accepted st.objects call r) (IsServed st.accepted st.objects call q) r q
    (λ e f. e ∙ sym f) (one_served st.accepted st.objects call r q) x y
