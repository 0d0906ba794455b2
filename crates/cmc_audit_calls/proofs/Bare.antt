-- A store answers and stores the same, whatever a call's object says of what the store owns.
use Rattle.std.proofs.Common.{◌≡◌, ℕ, ℤ, ◌+◌, ◌==◌, List, Option, Some, None, Bool, true, false, MatchBool, refl, sym, ap, subst, ◌∙◌}
use Rattle.std.specs.Prelude.{if◌then◌else◌}
use Rattle.std.specs.List.{list_any}
use Rattle.cmc_objects.specs.declared.object.Object.{Object}
use Rattle.cmc_objects.specs.declared.object.Object.TheVariants.{Cert, Request, Secret}
use Rattle.cmc_objects.specs.declared.call.Call.{Call}
use Rattle.cmc_objects.specs.declared.call.Call.TheVariants.{Create, Update, UpdateStatus, Delete, Get}
use Rattle.cmc_objects.specs.declared.call.Reply.{Reply}
use Rattle.cmc_objects.specs.declared.call.Reply.TheVariants.{Ok, Unchanged, Found, Conflict, NotFound, AlreadyExists, Invalid, Unavailable}
use Rattle.cmc_objects.specs.Objects.{key_of, name_of, version_of, meta_of, numbered}
use Rattle.cmc_model.specs.Objects.{Objects, object_at}
use Rattle.cmc_model.specs.Stored.{created, updated, with_status, generation_after, revised, restated}
use Rattle.cmc_model.specs.Admission.{is_taken, refusing_rule}
use Rattle.cmc_model.specs.Generated.{named, free_named, generated_name, free_from, has_number}
use Rattle.cmc_model.specs.Replies.{State, IsReply, IsServed, IsCreated, IsCreatedIn, IsUpdated, IsRestated, IsAdmitted, IsChange, IsAtVersion, is_accepted, key_of_call, settled, stored, stored_over, from_old, put_at, state_after, under_reply}
use Rattle.cmc_lines.specs.Shown.{shown_object}
use Rattle.cmc_audit_calls.specs.CallsOfLines.{bare_call}

-- ---- each word is the same

key_same : (o : Object) → key_of (shown_object o) ≡ key_of o
key_same (Cert c) = refl
key_same (Request r) = refl
key_same (Secret k) = refl

name_same : (o : Object) → name_of (shown_object o) ≡ name_of o
name_same (Cert c) = refl
name_same (Request r) = refl
name_same (Secret k) = refl

created_same : (v : ℕ) (now : ℤ) (o : Object) → created v now (shown_object o) ≡ created v now o
unfolding created
created_same v now (Cert c) = refl
created_same v now (Request r) = refl
created_same v now (Secret k) = refl

updated_same : (old o : Object) → updated old (shown_object o) ≡ updated old o
unfolding updated
updated_same (Cert old) (Cert c) = refl
updated_same (Cert old) (Request r) = refl
updated_same (Cert old) (Secret k) = refl
updated_same (Request old) (Cert c) = refl
updated_same (Request old) (Request r) = refl
updated_same (Request old) (Secret k) = refl
updated_same (Secret old) (Cert c) = refl
updated_same (Secret old) (Request r) = refl
updated_same (Secret old) (Secret k) = refl

status_same : (old o : Object) → with_status old (shown_object o) ≡ with_status old o
unfolding with_status
status_same (Cert old) (Cert c) = refl
status_same (Cert old) (Request r) = refl
status_same (Cert old) (Secret k) = refl
status_same (Request old) (Cert c) = refl
status_same (Request old) (Request r) = refl
status_same (Request old) (Secret k) = refl
status_same (Secret old) (Cert c) = refl
status_same (Secret old) (Request r) = refl
status_same (Secret old) (Secret k) = refl

taken_same : (m : Objects) (o : Object) → is_taken m (shown_object o) ≡ is_taken m o
taken_same m (Cert c) = refl
taken_same m (Request r) = refl
taken_same m (Secret k) = refl

rule_same : (old : Option Object) (o : Object) (status taken : Bool) → refusing_rule old (shown_object o) status taken ≡ refusing_rule old o status taken
unfolding refusing_rule
rule_same old (Cert c) true taken = refl
rule_same old (Cert c) false taken = refl
rule_same old (Request r) true taken = refl
rule_same None (Request r) false taken = refl
rule_same (Some (Cert old)) (Request r) false taken = refl
rule_same (Some (Request old)) (Request r) false taken = refl
rule_same (Some (Secret old)) (Request r) false taken = refl
rule_same None (Secret k) status taken = refl
rule_same (Some (Cert old)) (Secret k) status taken = refl
rule_same (Some (Request old)) (Secret k) status taken = refl
rule_same (Some (Secret old)) (Secret k) status taken = refl

named_same : (name : List ℕ) (o : Object) → named name (shown_object o) ≡ shown_object (named name o)
unfolding named
named_same name (Cert c) = refl
named_same name (Request r) = refl
named_same name (Secret k) = refl

free_same : (v : ℕ) (m : Objects) (o : Object) → free_named v m (shown_object o) ≡ shown_object (free_named v m o)
unfolding free_named named
free_same v m (Cert c) = refl
free_same v m (Request r) = refl
free_same v m (Secret k) = refl

-- ---- replies

created_at : (n : ℕ) (taken : Bool) (o : Object) (old : Option Object) (r : Reply) → IsCreated n taken o old r → IsCreated n taken (shown_object o) old r
created_at n taken o (Some old) r is = is
created_at n taken o None r is = rw (rule_same None o false taken, name_same o) is

created_right : (n : ℕ) (m : Objects) (o : Object) (r : Reply) → IsCreatedIn n m o r → IsCreatedIn n m (shown_object o) r
created_right n m o r is =
    subst (λ k. IsCreated n (is_taken m (shown_object o)) (shown_object o) (object_at m k) r) (sym (key_same o))
    (subst (λ b. IsCreated n b (shown_object o) (object_at m (key_of o)) r) (sym (taken_same m o)) (created_at n (is_taken m o) o (object_at m (key_of o)) r is))

updated_right : (n : ℕ) (m : Objects) (o : Object) (v : ℕ) (old : Option Object) (r : Reply) → IsUpdated n (is_taken m o) o v old r → IsUpdated n (is_taken m (shown_object o)) (shown_object o) v old r
updated_right n m o v None r is = is
updated_right n m o v (Some old) r is = rw (taken_same m o, rule_same (Some old) o false (is_taken m o), name_same o, updated_same old o) is

restated_right : (n : ℕ) (o : Object) (v : ℕ) (old : Option Object) (r : Reply) → IsRestated n o v old r → IsRestated n (shown_object o) v old r
restated_right n o v None r is = is
restated_right n o v (Some old) r is = rw (rule_same (Some old) o true false, name_same o, status_same old o) is

served : (n : ℕ) (m : Objects) (call : Call) (r : Reply) → IsServed n m call r → IsServed n m (bare_call call) r
served n m (Create o true) r is = subst (λ (x : Object). IsCreatedIn n m x r) (sym (free_same (n + 1) m o)) (created_right n m (free_named (n + 1) m o) r is)
served n m (Create o false) r is = created_right n m o r is
served n m (Update o v) r is = subst (λ k. IsUpdated n (is_taken m (shown_object o)) (shown_object o) v (object_at m k) r) (sym (key_same o)) (updated_right n m o v (object_at m (key_of o)) r is)
served n m (UpdateStatus o v) r is = subst (λ k. IsRestated n (shown_object o) v (object_at m k) r) (sym (key_same o)) (restated_right n o v (object_at m (key_of o)) r is)
served n m (Delete key v) r is = is
served n m (Get key) r is = is

by_faults : (b : Bool) (A B C : Type 0) → (B → C) → MatchBool b A B → MatchBool b A C
by_faults true A B C f is = is
by_faults false A B C f is = f is

-- what is a right reply of a call is one of the call as it is shown
pub replied : (faults : List ℕ) (st : State) (call : Call) (r : Reply) → IsReply faults st call r → IsReply faults st (bare_call call) r
replied faults st call r is =
    by_faults (list_any (λ n. n == st.calls + 1) faults) (r ≡ Unavailable (st.calls + 1)) (IsServed st.accepted st.objects call r) (IsServed st.accepted st.objects (bare_call call) r) (served st.accepted st.objects call r) is

-- ---- what then stands

pub settled_same : (call : Call) (r : Reply) → settled (bare_call call) r ≡ bare_call (settled call r)
unfolding settled
settled_same (Create o true) (Ok version name) = ap (λ x. Create x false) (named_same name o)
settled_same (Create o true) (Unchanged version) = refl
settled_same (Create o true) (Found object) = refl
settled_same (Create o true) (Conflict named have) = refl
settled_same (Create o true) (NotFound at) = refl
settled_same (Create o true) (AlreadyExists have) = refl
settled_same (Create o true) (Invalid rule) = refl
settled_same (Create o true) (Unavailable number) = refl
settled_same (Create o false) r = refl
settled_same (Update o v) r = refl
settled_same (UpdateStatus o v) r = refl
settled_same (Delete key v) r = refl
settled_same (Get key) r = refl

revised_same : (v : ℕ) (old o : Object) → revised v old (shown_object o) ≡ revised v old o
revised_same v old o = ap (λ x. numbered v (generation_after old x) x) (updated_same old o)

restated_same : (v : ℕ) (old o : Object) → restated v old (shown_object o) ≡ restated v old o
restated_same v old o = ap (λ x. numbered v (meta_of old).generation x) (status_same old o)

over_same : (v : ℕ) (now : ℤ) (old : Option Object) (call : Call) → stored_over v now old (bare_call call) ≡ stored_over v now old call
over_same v now old (Create o generate) = ap Some (created_same v now o)
over_same v now None (Update o named) = refl
over_same v now (Some old) (Update o named) = ap Some (revised_same v old o)
over_same v now None (UpdateStatus o named) = refl
over_same v now (Some old) (UpdateStatus o named) = ap Some (restated_same v old o)
over_same v now old (Delete key named) = refl
over_same v now old (Get key) = refl

pub call_key_same : (call : Call) → key_of_call (bare_call call) ≡ key_of_call call
call_key_same (Create o generate) = key_same o
call_key_same (Update o named) = key_same o
call_key_same (UpdateStatus o named) = key_same o
call_key_same (Delete key named) = refl
call_key_same (Get key) = refl

pub stored_same : (v : ℕ) (now : ℤ) (m : Objects) (call : Call) → stored v now m (bare_call call) ≡ stored v now m call
stored_same v now m call = over_same v now (object_at m (key_of_call (bare_call call))) call ∙ ap (λ k. stored_over v now (object_at m k) call) (call_key_same call)

put_same : (v : ℕ) (now : ℤ) (m : Objects) (call : Call) (r : Reply)
    → put_at m (key_of_call (settled (bare_call call) r)) (stored v now m (settled (bare_call call) r)) ≡ put_at m (key_of_call (settled call r)) (stored v now m (settled call r))
put_same v now m call r =
    ap (λ c. put_at m (key_of_call c) (stored v now m c)) (settled_same call r)
    ∙ ap (λ k. put_at m k (stored v now m (bare_call (settled call r)))) (call_key_same (settled call r))
    ∙ ap (λ x. put_at m (key_of_call (settled call r)) x) (stored_same v now m (settled call r))

-- a store comes to the same
pub after_same : (now : ℤ) (st : State) (call : Call) (r : Reply) → state_after now st (bare_call call) r ≡ state_after now st call r
after_same now st call r = ap (λ m. record { objects = if is_accepted r then m else st.objects; accepted = if is_accepted r then st.accepted + 1 else st.accepted; calls = st.calls + 1 })
    (put_same (st.accepted + 1) now st.objects call r)

-- ---- and back

created_back : (n : ℕ) (taken : Bool) (o : Object) (old : Option Object) (r : Reply) → IsCreated n taken (shown_object o) old r → IsCreated n taken o old r
created_back n taken o (Some old) r is = is
created_back n taken o None r is = rw (sym (rule_same None o false taken), sym (name_same o)) is

created_right_back : (n : ℕ) (m : Objects) (o : Object) (r : Reply) → IsCreatedIn n m (shown_object o) r → IsCreatedIn n m o r
created_right_back n m o r is =
    created_back n (is_taken m o) o (object_at m (key_of o)) r
    (subst (λ b. IsCreated n b (shown_object o) (object_at m (key_of o)) r) (taken_same m o)
    (subst (λ k. IsCreated n (is_taken m (shown_object o)) (shown_object o) (object_at m k) r) (key_same o) is))

updated_back : (n : ℕ) (m : Objects) (o : Object) (v : ℕ) (old : Option Object) (r : Reply) → IsUpdated n (is_taken m (shown_object o)) (shown_object o) v old r → IsUpdated n (is_taken m o) o v old r
updated_back n m o v None r is = is
updated_back n m o v (Some old) r is =
    rw (sym (rule_same (Some old) o false (is_taken m o)), sym (name_same o), sym (updated_same old o))
    (subst (λ b. IsUpdated n b (shown_object o) v (Some old) r) (taken_same m o) is)

restated_back : (n : ℕ) (o : Object) (v : ℕ) (old : Option Object) (r : Reply) → IsRestated n (shown_object o) v old r → IsRestated n o v old r
restated_back n o v None r is = is
restated_back n o v (Some old) r is = rw (sym (rule_same (Some old) o true false), sym (name_same o), sym (status_same old o)) is

served_back : (n : ℕ) (m : Objects) (call : Call) (r : Reply) → IsServed n m (bare_call call) r → IsServed n m call r
served_back n m (Create o true) r is = created_right_back n m (free_named (n + 1) m o) r (subst (λ (x : Object). IsCreatedIn n m x r) (free_same (n + 1) m o) is)
served_back n m (Create o false) r is = created_right_back n m o r is
served_back n m (Update o v) r is = updated_back n m o v (object_at m (key_of o)) r (subst (λ k. IsUpdated n (is_taken m (shown_object o)) (shown_object o) v (object_at m k) r) (key_same o) is)
served_back n m (UpdateStatus o v) r is = restated_back n o v (object_at m (key_of o)) r (subst (λ k. IsRestated n (shown_object o) v (object_at m k) r) (key_same o) is)
served_back n m (Delete key v) r is = is
served_back n m (Get key) r is = is

pub replied_back : (faults : List ℕ) (st : State) (call : Call) (r : Reply) → IsReply faults st (bare_call call) r → IsReply faults st call r
replied_back faults st call r is =
    by_faults (list_any (λ n. n == st.calls + 1) faults) (r ≡ Unavailable (st.calls + 1)) (IsServed st.accepted st.objects (bare_call call) r) (IsServed st.accepted st.objects call r) (served_back st.accepted st.objects call r) is
