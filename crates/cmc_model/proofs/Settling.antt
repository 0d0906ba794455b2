-- What a create with a generated name comes to.
use Rattle.std.proofs.Common.{◌≡◌, ℕ, ◌+◌, List, Option, Some, None, Bool, true, false, refl, sym, ap, subst, ◌∙◌}
use Rattle.std.specs.Prelude.{if◌then◌else◌}
use Rattle.cmc_objects.specs.declared.object.Object.{Object}
use Rattle.cmc_objects.specs.declared.object.Object.TheVariants.{Cert, Request, Secret}
use Rattle.cmc_objects.specs.declared.call.Call.{Call}
use Rattle.cmc_objects.specs.declared.call.Call.TheVariants.{Create, Update, UpdateStatus, Delete, Get}
use Rattle.cmc_objects.specs.declared.call.Reply.{Reply}
use Rattle.cmc_objects.specs.declared.call.Reply.TheVariants.{Ok, AlreadyExists, Invalid}
use Rattle.cmc_objects.specs.Objects.{kind_of, key_of, name_of, version_of}
use Rattle.cmc_model.specs.Objects.{Objects, object_at}
use Rattle.cmc_model.specs.Admission.{is_taken, refusing_rule}
use Rattle.cmc_model.specs.Generated.{named, free_named}
use Rattle.cmc_model.specs.Replies.{IsServed, IsCreated, IsCreatedIn, IsAdmitted, is_accepted, key_of_call, under_reply, settled}

pub refused : (reply right : Reply) → is_accepted right ≡ false → is_accepted reply ≡ true → reply ≡ right → ⊥
refused reply right no_write ok is = let e = ap is_accepted is in absurd (cc (e, no_write, ok))

-- an object that was named so has the name, and naming it again so changes nothing
name_of-named : (name : List ℕ) (object : Object) → name_of (named name object) ≡ name
unfolding named
name_of-named name (Cert c) = refl
name_of-named name (Request r) = refl
name_of-named name (Secret k) = refl

pub kind_of-named : (name : List ℕ) (object : Object) → kind_of (named name object) ≡ kind_of object
unfolding named
kind_of-named name (Cert c) = refl
kind_of-named name (Request r) = refl
kind_of-named name (Secret k) = refl

kind_of-under : (object : Object) (reply : Reply) → kind_of (under_reply object reply) ≡ kind_of object
kind_of-under object (Ok version name) = kind_of-named name object
kind_of-under object other = refl

admitted_as : (n : ℕ) (name : List ℕ) (rule : Option ℕ) (reply : Reply) → IsAdmitted rule (reply ≡ Ok n name) reply → is_accepted reply ≡ true → reply ≡ Ok n name
admitted_as n name None reply right ok = right
admitted_as n name (Some rule) reply right ok = absurd (refused reply (Invalid rule) refl ok right)

-- an accepted create has the object's name in its reply
created_name : (n : ℕ) (taken : Bool) (object : Object) (old : Option Object) (reply : Reply) → IsCreated n taken object old reply → is_accepted reply ≡ true → reply ≡ Ok (n + 1) (name_of object)
created_name n taken object None reply right ok = admitted_as (n + 1) (name_of object) (refusing_rule None object false taken) reply right ok
created_name n taken object (Some old) reply right ok = absurd (refused reply (AlreadyExists (version_of old)) refl ok right)

-- the object of an accepted create is the call's under the name in the reply
pub made_as : (n : ℕ) (objects : Objects) (object : Object) (generate : Bool) (reply : Reply) → IsServed n objects (Create object generate) reply → is_accepted reply ≡ true
    → (if generate then under_reply object reply else object) ≡ (if generate then free_named (n + 1) objects object else object)
unfolding free_named
made_as n objects object false reply right ok = refl
made_as n objects object true reply right ok =
    let made = free_named (n + 1) objects object in
    let is = created_name n (is_taken objects made) made (object_at objects (key_of made)) reply right ok in
    ap (under_reply object) is ∙ ap (λ (name : List ℕ). named name object) (name_of-named _ object)

-- the name changes nothing of the kind
pub kind_of-settled : (call : Call) (reply : Reply) → (key_of_call (settled call reply)).kind ≡ (key_of_call call).kind
unfolding settled
kind_of-settled (Create object false) reply = refl
kind_of-settled (Create object true) reply = kind_of-under object reply
kind_of-settled (Update object named) reply = refl
kind_of-settled (UpdateStatus object named) reply = refl
kind_of-settled (Delete key named) reply = refl
kind_of-settled (Get key) reply = refl

-- an accepted call is also right under the name that its reply has
pub settled_served : (n : ℕ) (objects : Objects) (call : Call) (reply : Reply) → IsServed n objects call reply → is_accepted reply ≡ true → IsServed n objects (settled call reply) reply
unfolding settled
settled_served n objects (Create object generate) reply right ok = subst (λ (o : Object). IsCreatedIn n objects o reply) (sym (made_as n objects object generate reply right ok)) right
settled_served n objects (Update object named) reply right ok = right
settled_served n objects (UpdateStatus object named) reply right ok = right
settled_served n objects (Delete key named) reply right ok = right
settled_served n objects (Get key) reply right ok = right
